use Rattle.std.proofs.Common.{length, ap, ◌∙◌}
use Rattle.cf_model.specs.States.{State}
use Rattle.cf_desk.specs.Views.{Pass, state_of}
use Rattle.cf_desk.proofs.pass.Pass.stages.Goals as goal

pub returns-clause-count : goal.returns-clause-count
returns-clause-count c =
    c.stages.ensures.count ∙ ap (λ (s : State). length s.plan.stages) c.self.invariant.agrees.state ∙ ap (λ (h : Pass). length (state_of h.known).plan.stages) c.self.view_is
