use Rattle.std.proofs.Common.{◌<◌, length, sym, ap, ◌∙◌, subst}
use Rattle.cf_model.specs.States.{State}
use Rattle.cf_desk.specs.Views.{Pass, state_of}
use Rattle.cf_desk.proofs.pass.Pass.outcome.Goals as goal

pub outcome-requires : goal.outcome-requires
outcome-requires c =
    let same = ap (λ (s : State). length s.plan.stages) c.self.invariant.agrees.state ∙ ap (λ (h : Pass). length (state_of h.known).plan.stages) c.self.view_is in
    subst (λ n. c.args.stage < n) (sym same) c.requires
