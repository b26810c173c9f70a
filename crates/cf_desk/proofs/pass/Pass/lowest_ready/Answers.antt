use Rattle.std.proofs.Common.{◌<◌, length, ap, ◌∙◌, subst}
use Rattle.std.specs.Prelude.{IfSome}
use Rattle.cf_model.specs.States.{lowest_ready_of}
use Rattle.cf_desk.specs.Views.{Pass, known_of, state_of}
use Rattle.cf_desk.proofs.Passes.{ready_there}
use Rattle.cf_desk.proofs.pass.Pass.lowest_ready.Goals as goal

pub returns-clause-there : goal.returns-clause-there
returns-clause-there c =
    let a = c.self.invariant.agrees in
    let is = c.lowest_ready.ensures.told ∙ ap lowest_ready_of a.state in
    subst (λ (p : Pass). IfSome c.lowest_ready.result (λ i. i < length (state_of p.known).plan.stages)) c.self.view_is (ready_there (known_of c.self.inside.seat.me.0) _ is)
