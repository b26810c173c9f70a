use Rattle.std.proofs.Common.{◌∙◌, ap, sym}
use Rattle.cf_model.specs.States.{outcome_at, outcome_in}
use Rattle.cf_model.specs.Graphs.{Graph}
use Rattle.cf_core.proofs.Keeping.GraphLemmas.{told_outcome}
use Rattle.cf_core.proofs.Keeping.Settled.{told_settled}
use Rattle.cf_core.proofs.graph.Graph.outcome.Goals as goal

pub returns-in-Some-clause-told : goal.returns-in-Some-clause-told
returns-in-Some-clause-told c =
    sym (told_settled c.self.inside.plan.stages c.self.inside.stages c.args.i c.in-Some.o (sym c.outcome.ensures ∙ c.in-Some.is))
    ∙ ap (λ (g : Graph). outcome_at g.state c.args.i) c.self.view_is

pub returns-clause-told : goal.returns-clause-told
returns-clause-told c =
    let plan = c.self.inside.plan.stages in
    c.outcome-2.ensures
    ∙ sym (told_outcome plan c.treat_up_to.new.self c.args.i c.treat_up_to.ensures.sound (rw (← c.self.view_is) at c.requires) c.treat_up_to.ensures.treated)
    ∙ ap (λ seen. outcome_in seen c.args.i) c.treat_up_to.ensures.same
    ∙ ap (λ (g : Graph). outcome_at g.state c.args.i) c.self.view_is
