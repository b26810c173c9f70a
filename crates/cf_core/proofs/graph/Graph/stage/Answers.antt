use Rattle.std.proofs.Common.{◌∙◌, ap, sym}
use Rattle.std.specs.Prelude.{unwrap_or}
use Rattle.cf_model.specs.declared.stage.Stage.TheVariants.{Pending}
use Rattle.cf_model.specs.Graphs.{Graph, stage_in}
use Rattle.cf_core.proofs.Keeping.GraphLemmas.{told_stage}
use Rattle.cf_core.proofs.graph.Graph.stage.Goals as goal

pub returns-clause-told : goal.returns-clause-told
returns-clause-told c =
    let plan = c.self.inside.plan.stages in
    c.stage.ensures
    ∙ sym (ap (λ x. unwrap_or x Pending) (told_stage plan c.treat_up_to.new.self c.args.i c.treat_up_to.ensures.sound (rw (← c.self.view_is) at c.requires) c.treat_up_to.ensures.treated))
    ∙ ap (λ seen. stage_in seen c.args.i) c.treat_up_to.ensures.same
    ∙ ap (λ (g : Graph). stage_in g.state.stages c.args.i) c.self.view_is
