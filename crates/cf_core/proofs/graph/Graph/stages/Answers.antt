use Rattle.std.proofs.Common.{◌≡◌, ◌∙◌, None, length, subst}
use Rattle.cf_model.specs.Graphs.{Graph}
use Rattle.cf_core.proofs.Keeping.Changes.{kept_all}
use Rattle.cf_core.proofs.Keeping.Lowest.{length-settled_view}
use Rattle.cf_core.proofs.graph.Graph.stages.Goals as goal

pub returns-clause-all_stages : goal.returns-clause-all_stages
returns-clause-all_stages c =
    let HasAll : Graph → Type 0 = λ g. length g.state.stages ≡ length g.state.plan.stages in
    subst HasAll c.self.view_is (length-settled_view c.self.inside.plan.stages c.self.inside.stages.kept.items ∙ c.self.invariant.sound.all_kept)

pub returns-clause-worked_out : goal.returns-clause-worked_out
returns-clause-worked_out c =
    let IsWorkedOut : Graph → Type 0 = λ g. g.left ≡ None → g.kept ≡ g.state.stages in
    subst IsWorkedOut c.self.view_is (λ none. kept_all c.self.inside.plan.stages c.self.inside.stages c.self.invariant.sound none)
