use Rattle.std.proofs.Common.{◌≡◌, ◌∙◌, ap, length, subst}
use Rattle.cf_model.specs.Graphs.{Graph}
use Rattle.cf_model.specs.States.{lowest_ready_of}
use Rattle.cf_core.proofs.Keeping.Changes.{all_in_view, lowest_there}
use Rattle.cf_core.proofs.graph.Graph.lowest_ready.Goals as goal

pub returns-clause-there : goal.returns-clause-there
returns-clause-there c =
    let all : length c.args.self.now.state.stages ≡ length c.args.self.now.state.plan.stages = subst (λ (g : Graph). length g.state.stages ≡ length g.state.plan.stages) c.self.view_is (all_in_view c.self.inside.plan.stages c.self.inside.stages c.self.invariant.sound) in
    lowest_there c.args.self.now.state c.lowest_ready.result (c.lowest_ready.ensures.told ∙ ap (λ (g : Graph). lowest_ready_of g.state) c.self.view_is) all
