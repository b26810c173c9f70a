use Rattle.std.proofs.Common.{◌∙◌, sym}
use Rattle.cf_core.specs.Keeping.SoundStages.{settled_view_of}
use Rattle.cf_core.proofs.Keeping.Lowest.{length-settled_view}
use Rattle.cf_core.proofs.Keeping.Sweeping.{swept_runs}
use Rattle.cf_core.proofs.graph.Graph.sweep.Goals as goal

pub returns-clause-called : goal.returns-clause-called
returns-clause-called g c =
    let plan = c.self.inside.plan.stages in
    let h = c.self.invariant in
    let sound = h.sound in
    rw (← c.self.view_is) (swept_runs g.F.Functions.calls c.args.who _ c.args.functions.now c.sweep.new.functions c.sweep.result (settled_view_of plan c.sweep.new.stages) c.sweep.new.claims.items
    (length-settled_view plan c.self.inside.stages.kept.items ∙ sound.all_kept ∙ sym h.all_claims) c.sweep.ensures.served)
