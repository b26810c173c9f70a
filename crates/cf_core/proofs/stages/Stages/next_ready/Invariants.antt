use Rattle.cf_model.specs.Graphs.{NoneReady}
use Rattle.cf_core.specs.Keeping.Treatment.{stages_of}
use Rattle.cf_core.proofs.stages.Stages.next_ready.Given as goal

-- none so far was ready
abbrev pub invariant-loop-i : goal.invariant-loop-i
invariant-loop-i l = NoneReady l.from l.i (stages_of l.self.kept.items)
