use Rattle.cf_explore.specs.Found.{AreUpdates}
use Rattle.cf_explore.proofs.program.Program.decide.Given as goal

-- the conditions so far
abbrev pub invariant-loop-i : goal.invariant-loop-i
invariant-loop-i l = AreUpdates l.self l.entries l.moves l.conditions l.initial.decisions l.decisions l.i
