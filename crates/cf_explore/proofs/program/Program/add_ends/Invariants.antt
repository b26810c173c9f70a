use Rattle.std.proofs.Common.{take}
use Rattle.cf_explore.specs.Found.{AreMoreEnds}
use Rattle.cf_explore.proofs.program.Program.add_ends.Given as goal

-- the ends so far
abbrev pub invariant-loop-entry : goal.invariant-loop-entry
invariant-loop-entry l = AreMoreEnds l.self l.moves (take l.entry-index l.entries) l.initial.ends.items l.ends.items
