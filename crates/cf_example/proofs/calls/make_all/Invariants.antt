use Rattle.std.proofs.Common.{take}
use Rattle.cf_example.specs.Calls.{MakesAll}
use Rattle.cf_example.proofs.calls.make_all.Given as goal

-- those so far were made
abbrev pub invariant-loop-place : goal.invariant-loop-place
invariant-loop-place l = MakesAll (take l.place l.calls) l.initial.machine l.machine
