use Rattle.std.proofs.Common.{◌≡◌, ◌++◌}
use Rattle.cf_explore.specs.Moves.{worker_moves}
use Rattle.cf_explore.proofs.program.Program.add_workers.Given as goal

-- the moves of the workers so far
abbrev pub invariant-loop-w : goal.invariant-loop-w
invariant-loop-w l = l.made.items ≡ l.initial.made.items ++ worker_moves l.s l.w
