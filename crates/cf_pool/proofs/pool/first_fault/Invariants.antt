use Rattle.std.proofs.Common.{map, take}
use Rattle.cf_pool.specs.Runs.{IsFirst, stop_of}
use Rattle.cf_pool.proofs.pool.first_fault.Given as goal

abbrev pub invariant-loop-w : goal.invariant-loop-w
invariant-loop-w g l = IsFirst (map stop_of (take l.w-index l.worked)) l.first
