use Rattle.std.proofs.Common.{◌≡◌, drop}
use Rattle.cf_pool.specs.Runs.{is_any_alone}
use Rattle.cf_pool.proofs.pool.is_any_alone.Given as goal

-- what is left decides
abbrev pub invariant-loop-w : goal.invariant-loop-w
invariant-loop-w g l = is_any_alone (drop l.w-index l.worked) ≡ is_any_alone l.worked
