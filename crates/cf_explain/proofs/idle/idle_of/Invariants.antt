use Rattle.std.proofs.Common.{◌≡◌, ◌++◌, drop}
use Rattle.cf_explain.specs.Sights.{idles_from, sight_of}
use Rattle.cf_explain.proofs.idle.idle_of.Given as goal

-- what is remarked, and what is left to be, are all
abbrev pub invariant-steps : goal.invariant-steps
invariant-steps l = l.remarks.items ++ idles_from l.limits (sight_of l.seen) l.k (drop l.k l.steps) ≡ idles_from l.limits (sight_of l.fn.seen) 0 l.steps
