use Rattle.std.proofs.Common.{◌≡◌, drop}
use Rattle.cf_explain.specs.Sights.{fired_to, sight_of}
use Rattle.cf_explain.proofs.idle.RunSoFar.fire.Given as goal

-- what the limits that are left settle, all settle
abbrev pub invariant-limits : goal.invariant-limits
invariant-limits l = fired_to l.now l.k (drop l.limit-index l.limits) (sight_of l.self) ≡ fired_to l.now l.k l.limits (sight_of l.initial.self)
