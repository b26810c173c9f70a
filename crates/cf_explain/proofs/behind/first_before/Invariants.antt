use Rattle.std.proofs.Common.{◌≡◌, drop}
use Rattle.cf_explain.specs.Limits.{first_from}
use Rattle.cf_explain.proofs.behind.first_before.Given as goal

-- the first of those that are left is the first of all
abbrev pub invariant-others : goal.invariant-others
invariant-others l = first_from l.j (drop l.j l.firings) l.k l.limit ≡ first_from 0 l.firings l.k l.limit
