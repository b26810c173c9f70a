use Rattle.std.proofs.Common.{◌≡◌, ◌++◌, drop}
use Rattle.cf_explain.specs.Limits.{behinds_from}
use Rattle.cf_explain.proofs.behind.remark_all.Given as goal

-- what is remarked, and what is left to be, are all
abbrev pub invariant-limits : goal.invariant-limits
invariant-limits l = l.remarks.items ++ behinds_from l.firings l.k (drop l.k l.firings) ≡ l.initial.remarks.items ++ behinds_from l.firings 0 l.firings
