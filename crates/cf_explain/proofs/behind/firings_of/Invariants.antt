use Rattle.std.proofs.Common.{◌≡◌, ◌++◌, drop}
use Rattle.serde_json.specs.View.{items_view}
use Rattle.cf_explain.specs.Limits.{firings_of}
use Rattle.cf_explain.proofs.behind.firings_of.Given as goal

abbrev pub invariant-limits : goal.invariant-limits
invariant-limits l = l.firings.items ++ firings_of (items_view (drop l.limit-index l.limits)) ≡ firings_of (items_view l.limits)
