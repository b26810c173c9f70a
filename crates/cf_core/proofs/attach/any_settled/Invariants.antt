use Rattle.std.proofs.Common.{◌≡◌, drop, map, is_some}
use Rattle.std.specs.List.{list_any}
use Rattle.cf_core.specs.Keeping.Treatment.{dated_in, outcome_part}
use Rattle.cf_core.proofs.attach.any_settled.Given as goal

-- what is left decides
abbrev pub invariant-loop-j : goal.invariant-loop-j
invariant-loop-j l = list_any is_some (map outcome_part (map (dated_in l.kept.items) (drop l.j-index l.sources))) ≡ list_any is_some (map outcome_part (map (dated_in l.kept.items) l.sources))
