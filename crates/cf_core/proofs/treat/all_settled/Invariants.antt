use Rattle.std.proofs.Common.{◌≡◌, drop, map, is_some}
use Rattle.std.specs.List.{list_all}
use Rattle.cf_core.specs.Keeping.Treatment.{dated_in, outcome_part}
use Rattle.cf_core.proofs.treat.all_settled.Given as goal

-- what is left decides
abbrev pub invariant-loop-j : goal.invariant-loop-j
invariant-loop-j l = list_all is_some (map outcome_part (map (dated_in l.kept.items) (drop l.j-index l.sources))) ≡ list_all is_some (map outcome_part (map (dated_in l.kept.items) l.sources))
