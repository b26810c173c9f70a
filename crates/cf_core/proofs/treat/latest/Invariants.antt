use Rattle.std.proofs.Common.{◌≡◌, drop, map, max}
use Rattle.cf_core.specs.Keeping.Treatment.{dated_in, latest}
use Rattle.cf_core.proofs.treat.latest.Given as goal

-- the greatest so far, and the greatest of what is left
abbrev pub invariant-loop-j : goal.invariant-loop-j
invariant-loop-j l = max l.last (latest (map (dated_in l.kept.items) (drop l.j-index l.sources))) ≡ latest (map (dated_in l.kept.items) l.sources)
