use Rattle.std.proofs.Common.{◌≡◌, drop, map}
use Rattle.cf_core.specs.Keeping.Treatment.{dated_in, earlier, earliest}
use Rattle.cf_core.proofs.treat.earliest.Given as goal

-- the first so far, and the first of what is left
abbrev pub invariant-loop-j : goal.invariant-loop-j
invariant-loop-j l = earlier l.first (earliest (map (dated_in l.kept.items) (drop l.j-index l.sources))) ≡ earliest (map (dated_in l.kept.items) l.sources)
