use Rattle.std.proofs.Common.{◌≡◌, drop}
use Rattle.cf_part.specs.Parts.{is_waited}
use Rattle.cf_part.proofs.finding.is_waited.Given as goal

-- whoever waits stands behind those so far
abbrev pub invariant-loop-from : goal.invariant-loop-from
invariant-loop-from l = is_waited l.wanted ≡ is_waited (drop l.from-index l.wanted)
