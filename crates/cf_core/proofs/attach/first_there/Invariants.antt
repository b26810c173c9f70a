use Rattle.std.proofs.Common.{◌≡◌, drop, map}
use Rattle.cf_forms.specs.Forms.{first_there}
use Rattle.cf_core.specs.Keeping.Treatment.{dated_in, outcome_part}
use Rattle.cf_core.proofs.attach.first_there.Given as goal

-- what is left decides
abbrev pub invariant-loop-j : goal.invariant-loop-j
invariant-loop-j l = first_there (map outcome_part (map (dated_in l.kept.items) (drop l.j-index l.sources))) ≡ first_there (map outcome_part (map (dated_in l.kept.items) l.sources))
