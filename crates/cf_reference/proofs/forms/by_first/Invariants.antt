use Rattle.std.proofs.Common.{◌≡◌, drop}
use Rattle.cf_forms.specs.Forms.{first_there}
use Rattle.cf_reference.proofs.forms.by_first.Given as goal

-- what is left decides
abbrev pub invariant-loop-o : goal.invariant-loop-o
invariant-loop-o l = first_there (drop l.o-index l.outcomes) ≡ first_there l.outcomes
