use Rattle.std.proofs.Common.{◌≡◌, drop}
use Rattle.cf_forms.specs.Forms.{first_fault}
use Rattle.cf_reference.proofs.forms.lowest_fault.Given as goal

-- what is left decides
abbrev pub invariant-loop-o : goal.invariant-loop-o
invariant-loop-o l = first_fault (drop l.o-index l.outcomes) ≡ first_fault l.outcomes
