use Rattle.std.proofs.Common.{◌≡◌, drop, is_some}
use Rattle.std.specs.List.{list_all}
use Rattle.cf_reference.proofs.forms.all_there.Given as goal

-- what is left decides
abbrev pub invariant-loop-o : goal.invariant-loop-o
invariant-loop-o l = list_all is_some (drop l.o-index l.outcomes) ≡ list_all is_some l.outcomes
