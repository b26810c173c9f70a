use Rattle.std.proofs.Common.{◌≡◌, drop}
use Rattle.cf_explain.specs.Sights.{is_any_called}
use Rattle.cf_explain.proofs.idle.is_any_called.Given as goal

-- what is left decides
abbrev pub invariant-stages : goal.invariant-stages
invariant-stages l = is_any_called (drop l.known-index l.stages) ≡ is_any_called l.stages
