-- Which stages may still be claimed.
use Rattle.std.specs.Prelude.{ℕ, Bool, true, false, count_by}
use Rattle.cf_model.specs.declared.stage.Stage.{Stage}
use Rattle.cf_model.specs.declared.stage.Stage.TheVariants.{Pending, Ready}
use Rattle.cf_model.specs.States.{State}

-- whether a stage may be claimed, now or later
abbrev pub is_claimable : Stage → Bool
is_claimable Pending = true
is_claimable (Ready args) = true
is_claimable stage = false

-- how many stages may be claimed, now or later
abbrev pub claimable_count : State → ℕ
claimable_count s = count_by is_claimable s.stages
