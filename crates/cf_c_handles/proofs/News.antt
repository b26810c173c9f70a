-- What is told of a stage that a ledger doesn't have.
use Rattle.std.proofs.Common.{◌≡◌, ℕ, ◌≤◌, None, length, refl, arith}
use Rattle.std.proofs.lemmas.Option.{slice_get_past}
use Rattle.cf_model.specs.declared.stage.Stage.TheVariants.{Pending}
use Rattle.cf_model.specs.States.{State}
use Rattle.cf_c_handles.specs.Ledgers.{as_stage, stage_now}

-- a stage that isn't there is pending, and nobody's
pub none_there : (s : State) (i n : ℕ) → length s.stages ≡ n → length s.claims ≡ n → n ≤ i → as_stage Pending None ≡ stage_now s i
none_there s i n stages claims past =
    rw (slice_get_past s.stages i (omega arith), slice_get_past s.claims i (omega arith)) refl
