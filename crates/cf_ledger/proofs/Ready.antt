-- What the state of a stage says of its outcome, and which ready stage is the lowest.
use Rattle.std.proofs.Common.{◌≡◌, ℕ, ◌<◌, List, Option, Some, None, IfSome, IfNone, true, false, length, arith, refl, sym, subst}
use Rattle.std.specs.Prelude.{position, slice_get, unwrap_or}
use Rattle.std.specs.Option.{option_and_then}
use Rattle.std.proofs.lemmas.Option.{unwrap_or-slice_get}
use Rattle.cf_bits.proofs.Positions.{position_is, position_is_none}
use Rattle.cf_model.specs.declared.stage.Stage.{Stage}
use Rattle.cf_model.specs.declared.stage.Stage.TheVariants.{Pending}
use Rattle.cf_model.specs.Graphs.{NoneReady, stage_in}
use Rattle.cf_model.specs.States.{is_ready, outcome_in, outcome_of}

outcome_with : (x : Option Stage) → option_and_then outcome_of x ≡ outcome_of (unwrap_or x Pending)
outcome_with None = refl
outcome_with (Some stage) = refl

pub outcome_is : (stages : List Stage) (i : ℕ) → outcome_in stages i ≡ outcome_of (stage_in stages i)
outcome_is stages i = outcome_with (slice_get stages i)

pub lowest_is : (stages : List Stage) (n : ℕ) (r : Option ℕ) → length stages ≡ n → IfSome r (λ i. is_ready (stage_in stages i) ≡ true) → IfSome r (λ i. i < n) → IfSome r (λ i. NoneReady 0 i stages) → IfNone r (NoneReady 0 n stages) →
    r ≡ position is_ready stages
lowest_is stages n None all ready there first none =
    sym (position_is_none is_ready stages Pending (λ j l. subst (λ x. is_ready x ≡ false) (unwrap_or-slice_get stages j Pending) (none j (omega arith) (omega (arith, l, all)))))
lowest_is stages n (Some i) all ready there first none =
    sym (position_is is_ready stages i Pending (omega (arith, there, all)) (λ j l. subst (λ x. is_ready x ≡ false) (unwrap_or-slice_get stages j Pending) (first j (omega arith) l))
    (subst (λ x. is_ready x ≡ true) (unwrap_or-slice_get stages i Pending) ready))
