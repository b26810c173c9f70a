-- Whether an attached stage takes something at once, and what that costs.
use Rattle.std.proofs.Common.{◌≡◌, ℕ, ◌+◌, ◌≤◌, ◌∷◌, [], List, Bool, true, false, cond, Option, Some, None, is_some, length, arith, ap, ◌∙◌, refl, map}
use Rattle.std.specs.Prelude.{slice_get, option_and_then, ◌||◌, unwrap_or}
use Rattle.std.specs.List.{list_any}
use Rattle.cf_outcome.specs.declared.outcome.Outcome.{Outcome}
use Rattle.cf_forms.specs.declared.forms.Due.{Due}
use Rattle.cf_forms.specs.declared.forms.Due.TheVariants.{Waits}
use Rattle.cf_forms.specs.Forms.{starts}
use Rattle.cf_forms.specs.Plans.{PlannedStage}
use Rattle.cf_model.specs.declared.stage.Stage.{Stage}
use Rattle.cf_model.specs.declared.stage.Stage.TheVariants.{Pending, Ready, Claimed, Linked, Settled}
use Rattle.cf_core.specs.declared.kept.KeptStage.{KeptStage}
use Rattle.cf_core.specs.Keeping.Attaching.{attached_kept, open_count, open_one, takes_now}
use Rattle.cf_core.specs.Keeping.Treatment.{dated_in, dated_of, due_kept, late_due, outcome_part}
use Rattle.cf_core.specs.Keeping.Sound.{link_marks}
use Rattle.cf_core.specs.Keeping.Starts.{untreated}
use Rattle.cf_core.proofs.Keeping.Attaching.{waits_now}
use Rattle.cf_core.proofs.Keeping.StartSound.{one_each, unstarted_waits}

-- ---- what it costs

-- a source is settled or open
by_stage : (stage : Stage) (step : ℕ) → cond (is_some (outcome_part (dated_of (record { stage = stage; step = step })))) 1 0 + open_one stage ≡ 1
by_stage Pending step = refl
by_stage (Ready args) step = refl
by_stage Claimed step = refl
by_stage (Linked j) step = refl
by_stage (Settled o) step = refl

by_place : (x : Option KeptStage) → cond (is_some (outcome_part (option_and_then dated_of x))) 1 0 + open_one ((unwrap_or x untreated).stage) ≡ 1
by_place None = refl
by_place (Some k) = by_stage k.stage k.step

either : (a b : Bool) → cond (a || b) 1 0 ≤ cond a 1 0 + cond b 1 0
either true b = omega arith
either false b = omega arith

-- if one of the sources is settled, not all of them are open
open_few : (kept : List KeptStage) (sources : List ℕ) → cond (list_any is_some (map outcome_part (map (dated_in kept) sources))) 1 0 + open_count kept sources ≤ length sources
open_few kept [] = omega arith
open_few kept (j ∷ sources) =
    let here = by_place (slice_get kept j) in
    let rest = open_few kept sources in
    let both = either (is_some (outcome_part (dated_in kept j))) (list_any is_some (map outcome_part (map (dated_in kept) sources))) in
    omega (arith, here, rest, both)

-- one turn at most, with the marks that can still come of the stage: no more than its edges and itself
pub budget : (kept : List KeptStage) (p : PlannedStage) → cond (takes_now kept p.form p.sources) 1 0 + open_count kept p.sources + link_marks p.form ≤ length p.sources + 1
budget kept p =
    let first = one_each p.form p.sources in
    let few = open_few kept p.sources in
    let both = either (starts p.form p.sources) (list_any is_some (map outcome_part (map (dated_in kept) p.sources))) in
    omega (arith, first, few, both)

-- ---- a stage that takes nothing

neither : (a b : Bool) → (a || b) ≡ false → (a ≡ false) × (b ≡ false)
neither false b e = (refl, e)
neither true b e = cc

no_part : (x : Option (Outcome × ℕ)) → is_some (outcome_part x) ≡ false → x ≡ None
no_part None e = refl
no_part (Some x) e = cc

none_dated : (kept : List KeptStage) (sources : List ℕ) → list_any is_some (map outcome_part (map (dated_in kept) sources)) ≡ false → map (dated_in kept) sources ≡ map (λ (j : ℕ). None) sources
none_dated kept [] e = refl
none_dated kept (j ∷ sources) e =
    let parts = neither (is_some (outcome_part (dated_in kept j))) (list_any is_some (map outcome_part (map (dated_in kept) sources))) e in
    let here = no_part (dated_in kept j) parts.0 in
    let rest = none_dated kept sources parts.1 in cc

pub rests : (kept : List KeptStage) (p : PlannedStage) (step : ℕ) → takes_now kept p.form p.sources ≡ false → attached_kept kept p.form p.sources step ≡ untreated
rests kept p step e =
    let parts = neither (starts p.form p.sources) (list_any is_some (map outcome_part (map (dated_in kept) p.sources))) e in
    let late : (late_due p.form (map (dated_in kept) p.sources)).0 ≡ Waits = ap (λ q. (late_due p.form q).0) (none_dated kept p.sources parts.1) ∙ unstarted_waits p.form p.sources parts.0 in
    ap (λ (due : Due). due_kept due step 0) (waits_now p.form (map (dated_in kept) p.sources) late)
