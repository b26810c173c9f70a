-- Settling late leads to what settling at once does.
use Rattle.std.proofs.Common.{◌≡◌, ℕ, ◌+◌, ◌≤◌, ◌∷◌, ◌++◌, [], List, Option, Some, None, suc, zero, arith, ap, sym, ◌∙◌, subst, refl, set, map, inl, inr, ◌≢◌}
use Rattle.cf_forms.specs.declared.forms.Due.{Due}
use Rattle.cf_forms.specs.declared.forms.Due.TheVariants.{Waits, Settles, Needs}
use Rattle.cf_forms.specs.Forms.{follows}
use Rattle.cf_core.proofs.Keeping.Dues.{Grows, ListGrows, Stays, Moves, due_grows}
use Rattle.std.proofs.lemmas.List.{map-append, map-set}
use Rattle.std.specs.Option.{option_map}
use Rattle.cf_outcome.specs.declared.outcome.Outcome.{Outcome}
use Rattle.cf_forms.specs.Plans.{PlannedStage}
use Rattle.cf_model.specs.declared.stage.Stage.{Stage}
use Rattle.cf_model.specs.declared.stage.Stage.TheVariants.{Pending, Ready, Claimed, Linked, Settled}
use Rattle.cf_model.specs.States.{outcome_of, outcome_in, due_state, next_of, new_states}
use Rattle.cf_core.specs.declared.kept.KeptStage.{KeptStage}
use Rattle.cf_core.specs.Keeping.Treatment.{SettlingIsAfter, StepsUpTo, stages_of, all_treated, treated, treated_by, due_kept, late_due, dated_in, dated_of, linked_kept, outcome_part}

-- so it is stage by stage
abbrev Grown : ℕ → List KeptStage → List KeptStage → Type 0
Grown step [] [] = Unit {0}
Grown step (a ∷ old) (b ∷ new) = Grows step (dated_of a) (dated_of b) × Grown step old new
Grown step [] (b ∷ new) = ⊥
Grown step (a ∷ old) [] = ⊥

Grown-push : (step : ℕ) (old new : List KeptStage) (a b : KeptStage) → Grown step old new → Grows step (dated_of a) (dated_of b) → Grown step (old ++ a ∷ []) (new ++ b ∷ [])
Grown-push step [] [] a b g h = (h, tt)
Grown-push step (x ∷ old) (y ∷ new) a b g h = (g.0, Grown-push step old new a b g.1 h)
Grown-push step [] (y ∷ new) a b g h = absurd g
Grown-push step (x ∷ old) [] a b g h = absurd g

Grown-at : (step : ℕ) (old new : List KeptStage) (j : ℕ) → Grown step old new → Grows step (dated_in old j) (dated_in new j)
Grown-at step [] [] j g = tt
Grown-at step (x ∷ old) (y ∷ new) zero g = g.0
Grown-at step (x ∷ old) (y ∷ new) (suc j) g = Grown-at step old new j g.1
Grown-at step [] (y ∷ new) j g = absurd g
Grown-at step (x ∷ old) [] j g = absurd g

-- outcomes without their steps
part : (x : Option Outcome) (step : ℕ) → x ≡ outcome_part (option_map (λ o. (o, step)) x)
part None step = refl
part (Some o) step = refl

pub outcome_in-stages_of : (new : List KeptStage) (j : ℕ) → outcome_in (stages_of new) j ≡ outcome_part (dated_in new j)
outcome_in-stages_of [] j = refl
outcome_in-stages_of (k ∷ new) zero = part (outcome_of k.stage) k.step
outcome_in-stages_of (k ∷ new) (suc j) = outcome_in-stages_of new j

-- one stage
record OneGrows (step : ℕ) (old new : List KeptStage) (p : PlannedStage) (stage : Stage) (at : ℕ) : Type 0 where
  same : (treated_by new p stage at).stage ≡ next_of (stages_of new) p.form p.sources ((treated_by old p stage at).stage)
  grows : Grows step (dated_of (treated_by old p stage at)) (dated_of (treated_by new p stage at))

linked_same : (step j at : ℕ) (new : List KeptStage) (p : PlannedStage) (x y : Option (Outcome × ℕ)) → dated_in new j ≡ y → Grows step x y →
    (linked_kept j at y).stage ≡ next_of (stages_of new) p.form p.sources ((linked_kept j at x).stage)
linked_same step j at new p (Some x) y e g = rw (g.0) refl
linked_same step j at new p None None e g = rw (outcome_in-stages_of new j, e) refl
linked_same step j at new p None (Some y) e g = rw (outcome_in-stages_of new j, e) refl

linked_grows : (step j at : ℕ) (x y : Option (Outcome × ℕ)) → at ≤ step → Grows step x y → Grows step (dated_of (linked_kept j at x)) (dated_of (linked_kept j at y))
linked_grows step j at (Some x) y few g = rw (g.0) (refl, omega (arith, g.1))
linked_grows step j at None None few g = tt
linked_grows step j at None (Some y) few g = omega (arith, g)

sources_grown : (step : ℕ) (old new : List KeptStage) (sources : List ℕ) → Grown step old new → ListGrows step (map (dated_in old) sources) (map (dated_in new) sources)
sources_grown step old new [] g = tt
sources_grown step old new (j ∷ sources) g = (Grown-at step old new j g, sources_grown step old new sources g)

pub sources_part : (new : List KeptStage) (sources : List ℕ) → map (outcome_in (stages_of new)) sources ≡ map outcome_part (map (dated_in new) sources)
sources_part new [] = refl
sources_part new (j ∷ sources) =
    let here = outcome_in-stages_of new j in
    let rest = sources_part new sources in cc

stays_same : (below : List Stage) (p : PlannedStage) (due : Due) (s t at : ℕ) → due ≢ Waits → (due_kept due t at).stage ≡ next_of below p.form p.sources ((due_kept due s at).stage)
stays_same below p Waits s t at ne = absurd (ne refl)
stays_same below p (Settles o) s t at ne = refl
stays_same below p (Needs args) s t at ne = refl

stays_grows : (step : ℕ) (due : Due) (s t at : ℕ) → due ≢ Waits → ((o : Outcome) → due ≡ Settles o → (t ≡ s) × (s ≤ step)) → Grows step (dated_of (due_kept due s at)) (dated_of (due_kept due t at))
stays_grows step Waits s t at ne h = absurd (ne refl)
stays_grows step (Settles o) s t at ne h = let k = h o refl in (ap (λ x. Some (o, x)) (k.0), k.1)
stays_grows step (Needs args) s t at ne h = tt

moves_same : (due : Due) (t at : ℕ) → (due_kept due t at).stage ≡ due_state due
moves_same Waits t at = refl
moves_same (Settles o) t at = refl
moves_same (Needs args) t at = refl

moves_grows : (step : ℕ) (due : Due) (t at : ℕ) → ((o : Outcome) → due ≡ Settles o → t ≡ step + 1) → Grows step None (dated_of (due_kept due t at))
moves_grows step Waits t at h = tt
moves_grows step (Settles o) t at h = h o refl
moves_grows step (Needs args) t at h = tt

stays_one : (step : ℕ) (old new : List KeptStage) (p : PlannedStage) (at : ℕ) (d e : Due × ℕ) → late_due p.form (map (dated_in old) p.sources) ≡ d → late_due p.form (map (dated_in new) p.sources) ≡ e → Stays step d e → OneGrows step old new p Pending at
stays_one step old new p at d e x y h =
    let P : Due → Type 0 = λ due. (due_kept due e.1 at).stage ≡ next_of (stages_of new) p.form p.sources ((due_kept d.0 d.1 at).stage) in
    let Q : Due → Type 0 = λ due. Grows step (dated_of (due_kept d.0 d.1 at)) (dated_of (due_kept due e.1 at)) in
    record {
      same = rw (x, y) (subst P (sym h.same) (stays_same (stages_of new) p d.0 d.1 e.1 at h.decided));
      grows = rw (x, y) (subst Q (sym h.same) (stays_grows step d.0 d.1 e.1 at h.decided h.step_same));
    }

moves_one : (step : ℕ) (old new : List KeptStage) (p : PlannedStage) (at : ℕ) (d e : Due × ℕ) → late_due p.form (map (dated_in old) p.sources) ≡ d → late_due p.form (map (dated_in new) p.sources) ≡ e →
    Moves step d e (follows p.form (map outcome_part (map (dated_in new) p.sources))) → OneGrows step old new p Pending at
moves_one step old new p at d e x y h =
    let w = h.waited in
    record {
      same = rw (x, y, w, sources_part new p.sources, ← h.is_now) (moves_same e.0 e.1 at);
      grows = rw (x, y, w) (moves_grows step e.0 e.1 at h.step_next);
    }

pending_grows : (step at : ℕ) (old new : List KeptStage) (p : PlannedStage) → Grown step old new → at ≤ step → OneGrows step old new p Pending at
pending_grows step at old new p g few =
    let q = map (dated_in old) p.sources in
    let r = map (dated_in new) p.sources in
    elim (due_grows step p.form q r (sources_grown step old new p.sources g)) [
      | inl h ↦ stays_one step old new p at (late_due p.form q) (late_due p.form r) refl refl h
      | inr h ↦ moves_one step old new p at (late_due p.form q) (late_due p.form r) refl refl h
    ]

one_grows : (step : ℕ) (old new : List KeptStage) (p : PlannedStage) (stage : Stage) (at : ℕ) → Grown step old new → at ≤ step → OneGrows step old new p stage at
one_grows step old new p Pending at g few = pending_grows step at old new p g few
one_grows step old new p (Linked j) at g few =
    let h = Grown-at step old new j g in
    record { same = linked_same step j at new p (dated_in old j) (dated_in new j) refl h; grows = linked_grows step j at (dated_in old j) (dated_in new j) few h }
one_grows step old new p (Ready args) at g few = record { same = refl; grows = tt }
one_grows step old new p Claimed at g few = record { same = refl; grows = tt }
one_grows step old new p (Settled o) at g few = record { same = refl; grows = (refl, few) }

-- one new state more
pub longer : (new : List KeptStage) (b : KeptStage) (plan : List PlannedStage) (states : List Stage) → new_states (stages_of (new ++ b ∷ [])) plan states ≡ new_states (stages_of new ++ b.stage ∷ []) plan states
longer new b plan states = ap (λ below. new_states below plan states) (map-append (λ (k : KeptStage). k.stage) new (b ∷ []))

-- all stages above
go : (step : ℕ) (old new : List KeptStage) (plan : List PlannedStage) (kept : List KeptStage) → Grown step old new → StepsUpTo step kept →
    stages_of (all_treated new plan kept) ≡ new_states (stages_of new) plan (stages_of (all_treated old plan kept))
go step old new [] kept g few = refl
go step old new (p ∷ plan) [] g few = refl
go step old new (p ∷ plan) (k ∷ kept) g few =
    let a = treated old p k in
    let b = treated new p k in
    let one = one_grows step old new p k.stage k.step g few.0 in
    let rest = go step (old ++ a ∷ []) (new ++ b ∷ []) plan kept (Grown-push step old new a b g one.grows) few.1 in
    rw (← one.same) (ap (λ r. b.stage ∷ r) (rest ∙ longer new b plan (stages_of (all_treated (old ++ a ∷ []) plan kept))))

not_settled : (step : ℕ) (a : KeptStage) (o : Outcome) → outcome_of a.stage ≡ None → Grows step (dated_of a) (Some (o, step + 1))
not_settled step a o e = rw e refl

-- from the first stage on
settle : (step : ℕ) (old new : List KeptStage) (plan : List PlannedStage) (kept : List KeptStage) (d : ℕ) (o : Outcome) → Grown step old new → StepsUpTo step kept →
    outcome_in (stages_of (all_treated old plan kept)) d ≡ None →
    stages_of (all_treated new plan (set kept d (record { stage = Settled o; step = step + 1 }))) ≡ new_states (stages_of new) plan (set (stages_of (all_treated old plan kept)) d (Settled o))
settle step old new [] kept d o g few e = map-set (λ (k : KeptStage). k.stage) kept d (record { stage = Settled o; step = step + 1 })
settle step old new (p ∷ plan) [] d o g few e = refl
settle step old new (p ∷ plan) (k ∷ kept) zero o g few e =
    let a = treated old p k in
    let b : KeptStage = record { stage = Settled o; step = step + 1 } in
    let rest = go step (old ++ a ∷ []) (new ++ b ∷ []) plan kept (Grown-push step old new a b g (not_settled step a o e)) few.1 in
    ap (λ r. Settled o ∷ r) (rest ∙ longer new b plan (stages_of (all_treated (old ++ a ∷ []) plan kept)))
settle step old new (p ∷ plan) (k ∷ kept) (suc d) o g few e =
    let a = treated old p k in
    let b = treated new p k in
    let one = one_grows step old new p k.stage k.step g few.0 in
    let rest = settle step (old ++ a ∷ []) (new ++ b ∷ []) plan kept d o (Grown-push step old new a b g one.grows) few.1 e in
    rw (← one.same) (ap (λ r. b.stage ∷ r) (rest ∙ longer new b plan (set (stages_of (all_treated (old ++ a ∷ []) plan kept)) d (Settled o))))

pub settling_is_after : SettlingIsAfter
settling_is_after plan kept d step o few e = settle step [] [] plan kept d o tt few e
