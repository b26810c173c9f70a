-- Outcomes that events name: what an event names for a stage settles it.
use Rattle.std.proofs.Common.{◌≡◌, ◌≢◌, ℕ, ◌<◌, ◌==◌, ◌∷◌, [], List, Bool, true, false, cond, Option, Some, None, length, suc, zero, arith, ap, sym, ◌∙◌, refl, set, get_or, ◌≤◌, inl, inr}
use Rattle.std.specs.Prelude.{slice_get}
use Rattle.std.proofs.lemmas.Bool.Decides.{nat_tests}
use Rattle.std.proofs.lemmas.Bool.{cases_lt}
use Rattle.std.proofs.lemmas.Option.{slice_get-get_or}
use Rattle.cf_outcome.specs.declared.outcome.Outcome.{Outcome}
use Rattle.cf_outcome.specs.declared.outcome.Outcome.TheVariants.{Value as Gives, Fault}
use Rattle.cf_outcome.specs.declared.outcome.Cause.TheVariants.{Thrown, Cancelled}
use Rattle.cf_forms.specs.Meanings.{Meanings}
use Rattle.cf_model.specs.declared.stage.Stage.{Stage}
use Rattle.cf_model.specs.declared.stage.Stage.TheVariants.{Pending, Settled}
use Rattle.cf_model.specs.States.{State, outcome_in, outcome_at}
use Rattle.cf_model.specs.declared.events.Event.{Event}
use Rattle.cf_model.specs.declared.events.Event.TheVariants.{Complete as Completes, Fail as Fails, FailAs as FailsAs, Cancel as Cancels, Claim as Claims, Finish as Finishes, Tick as Ticks, Attach as Attaches}
use Rattle.cf_model.specs.Events.{answered, settled_by, cancelled_by, cause_of}
use Rattle.cf_model.proofs.Moves.{new_states-settled, keeps_outcomes}
use Rattle.cf_expr.specs.Expressions.{named_for}
use Rattle.cf_expr.specs.Histories.{Grants, IsPlainEvent}

pub same_number : (i : ℕ) → (i == i) ≡ true
same_number i = grind (arith, nat_tests)

set_there : (xs : List Stage) (i : ℕ) (x : Stage) (o : Outcome) → slice_get xs i ≡ Some x → outcome_in (set xs i (Settled o)) i ≡ Some o
set_there [] i x o e = cc
set_there (y ∷ xs) zero x o e = refl
set_there (y ∷ xs) (suc i) x o e = set_there xs i x o e

settled_by_settles : (y : Option Outcome) (s : State) (i : ℕ) (x : Stage) (o : Outcome) → outcome_at s i ≡ y → slice_get s.stages i ≡ Some x → outcome_at ((settled_by y s i o).1) i ≢ None
settled_by_settles (Some old) s i x o e there = λ h. cc
settled_by_settles None s i x o e there = λ h. let k = new_states-settled [] s.plan.stages (set s.stages i (Settled o)) i o (set_there s.stages i x o there) in cc

-- a test of numbers
named_unless : (b : Bool) (i j : ℕ) (o : Outcome) → (i == j) ≡ b → (i ≢ j) → cond b (Some o) None ≡ None
named_unless true i j o e ne = absurd (ne (grind (arith, nat_tests)))
named_unless false i j o e ne = refl

by_settling : (s : State) (i j : ℕ) (x : Stage) (o : Outcome) → slice_get s.stages i ≡ Some x → outcome_at ((settled_by (outcome_at s j) s j o).1) i ≡ None → cond (i == j) (Some o) None ≡ None
by_settling s i j x o there unsettled =
    named_unless (i == j) i j o refl (λ e. settled_by_settles (outcome_at s j) s j x o refl (ap (slice_get s.stages) (sym e) ∙ there)
    (ap (outcome_at ((settled_by (outcome_at s j) s j o).1)) (sym e) ∙ unsettled))

-- cancelling leaves the state that settling leaves
pub cancelled_same : (y : Option Outcome) (s : State) (i : ℕ) → (cancelled_by y s i).1 ≡ (settled_by y s i (Fault Cancelled false)).1
cancelled_same (Some old) s i = refl
cancelled_same None s i = refl

-- what an event names for a stage settles it
not_named : (e : Event) (s : State) (i : ℕ) (x : Stage) → slice_get s.stages i ≡ Some x → outcome_at ((answered s e).1) i ≡ None → named_for i e ≡ None
not_named (Completes who j v) s i x there unsettled = by_settling s i j x (Gives v) there unsettled
not_named (Fails who j code) s i x there unsettled = by_settling s i j x (Fault (Thrown code) false) there unsettled
not_named (FailsAs who j failure) s i x there unsettled = by_settling s i j x (Fault (cause_of failure) false) there unsettled
not_named (Cancels who j) s i x there unsettled =
    by_settling s i j x (Fault Cancelled false) there (ap (λ r. outcome_at r i) (sym (cancelled_same (outcome_at s j) s j)) ∙ unsettled)
not_named (Claims who j) s i x there unsettled = refl
not_named (Finishes who j answer) s i x there unsettled = refl
not_named (Ticks who now) s i x there unsettled = refl
not_named (Attaches who form of function) s i x there unsettled = refl

pub was_unsettled : (y : Option Outcome) (s : State) (e : Event) (i : ℕ) → outcome_at s i ≡ y → outcome_at ((answered s e).1) i ≡ None → outcome_at s i ≡ None
was_unsettled None s e i h unsettled = h
was_unsettled (Some o) s e i h unsettled = let k = keeps_outcomes s (e ∷ []) i o h in cc

-- what an event names is there, so it names no stage that isn't settled then
pub names_nothing : (meanings : Meanings) (granted : Grants) (e : Event) (s : State) (i : ℕ) → IsPlainEvent meanings granted s e → length s.stages ≡ length s.plan.stages → outcome_at ((answered s e).1) i ≡ None → named_for i e ≡ None
names_nothing meanings granted e s i plain all unsettled = elim (cases_lt i (length s.stages)) [
  | inl l ↦ not_named e s i (get_or s.stages i Pending) (slice_get-get_or s.stages i Pending l) unsettled
  | inr l ↦ not_there e s i plain (omega (arith, l, all))
]
  where
    other : (i j n : ℕ) (o : Outcome) → j < n → n ≤ i → cond (i == j) (Some o) None ≡ None
    other i j n o l m = named_unless (i == j) i j o refl (λ e. absurd (omega arith))

    not_there : (e : Event) (s : State) (i : ℕ) → IsPlainEvent meanings granted s e → length s.plan.stages ≤ i → named_for i e ≡ None
    not_there (Completes who j v) s i plain l = other i j (length s.plan.stages) (Gives v) plain.0 l
    not_there (Fails who j code) s i plain l = other i j (length s.plan.stages) (Fault (Thrown code) false) plain.0 l
    not_there (FailsAs who j failure) s i plain l = other i j (length s.plan.stages) (Fault (cause_of failure) false) plain.0 l
    not_there (Cancels who j) s i plain l = other i j (length s.plan.stages) (Fault Cancelled false) plain.0 l
    not_there (Claims who j) s i plain l = refl
    not_there (Finishes who j answer) s i plain l = refl
    not_there (Ticks who now) s i plain l = refl
    not_there (Attaches who form of function) s i plain l = refl
