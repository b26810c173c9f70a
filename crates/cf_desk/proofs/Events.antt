-- Events of a desk, on a plan that grows.
use Rattle.std.proofs.Common.{◌≡◌, ℕ, zero, suc, ◌<◌, ◌≤◌, Bool, true, false, Some, List, [], ◌∷◌, ◌++◌, length, length-append, take, slice_get, All, refl, ap, ◌∙◌, subst, arith}
use Rattle.std.proofs.lemmas.List.Elements.{All-head, All-tail}
use Rattle.cf_forms.specs.Plans.{PlannedStage}
use Rattle.cf_model.specs.declared.asks.Ask.{Ask}
use Rattle.cf_model.specs.declared.asks.Ask.TheVariants.{Now as AsksNow, Outcome as AsksOutcome}
use Rattle.cf_model.specs.declared.events.Event.{Event}
use Rattle.cf_model.specs.declared.events.Event.TheVariants.{Complete as Completes, Fail as Fails, FailAs as FailsAs, Cancel as Cancels, Claim as Claims, Finish as Finishes, Tick as Ticks, Attach as Attaches}
use Rattle.cf_model.specs.States.{State}
use Rattle.cf_model.specs.Events.{state_after}
use Rattle.cf_model.specs.Ranges.{AskFits, EventFits}
use Rattle.cf_forms.specs.declared.forms.Of.{Of}
use Rattle.cf_forms.specs.declared.forms.Of.TheVariants.{None as NoSource, One, Two}
use Rattle.cf_event.specs.Words.{first_of, second_of}
use Rattle.cf_desk.specs.Faults.{EventNames}
use Rattle.cf_model.proofs.Histories.{state_after-append}
use Rattle.cf_model.proofs.Shape.{state_after-grows}
use Rattle.cf_forms.specs.Plans.{sources_of}
use Rattle.std.proofs.lemmas.List.Elements.{All-weaker}

pub names_more : (n m : ℕ) (e : Event) → n ≤ m → EventNames n e → EventNames m e
names_more n m (Completes who i v) le h = omega (arith, le, h)
names_more n m (Fails who i code) le h = omega (arith, le, h)
names_more n m (FailsAs who i failure) le h = omega (arith, le, h)
names_more n m (Cancels who i) le h = omega (arith, le, h)
names_more n m (Claims who i) le h = omega (arith, le, h)
names_more n m (Finishes who i answer) le h = omega (arith, le, h)
names_more n m (Ticks who now) le h = tt
names_more n m (Attaches who form of function) le h = All-weaker (λ j. j < n) (λ j. j < m) (λ j l. omega (arith, le, l)) (sources_of of) h

pub fits_more : (n m : ℕ) (e : Event) → n ≤ m → EventFits n e → EventFits m e
fits_more n m (Completes who i v) le h = omega (arith, le, h)
fits_more n m (Fails who i code) le h = omega (arith, le, h)
fits_more n m (FailsAs who i failure) le h = omega (arith, le, h)
fits_more n m (Cancels who i) le h = omega (arith, le, h)
fits_more n m (Claims who i) le h = omega (arith, le, h)
fits_more n m (Finishes who i answer) le h = omega (arith, le, h)
fits_more n m (Ticks who now) le h = tt
fits_more n m (Attaches who form of function) le h = (h.0, names_more n m (Attaches who form of function) le h.1)

pub asks_more : (n m : ℕ) (a : Ask) → n ≤ m → AskFits n a → AskFits m a
asks_more n m (AsksNow i absent) le h = omega (arith, le, h)
asks_more n m (AsksOutcome i) le h = omega (arith, le, h)

pub stages_grow : (s : State) (xs : List Event) → length s.plan.stages ≤ length ((state_after s xs).plan.stages)
stages_grow s xs =
    let grown = state_after-grows s xs in
    let is = ap (λ (l : List PlannedStage). length l) grown.stages ∙ length-append s.plan.stages grown.more in
    omega (arith, is)

-- also behind events that were seen before
pub stages_grow_on : (s : State) (xs ys : List Event) → length ((state_after s xs).plan.stages) ≤ length ((state_after s (xs ++ ys)).plan.stages)
stages_grow_on s xs ys = subst (λ (r : State). length ((state_after s xs).plan.stages) ≤ length r.plan.stages) (Rattle.std.proofs.Common.sym (state_after-append s xs ys)) (stages_grow (state_after s xs) ys)

-- ---- a call of a caller

-- a number that is in range, where the last stage is 4,095
small : (j n : ℕ) → j < n → n ≤ 4096 → j ≤ 4095
small j n l few = omega (arith, l, few)

pub sources_small : (of : Of) (n : ℕ) → n ≤ 4096 → All (λ j. j < n) (sources_of of) → (first_of of ≤ 4095) × (second_of of ≤ 4095)
sources_small NoSource n few h = (omega arith, omega arith)
sources_small (One a) n few h = (small a n (All-head (λ j. j < n) a [] h) few, omega arith)
sources_small (Two a b) n few h =
    (small a n (All-head (λ j. j < n) a (b ∷ []) h) few, small b n (All-head (λ j. j < n) b [] (All-tail (λ j. j < n) a (b ∷ []) h)) few)
