-- Steps one after another, with the stages and the functions that those before them leave.
use Rattle.std.proofs.Common.{◌≡◌, ℕ, zero, suc, ◌+◌, ◌-◌, ◌<◌, ◌≤◌, List, [], ◌∷◌, ◌++◌, length, Option, Some, None, refl, sym, ap, subst, ◌∙◌, arith}
use Rattle.std.specs.Prelude.{IfSome}
use Rattle.std.proofs.lemmas.List.Elements.{All-push, All-weaker}
use Rattle.cf_model.specs.declared.events.Event.TheVariants.{Complete as Completes, Fail as Fails, FailAs as FailsAs, Cancel as Cancels, Claim as Claims, Finish as Finishes, Tick as Ticks, Attach as Attaches}
use Rattle.cf_script_reading.specs.declared.func.Func.{Func}
use Rattle.cf_script_reading.specs.declared.purpose.Purpose.{Purpose}
use Rattle.cf_script_reading.specs.declared.script.Step.{Step}
use Rattle.cf_script_reading.specs.declared.script.Step.TheVariants.{Does, Asks, Work, Nudge}
use Rattle.cf_script_reading.specs.ReadingProgress.{Progress, FitsNext, ReadingGoesOn, IsProgress, extents_after, with_step}
use Rattle.cf_script_reading.specs.Purposes.{IsTaken}
use Rattle.cf_script_reading.specs.Scripts.{Extent, StepCalls, StepFits, StepsFit, attached_by, extent_after}
use Rattle.cf_script_reading.specs.Stages.{with_function}
use Rattle.cf_script_reading.specs.Steps.{NamesWithin}
use Rattle.cf_script_reading.proofs.Drafts.{length_after}

-- ---- a step that attaches nothing

within_fits : (n : ℕ) (s : Step) → NamesWithin n s → StepFits n s
within_fits n (Does (Attaches who form of function)) h = absurd h
within_fits n (Does (Completes who i v)) h = h
within_fits n (Does (Fails who i code)) h = h
within_fits n (Does (FailsAs who i failure)) h = h
within_fits n (Does (Cancels who i)) h = h
within_fits n (Does (Claims who i)) h = h
within_fits n (Does (Finishes who i answer)) h = h
within_fits n (Does (Ticks who now)) h = h
within_fits n (Asks a) h = h
within_fits n Work h = h
within_fits n (Nudge k) h = h

within_calls : (n m : ℕ) (s : Step) → NamesWithin n s → StepCalls m s
within_calls n m (Does (Attaches who form of function)) h = absurd h
within_calls n m (Does (Completes who i v)) h = tt
within_calls n m (Does (Fails who i code)) h = tt
within_calls n m (Does (FailsAs who i failure)) h = tt
within_calls n m (Does (Cancels who i)) h = tt
within_calls n m (Does (Claims who i)) h = tt
within_calls n m (Does (Finishes who i answer)) h = tt
within_calls n m (Does (Ticks who now)) h = tt
within_calls n m (Asks a) h = tt
within_calls n m Work h = tt
within_calls n m (Nudge k) h = tt

pub fits_alone : (n : ℕ) (functions : List Func) (s : Step) → NamesWithin n s → length functions ≤ 4096 → FitsNext n functions (s, None)
fits_alone n functions s h few = record { fits = within_fits n s h; calls = within_calls n (length functions) s h; few = few }

-- ---- stages and room

pub one_more : (n room : ℕ) → 0 < room → attached_by n room ≡ record { stages = n + 1; room = room - 1 }
one_more n zero h = absurd (omega arith)
one_more n (suc room) h = let less : room ≡ suc room - 1 = omega arith in ap (λ r. record { stages = n + 1; room = r }) less

pub no_more : (n room : ℕ) → room ≤ 0 → attached_by n room ≡ record { stages = n; room = room }
no_more n zero h = refl
no_more n (suc room) h = absurd (omega arith)

-- ---- one step more

steps_fit-push : (steps : List Step) (x : Extent) (s : Step) → StepsFit x steps → StepFits (extents_after steps x).stages s → StepsFit x (steps ++ s ∷ [])
steps_fit-push [] x s h fits = (fits, tt)
steps_fit-push (t ∷ steps) x s h fits = (h.0, steps_fit-push steps (extent_after t x) s h.1 fits)

extents_after-push : (steps : List Step) (x : Extent) (s : Step) → extents_after (steps ++ s ∷ []) x ≡ extent_after s (extents_after steps x)
extents_after-push [] x s = refl
extents_after-push (t ∷ steps) x s = extents_after-push steps (extent_after t x) s

number_fits : (n m : ℕ) → n ≤ m → (f : Option ℕ) → IfSome f (λ k. (k < n) × (k ≤ 4095)) → IfSome f (λ k. (k < m) × (k ≤ 4095))
number_fits n m h None fits = tt
number_fits n m h (Some k) fits = let below = fits.0 in (omega arith, fits.1)

calls_more : (n m : ℕ) → n ≤ m → (s : Step) → StepCalls n s → StepCalls m s
calls_more n m h (Does (Attaches who form of function)) calls = number_fits n m h function calls
calls_more n m h (Does (Completes who i v)) calls = tt
calls_more n m h (Does (Fails who i code)) calls = tt
calls_more n m h (Does (FailsAs who i failure)) calls = tt
calls_more n m h (Does (Cancels who i)) calls = tt
calls_more n m h (Does (Claims who i)) calls = tt
calls_more n m h (Does (Finishes who i answer)) calls = tt
calls_more n m h (Does (Ticks who now)) calls = tt
calls_more n m h (Asks a) calls = tt
calls_more n m h Work calls = tt
calls_more n m h (Nudge k) calls = tt

with_step_is : (purpose : Purpose) (start : Extent) (known : ℕ) (progress : Progress) (said : Step × Option Func) → FitsNext progress.extent.stages progress.functions said → IsTaken purpose said.0
    → IsProgress purpose start known progress → IsProgress purpose start known (with_step progress said)
with_step_is purpose start known progress said next taken is =
    let more = length_after progress.functions said.1 in
    let all = is.kept in
    let m = length (with_function progress.functions said.1) in
    record {
      fits = steps_fit-push progress.steps start said.0 is.fits (subst (λ (x : Extent). StepFits x.stages said.0) is.reached next.fits);
      reached = ap (extent_after said.0) is.reached ∙ sym (extents_after-push progress.steps start said.0);
      calls = All-push (StepCalls m) progress.steps said.0 (All-weaker (StepCalls (length progress.functions)) (StepCalls m) (calls_more (length progress.functions) m more) progress.steps is.calls) next.calls;
      taken = All-push (IsTaken purpose) progress.steps said.0 is.taken taken;
      kept = omega arith;
    }

pub goes_on_is : (purpose : Purpose) (start : Extent) (known : ℕ) (old new : Progress) → ReadingGoesOn purpose old new → IsProgress purpose start known old → IsProgress purpose start known new
goes_on_is purpose start known old new next is =
    subst (IsProgress purpose start known) (sym next.grown) (with_step_is purpose start known old next.said next.fits next.taken is)
