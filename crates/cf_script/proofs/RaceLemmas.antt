-- The events of a race's steps, and what it leaves.
use Rattle.std.proofs.Common.{◌≡◌, ◌+◌, ◌++◌, ℕ, suc, ◌<◌, List, [], ◌∷◌, length, Option, Some, None, All, ◌≤◌, true, refl, ap, subst, sym, ◌∙◌, arith}
use Rattle.std.proofs.lemmas.List.Elements.{All-nil, All-cons, All-head, All-tail}
use Rattle.cf_outcome.specs.declared.outcome.Outcome.{Outcome}
use Rattle.cf_forms.specs.Meanings.{meanings_of}
use Rattle.cf_forms.specs.Plans.{Planned, PlannedStage}
use Rattle.cf_model.specs.declared.events.Event.{Event}
use Rattle.cf_model.specs.declared.events.Event.TheVariants.{Complete as Completes, Fail as Fails, FailAs as FailsAs, Cancel as Cancels, Claim as Claims, Finish as Finishes, Tick as Ticks, Attach as Attaches}
use Rattle.cf_model.specs.Calls.{is_from_outside}
use Rattle.cf_model.specs.Events.{answered}
use Rattle.cf_model.specs.Ranges.{EventFits, EventsFit}
use Rattle.cf_model.specs.States.{State, outcome_at, start}
use Rattle.cf_expr.specs.Expressions.{expr}
use Rattle.cf_script_reading.specs.declared.script.Step.{Step}
use Rattle.cf_script_reading.specs.declared.script.Step.TheVariants.{Does, Asks, Work, Nudge}
use Rattle.cf_script_reading.specs.Functions.{func_answer}
use Rattle.cf_script_reading.specs.Purposes.{IsForRace}
use Rattle.cf_script_reading.specs.Scripts.{Extent, Script, StepCalls, StepsFit, extent_after, extent_of, opening}
use Rattle.cf_pool.specs.Answering.{as_meant}
use Rattle.cf_pool.specs.Races.{AreSteps, IsRaced, IsStep, RacedIsExpression, log_words}
use Rattle.cf_script.specs.Reports.{stage_lines, stage_text}
use Rattle.cf_script.specs.Races.{IsRaceEnd, IsTooLargeToRace, PlainRacesGiveExpressions, events_of, grown_by}
use Rattle.cf_text.specs.Texts.{line}
use Rattle.cf_script.proofs.ReportLemmas.{after_step-extent}

-- each step of a race is an event
pub length-events_of : (steps : List Step) → All IsForRace steps → length (events_of steps) ≡ length steps
length-events_of [] h = refl
length-events_of (Does e ∷ xs) h = ap suc (length-events_of xs (All-tail IsForRace (Does e) xs h))
length-events_of (Asks a ∷ xs) h = absurd (cc (All-head IsForRace (Asks a) xs h))
length-events_of (Work ∷ xs) h = absurd (cc (All-head IsForRace Work xs h))
length-events_of (Nudge k ∷ xs) h = absurd (cc (All-head IsForRace (Nudge k) xs h))

-- ---- each is one that a race takes

-- a step of a script from outside is a step of a race, since a function of a script is one of those that a race knows
step_taken : (n k : ℕ) (e : Event) → is_from_outside e ≡ true → StepCalls n (Does e) → EventFits k e → IsStep e
step_taken n k (Attaches who form of None) outside calls fits = (outside, (fits.0, tt, omega arith))
step_taken n k (Attaches who form of (Some f)) outside calls fits = (outside, (fits.0, (let few = calls.1 in omega (arith, few)), calls.1))
step_taken n k (Completes who i v) outside calls fits = (outside, tt)
step_taken n k (Fails who i code) outside calls fits = (outside, tt)
step_taken n k (FailsAs who i failure) outside calls fits = (outside, tt)
step_taken n k (Cancels who i) outside calls fits = (outside, tt)
step_taken n k (Claims who i) outside calls fits = (outside, tt)
step_taken n k (Finishes who i answer) outside calls fits = (outside, tt)
step_taken n k (Ticks who now) outside calls fits = (outside, tt)

all_taken : (n : ℕ) (x : Extent) (steps : List Step) → All IsForRace steps → All (StepCalls n) steps → StepsFit x steps → All IsStep (events_of steps)
all_taken n x [] h calls fits = All-nil IsStep
all_taken n x (Does e ∷ xs) h calls fits = All-cons IsStep e (events_of xs)
    (step_taken n x.stages e (All-head IsForRace (Does e) xs h) (All-head (StepCalls n) (Does e) xs calls) fits.0)
    (all_taken n (extent_after (Does e) x) xs (All-tail IsForRace (Does e) xs h) (All-tail (StepCalls n) (Does e) xs calls) fits.1)
all_taken n x (Asks a ∷ xs) h calls fits = absurd (cc (All-head IsForRace (Asks a) xs h))
all_taken n x (Work ∷ xs) h calls fits = absurd (cc (All-head IsForRace Work xs h))
all_taken n x (Nudge k ∷ xs) h calls fits = absurd (cc (All-head IsForRace (Nudge k) xs h))

-- and fits the graph as those before it leave it
all_fit : (s : State) (steps : List Step) → All IsForRace steps → StepsFit (extent_of s.plan) steps → EventsFit s (events_of steps)
all_fit s [] h fits = tt
all_fit s (Does e ∷ xs) h fits = (
  fits.0,
  all_fit ((answered s e).1) xs (All-tail IsForRace (Does e) xs h)
      (subst (λ (x : Extent). StepsFit x xs) (sym (after_step-extent [] s (Does e))) fits.1),
)
all_fit s (Asks a ∷ xs) h fits = absurd (cc (All-head IsForRace (Asks a) xs h))
all_fit s (Work ∷ xs) h fits = absurd (cc (All-head IsForRace Work xs h))
all_fit s (Nudge k ∷ xs) h fits = absurd (cc (All-head IsForRace (Nudge k) xs h))

pub steps_taken : (n : ℕ) (plan : Planned) (steps : List Step) → All IsForRace steps → All (StepCalls n) steps → StepsFit (extent_of plan) steps → AreSteps plan (events_of steps)
steps_taken n plan steps h calls fits = (all_taken n (extent_of plan) steps h calls fits, all_fit (start plan) steps h fits)

-- ---- what a race of a script leaves

-- a race of the events ends as one of the steps
pub ends_of : (workers : ℕ) (s : Script) (events : List Event) (end : State) → events ≡ events_of s.steps → All IsForRace s.steps →
    IsRaced (as_meant (meanings_of func_answer s.functions)) (opening s) events workers end → log_words (length events) (length s.plan.stages + s.room) workers ≤ 65535 → IsRaceEnd workers s end
ends_of workers s events end is h raced fits =
    let same : length events ≡ length s.steps = ap length is ∙ length-events_of s.steps h in
    record {
      fits = subst (λ k. log_words k (length s.plan.stages + s.room) workers ≤ 65535) same fits;
      raced = subst (λ es. IsRaced (as_meant (meanings_of func_answer s.functions)) (opening s) es workers end) is raced;
    }

pub too_long : (workers : ℕ) (s : Script) (events : List Event) → events ≡ events_of s.steps → All IsForRace s.steps →
    65535 < log_words (length events) (length s.plan.stages + s.room) workers → IsTooLargeToRace workers s
too_long workers s events is h long = subst (λ k. 65535 < log_words k (length s.plan.stages + s.room) workers) (ap length is ∙ length-events_of s.steps h) long

-- the lines of stages with the same outcomes
same_lines : (f g : ℕ → Option Outcome) (i : ℕ) (stages : List PlannedStage) → ((j : ℕ) → i ≤ j → j < i + length stages → f j ≡ g j) →
    stage_lines f i stages ≡ stage_lines g i stages
same_lines f g i [] h = refl
same_lines f g i (p ∷ stages) h =
    ap (λ o. line (stage_text i o) ++ stage_lines f (i + 1) stages) (h i (omega arith) (omega arith))
    ∙ ap (λ t. line (stage_text i (g i)) ++ t) (same_lines f g (i + 1) stages (λ j l u. h j (omega arith) (omega arith)))

pub plain_lines : RacedIsExpression → PlainRacesGiveExpressions
plain_lines law workers s text race plain =
    let events = events_of s.steps in
    let meanings = meanings_of func_answer s.functions in
    let grown = grown_by s in
    let raced = race.ends.raced in
    race.lines
    ∙ ap (λ (p : Planned). stage_lines (outcome_at race.end) 0 p.stages) raced.of_plan
    ∙ same_lines (outcome_at race.end) (expr grown events meanings) 0 grown.stages (λ j l u. law (opening s) events meanings workers race.end j plain.plan plain.steps raced (omega arith))
