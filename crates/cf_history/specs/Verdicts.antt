-- What each verdict tells. Of several reasons that hold at one spot the first is told, in the order in which they stand in their type:
-- each says that none before it holds. So there is one verdict on a history.
use Rattle.std.specs.Prelude.{◌≡◌, ◌≢◌, ℕ, zero, suc, ◌+◌, ◌-◌, ◌<◌, ◌≤◌, Option, Some, None, MatchOption, MatchResult, Result, List, [], ◌∷◌, length, take, drop, slice_get}
use Rattle.cf_forms.specs.Plans.{Planned}
use Rattle.cf_outcome.specs.declared.outcome.Outcome.{Outcome}
use Rattle.cf_model.specs.declared.events.Event.{Event}
use Rattle.cf_model.specs.States.{State, outcome_at, start}
use Rattle.cf_model.specs.Events.{answered, state_after, told}
use Rattle.cf_model.specs.Ranges.{AskFits, EventFits}
use Rattle.cf_model.specs.Calls.{who_of}
use Rattle.cf_event.specs.Words.{IsEvent}
use Rattle.cf_event.specs.Decoding.{decoded}
use Rattle.cf_history.specs.declared.history.History.{History}
use Rattle.cf_history.specs.declared.history.Caller.{Caller}
use Rattle.cf_event.specs.declared.record.Record.{Record}
use Rattle.cf_event.specs.declared.record.Record.TheVariants.{Did, Saw}
use Rattle.cf_history.specs.declared.verdict.Misfit.{Misfit}
use Rattle.cf_history.specs.declared.verdict.Misfit.TheVariants.{Before, Behind, Skips, Other, Reply as Replies, NoStage as AsksNone, Told as Tells}
use Rattle.cf_history.specs.declared.verdict.Unfit.{Unfit}
use Rattle.cf_history.specs.declared.verdict.Unfit.TheVariants.{NoEvent, NoCaller, NoStage, NoFunction}
use Rattle.cf_history.specs.declared.verdict.Verdict.{Verdict}
use Rattle.cf_history.specs.declared.verdict.Verdict.TheVariants.{Fits, Event as AtEvent, Record as AtRecord, Missing, Outcome as AtOutcome, Stages}
use Rattle.cf_event.specs.Events.{own, AreEventsOf, IsEventOf, NamesFunction}
use Rattle.cf_event.specs.Histories.{place_of}
use Rattle.cf_history.specs.Records.{IsRight, RecordGoesOn, state_in}
use Rattle.cf_history.specs.Histories.{AllRight, AreOutcomesOf, AreOutcomesTo, AreWordsOf, FitsOneGraph, said}

-- why an event can't stand where the graph is in this state
abbrev pub IsUnfit : ℕ → ℕ → State → Event → Unfit → Type 0
IsUnfit callers functions s e NoEvent = ⊥
IsUnfit callers functions s e NoCaller = callers ≤ who_of e
IsUnfit callers functions s e NoStage = (who_of e < callers) × ¬ EventFits (length s.plan.stages) e
IsUnfit callers functions s e NoFunction = (who_of e < callers) × EventFits (length s.plan.stages) e × ¬ NamesFunction functions e

-- the event behind the first k of these can't stand there for this reason, and they can
abbrev pub IsFirstUnfit : ℕ → ℕ → State → ℕ → List Event → Unfit → Type 0
IsFirstUnfit callers functions s k [] why = ⊥
IsFirstUnfit callers functions s zero (e ∷ events) why = IsUnfit callers functions s e why
IsFirstUnfit callers functions s (suc k) (e ∷ events) why =
    IsEventOf callers functions s e × IsFirstUnfit callers functions ((answered s e).1) k events why

-- whether an event can stand where the graph is in this state, and why not
abbrev pub JudgesEvent : ℕ → ℕ → State → Event → Option Unfit → Type 0
JudgesEvent callers functions s e found = MatchOption found (IsEventOf callers functions s e) (λ why. IsUnfit callers functions s e why)

-- how many of these events can stand there, up to the first that can't, and why that one can't; nothing where all can
abbrev pub FindsUnfit : ℕ → ℕ → State → List Event → Option (ℕ × Unfit) → Type 0
FindsUnfit callers functions s events found =
    MatchOption found (AreEventsOf callers functions s events) (λ (u : ℕ × Unfit). IsFirstUnfit callers functions s u.0 events u.1)

-- the word behind the first k is the first that can't stand there, for this reason
abbrev pub IsUnfitWord : ℕ → ℕ → State → List ℕ → ℕ → Unfit → Type 0
IsUnfitWord callers functions s words k NoEvent =
    (k ≡ length (decoded words)) × (k < length words) × AreEventsOf callers functions s (decoded words)
IsUnfitWord callers functions s words k why = IsFirstUnfit callers functions s k (decoded words) why

-- a verdict on the first word that can't stand there
abbrev pub IsOfWords : ℕ → ℕ → State → List ℕ → Verdict → Type 0
IsOfWords callers functions s words (AtEvent place why) = (k : ℕ) × (place ≡ k + 1) × IsUnfitWord callers functions s words k why
IsOfWords callers functions s words verdict = ⊥

-- the verdict on the first word that can't stand there, or none where the words are those of these events
abbrev pub JudgesWords : ℕ → ℕ → State → List ℕ → List Event → Option Verdict → Type 0
JudgesWords callers functions s words events found =
    MatchOption found (AreWordsOf callers functions s words events) (IsOfWords callers functions s words)

-- the caller's next event stands behind n others
pub record IsNext (c : ℕ) (rest : List Event) (n : ℕ) : Type 0 where
  pub none : own c (take n rest) ≡ []
  pub event : Event
  pub there : slice_get rest n ≡ Some event
  pub mine : who_of event ≡ c

-- the caller's next event stands at this place, among the first `most` of those to come
pub record IsSkipped (c : ℕ) (rest : List Event) (at most place : ℕ) : Type 0 where
  pub before : ℕ
  pub below : before < most
  pub place_is : place ≡ at + before + 1
  pub next : IsNext c rest before

-- the record's place is behind what the caller had been told of, and within the history, and no event of the caller comes first
abbrev pub IsReached : ℕ → List Event → ℕ → Record → Type 0
IsReached c rest at (Did place e reply) = (at < place) × (place ≤ at + length rest) × (own c (take (place - at - 1) rest) ≡ [])
IsReached c rest at (Saw place ask answer) = (at ≤ place) × (place ≤ at + length rest) × (own c (take (place - at) rest) ≡ [])

-- the event behind n others is this one, which has a word and is the caller's
abbrev pub IsOwnAt : ℕ → List Event → ℕ → Event → Type 0
IsOwnAt c rest n e = (slice_get rest n ≡ Some e) × (who_of e ≡ c) × IsEvent e

-- why a record doesn't fit, where `at` events have come and left the graph in state s, and `rest` are still to come
abbrev pub IsMisfit : ℕ → State → List Event → ℕ → Record → Misfit → Type 0
IsMisfit c s rest at (Did place e reply) Before = place ≤ at
IsMisfit c s rest at (Did place e reply) Behind = at + length rest < place
IsMisfit c s rest at (Did place e reply) (Skips p) = (place ≤ at + length rest) × IsSkipped c rest at (place - at - 1) p
IsMisfit c s rest at (Did place e reply) Other = IsReached c rest at (Did place e reply) × ¬ IsOwnAt c rest (place - at - 1) e
IsMisfit c s rest at (Did place e reply) (Replies given) =
    IsReached c rest at (Did place e reply) × IsOwnAt c rest (place - at - 1) e
    × (given ≡ (answered (state_in s rest (place - at - 1)) e).0) × (given ≢ reply)
IsMisfit c s rest at (Did place e reply) AsksNone = ⊥
IsMisfit c s rest at (Did place e reply) (Tells given) = ⊥
IsMisfit c s rest at (Saw place ask answer) Before = place < at
IsMisfit c s rest at (Saw place ask answer) Behind = at + length rest < place
IsMisfit c s rest at (Saw place ask answer) (Skips p) = (place ≤ at + length rest) × IsSkipped c rest at (place - at) p
IsMisfit c s rest at (Saw place ask answer) Other = ⊥
IsMisfit c s rest at (Saw place ask answer) (Replies given) = ⊥
IsMisfit c s rest at (Saw place ask answer) AsksNone =
    IsReached c rest at (Saw place ask answer) × ¬ AskFits (length (state_in s rest (place - at)).plan.stages) ask
IsMisfit c s rest at (Saw place ask answer) (Tells given) =
    IsReached c rest at (Saw place ask answer) × AskFits (length (state_in s rest (place - at)).plan.stages) ask
    × (given ≡ told (state_in s rest (place - at)) ask) × (given ≢ answer)

-- what reading a record comes to: it fits, and s' is the state at its place, or why it doesn't
abbrev pub IsRead : ℕ → State → List Event → ℕ → Record → Result (Unit {0}) Misfit → State → Type 0
IsRead c s rest at r read s' = MatchResult read (λ _. RecordGoesOn c s rest at r s') (λ why. IsMisfit c s rest at r why)

-- the record behind the first k of these doesn't fit for this reason, and they do
abbrev pub IsFirstMisfit : ℕ → State → List Event → ℕ → ℕ → List Record → Misfit → Type 0
IsFirstMisfit c s rest at k [] why = ⊥
IsFirstMisfit c s rest at zero (r ∷ records) why = IsMisfit c s rest at r why
IsFirstMisfit c s rest at (suc k) (r ∷ records) why =
    IsRight c s rest at r × IsFirstMisfit c (state_in s rest (place_of r - at)) (drop (place_of r - at) rest) (place_of r) k records why

-- the records fit, and behind the last one the caller's next event stands at this place
abbrev pub LeavesOut : ℕ → State → List Event → ℕ → List Record → ℕ → Type 0
LeavesOut c s rest at [] place = IsSkipped c rest at (length rest) place
LeavesOut c s rest at (r ∷ records) place =
    IsRight c s rest at r × LeavesOut c (state_in s rest (place_of r - at)) (drop (place_of r - at) rest) (place_of r) records place

-- of these callers those before this one fit, and this is it
pub record ComesTo (s : State) (events : List Event) (callers : List Caller) (caller : ℕ) (here : Caller) : Type 0 where
  pub before : AllRight s events 0 (take caller callers)
  pub is : slice_get callers caller ≡ Some here

-- a verdict on the first caller that doesn't fit
abbrev pub IsOfCallers : State → List Event → List Caller → Verdict → Type 0
IsOfCallers s events callers (AtRecord caller k why) =
    (here : Caller) × ComesTo s events callers caller here × IsFirstMisfit caller s events 0 k here.records.items why
IsOfCallers s events callers (Missing caller place) =
    (here : Caller) × ComesTo s events callers caller here × LeavesOut caller s events 0 here.records.items place
IsOfCallers s events callers verdict = ⊥

-- the verdict on the first caller that doesn't fit, or none where all do
abbrev pub JudgesCallers : State → List Event → List Caller → Option Verdict → Type 0
JudgesCallers s events callers found = MatchOption found (AllRight s events 0 callers) (IsOfCallers s events callers)

-- an outcome is said of each stage, the first stages have those, and the next has this one, which isn't what is said
pub record IsFirstOther (s : State) (outcomes : List (Option Outcome)) (stage : ℕ) (outcome : Option Outcome) : Type 0 where
  pub all : length outcomes ≡ length s.plan.stages
  pub before : AreOutcomesTo s outcomes stage
  pub is : outcome ≡ outcome_at s stage
  pub there : stage < length outcomes
  pub other : slice_get outcomes stage ≢ Some outcome

-- the first stage of which another outcome is said, with the one that it has, or none where each is as it is said
abbrev pub FindsOther : State → List (Option Outcome) → Option (ℕ × Option Outcome) → Type 0
FindsOther s outcomes found =
    MatchOption found (AreOutcomesTo s outcomes (length outcomes)) (λ (o : ℕ × Option Outcome). IsFirstOther s outcomes o.0 o.1)

-- a verdict on outcomes that are said
abbrev pub IsOfOutcomes : State → Option (List (Option Outcome)) → Verdict → Type 0
IsOfOutcomes s None verdict = ⊥
IsOfOutcomes s (Some outcomes) (AtOutcome stage outcome) = IsFirstOther s outcomes stage outcome
IsOfOutcomes s (Some outcomes) (Stages count) = (count ≡ length s.plan.stages) × (length outcomes ≢ count)
IsOfOutcomes s (Some outcomes) verdict = ⊥

-- the verdict on outcomes that are said, or none where they are those of the stages
abbrev pub JudgesOutcomes : State → Option (List (Option Outcome)) → Option Verdict → Type 0
JudgesOutcomes s outcomes found = MatchOption found (AreOutcomesOf s outcomes) (IsOfOutcomes s outcomes)

-- the verdict where all records fit
abbrev pub IsEnd : State → Option (List (Option Outcome)) → Verdict → Type 0
IsEnd s outcomes Fits = AreOutcomesOf s outcomes
IsEnd s outcomes verdict = IsOfOutcomes s outcomes verdict

-- the words are those of these events, and a verdict is one on the callers
abbrev pub TellsOfCallers : Planned → History → Verdict → Type 0
TellsOfCallers plan h verdict =
    (events : List Event) × AreWordsOf (length h.callers.items) h.functions (start plan) h.words.items events
    × IsOfCallers (start plan) events h.callers.items verdict

-- the words are those of these events, which fit all callers, and a verdict is one on the outcomes
abbrev pub TellsOfOutcomes : Planned → History → Verdict → Type 0
TellsOfOutcomes plan h verdict =
    (events : List Event) × AreWordsOf (length h.callers.items) h.functions (start plan) h.words.items events
    × AllRight (start plan) events 0 h.callers.items × IsOfOutcomes (state_after (start plan) events) (said h) verdict

-- what a verdict tells
abbrev pub IsVerdict : Planned → History → Verdict → Type 0
IsVerdict plan h Fits = FitsOneGraph plan h
IsVerdict plan h (AtEvent place why) = IsOfWords (length h.callers.items) h.functions (start plan) h.words.items (AtEvent place why)
IsVerdict plan h (AtRecord caller k why) = TellsOfCallers plan h (AtRecord caller k why)
IsVerdict plan h (Missing caller place) = TellsOfCallers plan h (Missing caller place)
IsVerdict plan h (AtOutcome stage outcome) = TellsOfOutcomes plan h (AtOutcome stage outcome)
IsVerdict plan h (Stages count) = TellsOfOutcomes plan h (Stages count)
