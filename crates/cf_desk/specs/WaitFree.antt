-- How many steps on the row a pass's calls take, whatever other callers do.
use Rattle.std.specs.Prelude.{◌≡◌, ◌⊎◌, ℕ, ◌+◌, ◌-◌, ◌≤◌, Some, List, [], ◌∷◌, length}
use Rattle.cf_model.specs.declared.asks.Ask.{Ask}
use Rattle.cf_model.specs.declared.asks.Told.{Told}
use Rattle.cf_model.specs.declared.calls.Call.{Call}
use Rattle.cf_model.specs.declared.events.Event.{Event}
use Rattle.cf_model.specs.declared.events.Reply.{Reply}
use Rattle.cf_event.specs.Decoding.{event_of}
use Rattle.cf_desk.specs.declared.calls.Joined.{Joined}
use Rattle.cf_desk.specs.declared.faults.DeskFault.{DeskFault}
use Rattle.cf_desk.specs.declared.row.CallerView.{CallerView}
use Rattle.cf_desk.specs.Faults.{AsksStage, KnowsStages}
use Rattle.cf_desk.specs.Results.{DeskAnswers, DeskTells, Refuses, RefusesToTell, TellsJoined}
use Rattle.cf_desk.specs.Rule.{AddsNext, LooksNext}
use Rattle.cf_desk.specs.Views.{Desk, Follows, Heeds, LooksOnce, Meets, Notice, Pass, place_in}

-- how many loads and exchanges of its next word a pass has made: each showed it one event more, or was a look that met an empty word
abbrev pub steps : CallerView → ℕ
steps k = length k.seen + length k.looks

abbrev pub steps_by : Pass → ℕ
steps_by p = steps p.known

abbrev pub IsOneStep : CallerView → List CallerView → Type 0
IsOneStep k w = (now : CallerView) × (w ≡ now ∷ []) × (steps now ≡ steps k + 1)

-- a load of the next word is one step, and so is an exchange of it for an event's
abbrev pub EachIsOneStep : Type 0
EachIsOneStep = (k : CallerView) (found : ℕ) (w : List CallerView) → (LooksNext k found w → IsOneStep k w) × ((word : ℕ) (e : Event) → event_of word ≡ Some e → AddsNext k word found w → IsOneStep k w)

-- the pass took a step for each event that it sees more, and at most so many that were looks
abbrev pub TakesSteps : ℕ → Pass → Pass → Type 0
TakesSteps most p q = (place_in p ≤ place_in q) × (steps_by q ≤ steps_by p + (place_in q - place_in p) + most)

-- A call looks once where it doesn't know its stage. Beyond that a changing call doesn't look, a question and `ready` look once, and a
-- join as often as it may. What two passes tell each other are events alone.
pub record FewSteps (d : Desk) (p q : Pass) : Type 0 where
  pub answered : (call : Call) (reply : Reply) → DeskAnswers d p call reply q → TakesSteps 1 p q × (KnowsStages p call → TakesSteps 0 p q)
  pub refused : (call : Call) (fault : DeskFault) → Refuses d p call q fault → TakesSteps 1 p q × (KnowsStages p call → TakesSteps 0 p q)
  pub told : (ask : Ask) (answer : Told) → DeskTells d p ask answer q → TakesSteps 2 p q × (AsksStage p ask → TakesSteps 1 p q)
  pub joined : (stage most : ℕ) (answer : Joined) → TellsJoined d stage most p answer q → TakesSteps (most + 1) p q
  pub untold : (ask : Ask) (fault : DeskFault) → RefusesToTell d p ask q fault → TakesSteps 1 p q
  pub ready : Follows p q → LooksOnce d p q → TakesSteps 1 p q
  pub met : (r s : Pass) → Meets p r q s ⊎ Meets r p s q → TakesSteps 0 p q
  pub heeded : (notice : Notice) → Heeds p notice q → TakesSteps 0 p q

abbrev pub CallsTakeFewSteps : Type 0
CallsTakeFewSteps = (d : Desk) (p q : Pass) → FewSteps d p q

-- calls of one pass, in order: of each how many steps may be looks, and the pass as it leaves it
abbrev pub AreCalls : Pass → List (ℕ × Pass) → Type 0
AreCalls p [] = Unit {0}
AreCalls p (c ∷ cs) = TakesSteps c.0 p c.1 × AreCalls c.1 cs

abbrev pub after_calls : Pass → List (ℕ × Pass) → Pass
after_calls p [] = p
after_calls p (c ∷ cs) = after_calls c.1 cs

abbrev pub most_looks : List (ℕ × Pass) → ℕ
most_looks [] = 0
most_looks (c ∷ cs) = c.0 + most_looks cs

-- Calls take together a step at most for each word that their pass hadn't seen, and for each look that they may make. A new pass has
-- seen no word and taken no step.
abbrev pub PassesAreWaitFree : Type 0
PassesAreWaitFree =
    (p : Pass) (calls : List (ℕ × Pass)) (words : ℕ) → AreCalls p calls → place_in (after_calls p calls) ≤ words → steps_by (after_calls p calls) ≤ steps_by p + (words - place_in p) + most_looks calls
