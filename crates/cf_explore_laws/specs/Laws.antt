-- That a search of all orders covers what callers of a desk were told.
use Rattle.std.specs.Prelude.{◌≡◌, ℕ, ◌<◌, ◌++◌, true, false, Option, Some, None, List, Contains, map, slice_get}
use Rattle.cf_forms.specs.Meanings.{Meanings}
use Rattle.cf_forms.specs.Plans.{Planned}
use Rattle.cf_model.specs.declared.events.Event.{Event}
use Rattle.cf_model.specs.States.{outcome_of, start}
use Rattle.cf_model.specs.Events.{state_after}
use Rattle.cf_event.specs.declared.record.Record.{Record}
use Rattle.cf_event.specs.Histories.{IsOneHistory}
use Rattle.cf_explore.specs.declared.condition.Condition.{Condition}
use Rattle.cf_explore.specs.declared.found.End.{End}
use Rattle.cf_explore.specs.declared.found.Found.{Found}
use Rattle.cf_explore.specs.declared.found.Witness.{Witness}
use Rattle.cf_explore.specs.declared.step.Move.{Move}
use Rattle.cf_explore.specs.Programs.{Programmed, Situated, start_of}
use Rattle.cf_explore.specs.Orders.{led}
use Rattle.cf_explore.specs.Conditions.{decides}
use Rattle.cf_explore.specs.Found.{IsFound}
use Rattle.cf_explore_laws.specs.Reads.{AreCallersBut}
use Rattle.cf_explore_laws.specs.Tellings.{AreNumbered, IsOrderOf, IsProgramOf, program_of}

-- Where what callers were told is one history, so is what is left of it without some reads: a program needn't have all of them.
abbrev pub ReadsMayBeLeftOut : Type 0
ReadsMayBeLeftOut =
    (plan : Planned) (functions : ℕ) (history : List Event) (callers fewer : List (ℕ × List Record)) →
    IsOneHistory plan functions history callers → AreCallersBut fewer callers → IsOneHistory plan functions history fewer

-- There is a program of whatever callers were told, without workers.
abbrev pub ProgramsAreThere : Type 0
ProgramsAreThere =
    (m : Meanings) (plan : Planned) (history : List Event) (callers : List (ℕ × List Record)) → AreNumbered callers → IsProgramOf m plan history callers (program_of plan callers)

-- there is an order that is this history
abbrev pub HasOrder : Meanings → Programmed → List Event → List (ℕ × List Record) → Type 0
HasOrder m p history callers = (order : List Move) × (s : Situated) × IsOrderOf m p history callers order s

-- Where what callers were told is one history, it is an order of each program whose callers make the same calls, and with as many workers
-- as there are other callers, who have worked.
abbrev pub HistoriesAreOrders : Type 0
HistoriesAreOrders =
    (m : Meanings) (plan : Planned) (functions : ℕ) (history : List Event) (callers : List (ℕ × List Record)) (p : Programmed) →
    IsOneHistory plan functions history callers → IsProgramOf m plan history callers p → HasOrder m p history callers

-- the outcomes that a history leaves are among these ends, with an order at least
abbrev pub IsAmong : Planned → List Event → List End → Type 0
IsAmong plan history ends =
    (e : End) × Contains ends e × (e.outcomes.items ≡ map outcome_of (state_after (start plan) history).stages) × (0 < e.orders)

-- So a search that saw all orders tells its outcomes.
abbrev pub SearchesCoverHistories : Type 0
SearchesCoverHistories =
    (m : Meanings) (plan : Planned) (functions : ℕ) (history : List Event) (callers : List (ℕ × List Record)) (p : Programmed) (conditions : List Condition) (found : Found) →
    IsOneHistory plan functions history callers → IsProgramOf m plan history callers p → IsFound m p conditions found → found.whole ≡ true → IsAmong plan history found.ends.items

-- the search finds no order that decides this condition
abbrev pub IsUndecidedBy : List Condition → List (Option Witness) → Condition → Type 0
IsUndecidedBy conditions decisions condition =
    (i : ℕ) × (slice_get conditions i ≡ Some condition) × (slice_get decisions i ≡ Some None)

-- none of the situations of an order decides it
abbrev pub DecidesNowhere : Meanings → Programmed → Condition → List Move → Type 0
DecidesNowhere m p condition order =
    (before later : List Move) → order ≡ before ++ later → decides p condition (led m p (start_of p) before) ≡ false

-- And a condition that it finds no order to decide is decided in no situation of that order.
abbrev pub SearchesJudgeHistories : Type 0
SearchesJudgeHistories =
    (m : Meanings) (plan : Planned) (functions : ℕ) (history : List Event) (callers : List (ℕ × List Record)) (p : Programmed) (conditions : List Condition) (found : Found) (condition : Condition) →
    IsOneHistory plan functions history callers → IsProgramOf m plan history callers p → IsFound m p conditions found → found.whole ≡ true → IsUndecidedBy conditions found.decisions.items condition →
    (order : List Move) × (s : Situated) × IsOrderOf m p history callers order s × DecidesNowhere m p condition order
