-- How stages came to be settled, over rows of calls.
use Rattle.std.specs.Prelude.{◌≡◌, ◌⊎◌, ℕ, true, false, Some, List, [], ◌∷◌, ◌++◌, All, Contains, is_some, map, slice_get}
use Rattle.std.specs.List.{filter}
use Rattle.cf_model.specs.declared.events.Event.{Event}
use Rattle.cf_model.specs.declared.events.Event.TheVariants.{Cancel as Cancels}
use Rattle.cf_model.specs.declared.events.Reply.{Reply}
use Rattle.cf_forms.specs.Plans.{sources_at}
use Rattle.cf_model.specs.declared.stage.Stage.TheVariants.{Linked}
use Rattle.cf_model.specs.States.{State, claim_at, outcome_in}
use Rattle.cf_ledger.specs.Ledgers.{state_of}
use Rattle.cf_request.specs.Joins.{IsUndecided, sources_of}
use Rattle.cf_request.specs.Machines.{Machine, SetsJoin, state_in}
use Rattle.cf_request.specs.Relays.{IsRelayDue, NoneBehind}
use Rattle.cf_request.specs.Rows.{AreCalls, HasWord, IsCall, IsLater, IsOpened, Out, all_told}
use Rattle.cf_request.specs.Scopes.{EndsScope, stopped_in}
use Rattle.cf_request.specs.Settling.{AreSettledInTurn, settle_event}
use Rattle.cf_request.specs.Telling.{IsApart, Teller, Tells, is_settled_in, order_in}
use Rattle.cf_request.specs.declared.joins.Join.{Join}
use Rattle.cf_request.specs.declared.settling.Due.{Due}

-- ---- a word among others

-- a teller later on: there are more events behind those of before, and what they settled is told behind the others
pub record IsOnward (old new : Teller) : Type 0 where
  pub later : IsLater old.ledger new.ledger
  pub more : List ℕ
  pub order : order_in new ≡ order_in old ++ more

-- one of the words that were done in between, and it settled this stage
pub record WasSettled (stage : ℕ) (old new : Teller) : Type 0 where
  pub before : Teller
  pub after : Teller
  pub word : ℕ
  pub reply : Reply
  pub since : IsOnward old before
  pub tells : Tells word before reply after
  pub rest : IsOnward after new
  pub open_then : is_settled_in (state_of before.ledger).stages stage ≡ false
  pub settled : is_settled_in (state_of after.ledger).stages stage ≡ true

-- ---- joins

-- the word settles the first of the joins that are due, and if that is one of this stage, the stage has what such a join ends with
pub record SettlesFirst (follows : List Join) (stage : ℕ) (before after : Teller) (event : Event) : Type 0 where
  pub who : ℕ
  pub due : Due
  pub is : event ≡ settle_event who due.stage due.outcome
  pub first : IsRelayDue follows before due
  pub ends : due.stage ≡ stage → outcome_in (state_of after.ledger).stages stage ≡ Some due.outcome

-- its stage was settled in between: while it was undecided, or where it was its turn, or that of a join before it
pub record WasEnded (follows : List Join) (join : Join) (old new : Teller) : Type 0 where
  pub was : WasSettled join.stage old new
  pub how : IsUndecided (outcome_in (state_of was.before.ledger).stages) join ⊎ SettlesFirst follows join.stage was.before was.after was.tells.does.event

-- a join is open and undecided, or its stage was settled in between
abbrev pub IsExact : List Join → Join → Teller → Teller → Type 0
IsExact follows join old new =
    ((is_settled_in (state_of new.ledger).stages join.stage ≡ false) × IsUndecided (outcome_in (state_of new.ledger).stages) join) ⊎ WasEnded follows join old new

-- so it is of each join whose stage was open as it was set: it was set in a row of calls that began as a request is opened, and more calls came
abbrev pub JoinsAreExact : Type 0
JoinsAreExact = (first old set new : Machine) (before after : List Out) (join : Join) → IsOpened first → first.follows ≡ [] → AreCalls first before old → is_settled_in (state_in old).stages join.stage ≡ false → SetsJoin join old set →
    AreCalls set after new → IsExact new.follows join old.teller new.teller

-- ---- scopes

-- A stage is reached from a scope: it is the scope, or it has a source that is reached, is linked to such a stage, or joins it.
pub data IsReached (follows : List Join) (s : State) (scope : ℕ) : ℕ → Type 0 where
  itself : IsReached follows s scope scope
  by_source : (from stage : ℕ) → IsReached follows s scope from → Contains (sources_at s.plan.stages stage) from → IsReached follows s scope stage
  by_link : (from stage : ℕ) → IsReached follows s scope from → slice_get s.stages stage ≡ Some (Linked from) → IsReached follows s scope stage
  by_join : (from : ℕ) (join : Join) → IsReached follows s scope from → Contains follows join → Contains (sources_of join) from → IsReached follows s scope join.stage

-- The caller cancels the scope's stage, and then the machine settles joins, each where it is the first that is due, and does nothing else. So each stage that is settled by that is reached from the scope.
pub record EndsByJoins (who scope : ℕ) (old new : Machine) : Type 0 where
  pub cancelled : Teller
  pub cancels : cancelled.ledger.events ≡ old.teller.ledger.events ++ Cancels who scope ∷ []
  pub dues : List Due
  pub are : AreSettledInTurn (IsRelayDue old.follows) old.own cancelled dues new.teller
  pub events : new.teller.ledger.events ≡ cancelled.ledger.events ++ map (λ (d : Due). settle_event old.own d.stage d.outcome) dues
  pub reached : (stage : ℕ) → is_settled_in (state_in old).stages stage ≡ false → is_settled_in (state_in new).stages stage ≡ true → IsReached old.follows (state_in old) scope stage

-- what the end of a scope adds, where no join is behind
abbrev pub EndsNothingElse : Type 0
EndsNothingElse = (who scope : ℕ) (old new : Machine) → HasWord (Cancels who scope) → NoneBehind old.follows (state_in old).stages → EndsScope who scope old new → (new ≡ old) ⊎ EndsByJoins who scope old new

-- ---- stops

-- those of these stages whose claim is open though they are settled
abbrev pub stops_of : State → List ℕ → List ℕ
stops_of s told = filter (λ i. is_some (stopped_in s i)) told

-- a row of calls, and which of the stages that they hand out as told have an open claim then
abbrev pub AreStops : Machine → List Out → List ℕ → Machine → Type 0
AreStops old [] stops new = (stops ≡ []) × (new ≡ old)
AreStops old (out ∷ outs) stops new =
    (between : Machine) × (rest : List ℕ) × (stops ≡ stops_of (state_in old) out.told ++ rest) × IsCall old out between × AreStops between outs rest new

-- none is told twice, and a stage that was told is among them if its claim is open still
pub record AreStopsOnce (outs : List Out) (stops : List ℕ) (new : Machine) : Type 0 where
  pub apart : IsApart stops
  pub told : All (Contains (all_told outs)) stops
  pub all : (i who : ℕ) → Contains (all_told outs) i → claim_at (state_in new) i ≡ Some who → Contains stops i

abbrev pub StopsOnce : Type 0
StopsOnce = (old new : Machine) (outs : List Out) (stops : List ℕ) → IsOpened old → AreStops old outs stops new → AreStopsOnce outs stops new
