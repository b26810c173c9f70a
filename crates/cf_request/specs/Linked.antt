-- What a compose ends with that was finished with any stage, over rows of calls.
use Rattle.std.specs.Prelude.{◌≡◌, ◌⊎◌, ℕ, ◌<◌, true, false, Some, List, [], Contains}
use Rattle.cf_outcome.specs.declared.outcome.Outcome.{Outcome}
use Rattle.cf_outcome.specs.Outcomes.{wrap}
use Rattle.cf_ledger.specs.Ledgers.{state_of}
use Rattle.cf_ledger.specs.declared.step.Finish.{Finish}
use Rattle.cf_forms.specs.declared.forms.Answer.TheVariants.{Link}
use Rattle.cf_forms.specs.Forms.{composes}
use Rattle.cf_forms.specs.Plans.{form_at}
use Rattle.cf_model.specs.declared.events.Event.{Event}
use Rattle.cf_model.specs.declared.events.Event.TheVariants.{Finish as Finishes, Tick as Ticks}
use Rattle.cf_model.specs.States.{State, outcome_in}
use Rattle.cf_request.specs.Composing.{Links}
use Rattle.cf_request.specs.Endings.{SettlesFirst, WasSettled}
use Rattle.cf_request.specs.Joins.{IsFollow}
use Rattle.cf_request.specs.Machines.{Machine, state_in}
use Rattle.cf_request.specs.Rows.{AreCalls, HasWord, IsOpened, Out}
use Rattle.cf_request.specs.Settling.{raw}
use Rattle.cf_request.specs.Telling.{Teller, is_settled_in}
use Rattle.cf_request.specs.declared.composing.Composed.{Composed}
use Rattle.cf_request.specs.declared.joins.Join.{Join}

-- an event fires limits, so it may settle several stages by themselves
abbrev pub IsTick : Event → Type 0
IsTick e = (who : ℕ) × (now : ℕ) × (e ≡ Ticks who now)

-- a stage was settled in between, and not by what another ended as: by a word that left the other open, or by a tick
pub record CameFirst (stage other : ℕ) (old new : Teller) : Type 0 where
  pub was : WasSettled stage old new
  pub how : (is_settled_in (state_of was.after.ledger).stages other ≡ false) ⊎ IsTick was.tells.does.event

-- it has the outcome of the other, wrapped
pub record HasTaken (stage other : ℕ) (s : State) : Type 0 where
  pub outcome : Outcome
  pub given : outcome_in s.stages other ≡ Some outcome
  pub taken : outcome_in s.stages stage ≡ Some (wrap outcome)

-- both are open
pub record AreBothOpen (stage other : ℕ) (s : State) : Type 0 where
  pub stage_open : is_settled_in s.stages stage ≡ false
  pub other_open : is_settled_in s.stages other ≡ false

-- A stage ends as another: both are open, or it has that one's outcome, or it was settled first.
abbrev pub EndsAs : ℕ → ℕ → Teller → Teller → Type 0
EndsAs stage other old new = AreBothOpen stage other (state_of new.ledger) ⊎ (HasTaken stage other (state_of new.ledger) ⊎ CameFirst stage other old new)

-- it has the outcome of the other, raw
pub record HasFollowed (stage other : ℕ) (s : State) : Type 0 where
  pub outcome : Outcome
  pub given : outcome_in s.stages other ≡ Some outcome
  pub followed : outcome_in s.stages stage ≡ Some (raw outcome)

-- a word settles the first of the joins that are due, and that was set before this one
pub record IsTurnBefore (follows : List Join) (join : Join) (stage : ℕ) (before after : Teller) (event : Event) : Type 0 where
  pub turn : SettlesFirst follows stage before after event
  pub behind : Contains turn.first.back join

-- a relay was settled in between, and not by its stage: while that was open, or where it was the turn of a join that was set before
pub record WasOvertaken (follows : List Join) (relay stage : ℕ) (old new : Teller) : Type 0 where
  pub join : Join
  pub is : IsFollow relay stage join
  pub was : WasSettled relay old new
  pub how : (is_settled_in (state_of was.before.ledger).stages stage ≡ false) ⊎ IsTurnBefore follows join relay was.before was.after was.tells.does.event

-- A relay follows a stage: both are open, or it has that one's outcome, or it was settled otherwise.
abbrev pub FollowsExactly : List Join → ℕ → ℕ → Teller → Teller → Type 0
FollowsExactly follows relay stage old new = AreBothOpen relay stage (state_of new.ledger) ⊎ (HasFollowed relay stage (state_of new.ledger) ⊎ WasOvertaken follows relay stage old new)

-- once the stage is settled, its compose is; the compose ends as its relay, and the relay follows the stage
pub record EndsAlike (composed : Composed) (stage : ℕ) (old new : Machine) : Type 0 where
  pub settled : is_settled_in (state_in new).stages stage ≡ true → is_settled_in (state_in new).stages composed.stage ≡ true
  pub compose : EndsAs composed.stage composed.relay old.teller new.teller
  pub relay : is_settled_in (state_in old).stages composed.relay ≡ false → FollowsExactly new.follows composed.relay stage old.teller new.teller

-- So it is of a compose that was linked in time, above its relay, after any row of calls: it was linked in a row that began as a request is opened.
abbrev pub LinksEndAlike : Type 0
LinksEndAlike = (first old linked new : Machine) (before after : List Out) (who : ℕ) (composed : Composed) (stage : ℕ) (finish : Finish) → IsOpened first → first.follows ≡ [] → AreCalls first before old →
    HasWord (Finishes who composed.stage (Link composed.relay)) →
    composes (form_at (state_in old).plan.stages composed.stage) ≡ true → composed.relay < composed.stage → Links who composed stage old finish linked → finish.late ≡ false → AreCalls linked after new → EndsAlike composed stage old new
