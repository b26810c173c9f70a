-- What a contract sees of a graph.
use Rattle.std.specs.Prelude.{◌≡◌, ◌≢◌, ℕ, ◌+◌, ◌<◌, ◌≤◌, ◌||◌, Bool, true, false, Option, Some, None, IfSome, List, [], ◌∷◌, ◌++◌, All, Contains, is_some, length, map, slice_get, unwrap_or, if◌then◌else◌}
use Rattle.std.specs.List.{list_any}
use Rattle.cf_forms.specs.declared.forms.Form.{Form}
use Rattle.cf_forms.specs.declared.limits.Limit.{Limit}
use Rattle.cf_forms.specs.Forms.{starts}
use Rattle.cf_forms.specs.Plans.{PlannedStage, edges_of, sources_of}
use Rattle.cf_model.specs.declared.asks.Ask.{Ask}
use Rattle.cf_model.specs.declared.asks.Ask.TheVariants.{Now as AsksNow, Outcome as AsksOutcome}
use Rattle.cf_model.specs.declared.events.Event.{Event}
use Rattle.cf_model.specs.declared.events.Event.TheVariants.{Complete as Completes, Fail as Fails, FailAs as FailsAs, Cancel as Cancels, Claim as Claims, Finish as Finishes, Tick as Ticks, Attach as Attaches}
use Rattle.cf_model.specs.declared.stage.Stage.{Stage}
use Rattle.cf_model.specs.declared.stage.Stage.TheVariants.{Pending, Ready, Claimed, Linked, Settled}
use Rattle.cf_model.specs.States.{State, is_ready, outcome_at}
use Rattle.cf_model.specs.Events.{due_limits}

pub record Graph : Type 0 where
  -- the state in which all consequences have come to pass, whether they were worked out yet or not
  pub state : State
  -- how many turns were taken since the graph was opened, or was last restarted
  pub turns : ℕ
  -- the lowest stage that a turn is left for, or none
  pub left : Option ℕ
  -- each stage as far as consequences were worked out: where no turn is left, as in the state
  pub kept : List Stage

-- how many turns a graph of this plan takes at most since its opening, or since its last restart
abbrev pub most_turns : List PlannedStage → ℕ
most_turns plan = edges_of plan + length plan

-- a call counts its turns: there are no fewer than before, and no more than a graph of its plan takes
pub record CountsTurns (old new : Graph) : Type 0 where
  pub counted : old.turns ≤ new.turns
  pub few : new.turns ≤ most_turns new.state.plan.stages

-- the graph once it is moment now, and this many more limits are used
abbrev pub advanced : Graph → ℕ → ℕ → Graph
advanced g now count = record g { state = record g.state { moment = now; used = g.state.used + count } }

-- ---- no more turns than are needed

-- no turn is left for a stage up to this one
abbrev pub NoneLeftUpTo : ℕ → Option ℕ → Type 0
NoneLeftUpTo d left = IfSome left (λ m. d < m)

-- and for no stage at all, where there is no such one
abbrev pub NoneLeftFor : Option ℕ → Option ℕ → Type 0
NoneLeftFor None left = left ≡ None
NoneLeftFor (Some d) left = NoneLeftUpTo d left

-- a call that needs what is due up to a stage takes no turn where none is left up to there
abbrev pub RestsUpTo : ℕ → Graph → Graph → Type 0
RestsUpTo d old new = NoneLeftUpTo d old.left → new.turns ≡ old.turns

-- Nor does a call by which these limits are due, where it is one or none. Where there are several, one can leave turns that the next needs.
abbrev pub RestsForLimits : List Limit → Graph → Graph → Type 0
RestsForLimits [] old new = new.turns ≡ old.turns
RestsForLimits (limit ∷ []) old new = RestsUpTo limit.stage old new
RestsForLimits (limit ∷ next ∷ limits) old new = Unit {0}

-- whether a stage that is attached takes something at once: it starts by itself, or one of its sources is settled
abbrev pub takes_at_once : State → Form → List ℕ → Bool
takes_at_once s form sources = starts form sources || list_any is_some (map (outcome_at s) sources)

-- Attaching takes no turn where there is no room. Where there is, and none is left, it takes one for the new stage if that takes something, and else none.
pub record RestsAttaching (form : Form) (sources : List ℕ) (old new : Graph) : Type 0 where
  pub full : old.state.plan.room ≡ 0 → new.turns ≡ old.turns
  pub one : 0 < old.state.plan.room → old.left ≡ None → new.turns ≡ old.turns + (if takes_at_once old.state form sources then 1 else 0)

-- an event takes no turn that it doesn't need, where none is left that it needs
abbrev pub Rests : Event → Graph → Graph → Type 0
Rests (Completes who i v) old new = RestsUpTo i old new
Rests (Fails who i code) old new = RestsUpTo i old new
Rests (FailsAs who i failure) old new = RestsUpTo i old new
Rests (Cancels who i) old new = RestsUpTo i old new
Rests (Claims who i) old new = RestsUpTo i old new
Rests (Finishes who i answer) old new = RestsUpTo i old new
Rests (Ticks who now) old new = RestsForLimits (due_limits old.state now) old new
Rests (Attaches who form of function) old new = RestsAttaching form (sources_of of) old new

-- the stage that is asked about
abbrev pub asked_stage : Ask → ℕ
asked_stage (AsksNow i absent) = i
asked_stage (AsksOutcome i) = i

-- ---- which stages a call moves on

-- how far a stage has come, which is never back
abbrev pub rank : Stage → ℕ
rank Pending = 0
rank (Ready args) = 1
rank Claimed = 2
rank (Linked j) = 3
rank (Settled o) = 4

-- a stage's state; one that isn't there yet is pending
abbrev pub stage_in : List Stage → ℕ → Stage
stage_in stages i = unwrap_or (slice_get stages i) Pending

-- none of the stages from a number on and below another is ready
abbrev pub NoneReady : ℕ → ℕ → List Stage → Type 0
NoneReady from below stages = (i : ℕ) → from ≤ i → i < below → is_ready (stage_in stages i) ≡ false

-- of all stages at most stage d is another, and it has come further then
pub record MovesAlone (d : ℕ) (old new : List Stage) : Type 0 where
  pub others : (i : ℕ) → i ≢ d → stage_in new i ≡ stage_in old i
  pub onward : rank (stage_in old d) ≤ rank (stage_in new d)
  pub stays : rank (stage_in new d) ≡ rank (stage_in old d) → stage_in new d ≡ stage_in old d

-- where no turn was left, a call on stage d moves no other as far as it is kept, and leaves turns of stages above it alone
abbrev pub MovesOnly : ℕ → Graph → Graph → Type 0
MovesOnly d old new = old.left ≡ None → MovesAlone d old.kept new.kept × NoneLeftUpTo d new.left

-- the stage that an event moves by itself where there are so many; a tick moves any
abbrev pub moved_by : ℕ → Event → ℕ
moved_by count (Completes who i v) = i
moved_by count (Fails who i code) = i
moved_by count (FailsAs who i failure) = i
moved_by count (Cancels who i) = i
moved_by count (Claims who i) = i
moved_by count (Finishes who i answer) = i
moved_by count (Ticks who now) = count
moved_by count (Attaches who form of function) = count

-- and so does an event: it moves its own stage, or the one that it attaches
abbrev pub MovesOwn : Event → Graph → Graph → Type 0
MovesOwn (Ticks who now) old new = Unit {0}
MovesOwn e old new = MovesOnly (moved_by (length old.state.plan.stages) e) old new

-- these flags say which stages differ
pub record AreChanges (old new : List Stage) (changed : List Bool) : Type 0 where
  pub same : (i : ℕ) → slice_get changed i ≡ Some false → stage_in new i ≡ stage_in old i
  pub differs : (i : ℕ) → slice_get changed i ≡ Some true → stage_in new i ≢ stage_in old i

-- each number is above those before it
abbrev pub IsClimbing : List ℕ → Type 0
IsClimbing [] = Unit {0}
IsClimbing (x ∷ xs) = All (λ later. x < later) xs × IsClimbing xs

-- these are the stages whose states differ, rising; one that wasn't there was pending
pub record AreNews (old new : List Stage) (news : List ℕ) : Type 0 where
  pub rising : IsClimbing news
  pub differ : All (λ i. stage_in new i ≢ stage_in old i) news
  pub all : (i : ℕ) → stage_in new i ≢ stage_in old i → Contains news i

-- they are written behind those of a row
pub record WritesNews (old new : List Stage) (row row' : List ℕ) : Type 0 where
  pub xs : List ℕ
  pub written : row' ≡ row ++ xs
  pub news : AreNews old new xs
