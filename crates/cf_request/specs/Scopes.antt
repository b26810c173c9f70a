-- Scopes: stages that are cancelled together.
use Rattle.std.specs.Prelude.{◌≡◌, ◌⊎◌, ℕ, ◌+◌, ◌<◌, ◌≤◌, true, false, cond, Option, Some, None, List, All, Contains, length}
use Rattle.cf_model.specs.declared.events.Event.{Event}
use Rattle.cf_model.specs.declared.events.Event.TheVariants.{Cancel as Cancels}
use Rattle.cf_model.specs.declared.events.Reply.{Reply}
use Rattle.cf_model.specs.declared.events.Reply.TheVariants.{Attach as ToldAttach}
use Rattle.cf_model.specs.declared.replies.Attached.TheVariants.{At}
use Rattle.cf_model.specs.Calls.{is_attach}
use Rattle.cf_model.specs.Ranges.{EventFits}
use Rattle.cf_model.specs.States.{State, claim_at}
use Rattle.cf_event.specs.Decoding.{event_of}
use Rattle.cf_event.specs.Words.{word_of}
use Rattle.cf_ledger.specs.declared.faults.StepFault.{StepFault}
use Rattle.cf_ledger.specs.declared.faults.StepFault.TheVariants as steps
use Rattle.cf_request.specs.Joins.{IsOfOne}
use Rattle.cf_request.specs.Machines.{AppliesWord, AreBothThere, FindsFor, IsShortFor, Machine, NoRelayFits, OnlyTeller, SetsOne, free_in, stages_in, state_in, waiting_in}
use Rattle.cf_request.specs.Rows.{AreCalls, Job, Out, all_jobs}
use Rattle.cf_request.specs.Telling.{Teller, is_settled_in}
use Rattle.cf_request.specs.declared.faults.ScopeFault.{ScopeFault}
use Rattle.cf_request.specs.declared.faults.ScopeFault.TheVariants.{NoMemory, NoEvent, NoStage, NoRoom, ScopeEnded}
use Rattle.cf_request.specs.declared.joins.Join.{Join}

-- a scope is a stage, and has ended once that is settled
abbrev pub HasEnded : State → ℕ → Type 0
HasEnded s scope = is_settled_in s.stages scope ≡ true

-- a stage is of a scope: one of the joins cancels it once the scope has ended
pub record IsOf (follows : List Join) (scope stage : ℕ) : Type 0 where
  pub join : Join
  pub among : Contains follows join
  pub is : IsOfOne stage scope true join

-- it is of the scope, or of one that is within it
pub data IsWithin (follows : List Join) (scope : ℕ) : ℕ → Type 0 where
  outer : (stage : ℕ) → IsOf follows scope stage → IsWithin follows scope stage
  inner : (between stage : ℕ) → IsWithin follows scope between → IsOf follows between stage → IsWithin follows scope stage

-- no stage within a scope is open
abbrev pub NoneOpenWithin : List Join → ℕ → State → Type 0
NoneOpenWithin follows scope s = (stage : ℕ) → IsWithin follows scope stage → is_settled_in s.stages stage ≡ true

-- none is open within a scope that has ended
abbrev pub NoneOutlives : List Join → State → Type 0
NoneOutlives follows s = (scope : ℕ) → HasEnded s scope → NoneOpenWithin follows scope s

-- ---- which stages are of a scope

-- a stage is of a scope from now on, which is open
pub record PutsIn (scope stage : ℕ) (old new : Machine) : Type 0 where
  pub open_then : is_settled_in (state_in old).stages scope ≡ false
  pub sets : SetsOne stage scope true old new

-- it may be: both are there, and the scope is open
pub record MayPut (scope stage : ℕ) (m : Machine) : Type 0 where
  pub there : AreBothThere stage scope m
  pub open_now : is_settled_in (state_in m).stages scope ≡ false

-- why it isn't: the first of these, and want of memory is the last
abbrev pub IsNoPut : ℕ → ℕ → Machine → ScopeFault → Type 0
IsNoPut scope stage m NoMemory = MayPut scope stage m × (IsShortFor 1 m ⊎ NoRelayFits m)
IsNoPut scope stage m NoEvent = ⊥
IsNoPut scope stage m NoStage = ¬ AreBothThere stage scope m
IsNoPut scope stage m NoRoom = ⊥
IsNoPut scope stage m ScopeEnded = AreBothThere stage scope m × HasEnded (state_in m) scope

-- a word is an attach's, of a stage whose sources are there, and there is room
pub record MayAttach (word : ℕ) (s : State) : Type 0 where
  pub event : Event
  pub read : event_of word ≡ Some event
  pub attaches : is_attach event ≡ true
  pub fits : EventFits (length s.plan.stages) event
  pub room : 0 < s.plan.room

-- a word attaches no stage
abbrev pub AttachesNone : ℕ → Type 0
AttachesNone word = (e : Event) → event_of word ≡ Some e → is_attach e ≡ false

-- why it attaches none: the first of these
abbrev pub MayNotAttach : ℕ → State → ScopeFault → Type 0
MayNotAttach word s NoMemory = ⊥
MayNotAttach word s NoEvent = AttachesNone word
MayNotAttach word s NoStage = (e : Event) × (event_of word ≡ Some e) × (is_attach e ≡ true) × ¬ EventFits (length s.plan.stages) e
MayNotAttach word s NoRoom = (e : Event) × (event_of word ≡ Some e) × (is_attach e ≡ true) × EventFits (length s.plan.stages) e × (s.plan.room ≡ 0)
MayNotAttach word s ScopeEnded = ⊥

-- memory is found, the word attaches a stage, and the stage is of the scope from then on
pub record AttachesIn (word lane scope : ℕ) (old : Machine) (stage : ℕ) (new : Machine) : Type 0 where
  pub found : Teller
  pub finds : FindsFor 2 old found
  pub between : Teller
  pub attaches : AppliesWord word lane (record old { teller = found }) (ToldAttach (At stage)) (record old { teller = between })
  pub puts : PutsIn scope stage (record old { teller = between }) new

-- memory is found for two words, and a place for one join more
pub record FindsPlace (old new : Machine) : Type 0 where
  pub finds : FindsFor 2 old new.teller
  pub enough : 2 + waiting_in old ≤ free_in new
  pub place : length old.follows < new.relay_places
  pub places : old.relay_places ≤ new.relay_places
  pub same : new ≡ record old { teller = new.teller; relay_places = new.relay_places }

-- a word attaches the next stage, no other stage changes, and memory is left
pub record AttachesFound (word lane : ℕ) (old new : Machine) : Type 0 where
  pub applies : AppliesWord word lane old (ToldAttach (At (stages_in old))) new
  pub next : stages_in new ≡ stages_in old + 1
  pub stays : (i : ℕ) → i < stages_in old → is_settled_in (state_in new).stages i ≡ is_settled_in (state_in old).stages i
  pub memory : 1 + waiting_in new ≤ free_in new
  pub same : OnlyTeller old new

-- a scope is there, and open
abbrev pub IsOpenScope : ℕ → Machine → Type 0
IsOpenScope scope m = (scope < stages_in m) × (is_settled_in (state_in m).stages scope ≡ false)

-- why it isn't
abbrev pub IsNoScope : ℕ → State → ScopeFault → Type 0
IsNoScope scope s NoMemory = ⊥
IsNoScope scope s NoEvent = ⊥
IsNoScope scope s NoStage = length s.plan.stages ≤ scope
IsNoScope scope s NoRoom = ⊥
IsNoScope scope s ScopeEnded = (scope < length s.plan.stages) × HasEnded s scope

-- why none is attached: the first of these, and want of memory is the last
abbrev pub IsNoAttachIn : ℕ → ℕ → Machine → ScopeFault → Type 0
IsNoAttachIn word scope m NoMemory = IsOpenScope scope m × MayAttach word (state_in m) × (IsShortFor 2 m ⊎ NoRelayFits m)
IsNoAttachIn word scope m NoEvent = IsOpenScope scope m × MayNotAttach word (state_in m) NoEvent
IsNoAttachIn word scope m NoStage = (stages_in m ≤ scope) ⊎ (IsOpenScope scope m × MayNotAttach word (state_in m) NoStage)
IsNoAttachIn word scope m NoRoom = IsOpenScope scope m × MayNotAttach word (state_in m) NoRoom
IsNoAttachIn word scope m ScopeEnded = (scope < stages_in m) × HasEnded (state_in m) scope

-- ---- claims that are open for nothing

-- the caller whose claim of a stage is open though the stage is settled
abbrev pub stopped_in : State → ℕ → Option ℕ
stopped_in s i = cond (is_settled_in s.stages i) (claim_at s i) None

-- ---- how a scope ends

-- it has ended and nothing is done, or else its stage is cancelled by a word of the caller, and then all that is due is settled
abbrev pub EndsNow : ℕ → ℕ → Machine → Machine → Type 0
EndsNow who scope old new =
    (HasEnded (state_in old) scope × (new ≡ old)) ⊎ ((reply : Reply) × (is_settled_in (state_in old).stages scope ≡ false) × AppliesWord (word_of (Cancels who scope)) 0 old reply new)

-- a caller ends a scope; it has ended then, and no stage within it is open
pub record EndsScope (who scope : ℕ) (old new : Machine) : Type 0 where
  pub does : EndsNow who scope old new
  pub ended : HasEnded (state_in new) scope
  pub none : NoneOpenWithin new.follows scope (state_in new)

-- why it doesn't end: the first of these, and want of memory is the last
abbrev pub IsNoEnd : ℕ → ℕ → Machine → StepFault → Type 0
IsNoEnd who scope m steps.NoMemory = (who ≤ 63) × IsOpenScope scope m × IsShortFor 1 m
IsNoEnd who scope m steps.NoCaller = 63 < who
IsNoEnd who scope m steps.NoStage = (who ≤ 63) × (stages_in m ≤ scope)
IsNoEnd who scope m steps.NotHeld = ⊥

-- ---- rows of calls

-- behind the end of a scope no function is told, over any row of calls, of a stage within it
abbrev pub RunsNoneWithin : Type 0
RunsNoneWithin = (old new : Machine) (outs : List Out) (scope : ℕ) → NoneOpenWithin old.follows scope (state_in old) → AreCalls old outs new →
    All (λ (job : Job). ¬ IsWithin old.follows scope job.taken.stage) (all_jobs outs)
