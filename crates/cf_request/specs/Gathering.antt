-- Stages that gather any number of others.
use Rattle.std.specs.Prelude.{◌≡◌, ℕ, ◌+◌, ◌-◌, ◌<◌, ◌≤◌, Option, None, List, [], ◌∷◌, All, drop, length, map, take}
use Rattle.cf_outcome.specs.declared.outcome.Outcome.{Outcome}
use Rattle.cf_forms.specs.declared.forms.Form.{Form}
use Rattle.cf_forms.specs.declared.forms.Form.TheVariants as forms
use Rattle.cf_forms.specs.Forms.{follows}
use Rattle.cf_forms.specs.declared.forms.Of.{Of}
use Rattle.cf_forms.specs.declared.forms.Of.TheVariants.{None as NoSource, One, Two}
use Rattle.cf_model.specs.declared.events.Event.{Event}
use Rattle.cf_model.specs.declared.events.Event.TheVariants.{Attach as Attaches}
use Rattle.cf_model.specs.States.{State, due_state, outcome_in, outcome_of}
use Rattle.cf_ledger.specs.declared.faults.LedgerFault.{LedgerFault}
use Rattle.cf_ledger.specs.declared.faults.LedgerFault.TheVariants.{NoMemory, NoEvent, NoStage, NoRoom}
use Rattle.cf_request.specs.Attaching.{TellsAttaches}
use Rattle.cf_request.specs.Machines.{FindsFor, IsShortFor, Machine, OnlyTeller, stages_in, state_in}
use Rattle.cf_request.specs.Telling.{Teller}
use Rattle.cf_request.specs.declared.gathering.Gathering.{Gathering}
use Rattle.cf_request.specs.declared.gathering.Gathering.TheVariants.{AllOf, AnyOf}

-- ---- the events

-- the form of each stage that gathers so
abbrev pub form_of : Gathering → Form
form_of AllOf = forms.AllOf
form_of AnyOf = forms.AnyOf

-- a caller attaches one more stage over these
abbrev pub attaches : ℕ → Gathering → Of → Event
attaches who how of = Attaches who (form_of how) of None

-- the first two of these, or as many as there are
abbrev pub first_two : List ℕ → Of
first_two [] = NoSource
first_two (source ∷ []) = One source
first_two (source ∷ other ∷ sources) = Two source other

-- one stage more for each of these sources joins it with the stage before; the first of them gets this number
abbrev pub joins : ℕ → Gathering → ℕ → ℕ → List ℕ → List Event
joins who how next before [] = []
joins who how next before (source ∷ sources) = attaches who how (Two before source) ∷ joins who how (next + 1) next sources

-- A caller gathers these sources: the first stage gathers two of them, and each stage behind it one more. The last of these stages is the root.
abbrev pub gathers : ℕ → Gathering → ℕ → List ℕ → List Event
gathers who how next sources = attaches who how (first_two sources) ∷ joins who how (next + 1) next (drop 2 sources)

-- how many stages that takes
abbrev pub stages_for : List ℕ → ℕ
stages_for sources = 1 + (length sources - 2)

-- ---- what they do

-- the caller has words, the sources are there, and so is room
pub record MayGather (who : ℕ) (sources : List ℕ) (s : State) : Type 0 where
  pub caller : who ≤ 63
  pub there : All (λ i. i < length s.plan.stages) sources
  pub room : stages_for sources ≤ s.plan.room

-- Nothing stands against it. Memory is found for all of them and for each relay that is open; they are done, and nothing else.
pub record Gathers (who : ℕ) (how : Gathering) (sources : List ℕ) (old : Machine) (root : ℕ) (new : Machine) : Type 0 where
  pub may : MayGather who sources (state_in old)
  pub found : Teller
  pub finds : FindsFor (stages_for sources) old found
  pub tells : TellsAttaches 0 (gathers who how (stages_in old) sources) found new.teller
  pub is_root : root + 1 ≡ stages_in new
  pub same : OnlyTeller old new

-- ---- why nothing is gathered

-- why it may not: the first of these
abbrev pub MayNotGather : ℕ → List ℕ → State → LedgerFault → Type 0
MayNotGather who sources s NoMemory = ⊥
MayNotGather who sources s NoEvent = 63 < who
MayNotGather who sources s NoStage = (who ≤ 63) × ¬ All (λ i. i < length s.plan.stages) sources
MayNotGather who sources s NoRoom = (who ≤ 63) × All (λ i. i < length s.plan.stages) sources × (s.plan.room < stages_for sources)

-- and want of memory is the last
abbrev pub IsNoGather : ℕ → List ℕ → Machine → LedgerFault → Type 0
IsNoGather who sources m NoMemory = MayGather who sources (state_in m) × IsShortFor (stages_for sources) m
IsNoGather who sources m fault = MayNotGather who sources (state_in m) fault

-- ---- what the root has

-- what a stage that gathers so has once its sources have these outcomes, or none
abbrev pub gathered : Gathering → List (Option Outcome) → Option Outcome
gathered how outcomes = outcome_of (due_state (follows (form_of how) outcomes))

-- what the last of the stages has that join these, where the stage before them has this
abbrev pub joined : Gathering → Option Outcome → List (Option Outcome) → Option Outcome
joined how before [] = before
joined how before (o ∷ outcomes) = joined how (gathered how (before ∷ o ∷ [])) outcomes

-- The first stage has what its two sources give, and each behind it what the one before and one source more give. So the root has what all sources give.
abbrev pub GathersAsOne : Type 0
GathersAsOne =
    (how : Gathering) (outcomes : List (Option Outcome)) → joined how (gathered how (take 2 outcomes)) (drop 2 outcomes) ≡ gathered how outcomes

-- Where they are attached, the root has at once what one stage of this form with all these sources has.
abbrev pub GathersAtOnce : Type 0
GathersAtOnce =
    (who : ℕ) (how : Gathering) (sources : List ℕ) (root : ℕ) (old new : Machine) → Gathers who how sources old root new →
    outcome_in (state_in new).stages root ≡ gathered how (map (outcome_in (state_in old).stages) sources)
