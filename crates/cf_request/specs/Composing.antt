-- Composes with their relays, and composes that are finished with any stage.
use Rattle.std.specs.Prelude.{◌≡◌, ◌≢◌, ◌⊎◌, ℕ, ◌+◌, ◌<◌, ◌≤◌, None, Some, List, [], ◌∷◌, length}
use Rattle.cf_forms.specs.declared.forms.Answer.TheVariants.{Link}
use Rattle.cf_forms.specs.declared.forms.Form.{Form}
use Rattle.cf_forms.specs.declared.forms.Form.TheVariants as forms
use Rattle.cf_forms.specs.declared.forms.Of.TheVariants.{None as NoSource, One}
use Rattle.cf_model.specs.declared.events.Event.{Event}
use Rattle.cf_model.specs.declared.events.Event.TheVariants.{Attach as Attaches, Finish as Finishes}
use Rattle.cf_model.specs.declared.events.Reply.TheVariants.{Finish as ToldFinish}
use Rattle.cf_model.specs.States.{State, claim_at}
use Rattle.cf_event.specs.Words.{word_of}
use Rattle.cf_ledger.specs.Steps.{finished_as}
use Rattle.cf_ledger.specs.declared.faults.LedgerFault.{LedgerFault}
use Rattle.cf_ledger.specs.declared.faults.LedgerFault.TheVariants.{NoMemory, NoEvent, NoStage, NoRoom}
use Rattle.cf_ledger.specs.declared.faults.StepFault.{StepFault}
use Rattle.cf_ledger.specs.declared.faults.StepFault.TheVariants as steps
use Rattle.cf_ledger.specs.declared.step.Finish.{Finish}
use Rattle.cf_request.specs.Attaching.{TellsAttaches}
use Rattle.cf_request.specs.Machines.{AppliesWord, FindsFor, IsShortFor, Machine, NoRelayFits, OnlyTeller, SetsFollow, stages_in, state_in}
use Rattle.cf_request.specs.Telling.{Teller}
use Rattle.cf_request.specs.declared.composing.Composed.{Composed}
use Rattle.cf_request.specs.declared.composing.Composing.{Composing}
use Rattle.cf_request.specs.declared.composing.Composing.TheVariants.{Compose, ExceptionallyCompose}

-- ---- a compose with its relay

abbrev pub form_of : Composing → Form
form_of Compose = forms.Compose
form_of ExceptionallyCompose = forms.ExceptionallyCompose

-- a caller attaches a relay, which is a source
abbrev pub attaches_relay : ℕ → Event
attaches_relay who = Attaches who forms.Source NoSource None

-- and a compose over a stage, with this function
abbrev pub attaches_compose : ℕ → Composing → ℕ → ℕ → Event
attaches_compose who how source function = Attaches who (form_of how) (One source) (Some function)

-- one behind the other
abbrev pub composes : ℕ → Composing → ℕ → ℕ → List Event
composes who how source function = attaches_relay who ∷ attaches_compose who how source function ∷ []

-- memory is found for both and for each relay that is open; both are attached in a lane, the relay first, and nothing else is done
pub record Composes (who : ℕ) (how : Composing) (source function lane : ℕ) (old : Machine) (composed : Composed) (new : Machine) : Type 0 where
  pub found : Teller
  pub finds : FindsFor 2 old found
  pub tells : TellsAttaches lane (composes who how source function) found new.teller
  pub relay : composed.relay ≡ stages_in old
  pub stage : composed.stage ≡ stages_in old + 1
  pub same : OnlyTeller old new

-- the caller and the function have words
abbrev pub HaveWords : ℕ → ℕ → Type 0
HaveWords who function = (who ≤ 63) × (function ≤ 4095)

-- so is the source there, and room
pub record MayCompose (who source function : ℕ) (s : State) : Type 0 where
  pub words : HaveWords who function
  pub there : source < length s.plan.stages
  pub room : 2 ≤ s.plan.room

-- why it may not: the first of these
abbrev pub MayNotCompose : ℕ → ℕ → ℕ → State → LedgerFault → Type 0
MayNotCompose who source function s NoMemory = ⊥
MayNotCompose who source function s NoEvent = ¬ HaveWords who function
MayNotCompose who source function s NoStage = HaveWords who function × (length s.plan.stages ≤ source)
MayNotCompose who source function s NoRoom = HaveWords who function × (source < length s.plan.stages) × (s.plan.room < 2)

-- and want of memory is the last
abbrev pub IsNoCompose : ℕ → ℕ → ℕ → Machine → LedgerFault → Type 0
IsNoCompose who source function m NoMemory = MayCompose who source function (state_in m) × IsShortFor 2 m
IsNoCompose who source function m fault = MayNotCompose who source function (state_in m) fault

-- ---- a compose that is finished with any stage

-- the compose is finished with a link to the relay, and relays whose stages are settled are settled
pub record FinishesClaimed (who : ℕ) (composed : Composed) (old : Machine) (finish : Finish) (new : Machine) : Type 0 where
  pub word : finish.word ≡ word_of (Finishes who composed.stage (Link composed.relay))
  pub applies : AppliesWord finish.word 0 old (ToldFinish (finished_as finish.late)) new

-- before that the relay follows the stage, and relays are settled
pub record LinksFound (who : ℕ) (composed : Composed) (stage : ℕ) (old : Machine) (finish : Finish) (new : Machine) : Type 0 where
  pub between : Machine
  pub follows : SetsFollow composed.relay stage old between
  pub finishes : FinishesClaimed who composed between finish new

-- and before that memory is found for both words and for each relay that is open
pub record Links (who : ℕ) (composed : Composed) (stage : ℕ) (old : Machine) (finish : Finish) (new : Machine) : Type 0 where
  pub found : Teller
  pub finds : FindsFor 2 old found
  pub linked : LinksFound who composed stage (record old { teller = found }) finish new

-- the relay is below the compose, and both and the stage are there
abbrev pub AreStages : Composed → ℕ → State → Type 0
AreStages composed stage s = (composed.relay < composed.stage) × (composed.stage < length s.plan.stages) × (stage < length s.plan.stages)

-- the caller has words, the stages are there, and it has claimed the compose
pub record MayLink (who : ℕ) (composed : Composed) (stage : ℕ) (s : State) : Type 0 where
  pub caller : who ≤ 63
  pub there : AreStages composed stage s
  pub held : claim_at s composed.stage ≡ Some who

-- why it may not: the first of these
abbrev pub MayNotLink : ℕ → Composed → ℕ → State → StepFault → Type 0
MayNotLink who composed stage s steps.NoMemory = ⊥
MayNotLink who composed stage s steps.NoCaller = 63 < who
MayNotLink who composed stage s steps.NoStage = (who ≤ 63) × ¬ AreStages composed stage s
MayNotLink who composed stage s steps.NotHeld = (who ≤ 63) × AreStages composed stage s × (claim_at s composed.stage ≢ Some who)

-- too little memory was found for the words, or there is no place for the relay
abbrev pub IsShortToLink : Machine → Type 0
IsShortToLink m = IsShortFor 2 m ⊎ NoRelayFits m

-- and want of memory is the last
abbrev pub IsNoLink : ℕ → Composed → ℕ → Machine → StepFault → Type 0
IsNoLink who composed stage m steps.NoMemory = MayLink who composed stage (state_in m) × IsShortToLink m
IsNoLink who composed stage m fault = MayNotLink who composed stage (state_in m) fault
