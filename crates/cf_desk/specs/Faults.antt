-- When a fault is told.
use Rattle.std.specs.Prelude.{◌≡◌, ℕ, ◌<◌, ◌≤◌, ◌⊎◌, true, false, is_some, unwrap_or, length, List, All}
use Rattle.cf_forms.specs.Plans.{PlannedStage, fits_form, has_place, sources_of}
use Rattle.cf_model.specs.declared.asks.Ask.{Ask}
use Rattle.cf_model.specs.declared.calls.Call.{Call}
use Rattle.cf_model.specs.declared.events.Event.{Event}
use Rattle.cf_model.specs.declared.events.Event.TheVariants.{Attach as Attaches}
use Rattle.cf_model.specs.Ranges.{AskFits, EventFits}
use Rattle.cf_desk.specs.declared.faults.DeskFault.{DeskFault}
use Rattle.cf_desk.specs.declared.faults.DeskFault.TheVariants.{NoStage, BadAttach, LogFull, PassFull}
use Rattle.cf_desk.specs.declared.faults.OpenFault.{OpenFault}
use Rattle.cf_desk.specs.declared.faults.OpenFault.TheVariants.{Callers, Log, Calls, Room, Functions, NoMemory}
use Rattle.cf_desk.specs.declared.sizes.DeskGrowth.{DeskGrowth}
use Rattle.cf_desk.specs.declared.sizes.DeskSizes.{DeskSizes}
use Rattle.cf_desk.specs.Functions.{function_bound}
use Rattle.cf_event.specs.Events.{IsFunctionBelow}
use Rattle.cf_desk.specs.Views.{Desk, Pass, SeesFull, own_event, stages_in}

-- the stages that an event names are among n
abbrev pub EventNames : ℕ → Event → Type 0
EventNames n (Attaches who form of function) = All (λ j. j < n) (sources_of of)
EventNames n event = EventFits n event

-- the stages of an event, or of a question, are in the plan as the pass has seen it
abbrev pub IsOnStage : Pass → Event → Type 0
IsOnStage p e = EventNames (stages_in p) e

-- so are those that a call of its caller names
abbrev pub KnowsStages : Pass → Call → Type 0
KnowsStages p call = IsOnStage p (own_event p call)

abbrev pub AsksStage : Pass → Ask → Type 0
AsksStage p ask = AskFits (stages_in p) ask

-- a stage that an event attaches fits its form, and its function is one of so many that a word has room for
abbrev pub AttachFits : ℕ → Event → Type 0
AttachFits functions (Attaches who form of function) =
    (fits_form form (length (sources_of of)) (is_some function) ≡ true) × IsFunctionBelow functions function × (unwrap_or function 0 ≤ 4095)
AttachFits functions event = Unit {0}

-- an event of the pass's caller attaches nothing, or what fits
abbrev pub IsFitting : Pass → Event → Type 0
IsFitting p e = AttachFits p.known.setting.functions e

-- a pass has room for a record
abbrev pub HasRoom : Pass → Type 0
HasRoom p = length p.records < p.calls

-- Why an event is refused: a stage of it isn't in the plan, else what it attaches doesn't fit, else the pass is full, else what the
-- pass has seen fills the log.
abbrev pub IsDue : Pass → Desk → Event → DeskFault → Type 0
IsDue p d e NoStage = ¬ IsOnStage p e
IsDue p d e BadAttach = IsOnStage p e × (¬ IsFitting p e)
IsDue p d e PassFull = IsOnStage p e × IsFitting p e × (length p.records ≡ p.calls)
IsDue p d e LogFull = IsOnStage p e × IsFitting p e × HasRoom p × SeesFull d p

-- why a question is refused: its stage isn't in the plan, else the pass is full; it attaches nothing and meets no full log
abbrev pub IsDueToRead : Pass → Ask → DeskFault → Type 0
IsDueToRead p ask NoStage = ¬ AsksStage p ask
IsDueToRead p ask BadAttach = ⊥
IsDueToRead p ask PassFull = AsksStage p ask × (length p.records ≡ p.calls)
IsDueToRead p ask LogFull = ⊥

-- a desk has 1 to 64 callers, and at least one word and one record for each pass
abbrev pub AreCounts : DeskSizes → Type 0
AreCounts sizes = (0 < sizes.callers) × (sizes.callers ≤ 64) × (0 < sizes.log) × (0 < sizes.calls)

-- why a desk isn't opened: it is to have no callers or more than 64, else no word, else its passes no record, else memory was refused
abbrev pub IsDueToOpen : DeskSizes → OpenFault → Type 0
IsDueToOpen sizes Callers = (sizes.callers ≡ 0) ⊎ (64 < sizes.callers)
IsDueToOpen sizes Log = (0 < sizes.callers) × (sizes.callers ≤ 64) × (sizes.log ≡ 0)
IsDueToOpen sizes Calls = (0 < sizes.callers) × (sizes.callers ≤ 64) × (0 < sizes.log) × (sizes.calls ≡ 0)
IsDueToOpen sizes Room = ⊥
IsDueToOpen sizes Functions = ⊥
IsDueToOpen sizes NoMemory = AreCounts sizes

-- a plan of these stages has a place for the room, and each of its functions is below their number
abbrev pub MayGrow : List PlannedStage → DeskGrowth → Type 0
MayGrow stages growth = (has_place stages growth.room ≡ true) × (function_bound stages ≤ growth.functions)

-- why a desk that grows isn't opened: for one of its sizes, else the plan has no place for the room, else a function of the plan isn't
-- below the number of functions, else memory was refused
abbrev pub IsDueToGrow : List PlannedStage → DeskSizes → DeskGrowth → OpenFault → Type 0
IsDueToGrow stages sizes growth Room = AreCounts sizes × (has_place stages growth.room ≡ false)
IsDueToGrow stages sizes growth Functions =
    AreCounts sizes × (has_place stages growth.room ≡ true) × (growth.functions < function_bound stages)
IsDueToGrow stages sizes growth NoMemory = AreCounts sizes × MayGrow stages growth
IsDueToGrow stages sizes growth fault = IsDueToOpen sizes fault
