-- The records of a pass, as records of its caller.
use Rattle.std.specs.Prelude.{ℕ, List, map}
use Rattle.cf_forms.specs.Plans.{Planned}
use Rattle.cf_model.specs.declared.events.Event.{Event}
use Rattle.cf_event.specs.declared.record.Record.{Record}
use Rattle.cf_event.specs.declared.record.Record.TheVariants.{Did as DidSo, Saw as SawSo}
use Rattle.cf_event.specs.Histories.{AreRecordsOf, dids as calls_among}
use Rattle.cf_desk.specs.declared.calls.Rec.{Rec}
use Rattle.cf_desk.specs.declared.calls.Rec.TheVariants.{Did, Saw}
use Rattle.cf_model.specs.Calls.{event_by}

-- a pass keeps its records without their caller
abbrev pub record_by : ℕ → Rec → Record
record_by caller (Did place call reply) = DidSo place (event_by caller call) reply
record_by caller (Saw place ask answer) = SawSo place ask answer

abbrev pub records_by : ℕ → List Rec → List Record
records_by caller records = map (record_by caller) records

-- the places and events of a caller's Did records
abbrev pub dids : ℕ → List Rec → List (ℕ × Event)
dids caller records = calls_among (records_by caller records)

-- the records of a pass of this caller fit the history
abbrev pub Fits : Planned → ℕ → List Event → List Rec → Type 0
Fits plan caller history records = AreRecordsOf plan caller history (records_by caller records)
