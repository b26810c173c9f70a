-- The plan of a row's graph, as it grows.
use Rattle.std.specs.Prelude.{◌≡◌, ℕ, ◌<◌, true, length, is_some}
use Rattle.cf_forms.specs.Plans.{AreBelow, Planned, and_stage, attached_stage, fits_form, sources_of, with_room}
use Rattle.cf_model.specs.declared.events.Event.{Event}
use Rattle.cf_model.specs.declared.events.Event.TheVariants.{Attach as Attaches}
use Rattle.cf_ledger.specs.Ledgers.{Ledger, state_of}

-- the plan once an event is done
abbrev pub plan_with : Planned → Event → Planned
plan_with plan (Attaches who form of function) = and_stage plan (attached_stage form of function)
plan_with plan e = plan

-- a stage that the event attaches has room, and its sources are there
abbrev pub HasPlaceFor : Planned → Event → Type 0
HasPlaceFor plan (Attaches who form of function) =
    (0 < plan.room) × (fits_form form (length (sources_of of)) (is_some function) ≡ true) × AreBelow (length plan.stages) of
HasPlaceFor plan e = Unit {0}

-- what is kept of it: the plan as it was opened, its room in all, and the plan as the ledger's events leave it
pub record IsGrown (opening : Planned) (room : ℕ) (ledger : Ledger) (grown : Planned) : Type 0 where
  pub opened : ledger.plan ≡ with_room opening room
  pub is : grown ≡ (state_of ledger).plan
