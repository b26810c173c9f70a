-- What a closed desk keeps of its passes, and what it tells of all of them.
use Rattle.cf_forms.specs.Plans.{Planned}
use Rattle.std.specs.Prelude.{◌≡◌, ◌<◌, ℕ, List, map}
use Rattle.std.specs.List.{All, Contains}
use Rattle.cf_desk.specs.declared.calls.Kept.{Kept as KeptPass}
use Rattle.cf_desk.specs.declared.calls.Rec.{Rec}
use Rattle.cf_model.specs.declared.events.Event.{Event}
use Rattle.cf_event.specs.declared.record.Record.{Record}
use Rattle.cf_model.specs.Calls.{who_of}
use Rattle.cf_desk.specs.Records.{Fits, records_by}
use Rattle.cf_desk.specs.Views.{FitsAmong, Pass, caller_of, seen_by}

abbrev pub pass_kept : KeptPass → ℕ × List Rec
pass_kept k = (k.caller, k.records.items)

-- what is kept of a pass, as its caller's records
abbrev pub caller_kept : KeptPass → ℕ × List Record
caller_kept k = (k.caller, records_by k.caller k.records.items)

abbrev pub pass_did : Pass → ℕ × List Rec
pass_did p = (caller_of p, p.records)

-- each pass is kept with its caller and its records, in this order
abbrev pub AreKept : List KeptPass → List Pass → Type 0
AreKept kept passes = map pass_kept kept ≡ map pass_did passes

-- the records of a pass fit what it has seen
abbrev pub IsFit : Pass → Type 0
IsFit p = FitsAmong p (seen_by p)

-- a pass is of one of its desk's callers
abbrev pub IsCallers : Pass → Type 0
IsCallers p = caller_of p < p.known.setting.callers

abbrev pub IsKeptFit : Planned → List Event → ℕ × List Rec → Type 0
IsKeptFit plan history k = Fits plan k.0 history k.1

-- callers with their records fit a history: each does, and each event is of one of these callers
pub record AllFit (plan : Planned) (history : List Event) (passes : List (ℕ × List Rec)) : Type 0 where
  pub each : All (IsKeptFit plan history) passes
  pub owned : All (λ e. Contains (map (λ (k : ℕ × List Rec). k.0) passes) (who_of e)) history
