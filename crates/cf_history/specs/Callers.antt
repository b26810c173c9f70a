-- What is found of one caller.
use Rattle.std.specs.Prelude.{ℕ, List}
use Rattle.cf_model.specs.declared.events.Event.{Event}
use Rattle.cf_model.specs.States.{State}
use Rattle.cf_event.specs.declared.record.Record.{Record}
use Rattle.cf_history.specs.declared.caller.Judged.{Judged}
use Rattle.cf_history.specs.declared.caller.Judged.TheVariants.{Fits, Record as AtRecord, Missing}
use Rattle.cf_history.specs.Records.{AreRight}
use Rattle.cf_history.specs.Verdicts.{IsFirstMisfit, LeavesOut}

abbrev pub IsJudged : ℕ → State → List Event → List Record → Judged → Type 0
IsJudged c s history records Fits = AreRight c s history 0 records
IsJudged c s history records (AtRecord k why) = IsFirstMisfit c s history 0 k records why
IsJudged c s history records (Missing place) = LeavesOut c s history 0 records place
