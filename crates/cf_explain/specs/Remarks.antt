-- What is remarked of a script.
use Rattle.std.specs.Prelude.{◌≡◌, List, ◌++◌, All, Option, None, Some, Result, Ok, slice_get}
use Rattle.serde_json.specs.Data.{Data}
use Rattle.cf_script_reading.specs.declared.fault.ReadingFault.{ReadingFault}
use Rattle.cf_script_reading.specs.declared.script.Step.{Step}
use Rattle.cf_script_reading.specs.Reading.{script_said}
use Rattle.cf_script_reading.specs.Scripts.{Script}
use Rattle.cf_explain.specs.declared.place.Area.{Area}
use Rattle.cf_explain.specs.declared.place.Area.TheVariants as areas
use Rattle.cf_explain.specs.declared.place.Place.{Place}
use Rattle.cf_explain.specs.declared.remark.Idle.{Idle}
use Rattle.cf_explain.specs.declared.remark.Remark.{Remark}
use Rattle.cf_explain.specs.declared.remark.Remark.TheVariants as remarks
use Rattle.cf_explain.specs.Idles.{IsOfStep}
use Rattle.cf_explain.specs.Limits.{behinds}
use Rattle.cf_explain.specs.Places.{place_of}
use Rattle.cf_explain.specs.Sights.{idles}

-- a remark of how a script is written, and of none of its steps and limits
abbrev pub IsOfWriting : Remark → Type 0
IsOfWriting (remarks.Writing oddity) = Unit {0}
IsOfWriting remark = ⊥

-- why a step never does anything, if it is there
abbrev pub IsOfThat : Option Step → Idle → Type 0
IsOfThat None why = ⊥
IsOfThat (Some step) why = IsOfStep step why

-- a remark that a step never does anything, with the step's place and a reason that steps of its kind have
abbrev pub IsAtStep : List Step → Place → Area → Idle → Type 0
IsAtStep steps place (areas.Step k) why = (place ≡ place_of (areas.Step k)) × IsOfThat (slice_get steps k) why
IsAtStep steps place area why = ⊥

abbrev pub IsIdleIn : List Step → Remark → Type 0
IsIdleIn steps (remarks.Idle place why) = IsAtStep steps place place.area why
IsIdleIn steps remark = ⊥

-- the remarks on a script that is read: of how it is written, then, exactly, of its limits, and then of its steps
pub record AreRemarked (d : Data) (s : Script) (said : List Remark) : Type 0 where
  pub written : List Remark
  pub idle : List Remark
  pub all : said ≡ written ++ behinds d ++ idle
  pub of_writing : All IsOfWriting written
  pub of_steps : All (IsIdleIn s.steps) idle
  pub exact : idle ≡ idles s

-- the remarks on bytes that are read so, and are this JSON value, if they are one
abbrev pub AreRemarks : Result Script ReadingFault → Option Data → List Remark → Type 0
AreRemarks (Ok s) (Some d) said = AreRemarked d s said
AreRemarks read json said = All IsOfWriting said

-- the remarks on a script that is this JSON value
abbrev pub AreRemarksOn : Data → List Remark → Type 0
AreRemarksOn d said = AreRemarks (script_said d) (Some d) said
