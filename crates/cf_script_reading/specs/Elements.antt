-- Which element of a step is what, by the step's word.
use Rattle.std.specs.Prelude.{◌≡◌, ℕ, List, [], ◌∷◌, Option, Some, None, codes, if◌then◌else◌, option_and_then}
use Rattle.std.specs.Str.{bytes_eq}
use Rattle.serde_json.specs.Data.{Data}
use Rattle.cf_model.specs.declared.asks.Ask.TheVariants.{Now as AsksNow, Outcome as AsksOutcome}
use Rattle.cf_model.specs.declared.events.Event.TheVariants.{Complete as Completes, Fail as Fails, FailAs as FailsAs, Cancel as Cancels, Claim as Claims, Finish as Finishes}
use Rattle.cf_script_reading.specs.declared.elements.Element.{Element}
use Rattle.cf_script_reading.specs.declared.elements.Element.TheVariants.{Stage, Value, Number, Caller, Answer, Failure, NewStage}
use Rattle.cf_script_reading.specs.declared.func.Func.{Func}
use Rattle.cf_script_reading.specs.declared.script.Step.{Step}
use Rattle.cf_script_reading.specs.declared.script.Step.TheVariants.{Does, Asks}
use Rattle.cf_script_reading.specs.declared.version.Version.{Version}
use Rattle.cf_script_reading.specs.Parts.{stage_at}
use Rattle.cf_script_reading.specs.Steps.{step_worded}

-- what stands behind the words of the steps that name their caller, ask, attach a stage or take turns
unfoldable pub other_elements : List ℕ → List Element
other_elements word =
    if bytes_eq word (codes "claim") then Caller ∷ Stage ∷ []
    else (if bytes_eq word (codes "finish") then Caller ∷ Stage ∷ Answer ∷ []
    else (if bytes_eq word (codes "now") then Stage ∷ Value ∷ []
    else (if bytes_eq word (codes "outcome") then Stage ∷ []
    else (if bytes_eq word (codes "attach") then NewStage ∷ []
    else (if bytes_eq word (codes "nudge") then Number ∷ []
    else [])))))

-- and behind all words
unfoldable pub elements_of : List ℕ → List Element
elements_of word =
    if bytes_eq word (codes "complete") then Stage ∷ Value ∷ []
    else (if bytes_eq word (codes "fail") then Stage ∷ Number ∷ []
    else (if bytes_eq word (codes "failAs") then Stage ∷ Failure ∷ Number ∷ []
    else (if bytes_eq word (codes "cancel") then Stage ∷ []
    else (if bytes_eq word (codes "tick") then Number ∷ []
    else other_elements word))))

-- the place of the stage in a step with these elements behind its word, if one of them is a stage that is there
abbrev pub stage_place : List Element → Option ℕ
stage_place (Stage ∷ more) = Some 1
stage_place (Caller ∷ Stage ∷ more) = Some 2
stage_place elements = None

-- the stage that stands there in a step with this word, if it is one of so many
abbrev pub stage_there : ℕ → Data → List ℕ → Option ℕ
stage_there stages d word = option_and_then (λ place. stage_at stages place d) (stage_place (elements_of word))

-- the stage that a step names which was there before it, but for the sources of one that it attaches
abbrev pub stage_named : Step → Option ℕ
stage_named (Does (Completes who i v)) = Some i
stage_named (Does (Fails who i code)) = Some i
stage_named (Does (FailsAs who i failure)) = Some i
stage_named (Does (Cancels who i)) = Some i
stage_named (Does (Claims who i)) = Some i
stage_named (Does (Finishes who i answer)) = Some i
stage_named (Asks (AsksNow i absent)) = Some i
stage_named (Asks (AsksOutcome i)) = Some i
stage_named step = None

-- A step that is read names the stage that stands where the table says, and none where the table has none.
abbrev pub StagesStandWhereTold : Type 0
StagesStandWhereTold =
    (version : Version) (stages : ℕ) (functions : List Func) (d : Data) (word : List ℕ) (said : Step × Option Func)
    → step_worded version stages functions d word ≡ Some said → stage_named said.0 ≡ stage_there stages d word
