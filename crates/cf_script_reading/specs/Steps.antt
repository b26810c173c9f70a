-- The steps of a script. Each is an array of exactly the elements that its word asks for.
use Rattle.std.specs.Prelude.{ℕ, List, length, Option, Some, None, option_map, option_and_then, Result, Err, nat_lt, ◌==◌, codes, if◌then◌else◌}
use Rattle.std.specs.Option.{option_or}
use Rattle.std.specs.Str.{bytes_eq}
use Rattle.serde_json.specs.Data.{Data}
use Rattle.serde_json.specs.Find.{at, as_str}
use Rattle.cf_outcome.specs.declared.outcome.Value.TheVariants.{Nil}
use Rattle.cf_forms.specs.declared.forms.Answer.{Answer}
use Rattle.cf_forms.specs.declared.forms.Answer.TheVariants.{Give, Throw, Link}
use Rattle.cf_model.specs.declared.asks.Ask.TheVariants.{Now as AsksNow, Outcome as AsksOutcome}
use Rattle.cf_model.specs.declared.events.Event.TheVariants.{Complete as Completes, Fail as Fails, FailAs as FailsAs, Cancel as Cancels, Claim as Claims, Finish as Finishes, Tick as Ticks, Attach as Attaches}
use Rattle.cf_model.specs.declared.events.Failure.{Failure}
use Rattle.cf_model.specs.declared.events.Failure.TheVariants.{TimedOut, BadAnswer}
use Rattle.cf_script_reading.specs.declared.fault.ReadingFault.{ReadingFault}
use Rattle.cf_script_reading.specs.declared.fault.ReadingFault.TheVariants as faults
use Rattle.cf_script_reading.specs.declared.script.Step.{Step}
use Rattle.cf_script_reading.specs.declared.script.Step.TheVariants.{Does, Asks, Work, Nudge}
use Rattle.cf_script_reading.specs.declared.purpose.Purpose.{Purpose}
use Rattle.cf_script_reading.specs.declared.func.Func.{Func}
use Rattle.cf_script_reading.specs.declared.version.Version.{Version}
use Rattle.cf_script_reading.specs.declared.version.Version.TheVariants.{One, Two, Three}
use Rattle.cf_script_reading.specs.Attaching.{attach_said}
use Rattle.cf_script_reading.specs.ReadingProgress.{Progress, with_step}
use Rattle.cf_script_reading.specs.Scripts.{StepFits}
use Rattle.cf_script_reading.specs.Purposes.{takes}
use Rattle.cf_script_reading.specs.Checks.{ok_or}
use Rattle.cf_script_reading.specs.Parts.{◌>>=◌, up_to, value_of, elements, exactly, number_at, stage_at, value_at, only_member}

-- the caller that is element i
abbrev pub caller_at : ℕ → Data → Option ℕ
caller_at i d = number_at 63 i d

-- an answer: an object of one member
unfoldable pub answer_named : List ℕ → Data → Option Answer
answer_named name d =
    if bytes_eq name (codes "give") then option_map Give (value_of d)
    else (if bytes_eq name (codes "throw") then option_map Throw (up_to 4294967295 d)
    else (if bytes_eq name (codes "link") then option_map Link (up_to 65535 d)
    else None))

abbrev pub answer_of : Data → Option Answer
answer_of d = only_member d >>= λ named. answer_named named.0 named.1

abbrev pub answer_at : ℕ → Data → Option Answer
answer_at i d = option_and_then answer_of (at i d)

-- what caller 0 does
unfoldable pub complete_said : ℕ → Data → Option Step
complete_said stages d = do
  here ← exactly 3 d
  i ← stage_at stages 1 d
  v ← value_at 2 d
  Some (Does (Completes 0 i v))

unfoldable pub fail_said : ℕ → Data → Option Step
fail_said stages d = do
  here ← exactly 3 d
  i ← stage_at stages 1 d
  code ← number_at 4294967295 2 d
  Some (Does (Fails 0 i code))

-- the code of a failAs, which is 0 where no fourth element says one
unfoldable pub failure_code : Data → Option ℕ
failure_code d =
    if elements d == 3 then Some 0
    else (do
      here ← exactly 4 d
      number_at 4294967295 3 d)

-- the failure by its code and its cause's name
unfoldable pub failure_named : ℕ → List ℕ → Option Failure
failure_named code name =
    if bytes_eq name (codes "timeout") then Some (TimedOut code)
    else (if bytes_eq name (codes "badanswer") then Some (BadAnswer code)
    else None)

unfoldable pub fail_as_said : ℕ → Data → Option Step
fail_as_said stages d = do
  code ← failure_code d
  i ← stage_at stages 1 d
  failure ← option_and_then (failure_named code) (option_and_then as_str (at 2 d))
  Some (Does (FailsAs 0 i failure))

unfoldable pub cancel_said : ℕ → Data → Option Step
cancel_said stages d = do
  here ← exactly 2 d
  i ← stage_at stages 1 d
  Some (Does (Cancels 0 i))

unfoldable pub tick_said : Data → Option Step
tick_said d = do
  here ← exactly 2 d
  moment ← number_at 4294967295 1 d
  Some (Does (Ticks 0 moment))

-- what a caller that is named does
unfoldable pub claim_said : ℕ → Data → Option Step
claim_said stages d = do
  here ← exactly 3 d
  who ← caller_at 1 d
  i ← stage_at stages 2 d
  Some (Does (Claims who i))

unfoldable pub finish_said : ℕ → Data → Option Step
finish_said stages d = do
  here ← exactly 4 d
  who ← caller_at 1 d
  i ← stage_at stages 2 d
  answer ← answer_at 3 d
  Some (Does (Finishes who i answer))

-- what is asked; the value for a stage that isn't settled is nil where none is said
unfoldable pub now_said : ℕ → Data → Option Step
now_said stages d =
    if elements d == 2 then option_map (λ i. Asks (AsksNow i Nil)) (stage_at stages 1 d)
    else (do
      here ← exactly 3 d
      i ← stage_at stages 1 d
      v ← value_at 2 d
      Some (Asks (AsksNow i v)))

unfoldable pub outcome_said : ℕ → Data → Option Step
outcome_said stages d = do
  here ← exactly 2 d
  i ← stage_at stages 1 d
  Some (Asks (AsksOutcome i))

-- work of the script's own
unfoldable pub work_said : Data → Option Step
work_said d = do
  here ← exactly 1 d
  Some Work

unfoldable pub nudge_said : Data → Option Step
nudge_said d = do
  here ← exactly 2 d
  turns ← number_at 4294967295 1 d
  Some (Nudge turns)

-- the steps of caller 0
unfoldable pub own_step : ℕ → Data → List ℕ → Option Step
own_step stages d word =
    if bytes_eq word (codes "complete") then complete_said stages d
    else (if bytes_eq word (codes "fail") then fail_said stages d
    else (if bytes_eq word (codes "cancel") then cancel_said stages d
    else (if bytes_eq word (codes "tick") then tick_said d
    else None)))

-- the other steps
unfoldable pub other_step : ℕ → Data → List ℕ → Option Step
other_step stages d word =
    if bytes_eq word (codes "claim") then claim_said stages d
    else (if bytes_eq word (codes "finish") then finish_said stages d
    else (if bytes_eq word (codes "now") then now_said stages d
    else (if bytes_eq word (codes "outcome") then outcome_said stages d
    else (if bytes_eq word (codes "work") then work_said d
    else (if bytes_eq word (codes "nudge") then nudge_said d
    else None)))))

-- the step with a word
unfoldable pub step_named : ℕ → Data → List ℕ → Option Step
step_named stages d word = option_or (own_step stages d word) (other_step stages d word)

-- it attaches no stage, and each that it names is one of n
abbrev pub NamesWithin : ℕ → Step → Type 0
NamesWithin n (Does (Attaches who form of function)) = ⊥
NamesWithin n step = StepFits n step

-- a step of version 1, which brings no function
abbrev pub step_alone : ℕ → Data → List ℕ → Option (Step × Option Func)
step_alone stages d word = option_map (λ s. (s, None)) (step_named stages d word)

-- a step, and the function that it brings, if it brings one: from version 2 on it may attach a stage, and in version 3 fail one for another cause
unfoldable pub step_worded : Version → ℕ → List Func → Data → List ℕ → Option (Step × Option Func)
step_worded One stages functions d word = step_alone stages d word
step_worded Two stages functions d word = if bytes_eq word (codes "attach") then attach_said stages functions d else step_alone stages d word
step_worded Three stages functions d word =
    if bytes_eq word (codes "attach") then attach_said stages functions d
    else (if bytes_eq word (codes "failAs") then option_map (λ s. (s, None)) (fail_as_said stages d)
    else step_alone stages d word)

-- the step that comes after these
abbrev pub step_said : Version → Progress → Data → Option (Step × Option Func)
step_said version progress d = option_and_then (step_worded version progress.extent.stages progress.functions d) (option_and_then as_str (at 0 d))

-- that is taken
abbrev pub step_for : Purpose → Version → Progress → Data → Option (Step × Option Func)
step_for purpose version progress d = option_and_then (λ s. if takes purpose s.0 then Some s else None) (step_said version progress d)

-- the next step, of which there are at most 20,000
unfoldable pub step_next : Purpose → Version → Progress → Data → Result Progress ReadingFault
step_next purpose version progress d =
    if nat_lt (length progress.steps) 20000 then ok_or (faults.Step (length progress.steps)) (option_map (with_step progress) (step_for purpose version progress d))
    else Err (faults.Step (length progress.steps))
