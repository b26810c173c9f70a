-- The texts of values, causes, outcomes and of what a caller is told. Numbers are decimal.
use Rattle.std.specs.Prelude.{ℕ, ◌==◌, List, [], ◌++◌, codes, if◌then◌else◌}
use Rattle.std.specs.Fmt.{decimal, signed_decimal}
use Rattle.cf_outcome.specs.declared.outcome.Value.{Value}
use Rattle.cf_outcome.specs.declared.outcome.Value.TheVariants as values
use Rattle.cf_outcome.specs.declared.outcome.Cause.{Cause}
use Rattle.cf_outcome.specs.declared.outcome.Cause.TheVariants as causes
use Rattle.cf_outcome.specs.declared.outcome.Outcome.{Outcome}
use Rattle.cf_outcome.specs.declared.outcome.Outcome.TheVariants as outcomes
use Rattle.cf_outcome.specs.declared.now.Now.{Now}
use Rattle.cf_outcome.specs.declared.now.Now.TheVariants as told

abbrev pub value_text : Value → List ℕ
value_text values.Nil = codes "nil"
value_text (values.Int z) = signed_decimal z

-- the code that a caller or a limit gave, behind the words of a cause; 0, which stands for none, isn't written
abbrev pub code_text : ℕ → List ℕ
code_text code = if code == 0 then [] else codes " " ++ decimal code

abbrev pub cause_text : Cause → List ℕ
cause_text (causes.Thrown code) = codes "thrown " ++ decimal code
cause_text causes.Cancelled = codes "cancelled"
cause_text (causes.TimedOut code) = codes "timeout" ++ code_text code
cause_text (causes.BadAnswer code) = codes "badanswer" ++ code_text code

abbrev pub outcome_text : Outcome → List ℕ
outcome_text (outcomes.Value v) = codes "value " ++ value_text v
outcome_text (outcomes.Fault cause wrapped) = codes "fault " ++ cause_text cause ++ (if wrapped then codes " wrapped" else codes " raw")

abbrev pub now_text : Now → List ℕ
now_text (told.Absent v) = codes "absent " ++ value_text v
now_text (told.Got v) = codes "value " ++ value_text v
now_text (told.Completion cause) = codes "completion " ++ cause_text cause
now_text told.Cancellation = codes "cancellation"
