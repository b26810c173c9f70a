-- The parts of a script in which a code may stand, as JSON. Numbers are decimal.
use Rattle.std.specs.Prelude.{ℕ, ◌==◌, List, [], ◌++◌, codes, if◌then◌else◌}
use Rattle.std.specs.Fmt.{decimal}
use Rattle.cf_forms.specs.declared.limits.Limit.{Limit}
use Rattle.cf_forms.specs.declared.limits.LimitKind.{LimitKind}
use Rattle.cf_forms.specs.declared.limits.LimitKind.TheVariants.{Timeout, Give}
use Rattle.cf_model.specs.declared.events.Failure.{Failure}
use Rattle.cf_model.specs.declared.events.Failure.TheVariants.{TimedOut, BadAnswer}
use Rattle.cf_text.specs.Records.{absent_text}

-- a code behind a piece; a code of 0 is left out
abbrev pub code_behind : List ℕ → ℕ → List ℕ
code_behind piece code = if code == 0 then [] else piece ++ decimal code

-- a step that fails a stage for the cause of this name, without its end
abbrev pub failed_text : ℕ → List ℕ → ℕ → List ℕ
failed_text stage name code = codes "[\"failAs\"," ++ decimal stage ++ codes ",\"" ++ name ++ codes "\"" ++ code_behind (codes ",") code

-- the same by the cause
abbrev pub failing_text : ℕ → Failure → List ℕ
failing_text stage (TimedOut code) = failed_text stage (codes "timeout") code
failing_text stage (BadAnswer code) = failed_text stage (codes "badanswer") code

-- the kind of a limit, with its code or its value
abbrev pub kind_text : LimitKind → List ℕ
kind_text (Timeout code) = codes "\"timeout\"" ++ code_behind (codes ",\"code\":") code
kind_text (Give v) = codes "\"value\",\"value\":" ++ absent_text v

abbrev pub limit_text : Limit → List ℕ
limit_text limit = codes "{\"stage\":" ++ decimal limit.stage ++ codes ",\"at\":" ++ decimal limit.at ++ codes ",\"kind\":" ++ kind_text limit.kind ++ codes "}"
