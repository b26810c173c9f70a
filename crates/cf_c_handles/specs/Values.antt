-- Values, outcomes, arguments and answers as C has them.
use Rattle.std.specs.Prelude.{ℕ, Bool, true, false, Option, Some, None, pos, ◌==◌, if◌then◌else◌}
use Rattle.cf_outcome.specs.declared.outcome.Value.{Value}
use Rattle.cf_outcome.specs.declared.outcome.Value.TheVariants.{Nil, Int}
use Rattle.cf_outcome.specs.declared.outcome.Cause.{Cause}
use Rattle.cf_outcome.specs.declared.outcome.Cause.TheVariants.{Thrown, Cancelled, TimedOut, BadAnswer}
use Rattle.cf_outcome.specs.declared.outcome.Outcome.{Outcome}
use Rattle.cf_outcome.specs.declared.outcome.Outcome.TheVariants.{Value as Gives, Fault}
use Rattle.cf_outcome.specs.declared.now.Now.{Now}
use Rattle.cf_outcome.specs.declared.now.Now.TheVariants.{Absent, Got, Completion, Cancellation}
use Rattle.cf_forms.specs.declared.forms.Answer.{Answer}
use Rattle.cf_forms.specs.declared.forms.Answer.TheVariants.{Give, Throw, Link}
use Rattle.cf_forms.specs.declared.forms.Args.{Args}
use Rattle.cf_forms.specs.declared.forms.Args.TheVariants.{None as NoArgs, One, Two, Got as GotOutcome}
use Rattle.cf_c_handles.specs.declared.values.CfAnswer.{CfAnswer}
use Rattle.cf_c_handles.specs.declared.values.CfArgs.{CfArgs}
use Rattle.cf_c_handles.specs.declared.values.CfNow.{CfNow}
use Rattle.cf_c_handles.specs.declared.values.CfOutcome.{CfOutcome}
use Rattle.cf_c_handles.specs.declared.values.CfValue.{CfValue}

-- what C means by a value: nothing where the kind is 0
abbrev pub value_of : CfValue → Value
value_of v = if v.kind == 0 then Nil else Int v.number

-- what C means by an answer: a value where the kind is 0, a throw where it is 1, and else a link
abbrev pub answer_of : CfAnswer → Answer
answer_of a = if a.kind == 0 then Give (value_of a.value) else (if a.kind == 1 then Throw a.code else Link a.stage)

abbrev pub as_value : Value → CfValue
as_value Nil = record { kind = 0; number = pos 0 }
as_value (Int number) = record { kind = 1; number = number }

abbrev pub answer_with : ℕ → ℕ → Value → ℕ → CfAnswer
answer_with kind code value stage = record { kind = kind; code = code; value = as_value value; stage = stage }

-- an answer for C: what it doesn't have is 0
abbrev pub as_answer : Answer → CfAnswer
as_answer (Give v) = answer_with 0 0 v 0
as_answer (Throw code) = answer_with 1 code Nil 0
as_answer (Link stage) = answer_with 2 0 Nil stage

abbrev pub no_fault : ℕ → CfValue → CfOutcome
no_fault kind value = record { kind = kind; wrapped = 0; code = 0; value = value }

abbrev pub bit : Bool → ℕ
bit true = 1
bit false = 0

abbrev pub fault_with : ℕ → Bool → ℕ → CfOutcome
fault_with kind wrapped code = record { kind = kind; wrapped = bit wrapped; code = code; value = as_value Nil }

abbrev pub as_fault : Cause → Bool → CfOutcome
as_fault (Thrown code) wrapped = fault_with 2 wrapped code
as_fault Cancelled wrapped = fault_with 3 wrapped 0
as_fault (TimedOut code) wrapped = fault_with 4 wrapped code
as_fault (BadAnswer code) wrapped = fault_with 5 wrapped code

-- the cause that C means: none of these numbers is a bad answer's, too
abbrev pub cause_of : ℕ → ℕ → Cause
cause_of kind code = if kind == 2 then Thrown code else (if kind == 3 then Cancelled else (if kind == 4 then TimedOut code else BadAnswer code))

-- the outcome that C means, or that there is none: a value where the kind is 1, and else a fault, which is raw where `wrapped` is 0
abbrev pub outcome_of : CfOutcome → Option Outcome
outcome_of o =
    if o.kind == 0 then None
    else (if o.kind == 1 then Some (Gives (value_of o.value))
    else Some (Fault (cause_of o.kind o.code) (if o.wrapped == 0 then false else true)))

-- an outcome, or that there is none
abbrev pub as_outcome : Option Outcome → CfOutcome
as_outcome None = no_fault 0 (as_value Nil)
as_outcome (Some (Gives v)) = no_fault 1 (as_value v)
as_outcome (Some (Fault cause wrapped)) = as_fault cause wrapped

abbrev pub args_with : ℕ → CfValue → CfValue → Option Outcome → CfArgs
args_with kind first second got = record { kind = kind; first = first; second = second; outcome = as_outcome got }

-- what a function is called with
abbrev pub as_args : Args → CfArgs
as_args NoArgs = args_with 0 (as_value Nil) (as_value Nil) None
as_args (One v) = args_with 1 (as_value v) (as_value Nil) None
as_args (Two v w) = args_with 2 (as_value v) (as_value w) None
as_args (GotOutcome o) = args_with 3 (as_value Nil) (as_value Nil) (Some o)

-- what is told of a stage at present: a value that was handed in, the stage's value, its fault, or its cancellation
abbrev pub as_now : Now → CfNow
as_now (Absent v) = record { kind = 0; outcome = no_fault 1 (as_value v) }
as_now (Got v) = record { kind = 1; outcome = no_fault 1 (as_value v) }
as_now (Completion cause) = record { kind = 2; outcome = as_fault cause true }
as_now Cancellation = record { kind = 3; outcome = as_fault Cancelled false }
