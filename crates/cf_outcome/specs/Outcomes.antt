-- What wrapping does, and what a caller is told of an outcome.
use Rattle.std.specs.Prelude.{Bool, true, false, Option, Some, None}
use Rattle.cf_outcome.specs.declared.outcome.Value.{Value}
use Rattle.cf_outcome.specs.declared.outcome.Cause.{Cause}
use Rattle.cf_outcome.specs.declared.outcome.Cause.TheVariants.{Cancelled}
use Rattle.cf_outcome.specs.declared.outcome.Outcome.{Outcome}
use Rattle.cf_outcome.specs.declared.outcome.Outcome.TheVariants.{Value as Gives, Fault}
use Rattle.cf_outcome.specs.declared.now.Now.{Now}
use Rattle.cf_outcome.specs.declared.now.Now.TheVariants.{Absent, Got, Completion, Cancellation}

-- a value stays as it is, and a fault stands wrapped
abbrev pub wrap : Outcome → Outcome
wrap (Gives v) = Gives v
wrap (Fault cause wrapped) = Fault cause true

-- what a caller is told of a fault: a raw cancellation is told as such
abbrev pub fault_told : Cause → Bool → Now
fault_told Cancelled false = Cancellation
fault_told cause wrapped = Completion cause

-- what a caller that asks for the present state of a stage is told
abbrev pub now_of : Option Outcome → Value → Now
now_of None absent = Absent absent
now_of (Some (Gives v)) absent = Got v
now_of (Some (Fault cause wrapped)) absent = fault_told cause wrapped

-- whether it is a cancellation that was stored as such
abbrev pub is_cancelled : Outcome → Bool
is_cancelled (Fault Cancelled false) = true
is_cancelled _ = false

-- whether it is a fault
abbrev pub is_exceptional : Outcome → Bool
is_exceptional (Gives v) = false
is_exceptional (Fault cause wrapped) = true
