-- What a join tells.
use Rattle.std.specs.Prelude.{Option, Some, None, false}
use Rattle.cf_outcome.specs.declared.outcome.Outcome.{Outcome}
use Rattle.cf_outcome.specs.declared.outcome.Outcome.TheVariants.{Value as Gives, Fault}
use Rattle.cf_outcome.specs.declared.outcome.Cause.TheVariants.{Cancelled}
use Rattle.cf_desk.specs.declared.calls.Joined.{Joined}
use Rattle.cf_desk.specs.declared.calls.Joined.TheVariants.{Value, Completion, Cancellation, NotYet}

-- what a join of a stage with this outcome, or none, is answered
abbrev pub joined : Option Outcome → Joined
joined None = NotYet
joined (Some (Gives v)) = Value v
joined (Some (Fault Cancelled false)) = Cancellation
joined (Some (Fault cause wrapped)) = Completion cause
