-- What a cell says of its stage.
use Rattle.std.specs.Prelude.{ℕ, ℤ, pos, ◌%◌, Bool, true, false, List}
use Rattle.std.specs.Int.{w32, cast_signed}
use Rattle.cf_outcome.specs.declared.outcome.Value.{Value}
use Rattle.cf_outcome.specs.declared.outcome.Value.TheVariants as values
use Rattle.cf_outcome.specs.declared.outcome.Cause.TheVariants as causes
use Rattle.cf_outcome.specs.declared.outcome.Outcome.{Outcome}
use Rattle.cf_outcome.specs.declared.outcome.Outcome.TheVariants as outcomes
use Rattle.cf_forms.specs.declared.forms.Args.TheVariants as arguments
use Rattle.cf_forms.specs.declared.forms.Form.{Form}
use Rattle.cf_forms.specs.Forms.{due_one}
use Rattle.cf_model.specs.declared.stage.Stage.{Stage}
use Rattle.cf_model.specs.declared.stage.Stage.TheVariants as stages
use Rattle.cf_core.specs.declared.kept.KeptStage.{KeptStage}
use Rattle.cf_core.specs.declared.cell.Kind.{Kind}
use Rattle.cf_core.specs.declared.cell.Kind.TheVariants as kinds
use Rattle.cf_core.specs.declared.cell.Detail.{Detail}
use Rattle.cf_core.specs.declared.cell.Detail.TheVariants as details
use Rattle.cf_core.specs.declared.cell.Cell.{Cell}
use Rattle.cf_core.specs.Keeping.Treatment.{due_kept}

-- what is kept of the stages, and for how many there is room
pub record KeptStages : Type 0 where
  pub items : List KeptStage
  pub capacity : ℕ

-- a value, or the first of two
abbrev pub value_in : Detail → ℤ → Value
value_in details.Nil number = values.Nil
value_in detail number = values.Int number

-- the second of two values
abbrev pub second_in : Bool → ℕ → Value
second_in false payload = values.Nil
second_in true payload = values.Int (cast_signed w32 payload)

abbrev pub outcome_in : Detail → Bool → ℤ → ℕ → Outcome
outcome_in details.Nil flag number payload = outcomes.Value values.Nil
outcome_in details.Int flag number payload = outcomes.Value (values.Int number)
outcome_in details.Thrown flag number payload = outcomes.Fault (causes.Thrown payload) flag
outcome_in details.Cancelled flag number payload = outcomes.Fault causes.Cancelled flag
outcome_in details.TimedOut flag number payload = outcomes.Fault (causes.TimedOut payload) flag
outcome_in details.BadAnswer flag number payload = outcomes.Fault (causes.BadAnswer payload) flag

-- the outcome that a cell keeps, and the same outcome wrapped
abbrev pub outcome_of_cell : Cell → Outcome
outcome_of_cell c = outcome_in c.detail c.flag c.number c.payload

abbrev pub wrapped_of_cell : Cell → Outcome
wrapped_of_cell c = outcome_in c.detail true c.number c.payload

abbrev pub stage_in : Kind → Detail → Bool → ℤ → ℕ → Stage
stage_in kinds.Pending detail flag number payload = stages.Pending
stage_in kinds.Linked detail flag number payload = stages.Linked (payload % 65536)
stage_in kinds.None detail flag number payload = stages.Ready arguments.None
stage_in kinds.One detail flag number payload = stages.Ready (arguments.One (value_in detail number))
stage_in kinds.Two detail flag number payload = stages.Ready (arguments.Two (value_in detail number) (second_in flag payload))
stage_in kinds.Got detail flag number payload = stages.Ready (arguments.Got (outcome_in detail flag number payload))
stage_in kinds.Claimed detail flag number payload = stages.Claimed
stage_in kinds.Settled detail flag number payload = stages.Settled (outcome_in detail flag number payload)

abbrev pub kept_of : Cell → KeptStage
kept_of c = record { stage = stage_in c.kind c.detail c.flag c.number c.payload; step = c.step }

-- a pending stage, by its own step, once it has taken what its one source keeps, which has settled
abbrev pub taken_from : Form → Cell → ℕ → KeptStage
taken_from form from step = due_kept (due_one form (outcome_of_cell from)) from.step step

-- a cell of a pending stage
abbrev pub blank : Cell
blank = record { kind = kinds.Pending; detail = details.Nil; flag = false; step = 0; number = pos 0; payload = 0 }
