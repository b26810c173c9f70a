-- The expression of a stage: what it ends as by the functions' meanings and by what sources are settled with. It knows no
-- states, no claims and no order of work.
use Rattle.std.specs.Prelude.{ℕ, ◌+◌, ◌==◌, Bool, true, false, Option, Some, None, List, [], ◌∷◌, ◌++◌, map, slice_get, unwrap_or, option_and_then, if◌then◌else◌}
use Rattle.std.specs.Option.{option_or, option_map}
use Rattle.cf_outcome.specs.declared.outcome.Outcome.{Outcome}
use Rattle.cf_outcome.specs.declared.outcome.Outcome.TheVariants.{Value as Gives, Fault}
use Rattle.cf_outcome.specs.declared.outcome.Cause.TheVariants.{Thrown, Cancelled}
use Rattle.cf_outcome.specs.Outcomes.{wrap}
use Rattle.cf_forms.specs.declared.forms.Form.{Form}
use Rattle.cf_forms.specs.declared.forms.Form.TheVariants.{Source}
use Rattle.cf_forms.specs.declared.forms.Args.{Args}
use Rattle.cf_forms.specs.declared.forms.Due.{Due}
use Rattle.cf_forms.specs.declared.forms.Due.TheVariants.{Waits, Settles, Needs}
use Rattle.cf_forms.specs.declared.forms.Landing.{Landing}
use Rattle.cf_forms.specs.declared.forms.Landing.TheVariants.{Settles as Lands, Links}
use Rattle.cf_forms.specs.Forms.{follows, landing}
use Rattle.cf_forms.specs.Meanings.{Meanings}
use Rattle.cf_forms.specs.Plans.{Planned, PlannedStage}
use Rattle.cf_model.specs.declared.events.Event.{Event}
use Rattle.cf_model.specs.declared.events.Event.TheVariants.{Complete as Completes, Fail as Fails, FailAs as FailsAs, Cancel as Cancels}
use Rattle.cf_model.specs.Events.{cause_of}

-- the outcome that an event names for stage i: those of complete, fail and cancel do
abbrev pub named_for : ℕ → Event → Option Outcome
named_for i (Completes who j v) = if i == j then Some (Gives v) else None
named_for i (Fails who j code) = if i == j then Some (Fault (Thrown code) false) else None
named_for i (FailsAs who j failure) = if i == j then Some (Fault (cause_of failure) false) else None
named_for i (Cancels who j) = if i == j then Some (Fault Cancelled false) else None
named_for i event = None

-- the first outcome that these events name for stage i
abbrev pub first_named : List Event → ℕ → Option Outcome
first_named [] i = None
first_named (e ∷ events) i = option_or (named_for i e) (first_named events i)

-- where a landing leads, by the expressions of the stages below
abbrev pub landing_expr : (ℕ → Option Outcome) → Landing → Option Outcome
landing_expr below (Lands o) = Some o
landing_expr below (Links j) = option_map wrap (below j)

-- where stage i lands with what its function means for these arguments
abbrev pub landing_meant : Meanings → (ℕ → Option Outcome) → ℕ → PlannedStage → Args → Landing
landing_meant meanings below i p args =
    landing p.form i (option_and_then below (slice_get p.sources 0)) (meanings (unwrap_or p.function 0) args)

-- the expression of stage i by what is due of its sources' expressions
abbrev pub due_expr : Meanings → (ℕ → Option Outcome) → ℕ → PlannedStage → Due → Option Outcome
due_expr meanings below i p Waits = None
due_expr meanings below i p (Settles o) = Some o
due_expr meanings below i p (Needs args) = landing_expr below (landing_meant meanings below i p args)

-- whether it is settled from outside alone
abbrev pub is_source : Form → Bool
is_source Source = true
is_source form = false

-- The expression of stage i, by those of the stages below it.
abbrev pub stage_expr : Meanings → (ℕ → Option Outcome) → (ℕ → Option Outcome) → ℕ → PlannedStage → Option Outcome
stage_expr meanings named below i p =
    if is_source p.form then named i else due_expr meanings below i p (follows p.form (map below p.sources))

-- the expression at a place of a list of them
abbrev pub expr_in : List (Option Outcome) → ℕ → Option Outcome
expr_in exprs i = unwrap_or (slice_get exprs i) None

-- the expressions of these stages, the first of them being stage i, by those of the stages below them
abbrev pub exprs_from : Meanings → (ℕ → Option Outcome) → ℕ → List (Option Outcome) → List PlannedStage → List (Option Outcome)
exprs_from meanings named i below [] = []
exprs_from meanings named i below (p ∷ plan) =
    let new = stage_expr meanings named (expr_in below) i p in
    new ∷ exprs_from meanings named (i + 1) (below ++ new ∷ []) plan

-- The expression of stage i of a plan, where these events settle the sources.
abbrev pub expr : Planned → List Event → Meanings → ℕ → Option Outcome
expr plan events meanings i = expr_in (exprs_from meanings (first_named events) 0 [] plan.stages) i
