-- Where a stage lands, as far as the states of the stages go.
use Rattle.std.specs.Prelude.{◌≡◌, ℕ, Option, None, Some, List, [], option_and_then, slice_get, slice_set}
use Rattle.cf_outcome.specs.declared.outcome.Outcome.{Outcome}
use Rattle.cf_outcome.specs.declared.outcome.Outcome.TheVariants.{Value as Gives}
use Rattle.cf_outcome.specs.declared.outcome.Value.{Value}
use Rattle.cf_outcome.specs.Outcomes.{wrap}
use Rattle.cf_forms.specs.declared.forms.Answer.{Answer}
use Rattle.cf_forms.specs.declared.forms.Form.{Form}
use Rattle.cf_forms.specs.declared.forms.Landing.{Landing}
use Rattle.cf_forms.specs.declared.forms.Landing.TheVariants.{Settles as Lands, Links}
use Rattle.cf_forms.specs.Forms.{landing}
use Rattle.cf_forms.specs.Plans.{PlannedStage, form_at, sources_at}
use Rattle.cf_model.specs.declared.stage.Stage.{Stage}
use Rattle.cf_model.specs.declared.stage.Stage.TheVariants.{Linked, Settled}
use Rattle.cf_model.specs.States.{new_states, outcome_in}

-- the outcome of the first source of stage i
abbrev pub first_source : List PlannedStage → List Stage → ℕ → Option Outcome
first_source plan stages i = option_and_then (outcome_in stages) (slice_get (sources_at plan i) 0)

-- where stage i lands with this answer
abbrev pub landing_at : List PlannedStage → List Stage → ℕ → Answer → Landing
landing_at plan stages i answer = landing (form_at plan i) i (first_source plan stages i) answer

-- a stage of the form settles with this value by the answer, whichever stage it is, and whatever its source has
abbrev pub LandsWithValue : Form → Answer → Value → Type 0
LandsWithValue form answer v = (i : ℕ) (source : Option Outcome) → landing form i source answer ≡ Lands (Gives v)

abbrev pub linked_stages : Option Outcome → List PlannedStage → List Stage → ℕ → ℕ → List Stage
linked_stages (Some o) plan stages d j = new_states [] plan (slice_set stages d (Settled (wrap o)))
linked_stages None plan stages d j = slice_set stages d (Linked j)

abbrev pub landed_stages : List PlannedStage → List Stage → ℕ → Landing → List Stage
landed_stages plan stages d (Lands o) = new_states [] plan (slice_set stages d (Settled o))
landed_stages plan stages d (Links j) = linked_stages (outcome_in stages j) plan stages d j
