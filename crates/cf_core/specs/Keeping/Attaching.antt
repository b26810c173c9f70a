-- A stage that is attached to stages that were all treated.
use Rattle.std.specs.Prelude.{◌≡◌, ℕ, ◌+◌, Bool, ◌||◌, is_some, List, [], ◌∷◌, ◌++◌, length, if◌then◌else◌}
use Rattle.std.specs.List.{list_any}
use Rattle.cf_forms.specs.declared.forms.Due.{Due}
use Rattle.cf_forms.specs.declared.forms.Form.{Form}
use Rattle.cf_forms.specs.Forms.{follows, starts}
use Rattle.cf_forms.specs.Plans.{PlannedStage}
use Rattle.cf_model.specs.declared.stage.Stage.{Stage}
use Rattle.cf_model.specs.declared.stage.Stage.TheVariants.{Pending, Settled}
use Rattle.cf_model.specs.States.{new_states}
use Rattle.cf_core.specs.declared.kept.KeptStage.{KeptStage}
use Rattle.cf_core.specs.declared.stages.Stages.{Stages}
use Rattle.cf_core.specs.Keeping.Treatment.{all_treated, due_kept, outcomes_in}
use Rattle.cf_core.specs.Keeping.Sound.{kept_at, settled_view}

-- what a stage does by what its sources have now, in argument order
abbrev pub due_now : List KeptStage → Form → List ℕ → Due
due_now kept form sources = follows form (outcomes_in kept sources)

-- the stage, attached in this step
abbrev pub attached_kept : List KeptStage → Form → List ℕ → ℕ → KeptStage
attached_kept kept form sources step = due_kept (due_now kept form sources) step 0

-- Once all stages are treated, a stage is attached by argument order. This leads to what appending it, pending, and letting each take what its sources give does.
abbrev pub AttachingIsAfter : Type 0
AttachingIsAfter =
    (plan : List PlannedStage) (kept : List KeptStage) (p : PlannedStage) (step : ℕ) →
    length kept ≡ length plan → all_treated [] plan kept ≡ kept →
    settled_view (plan ++ p ∷ []) (kept ++ attached_kept kept p.form p.sources step ∷ []) ≡ new_states [] (plan ++ p ∷ []) (settled_view plan kept ++ Pending ∷ [])

-- whether a stage that is attached takes something: it starts by itself, or one of its sources is settled
abbrev pub takes_now : List KeptStage → Form → List ℕ → Bool
takes_now kept form sources = starts form sources || list_any is_some (outcomes_in kept sources)

-- how many turns there were once it is attached
abbrev pub turns_attached : Stages → Form → List ℕ → ℕ
turns_attached s form sources = s.turns + (if takes_now s.kept.items form sources then 1 else 0)

-- how many of these sources aren't settled
abbrev pub open_one : Stage → ℕ
open_one (Settled o) = 0
open_one stage = 1

abbrev pub open_count : List KeptStage → List ℕ → ℕ
open_count kept [] = 0
open_count kept (j ∷ sources) = open_one ((kept_at kept j).stage) + open_count kept sources
