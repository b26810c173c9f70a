-- What a stage that waits takes of the stages below it, and what is kept then.
use Rattle.std.specs.Prelude.{◌≡◌, ℕ, Option, List, map, slice_set, if◌then◌else◌}
use Rattle.cf_forms.specs.declared.forms.Args.{Args}
use Rattle.cf_forms.specs.declared.forms.Due.{Due}
use Rattle.cf_forms.specs.declared.forms.Form.{Form}
use Rattle.cf_forms.specs.Forms.{due_of_first}
use Rattle.cf_model.specs.declared.stage.Stage.{Stage}
use Rattle.cf_core.specs.declared.kept.KeptStage.{KeptStage}
use Rattle.cf_core.specs.declared.kept.Treated.{Treated}
use Rattle.cf_core.specs.declared.kept.Treated.TheVariants.{Same}
use Rattle.cf_core.specs.Keeping.Sound.{is_waiting, kept_at}
use Rattle.cf_core.specs.Keeping.Treatment.{became, dated_in, due_kept, late_due, linked_kept, outcome_part, ready_kept, step_part, treated}

-- stage m is ready with these arguments, and its step stays
abbrev pub ready_with : List KeptStage → ℕ → Args → List KeptStage
ready_with kept m args = slice_set kept m (ready_kept args (kept_at kept m).step)

-- what is due for a form with one source, by what that has
abbrev pub due_by_one : List KeptStage → Form → ℕ → Due
due_by_one kept form j = due_of_first form (outcome_part (dated_in kept j))

-- stage m has taken that
abbrev pub with_one_taken : List KeptStage → Form → ℕ → ℕ → List KeptStage
with_one_taken kept form j m =
    slice_set kept m (due_kept (due_by_one kept form j) (step_part (dated_in kept j)) (kept_at kept m).step)

-- what is due for a form with these sources, and at which step
abbrev pub due_by : List KeptStage → Form → List ℕ → Due × ℕ
due_by kept form sources = late_due form (map (dated_in kept) sources)

-- stage m has taken that
abbrev pub with_due_taken : List KeptStage → Form → List ℕ → ℕ → List KeptStage
with_due_taken kept form sources m =
    let due = due_by kept form sources in slice_set kept m (due_kept due.0 due.1 (kept_at kept m).step)

-- stage m, which is linked to stage j, has taken what that has
abbrev pub with_link_taken : List KeptStage → ℕ → ℕ → List KeptStage
with_link_taken kept j m = slice_set kept m (linked_kept j (kept_at kept m).step (dated_in kept j))

-- stage m, once it is treated as one of this form, these sources and this function
abbrev pub treated_as : List KeptStage → Form → List ℕ → Option ℕ → ℕ → KeptStage
treated_as kept form sources function m =
    treated kept (record { form = form; sources = sources; function = function }) (kept_at kept m)

-- stage m is treated as one of this form and these sources, whichever function it has
abbrev pub IsTreatedAs : Form → List ℕ → ℕ → List KeptStage → List KeptStage → Type 0
IsTreatedAs form sources m old new = (function : Option ℕ) → new ≡ slice_set old m (treated_as old form sources function m)

-- that would make it ready with these arguments
abbrev pub WouldBeReady : Form → List ℕ → ℕ → List KeptStage → Args → Type 0
WouldBeReady form sources m kept args =
    (function : Option ℕ) → treated_as kept form sources function m ≡ ready_kept args (kept_at kept m).step

-- what a treatment makes of a stage, by what it was and what it is then: one that doesn't wait stays as it is
abbrev pub made_of : Stage → Stage → Treated
made_of was is = if is_waiting was then became is else Same
