-- Stages at the start, where nothing has settled yet.
use Rattle.std.specs.Prelude.{◌≡◌, ℕ, ◌+◌, Bool, true, List, [], ◌∷◌, replicate, slice_set, if◌then◌else◌}
use Rattle.cf_forms.specs.Forms.{starts}
use Rattle.cf_forms.specs.Plans.{PlannedStage}
use Rattle.cf_model.specs.declared.stage.Stage.TheVariants.{Pending}
use Rattle.cf_model.specs.States.{new_states}
use Rattle.cf_core.specs.declared.kept.KeptStage.{KeptStage}
use Rattle.cf_core.specs.Keeping.Treatment.{all_treated, stages_of}

-- a stage that was never treated
abbrev pub untreated : KeptStage
untreated = record { stage = Pending; step = 0 }

-- Treating all stages of a new graph leads to what settling all at once does.
abbrev pub TreatingStarts : Type 0
TreatingStarts =
    (plan : List PlannedStage) (n : ℕ) →
    stages_of (all_treated [] plan (replicate n untreated)) ≡ new_states [] plan (replicate n Pending)

-- these stages, the first of them being stage i, are marked where they start
abbrev pub mark_starts : ℕ → List PlannedStage → List Bool → List Bool
mark_starts i [] marks = marks
mark_starts i (p ∷ plan) marks = mark_starts (i + 1) plan (if starts p.form p.sources then slice_set marks i true else marks)

-- these stages are marked, one after another
abbrev pub mark_those : List ℕ → List Bool → List Bool
mark_those [] marks = marks
mark_those (i ∷ stages) marks = mark_those stages (slice_set marks i true)
