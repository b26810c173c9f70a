-- The stages of a graph, as contracts speak of them.
use Rattle.std.specs.Prelude.{◌≡◌, ◌<◌, ◌≤◌, ℕ, Bool, List, Option, Some, length, position, slice_get, slice_set}
use Rattle.cf_forms.specs.declared.forms.Args.{Args}
use Rattle.cf_forms.specs.Plans.{PlannedStage}
use Rattle.cf_model.specs.declared.stage.Stage.{Stage}
use Rattle.cf_model.specs.declared.stage.Stage.TheVariants.{Ready}
use Rattle.cf_model.specs.Graphs.{MovesAlone, NoneLeftUpTo, rank, stage_in}
use Rattle.cf_model.specs.States.{is_ready}
use Rattle.cf_core.specs.declared.kept.KeptStage.{KeptStage}
use Rattle.cf_core.specs.declared.stages.Stages.{Stages}
use Rattle.cf_core.specs.Keeping.Sound.{IsSound, kept_at, marks_after, marks_settled, settled_view}
use Rattle.cf_core.specs.Keeping.Treatment.{stages_of}

-- what is true of them between any two calls
abbrev pub AreSound : List PlannedStage → Stages → Type 0
AreSound plan s = IsSound plan s.kept.items s.marks s.ready s.links s.steps s.turns

-- what treating all of them leads to
abbrev pub settled_view_of : List PlannedStage → Stages → List Stage
settled_view_of plan s = settled_view plan s.kept.items

-- that stays as it is
abbrev pub SameView : List PlannedStage → Stages → Stages → Type 0
SameView plan old new = settled_view_of plan new ≡ settled_view_of plan old

-- the lowest ready stage
abbrev pub lowest_ready_in : List PlannedStage → Stages → Option ℕ
lowest_ready_in plan s = position is_ready (settled_view_of plan s)

-- a stage is ready with these arguments
abbrev pub IsReadyIn : List PlannedStage → Stages → ℕ → Args → Type 0
IsReadyIn plan s i args = slice_get (settled_view_of plan s) i ≡ Some (Ready args)

-- the lowest marked stage
abbrev pub lowest_marked_in : Stages → Option ℕ
lowest_marked_in s = position (λ b. b) s.marks

-- what is kept of the stages moves at stage d alone, and those that are marked are above it
abbrev pub KeptMovesAlone : ℕ → Stages → Stages → Type 0
KeptMovesAlone d old new = MovesAlone d (stages_of old.kept.items) (stages_of new.kept.items) × NoneLeftUpTo d (lowest_marked_in new)

-- and it comes further there
abbrev pub KeptMovesFurther : ℕ → Stages → Stages → Type 0
KeptMovesFurther d old new = rank (stage_in (stages_of old.kept.items) d) < rank (stage_in (stages_of new.kept.items) d)

-- The marks once stage d is written as new. Where it has settled, its dependents and the stages linked to it are marked.
abbrev pub marks_once_put : List PlannedStage → Stages → ℕ → KeptStage → List Bool
marks_once_put plan s d new = marks_after plan (slice_set s.kept.items d new) s.links s.marks d new.stage

-- the same where stage d is kept so already
abbrev pub marks_once_noted : List PlannedStage → Stages → ℕ → List Bool
marks_once_noted plan s d = marks_after plan s.kept.items s.links s.marks d ((kept_at s.kept.items d).stage)

-- the same where it is known to have settled
abbrev pub marks_once_settled : List PlannedStage → Stages → ℕ → List Bool
marks_once_settled plan s d = marks_settled plan s.kept.items s.links s.marks d

-- where more stages may be attached, there is a list of linked ones for each that there may be
abbrev pub HasListRoom : ℕ → ℕ → ℕ → Type 0
HasListRoom opened most lists = opened < most → most ≤ lists

-- there is room for so many stages, and a list of linked ones for each where there may be more than so many of the opening
abbrev pub HasRoom : ℕ → ℕ → Stages → Type 0
HasRoom opened most s = (most ≤ s.kept.capacity) × HasListRoom opened most (length s.links)

-- the room that was made for stages stays
abbrev pub SameRoom : Stages → Stages → Type 0
SameRoom old new = (new.kept.capacity ≡ old.kept.capacity) × (length new.links ≡ length old.links)
