-- What one step does to the stages of a graph, with all of its consequences, worked out or not.
use Rattle.std.specs.Prelude.{◌≡◌, ℕ, Bool, List, [], ◌∷◌, ◌++◌, Option, length, replicate, slice_set}
use Rattle.cf_outcome.specs.declared.outcome.Outcome.{Outcome}
use Rattle.cf_forms.specs.declared.forms.Answer.{Answer}
use Rattle.cf_forms.specs.declared.forms.Form.{Form}
use Rattle.cf_forms.specs.declared.forms.Landing.{Landing}
use Rattle.cf_forms.specs.declared.forms.Of.{Of}
use Rattle.cf_forms.specs.Plans.{PlannedStage, attached_stage}
use Rattle.cf_model.specs.declared.stage.Stage.TheVariants.{Claimed, Linked, Pending, Settled}
use Rattle.cf_model.specs.Calling.{CallsOf}
use Rattle.cf_model.specs.States.{new_states}
use Rattle.cf_core.specs.declared.stages.Stages.{Stages}
use Rattle.cf_core.specs.Keeping.Landings.{landed_stages}
use Rattle.cf_core.specs.Keeping.Serving.{ServesOnce, served}
use Rattle.cf_core.specs.Keeping.SoundStages.{settled_view_of}
use Rattle.cf_core.specs.Keeping.Sweeps.{Serves, Visits}

-- the stages are those of the plan at its start
abbrev pub AreAtStart : List PlannedStage → Stages → Type 0
AreAtStart plan s = settled_view_of plan s ≡ new_states [] plan (replicate (length plan) Pending)

-- stage d settles
abbrev pub StageSettles : List PlannedStage → ℕ → Outcome → Stages → Stages → Type 0
StageSettles plan d o old new =
    settled_view_of plan new ≡ new_states [] plan (slice_set (settled_view_of plan old) d (Settled o))

-- stage d is claimed
abbrev pub StageIsClaimed : List PlannedStage → ℕ → Stages → Stages → Type 0
StageIsClaimed plan d old new = settled_view_of plan new ≡ slice_set (settled_view_of plan old) d Claimed

-- stage d is linked to stage j
abbrev pub StageIsLinked : List PlannedStage → ℕ → ℕ → Stages → Stages → Type 0
StageIsLinked plan d j old new = settled_view_of plan new ≡ slice_set (settled_view_of plan old) d (Linked j)

-- stage d, which is claimed, lands
abbrev pub StageLands : List PlannedStage → ℕ → Landing → Stages → Stages → Type 0
StageLands plan d at old new = settled_view_of plan new ≡ landed_stages plan (settled_view_of plan old) d at

-- stage d, which is ready, lands as if it had been claimed before
abbrev pub ReadyStageLands : List PlannedStage → ℕ → Landing → Stages → Stages → Type 0
ReadyStageLands plan d at old new =
    settled_view_of plan new ≡ landed_stages plan (slice_set (settled_view_of plan old) d Claimed) d at

-- stage d, which is ready, lands with its function's answer
abbrev pub StageIsAnswered : List PlannedStage → ℕ → Answer → Stages → Stages → Type 0
StageIsAnswered plan d answer old new = settled_view_of plan new ≡ served plan (settled_view_of plan old) d answer

-- the plan with one stage more, and the stages with it, whichever function it has
abbrev pub grown_by : List PlannedStage → Form → Of → Option ℕ → List PlannedStage
grown_by plan form of function = plan ++ attached_stage form of function ∷ []

abbrev pub StageIsAttached : List PlannedStage → Form → Of → Stages → Stages → Type 0
StageIsAttached plan form of old new =
    (function : Option ℕ) →
    let grown = grown_by plan form of function in
    settled_view_of grown new ≡ new_states [] grown (settled_view_of plan old ++ Pending ∷ [])

-- stage i, the lowest ready one, lands with the answer of one call of its function, which takes the memory m to n
abbrev pub StageIsServed : {M : Type 0} → CallsOf M → List PlannedStage → ℕ → Stages → M → Stages → M → Type 0
StageIsServed calls plan i old m new n = ServesOnce calls plan (settled_view_of plan old) m i (settled_view_of plan new) n

-- in a sweep so many stages are served, and no claim of them is open then
abbrev pub StagesAreServed : {M : Type 0} → CallsOf M → List PlannedStage → ℕ → Stages → List (Option ℕ) → M → Stages → List (Option ℕ) → M → Type 0
StagesAreServed calls plan count old claims m new closed n =
    Serves calls plan (settled_view_of plan old) claims m count (settled_view_of plan new) closed n

-- a sweep visits stage i: it is served, or it isn't ready, and nothing is called
abbrev pub StageIsVisited : {M : Type 0} → CallsOf M → List PlannedStage → Bool → ℕ → Stages → List (Option ℕ) → M → Stages → List (Option ℕ) → M → Type 0
StageIsVisited calls plan is_served i old claims m new closed n =
    Visits calls plan is_served (settled_view_of plan old) claims m i (settled_view_of plan new) closed n
