-- Stages that settle late: what treating each, in rising number, leads to.
use Rattle.std.specs.Prelude.{◌≡◌, ℕ, ◌+◌, ◌≤◌, Option, Some, None, List, [], ◌∷◌, ◌++◌, map, max, nat_le, slice_get, slice_set, take, if◌then◌else◌, option_and_then}
use Rattle.std.specs.Option.{option_map, option_map_or}
use Rattle.cf_outcome.specs.declared.outcome.Outcome.{Outcome}
use Rattle.cf_outcome.specs.Outcomes.{wrap}
use Rattle.cf_forms.specs.declared.forms.Args.{Args}
use Rattle.cf_forms.specs.declared.forms.Form.{Form}
use Rattle.cf_forms.specs.declared.forms.Due.{Due}
use Rattle.cf_forms.specs.declared.forms.Due.TheVariants.{Waits, Settles, Needs}
use Rattle.cf_forms.specs.Forms.{follows, due_of_first, is_decided_by_first}
use Rattle.cf_forms.specs.Plans.{PlannedStage}
use Rattle.cf_model.specs.declared.stage.Stage.{Stage}
use Rattle.cf_model.specs.declared.stage.Stage.TheVariants.{Pending, Ready, Claimed, Linked, Settled}
use Rattle.cf_model.specs.States.{outcome_of, outcome_in, new_states}
use Rattle.cf_core.specs.declared.kept.KeptStage.{KeptStage}
use Rattle.cf_core.specs.declared.kept.Treated.{Treated}
use Rattle.cf_core.specs.declared.kept.Treated.TheVariants as made

-- an outcome with the step of its settling
abbrev pub dated_of : KeptStage → Option (Outcome × ℕ)
dated_of k = option_map (λ o. (o, k.step)) (outcome_of k.stage)

abbrev pub dated_in : List KeptStage → ℕ → Option (Outcome × ℕ)
dated_in below j = option_and_then dated_of (slice_get below j)

-- of two, the one with the lower step; the first one where they are equal
abbrev pub earlier : Option (Outcome × ℕ) → Option (Outcome × ℕ) → Option (Outcome × ℕ)
earlier None y = y
earlier (Some x) None = Some x
earlier (Some x) (Some y) = if nat_le x.1 y.1 then Some x else Some y

abbrev pub earliest : List (Option (Outcome × ℕ)) → Option (Outcome × ℕ)
earliest [] = None
earliest (x ∷ q) = earlier x (earliest q)

-- the greatest step, 0 if there is none
abbrev pub latest : List (Option (Outcome × ℕ)) → ℕ
latest [] = 0
latest (x ∷ q) = max (option_map_or (λ y. y.1) x 0) (latest q)

abbrev pub outcome_part : Option (Outcome × ℕ) → Option Outcome
outcome_part x = option_map (λ y. y.0) x

-- the outcomes of these sources
abbrev pub outcomes_in : List KeptStage → List ℕ → List (Option Outcome)
outcomes_in kept sources = map outcome_part (map (dated_in kept) sources)

abbrev pub step_part : Option (Outcome × ℕ) → ℕ
step_part x = option_map_or (λ y. y.1) x 0

-- what a stage does by outcomes with their steps, and the step at which it does
abbrev pub late_due : Form → List (Option (Outcome × ℕ)) → Due × ℕ
late_due form q =
    if is_decided_by_first form then (due_of_first form (outcome_part (earliest q)), step_part (earliest q))
    else (follows form (map outcome_part q), latest q)

-- a stage that settled at this step, one that is ready, and one that is claimed
abbrev pub settled_kept : Outcome → ℕ → KeptStage
settled_kept o step = record { stage = Settled o; step = step }

abbrev pub ready_kept : Args → ℕ → KeptStage
ready_kept args step = record { stage = Ready args; step = step }

abbrev pub claimed_kept : ℕ → KeptStage
claimed_kept step = record { stage = Claimed; step = step }

-- a pending stage, by its own step, once it has taken what is due, at the step at which that is
abbrev pub due_kept : Due → ℕ → ℕ → KeptStage
due_kept Waits at step = record { stage = Pending; step = step }
due_kept (Settles o) at step = record { stage = Settled o; step = at }
due_kept (Needs args) at step = record { stage = Ready args; step = step }

-- a linked stage, by its own step and what its target has
abbrev pub linked_kept : ℕ → ℕ → Option (Outcome × ℕ) → KeptStage
linked_kept j step None = record { stage = Linked j; step = step }
linked_kept j step (Some x) = record { stage = Settled (wrap x.0); step = max step x.1 }

-- A stage that is treated, by the stages below it.
abbrev pub treated_by : List KeptStage → PlannedStage → Stage → ℕ → KeptStage
treated_by below p Pending step = let due = late_due p.form (map (dated_in below) p.sources) in due_kept due.0 due.1 step
treated_by below p (Linked j) step = linked_kept j step (dated_in below j)
treated_by below p stage step = record { stage = stage; step = step }

abbrev pub treated : List KeptStage → PlannedStage → KeptStage → KeptStage
treated below p k = treated_by below p k.stage k.step

-- what its treatment makes of a stage that waited, by what it is then
abbrev pub became : Stage → Treated
became (Ready args) = made.Ready
became (Settled o) = made.Settled
became stage = made.Same

-- All stages treated, in rising number.
abbrev pub all_treated : List KeptStage → List PlannedStage → List KeptStage → List KeptStage
all_treated below [] kept = kept
all_treated below (p ∷ plan) [] = []
all_treated below (p ∷ plan) (k ∷ kept) = let new = treated below p k in new ∷ all_treated (below ++ new ∷ []) plan kept

-- the first m stages stay as they are when they are treated
abbrev pub IsSteady : List KeptStage → List PlannedStage → List KeptStage → ℕ → Type 0
IsSteady below plan kept m = take m (all_treated below plan kept) ≡ take m kept

-- A turn: the stages below m are steady, and stage m is treated. What all treatments lead to stays the same.
abbrev pub TurnsChangeNothing : Type 0
TurnsChangeNothing =
    (plan : List PlannedStage) (kept : List KeptStage) (m : ℕ) (p : PlannedStage) (k : KeptStage) →
    slice_get plan m ≡ Some p → slice_get kept m ≡ Some k → IsSteady [] plan kept m →
    all_treated [] plan (slice_set kept m (treated (take m kept) p k)) ≡ all_treated [] plan kept

-- the steps so far are at most this
abbrev pub StepsUpTo : ℕ → List KeptStage → Type 0
StepsUpTo step [] = Unit {0}
StepsUpTo step (k ∷ kept) = (k.step ≤ step) × StepsUpTo step kept

abbrev pub stages_of : List KeptStage → List Stage
stages_of kept = map (λ k. k.stage) kept

-- A stage that isn't settled then is settled at the next step. This leads to what settling it at once does.
abbrev pub SettlingIsAfter : Type 0
SettlingIsAfter =
    (plan : List PlannedStage) (kept : List KeptStage) (d step : ℕ) (o : Outcome) →
    StepsUpTo step kept → outcome_in (stages_of (all_treated [] plan kept)) d ≡ None →
    stages_of (all_treated [] plan (slice_set kept d (record { stage = Settled o; step = step + 1 })))
    ≡ new_states [] plan (slice_set (stages_of (all_treated [] plan kept)) d (Settled o))
