-- What is kept of the stages, while some of them wait for treatment.
use Rattle.std.specs.Prelude.{◌≡◌, ℕ, ◌+◌, ◌*◌, ◌<◌, ◌≤◌, Bool, true, false, None, Some, List, [], ◌∷◌, length, map, slice_get, slice_set, unwrap_or, if◌then◌else◌, count_by, position, All, Contains, MatchOption, ◌≢◌}
use Rattle.std.specs.List.{sum_by}
use Rattle.cf_forms.specs.declared.forms.Form.{Form}
use Rattle.cf_forms.specs.Forms.{composes}
use Rattle.cf_forms.specs.Plans.{PlannedStage, HasLowerSources, dependents_of, edges_of, form_at}
use Rattle.cf_model.specs.declared.stage.Stage.{Stage}
use Rattle.cf_model.specs.declared.stage.Stage.TheVariants.{Pending, Claimed, Linked, Settled}
use Rattle.cf_model.specs.States.{is_ready}
use Rattle.cf_core.specs.declared.kept.KeptStage.{KeptStage}
use Rattle.cf_core.specs.Keeping.Treatment.{StepsUpTo, all_treated, dated_in, stages_of}
use Rattle.cf_core.specs.Keeping.Marks.{WaitsNow}
use Rattle.cf_core.specs.Keeping.Links.{list_at}

-- what treating all stages, in rising number, leads to
abbrev pub settled_view : List PlannedStage → List KeptStage → List Stage
settled_view plan kept = stages_of (all_treated [] plan kept)

-- stage i as it is kept
abbrev pub kept_at : List KeptStage → ℕ → KeptStage
kept_at kept i = unwrap_or (slice_get kept i) (record { stage = Pending; step = 0 })

-- whether a stage waits, for its sources or for the stage that it is linked to
abbrev pub is_waiting : Stage → Bool
is_waiting Pending = true
is_waiting (Linked j) = true
is_waiting stage = false

-- whether a stage can have been linked
abbrev pub is_bound : Stage → Bool
is_bound (Linked j) = true
is_bound (Settled o) = true
is_bound stage = false

-- a stage that waits is marked
abbrev pub mark_one : List KeptStage → ℕ → List Bool → List Bool
mark_one kept i marks = if is_waiting ((kept_at kept i).stage) then slice_set marks i true else marks

abbrev pub mark_all : List KeptStage → List ℕ → List Bool → List Bool
mark_all kept [] marks = marks
mark_all kept (i ∷ stages) marks = mark_all kept stages (mark_one kept i marks)

-- the marks once stage d has settled: its dependents and the stages linked to it are marked, where they wait
abbrev pub marks_settled : List PlannedStage → List KeptStage → List (List ℕ) → List Bool → ℕ → List Bool
marks_settled plan kept links marks d = mark_all kept (list_at links d) (mark_all kept (dependents_of plan d) marks)

-- the marks once stage d is written: a settled stage marks its dependents and the stages linked to it
abbrev pub marks_after : List PlannedStage → List KeptStage → List (List ℕ) → List Bool → ℕ → Stage → List Bool
marks_after plan kept links marks d (Settled o) = marks_settled plan kept links marks d
marks_after plan kept links marks d stage = marks

-- the lists of linked stages then
abbrev pub links_after : List (List ℕ) → ℕ → Stage → List (List ℕ)
links_after links d (Settled o) = slice_set links d []
links_after links d stage = links

-- a stage without a mark waits by what its sources, or the stage that it is linked to, have now
abbrev pub Waits : List PlannedStage → List KeptStage → List Bool → Type 0
Waits plan kept marks =
    (i : ℕ) (p : PlannedStage) (k : KeptStage) → slice_get plan i ≡ Some p → slice_get kept i ≡ Some k → slice_get marks i ≡ Some false → WaitsNow kept p k

-- a linked stage is linked to a lower one, in whose list it stands until that one settles
pub record IsListed (kept : List KeptStage) (links : List (List ℕ)) (i j : ℕ) : Type 0 where
  pub lower : j < i
  pub listed : dated_in kept j ≡ None → Contains (list_at links j) i

abbrev pub AreListed : List KeptStage → List (List ℕ) → Type 0
AreListed kept links = (i j : ℕ) (k : KeptStage) → slice_get kept i ≡ Some k → k.stage ≡ Linked j → IsListed kept links i j

-- the stages that stand in lists were linked
abbrev pub AreBound : List KeptStage → List (List ℕ) → Type 0
AreBound kept links = All (λ stages. All (λ i. is_bound ((kept_at kept i).stage) ≡ true) stages) links

-- the stages that stand in a list are above the stage whose list it is
abbrev pub AreAbove : List (List ℕ) → Type 0
AreAbove links = (j i : ℕ) → Contains (list_at links j) i → j < i

-- how many steps a stage can still make: to link it, and to settle it
abbrev pub steps_of : Stage → ℕ
steps_of (Settled o) = 0
steps_of (Linked j) = 1
steps_of stage = 2

-- how many marks can still come of a stage that isn't settled: one for each mention, and one for its link
abbrev pub link_marks : Form → ℕ
link_marks form = if composes form then 1 else 0

abbrev pub marks_of : List PlannedStage → ℕ → Stage → ℕ
marks_of plan i (Settled o) = 0
marks_of plan i (Linked j) = length (dependents_of plan i)
marks_of plan i stage = length (dependents_of plan i) + link_marks (form_at plan i)

-- and of all of these stages, the first of them being stage i
abbrev pub marks_from : List PlannedStage → ℕ → List KeptStage → ℕ
marks_from plan i [] = 0
marks_from plan i (k ∷ kept) = marks_of plan i k.stage + marks_from plan (i + 1) kept

-- how many turns there can be in all, by those that were taken, the marks, and the marks that can still come
abbrev pub turns_in_all : List PlannedStage → List KeptStage → List Bool → List (List ℕ) → ℕ → ℕ
turns_in_all plan kept marks links turns = turns + count_by (λ b. b) marks + marks_from plan 0 kept + sum_by length links

-- so many lists of linked stages are enough: where a form composes, there is one for each stage
abbrev pub HasLists : List PlannedStage → ℕ → Type 0
HasLists plan count = (d : ℕ) → composes (form_at plan d) ≡ true → length plan ≤ count

-- what is true of the stages between any two calls
pub record IsSound (plan : List PlannedStage) (kept : List KeptStage) (marks ready : List Bool) (links : List (List ℕ)) (steps turns : ℕ) : Type 0 where
  pub few_stages : length plan ≤ 4096
  pub few_edges : edges_of plan ≤ 16384
  pub sources_lower : HasLowerSources 0 plan
  pub all_kept : length kept ≡ length plan
  pub all_marks : length marks ≡ length plan
  pub all_links : HasLists plan (length links)
  pub ready_are : ready ≡ map (λ k. is_ready k.stage) kept
  pub waits : Waits plan kept marks
  pub listed : AreListed kept links
  pub bound : AreBound kept links
  pub above : AreAbove links
  pub kept_steps : StepsUpTo steps kept
  pub steps_left : steps + sum_by (λ k. steps_of k.stage) kept ≤ 3 * length plan
  pub turns_left : turns_in_all plan kept marks links turns ≤ edges_of plan + length plan

-- whether a stage is claimed or settled, so that a claim of it can be open
abbrev pub is_taken : Stage → Bool
is_taken Claimed = true
is_taken (Settled o) = true
is_taken stage = false

-- stages that are taken stay so
abbrev pub StayTaken : List KeptStage → List KeptStage → Type 0
StayTaken old new = (i : ℕ) → is_taken ((kept_at old i).stage) ≡ true → is_taken ((kept_at new i).stage) ≡ true

-- none of the first n stages is marked
abbrev pub AreTreated : ℕ → List Bool → Type 0
AreTreated n marks = (i : ℕ) → i < n → slice_get marks i ≡ Some false

-- all but stage d
abbrev pub StayTakenBut : ℕ → List KeptStage → List KeptStage → Type 0
StayTakenBut d old new = (i : ℕ) → i ≢ d → is_taken ((kept_at old i).stage) ≡ true → is_taken ((kept_at new i).stage) ≡ true

-- none of the stages below the lowest ready one is marked, and none at all where no stage is ready
abbrev pub ReadyIsTreated : List Bool → List Bool → Type 0
ReadyIsTreated marks ready = MatchOption (position (λ b. b) ready) (position (λ b. b) marks ≡ None) (λ r. AreTreated r marks)
