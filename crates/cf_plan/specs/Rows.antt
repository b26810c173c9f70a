-- How a plan is kept: a row for each stage, the sources of all stages one after another, and so the dependents.
use Rattle.std.specs.Prelude.{◌≡◌, ℕ, ◌+◌, ◌<◌, ◌≤◌, List, length, map, slice_index, slice_range, take, All}
use Rattle.std.specs.List.{flat_map, sum}
use Rattle.cf_forms.specs.declared.limits.Limit.{Limit}
use Rattle.cf_plan.specs.declared.rows.Row.{Row}
use Rattle.cf_forms.specs.Plans.{IsBuilt, Planned, PlannedStage, dependents_of, edges_of, mentions, plan_of}

-- the stage that a row stands for
abbrev pub stage_of : List ℕ → Row → PlannedStage
stage_of edges row = record { form = row.form; sources = slice_range edges row.first row.end; function = row.function }

abbrev pub stages_of : List ℕ → List Row → List PlannedStage
stages_of edges rows = map (stage_of edges) rows

-- the plan that is kept so
abbrev pub planned_of : List Row → List ℕ → List Limit → Planned
planned_of rows edges limits = plan_of (stages_of edges rows) limits

-- the sources of all stages, one after another
abbrev pub all_sources : List PlannedStage → List ℕ
all_sources stages = flat_map (λ (s : PlannedStage). s.sources) stages

-- the rows' sources are the whole block, one after another
pub record AreRows (rows : List Row) (edges : List ℕ) : Type 0 where
  pub within : All (λ row. (row.first ≤ row.end) × (row.end ≤ length edges)) rows
  pub joined : all_sources (stages_of edges rows) ≡ edges

-- the rows, sources and limits are those of a plan
pub record ArePlanned (rows : List Row) (edges : List ℕ) (limits : List Limit) : Type 0 where
  pub rows_fit : AreRows rows edges
  pub counted : edges_of (stages_of edges rows) ≡ length edges
  pub few : length edges ≤ 16384
  pub built : IsBuilt (planned_of rows edges limits)

-- where parts of these sizes start, and where the last one ends
pub record AreStarts (starts sizes : List ℕ) : Type 0 where
  pub len : length starts ≡ length sizes + 1
  pub sums : (i : ℕ) → i ≤ length sizes → slice_index starts i ≡ sum (take i sizes)

-- where the parts of n stages start, if each has room for all mentions of its stage
pub record AreStartsOf (starts sources : List ℕ) (n : ℕ) : Type 0 where
  pub len : length starts ≡ n + 1
  pub steps : (i : ℕ) → i < n → slice_index starts (i + 1) ≡ slice_index starts i + mentions i sources
  pub total : slice_index starts n ≡ length sources

-- the part of stage i in a block: from where it starts up to where the next one does
abbrev pub part_of : List ℕ → List ℕ → ℕ → List ℕ
part_of starts block i = slice_range block (slice_index starts i) (slice_index starts (i + 1))

-- how often each of so many stages is named as a source
abbrev pub AreMentions : List ℕ → ℕ → List ℕ → Type 0
AreMentions counts stages sources = (i : ℕ) → i < stages → slice_index counts i ≡ mentions i sources

-- the block has the dependents of each stage, one stage after another, from where it starts up to where the next one does
pub record AreDependents (starts block : List ℕ) (stages : List PlannedStage) : Type 0 where
  pub len : length starts ≡ length stages + 1
  pub within : (i : ℕ) → i < length stages →
      (slice_index starts i ≤ slice_index starts (i + 1)) × (slice_index starts (i + 1) ≤ length block)
  pub parts : (i : ℕ) → i < length stages → part_of starts block i ≡ dependents_of stages i

-- the same of the stages that these rows stand for
abbrev pub AreDependentsOf : List ℕ → List ℕ → List ℕ → List Row → Type 0
AreDependentsOf starts block edges rows = AreDependents starts block (stages_of edges rows)
