-- Laws of dependents, over any list of stages.
use Rattle.std.specs.Prelude.{◌≡◌, ℕ, ◌<◌, List, length, All}
use Rattle.std.specs.List.{range_with_len, sum_by}
use Rattle.cf_forms.specs.Plans.{HasLowerSources, IsRising, PlannedStage, dependents_of, edges_of, mentions, sources_at}

-- stage k stands among the dependents of stage i as often as its sources name stage i
abbrev pub DependentsAreConverse : Type 0
DependentsAreConverse = (stages : List PlannedStage) (i k : ℕ) → mentions k (dependents_of stages i) ≡ mentions i (sources_at stages k)

-- where sources are lower, dependents are higher
abbrev pub DependentsAreAbove : Type 0
DependentsAreAbove = (stages : List PlannedStage) (i : ℕ) → HasLowerSources 0 stages → All (λ k. i < k) (dependents_of stages i)

-- dependents are stages that there are
abbrev pub DependentsAreThere : Type 0
DependentsAreThere = (stages : List PlannedStage) (i : ℕ) → All (λ k. k < length stages) (dependents_of stages i)

-- dependents stand in rising order
abbrev pub DependentsAreRising : Type 0
DependentsAreRising = (stages : List PlannedStage) (i : ℕ) → IsRising (dependents_of stages i)

-- each edge makes one dependent: those of all stages together are as many as the edges
abbrev pub EachEdgeIsADependent : Type 0
EachEdgeIsADependent =
    (stages : List PlannedStage) →
    HasLowerSources 0 stages → sum_by (λ i. length (dependents_of stages i)) (range_with_len 0 (length stages)) ≡ edges_of stages
