-- Stages that end by what other stages of the same request end as.
use Rattle.std.specs.Prelude.{◌≡◌, ℕ, ◌+◌, ◌<◌, ◌≤◌, ◌||◌, ◌==◌, Bool, true, false, cond, Option, Some, None, List, [], ◌∷◌, ◌++◌, All, length}
use Rattle.std.specs.List.{count_by}
use Rattle.cf_outcome.specs.declared.outcome.Cause.TheVariants.{Cancelled}
use Rattle.cf_outcome.specs.declared.outcome.Outcome.{Outcome}
use Rattle.cf_outcome.specs.declared.outcome.Outcome.TheVariants.{Value as Gives, Fault}
use Rattle.cf_outcome.specs.declared.outcome.Value.{Value}
use Rattle.cf_outcome.specs.declared.outcome.Value.TheVariants.{Nil}
use Rattle.cf_model.specs.declared.stage.Stage.{Stage}
use Rattle.cf_model.specs.States.{outcome_in}
use Rattle.cf_request.specs.declared.faults.JoinFault.{JoinFault}
use Rattle.cf_request.specs.declared.faults.JoinFault.TheVariants.{NoMemory, NoStage, NoQuorum}
use Rattle.cf_request.specs.declared.joins.Join.{Join}
use Rattle.cf_request.specs.declared.settling.Due.{Due}

-- the stages that it joins, its sources
abbrev pub sources_of : Join → List ℕ
sources_of j = j.source ∷ j.others.items

-- it wants one of its sources at least and all at most, and the stages that it names are among so many
pub record IsJoin (stages : ℕ) (j : Join) : Type 0 where
  pub some : 0 < j.wanted
  pub enough : j.wanted ≤ length (sources_of j)
  pub stage : j.stage < stages
  pub sources : All (λ i. i < stages) (sources_of j)

-- all of these are there
abbrev pub AreAllThere : ℕ → Join → Type 0
AreAllThere stages j = (j.stage < stages) × All (λ i. i < stages) (sources_of j)

-- it wants one at least, and all at most
abbrev pub IsQuorum : Join → Type 0
IsQuorum j = (0 < j.wanted) × (j.wanted ≤ length (sources_of j))

-- why it isn't such a join: the first of these
abbrev pub MayNotJoin : ℕ → Join → JoinFault → Type 0
MayNotJoin stages j NoMemory = ⊥
MayNotJoin stages j NoStage = ¬ AreAllThere stages j
MayNotJoin stages j NoQuorum = AreAllThere stages j × ¬ IsQuorum j

-- a join of one: the stage ends by the source, and is cancelled then or not
pub record IsOfOne (stage by : ℕ) (ends : Bool) (j : Join) : Type 0 where
  pub same : j.stage ≡ stage
  pub one : j.wanted ≡ 1
  pub source : j.source ≡ by
  pub none : j.others.items ≡ []
  pub cancels : j.cancels ≡ ends

-- a relay follows a stage
abbrev pub IsFollow : ℕ → ℕ → Join → Type 0
IsFollow relay stage j = IsOfOne relay stage false j

-- ---- when it is decided

abbrev pub has_value : Option Outcome → Bool
has_value None = false
has_value (Some (Gives v)) = true
has_value (Some (Fault cause wrapped)) = false

abbrev pub has_failed : Option Outcome → Bool
has_failed None = false
has_failed (Some (Gives v)) = false
has_failed (Some (Fault cause wrapped)) = true

-- how many of these stages have values, and how many have failed, where stages have these outcomes
abbrev pub values_by : (ℕ → Option Outcome) → List ℕ → ℕ
values_by outcome sources = count_by (λ i. has_value (outcome i)) sources

abbrev pub failures_by : (ℕ → Option Outcome) → List ℕ → ℕ
failures_by outcome sources = count_by (λ i. has_failed (outcome i)) sources

-- how often a stage stands among these
abbrev pub times_in : ℕ → List ℕ → ℕ
times_in i sources = count_by (λ s. s == i) sources

-- fewer of its sources have values than it wants, and no more have failed than it can spare
pub record IsUndecided (outcome : ℕ → Option Outcome) (j : Join) : Type 0 where
  pub values : values_by outcome (sources_of j) < j.wanted
  pub failures : j.wanted + failures_by outcome (sources_of j) ≤ length (sources_of j)

-- ---- what decides it

-- whether a stage is among these
abbrev pub is_among : List ℕ → ℕ → Bool
is_among [] i = false
is_among (x ∷ xs) i = (x == i) || is_among xs i

-- the outcome of a stage, where only these were settled
abbrev pub outcome_among : List Stage → List ℕ → ℕ → Option Outcome
outcome_among stages settled i = cond (is_among settled i) (outcome_in stages i) None

-- of the settled stages, in the order in which they were settled, one with this outcome decides it: before that one it is undecided, and with it no more
pub record IsDecided (stages : List Stage) (settled : List ℕ) (j : Join) (o : Outcome) : Type 0 where
  pub front : List ℕ
  pub by : ℕ
  pub back : List ℕ
  pub is : settled ≡ front ++ by ∷ back
  pub before : IsUndecided (outcome_among stages front) j
  pub decides : ¬ IsUndecided (outcome_among stages (front ++ by ∷ [])) j
  pub outcome : outcome_in stages by ≡ Some o

-- what it ends with by a stage with this outcome: the value if it wants one alone, else nil; or a raw fault of the same cause
abbrev pub value_by : Join → Value → Value
value_by j v = cond (j.wanted == 1) v Nil

abbrev pub ending_of : Join → Outcome → Outcome
ending_of j (Gives v) = Gives (value_by j v)
ending_of j (Fault cause wrapped) = Fault cause false

-- but one that cancels is cancelled
abbrev pub ending_by : Join → Outcome → Outcome
ending_by j o = cond j.cancels (Fault Cancelled false) (ending_of j o)

-- it is decided, and this is what it is settled with
pub record IsDueBy (stages : List Stage) (settled : List ℕ) (j : Join) (d : Due) : Type 0 where
  pub stage : j.stage ≡ d.stage
  pub outcome : Outcome
  pub decided : IsDecided stages settled j outcome
  pub ends : d.outcome ≡ ending_by j outcome
