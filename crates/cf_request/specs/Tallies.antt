-- How many more values and failures a join can get before it may be decided.
use Rattle.std.specs.Prelude.{◌≡◌, ◌≢◌, ◌⊎◌, ℕ, ◌+◌, ◌<◌, ◌≤◌, Bool, true, false, Option, List, All, cond, length, slice_index_or, take}
use Rattle.cf_outcome.specs.declared.outcome.Outcome.{Outcome}
use Rattle.cf_model.specs.declared.stage.Stage.{Stage}
use Rattle.cf_ledger.specs.Ledgers.{state_of}
use Rattle.cf_request.specs.Joins.{failures_by, has_failed, has_value, outcome_among, sources_of, values_by}
use Rattle.cf_request.specs.Relays.{is_in_flags}
use Rattle.cf_request.specs.Telling.{IsApart, Teller, is_settled_in, order_in}
use Rattle.cf_request.specs.declared.joins.Join.{Join}
use Rattle.cf_request.specs.declared.tallies.Spare.{Spare}
use Rattle.cf_request.specs.declared.tallies.Tallies.{Tallies}

-- a join with this first source has nothing to spare
abbrev pub led_by : ℕ → Spare
led_by i = record { first = i; values = 0; failures = 0 }

-- where none is kept
abbrev pub no_spare : Spare
no_spare = led_by 65535

abbrev pub spare_at : List Spare → ℕ → Spare
spare_at spares i = slice_index_or spares i no_spare

-- what a source's join has to spare stands at the first source of that join
abbrev pub left_to : List Spare → ℕ → Spare
left_to spares i = spare_at spares (spare_at spares i).first

-- one value or one failure more may decide it
abbrev pub IsSpent : Spare → Type 0
IsSpent x = (x.values ≡ 0) ⊎ (x.failures ≡ 0)

-- where stages have these outcomes, it has no more values and no more failures than leave so much to spare; its sources are all different, and of no other join
pub record IsCounted (spares : List Spare) (outcome : ℕ → Option Outcome) (j : Join) : Type 0 where
  pub firsts : All (λ i. (spare_at spares i).first ≡ j.source) (sources_of j)
  pub apart : IsApart (sources_of j)
  pub values : values_by outcome (sources_of j) + (spare_at spares j.source).values ≤ j.wanted
  pub failures : j.wanted + failures_by outcome (sources_of j) + (spare_at spares j.source).failures ≤ length (sources_of j) + 1

-- or nothing is to spare at any of its sources
abbrev pub IsTallied : List Spare → (ℕ → Option Outcome) → Join → Type 0
IsTallied spares outcome j = All (λ i. IsSpent (left_to spares i)) (sources_of j) ⊎ IsCounted spares outcome j

-- so is each join that is open, where only these stages were settled
abbrev pub AreTalliedBy : List Spare → List Join → List Stage → List ℕ → Type 0
AreTalliedBy spares follows stages noted = All (λ j. (is_settled_in stages j.stage ≡ true) ⊎ IsTallied spares (outcome_among stages noted) j) follows

-- the first source of a join is followed itself
abbrev pub AreLed : List Bool → List Spare → Type 0
AreLed followed spares = (i : ℕ) → is_in_flags followed i ≡ true → (is_in_flags followed (spare_at spares i).first ≡ true) ⊎ (4096 ≤ (spare_at spares i).first)

-- so many of the settled stages were noted, and by these the joins are tallied
pub record AreTallied (follows : List Join) (followed : List Bool) (spares : List Spare) (noted : ℕ) (stages : List Stage) (order : List ℕ) : Type 0 where
  pub within : noted ≤ length order
  pub settled : All (λ i. is_settled_in stages i ≡ true) (take noted order)
  pub led : AreLed followed spares
  pub joins : AreTalliedBy spares follows stages (take noted order)

abbrev pub TalliesFit : List Join → List Bool → Tallies → Teller → Type 0
TalliesFit follows followed x t = AreTallied follows followed x.spares.items x.noted (state_of t.ledger).stages (order_in t)

-- ---- what changes

-- each source that was followed has its join still, and that has no more to spare
pub record IsLessAt (old new : List Spare) (i : ℕ) : Type 0 where
  pub first : (spare_at new i).first ≡ (spare_at old i).first
  pub values : (left_to new i).values ≤ (left_to old i).values
  pub failures : (left_to new i).failures ≤ (left_to old i).failures

abbrev pub AreLess : List Bool → List Spare → List Spare → Type 0
AreLess followed old new = (i : ℕ) → is_in_flags followed i ≡ true → IsLessAt old new i

-- a source has this outcome: its join has one value or one failure less to spare, or nothing
pub record Spends (i : ℕ) (outcome : Option Outcome) (old new : List Spare) : Type 0 where
  pub less : (k : ℕ) → IsLessAt old new k
  pub others : (k : ℕ) → (spare_at old k).first ≢ (spare_at old i).first → left_to new k ≡ left_to old k
  pub spent : IsSpent (left_to new i) ⊎ ((left_to new i).values + cond (has_value outcome) 1 0 ≤ (left_to old i).values) × ((left_to new i).failures + cond (has_failed outcome) 1 0 ≤ (left_to old i).failures)

-- a source's join has nothing to spare any more
pub record Empties (i : ℕ) (old new : List Spare) : Type 0 where
  pub less : (k : ℕ) → IsLessAt old new k
  pub spent : IsSpent (left_to new i)
  pub count : length new ≡ length old

-- none of the settled stages behind so many is a source whose join has nothing to spare
abbrev pub HasLeft : List Bool → List Spare → ℕ → Type 0
HasLeft followed spares i = (is_in_flags followed i ≡ false) ⊎ ¬ IsSpent (left_to spares i)

abbrev pub HaveLeft : List Bool → List Spare → List ℕ → ℕ → ℕ → Type 0
HaveLeft followed spares order from up = (k : ℕ) → from ≤ k → k < up → HasLeft followed spares (slice_index_or order k 0)

-- so much may a join have to spare
abbrev pub MaySpare : (ℕ → Option Outcome) → Join → Spare → Type 0
MaySpare outcome j x =
    IsSpent x ⊎ ((values_by outcome (sources_of j) + x.values ≤ j.wanted) × (j.wanted + failures_by outcome (sources_of j) + x.failures ≤ length (sources_of j) + 1))

-- its sources are marked: all are its own and different, and so much is to spare, or nothing is at any of them
pub record IsAlone (spares : List Spare) (j : Join) (left : Spare) : Type 0 where
  pub firsts : All (λ i. (spare_at spares i).first ≡ j.source) (sources_of j)
  pub apart : IsApart (sources_of j)
  pub left_is : spare_at spares j.source ≡ left

abbrev pub IsSpared : List Spare → Join → Spare → Type 0
IsSpared spares j left = All (λ i. IsSpent (left_to spares i)) (sources_of j) ⊎ IsAlone spares j left
