-- Lists of stages, one for each stage, threaded through two arrays.
use Rattle.std.specs.Prelude.{◌≡◌, ◌≢◌, ℕ, ◌<◌, List, [], ◌∷◌, length, map, slice_get, slice_index, unwrap_or, All}
use Rattle.std.proofs.Common.{zero, suc}
use Rattle.cf_core.specs.declared.links.Head.{Head}

-- so many stages, from one on, where each names the one behind it
abbrev pub walk : ℕ → List ℕ → ℕ → List ℕ
walk zero next i = []
walk (suc count) next i = i ∷ walk count next (slice_index next i)

abbrev pub list_of : List ℕ → Head → List ℕ
list_of next head = walk head.count next head.first

abbrev pub lists_of : List ℕ → List Head → List (List ℕ)
lists_of next heads = map (list_of next) heads

-- the list of a stage
abbrev pub list_at : List (List ℕ) → ℕ → List ℕ
list_at lists i = unwrap_or (slice_get lists i) []

-- there is a list for each stage, and each stage that stands in one is there
pub record AreLinks (next : List ℕ) (heads : List Head) : Type 0 where
  pub all_heads : length heads ≡ length next
  pub within : All (λ stages. All (λ i. i < length next) stages) (lists_of next heads)

-- a stage stands in no list
abbrev pub IsFree : List (List ℕ) → ℕ → Type 0
IsFree lists stage = All (λ stages. All (λ i. i ≢ stage) stages) lists
