-- Which stages have come further since some moment.
use Rattle.std.specs.Prelude.{◌≡◌, ℕ, ◌+◌, ◌-◌, ◌<◌, ◌≤◌, ◌⊎◌, Bool, true, false, Option, Some, IfSome, List, ◌++◌, All, Contains, slice_get}
use Rattle.cf_model.specs.declared.stage.Stage.{Stage}
use Rattle.cf_model.specs.Graphs.{IsClimbing, NoneLeftUpTo, MovesAlone, rank, stage_in}

-- these flags say which stages have come further, and no others are changed
pub record HaveMoved (old new : List Stage) (changed : List Bool) : Type 0 where
  pub same : (i : ℕ) → slice_get changed i ≡ Some false → stage_in new i ≡ stage_in old i
  pub further : (i : ℕ) → slice_get changed i ≡ Some true → rank (stage_in old i) < rank (stage_in new i)

-- flags that say which stages have come further since some moment say so afterwards too
abbrev pub TellOn : List Stage → List Bool → List Stage → List Bool → Type 0
TellOn kept changed kept' changed' = (old : List Stage) → HaveMoved old kept changed → HaveMoved old kept' changed'

-- the same, where stage d alone has moved since they said so, from this rank on
abbrev pub TellOfMoved : ℕ → ℕ → List Stage → List Bool → List Stage → List Bool → Type 0
TellOfMoved d before kept changed kept' changed' =
    (old mid : List Stage) →
    HaveMoved old mid changed → MovesAlone d mid kept → before ≡ rank (stage_in mid d) → HaveMoved old kept' changed'

-- these are the numbers whose flags are set, rising
pub record AreFlagged (flags : List Bool) (xs : List ℕ) : Type 0 where
  pub rising : IsClimbing xs
  pub set : All (λ i. slice_get flags i ≡ Some true) xs
  pub all : (i : ℕ) → slice_get flags i ≡ Some true → Contains xs i

-- they are written behind others
pub record Drains (flags : List Bool) (old new : List ℕ) : Type 0 where
  pub xs : List ℕ
  pub written : new ≡ old ++ xs
  pub flagged : AreFlagged flags xs

-- Those behind the others of a row are the stages that have come further, rising, and no other is changed. The turns that
-- are left are those of stages above them.
pub record AreWritten (old new : List Stage) (left : Option ℕ) (row row' : List ℕ) : Type 0 where
  pub xs : List ℕ
  pub written : row' ≡ row ++ xs
  pub rising : IsClimbing xs
  pub further : All (λ i. rank (stage_in old i) < rank (stage_in new i)) xs
  pub same : (i : ℕ) → Contains xs i ⊎ (stage_in new i ≡ stage_in old i)
  pub below : All (λ i. NoneLeftUpTo i left) xs

-- a row in which they are written has them afterwards, too
abbrev pub WriteOn : List Stage → Option ℕ → List ℕ → List Stage → Option ℕ → List ℕ → Type 0
WriteOn kept left row kept' left' row' =
    (old : List Stage) (before : List ℕ) → AreWritten old kept left before row → AreWritten old kept' left' before row'

-- a row has places for all stages whose turn may come
abbrev pub HasPlaces : ℕ → Option ℕ → ℕ → ℕ → Type 0
HasPlaces count left written places = IfSome left (λ m. written + (count - m) ≤ places)
