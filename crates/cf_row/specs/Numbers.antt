-- How sessions take callers' numbers. A row is seen here as pairs: each entry's session and its caller's number.
use Rattle.std.specs.Prelude.{◌≡◌, ◌≢◌, ◌⊎◌, ◌%◌, ◌<◌, ℕ, List, [], ◌∷◌, ◌++◌, All, Contains, map}

abbrev pub numbers_in : List (ℕ × ℕ) → List ℕ
numbers_in row = map (λ (q : ℕ × ℕ). q.1) row

-- there are 64 numbers, and each is taken
abbrev pub AreAllTaken : List (ℕ × ℕ) → Type 0
AreAllTaken row = (k : ℕ) → k < 64 → Contains (numbers_in row) k

-- the number that a session shares with others where all are taken
abbrev pub shared_number : ℕ → ℕ
shared_number session = session % 64

-- the session has put nothing, and its number is the lowest that nobody has
pub record IsNewcomer (front : List (ℕ × ℕ)) (p : ℕ × ℕ) : Type 0 where
  pub small : p.1 < 64
  pub others : All (λ (q : ℕ × ℕ). (q.0 ≢ p.0) × (q.1 ≢ p.1)) front
  pub lower : (k : ℕ) → k < p.1 → Contains (numbers_in front) k

-- the session has put nothing, all numbers are taken, and it shares its own
pub record IsLatecomer (front : List (ℕ × ℕ)) (p : ℕ × ℕ) : Type 0 where
  pub others : All (λ (q : ℕ × ℕ). q.0 ≢ p.0) front
  pub all : AreAllTaken front
  pub shares : p.1 ≡ shared_number p.0

-- the session has put with this number before, or it comes new, or late
abbrev pub FollowsRule : List (ℕ × ℕ) → ℕ × ℕ → Type 0
FollowsRule front p = Contains front p ⊎ (IsNewcomer front p ⊎ IsLatecomer front p)

abbrev pub AllFollow : List (ℕ × ℕ) → List (ℕ × ℕ) → Type 0
AllFollow front [] = Unit {0}
AllFollow front (p ∷ rest) = FollowsRule front p × AllFollow (front ++ p ∷ []) rest

-- no session has two numbers
abbrev pub HaveOneEach : List (ℕ × ℕ) → Type 0
HaveOneEach row = (p q : ℕ × ℕ) → Contains row p → Contains row q → p.0 ≡ q.0 → p.1 ≡ q.1

-- a number is two sessions' only where all are taken, and is the one that the second of them shares
abbrev pub AreSharedLast : List (ℕ × ℕ) → Type 0
AreSharedLast row =
    (p q : ℕ × ℕ) → Contains row p → Contains row q → p.1 ≡ q.1 → p.0 ≢ q.0 →
    AreAllTaken row × ((p.1 ≡ shared_number p.0) ⊎ (q.1 ≡ shared_number q.0))

-- where a number is taken, each lower one is
abbrev pub HaveNoGaps : List (ℕ × ℕ) → Type 0
HaveNoGaps row = (p : ℕ × ℕ) → Contains row p → (k : ℕ) → k < p.1 → Contains (numbers_in row) k
