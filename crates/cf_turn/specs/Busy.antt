-- How many threads a part takes.
use Rattle.std.specs.Prelude.{◌≡◌, ℕ, ◌+◌, ◌/◌, ◌^◌, Bool, true, false, cond, eqb, List, [], ◌∷◌}
use Rattle.cf_row.specs.declared.entry.Entry.{Entry}
use Rattle.cf_row.specs.Rows.{stages_of}
use Rattle.cf_part.specs.declared.progress.Progress.{Progress}
use Rattle.cf_part.specs.declared.progress.Progress.TheVariants.{NotCalled, Runs, Stopped, Ended}
use Rattle.cf_part.specs.Parts.{Part}
use Rattle.cf_part.specs.Steps.{IsToCall}

abbrev pub is_running : Progress → Bool
is_running NotCalled = false
is_running Runs = true
is_running Stopped = true
is_running Ended = false

abbrev pub is_new : Progress → Bool
is_new NotCalled = true
is_new Runs = false
is_new Stopped = false
is_new Ended = false

-- how many functions run
abbrev pub running_in : List Progress → ℕ
running_in [] = 0
running_in (call ∷ calls) = cond (is_running call) 1 0 + running_in calls

-- a word that claims has 4 at its head
abbrev pub is_claim : ℕ → Bool
is_claim word = eqb (word / 2 ^ 56) 4

-- how many claims are under way
abbrev pub claims_in : List Entry → ℕ
claims_in [] = 0
claims_in (x ∷ entries) = cond (is_claim x.word) 1 0 + claims_in entries

-- so many of the numbers below another have a property
pub data Counts (P : ℕ → Type 0) : ℕ → ℕ → Type 0 where
  none : Counts P 0 0
  one : (to n : ℕ) → Counts P to n → P to → Counts P (to + 1) (n + 1)
  other : (to n : ℕ) → Counts P to n → ¬ P to → Counts P (to + 1) n

-- so many stages the session has whose function wasn't called
abbrev pub CountsToCall : Part → ℕ → Type 0
CountsToCall p n = Counts (IsToCall p.calls p.row.replica) (stages_of p.row.replica) n

-- so many threads a part takes
pub record Takes (p : Part) (n : ℕ) : Type 0 where
  pub called : ℕ
  pub counts : CountsToCall p called
  pub is : n ≡ running_in p.calls + claims_in p.row.put + called
