-- Slips: what the keeper and each thread know of the turns that were taken.
use Rattle.std.specs.Prelude.{◌≡◌, ℕ, ◌+◌, ◌-◌, ◌≤◌, None, Ok, List, [], ◌∷◌, ◌++◌, false, true}
use mathlib.Core.Option.{some}
use lib.ListN.{get_elem?}
use Rattle.cf_threads.specs.Turns.{begun, ended, one, weigh}
use Rattle.cf_threads.specs.declared.slips.View.{View}
use Rattle.cf_threads.specs.declared.turn.Turn.{Turn}

abbrev pub no_turn : Turn
no_turn = record { held = None; next = Ok None }

-- all parts together
abbrev pub all_parts : ℕ
all_parts = 4096

-- the keeper's slip, with so many parts, once all of these were taken
abbrev pub keeper : ℕ → List Turn → View
keeper parts all = record { parts = parts; keeps = true; all = all; mine = [] }

-- a thread's slip, with which these were taken
abbrev pub slip : List Turn → View
slip mine = record { parts = 1; keeps = false; all = []; mine = mine }

abbrev pub IsKeeper : View → Type 0
IsKeeper v = v ≡ keeper v.parts v.all

abbrev pub IsSlip : View → Type 0
IsSlip v = v ≡ slip v.mine

-- what was taken with a slip is known beside the rest, and its parts are there
abbrev pub with_slip : View → View → View
with_slip v w = record { parts = v.parts + w.parts; keeps = v.keeps; all = v.all; mine = v.mine ++ w.mine }

abbrev pub without_slip : View → View
without_slip v = record { parts = v.parts - 1; keeps = v.keeps; all = v.all; mine = [] }

abbrev pub spent : View
spent = record { parts = 0; keeps = false; all = []; mine = [] }

-- with so many parts no more is brought back than was told, and no more is held than there are parts
pub record IsFair (parts : ℕ) (mine : List Turn) : Type 0 where
  pub some : (weight : ℕ → ℕ) → weigh (ended weight) mine ≤ weigh (begun weight) mine
  pub few : weigh (begun one) mine ≤ weigh (ended one) mine + parts

-- with no part nothing was taken, and only one slip is the keeper's, which knows what was taken
pub record IsIn (seat : ℕ) (log : List Turn) (by : ℕ) (v : View) : Type 0 where
  pub idle : v.parts ≡ 0 → v.mine ≡ []
  pub keeps : v.keeps ≡ true → (by ≡ seat) × (v.all ≡ log)
  pub fair : IsFair v.parts v.mine

-- however turns are weighed, those that were taken with all slips together weigh what those do that were taken
pub record IsShared (words : List ℕ) (views : List View) : Type 0 where
  pub seat : ℕ
  pub log : List Turn
  pub parts : weigh (λ (v : View). v.parts) views ≡ all_parts
  pub taken : (weight : Turn → ℕ) → weigh (λ (v : View). weigh weight v.mine) views ≡ weigh weight log
  pub fits : (by : ℕ) (v : View) → get_elem? views by ≡ some v → IsIn seat log by v

-- what is held with one slip is among what is held with all, which is no more than there are parts
pub record AreAmong (mine all : List Turn) : Type 0 where
  pub some : (weight : ℕ → ℕ) → weigh (begun weight) mine + weigh (ended weight) all ≤ weigh (ended weight) mine + weigh (begun weight) all
  pub few : weigh (begun one) all ≤ weigh (ended one) all + all_parts

-- a turn is taken, and it is known how what is held by it stands to all that is held
pub record TakesTurn (turn : Turn) (v : View) (before after : List ℕ) (w : View) : Type 0 where
  pub is : w ≡ record v { all = v.all ++ turn ∷ []; mine = v.mine ++ turn ∷ [] }
  pub among : AreAmong w.mine w.all

-- however turns are weighed, those that were taken with this slip weigh what all do
abbrev pub IsCompared : View → List ℕ → List ℕ → View → Type 0
IsCompared v before after w = (w ≡ v) × ((weight : Turn → ℕ) → weigh weight v.mine ≡ weigh weight v.all)
