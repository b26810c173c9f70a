-- What bytes say to a race, beside what they say to a run.
use Rattle.std.specs.Prelude.{◌≡◌, ◌≤◌, ◌+◌, ◌⊎◌, ◌↔◌, ℕ, zero, suc, List, [], ◌∷◌, ◌++◌, length, All, false, Result, Ok, Err}
use Rattle.serde_json.specs.Data.{Items, no_items, item}
use Rattle.cf_script_reading.specs.declared.fault.ReadingFault.{ReadingFault}
use Rattle.cf_script_reading.specs.declared.fault.ReadingFault.TheVariants as faults
use Rattle.cf_script_reading.specs.declared.purpose.Purpose.TheVariants.{Run}
use Rattle.cf_script_reading.specs.declared.script.Step.{Step}
use Rattle.cf_script_reading.specs.Checks.{◌>>=◌}
use Rattle.cf_script_reading.specs.Purposes.{takes_in_race, IsForRace}
use Rattle.cf_script_reading.specs.Reading.{Outline, outline, with_steps, reading, race_reading}
use Rattle.cf_script_reading.specs.Scripts.{Script}

-- the first k items of an array
abbrev pub first_items : ℕ → Items → Items
first_items zero items = no_items
first_items (suc k) no_items = no_items
first_items (suc k) (item d items) = item d (first_items k items)

-- what is outlined, with its first k steps alone
abbrev pub cut_at : ℕ → Outline → Outline
cut_at k o = record o { steps = first_items k o.steps }

-- what bytes say to a run, of whose steps the first k alone are read
abbrev pub reading_up_to : ℕ → List ℕ → Result Script ReadingFault
reading_up_to k bytes = outline bytes >>= λ o. with_steps Run (cut_at k o)

abbrev pub IsNotOfStep : ReadingFault → Type 0
IsNotOfStep (faults.Step k) = ⊥
IsNotOfStep fault = Unit {0}

-- Read up to step k the script goes on from these steps by one that a race doesn't take.
pub record IsForRunAlone (up_to : Result Script ReadingFault) (before : List Step) : Type 0 where
  pub script : Script
  pub reads : up_to ≡ Ok script
  pub step : Step
  pub goes_on : script.steps ≡ before ++ step ∷ []
  pub not_taken : takes_in_race step ≡ false

-- The k steps before step k are a race's. Step k is none, to a run too, or one that a race doesn't take.
pub record IsFirstWrong (bytes : List ℕ) (k : ℕ) : Type 0 where
  pub before : Script
  pub reads : reading_up_to k bytes ≡ Ok before
  pub count : length before.steps ≡ k
  pub for_race : All IsForRace before.steps
  pub wrong : (reading bytes ≡ Err (faults.Step k)) ⊎ IsForRunAlone (reading_up_to (k + 1) bytes) before.steps

-- Where a run reads a script and a race takes all its steps, a race reads the same script. Where a run tells a fault that isn't a
-- step's, a race tells the same. Else a race tells the first wrong step, which is no later than the one that a run tells.
pub record RacesAreReadAsRuns (bytes : List ℕ) : Type 0 where
  pub scripts : (s : Script) → (race_reading bytes ≡ Ok s) ↔ ((reading bytes ≡ Ok s) × All IsForRace s.steps)
  pub other_faults : (fault : ReadingFault) → IsNotOfStep fault → (race_reading bytes ≡ Err fault) ↔ (reading bytes ≡ Err fault)
  pub steps : (k : ℕ) → (race_reading bytes ≡ Err (faults.Step k)) ↔ IsFirstWrong bytes k
  pub no_later : (j k : ℕ) → race_reading bytes ≡ Err (faults.Step j) → reading bytes ≡ Err (faults.Step k) → j ≤ k
