-- Checks one after another, up to the first fault.
use Rattle.std.specs.Prelude.{◌≡◌, ℕ, Bool, true, false, Option, Some, None, Result, Ok, Err}
use Rattle.serde_json.specs.Data.{Data, Items, no_items, item}
use Rattle.cf_plan.specs.declared.faults.PlanFault.{PlanFault}
use Rattle.cf_plan.specs.declared.faults.PlanFault.TheVariants.{NoMemory}
use Rattle.cf_forms.specs.Plans.{Planned}
use Rattle.cf_script_reading.specs.declared.fault.ReadingFault.{ReadingFault}
use Rattle.cf_script_reading.specs.declared.fault.ReadingFault.TheVariants as faults

-- what comes next is read only where nothing was wrong before it
infixl 10 ◌>>=◌
abbrev pub ◌>>=◌ : {A B : Type 0} → Result A ReadingFault → (A → Result B ReadingFault) → Result B ReadingFault
(Ok x) >>= next = next x
(Err fault) >>= next = Err fault

-- what is there, or the fault
abbrev pub ok_or : {A : Type 0} → ReadingFault → Option A → Result A ReadingFault
ok_or fault (Some x) = Ok x
ok_or fault None = Err fault

-- the fault where the test fails
abbrev pub guard : Bool → ReadingFault → Result (Unit {0}) ReadingFault
guard true fault = Ok tt
guard false fault = Err fault

-- the plan that the builder makes at position k, or the fault where it refuses
abbrev pub planned_unless : Option PlanFault → ℕ → Planned → Result Planned ReadingFault
planned_unless None k plan = Ok plan
planned_unless (Some refusal) k plan = Err (faults.Plan refusal k)

-- what a refusal at position k is told as: want of memory is told as such
abbrev pub refusal_told : PlanFault → ℕ → ReadingFault
refusal_told NoMemory k = faults.NoMemory
refusal_told refusal k = faults.Plan refusal k

-- the items go in one after another, up to the first fault
unfoldable pub fold_items : {S : Type 0} → (S → Data → Result S ReadingFault) → S → Items → Result S ReadingFault
fold_items next s no_items = Ok s
fold_items next s (item d ds) = next s d >>= λ t. fold_items next t ds

-- What a fault tells of what the bytes say: want of memory, which may come in any place, tells nothing, and a reader is
-- never its cause.
abbrev pub Fails : {Y : Type 0} → ReadingFault → Result Y ReadingFault → Type 0
Fails faults.NoMemory said = Unit {0}
Fails faults.Read said = ⊥
Fails fault said = said ≡ Err fault

-- what a function returned, seen by view, is what is said, unless memory ran out
abbrev pub ReadingGives : {X Y : Type 0} → (X → Y) → Result X ReadingFault → Result Y ReadingFault → Type 0
ReadingGives view (Ok x) said = said ≡ Ok (view x)
ReadingGives view (Err fault) said = Fails fault said
