-- How far an input is read, and what can go wrong meanwhile.
use Rattle.std.specs.Prelude.{ℕ, ◌≤◌, List, length, Option}
use Rattle.std.specs.Io.KnownBytes.{Consumes}
use Rattle.cf_script_reading.specs.declared.fault.ReadingFault.{ReadingFault}
use Rattle.cf_script_reading.specs.declared.fault.ReadingFault.TheVariants as faults

-- it is too long, the reader failed, or memory ran out
abbrev pub IsOfInput : ReadingFault → Type 0
IsOfInput faults.TooLong = Unit {0}
IsOfInput faults.Read = Unit {0}
IsOfInput faults.NoMemory = Unit {0}
IsOfInput fault = ⊥

-- the reader gave up at most so many bytes of those that it had, where it tells them
abbrev pub TakesAtMost : ℕ → Option (List ℕ) → Option (List ℕ) → Type 0
TakesAtMost most old new = (bytes : List ℕ) × Consumes old new bytes × (length bytes ≤ most)
