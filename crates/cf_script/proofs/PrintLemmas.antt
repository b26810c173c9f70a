-- From an input to what is printed of it.
use Rattle.std.proofs.Common.{◌≡◌, [], ℕ, ◌<◌, List, length, Option, Some, None, Result, Ok, Err, IfSome, refl, sym, subst, String, arith, append-nil}
use Rattle.std.specs.Prelude.{replicate}
use Rattle.std.specs.Result.{IsErrAnd}
use Rattle.std.proofs.lemmas.List.{length-replicate}
use Rattle.std.specs.Io.KnownBytes.{Appends}
use Rattle.std.specs.declared.alloc.Global.{Global}
use Rattle.cf_outcome.specs.Output.{AppendsFront}
use Rattle.cf_script_reading.specs.declared.fault.ReadingFault.{ReadingFault}
use Rattle.cf_script_reading.specs.declared.fault.ReadingFault.TheVariants as readings
use Rattle.cf_script_reading.specs.Checks.{Fails}
use Rattle.cf_script_reading.specs.Input.{IsOfInput}
use Rattle.cf_script_reading.specs.Reading.{race_reading, reading}
use Rattle.cf_script_reading.specs.Scripts.{Script}
use Rattle.cf_script_reading.proofs.Texts.{race_too_long, reading_too_long}
use Rattle.cf_text.specs.declared.fault.ScriptFault.{ScriptFault}
use Rattle.cf_text.specs.declared.fault.ScriptFault.TheVariants as faults
use Rattle.cf_text.specs.Faults.{fault_line, fault_of_reading}
use Rattle.cf_script.specs.Printing.{Given, IsInput, MayGive, Prints, given_by}

-- ---- an input that can't be read

-- bytes that are too many are no script
abbrev pub TooLong : (List ℕ → Result Script ReadingFault) → Type 0
TooLong read = (bytes : List ℕ) → 1048576 < length bytes → read bytes ≡ Err readings.TooLong

pub too_long_to_run : TooLong reading
too_long_to_run bytes lt = reading_too_long bytes lt

pub too_long_to_race : TooLong race_reading
too_long_to_race bytes lt = race_too_long bytes lt

some_long : (n : ℕ) → 1048576 < n → (bytes : List ℕ) × (1048576 < length bytes)
some_long n lt = (replicate n 0, subst (λ k. 1048576 < k) (sym (length-replicate n 0)) lt)

input_too_long : (held : Option (List ℕ)) → IfSome held (λ bytes. 1048576 < length bytes) → (input : List ℕ) × IsInput held input × (1048576 < length input)
input_too_long (Some bytes) lt = (bytes, refl, lt)
input_too_long None any = let long = some_long 1048577 (omega arith) in (long.0, tt, long.1)

held_or_empty : (held : Option (List ℕ)) → (input : List ℕ) × IsInput held input
held_or_empty (Some bytes) = (bytes, refl)
held_or_empty None = ([], tt)

module _ (IsText : Script → List ℕ → Type 0) (IsTooLarge : Script → Type 0) where
  -- reading the input failed
  pub unread : (read : List ℕ → Result Script ReadingFault) → TooLong read → (held : Option (List ℕ)) (e : ReadingFault) → IsOfInput e →
      (e ≡ readings.TooLong → IfSome held (λ bytes. 1048576 < length bytes)) → (input : List ℕ) × IsInput held input × MayGive (read input) IsText IsTooLarge (Err (fault_of_reading e))
  unread read too_long held readings.TooLong of long = let found = input_too_long held (long refl) in (found.0, found.1, (readings.TooLong, too_long found.0 found.2, refl))
  unread read too_long held readings.Read of long = let some = held_or_empty held in (some.0, some.1, tt)
  unread read too_long held readings.NoMemory of long = let some = held_or_empty held in (some.0, some.1, tt)
  unread read too_long held readings.NotJson of long = absurd of
  unread read too_long held (readings.Shape p) of long = absurd of
  unread read too_long held (readings.Plan p k) of long = absurd of
  unread read too_long held (readings.Function k) of long = absurd of
  unread read too_long held (readings.Step k) of long = absurd of

  -- what was read is no script
  pub misread : (said : Result Script ReadingFault) (e : ReadingFault) → Fails e said → MayGive said IsText IsTooLarge (Err (fault_of_reading e))
  misread said readings.Read h = tt
  misread said readings.NoMemory h = tt
  misread said readings.TooLong h = (readings.TooLong, h, refl)
  misread said readings.NotJson h = (readings.NotJson, h, refl)
  misread said (readings.Shape p) h = (readings.Shape p, h, refl)
  misread said (readings.Plan p k) h = (readings.Plan p k, h, refl)
  misread said (readings.Function k) h = (readings.Function k, h, refl)
  misread said (readings.Step k) h = (readings.Step k, h, refl)

-- the fault that stands in the way
pub fault_given : (Gives : Given → Type 0) (r : Result (String Global) ScriptFault) (fault : ScriptFault) → IsErrAnd r (λ told. told ≡ fault) → Gives (Err fault) → Gives (given_by r)
fault_given Gives (Ok text) fault is gives = absurd is
fault_given Gives (Err told) fault is gives = subst (λ (x : ScriptFault). Gives (Err x)) (sym is) gives

-- ---- what is printed

-- the whole is a front of itself
whole_is_front : (text : List ℕ) (old new : Option (List ℕ)) → Appends old new text → AppendsFront old new text
whole_is_front text old new a = (text, [], sym (append-nil text), a)

line_printed : (fault : ScriptFault) (old new : Option (List ℕ)) → Appends old new (fault_line fault) → Prints (λ seen. seen ≡ Err fault) (Err fault) old new
line_printed faults.Write old new a = (Err faults.Write, refl, whole_is_front (fault_line faults.Write) old new a)
line_printed faults.TooLong old new a = (refl, a)
line_printed faults.NotJson old new a = (refl, a)
line_printed (faults.Shape p) old new a = (refl, a)
line_printed (faults.Plan p k) old new a = (refl, a)
line_printed (faults.Function k) old new a = (refl, a)
line_printed (faults.Step k) old new a = (refl, a)
line_printed faults.Read old new a = (refl, a)
line_printed faults.NoMemory old new a = (refl, a)
line_printed faults.RaceSize old new a = (refl, a)

-- the line of a fault was written
pub fault_printed : (given : Given) (fault : ScriptFault) (bytes : List ℕ) (old new : Option (List ℕ)) → given ≡ Err fault → bytes ≡ fault_line fault → Appends old new bytes →
    Prints (λ seen. seen ≡ given) (Err fault) old new
fault_printed given fault bytes old new is line a =
    subst (λ (x : Given). Prints (λ seen. seen ≡ x) (Err fault) old new) (sym is) (line_printed fault old new (subst (Appends old new) line a))

-- what prints one thing prints what that thing is
prints_more : (P Q : Given → Type 0) → ((given : Given) → P given → Q given) → (answer : Result (Unit {0}) ScriptFault) (old new : Option (List ℕ)) → Prints P answer old new → Prints Q answer old new
prints_more P Q more (Ok done) old new h = (h.0, more (Ok h.0) h.1, h.2)
prints_more P Q more (Err faults.Write) old new h = (h.0, more h.0 h.1, h.2)
prints_more P Q more (Err faults.TooLong) old new h = (more (Err faults.TooLong) h.0, h.1)
prints_more P Q more (Err faults.NotJson) old new h = (more (Err faults.NotJson) h.0, h.1)
prints_more P Q more (Err (faults.Shape p)) old new h = (more (Err (faults.Shape p)) h.0, h.1)
prints_more P Q more (Err (faults.Plan p k)) old new h = (more (Err (faults.Plan p k)) h.0, h.1)
prints_more P Q more (Err (faults.Function k)) old new h = (more (Err (faults.Function k)) h.0, h.1)
prints_more P Q more (Err (faults.Step k)) old new h = (more (Err (faults.Step k)) h.0, h.1)
prints_more P Q more (Err faults.Read) old new h = (more (Err faults.Read) h.0, h.1)
prints_more P Q more (Err faults.NoMemory) old new h = (more (Err faults.NoMemory) h.0, h.1)
prints_more P Q more (Err faults.RaceSize) old new h = (more (Err faults.RaceSize) h.0, h.1)

-- what an input gives was printed
pub given_printed : (Gives : List ℕ → Given → Type 0) (held : Option (List ℕ)) (given : Result (String Global) ScriptFault) (answer : Result (Unit {0}) ScriptFault) (old new : Option (List ℕ)) →
    ((input : List ℕ) × IsInput held input × Gives input (given_by given)) → Prints (λ seen. seen ≡ given_by given) answer old new →
    (input : List ℕ) × IsInput held input × Prints (Gives input) answer old new
given_printed Gives held given answer old new m p =
    (m.0, m.1, prints_more (λ seen. seen ≡ given_by given) (Gives m.0) (λ seen e. subst (Gives m.0) (sym e) m.2) answer old new p)
