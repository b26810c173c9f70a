-- Bytes are JSON where they are UTF-8 and a text of JSON.
use Rattle.std.proofs.Common.{◌≡◌, ◌≤◌, ◌<◌, ℕ, List, length, nat_lt, arith, Option, Some, None, Err, Bool, true, false, refl, ap, ◌∙◌, IsUtf8, if◌then◌else◌}
use Rattle.std.proofs.lemmas.Bool.{lt-ltb}
use Rattle.std.proofs.lemmas.Str.{IsUtf8-from_is_utf8, is_utf8-from_IsUtf8}
use Rattle.std.proofs.lemmas.Bool.Decides.{nat_tests}
use Rattle.std.specs.Str.{is_utf8}
use Rattle.serde_json.specs.Data.{Data}
use Rattle.serde_json.specs.Read.{read}
use Rattle.cf_script_reading.specs.declared.purpose.Purpose.{Purpose}
use Rattle.cf_script_reading.specs.declared.fault.ReadingFault.TheVariants as faults
use Rattle.cf_script_reading.specs.declared.purpose.Purpose.TheVariants.{Race, Run}
use Rattle.cf_script_reading.specs.Reading.{json_of, outline, race_reading, reading, reading_for, script_of, script_said}

pub json_found : (bytes : List ℕ) (d : Data) → IsUtf8 bytes → read bytes ≡ Some d → json_of bytes ≡ Some d
json_found bytes d u e = ap (λ b. if b then read bytes else None) (is_utf8-from_IsUtf8 bytes u) ∙ e

missing : (b : Bool) (r : Option Data) → (b ≡ true → r ≡ None) → (if b then r else None) ≡ None
missing true r h = h refl
missing false r h = refl

pub json_missing : (bytes : List ℕ) → (IsUtf8 bytes → read bytes ≡ None) → json_of bytes ≡ None
json_missing bytes h = missing (is_utf8 bytes) (read bytes) (λ e. h (IsUtf8-from_is_utf8 bytes e))

-- bytes within the limit that are JSON say what their JSON value says
pub reading_is : (purpose : Purpose) (bytes : List ℕ) (d : Data) → length bytes ≤ 1048576 → IsUtf8 bytes → read bytes ≡ Some d → reading_for purpose bytes ≡ script_of purpose d
unfolding outline script_of
reading_is purpose bytes d few u e =
    let short : nat_lt 1048576 (length bytes) ≡ false = grind (arith, nat_tests) in
    let said : json_of bytes ≡ Some d = json_found bytes d u e in
    rw (short, said) refl

-- the same of a run, and of bytes that are too many or no JSON
pub reading_said : (bytes : List ℕ) (d : Data) → length bytes ≤ 1048576 → IsUtf8 bytes → read bytes ≡ Some d → reading bytes ≡ script_said d
reading_said bytes d few u e = reading_is Run bytes d few u e

too_long : (purpose : Purpose) (bytes : List ℕ) → 1048576 < length bytes → reading_for purpose bytes ≡ Err faults.TooLong
unfolding outline
too_long purpose bytes many = rw (lt-ltb 1048576 (length bytes) many) refl

pub reading_too_long : (bytes : List ℕ) → 1048576 < length bytes → reading bytes ≡ Err faults.TooLong
reading_too_long bytes many = too_long Run bytes many

pub race_too_long : (bytes : List ℕ) → 1048576 < length bytes → race_reading bytes ≡ Err faults.TooLong
race_too_long bytes many = too_long Race bytes many

pub reading_not_json : (bytes : List ℕ) → length bytes ≤ 1048576 → (IsUtf8 bytes → read bytes ≡ None) → reading bytes ≡ Err faults.NotJson
unfolding outline
reading_not_json bytes few h =
    let short : nat_lt 1048576 (length bytes) ≡ false = grind (arith, nat_tests) in
    let none : json_of bytes ≡ None = json_missing bytes h in
    rw (short, none) refl
