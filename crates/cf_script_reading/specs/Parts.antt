-- Numbers, values and the parts of arrays and objects. Where a thing is not as it has to be, there is nothing.
use Rattle.std.specs.Prelude.{◌==◌, ◌&&◌, ℕ, suc, ℤ, pos, negsuc, List, Option, Some, None, option_map, option_and_then, nat_le, nat_lt, int_le, if◌then◌else◌}
use Rattle.std.specs.Option.{option_map_or}
use Rattle.serde_json.specs.Data.{Data, null, Items, no_items, item, Members, no_members, member}
use Rattle.serde_json.specs.Find.{at, as_number, as_i64, as_array, as_object}
use Rattle.cf_outcome.specs.declared.outcome.Value.{Value}
use Rattle.cf_outcome.specs.declared.outcome.Value.TheVariants.{Nil, Int}

-- what comes next is read only where something is there
infixl 10 ◌>>=◌
abbrev pub ◌>>=◌ : {A B : Type 0} → Option A → (A → Option B) → Option B
(Some x) >>= next = next x
None >>= next = None

-- a whole number: a number for which `as_i64` tells a value
abbrev pub whole : Data → Option ℤ
whole d = option_and_then as_i64 (as_number d)

-- a number from 0 to most
abbrev pub natural_up_to : ℕ → ℤ → Option ℕ
natural_up_to most (pos n) = if nat_le n most then Some n else None
natural_up_to most (negsuc n) = None

-- a whole number from 0 to most
abbrev pub up_to : ℕ → Data → Option ℕ
up_to most d = option_and_then (natural_up_to most) (whole d)

-- a number of 32 bits with a sign
abbrev pub of_32_bits : ℤ → Option ℤ
of_32_bits z = if int_le (negsuc 2147483647) z && int_le z (pos 2147483647) then Some z else None

-- a whole number of 32 bits with a sign
abbrev pub int_of : Data → Option ℤ
int_of d = option_and_then of_32_bits (whole d)

-- a value: `null`, which is nil, or a whole number of 32 bits
abbrev pub value_of : Data → Option Value
value_of null = Some Nil
value_of d = option_map Int (int_of d)

abbrev pub items_count : Items → ℕ
items_count no_items = 0
items_count (item d ds) = suc (items_count ds)

-- how many elements an array has, 0 of what is none
abbrev pub elements : Data → ℕ
elements d = option_map_or items_count (as_array d) 0

-- something where there are exactly n elements
abbrev pub exactly : ℕ → Data → Option (Unit {0})
exactly n d = if elements d == n then Some tt else None

-- the whole number from 0 to most that is element i
abbrev pub number_at : ℕ → ℕ → Data → Option ℕ
number_at most i d = option_and_then (up_to most) (at i d)

-- the stage that is element i: a number below the number of stages
abbrev pub stage_at : ℕ → ℕ → Data → Option ℕ
stage_at stages i d = option_and_then (λ n. if nat_lt n stages then Some n else None) (number_at 65535 i d)

-- the value that is element i
abbrev pub value_at : ℕ → Data → Option Value
value_at i d = option_and_then value_of (at i d)

-- the name and the content of a member, where there is exactly one
abbrev pub lone : Members → Option (List ℕ × Data)
lone (member name d no_members) = Some (name, d)
lone ms = None

-- those of an object's one member
abbrev pub only_member : Data → Option (List ℕ × Data)
only_member d = option_and_then lone (as_object d)
