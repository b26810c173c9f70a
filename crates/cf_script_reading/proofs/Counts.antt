-- How many items an array has, and how many members an object.
use Rattle.std.proofs.Common.{◌≡◌, ◌≢◌, suc, List, [], ◌∷◌, length, refl, ap, Some, None, String, arith}
use Rattle.std.specs.Prelude.{slice_get, string_bytes}
use Rattle.std.specs.declared.alloc.Global.{Global}
use Rattle.serde_json.specs.declared.value.Value.{Value}
use Rattle.serde_json.specs.View.{items_view, members_view, view}
use Rattle.cf_script_reading.specs.Parts.{items_count, lone}

pub items_counted : (vs : List Value) → items_count (items_view vs) ≡ length vs
items_counted [] = refl
items_counted (v ∷ vs) = ap suc (items_counted vs)

-- the first of one member is the lone one
pub lone_first : (ms : List (String Global × Value)) (k : String Global) (v : Value)
    → length ms ≡ 1 → slice_get ms 0 ≡ Some (k, v) → lone (members_view ms) ≡ Some (string_bytes k, view v)
lone_first [] k v h e = absurd (omega arith)
lone_first (m ∷ []) k v h e =
    let same : m ≡ (k, v) = cc in
    ap (λ (p : String Global × Value). Some (string_bytes p.0, view p.1)) same
lone_first (m ∷ n ∷ ms) k v h e = absurd (omega arith)

-- none is where there is not one
pub lone_none : (ms : List (String Global × Value)) → length ms ≢ 1 → lone (members_view ms) ≡ None
lone_none [] h = refl
lone_none (m ∷ []) h = absurd (h refl)
lone_none (m ∷ n ∷ ms) h = refl
