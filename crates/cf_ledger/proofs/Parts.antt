-- Lists in one row: one more is written behind the others.
use Rattle.std.proofs.Common.{◌≡◌, ℕ, zero, suc, ◌+◌, ◌-◌, ◌<◌, ◌≤◌, Some, List, [], ◌∷◌, ◌++◌, length, refl, ap, sym, ◌∙◌, arith, drop, take, get_or}
use Rattle.std.specs.Prelude.{slice_get}
use Rattle.std.proofs.Math.Seq.{drop-append_seam, take-length}
use Rattle.std.proofs.lemmas.List.{drop-append-le, take-append-le, length-drop}
use Rattle.cf_ledger.specs.News.{AreEnds, begin_of, parts}

-- the places are within the row
ends_within : (from end : ℕ) (ends : List ℕ) → AreEnds from end ends → from ≤ end
ends_within from end [] h = omega (arith, h)
ends_within from end (e ∷ ends) h = let rest = ends_within e end ends h.1 in omega (arith, h.0, rest)

pub ends_push : (from end more : ℕ) (ends : List ℕ) → AreEnds from end ends → AreEnds from (end + more) (ends ++ (end + more) ∷ [])
ends_push from end more [] h = (omega (arith, h), refl)
ends_push from end more (e ∷ ends) h = (h.0, ends_push e end more ends h.1)

pub parts_push : (from : ℕ) (all xs : List ℕ) (ends : List ℕ) → AreEnds from (length all) ends → parts from (all ++ xs) (ends ++ (length all + length xs) ∷ []) ≡ parts from all ends ++ xs ∷ []
parts_push from all xs [] h =
    let count : length all + length xs - from ≡ length xs = omega (arith, h) in
    let seam : drop from (all ++ xs) ≡ xs = ap (λ n. drop n (all ++ xs)) h ∙ drop-append_seam all xs in
    ap (λ ys. ys ∷ []) (ap (take (length all + length xs - from)) seam ∙ ap (λ n. take n xs) count ∙ take-length xs)
parts_push from all xs (e ∷ ends) h =
    let within = ends_within e (length all) ends h.1 in
    let first = h.0 in
    let left : drop from (all ++ xs) ≡ drop from all ++ xs = drop-append-le from all xs (omega (arith, within, first)) in
    let count = length-drop from all in
    let head : take (e - from) (drop from (all ++ xs)) ≡ take (e - from) (drop from all) =
    ap (take (e - from)) left ∙ take-append-le (e - from) (drop from all) xs (omega (arith, within, first, count)) in
    ap (λ ys. ys ∷ parts e (all ++ xs) (ends ++ (length all + length xs) ∷ [])) head ∙ ap (λ lists. take (e - from) (drop from all) ∷ lists) (parts_push e all xs ends h.1)

pub begins : (from : ℕ) (ends : List ℕ) (k : ℕ) → 0 < k → k ≤ length ends → begin_of from ends k ≡ get_or ends (k - 1) 0
begins from ends zero l m = absurd (omega (arith, l))
begins from [] (suc k) l m = absurd (omega (arith, m))
begins from (e ∷ ends) (suc zero) l m = refl
begins from (e ∷ ends) (suc (suc k)) l m =
    let here : suc (suc k) - 1 ≡ suc k = omega arith in
    let next : suc k - 1 ≡ k = omega arith in
    begins e ends (suc k) (omega arith) (omega (arith, m)) ∙ ap (λ n. get_or ends n 0) next ∙ sym (ap (λ n. get_or (e ∷ ends) n 0) here)

pub count_parts : (from : ℕ) (all ends : List ℕ) → length (parts from all ends) ≡ length ends
count_parts from all [] = refl
count_parts from all (e ∷ ends) = ap suc (count_parts e all ends)

pub part_at : (from : ℕ) (all ends : List ℕ) (k : ℕ) → k < length ends → slice_get (parts from all ends) k ≡ Some (take (get_or ends k 0 - begin_of from ends k) (drop (begin_of from ends k) all))
part_at from all [] k l = absurd (omega (arith, l))
part_at from all (e ∷ ends) zero l = refl
part_at from all (e ∷ ends) (suc k) l = part_at e all ends k (omega (arith, l))

-- the k-th list is within the row
pub part_within : (from end : ℕ) (ends : List ℕ) (k : ℕ) → AreEnds from end ends → k < length ends → (begin_of from ends k ≤ get_or ends k 0) × (get_or ends k 0 ≤ end)
part_within from end [] k h l = absurd (omega (arith, l))
part_within from end (e ∷ ends) zero h l = (h.0, ends_within e end ends h.1)
part_within from end (e ∷ ends) (suc k) h l = part_within e end ends k h.1 (omega (arith, l))
