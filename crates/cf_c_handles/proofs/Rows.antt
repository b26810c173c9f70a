-- What a view of a row tells: the first token of a put, and the place of the last entry.
use Rattle.std.proofs.Common.{◌≡◌, ℕ, ◌<◌, List, [], ◌∷◌, ◌++◌, ◌∙◌, get_or, length, length-append, map, ap, refl, sym, arith}
use Rattle.std.proofs.lemmas.List.{length-map}
use Rattle.cf_event.specs.Words.{word_of}
use Rattle.cf_row.specs.declared.entry.Entry.{Entry}
use Rattle.cf_row.specs.Puts.{stamped}
use Rattle.cf_row.specs.Rows.{history_of, words_in}

-- a put of no entries is none
pub none_in : (put : List Entry) → length put ≡ 0 → put ≡ []
none_in [] none = refl
none_in (x ∷ put) none = absurd (omega (arith, none))

-- where there are words there is a put
pub some_put : (n : ℕ) (words : List ℕ) (put : List Entry) → put ≡ stamped n words → 0 < length words → 0 < length put
some_put n [] put is some = absurd (omega arith)
some_put n (w ∷ words) put is some = let count = ap length is in omega (arith, count)

-- and its first token is that with which it was stamped
pub first_token : (n : ℕ) (words : List ℕ) (put : List Entry) (d : Entry) → put ≡ stamped n words → 0 < length words → (get_or put 0 d).token ≡ n
first_token n [] put d is some = absurd (omega arith)
first_token n (w ∷ words) put d is some = ap (λ (l : List Entry). (get_or l 0 d).token) is

-- an entry stands in the ledger behind those that were seen before
pub last_place : (old new : List Entry) (x : Entry) → new ≡ old ++ x ∷ [] → words_in new ≡ map word_of (history_of new) → length old < length (history_of new)
last_place old new x is named =
    let count = sym (length-map (history_of new) word_of) ∙ ap length (sym named) ∙ length-map new (λ (y : Entry). y.word) in
    let size = ap length is ∙ length-append old (x ∷ []) in
    omega (arith, count, size)
