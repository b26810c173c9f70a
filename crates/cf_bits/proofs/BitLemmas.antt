-- Bits of words, as flags.
use Rattle.std.proofs.Common.{◌≡◌, ◌≢◌, ℕ, ◌+◌, ◌*◌, ◌/◌, ◌%◌, ◌^◌, ◌<◌, ◌≤◌, ◌∷◌, ◌++◌, [], List, Bool, false, Some, None, length, suc, zero, min, arith, ap, sym, ◌∙◌, refl, map, get_or, set, eqb, length-set, get_or-set_same, get_or-set_other, ext_get_or, inl, inr, subst}
use Rattle.std.proofs.lemmas.Grind.{get_or_default_zero}
use Rattle.std.specs.Int.{bit_at}
use Rattle.std.specs.List.{range_with_len, position}
use Rattle.std.specs.Prelude.{slice_get, replicate}
use Rattle.std.proofs.lemmas.List.FromFn.{length-map-range_with_len, get_or-map-range_with_len, map-range_with_len_more}
use Rattle.std.proofs.lemmas.List.{length-replicate}
use Rattle.std.proofs.lemmas.Bool.{cases_lt}
use Rattle.std.proofs.lemmas.Bool.Decides.{eqb_tells}
use Rattle.std.proofs.lemmas.Option.{slice_get-get_or}
use Rattle.std.proofs.lemmas.Nat.Bits.{bit_at-zero, same_from_bits_below}
use Rattle.cf_bits.proofs.Positions.{position_is, position_is_none}
use Rattle.cf_bits.specs.Bits.{bit_in, flags, AreBits, SetsBit, IsLowestBit}

-- a number with a bit isn't 0
pub positive : (word k : ℕ) → bit_at word k ≡ 1 → 0 < word
positive zero k e = absurd (omega (arith, bit_at-zero k, e))
positive (suc n) k e = omega arith

lt_irrefl : (n : ℕ) → n < n → ⊥
lt_irrefl n h = omega arith

-- the bit that is written
pub bit_in-set_same : (words : List ℕ) (i word b : ℕ) → length words ≡ 64 → i < 4096 → SetsBit (get_or words (i / 64) 0) word (i % 64) b → bit_in (set words (i / 64) word) i ≡ b
bit_in-set_same words i word b count few s =
    let within : i / 64 < length words = omega arith in
    rw (get_or-set_same words (i / 64) word 0 within) s.same

-- the other bits
pub bit_in-set_other : (words : List ℕ) (i word b : ℕ) → length words ≡ 64 → i < 4096 → SetsBit (get_or words (i / 64) 0) word (i % 64) b → (j : ℕ) → j ≢ i → bit_in (set words (i / 64) word) j ≡ bit_in words j
bit_in-set_other words i word b count few s j ne =
    let within : i / 64 < length words = omega arith in
    elim (eqb_tells (j / 64) (i / 64)) [
      | inl h ↦ (let same = h.1 in
          let apart : j % 64 ≢ i % 64 = λ e. ne (omega arith) in
          rw (same, get_or-set_same words (i / 64) word 0 within) (s.others (j % 64) (omega arith) apart))
      | inr h ↦ ap (λ w. bit_at w (j % 64)) (get_or-set_other words (i / 64) (j / 64) word 0 h.1)
    ]

-- the flags after a bit was written
pub flags-set : (len : ℕ) (old new : List ℕ) (i : ℕ) (b : Bool) → i < len → eqb (bit_in new i) 1 ≡ b → ((j : ℕ) → j ≢ i → bit_in new j ≡ bit_in old j) → flags len new ≡ set (flags len old) i b
flags-set len old new i b within same others =
    let of : List ℕ → ℕ → Bool = λ words k. eqb (bit_in words k) 1 in
    let n = length-map-range_with_len (of new) 0 len in
    let m = length-map-range_with_len (of old) 0 len in
    ext_get_or false (flags len new) (set (flags len old) i b) (n ∙ sym (length-set (flags len old) i b ∙ m))
    (λ j l. let near : j < len = omega (arith, n) in
    let at = get_or-map-range_with_len (of new) 0 len j j false near (omega arith) in
    let was = get_or-map-range_with_len (of old) 0 len j j false near (omega arith) in
    elim (eqb_tells j i) [
      | inl h ↦ (let e = h.1 in let long : i < length (flags len old) = omega (arith, m) in
          at ∙ ap (of new) e ∙ same ∙ sym (rw e (get_or-set_same (flags len old) i b false long)))
      | inr h ↦ at ∙ ap (λ x. eqb x 1) (others j h.1) ∙ sym (get_or-set_other (flags len old) i j b false h.1 ∙ was)
    ])

-- the bits after a number was put in
pub AreBits-insert : (len top : ℕ) (words : List ℕ) (i word upper : ℕ) → AreBits len top words → i < len → SetsBit (get_or words (i / 64) 0) word (i % 64) 1 → SetsBit top upper (i / 64) 1 → AreBits len upper (set words (i / 64) word)
AreBits-insert len top words i word upper h within s t =
    let small : i < 4096 = omega (arith, h.few) in
    let at : i / 64 < length words = omega (arith, h.count) in
    let some : 0 < word = positive word (i % 64) s.same in
    record {
      few = h.few;
      count = length-set words (i / 64) word ∙ h.count;
      tops = λ w l. elim (eqb_tells w (i / 64)) [
        | inl e ↦ (let same = e.1 in rw (same, get_or-set_same words (i / 64) word 0 at) (t.same ∙ omega arith))
        | inr e ↦ t.others w l e.1 ∙ h.tops w l ∙ ap (λ x. min x 1) (sym (get_or-set_other words (i / 64) w word 0 e.1))
      ];
      above = λ j from to. bit_in-set_other words i word 1 h.count small s j (λ e. lt_irrefl i (omega arith)) ∙ h.above j from to;
    }

-- the bits after a number was taken out
pub AreBits-remove : (len top : ℕ) (words : List ℕ) (i word upper : ℕ) → AreBits len top words → i < len → SetsBit (get_or words (i / 64) 0) word (i % 64) 0 →
    bit_at upper (i / 64) ≡ min word 1 → ((w : ℕ) → w < 64 → w ≢ i / 64 → bit_at upper w ≡ bit_at top w) → AreBits len upper (set words (i / 64) word)
AreBits-remove len top words i word upper h within s here others =
    let small : i < 4096 = omega (arith, h.few) in
    let at : i / 64 < length words = omega (arith, h.count) in
    record {
      few = h.few;
      count = length-set words (i / 64) word ∙ h.count;
      tops = λ w l. elim (eqb_tells w (i / 64)) [
        | inl e ↦ (let same = e.1 in rw (same, get_or-set_same words (i / 64) word 0 at) here)
        | inr e ↦ others w l e.1 ∙ h.tops w l ∙ ap (λ x. min x 1) (sym (get_or-set_other words (i / 64) w word 0 e.1))
      ];
      above = λ j from to. bit_in-set_other words i word 0 h.count small s j (λ e. lt_irrefl i (omega arith)) ∙ h.above j from to;
    }

-- there is a flag for each number below the length
pub length-flags : (len : ℕ) (words : List ℕ) → length (flags len words) ≡ len
length-flags len words = length-map-range_with_len (λ k. eqb (bit_in words k) 1) 0 len

-- one number more, whose bit isn't set
pub flags-grow : (len top : ℕ) (words : List ℕ) → AreBits len top words → len < 4096 → flags (len + 1) words ≡ flags len words ++ false ∷ []
flags-grow len top words h few =
    let at : 0 + len ≡ len = omega arith in
    map-range_with_len_more (λ k. eqb (bit_in words k) 1) 0 len len at
    ∙ ap (λ b. flags len words ++ eqb b 1 ∷ []) (h.above len (omega arith) few)

pub AreBits-grow : (len top : ℕ) (words : List ℕ) → AreBits len top words → len < 4096 → AreBits (len + 1) top words
AreBits-grow len top words h few = record { few = omega arith; count = h.count; tops = h.tops; above = λ i l. h.above i (omega arith) }

-- where a number's word is
pub in_words : (len top : ℕ) (words : List ℕ) (value : List Bool) (i : ℕ) → AreBits len top words → flags len words ≡ value → i < length value → i < len
in_words len top words value i h e l =
    let n = length-map-range_with_len (λ k. eqb (bit_in words k) 1) 0 len in
    let m = ap length e in
    omega (arith, n, m)

-- a flag
flag_at : (len : ℕ) (words : List ℕ) (j : ℕ) → j < length (flags len words) → get_or (flags len words) j false ≡ eqb (bit_in words j) 1
flag_at len words j l =
    let n = length-map-range_with_len (λ k. eqb (bit_in words k) 1) 0 len in
    get_or-map-range_with_len (λ k. eqb (bit_in words k) 1) 0 len j j false (omega (arith, n)) (omega arith)

pub flag_get : (len : ℕ) (words : List ℕ) (i : ℕ) → i < len → slice_get (flags len words) i ≡ Some (eqb (bit_in words i) 1)
flag_get len words i l =
    let n = length-map-range_with_len (λ k. eqb (bit_in words k) 1) 0 len in
    let in_flags : i < length (flags len words) = omega (arith, n) in
    slice_get-get_or (flags len words) i false in_flags ∙ ap (λ x. Some x) (flag_at len words i in_flags)

-- no number is in where all words are 0
get_or-zeros : (n m : ℕ) → get_or (replicate {A = ℕ} n 0) m 0 ≡ 0
get_or-zeros zero m = refl
get_or-zeros (suc n) zero = refl
get_or-zeros (suc n) (suc m) = get_or-zeros n m

map-zeros : (n a len : ℕ) → map (λ i. eqb (bit_in (replicate n 0) i) 1) (range_with_len a len) ≡ replicate len false
map-zeros n a zero = refl
map-zeros n a (suc len) =
    let here : eqb (bit_in (replicate n 0) a) 1 ≡ false = ap (λ b. eqb b 1) (ap (λ w. bit_at w (a % 64)) (get_or-zeros n (a / 64)) ∙ bit_at-zero (a % 64)) in
    rw (here, map-zeros n (a + 1) len) refl

pub flags-empty : (n len : ℕ) → flags len (replicate n 0) ≡ replicate len false
flags-empty n len = map-zeros n 0 len

pub AreBits-empty : (n len : ℕ) → n ≡ 64 → len ≤ 4096 → AreBits len 0 (replicate n 0)
AreBits-empty n len e few = record {
  few = few;
  count = length-replicate n 0 ∙ e;
  tops = λ w l. bit_at-zero w ∙ sym (ap (λ x. min x 1) (get_or-zeros n w));
  above = λ i from to. ap (λ w. bit_at w (i % 64)) (get_or-zeros n (i / 64)) ∙ bit_at-zero (i % 64);
}

-- where the upper word is 0, all words are
pub words_zero : (len : ℕ) (words : List ℕ) → AreBits len 0 words → words ≡ replicate 64 0
words_zero len words h =
    let n = length-replicate {A = ℕ} 64 0 in
    ext_get_or 0 words (replicate 64 0) (h.count ∙ sym n)
    (λ j l. let t = h.tops j (let c = h.count in omega (arith, c, l)) in
    let z = bit_at-zero j in
    let none : get_or words j 0 ≡ 0 = omega (arith, t, z) in
    none ∙ sym (get_or-zeros 64 j))

-- where the first flag is set
-- a bit of a word that is 0
bit_in-zero : (words : List ℕ) (j : ℕ) → get_or words (j / 64) 0 ≡ 0 → bit_in words j ≡ 0
bit_in-zero words j e = ap (λ w. bit_at w (j % 64)) e ∙ bit_at-zero (j % 64)

-- a number with a bit is below the length
within_len : (len i bit : ℕ) → (len ≤ i → bit ≡ 0) → bit ≡ 1 → i < len
within_len len i bit above one =
    elim (cases_lt i len) [ inl h ↦ h | inr h ↦ (let none = above h in absurd (omega arith)) ]

-- what is left of a word that was 0
cleared : (old word k : ℕ) → word < 2 ^ 64 → SetsBit old word k 0 → old ≡ 0 → word ≡ 0
cleared old word k fits s e =
    same_from_bits_below 64 word 0 fits (omega arith) (λ j l. sym (bit_at-zero j ∙ sym (elim (eqb_tells j k) [
      | inl h ↦ (let same = h.1 in rw same s.same)
      | inr h ↦ s.others j l h.1 ∙ ap (λ w. bit_at w j) e ∙ bit_at-zero j
    ])))

pub cleared_positive : (old word k : ℕ) → word < 2 ^ 64 → SetsBit old word k 0 → (word ≡ 0 → ⊥) → 0 < old
cleared_positive old word k fits s ne =
    elim (cases_lt 0 old) [ inl h ↦ h | inr h ↦ absurd (ne (cleared old word k fits s (omega arith))) ]

-- the first flag is that of the lowest bit of the lowest word that isn't 0
pub flags-lowest : (len top : ℕ) (words : List ℕ) (w k : ℕ) → AreBits len top words → IsLowestBit top w → IsLowestBit (get_or words w 0) k → position (λ b. b) (flags len words) ≡ Some (64 * w + k)
flags-lowest len top words w k h hw hk =
    let i = 64 * w + k in
    let n = length-map-range_with_len (λ j. eqb (bit_in words j) 1) 0 len in
    let k64 = hk.within in
    let w64' = hw.within in
    let div : i / 64 ≡ w = omega arith in
    let rem : i % 64 ≡ k = omega arith in
    let one : bit_in words i ≡ 1 = rw (div, rem) hk.here in
    let within : i < len = within_len len i (bit_in words i) (λ l. h.above i l (omega arith)) one in
    let clear : (j : ℕ) → j < i → bit_in words j ≡ 0 = λ j l. elim (eqb_tells (j / 64) w) [
      | inl e ↦ (let same = e.1 in rw same (hk.below (j % 64) (omega arith)))
      | inr e ↦ (let ne = e.1 in let lower : j / 64 < w = omega arith in
          let t = hw.below (j / 64) lower in
          let u = h.tops (j / 64) (omega arith) in
          bit_in-zero words j (omega (arith, t, u)))
    ] in
    position_is (λ b. b) (flags len words) i false (omega (arith, n))
    (λ j l. flag_at len words j (omega (arith, n)) ∙ ap (λ x. eqb x 1) (clear j l))
    (flag_at len words i (omega (arith, n)) ∙ ap (λ x. eqb x 1) one)

pub flags-none : (len : ℕ) (words : List ℕ) → AreBits len 0 words → position (λ b. b) (flags len words) ≡ None
flags-none len words h =
    let n = length-map-range_with_len (λ j. eqb (bit_in words j) 1) 0 len in
    position_is_none (λ b. b) (flags len words) false (λ j l.
    let few = h.few in
    let u = h.tops (j / 64) (omega (arith, n)) in
    let z = bit_at-zero (j / 64) in
    flag_at len words j l ∙ ap (λ x. eqb x 1) (bit_in-zero words j (omega (arith, u, z))))

-- ---- the word of a number that is below the length

pub word_within : (len top : ℕ) (words : List ℕ) (value : List Bool) (i : ℕ) → AreBits len top words → flags len words ≡ value → i < length value → i / 64 < length words
word_within len top words value i h e l =
    let low = in_words len top words value i h e l in
    omega (arith, h.count, h.few)

-- what is found there
pub word_found : (len top : ℕ) (words : List ℕ) (value : List Bool) (i found : ℕ) → AreBits len top words → flags len words ≡ value → i < length value → found ≡ get_or words (i / 64) found → found ≡ get_or words (i / 64) 0
word_found len top words value i found h e l at = at ∙ get_or_default_zero words (i / 64) found (word_within len top words value i h e l)

-- what is written in its place
pub word_written : (len top : ℕ) (words : List ℕ) (value : List Bool) (i found word b : ℕ) → AreBits len top words → flags len words ≡ value → i < length value → found ≡ get_or words (i / 64) found →
    SetsBit found word (i % 64) b → SetsBit (get_or words (i / 64) 0) word (i % 64) b
word_written len top words value i found word b h e l at s =
    let P : ℕ → Type 0 = λ old. SetsBit old word (i % 64) b in
    subst P (word_found len top words value i found h e l at) s

-- the set is then the old one with that bit
pub flags-written : (len top : ℕ) (words : List ℕ) (value : List Bool) (i found word n : ℕ) (b : Bool) → AreBits len top words → flags len words ≡ value → i < length value → found ≡ get_or words (i / 64) found →
    SetsBit found word (i % 64) n → eqb n 1 ≡ b → flags len (set words (i / 64) word) ≡ set value i b
flags-written len top words value i found word n b h e l at s is =
    let low = in_words len top words value i h e l in
    let small : i < 4096 = omega (arith, h.few) in
    let written = word_written len top words value i found word n h e l at s in
    flags-set len words (set words (i / 64) word) i b low (ap (λ x. eqb x 1) (bit_in-set_same words i word n h.count small written) ∙ is)
    (bit_in-set_other words i word n h.count small written)
    ∙ ap (λ v. set v i b) e
