-- What a character of a text of others is written as.
use Rattle.std.proofs.Common.{◌≡◌, ◌∙◌, ℕ, ◌<◌, ◌%◌, ◌/◌, List, [], ◌∷◌, Bool, true, false, refl, ap, arith, get_or}
use Rattle.std.specs.Prelude.{All, ◌==◌, ◌&&◌, not, if◌then◌else◌}
use Rattle.std.specs.Char.{digit_char}
use Rattle.std.specs.List.{list_all, range_with_len}
use Rattle.std.proofs.lemmas.List.Elements.{All-cons, All-nil}
use Rattle.std.proofs.lemmas.List.Folds.{list_all_at}
use Rattle.std.proofs.lemmas.List.FromFn.{get_or-range_with_len, length-range_with_len}
use Rattle.cf_text.specs.Names.{is_shown}
use Rattle.cf_telling.specs.Escapes.{by_number, escape, is_special, written_as}
use Rattle.cf_telling.specs.declared.text.Within.{Within}
use Rattle.cf_telling.specs.declared.text.Within.TheVariants.{Json, Lines, OneLine}

-- of the first 16 numbers, one after another
shown_by : (b : Bool) (d : ℕ) → d < 16 → is_shown (digit_char d) ≡ b → is_shown (digit_char d) ≡ true
shown_by true d l e = e
shown_by false d l e =
    let numbers = range_with_len 0 16 in
    let at : get_or numbers d 0 ≡ d = omega (arith, get_or-range_with_len 0 16 d 0 l) in
    let none : list_all (λ k. is_shown (digit_char k)) numbers ≡ false =
    list_all_at (λ k. is_shown (digit_char k)) numbers d 0 (omega (arith, length-range_with_len 0 16)) (ap (λ k. is_shown (digit_char k)) at ∙ e) in
    absurd cc

digit_shown : (d : ℕ) → d < 16 → is_shown (digit_char d) ≡ true
digit_shown d l = shown_by (is_shown (digit_char d)) d l refl

AreShown : List ℕ → Type 0
AreShown cs = All (λ d. is_shown d ≡ true) cs

none : AreShown []
unfolding AreShown
none = All-nil (λ d. is_shown d ≡ true)

more : (c : ℕ) (cs : List ℕ) → is_shown c ≡ true → AreShown cs → AreShown (c ∷ cs)
unfolding AreShown
more c cs shown rest = All-cons (λ d. is_shown d ≡ true) c cs shown rest

number_shown : (c : ℕ) → AreShown (by_number c)
number_shown c =
    more 92 _ refl (more 117 _ refl (more _ _ (digit_shown (c / 4096 % 16) (omega arith)) (more _ _ (digit_shown (c / 256 % 16) (omega arith))
    (more _ _ (digit_shown (c / 16 % 16) (omega arith)) (more _ _ (digit_shown (c % 16) (omega arith)) none)))))

short_shown : (feed return tab : Bool) (c : ℕ) →
    AreShown (if feed then 92 ∷ 110 ∷ [] else (if return then 92 ∷ 114 ∷ [] else (if tab then 92 ∷ 116 ∷ [] else by_number c)))
short_shown true return tab c = more 92 _ refl (more 110 _ refl none)
short_shown false true tab c = more 92 _ refl (more 114 _ refl none)
short_shown false false true c = more 92 _ refl (more 116 _ refl none)
short_shown false false false c = number_shown c

escape_shown : (within : Within) (c : ℕ) → AreShown (escape within c)
escape_shown Json c = number_shown c
escape_shown Lines c = short_shown (c == 10) (c == 13) (c == 9) c
escape_shown OneLine c = short_shown (c == 10) (c == 13) (c == 9) c

written_by : (shown special : Bool) (within : Within) (c : ℕ) → is_shown c ≡ shown → AreShown (if shown && not special then c ∷ [] else escape within c)
written_by true false within c e = more c [] e none
written_by true true within c e = escape_shown within c
written_by false special within c e = escape_shown within c

pub written_shown : (within : Within) (c : ℕ) → All (λ d. is_shown d ≡ true) (written_as within c)
unfolding AreShown
written_shown within c = written_by (is_shown c) (is_special within c) within c refl
