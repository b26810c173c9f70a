-- The fields of events that attach a stage.
use Rattle.std.proofs.Common.{◌≡◌, ℕ, ◌/◌, ◌%◌, ◌^◌, ◌<◌, ◌≤◌, Bool, true, false, Option, Some, None, refl, subst, arith}
use Rattle.std.specs.Prelude.{is_some, not, ◌==◌, ◌&&◌, ◌||◌, if◌then◌else◌, option_and_then, slice_get, unwrap_or}
use Rattle.std.proofs.lemmas.Grind.{common_steps}
use Rattle.std.proofs.lemmas.Bool.{and_parts}
use Rattle.std.proofs.lemmas.Bool.Decides.{nat_tests}
use Rattle.cf_forms.specs.declared.forms.Form.{Form}
use Rattle.cf_forms.specs.declared.forms.Of.{Of}
use Rattle.cf_forms.specs.declared.forms.Of.TheVariants.{None as NoSource, One, Two}
use Rattle.cf_forms.specs.Naming.{form_number, forms}
use Rattle.cf_forms.specs.Plans.{calls_function, fits_count, fits_form}
use Rattle.cf_forms.proofs.NamingLemmas.{form_back, number_few, number_is}
use Rattle.cf_model.specs.declared.events.Event.{Event}
use Rattle.cf_model.specs.declared.events.Event.TheVariants.{Attach as Attaches}
use Rattle.cf_event.specs.Words.{IsEvent, attach_low, count_of, first_of, second_of, word_of, word_with}
use Rattle.cf_event.specs.Decoding.{attach_of, attach_with, of_with}

-- what is found by one of two ways
pub chosen : {A P : Type 0} (b : Bool) (x y : Option A) (z : A) → (b ≡ true → x ≡ Some z → P) → (b ≡ false → y ≡ Some z → P) → (if b then x else y) ≡ Some z → P
chosen true x y z f g h = f refl h
chosen false x y z f g h = g refl h

-- sources come back
of_back : (of : Of) → of_with (count_of of) (first_of of) (second_of of) ≡ Some of
of_back NoSource = refl
of_back (One a) = refl
of_back (Two a b) = refl

of_with_is : (count first second : ℕ) (of : Of) → of_with count first second ≡ Some of → (count_of of ≡ count) × (first_of of ≡ first) × (second_of of ≡ second)
of_with_is count first second of h =
    chosen (count == 0 && first == 0 && second == 0) (Some NoSource) _ of (λ k n. grind (arith, common_steps, nat_tests)) (λ k0.
    chosen (count == 1 && second == 0) (Some (One first)) _ of (λ k n. grind (arith, common_steps, nat_tests)) (λ k1.
    chosen (count == 2) (Some (Two first second)) None of (λ k n. grind (arith, common_steps, nat_tests)) (λ k2 n. absurd cc))) h

pub count_small : (of : Of) → count_of of < 16
count_small NoSource = omega arith
count_small (One a) = omega arith
count_small (Two a b) = omega arith

-- no form both wants a function and wants none
one_way : (a b : Bool) → (a && (false || not b) && (not false || b)) ≡ true → (a && (true || not b) && (not true || b)) ≡ false
one_way true true e = cc
one_way true false e = refl
one_way false b e = cc

-- an attaching comes back
attach_of_back : (who : ℕ) (form : Form) (of : Of) (function : Option ℕ) → fits_form form (count_of of) (is_some function) ≡ true →
    attach_of who form of (unwrap_or function 0) ≡ Some (Attaches who form of function)
attach_of_back who form of (Some n) e = rw e refl
attach_of_back who form of None e = rw (one_way (fits_count form (count_of of)) (calls_function form) e, e) refl

pub attach_back : (who : ℕ) (form : Form) (of : Of) (function : Option ℕ) → second_of of ≤ 4095 → unwrap_or function 0 ≤ 4095 → fits_form form (count_of of) (is_some function) ≡ true →
    attach_with who (first_of of) (count_of of) (attach_low form of function) ≡ Some (Attaches who form of function)
attach_back who form of function s f fits =
    let low = attach_low form of function in
    let number : low / 2 ^ 24 ≡ form_number form = omega (arith, s, f) in
    let second : low / 2 ^ 12 % 2 ^ 12 ≡ second_of of = omega (arith, s, f) in
    let called : low % 2 ^ 12 ≡ unwrap_or function 0 = omega (arith, s, f) in
    rw (number, second, called, form_back form, of_back of) (attach_of_back who form of function fits)

pub attach_small : (form : Form) (of : Of) (function : Option ℕ) → second_of of ≤ 4095 → unwrap_or function 0 ≤ 4095 → attach_low form of function < 2 ^ 32
attach_small form of function s f = let l = number_few form in omega (arith, l, s, f)

-- what an attaching with these fields is
and_then_is : {A B : Type 0} (x : Option A) (f : A → Option B) (z : B) → option_and_then f x ≡ Some z → (y : A) × (x ≡ Some y) × (f y ≡ Some z)
and_then_is None f z e = cc
and_then_is (Some y) f z e = (y, refl, e)

attach_of_is : (who : ℕ) (form : Form) (of : Of) (n : ℕ) (e : Event) → attach_of who form of n ≡ Some e →
    (function : Option ℕ) × (Attaches who form of function ≡ e) × (unwrap_or function 0 ≡ n) × (fits_form form (count_of of) (is_some function) ≡ true)
attach_of_is who form of n e h =
    chosen (fits_form form (count_of of) true) (Some (Attaches who form of (Some n))) _ e
    (λ fits is. (Some n, cc, refl, fits)) (λ other.
    chosen (fits_form form (count_of of) false && n == 0) (Some (Attaches who form of None)) None e
    (λ k is. (let parts = and_parts (fits_form form (count_of of) false) (n == 0) k in
    let nothing = parts.1 in
    let absent : 0 ≡ n = grind (arith, nat_tests) in
    (None, cc, absent, parts.0))) (λ k is. absurd cc)) h

pub attach_with_is : (who i tag low : ℕ) (e : Event) → who ≤ 63 → i < 4096 → low < 2 ^ 32 → attach_with who i tag low ≡ Some e → IsEvent e × (word_of e ≡ word_with 7 who i tag low)
attach_with_is who i tag low e w s l h =
    let a = and_then_is (slice_get forms (low / 2 ^ 24)) (λ form. option_and_then (λ of. attach_of who form of (low % 2 ^ 12)) (of_with tag i (low / 2 ^ 12 % 2 ^ 12))) e h in
    let b = and_then_is (of_with tag i (low / 2 ^ 12 % 2 ^ 12)) (λ of. attach_of who a.0 of (low % 2 ^ 12)) e a.2 in
    let c = attach_of_is who a.0 b.0 (low % 2 ^ 12) e b.2 in
    let form = number_is (low / 2 ^ 24) a.0 a.1 in
    let of = of_with_is tag i (low / 2 ^ 12 % 2 ^ 12) b.0 b.1 in
    let P : Event → Type 0 = λ x. IsEvent x × (word_of x ≡ word_with 7 who i tag low) in
    let count = of.0 in
    let first = of.1 in
    let second = of.2 in
    let number = c.2 in
    subst P c.1 ((w, omega (arith, first, s), omega (arith, second), omega (arith, number), c.3), omega (arith, first, second, count, number, form))
