-- Forms come back from their numbers and from their names.
use Rattle.std.proofs.Common.{◌≡◌, ◌∙◌, ℕ, zero, suc, List, [], ◌∷◌, map, ◌+◌, ◌<◌, Bool, true, false, Option, Some, None, refl, ap, sym, subst, arith}
use Rattle.std.specs.Prelude.{IfSome, codes, if◌then◌else◌, slice_get}
use Rattle.std.specs.List.{range_with_len}
use Rattle.std.specs.Option.{option_or}
use Rattle.std.specs.Str.{bytes_eq}
use Rattle.std.proofs.lemmas.Slice.Eq.{bytes_eq-Decides}
use Rattle.cf_forms.specs.declared.forms.Form.{Form}
use Rattle.cf_forms.specs.declared.forms.Form.TheVariants.{Source, Supply, RunAsync, Apply, Accept, ThenRun, Combine, AcceptBoth, RunBoth, ApplyEither, AcceptEither, RunEither, Compose, Handle, WhenComplete, Exceptionally, AllOf, AnyOf, ExceptionallyCompose}
use Rattle.cf_forms.specs.Naming.{form_name, form_named, form_number, forms, free_form, handling_form, pair_form, single_form}

-- a form comes back from its number
pub form_back : (form : Form) → slice_get forms (form_number form) ≡ Some form
form_back Source = refl
form_back Supply = refl
form_back RunAsync = refl
form_back Apply = refl
form_back Accept = refl
form_back ThenRun = refl
form_back Combine = refl
form_back AcceptBoth = refl
form_back RunBoth = refl
form_back ApplyEither = refl
form_back AcceptEither = refl
form_back RunEither = refl
form_back Compose = refl
form_back Handle = refl
form_back WhenComplete = refl
form_back Exceptionally = refl
form_back AllOf = refl
form_back AnyOf = refl
form_back ExceptionallyCompose = refl

-- what stands at a place of a list has the number that stands there
get_map : (f : Form → ℕ) (xs : List Form) (n : ℕ) (x : Form) → slice_get xs n ≡ Some x → slice_get (map f xs) n ≡ Some (f x)
get_map f [] n x e = cc
get_map f (y ∷ xs) zero x e = let is : y ≡ x = cc in ap (λ z. Some (f z)) is
get_map f (y ∷ xs) (suc n) x e = get_map f xs n x e

range_at : (a len n m : ℕ) → slice_get (range_with_len a len) n ≡ Some m → m ≡ a + n
range_at a zero n m e = cc
range_at a (suc len) zero m e = let is : a ≡ m = cc in omega (arith, is)
range_at a (suc len) (suc n) m e = let rest = range_at (a + 1) len n m e in omega (arith, rest)

numbers : map form_number forms ≡ range_with_len 0 19
numbers = refl

-- a number comes back from its form
pub number_is : (n : ℕ) (form : Form) → slice_get forms n ≡ Some form → form_number form ≡ n
number_is n form e =
    let there = ap (λ (xs : List ℕ). slice_get xs n) (sym numbers) ∙ get_map form_number forms n form e in
    let is = range_at 0 19 n (form_number form) there in
    omega (arith, is)

-- there are 19 numbers
pub number_few : (form : Form) → form_number form < 19
number_few Source = omega arith
number_few Supply = omega arith
number_few RunAsync = omega arith
number_few Apply = omega arith
number_few Accept = omega arith
number_few ThenRun = omega arith
number_few Combine = omega arith
number_few AcceptBoth = omega arith
number_few RunBoth = omega arith
number_few ApplyEither = omega arith
number_few AcceptEither = omega arith
number_few RunEither = omega arith
number_few Compose = omega arith
number_few Handle = omega arith
number_few WhenComplete = omega arith
number_few Exceptionally = omega arith
number_few AllOf = omega arith
number_few AnyOf = omega arith
number_few ExceptionallyCompose = omega arith

-- the form that a test finds has the name that was tested, where the one that is found else has it
chosen : (b : Bool) (name : List ℕ) (x : Form) (rest : Option Form) (form : Form) → (b ≡ true → name ≡ form_name x) → (rest ≡ Some form → name ≡ form_name form) →
    (if b then Some x else rest) ≡ Some form → name ≡ form_name form
chosen true name x rest form is else_is e = let same : x ≡ form = cc in subst (λ f. name ≡ form_name f) same (is refl)
chosen false name x rest form is else_is e = else_is e

tested : (text name : List ℕ) (x : Form) (rest : Option Form) (form : Form) → text ≡ form_name x → (rest ≡ Some form → name ≡ form_name form) →
    (if bytes_eq name text then Some x else rest) ≡ Some form → name ≡ form_name form
tested text name x rest form same else_is e =
    chosen (bytes_eq name text) name x rest form (λ b. (bytes_eq-Decides name text).0 b ∙ same) else_is e

-- so it is with the first of two that is there
first_is : (a b : Option Form) (name : List ℕ) (form : Form) → (a ≡ Some form → name ≡ form_name form) → (b ≡ Some form → name ≡ form_name form) →
    option_or a b ≡ Some form → name ≡ form_name form
first_is (Some x) b name form left right e = left e
first_is None b name form left right e = right e

free_is : (name : List ℕ) (form : Form) → free_form name ≡ Some form → name ≡ form_name form
unfolding free_form
free_is name form =
    tested (codes "source") name Source _ form refl (
    tested (codes "supply") name Supply _ form refl (
    tested (codes "runAsync") name RunAsync _ form refl (
    tested (codes "allOf") name AllOf _ form refl (
    tested (codes "anyOf") name AnyOf None form refl (λ e. absurd cc)))))

single_is : (name : List ℕ) (form : Form) → single_form name ≡ Some form → name ≡ form_name form
unfolding single_form
single_is name form =
    tested (codes "apply") name Apply _ form refl (
    tested (codes "accept") name Accept _ form refl (
    tested (codes "thenRun") name ThenRun _ form refl (
    tested (codes "compose") name Compose None form refl (λ e. absurd cc))))

handling_is : (name : List ℕ) (form : Form) → handling_form name ≡ Some form → name ≡ form_name form
unfolding handling_form
handling_is name form =
    tested (codes "handle") name Handle _ form refl (
    tested (codes "whenComplete") name WhenComplete _ form refl (
    tested (codes "exceptionally") name Exceptionally _ form refl (
    tested (codes "exceptionallyCompose") name ExceptionallyCompose None form refl (λ e. absurd cc))))

pair_is : (name : List ℕ) (form : Form) → pair_form name ≡ Some form → name ≡ form_name form
unfolding pair_form
pair_is name form =
    tested (codes "combine") name Combine _ form refl (
    tested (codes "acceptBoth") name AcceptBoth _ form refl (
    tested (codes "runBoth") name RunBoth _ form refl (
    tested (codes "applyEither") name ApplyEither _ form refl (
    tested (codes "acceptEither") name AcceptEither _ form refl (
    tested (codes "runEither") name RunEither None form refl (λ e. absurd cc))))))

named_is : (name : List ℕ) (form : Form) → form_named name ≡ Some form → name ≡ form_name form
unfolding form_named
named_is name form =
    first_is (free_form name) _ name form (free_is name form) (
    first_is (single_form name) _ name form (single_is name form) (
    first_is (handling_form name) (pair_form name) name form (handling_is name form) (pair_is name form)))

-- a name comes back from its form, if there is one
pub name_back : (name : List ℕ) (found : Option Form) → found ≡ form_named name → IfSome found (λ form. name ≡ form_name form)
name_back name (Some form) is = named_is name form (sym is)
name_back name None is = tt
