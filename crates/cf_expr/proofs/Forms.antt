-- What plain forms do.
use Rattle.std.proofs.Common.{◌≡◌, ◌≢◌, ℕ, ◌<◌, ◌==◌, ◌∷◌, [], List, Bool, true, false, cond, Option, Some, None, All, length, arith, refl, map, is_some}
use Rattle.std.specs.Prelude.{slice_get, option_and_then, ◌&&◌}
use Rattle.std.specs.List.{list_all}
use Rattle.std.proofs.lemmas.Bool.{and_parts}
use Rattle.std.proofs.lemmas.Bool.Decides.{nat_tests}
use Rattle.std.proofs.lemmas.List.Elements.{All-head, All-tail}
use Rattle.cf_outcome.specs.declared.outcome.Outcome.{Outcome}
use Rattle.cf_forms.specs.declared.forms.Form.{Form}
use Rattle.cf_forms.specs.declared.forms.Form.TheVariants.{Source, Supply, RunAsync, Apply, Accept, ThenRun, Combine, AcceptBoth, RunBoth, ApplyEither, AcceptEither, RunEither, Compose, Handle, WhenComplete, Exceptionally, AllOf, AnyOf, ExceptionallyCompose}
use Rattle.cf_forms.specs.declared.forms.Due.{Due}
use Rattle.cf_forms.specs.declared.forms.Due.TheVariants.{Waits, Settles}
use Rattle.cf_forms.specs.Forms.{follows, due_of_first, due_of_both, first_there, first_fault}
use Rattle.cf_forms.specs.Plans.{fits_count}
use Rattle.cf_expr.specs.Expressions.{is_source}
use Rattle.cf_expr.specs.Histories.{is_plain_form}

-- ---- a plain form waits for all of its sources

one_there : (form : Form) (q : List (Option Outcome)) → due_of_first form (first_there q) ≢ Waits → (length q == 1) ≡ true → list_all is_some q ≡ true
one_there form [] h e = absurd (h refl)
one_there form (None ∷ []) h e = absurd (h refl)
one_there form (Some o ∷ []) h e = refl
one_there form (x ∷ y ∷ q) h e = absurd (grind (arith, nat_tests))

both_there : (form : Form) (q : List (Option Outcome)) → due_of_both form q ≢ Waits → list_all is_some q ≡ true
both_there form (Some a ∷ Some b ∷ []) h = refl
both_there form q h = absurd (h refl)

none_needed : (q : List (Option Outcome)) → (length q == 0) ≡ true → list_all is_some q ≡ true
none_needed [] e = refl
none_needed (x ∷ q) e = absurd (grind (arith, nat_tests))

all_needed : (b : Bool) (due : Due) → cond b due Waits ≢ Waits → b ≡ true
all_needed true due h = refl
all_needed false due h = absurd (h refl)

pub all_there : (form : Form) (q : List (Option Outcome)) → is_plain_form form ≡ true → fits_count form (length q) ≡ true → follows form q ≢ Waits → list_all is_some q ≡ true
all_there Source q plain e h = absurd (h refl)
all_there Supply q plain e h = none_needed q e
all_there RunAsync q plain e h = none_needed q e
all_there Apply q plain e h = one_there Apply q h e
all_there Accept q plain e h = one_there Accept q h e
all_there ThenRun q plain e h = one_there ThenRun q h e
all_there Combine q plain e h = both_there Combine q h
all_there AcceptBoth q plain e h = both_there AcceptBoth q h
all_there RunBoth q plain e h = both_there RunBoth q h
all_there ApplyEither q plain e h = cc
all_there AcceptEither q plain e h = cc
all_there RunEither q plain e h = cc
all_there Compose q plain e h = one_there Compose q h e
all_there Handle q plain e h = one_there Handle q h e
all_there WhenComplete q plain e h = one_there WhenComplete q h e
all_there Exceptionally q plain e h = one_there Exceptionally q h e
all_there AllOf q plain e h = all_needed (list_all is_some q) (Settles (first_fault q)) h
all_there AnyOf q plain e h = cc
all_there ExceptionallyCompose q plain e h = one_there ExceptionallyCompose q h e

-- ---- once all are there, what they are stays

there_same : (x y : Option Outcome) → is_some x ≡ true → ((o : Outcome) → x ≡ Some o → y ≡ Some o) → y ≡ x
there_same (Some o) y t h = h o refl
there_same None y t h = cc

pub sources_same : (f g : ℕ → Option Outcome) (i : ℕ) (sources : List ℕ) → All (λ j. j < i) sources → list_all is_some (map f sources) ≡ true →
    ((j : ℕ) (o : Outcome) → j < i → f j ≡ Some o → g j ≡ Some o) → map g sources ≡ map f sources
sources_same f g i [] lower t h = refl
sources_same f g i (j ∷ sources) lower t h =
    let l : j < i = All-head (λ k. k < i) j sources lower in
    let here = there_same (f j) (g j) (and_parts (is_some (f j)) (list_all is_some (map f sources)) t).0 (λ o e. h j o l e) in
    let rest = sources_same f g i sources (All-tail (λ k. k < i) j sources lower) (and_parts (is_some (f j)) (list_all is_some (map f sources)) t).1 h in
    cc

-- the outcome of the first source
pub first_same : (f g : ℕ → Option Outcome) (sources : List ℕ) → map g sources ≡ map f sources → option_and_then g (slice_get sources 0) ≡ option_and_then f (slice_get sources 0)
first_same f g [] e = refl
first_same f g (j ∷ sources) e = cc

-- a source waits for ever
pub no_source : (form : Form) (q : List (Option Outcome)) → follows form q ≢ Waits → is_source form ≡ false
no_source Source q h = absurd (h refl)
no_source form q h = refl
