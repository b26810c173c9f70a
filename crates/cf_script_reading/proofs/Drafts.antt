-- Plans and functions that grow.
use Rattle.std.proofs.Common.{◌≡◌, ℕ, ◌<◌, ◌≤◌, List, [], ◌∷◌, ◌++◌, length, sym, subst, Result, Ok, Err, Option, Some, None, All, arith, length-append}
use Rattle.std.specs.Prelude.{IfSome, OnOk}
use Rattle.std.proofs.lemmas.List.Elements.{All-append, All-weaker, All-cons, All-nil}
use Rattle.cf_forms.specs.declared.forms.Form.{Form}
use Rattle.cf_forms.specs.Plans.{Planned, PlannedStage, with_stage}
use Rattle.cf_script_reading.specs.declared.func.Func.{Func}
use Rattle.cf_script_reading.specs.Scripts.{FunctionFits}
use Rattle.cf_script_reading.specs.Stages.{number_after, with_function}

-- a function that is one of n is one of more
fits_more : (n m : ℕ) → n ≤ m → (stage : PlannedStage) (f : Option ℕ) → IfSome f (λ k. k < n) → IfSome f (λ k. k < m)
fits_more n m h stage None fits = tt
fits_more n m h stage (Some k) fits = omega arith

pub length_after : (functions : List Func) (function : Option Func) → length functions ≤ length (with_function functions function)
length_after functions None = omega arith
length_after functions (Some f) = omega (arith, length-append functions (f ∷ []))

new_fits : (functions : List Func) (function : Option Func) → IfSome (number_after functions function) (λ k. k < length (with_function functions function))
new_fits functions None = tt
new_fits functions (Some f) = omega (arith, length-append functions (f ∷ []))

fits_after : (functions : List Func) (function : Option Func) (form : Form) (sources : List ℕ) (stages : List PlannedStage)
    → All (FunctionFits (length functions)) stages
    → All (FunctionFits (length (with_function functions function))) (stages ++ record { form = form; sources = sources; function = number_after functions function } ∷ [])
fits_after functions function form sources stages fits =
    let fits_all = FunctionFits (length (with_function functions function)) in
    All-append fits_all stages _
    (All-weaker (FunctionFits (length functions)) fits_all (λ stage. fits_more _ _ (length_after functions function) stage stage.function) stages fits)
    (All-cons fits_all _ [] (new_fits functions function) (All-nil fits_all))

-- where each function is one of those so far, it still is with a stage and its function more
pub numbered_after : (functions more : List Func) (function : Option Func) (form : Form) (sources : List ℕ) (number : Option ℕ) (plan new : Planned)
    → number ≡ number_after functions function → new ≡ with_stage plan (record { form = form; sources = sources; function = number })
    → more ≡ with_function functions function → All (FunctionFits (length functions)) plan.stages → All (FunctionFits (length more)) new.stages
numbered_after functions more function form sources number plan new numbered planned kept fits =
    subst (λ (fs : List Func). All (FunctionFits (length fs)) new.stages) (sym kept)
    (subst (λ (p : Planned). All (FunctionFits (length (with_function functions function))) p.stages) (sym planned)
    (subst (λ (n : Option ℕ). All (FunctionFits (length (with_function functions function))) (plan.stages ++ record { form = form; sources = sources; function = n } ∷ [])) (sym numbered)
    (fits_after functions function form sources plan.stages fits)))

-- what follows from a fact about an `Ok`
pub on_ok_then : {A E P Q : Type 0} (r : Result A E) → (P → Q) → OnOk r P → OnOk r Q
on_ok_then (Ok x) f p = f p
on_ok_then (Err e) f p = tt
