-- At the start all steps are 0, so that argument order decides.
use Rattle.std.proofs.Common.{◌≡◌, ℕ, ◌≤◌, ◌∷◌, ◌++◌, [], List, true, Option, Some, None, suc, zero, arith, ap, ◌∙◌, refl, map, replicate}
use Rattle.std.specs.Prelude.{nat_le}
use Rattle.std.specs.Option.{option_map}
use Rattle.std.proofs.lemmas.Bool.Decides.{nat_tests}
use Rattle.std.proofs.lemmas.List.{map-append}
use Rattle.cf_outcome.specs.declared.outcome.Outcome.{Outcome}
use Rattle.cf_forms.specs.declared.forms.Form.{Form}
use Rattle.cf_forms.specs.declared.forms.Form.TheVariants.{Source, Supply, RunAsync, Apply, Accept, ThenRun, Combine, AcceptBoth, RunBoth, ApplyEither, AcceptEither, RunEither, Compose, Handle, WhenComplete, Exceptionally, AllOf, AnyOf, ExceptionallyCompose}
use Rattle.cf_forms.specs.declared.forms.Due.{Due}
use Rattle.cf_forms.specs.declared.forms.Due.TheVariants.{Waits, Settles, Needs}
use Rattle.cf_forms.specs.Forms.{follows, due_of_first, first_there}
use Rattle.cf_forms.specs.Plans.{PlannedStage}
use Rattle.cf_model.specs.declared.stage.Stage.TheVariants.{Pending}
use Rattle.cf_model.specs.States.{outcome_of, outcome_in, due_state, new_states}
use Rattle.cf_core.specs.declared.kept.KeptStage.{KeptStage}
use Rattle.cf_core.specs.Keeping.Treatment.{StepsUpTo, all_treated, stages_of, treated, due_kept, late_due, dated_in, earlier, earliest, step_part, outcome_part}
use Rattle.cf_core.specs.Keeping.Starts.{TreatingStarts, untreated}
use Rattle.cf_core.proofs.Keeping.Settling.{outcome_in-stages_of}
use Rattle.cf_core.proofs.Keeping.Waiting.{treated-few}

-- all of step 0
abbrev AllNew : List (Option (Outcome × ℕ)) → Type 0
AllNew [] = Unit {0}
AllNew (x ∷ q) = (step_part x ≤ 0) × AllNew q

-- of equal steps the first in argument order
first_of_equal : (x : Outcome × ℕ) (r : Option (Outcome × ℕ)) → x.1 ≤ 0 → earlier (Some x) r ≡ Some x
first_of_equal x None l = refl
first_of_equal x (Some y) l = let yes : nat_le (x.1) (y.1) ≡ true = grind (arith, nat_tests) in rw yes refl

earliest-first : (q : List (Option (Outcome × ℕ))) → AllNew q → outcome_part (earliest q) ≡ first_there (map outcome_part q)
earliest-first [] h = refl
earliest-first (None ∷ q) h = earliest-first q h.1
earliest-first (Some x ∷ q) h = let l : x.1 ≤ 0 = h.0 in ap outcome_part (first_of_equal x (earliest q) l)

due_at_start : (form : Form) (q : List (Option (Outcome × ℕ))) → AllNew q → (late_due form q).0 ≡ follows form (map outcome_part q)
due_at_start Source q h = refl
due_at_start Supply q h = refl
due_at_start RunAsync q h = refl
due_at_start Combine q h = refl
due_at_start AcceptBoth q h = refl
due_at_start RunBoth q h = refl
due_at_start AllOf q h = refl
due_at_start Apply q h = ap (due_of_first Apply) (earliest-first q h)
due_at_start Accept q h = ap (due_of_first Accept) (earliest-first q h)
due_at_start ThenRun q h = ap (due_of_first ThenRun) (earliest-first q h)
due_at_start ApplyEither q h = ap (due_of_first ApplyEither) (earliest-first q h)
due_at_start AcceptEither q h = ap (due_of_first AcceptEither) (earliest-first q h)
due_at_start RunEither q h = ap (due_of_first RunEither) (earliest-first q h)
due_at_start Compose q h = ap (due_of_first Compose) (earliest-first q h)
due_at_start Handle q h = ap (due_of_first Handle) (earliest-first q h)
due_at_start WhenComplete q h = ap (due_of_first WhenComplete) (earliest-first q h)
due_at_start Exceptionally q h = ap (due_of_first Exceptionally) (earliest-first q h)
due_at_start AnyOf q h = ap (due_of_first AnyOf) (earliest-first q h)
due_at_start ExceptionallyCompose q h = ap (due_of_first ExceptionallyCompose) (earliest-first q h)

dated-new : (below : List KeptStage) (j : ℕ) → StepsUpTo 0 below → step_part (dated_in below j) ≤ 0
dated-new [] j h = omega arith
dated-new (k ∷ below) zero h = by_stage (outcome_of k.stage)
  where
    by_stage : (o : Option Outcome) → step_part (option_map (λ o. (o, k.step)) o) ≤ 0
    by_stage None = omega arith
    by_stage (Some o) = h.0
dated-new (k ∷ below) (suc j) h = dated-new below j h.1

map-new : (below : List KeptStage) (sources : List ℕ) → StepsUpTo 0 below → AllNew (map (dated_in below) sources)
map-new below [] h = tt
map-new below (j ∷ sources) h = (dated-new below j h, map-new below sources h)

map-parts : (below : List KeptStage) (sources : List ℕ) → map outcome_part (map (dated_in below) sources) ≡ map (outcome_in (stages_of below)) sources
map-parts below [] = refl
map-parts below (j ∷ sources) =
    let here = outcome_in-stages_of below j in
    let rest = map-parts below sources in cc

kept_state : (due : Due) (at : ℕ) → (due_kept due at 0).stage ≡ due_state due
kept_state Waits at = refl
kept_state (Settles o) at = refl
kept_state (Needs args) at = refl

StepsUpTo-push : (n : ℕ) (below : List KeptStage) (k : KeptStage) → StepsUpTo n below → k.step ≤ n → StepsUpTo n (below ++ k ∷ [])
StepsUpTo-push n [] k h l = (l, tt)
StepsUpTo-push n (x ∷ below) k h l = (h.0, StepsUpTo-push n below k h.1 l)

from_start : (below : List KeptStage) (plan : List PlannedStage) (n : ℕ) → StepsUpTo 0 below →
    stages_of (all_treated below plan (replicate n untreated)) ≡ new_states (stages_of below) plan (replicate n Pending)
from_start below [] n h = stages_new n
  where
    stages_new : (n : ℕ) → stages_of (replicate n untreated) ≡ replicate n Pending
    stages_new zero = refl
    stages_new (suc n) = ap (λ r. Pending ∷ r) (stages_new n)
from_start below (p ∷ plan) zero h = refl
from_start below (p ∷ plan) (suc n) h =
    let due = late_due p.form (map (dated_in below) p.sources) in
    let new = treated below p untreated in
    let same : new.stage ≡ due_state (follows p.form (map (outcome_in (stages_of below)) p.sources)) =
    kept_state due.0 due.1 ∙ ap due_state (due_at_start p.form (map (dated_in below) p.sources) (map-new below p.sources h)) ∙ ap (λ q. due_state (follows p.form q)) (map-parts below p.sources) in
    let few = treated-few 0 below p Pending 0 h (omega arith) in
    let rest = from_start (below ++ new ∷ []) plan n (StepsUpTo-push 0 below new h few) in
    let longer : stages_of (below ++ new ∷ []) ≡ stages_of below ++ new.stage ∷ [] = map-append (λ (k : KeptStage). k.stage) below (new ∷ []) in
    ap (λ r. new.stage ∷ r) (rest ∙ ap (λ b. new_states b plan (replicate n Pending)) longer)
    ∙ ap (λ x. x ∷ new_states (stages_of below ++ x ∷ []) plan (replicate n Pending)) same

pub treating_starts : TreatingStarts
treating_starts plan n = from_start [] plan n tt
