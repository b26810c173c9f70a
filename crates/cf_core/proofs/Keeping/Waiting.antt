-- Which stages still wait once one is written.
use Rattle.std.proofs.Common.{◌≡◌, ◌≢◌, ℕ, ◌<◌, ◌≤◌, ◌∷◌, [], List, All, Bool, true, false, cond, Option, Some, None, Contains, length, suc, zero, arith, ap, sym, ◌∙◌, subst, refl, set, map, take, inl, inr}
use Rattle.std.specs.Prelude.{slice_get, option_and_then, nat_le}
use Rattle.std.specs.Option.{option_map}
use Rattle.std.proofs.lemmas.Bool.Decides.{eqb_tells}
use Rattle.std.proofs.lemmas.List.Elements.{All-head, All-tail}
use Rattle.std.proofs.lemmas.Option.{slice_get_within}
use Rattle.cf_outcome.specs.declared.outcome.Outcome.{Outcome}
use Rattle.cf_forms.specs.declared.forms.Form.{Form}
use Rattle.cf_forms.specs.declared.forms.Due.{Due}
use Rattle.cf_forms.specs.declared.forms.Due.TheVariants.{Waits as IsWaits, Settles, Needs}
use Rattle.cf_forms.specs.Forms.{follows, due_of_first, is_decided_by_first}
use Rattle.cf_forms.specs.Plans.{PlannedStage, HasLowerSources, dependents_of, mentions}
use Rattle.cf_forms.proofs.PlanLemmas.{lower_at}
use Rattle.cf_model.specs.declared.stage.Stage.{Stage}
use Rattle.cf_model.specs.declared.stage.Stage.TheVariants.{Pending, Ready, Claimed, Linked, Settled}
use Rattle.cf_model.specs.States.{outcome_of}
use Rattle.cf_model.proofs.StateLemmas.{slice_get-set_other}
use Rattle.cf_core.specs.declared.kept.KeptStage.{KeptStage}
use Rattle.cf_core.specs.Keeping.Treatment.{StepsUpTo, IsSteady, all_treated, treated, treated_by, due_kept, late_due, dated_in, dated_of, linked_kept, earlier, earliest, latest, step_part, outcome_part}
use Rattle.cf_core.specs.Keeping.Marks.{WaitsNow}
use Rattle.cf_core.specs.Keeping.Links.{list_at}
use Rattle.cf_core.specs.Keeping.Sound.{Waits, AreListed, is_waiting, kept_at, mark_all}
use Rattle.cf_core.proofs.Keeping.Marking.{mentioned, mark_all-marks, mark_all-unmarked, length-mark_all}
use Rattle.cf_core.proofs.Keeping.Marks.{treated-set, others_wait, steady_by_stage}
use Rattle.cf_core.proofs.Keeping.Turns.{stage_twice}
use Rattle.cf_core.proofs.Keeping.Sums.{kept_is}
use Rattle.cf_core.proofs.Keeping.Writes.{Alike, treated-alike, unsettled}

-- all but stage d
abbrev pub WaitsBut : List PlannedStage → List KeptStage → List Bool → ℕ → Type 0
WaitsBut plan kept marks d =
    (i : ℕ) (p : PlannedStage) (k : KeptStage) → i ≢ d → slice_get plan i ≡ Some p → slice_get kept i ≡ Some k → slice_get marks i ≡ Some false → WaitsNow kept p k

pub but_marks : (plan : List PlannedStage) (kept : List KeptStage) (marks new : List Bool) (d : ℕ) → ((i : ℕ) → i ≢ d → slice_get new i ≡ slice_get marks i) → Waits plan kept marks → WaitsBut plan kept new d
but_marks plan kept marks new d same h i p k ne ep ek em = h i p k ep ek (sym (same i ne) ∙ em)

pub but_closed : (plan : List PlannedStage) (kept : List KeptStage) (marks : List Bool) (d : ℕ) → WaitsBut plan kept marks d →
    ((p : PlannedStage) (k : KeptStage) → slice_get plan d ≡ Some p → slice_get kept d ≡ Some k → slice_get marks d ≡ Some false → WaitsNow kept p k) → Waits plan kept marks
but_closed plan kept marks d h here i p k ep ek em = elim (eqb_tells i d) [
  | inl s ↦ (let same = s.1 in here p k (ap (slice_get plan) (sym same) ∙ ep) (ap (slice_get kept) (sym same) ∙ ek) (ap (slice_get marks) (sym same) ∙ em))
  | inr s ↦ h i p k s.1 ep ek em
]

-- a stage that doesn't wait stays as it is when it is treated
pub stays : (below : List KeptStage) (p : PlannedStage) (stage : Stage) (step : ℕ) → is_waiting stage ≡ false → treated_by below p stage step ≡ record { stage = stage; step = step }
stays below p Pending step e = cc
stays below p (Linked j) step e = cc
stays below p (Ready args) step e = refl
stays below p Claimed step e = refl
stays below p (Settled o) step e = refl

-- ---- a write of a stage that is settled neither before nor then

Alike-same : (kept : List KeptStage) → Alike kept kept
Alike-same [] = tt
Alike-same (k ∷ kept) = (refl, Alike-same kept)

Alike-set : (kept : List KeptStage) (d : ℕ) (old new : KeptStage) → slice_get kept d ≡ Some old → dated_of new ≡ dated_of old → Alike kept (set kept d new)
Alike-set [] d old new e s = tt
Alike-set (k ∷ kept) zero old new e s = (s ∙ ap dated_of (let same : old ≡ k = cc in same), Alike-same kept)
Alike-set (k ∷ kept) (suc d) old new e s = (refl, Alike-set kept d old new e s)

pub but_unsettled : (plan : List PlannedStage) (kept : List KeptStage) (marks : List Bool) (d : ℕ) (old new : KeptStage) → slice_get kept d ≡ Some old → outcome_of old.stage ≡ None → outcome_of new.stage ≡ None →
    WaitsBut plan kept marks d → WaitsBut plan (set kept d new) marks d
but_unsettled plan kept marks d old new there e f h i p k ne ep ek em =
    treated-alike kept (set kept d new) p k.stage k.step (Alike-set kept d old new there (unsettled old new e f))
    ∙ h i p k ne ep (sym (slice_get-set_other kept d i new ne) ∙ ek) em

-- ---- a write of a stage that is settled then

-- what is said of the dependents: each stage that names d is one
abbrev pub NamesDependents : List PlannedStage → Type 0
NamesDependents plan = (i d : ℕ) (p : PlannedStage) → slice_get plan i ≡ Some p → Contains p.sources d → 0 < mentions i (dependents_of plan d)

module _ (plan : List PlannedStage) (kept : List KeptStage) (links : List (List ℕ)) (marks : List Bool) (d : ℕ) (new old : KeptStage)
    (there : slice_get kept d ≡ Some old) (waited : outcome_of old.stage ≡ None) (count : length marks ≡ length plan)
    (named : NamesDependents plan) (listed : AreListed kept links) where
  dated_none : dated_in kept d ≡ None
  dated_none = ap (option_and_then dated_of) there ∙ ap (option_map (λ o. (o, old.step))) waited

  others : (i : ℕ) (p : PlannedStage) (k : KeptStage) → i ≢ d → slice_get plan i ≡ Some p → slice_get (set kept d new) i ≡ Some k →
      slice_get (mark_all (set kept d new) (list_at links d) (mark_all (set kept d new) (dependents_of plan d) marks)) i ≡ Some false → (b : Bool) → is_waiting k.stage ≡ b → WaitsNow kept p k → WaitsNow (set kept d new) p k
  others i p k ne ep ek em false w h = stays (set kept d new) p k.stage k.step w
  others i p k ne ep ek em true w h =
      let is : kept_at (set kept d new) i ≡ k = kept_is (set kept d new) i k ek in
      let waits : is_waiting ((kept_at (set kept d new) i).stage) ≡ true = ap (λ (x : KeptStage). is_waiting x.stage) is ∙ w in
      let before : slice_get kept i ≡ Some k = sym (slice_get-set_other kept d i new ne) ∙ ek in
      let within : i < length marks = (let l = slice_get_within plan i p ep in omega (arith, count)) in
      let within2 : i < length (mark_all (set kept d new) (dependents_of plan d) marks) = omega (arith, length-mark_all (set kept d new) (dependents_of plan d) marks) in
      let unmarked = mark_all-unmarked (set kept d new) (list_at links d) (mark_all (set kept d new) (dependents_of plan d) marks) i em in
      let no_source : (j : ℕ) → Contains p.sources j → j ≢ d = λ j c e.
      (let m = mark_all-marks (set kept d new) (dependents_of plan d) marks i within waits (named i d p ep (subst (Contains p.sources) e c)) in cc) in
      let no_link : (j : ℕ) → k.stage ≡ Linked j → j ≢ d = λ j l e.
      (let bound = listed i j k before l in
      let in_list : Contains (list_at links d) i = subst (λ n. Contains (list_at links n) i) e (bound.listed (ap (dated_in kept) e ∙ dated_none)) in
      let m = mark_all-marks (set kept d new) (list_at links d) (mark_all (set kept d new) (dependents_of plan d) marks) i within2 waits (mentioned (list_at links d) i in_list) in cc) in
      others_wait kept d new p k no_source no_link h

  pub but_settled : WaitsBut plan kept marks d → WaitsBut plan (set kept d new) (mark_all (set kept d new) (list_at links d) (mark_all (set kept d new) (dependents_of plan d) marks)) d
  but_settled h i p k ne ep ek em =
      let unmarked = mark_all-unmarked (set kept d new) (dependents_of plan d) marks i (mark_all-unmarked (set kept d new) (list_at links d) (mark_all (set kept d new) (dependents_of plan d) marks) i em) in
      others i p k ne ep ek em (is_waiting k.stage) refl (h i p k ne ep (sym (slice_get-set_other kept d i new ne) ∙ ek) unmarked)

-- ---- a stage that was treated

pub never_linked : (due : Due) (at step j : ℕ) → (due_kept due at step).stage ≡ Linked j → ⊥
never_linked IsWaits at step j e = cc
never_linked (Settles o) at step j e = cc
never_linked (Needs args) at step j e = cc

pub links_same : (j step : ℕ) (x : Option (Outcome × ℕ)) (i : ℕ) → (linked_kept j step x).stage ≡ Linked i → i ≡ j
links_same j step None i e = cc
links_same j step (Some x) i e = cc

lower_differs : (d : ℕ) (sources : List ℕ) → All (λ j. j < d) sources → (j : ℕ) → Contains sources j → j ≢ d
lower_differs d [] h j c e = absurd (omega (arith, c.1))
lower_differs d (x ∷ sources) h j (zero, l, s) e = let f : x ≡ j = s in let k = All-head (λ n. n < d) x sources h in absurd (omega arith)
lower_differs d (x ∷ sources) h j (suc n, l, s) e = lower_differs d sources (All-tail (λ n. n < d) x sources h) j (n, omega arith, s) e

pub treated_again : (kept : List KeptStage) (d : ℕ) (p : PlannedStage) (stage : Stage) (step : ℕ) → All (λ j. j < d) p.sources → ((j : ℕ) → stage ≡ Linked j → j < d) →
    treated (set kept d (treated_by kept p stage step)) p (treated_by kept p stage step) ≡ treated_by kept p stage step
treated_again kept d p Pending step lower l =
    let due = late_due p.form (map (dated_in kept) p.sources) in
    let new = due_kept due.0 due.1 step in
    treated-set kept d new p new.stage new.step (lower_differs d p.sources lower) (λ j e. absurd (never_linked due.0 due.1 step j e)) ∙ stage_twice kept p Pending step
treated_again kept d p (Linked i) step lower l =
    let new = linked_kept i step (dated_in kept i) in
    treated-set kept d new p new.stage new.step (lower_differs d p.sources lower) (λ j e f. (let s = links_same i step (dated_in kept i) j e in let m = l i refl in absurd (omega arith))) ∙ stage_twice kept p (Linked i) step
treated_again kept d p (Ready args) step lower l = refl
treated_again kept d p Claimed step lower l = refl
treated_again kept d p (Settled o) step lower l = refl

-- ---- the step of a stage that was treated

step_part-few : (n : ℕ) (kept : List KeptStage) (j : ℕ) → StepsUpTo n kept → step_part (dated_in kept j) ≤ n
step_part-few n [] j h = omega arith
step_part-few n (k ∷ kept) zero h = by_stage (outcome_of k.stage)
  where
    by_stage : (o : Option Outcome) → step_part (option_map (λ o. (o, k.step)) o) ≤ n
    by_stage None = omega arith
    by_stage (Some o) = h.0
step_part-few n (k ∷ kept) (suc j) h = step_part-few n kept j h.1

earlier-few : (n : ℕ) (x y : Option (Outcome × ℕ)) → step_part x ≤ n → step_part y ≤ n → step_part (earlier x y) ≤ n
earlier-few n None y l m = m
earlier-few n (Some x) None l m = l
earlier-few n (Some x) (Some y) l m = chosen (nat_le (x.1) (y.1))
  where
    chosen : (b : Bool) → step_part (cond b (Some x) (Some y)) ≤ n
    chosen true = l
    chosen false = m

earliest-few : (n : ℕ) (kept : List KeptStage) (sources : List ℕ) → StepsUpTo n kept → step_part (earliest (map (dated_in kept) sources)) ≤ n
earliest-few n kept [] h = omega arith
earliest-few n kept (j ∷ sources) h = earlier-few n (dated_in kept j) (earliest (map (dated_in kept) sources)) (step_part-few n kept j h) (earliest-few n kept sources h)

latest-few : (n : ℕ) (kept : List KeptStage) (sources : List ℕ) → StepsUpTo n kept → latest (map (dated_in kept) sources) ≤ n
latest-few n kept [] h = omega arith
latest-few n kept (j ∷ sources) h =
    let here = step_part-few n kept j h in
    let rest = latest-few n kept sources h in
    omega (arith, here, rest)

late_due-few : (n : ℕ) (kept : List KeptStage) (form : Form) (sources : List ℕ) → StepsUpTo n kept → (late_due form (map (dated_in kept) sources)).1 ≤ n
late_due-few n kept form sources h = by_form (is_decided_by_first form)
  where
    by_form : (b : Bool) → (cond {A = Due × ℕ} b (due_of_first form (outcome_part (earliest (map (dated_in kept) sources))), step_part (earliest (map (dated_in kept) sources)))
        (follows form (map outcome_part (map (dated_in kept) sources)), latest (map (dated_in kept) sources))).1 ≤ n
    by_form true = earliest-few n kept sources h
    by_form false = latest-few n kept sources h

pub treated-few : (n : ℕ) (kept : List KeptStage) (p : PlannedStage) (stage : Stage) (step : ℕ) → StepsUpTo n kept → step ≤ n → (treated_by kept p stage step).step ≤ n
treated-few n kept p Pending step h l = by_due (late_due p.form (map (dated_in kept) p.sources)) (late_due-few n kept p.form p.sources h)
  where
    by_due : (due : Due × ℕ) → due.1 ≤ n → (due_kept due.0 due.1 step).step ≤ n
    by_due (IsWaits, at) m = l
    by_due (Settles o, at) m = m
    by_due (Needs args, at) m = l
treated-few n kept p (Linked j) step h l = by_target (dated_in kept j) (step_part-few n kept j h)
  where
    by_target : (x : Option (Outcome × ℕ)) → step_part x ≤ n → (linked_kept j step x).step ≤ n
    by_target None m = l
    by_target (Some x) m = let k : x.1 ≤ n = m in omega arith
treated-few n kept p (Ready args) step h l = l
treated-few n kept p Claimed step h l = l
treated-few n kept p (Settled o) step h l = l

-- ---- the stages below the lowest mark are steady

dated_in-take : (kept : List KeptStage) (i j : ℕ) → j < i → dated_in (take i kept) j ≡ dated_in kept j
dated_in-take kept zero j l = absurd (omega arith)
dated_in-take [] (suc i) j l = refl
dated_in-take (k ∷ kept) (suc i) zero l = refl
dated_in-take (k ∷ kept) (suc i) (suc j) l = dated_in-take kept i j (omega arith)

map-take : (kept : List KeptStage) (i : ℕ) (sources : List ℕ) → All (λ j. j < i) sources → map (dated_in (take i kept)) sources ≡ map (dated_in kept) sources
map-take kept i [] h = refl
map-take kept i (j ∷ sources) h =
    let here = dated_in-take kept i j (All-head (λ k. k < i) j sources h) in
    let rest = map-take kept i sources (All-tail (λ k. k < i) j sources h) in cc

pub treated-take : (kept : List KeptStage) (i : ℕ) (p : PlannedStage) (stage : Stage) (step : ℕ) → All (λ j. j < i) p.sources → ((j : ℕ) → stage ≡ Linked j → j < i) →
    treated_by (take i kept) p stage step ≡ treated_by kept p stage step
treated-take kept i p Pending step h l = ap (λ q. let due = late_due p.form q in due_kept due.0 due.1 step) (map-take kept i p.sources h)
treated-take kept i p (Linked j) step h l = ap (linked_kept j step) (dated_in-take kept i j (l j refl))
treated-take kept i p (Ready args) step h l = refl
treated-take kept i p Claimed step h l = refl
treated-take kept i p (Settled o) step h l = refl

pub sources_below : (plan : List PlannedStage) (i : ℕ) (p : PlannedStage) → HasLowerSources 0 plan → slice_get plan i ≡ Some p → All (λ j. j < i) p.sources
sources_below plan i p h e = let b = lower_at 0 plan i p h e in λ k d l. let c = b k d l in omega arith

pub steady_below : (plan : List PlannedStage) (kept : List KeptStage) (marks : List Bool) (links : List (List ℕ)) (m : ℕ) → HasLowerSources 0 plan → Waits plan kept marks → AreListed kept links →
    ((i : ℕ) → i < m → slice_get marks i ≡ Some false) → IsSteady [] plan kept m
steady_below plan kept marks links m lower waits listed none = steady_by_stage plan kept m (λ i p k l ep ek.
    treated-take kept i p k.stage k.step (sources_below plan i p lower ep) (λ j e. (let b = listed i j k ek e in b.lower))
    ∙ waits i p k ep ek (none i l))

get-take : {X : Type 0} (xs : List X) (m i : ℕ) → i < m → slice_get (take m xs) i ≡ slice_get xs i
get-take xs zero i l = absurd (omega arith)
get-take [] (suc m) i l = refl
get-take (x ∷ xs) (suc m) zero l = refl
get-take (x ∷ xs) (suc m) (suc i) l = get-take xs m i (omega arith)

pub steady_at : (plan : List PlannedStage) (kept : List KeptStage) (m i : ℕ) → IsSteady [] plan kept m → i < m → slice_get (all_treated [] plan kept) i ≡ slice_get kept i
steady_at plan kept m i q l = sym (get-take (all_treated [] plan kept) m i l) ∙ ap (λ xs. slice_get xs i) q ∙ get-take kept m i l
