-- A stage is attached.
use Rattle.std.proofs.Common.{◌≡◌, ℕ, ◌∷◌, ◌++◌, [], List, Bool, true, false, cond, Option, Some, None, length, suc, arith, ap, sym, ◌∙◌, refl, map, append_assoc, append-nil}
use Rattle.std.proofs.lemmas.List.{map-append}
use Rattle.cf_outcome.specs.declared.outcome.Outcome.{Outcome}
use Rattle.cf_forms.specs.declared.forms.Form.{Form}
use Rattle.cf_forms.specs.declared.forms.Form.TheVariants.{Source, Supply, RunAsync, Apply, Accept, ThenRun, Combine, AcceptBoth, RunBoth, ApplyEither, AcceptEither, RunEither, Compose, Handle, WhenComplete, Exceptionally, ExceptionallyCompose, AllOf, AnyOf}
use Rattle.cf_forms.specs.declared.forms.Due.{Due}
use Rattle.cf_forms.specs.declared.forms.Due.TheVariants.{Waits, Settles, Needs}
use Rattle.cf_forms.specs.Forms.{follows, due_of_first, first_there, is_decided_by_first}
use Rattle.cf_forms.specs.Plans.{PlannedStage}
use Rattle.cf_model.specs.declared.stage.Stage.{Stage}
use Rattle.cf_model.specs.declared.stage.Stage.TheVariants.{Pending, Ready, Claimed, Linked, Settled}
use Rattle.cf_model.specs.States.{outcome_in, due_state, linked_state, next_of, new_states}
use Rattle.cf_core.specs.declared.kept.KeptStage.{KeptStage}
use Rattle.cf_core.specs.Keeping.Treatment.{all_treated, dated_in, due_kept, earliest, late_due, linked_kept, outcome_part, stages_of, step_part, latest, treated, treated_by}
use Rattle.cf_core.specs.Keeping.Sound.{settled_view}
use Rattle.cf_core.specs.Keeping.Attaching.{AttachingIsAfter, attached_kept, due_now}
use Rattle.cf_model.proofs.Closed.{first_waits}
use Rattle.cf_core.proofs.Keeping.Dues.{earlier_some}
use Rattle.cf_core.proofs.Keeping.Settling.{outcome_in-stages_of, sources_part, longer}

-- ---- what waits late waits now, and the other way round

none_first : (q : List (Option (Outcome × ℕ))) → earliest q ≡ None → first_there (map outcome_part q) ≡ None
none_first [] e = refl
none_first (None ∷ q) e = none_first q e
none_first (Some x ∷ q) e = absurd (earlier_some x (earliest q) e)

first_none : (q : List (Option (Outcome × ℕ))) → first_there (map outcome_part q) ≡ None → earliest q ≡ None
first_none [] e = refl
first_none (None ∷ q) e = first_none q e
first_none (Some x ∷ q) e = cc

follows_first : (form : Form) (r : List (Option Outcome)) → is_decided_by_first form ≡ true → follows form r ≡ due_of_first form (first_there r)
follows_first Source r e = cc
follows_first Supply r e = cc
follows_first RunAsync r e = cc
follows_first Combine r e = cc
follows_first AcceptBoth r e = cc
follows_first RunBoth r e = cc
follows_first AllOf r e = cc
follows_first Apply r e = refl
follows_first Accept r e = refl
follows_first ThenRun r e = refl
follows_first ApplyEither r e = refl
follows_first AcceptEither r e = refl
follows_first RunEither r e = refl
follows_first Compose r e = refl
follows_first Handle r e = refl
follows_first WhenComplete r e = refl
follows_first Exceptionally r e = refl
follows_first ExceptionallyCompose r e = refl
follows_first AnyOf r e = refl

no_part : (x : Option (Outcome × ℕ)) → outcome_part x ≡ None → x ≡ None
no_part None e = refl
no_part (Some x) e = cc

abbrev late_if : Bool → Form → List (Option (Outcome × ℕ)) → Due × ℕ
late_if b form q = cond b (due_of_first form (outcome_part (earliest q)), step_part (earliest q)) (follows form (map outcome_part q), latest q)

waits_now_if : (b : Bool) (form : Form) (q : List (Option (Outcome × ℕ))) → is_decided_by_first form ≡ b → (late_if b form q).0 ≡ Waits → follows form (map outcome_part q) ≡ Waits
waits_now_if true form q e h =
    let none = none_first q (no_part (earliest q) (first_waits form (outcome_part (earliest q)) h)) in
    follows_first form (map outcome_part q) e ∙ ap (due_of_first form) none
waits_now_if false form q e h = h

pub waits_now : (form : Form) (q : List (Option (Outcome × ℕ))) → (late_due form q).0 ≡ Waits → follows form (map outcome_part q) ≡ Waits
waits_now form q h = waits_now_if (is_decided_by_first form) form q refl h

waits_late_if : (b : Bool) (form : Form) (q : List (Option (Outcome × ℕ))) → is_decided_by_first form ≡ b → follows form (map outcome_part q) ≡ Waits → (late_if b form q).0 ≡ Waits
waits_late_if true form q e h =
    let none = first_none q (first_waits form (first_there (map outcome_part q)) (sym (follows_first form (map outcome_part q) e) ∙ h)) in
    ap (λ x. due_of_first form (outcome_part x)) none
waits_late_if false form q e h = h

pub waits_late : (form : Form) (q : List (Option (Outcome × ℕ))) → follows form (map outcome_part q) ≡ Waits → (late_due form q).0 ≡ Waits
waits_late form q h = waits_late_if (is_decided_by_first form) form q refl h

-- ---- the states that all treatments lead to are their own new states

due_still : (below : List KeptStage) (p : PlannedStage) (due : Due) (at step : ℕ) → late_due p.form (map (dated_in below) p.sources) ≡ (due, at) →
    next_of (stages_of below) p.form p.sources ((due_kept due at step).stage) ≡ (due_kept due at step).stage
due_still below p Waits at step e =
    let q = map (dated_in below) p.sources in
    let now = waits_now p.form q (ap (λ (d : Due × ℕ). d.0) e) in
    ap (λ r. due_state (follows p.form r)) (sources_part below p.sources) ∙ ap due_state now
due_still below p (Settles o) at step e = refl
due_still below p (Needs args) at step e = refl

linked_still : (below : List KeptStage) (p : PlannedStage) (j step : ℕ) (x : Option (Outcome × ℕ)) → dated_in below j ≡ x →
    next_of (stages_of below) p.form p.sources ((linked_kept j step x).stage) ≡ (linked_kept j step x).stage
linked_still below p j step None e = ap (linked_state j) (outcome_in-stages_of below j ∙ ap outcome_part e)
linked_still below p j step (Some x) e = refl

one_still : (below : List KeptStage) (p : PlannedStage) (stage : Stage) (step : ℕ) →
    next_of (stages_of below) p.form p.sources ((treated_by below p stage step).stage) ≡ (treated_by below p stage step).stage
one_still below p Pending step = let due = late_due p.form (map (dated_in below) p.sources) in due_still below p due.0 due.1 step refl
one_still below p (Linked j) step = linked_still below p j step (dated_in below j) refl
one_still below p (Ready args) step = refl
one_still below p Claimed step = refl
one_still below p (Settled o) step = refl

pub still : (below : List KeptStage) (plan : List PlannedStage) (kept : List KeptStage) →
    new_states (stages_of below) plan (stages_of (all_treated below plan kept)) ≡ stages_of (all_treated below plan kept)
still below [] kept = refl
still below (p ∷ plan) [] = refl
still below (p ∷ plan) (k ∷ kept) =
    let b = treated below p k in
    let here : next_of (stages_of below) p.form p.sources b.stage ≡ b.stage = one_still below p k.stage k.step in
    let rest = still (below ++ b ∷ []) plan kept in
    let states = stages_of (all_treated (below ++ b ∷ []) plan kept) in
    ap (λ x. x ∷ new_states (stages_of below ++ x ∷ []) plan states) here
    ∙ ap (λ r. b.stage ∷ r) (sym (longer below b plan states) ∙ rest)

-- ---- one stage more

pub all_treated-push : (below : List KeptStage) (plan : List PlannedStage) (kept : List KeptStage) (p : PlannedStage) (k : KeptStage) → length kept ≡ length plan →
    all_treated below (plan ++ p ∷ []) (kept ++ k ∷ []) ≡ all_treated below plan kept ++ treated (below ++ all_treated below plan kept) p k ∷ []
all_treated-push below [] [] p k l = ap (λ b. treated b p k ∷ []) (sym (append-nil below))
all_treated-push below [] (x ∷ kept) p k l = absurd (omega arith)
all_treated-push below (q ∷ plan) [] p k l = absurd (omega arith)
all_treated-push below (q ∷ plan) (x ∷ kept) p k l =
    let new = treated below q x in
    let rest = all_treated-push (below ++ new ∷ []) plan kept p k (omega arith) in
    ap (λ r. new ∷ r) (rest ∙ ap (λ b. all_treated (below ++ new ∷ []) plan kept ++ treated b p k ∷ []) (append_assoc below (new ∷ []) (all_treated (below ++ new ∷ []) plan kept)))

pub new_states-push : (below : List Stage) (plan : List PlannedStage) (states : List Stage) (p : PlannedStage) (x : Stage) → length states ≡ length plan →
    new_states below (plan ++ p ∷ []) (states ++ x ∷ []) ≡ new_states below plan states ++ next_of (below ++ new_states below plan states) p.form p.sources x ∷ []
new_states-push below [] [] p x l = ap (λ b. next_of b p.form p.sources x ∷ []) (sym (append-nil below))
new_states-push below [] (y ∷ states) p x l = absurd (omega arith)
new_states-push below (q ∷ plan) [] p x l = absurd (omega arith)
new_states-push below (q ∷ plan) (y ∷ states) p x l =
    let new = next_of below q.form q.sources y in
    let rest = new_states-push (below ++ new ∷ []) plan states p x (omega arith) in
    ap (λ r. new ∷ r) (rest ∙ ap (λ b. new_states (below ++ new ∷ []) plan states ++ next_of b p.form p.sources x ∷ []) (append_assoc below (new ∷ []) (new_states (below ++ new ∷ []) plan states)))

pub due_again : (kept : List KeptStage) (p : PlannedStage) (due : Due) (step : ℕ) → due_now kept p.form p.sources ≡ due → treated kept p (due_kept due step 0) ≡ due_kept due step 0
due_again kept p Waits step e =
    let q = map (dated_in kept) p.sources in
    let late = waits_late p.form q e in
    waiting (late_due p.form q) late
  where
    waiting : (d : Due × ℕ) → d.0 ≡ Waits → due_kept d.0 d.1 0 ≡ record { stage = Pending; step = 0 }
    waiting d w = rw w refl
due_again kept p (Settles o) step e = refl
due_again kept p (Needs args) step e = refl

due_stage : (due : Due) (step : ℕ) → (due_kept due step 0).stage ≡ due_state due
due_stage Waits step = refl
due_stage (Settles o) step = refl
due_stage (Needs args) step = refl

length-stages_of : (kept : List KeptStage) → length (stages_of kept) ≡ length kept
length-stages_of [] = refl
length-stages_of (k ∷ kept) = ap suc (length-stages_of kept)

pub attaching_is_after : AttachingIsAfter
attaching_is_after plan kept p step l quiet =
    let k = attached_kept kept p.form p.sources step in
    let stages = stages_of kept in
    let fixed : new_states [] plan stages ≡ stages = ap (λ ks. new_states [] plan (stages_of ks)) (sym quiet) ∙ still [] plan kept ∙ ap stages_of quiet in
    let same : treated kept p k ≡ k = due_again kept p (due_now kept p.form p.sources) step refl in
    let left : settled_view (plan ++ p ∷ []) (kept ++ k ∷ []) ≡ stages ++ k.stage ∷ [] =
    ap stages_of (all_treated-push [] plan kept p k l ∙ ap (λ ks. ks ++ treated ks p k ∷ []) quiet ∙ ap (λ x. kept ++ x ∷ []) same)
    ∙ map-append (λ (x : KeptStage). x.stage) kept (k ∷ []) in
    let here : k.stage ≡ due_state (follows p.form (map (outcome_in stages) p.sources)) =
    due_stage (due_now kept p.form p.sources) step ∙ ap (λ r. due_state (follows p.form r)) (sym (sources_part kept p.sources)) in
    let right : new_states [] (plan ++ p ∷ []) (stages ++ Pending ∷ []) ≡ stages ++ next_of stages p.form p.sources Pending ∷ [] =
    new_states-push [] plan stages p Pending (length-stages_of kept ∙ l) ∙ ap (λ xs. xs ++ next_of xs p.form p.sources Pending ∷ []) fixed in
    left ∙ ap (λ x. stages ++ x ∷ []) here ∙ sym right ∙ ap (λ ks. new_states [] (plan ++ p ∷ []) (stages_of ks ++ Pending ∷ [])) (sym quiet)
