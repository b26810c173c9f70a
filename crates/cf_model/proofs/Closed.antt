-- States in which nothing is due any more, and that events keep them so.
use Rattle.std.proofs.Common.{length-append, ◌≡◌, ℕ, ◌<◌, ◌∷◌, ◌++◌, [], List, All, true, suc, zero, Option, Some, None, length, map, ◌⊎◌, inl, inr, arith, ap, sym, ◌∙◌, refl, set, take, replicate, append_assoc, append-nil}
use Rattle.std.specs.Prelude.{slice_get, unwrap_or, option_and_then}
use Rattle.std.specs.Option.{option_map_or}
use Rattle.std.proofs.lemmas.List.{length-replicate, map-append}
use Rattle.std.proofs.lemmas.List.Elements.{All-nil, All-cons, All-head, All-tail}
use Rattle.cf_outcome.specs.declared.outcome.Outcome.{Outcome}
use Rattle.cf_forms.specs.declared.forms.Due.{Due}
use Rattle.cf_forms.specs.declared.forms.Due.TheVariants.{Waits, Settles, Needs}
use Rattle.cf_forms.specs.declared.forms.Form.{Form}
use Rattle.cf_forms.specs.declared.forms.Form.TheVariants.{Source, Supply, RunAsync, Combine, AcceptBoth, RunBoth, AllOf}
use Rattle.cf_forms.specs.Forms.{due_of_first, first_there, follows, is_decided_by_first}
use Rattle.cf_forms.specs.Plans.{Planned, PlannedStage, HasLowerSources, form_at, sources_at}
use Rattle.cf_forms.proofs.PlanLemmas.{lower_at}
use Rattle.cf_model.specs.declared.stage.Stage.{Stage}
use Rattle.cf_model.specs.declared.stage.Stage.TheVariants.{Pending, Ready, Claimed, Linked, Settled}
use Rattle.cf_model.specs.States.{outcome_of, outcome_in, due_state, linked_state, next_of, new_states, start}
use Rattle.cf_model.specs.declared.events.Event.{Event}
use Rattle.cf_model.specs.Events.{state_after}
use Rattle.cf_model.specs.Laws.{AreLinkedLower, IsClosed, KeepsClosed, PendingHasNoneSettled, ReachedAreClosed, ReachedLinkLower}
use Rattle.cf_model.proofs.StateLemmas.{due_one-decides, new_states-at, outcome_in-take}
use Rattle.cf_model.proofs.Stable.{IsStable, state_after-stable}
use Rattle.cf_model.proofs.Shape.{length-new_states, state_after-grows}

-- ---- only the outcomes of the stages below count

outcome_in-outcomes : (xs : List Stage) (j : ℕ) → outcome_in xs j ≡ option_and_then (λ x. x) (slice_get (map outcome_of xs) j)
outcome_in-outcomes [] j = refl
outcome_in-outcomes (x ∷ xs) zero = refl
outcome_in-outcomes (x ∷ xs) (suc j) = outcome_in-outcomes xs j

same_outcome : (a b : List Stage) → map outcome_of a ≡ map outcome_of b → (j : ℕ) → outcome_in a j ≡ outcome_in b j
same_outcome a b e j = outcome_in-outcomes a j ∙ ap (λ q. option_and_then (λ x. x) (slice_get q j)) e ∙ sym (outcome_in-outcomes b j)

same_map : (a b : List Stage) → map outcome_of a ≡ map outcome_of b → (sources : List ℕ) → map (outcome_in a) sources ≡ map (outcome_in b) sources
same_map a b e [] = refl
same_map a b e (j ∷ sources) =
    let here = same_outcome a b e j in
    let rest = same_map a b e sources in cc

next_of-same : (a b : List Stage) → map outcome_of a ≡ map outcome_of b → (form : Form) (sources : List ℕ) (x : Stage) → next_of a form sources x ≡ next_of b form sources x
next_of-same a b e form sources Pending = ap (λ q. due_state (follows form q)) (same_map a b e sources)
next_of-same a b e form sources (Linked j) = ap (linked_state j) (same_outcome a b e j)
next_of-same a b e form sources (Ready args) = refl
next_of-same a b e form sources Claimed = refl
next_of-same a b e form sources (Settled o) = refl

one_more : (a b : List Stage) (x y : Stage) → map outcome_of a ≡ map outcome_of b → outcome_of x ≡ outcome_of y → map outcome_of (a ++ x ∷ []) ≡ map outcome_of (b ++ y ∷ [])
one_more a b x y e o =
    map-append outcome_of a (x ∷ []) ∙ ap (λ q. q ++ outcome_of x ∷ []) e ∙ ap (λ q. map outcome_of b ++ q ∷ []) o ∙ sym (map-append outcome_of b (y ∷ []))

new_states-same : (a b : List Stage) → map outcome_of a ≡ map outcome_of b → (plan : List PlannedStage) (xs : List Stage) → new_states a plan xs ≡ new_states b plan xs
new_states-same a b e [] xs = refl
new_states-same a b e (p ∷ plan) [] = refl
new_states-same a b e (p ∷ plan) (x ∷ xs) =
    let new = next_of b p.form p.sources x in
    ap (λ n. n ∷ new_states (a ++ n ∷ []) plan xs) (next_of-same a b e p.form p.sources x)
    ∙ ap (λ r. new ∷ r) (new_states-same (a ++ new ∷ []) (b ++ new ∷ []) (one_more a b new new e refl) plan xs)

-- ---- new states are closed

due-twice : (below : List Stage) (form : Form) (sources : List ℕ) (due : Due) → follows form (map (outcome_in below) sources) ≡ due →
    next_of below form sources (due_state due) ≡ due_state due
due-twice below form sources Waits e = ap due_state e
due-twice below form sources (Settles o) e = refl
due-twice below form sources (Needs args) e = refl

linked-twice : (below : List Stage) (form : Form) (sources : List ℕ) (j : ℕ) (x : Option Outcome) → outcome_in below j ≡ x →
    next_of below form sources (linked_state j x) ≡ linked_state j x
linked-twice below form sources j None e = ap (linked_state j) e
linked-twice below form sources j (Some o) e = refl

next_of-twice : (below : List Stage) (form : Form) (sources : List ℕ) (x : Stage) → next_of below form sources (next_of below form sources x) ≡ next_of below form sources x
next_of-twice below form sources Pending = due-twice below form sources (follows form (map (outcome_in below) sources)) refl
next_of-twice below form sources (Linked j) = linked-twice below form sources j (outcome_in below j) refl
next_of-twice below form sources (Ready args) = refl
next_of-twice below form sources Claimed = refl
next_of-twice below form sources (Settled o) = refl

pub new_states-twice : (below : List Stage) (plan : List PlannedStage) (xs : List Stage) → new_states below plan (new_states below plan xs) ≡ new_states below plan xs
new_states-twice below [] xs = refl
new_states-twice below (p ∷ plan) [] = refl
new_states-twice below (p ∷ plan) (x ∷ xs) =
    let new = next_of below p.form p.sources x in
    ap (λ m. m ∷ new_states (below ++ m ∷ []) plan (new_states (below ++ new ∷ []) plan xs)) (next_of-twice below p.form p.sources x)
    ∙ ap (λ r. new ∷ r) (new_states-twice (below ++ new ∷ []) plan xs)

-- ---- a write that settles nothing

heads : (x y : Stage) (xs ys : List Stage) → x ∷ xs ≡ y ∷ ys → x ≡ y
heads x y xs ys e = cc

tails : (x y : Stage) (xs ys : List Stage) → x ∷ xs ≡ y ∷ ys → xs ≡ ys
tails x y xs ys e = cc

written_closed : (below : List Stage) (plan : List PlannedStage) (xs : List Stage) (i : ℕ) (y : Stage) →
    new_states below plan xs ≡ xs → outcome_in xs i ≡ None → outcome_of y ≡ None →
    ((form : Form) (sources : List ℕ) → next_of (below ++ take i xs) form sources y ≡ y) →
    new_states below plan (set xs i y) ≡ set xs i y
written_closed below [] xs i y e before now stays = refl
written_closed below (p ∷ plan) [] i y e before now stays = refl
written_closed below (p ∷ plan) (x ∷ xs) zero y e before now stays =
    let new = next_of below p.form p.sources x in
    let same : new ≡ x = heads new x (new_states (below ++ new ∷ []) plan xs) xs e in
    let rest : new_states (below ++ new ∷ []) plan xs ≡ xs = tails new x (new_states (below ++ new ∷ []) plan xs) xs e in
    let here : next_of below p.form p.sources y ≡ y = ap (λ b. next_of b p.form p.sources y) (sym (append-nil below)) ∙ stays p.form p.sources in
    let none : outcome_of y ≡ outcome_of new = now ∙ sym before ∙ ap outcome_of (sym same) in
    ap (λ m. m ∷ new_states (below ++ m ∷ []) plan xs) here
    ∙ ap (λ r. y ∷ r) (new_states-same (below ++ y ∷ []) (below ++ new ∷ []) (one_more below below y new refl none) plan xs ∙ rest)
written_closed below (p ∷ plan) (x ∷ xs) (suc i) y e before now stays =
    let new = next_of below p.form p.sources x in
    let same : new ≡ x = heads new x (new_states (below ++ new ∷ []) plan xs) xs e in
    let rest : new_states (below ++ new ∷ []) plan xs ≡ xs = tails new x (new_states (below ++ new ∷ []) plan xs) xs e in
    ap (λ m. m ∷ new_states (below ++ new ∷ []) plan (set xs i y)) same
    ∙ ap (λ r. x ∷ r) (written_closed (below ++ new ∷ []) plan xs i y rest before now
    (λ form sources. ap (λ b. next_of b form sources y) (append_assoc below (new ∷ []) (take i xs) ∙ ap (λ n. below ++ n ∷ take i xs) same) ∙ stays form sources))

none_below : (xs : List Stage) (i j : ℕ) → outcome_in xs j ≡ None → outcome_in (take i xs) j ≡ None
none_below xs zero j e = refl
none_below [] (suc i) j e = refl
none_below (x ∷ xs) (suc i) zero e = e
none_below (x ∷ xs) (suc i) (suc j) e = none_below xs i j e

-- ---- events

closed-stable : IsStable (λ plan xs. new_states [] plan xs ≡ xs)
closed-stable = record {
  settles = λ plan xs d o c e. new_states-twice [] plan (set xs d (Settled o));
  claims = λ plan xs i args c is. written_closed [] plan xs i Claimed c (ap (option_and_then outcome_of) is) refl (λ form sources. refl);
  links = λ plan xs i j c e is l. written_closed [] plan xs i (Linked j) c e refl (λ form sources. ap (linked_state j) (none_below xs i j is));
  attaches = λ plan xs new c. new_states-twice [] (plan ++ new ∷ []) (xs ++ Pending ∷ []);
}

pub keeps_closed : KeepsClosed
keeps_closed s events c = state_after-stable (λ plan xs. new_states [] plan xs ≡ xs) closed-stable s events c

pub start-closed : (plan : Planned) → IsClosed (start plan)
start-closed plan = new_states-twice [] plan.stages (replicate (length plan.stages) Pending)

pub reached_closed : ReachedAreClosed
reached_closed plan events = keeps_closed (start plan) events (start-closed plan)

-- ---- links are to lower stages

due_state-unlinked : (due : Due) (j : ℕ) → due_state due ≡ Linked j → ⊥
due_state-unlinked Waits j e = cc
due_state-unlinked (Settles o) j e = cc
due_state-unlinked (Needs args) j e = cc

linked_state-link : (k j : ℕ) (x : Option Outcome) → linked_state k x ≡ Linked j → k ≡ j
linked_state-link k j None e = cc
linked_state-link k j (Some o) e = cc

next_of-link : (below : List Stage) (form : Form) (sources : List ℕ) (x : Stage) (j : ℕ) → next_of below form sources x ≡ Linked j → x ≡ Linked j
next_of-link below form sources Pending j e = absurd (due_state-unlinked (follows form (map (outcome_in below) sources)) j e)
next_of-link below form sources (Linked k) j e = ap (λ n. Linked n) (linked_state-link k j (outcome_in below k) e)
next_of-link below form sources (Ready args) j e = e
next_of-link below form sources Claimed j e = e
next_of-link below form sources (Settled o) j e = e

some_link : (x y : Stage) → Some x ≡ Some y → x ≡ y
some_link x y e = cc

new_states-link : (below : List Stage) (plan : List PlannedStage) (xs : List Stage) (i j : ℕ) → slice_get (new_states below plan xs) i ≡ Some (Linked j) → slice_get xs i ≡ Some (Linked j)
new_states-link below [] xs i j e = e
new_states-link below (p ∷ plan) [] i j e = e
new_states-link below (p ∷ plan) (x ∷ xs) zero j e =
    ap (λ y. Some y) (next_of-link below p.form p.sources x j (some_link (next_of below p.form p.sources x) (Linked j) e))
new_states-link below (p ∷ plan) (x ∷ xs) (suc i) j e = new_states-link (below ++ next_of below p.form p.sources x ∷ []) plan xs i j e

-- a stage that is written
set-link : (xs : List Stage) (d i j : ℕ) (y : Stage) → slice_get (set xs d y) i ≡ Some (Linked j) → ((i ≡ d) × (y ≡ Linked j)) ⊎ (slice_get xs i ≡ Some (Linked j))
set-link [] d i j y e = inr e
set-link (x ∷ xs) zero zero j y e = inl (refl, some_link y (Linked j) e)
set-link (x ∷ xs) zero (suc i) j y e = inr e
set-link (x ∷ xs) (suc d) zero j y e = inr e
set-link (x ∷ xs) (suc d) (suc i) j y e = elim (set-link xs d i j y e) [ inl h ↦ inl (ap suc h.0, h.1) | inr h ↦ inr h ]

lower_by : (xs : List Stage) (d i j : ℕ) (y : Stage) → AreLinkedLower xs → (y ≡ Linked j → j < d) → slice_get (set xs d y) i ≡ Some (Linked j) → j < i
lower_by xs d i j y h new e = elim (set-link xs d i j y e) [ inl w ↦ (let l = new w.1 in let same = w.0 in omega arith) | inr w ↦ h i j w ]

-- a pending stage behind the others isn't linked
push-link : (xs : List Stage) (i j : ℕ) → slice_get (xs ++ Pending ∷ []) i ≡ Some (Linked j) → slice_get xs i ≡ Some (Linked j)
push-link [] zero j e = cc
push-link [] (suc i) j e = cc
push-link (x ∷ xs) zero j e = e
push-link (x ∷ xs) (suc i) j e = push-link xs i j e

lower-stable : IsStable (λ plan xs. AreLinkedLower xs)
lower-stable = record {
  settles = λ plan xs d o h e i j is. lower_by xs d i j (Settled o) h (λ p. cc) (new_states-link [] plan (set xs d (Settled o)) i j is);
  claims = λ plan xs d args h at i j is. lower_by xs d i j Claimed h (λ p. cc) is;
  links = λ plan xs d k h e is l i j at. lower_by xs d i j (Linked k) h (λ p. (let same : k ≡ j = cc in omega arith)) at;
  attaches = λ plan xs new h i j at. h i j (push-link xs i j (new_states-link [] (plan ++ new ∷ []) (xs ++ Pending ∷ []) i j at));
}

pending-unlinked : (n i j : ℕ) → slice_get (replicate n Pending) i ≡ Some (Linked j) → ⊥
pending-unlinked zero i j e = cc
pending-unlinked (suc n) zero j e = cc
pending-unlinked (suc n) (suc i) j e = pending-unlinked n i j e

start-lower : (plan : Planned) → AreLinkedLower ((start plan).stages)
start-lower plan i j e = absurd (pending-unlinked (length plan.stages) i j (new_states-link [] plan.stages (replicate (length plan.stages) Pending) i j e))

pub reached_lower : ReachedLinkLower
reached_lower plan events = state_after-stable (λ plan xs. AreLinkedLower xs) lower-stable (start plan) events (start-lower plan)

-- ---- a pending stage whose first settled source decides it

due_waits : (due : Due) → due_state due ≡ Pending → due ≡ Waits
due_waits Waits e = refl
due_waits (Settles o) e = cc
due_waits (Needs args) e = cc

pub first_waits : (form : Form) (x : Option Outcome) → due_of_first form x ≡ Waits → x ≡ None
first_waits form None e = refl
first_waits form (Some o) e = absurd (due_one-decides form o e)

waits_none : (form : Form) (q : List (Option Outcome)) → is_decided_by_first form ≡ true → follows form q ≡ Waits → first_there q ≡ None
waits_none Source q t e = cc
waits_none Supply q t e = cc
waits_none RunAsync q t e = cc
waits_none Combine q t e = cc
waits_none AcceptBoth q t e = cc
waits_none RunBoth q t e = cc
waits_none AllOf q t e = cc
waits_none form q t e = first_waits form (first_there q) e

first_is_none : (x : Option Outcome) (q : List (Option Outcome)) → first_there (x ∷ q) ≡ None → (x ≡ None) × (first_there q ≡ None)
first_is_none None q e = (refl, e)
first_is_none (Some o) q e = cc

none_of : (xs : List Stage) (i : ℕ) (sources : List ℕ) → All (λ j. j < i) sources → first_there (map (outcome_in (take i xs)) sources) ≡ None → All (λ j. outcome_in xs j ≡ None) sources
none_of xs i [] lower e = All-nil (λ j. outcome_in xs j ≡ None)
none_of xs i (j ∷ sources) lower e =
    let both = first_is_none (outcome_in (take i xs) j) (map (outcome_in (take i xs)) sources) e in
    All-cons (λ k. outcome_in xs k ≡ None) j sources
    (sym (outcome_in-take xs i j (All-head (λ k. k < i) j sources lower)) ∙ both.0)
    (none_of xs i sources (All-tail (λ k. k < i) j sources lower) both.1)

-- a stage of the plan
planned_at : (plan : List PlannedStage) (i : ℕ) → i < length plan → (p : PlannedStage) × (slice_get plan i ≡ Some p)
planned_at [] i l = absurd (omega arith)
planned_at (p ∷ plan) zero l = (p, refl)
planned_at (p ∷ plan) (suc i) l = planned_at plan i (omega arith)

at_within : (xs : List Stage) (i : ℕ) (x : Stage) → i < length xs → unwrap_or (slice_get xs i) Pending ≡ x → slice_get xs i ≡ Some x
at_within [] i x l e = absurd (omega arith)
at_within (y ∷ xs) zero x l e = ap (λ z. Some z) e
at_within (y ∷ xs) (suc i) x l e = at_within xs i x (omega arith) e

pub pending_closed : (plan : List PlannedStage) (xs : List Stage) (i : ℕ) (p : PlannedStage) → new_states [] plan xs ≡ xs → HasLowerSources 0 plan → slice_get plan i ≡ Some p → slice_get xs i ≡ Some Pending →
    is_decided_by_first p.form ≡ true → All (λ j. outcome_in xs j ≡ None) p.sources
pending_closed plan xs i p c lower ep es first =
    let at = new_states-at [] plan xs i p Pending ep es in
    let now : Some Pending ≡ Some (next_of (take i xs) p.form p.sources Pending) = sym es ∙ ap (λ ys. slice_get ys i) (sym c) ∙ at ∙ ap (λ ys. Some (next_of (take i ys) p.form p.sources Pending)) c in
    let due = follows p.form (map (outcome_in (take i xs)) p.sources) in
    let is : due_state due ≡ Pending = cc in
    let h = lower_at 0 plan i p lower ep in
    none_of xs i p.sources (λ k d l. let b = h k d l in omega arith) (waits_none p.form (map (outcome_in (take i xs)) p.sources) first (due_waits due is))

start_length : (plan : Planned) → length ((start plan).stages) ≡ length plan.stages
start_length plan = length-new_states [] plan.stages (replicate (length plan.stages) Pending) ∙ length-replicate (length plan.stages) Pending

-- there is a stage for each that was planned
pub reached_length : (plan : Planned) (events : List Event) → let s = state_after (start plan) events in length s.stages ≡ length s.plan.stages
reached_length plan events =
    let grown = state_after-grows (start plan) events in
    let planned = ap (λ (stages : List PlannedStage). length stages) grown.stages ∙ length-append plan.stages grown.more in
    let first = start_length plan in
    let all = grown.all_stages in
    omega (arith, planned, first, all)

pub pending_none_settled : PendingHasNoneSettled
pending_none_settled plan events i built l first pending =
    let s = state_after (start plan) events in
    let p = planned_at s.plan.stages i l in
    let long = reached_length plan events in
    let es = at_within s.stages i Pending (omega (arith, long)) pending in
    let is_form : form_at s.plan.stages i ≡ p.0.form = ap (λ x. option_map_or (λ (q : PlannedStage). q.form) x Source) p.1 in
    let is_sources : sources_at s.plan.stages i ≡ p.0.sources = ap (λ x. option_map_or (λ (q : PlannedStage). q.sources) x []) p.1 in
    rw is_sources (pending_closed s.plan.stages s.stages i p.0 (reached_closed plan events) built.lower p.1 es (sym (ap is_decided_by_first is_form) ∙ first))
