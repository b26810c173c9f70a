-- Which stages are claimed, along a history.
use Rattle.std.proofs.Common.{◌≡◌, ◌≢◌, ℕ, zero, suc, ◌+◌, Bool, true, false, cond, Option, Some, None, List, [], ◌∷◌, ◌++◌, length, set, replicate, sym, refl, ◌∙◌, subst, arith}
use Rattle.std.specs.Prelude.{slice_get, unwrap_or, nat_lt, map}
use Rattle.std.specs.List.{All}
use Rattle.std.proofs.lemmas.Bool.{false_from_ne_true}
use Rattle.std.proofs.lemmas.List.Elements.{All-head, All-tail}
use Rattle.cf_outcome.specs.declared.outcome.Outcome.{Outcome}
use Rattle.cf_outcome.specs.declared.outcome.Outcome.TheVariants.{Value as Gives, Fault}
use Rattle.cf_outcome.specs.declared.outcome.Cause.TheVariants.{Thrown, Cancelled}
use Rattle.cf_outcome.specs.Outcomes.{wrap}
use Rattle.cf_forms.specs.declared.forms.Form.{Form}
use Rattle.cf_forms.specs.declared.forms.Due.{Due}
use Rattle.cf_forms.specs.declared.forms.Due.TheVariants.{Waits, Settles, Needs}
use Rattle.cf_forms.specs.declared.forms.Landing.{Landing}
use Rattle.cf_forms.specs.declared.forms.Landing.TheVariants.{Settles as Lands, Links}
use Rattle.cf_forms.specs.declared.limits.Limit.{Limit}
use Rattle.cf_forms.specs.Forms.{follows}
use Rattle.cf_forms.specs.Plans.{Planned, PlannedStage, attached_stage}
use Rattle.cf_model.specs.declared.stage.Stage.{Stage}
use Rattle.cf_model.specs.declared.stage.Stage.TheVariants.{Pending, Ready, Claimed, Linked, Settled}
use Rattle.cf_model.specs.declared.replies.Ticked.TheVariants.{Fired, Past}
use Rattle.cf_model.specs.declared.events.Event.{Event}
use Rattle.cf_model.specs.declared.events.Event.TheVariants.{Complete as Completes, Fail as Fails, FailAs as FailsAs, Cancel as Cancels, Claim as Claims, Finish as Finishes, Tick as Ticks, Attach as Attaches}
use Rattle.cf_model.specs.States.{State, after, start, stages_after, outcome_in, outcome_at, stage_at, due_state, linked_state, next_of, new_states}
use Rattle.cf_model.specs.Events.{answered, attached_by, state_after, settled_by, settling, cancelled_by, landed, linked_to, firing, due_limits, limit_outcome, cause_of}
use Rattle.cf_model.specs.Calls.{is_from_outside}
use Rattle.cf_model.proofs.StateLemmas.{after-unsettled}

abbrev pub is_claimed : Stage → Bool
is_claimed Claimed = true
is_claimed stage = false

abbrev pub at : List Stage → ℕ → Stage
at xs i = unwrap_or (slice_get xs i) Pending

due_claimed : (due : Due) → is_claimed (due_state due) ≡ false
due_claimed Waits = refl
due_claimed (Settles o) = refl
due_claimed (Needs args) = refl

linked_claimed : (j : ℕ) (o : Option Outcome) → is_claimed (linked_state j o) ≡ false
linked_claimed j None = refl
linked_claimed j (Some o) = refl

next_claimed : (below : List Stage) (form : Form) (sources : List ℕ) (x : Stage) → is_claimed (next_of below form sources x) ≡ is_claimed x
next_claimed below form sources Pending = due_claimed (follows form (map (outcome_in below) sources))
next_claimed below form sources (Ready args) = refl
next_claimed below form sources Claimed = refl
next_claimed below form sources (Linked j) = linked_claimed j (outcome_in below j)
next_claimed below form sources (Settled o) = refl

-- settling makes no stage claimed
new_claimed : (below : List Stage) (plan : List PlannedStage) (xs : List Stage) (i : ℕ) → is_claimed (at (new_states below plan xs) i) ≡ is_claimed (at xs i)
new_claimed below [] xs i = refl
new_claimed below (p ∷ plan) [] i = refl
new_claimed below (p ∷ plan) (x ∷ xs) zero = next_claimed below p.form p.sources x
new_claimed below (p ∷ plan) (x ∷ xs) (suc i) = new_claimed (below ++ next_of below p.form p.sources x ∷ []) plan xs i

-- stage i is claimed only if it was before, and isn't stage d
abbrev pub StillClaimed : ℕ → List Stage → List Stage → Type 0
StillClaimed d xs ys = (i : ℕ) → is_claimed (at ys i) ≡ true → (is_claimed (at xs i) ≡ true) × (i ≢ d)

set_claimed : (xs : List Stage) (d : ℕ) (y : Stage) → is_claimed y ≡ false → StillClaimed d xs (set xs d y)
set_claimed [] d y new i e = let no : ⊥ = cc in absurd no
set_claimed (x ∷ xs) zero y new zero e = let no : ⊥ = cc in absurd no
set_claimed (x ∷ xs) zero y new (suc i) e = (e, omega arith)
set_claimed (x ∷ xs) (suc d) y new zero e = (e, omega arith)
set_claimed (x ∷ xs) (suc d) y new (suc i) e = let h = set_claimed xs d y new i e in (h.0, (let ne : i ≢ d = h.1 in omega arith))

settled_claimed : (plan : List PlannedStage) (xs : List Stage) (d : ℕ) (o : Outcome) → StillClaimed d xs (new_states [] plan (set xs d (Settled o)))
settled_claimed plan xs d o i e = set_claimed xs d (Settled o) refl i (sym (new_claimed [] plan (set xs d (Settled o)) i) ∙ e)

after_claimed : (s : State) (d : ℕ) (o : Outcome) → outcome_at s d ≡ None → StillClaimed d s.stages ((after s d o).stages)
after_claimed s d o none = subst (λ (r : State). StillClaimed d s.stages r.stages) (sym (after-unsettled s d o none)) (settled_claimed s.plan.stages s.stages d o)

linked_to_claimed : (x : Option Outcome) (s : State) (i j : ℕ) → outcome_at s i ≡ None → StillClaimed i s.stages ((linked_to x s i j).stages)
linked_to_claimed (Some o) s i j none = after_claimed s i (wrap o) none
linked_to_claimed None s i j none = set_claimed s.stages i (Linked j) refl

pub landed_claimed : (where_to : Landing) (s : State) (i : ℕ) → outcome_at s i ≡ None → StillClaimed i s.stages ((landed s i where_to).stages)
landed_claimed (Lands o) s i none = after_claimed s i o none
landed_claimed (Links j) s i none = linked_to_claimed (outcome_at s j) s i j none

-- ---- what comes from outside claims nothing

abbrev pub NoneNew : List Stage → List Stage → Type 0
NoneNew xs ys = (i : ℕ) → is_claimed (at ys i) ≡ true → is_claimed (at xs i) ≡ true

after_claims : (y : Option Outcome) (plan : List PlannedStage) (xs : List Stage) (d : ℕ) (o : Outcome) → NoneNew xs (stages_after y plan xs d o)
after_claims (Some old) plan xs d o i e = e
after_claims None plan xs d o i e = (settled_claimed plan xs d o i e).0

settled_by_claims : (x : Option Outcome) (s : State) (d : ℕ) (o : Outcome) → NoneNew s.stages ((settled_by x s d o).1.stages)
settled_by_claims (Some old) s d o i e = e
settled_by_claims None s d o i e = after_claims (outcome_at s d) s.plan.stages s.stages d o i e

cancelled_by_claims : (x : Option Outcome) (s : State) (d : ℕ) → NoneNew s.stages ((cancelled_by x s d).1.stages)
cancelled_by_claims (Some old) s d i e = e
cancelled_by_claims None s d i e = after_claims (outcome_at s d) s.plan.stages s.stages d (Fault Cancelled false) i e

firing_claims : (limits : List Limit) (count : ℕ) (s : State) → NoneNew s.stages ((firing count s limits).1.stages)
firing_claims [] count s i e = e
firing_claims (l ∷ limits) count s i e =
    let done = settling s l.stage (limit_outcome l.kind) in
    settled_by_claims (outcome_at s l.stage) s l.stage (limit_outcome l.kind) i (firing_claims limits (cond done.0 (count + 1) count) done.1 i e)

chosen_claims : {X : Type 0} (xs : List Stage) (b : Bool) (p q : X × State) → NoneNew xs p.1.stages → NoneNew xs q.1.stages → NoneNew xs ((cond b p q).1.stages)
chosen_claims xs true p q hp hq = hp
chosen_claims xs false p q hp hq = hq

-- a stage that is attached is none that is claimed
with_pending : (xs : List Stage) (i : ℕ) → is_claimed (at (xs ++ Pending ∷ []) i) ≡ is_claimed (at xs i)
with_pending [] zero = refl
with_pending [] (suc i) = refl
with_pending (x ∷ xs) zero = refl
with_pending (x ∷ xs) (suc i) = with_pending xs i

attached_by_claims : (room : ℕ) (s : State) (new : PlannedStage) → NoneNew s.stages ((attached_by room s new).1.stages)
attached_by_claims zero s new i e = e
attached_by_claims (suc room) s new i e =
    sym (with_pending s.stages i) ∙ sym (new_claimed [] (s.plan.stages ++ new ∷ []) (s.stages ++ Pending ∷ []) i) ∙ e

outside_claims : (e : Event) (s : State) → is_from_outside e ≡ true → NoneNew s.stages ((answered s e).1.stages)
outside_claims (Completes who i v) s h = settled_by_claims (outcome_at s i) s i (Gives v)
outside_claims (Fails who i code) s h = settled_by_claims (outcome_at s i) s i (Fault (Thrown code) false)
outside_claims (FailsAs who i failure) s h = settled_by_claims (outcome_at s i) s i (Fault (cause_of failure) false)
outside_claims (Cancels who i) s h = cancelled_by_claims (outcome_at s i) s i
outside_claims (Claims who i) s h = cc
outside_claims (Finishes who i answer) s h = cc
outside_claims (Ticks who now) s h =
    let fired = firing 0 s (due_limits s now) in
    chosen_claims s.stages (nat_lt now s.moment) (Past, s) (Fired fired.0, record fired.1 { moment = now; used = s.used + length (due_limits s now) })
    (λ i e. e) (firing_claims (due_limits s now) 0 s)
outside_claims (Attaches who form of function) s h = attached_by_claims s.plan.room s (attached_stage form of function)

outside_claim_none : (events : List Event) (s : State) → All (λ e. is_from_outside e ≡ true) events → NoneNew s.stages ((state_after s events).stages)
outside_claim_none [] s h i e = e
outside_claim_none (e ∷ events) s h i c =
    outside_claims e s (All-head (λ x. is_from_outside x ≡ true) e events h) i (outside_claim_none events ((answered s e).1) (All-tail (λ x. is_from_outside x ≡ true) e events h) i c)

pending_all : (n i : ℕ) → is_claimed (at (replicate n Pending) i) ≡ false
pending_all zero i = refl
pending_all (suc n) zero = refl
pending_all (suc n) (suc i) = pending_all n i

pub outside_leaves_unclaimed : (plan : Planned) (events : List Event) → All (λ e. is_from_outside e ≡ true) events → (i : ℕ) → is_claimed (stage_at (state_after (start plan) events) i) ≡ false
outside_leaves_unclaimed plan events h i =
    false_from_ne_true (is_claimed (stage_at (state_after (start plan) events) i))
    (λ e. let old = outside_claim_none events (start plan) h i e in
    let none = new_claimed [] plan.stages (replicate (length plan.stages) Pending) i ∙ pending_all (length plan.stages) i in cc)
