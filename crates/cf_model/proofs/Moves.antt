-- What events do to the states of stages, and the laws of whole runs.
use Rattle.std.proofs.Common.{◌≡◌, ◌≢◌, ℕ, ◌+◌, ◌-◌, ◌≤◌, ◌==◌, ◌∷◌, ◌++◌, [], List, Bool, true, false, cond, Option, Some, None, length, suc, zero, arith, ap, sym, ◌∙◌, refl, set}
use Rattle.std.specs.Prelude.{slice_get, unwrap_or, option_and_then, nat_lt}
use Rattle.std.proofs.lemmas.Bool.Decides.{nat_tests}
use Rattle.std.specs.Option.{option_map_or}
use Rattle.cf_model.specs.declared.replies.Finished.TheVariants.{NotYours}
use Rattle.cf_model.specs.declared.replies.Ticked.TheVariants.{Fired, Past}
use Rattle.cf_forms.specs.declared.forms.Form.{Form}
use Rattle.cf_outcome.specs.declared.outcome.Outcome.{Outcome}
use Rattle.cf_outcome.specs.declared.outcome.Outcome.TheVariants.{Value as Gives, Fault}
use Rattle.cf_outcome.specs.declared.outcome.Cause.TheVariants.{Thrown, Cancelled}
use Rattle.cf_outcome.specs.Outcomes.{wrap}
use Rattle.cf_forms.specs.declared.forms.Args.{Args}
use Rattle.cf_forms.specs.declared.forms.Answer.{Answer}
use Rattle.cf_forms.specs.declared.forms.Landing.{Landing}
use Rattle.cf_forms.specs.declared.forms.Landing.TheVariants.{Settles as Lands, Links}
use Rattle.cf_forms.specs.declared.limits.Limit.{Limit}
use Rattle.cf_forms.specs.Forms.{landing}
use Rattle.cf_forms.specs.Plans.{PlannedStage, attached_stage, form_at}
use Rattle.cf_model.proofs.StateLemmas.{slice_get-set_other}
use Rattle.cf_model.specs.declared.stage.Stage.{Stage}
use Rattle.cf_model.specs.declared.stage.Stage.TheVariants.{Pending, Ready, Claimed, Linked, Settled}
use Rattle.cf_model.specs.States.{State, after, stages_after, outcome_of, outcome_in, outcome_at, stage_at, claim_at, linked_state, next_of, new_states}
use Rattle.cf_model.specs.declared.events.Event.{Event}
use Rattle.cf_model.specs.declared.events.Event.TheVariants.{Complete as Completes, Fail as Fails, FailAs as FailsAs, Cancel as Cancels, Claim as Claims, Finish as Finishes, Tick as Ticks, Attach as Attaches}
use Rattle.cf_model.specs.declared.events.Reply.TheVariants.{Claim as ToldClaim}
use Rattle.cf_model.specs.Events.{answered, state_after, settled_by, settling, cancelled_by, claimed_by, finished_by, landed, linked_to, firing, due_limits, limit_outcome, source_outcome, attached_by, attaching, cause_of}
use Rattle.cf_model.specs.Laws.{KeepsOutcomes, GrantsOnce, grants_of, is_grant}

-- A relation between the states of stages, and the room that is left, before and after, which each kind of change keeps.
pub record IsKept (R : List Stage → ℕ → List Stage → ℕ → Type 0) : Type 0 where
  pub same : (xs : List Stage) (a : ℕ) → R xs a xs a
  pub then : (xs : List Stage) (a : ℕ) (ys : List Stage) (b : ℕ) (zs : List Stage) (c : ℕ) → R xs a ys b → R ys b zs c → R xs a zs c
  pub settles : (plan : List PlannedStage) (xs : List Stage) (a d : ℕ) (o : Outcome) → outcome_in xs d ≡ None → R xs a (new_states [] plan (set xs d (Settled o))) a
  pub claims : (xs : List Stage) (a i : ℕ) (args : Args) → slice_get xs i ≡ Some (Ready args) → R xs a (set xs i Claimed) a
  pub links : (xs : List Stage) (a i j : ℕ) → outcome_in xs i ≡ None → R xs a (set xs i (Linked j)) a
  pub attaches : (plan : List PlannedStage) (xs : List Stage) (a : ℕ) → R xs (suc a) (new_states [] plan (xs ++ Pending ∷ [])) a

-- the relation of two states
abbrev pub Keeps : (List Stage → ℕ → List Stage → ℕ → Type 0) → State → State → Type 0
Keeps R s r = R s.stages s.plan.room r.stages r.plan.room

stages_after-kept : (R : List Stage → ℕ → List Stage → ℕ → Type 0) → IsKept R → (x : Option Outcome) (s : State) (d : ℕ) (o : Outcome) → outcome_at s d ≡ x → R s.stages s.plan.room (stages_after x s.plan.stages s.stages d o) s.plan.room
stages_after-kept R k (Some old) s d o e = k.same s.stages s.plan.room
stages_after-kept R k None s d o e = k.settles s.plan.stages s.stages s.plan.room d o e

after-kept : (R : List Stage → ℕ → List Stage → ℕ → Type 0) → IsKept R → (s : State) (d : ℕ) (o : Outcome) → Keeps R s (after s d o)
after-kept R k s d o = stages_after-kept R k (outcome_at s d) s d o refl

settled_by-kept : (R : List Stage → ℕ → List Stage → ℕ → Type 0) → IsKept R → (x : Option Outcome) (s : State) (i : ℕ) (o : Outcome) → outcome_at s i ≡ x → Keeps R s ((settled_by x s i o).1)
settled_by-kept R k (Some old) s i o e = k.same s.stages s.plan.room
settled_by-kept R k None s i o e = after-kept R k s i o

cancelled_by-kept : (R : List Stage → ℕ → List Stage → ℕ → Type 0) → IsKept R → (x : Option Outcome) (s : State) (i : ℕ) → outcome_at s i ≡ x → Keeps R s ((cancelled_by x s i).1)
cancelled_by-kept R k (Some old) s i e = k.same s.stages s.plan.room
cancelled_by-kept R k None s i e = after-kept R k s i (Fault Cancelled false)

-- a stage that isn't pending is there
pub there : (x : Option Stage) (y : Stage) → unwrap_or x Pending ≡ y → y ≢ Pending → x ≡ Some y
there None y e ne = absurd (ne (sym e))
there (Some x) y e ne = ap (λ z. Some z) e

claimed_by-kept : (R : List Stage → ℕ → List Stage → ℕ → Type 0) → IsKept R → (x : Stage) (s : State) (who i : ℕ) → stage_at s i ≡ x → Keeps R s ((claimed_by x s who i).1)
claimed_by-kept R k (Ready args) s who i e = k.claims s.stages s.plan.room i args (there (slice_get s.stages i) (Ready args) e (λ h. cc))
claimed_by-kept R k (Settled o) s who i e = k.same s.stages s.plan.room
claimed_by-kept R k Claimed s who i e = k.same s.stages s.plan.room
claimed_by-kept R k (Linked j) s who i e = k.same s.stages s.plan.room
claimed_by-kept R k Pending s who i e = k.same s.stages s.plan.room

linked_to-kept : (R : List Stage → ℕ → List Stage → ℕ → Type 0) → IsKept R → (x : Option Outcome) (s : State) (i j : ℕ) → outcome_at s i ≡ None → Keeps R s (linked_to x s i j)
linked_to-kept R k (Some o) s i j e = after-kept R k s i (wrap o)
linked_to-kept R k None s i j e = k.links s.stages s.plan.room i j e

landed-kept : (R : List Stage → ℕ → List Stage → ℕ → Type 0) → IsKept R → (at : Landing) (s : State) (i : ℕ) → outcome_at s i ≡ None → Keeps R s (landed s i at)
landed-kept R k (Lands o) s i e = after-kept R k s i o
landed-kept R k (Links j) s i e = linked_to-kept R k (outcome_at s j) s i j e

finished_by-kept : (R : List Stage → ℕ → List Stage → ℕ → Type 0) → IsKept R → (x : Option Outcome) (s : State) (i : ℕ) (answer : Answer) → outcome_at s i ≡ x → Keeps R s ((finished_by x s i answer).1)
finished_by-kept R k (Some old) s i answer e = k.same s.stages s.plan.room
finished_by-kept R k None s i answer e = landed-kept R k (landing (form_at s.plan.stages i) i (source_outcome s i) answer) s i e

firing-kept : (R : List Stage → ℕ → List Stage → ℕ → Type 0) → IsKept R → (limits : List Limit) (count : ℕ) (s : State) → Keeps R s ((firing count s limits).1)
firing-kept R k [] count s = k.same s.stages s.plan.room
firing-kept R k (l ∷ limits) count s =
    let done = settling s l.stage (limit_outcome l.kind) in
    k.then s.stages s.plan.room done.1.stages done.1.plan.room ((firing count s (l ∷ limits)).1.stages) ((firing count s (l ∷ limits)).1.plan.room)
    (settled_by-kept R k (outcome_at s l.stage) s l.stage (limit_outcome l.kind) refl)
    (firing-kept R k limits (cond done.0 (count + 1) count) done.1)

-- either of two states
chosen-kept : (R : List Stage → ℕ → List Stage → ℕ → Type 0) → {X : Type 0} (s : State) (b : Bool) (p q : X × State) → Keeps R s p.1 → Keeps R s q.1 → Keeps R s ((cond b p q).1)
chosen-kept R s true p q hp hq = hp
chosen-kept R s false p q hp hq = hq

-- a stage is attached
attached_by-kept : (R : List Stage → ℕ → List Stage → ℕ → Type 0) → IsKept R → (x : ℕ) (s : State) (new : PlannedStage) → s.plan.room ≡ x → Keeps R s ((attached_by x s new).1)
attached_by-kept R k zero s new e = k.same s.stages s.plan.room
attached_by-kept R k (suc room) s new e =
    let left : s.plan.room - 1 ≡ room = omega arith in
    rw (left, e) (k.attaches (s.plan.stages ++ new ∷ []) s.stages room)

pub attaching-kept : (R : List Stage → ℕ → List Stage → ℕ → Type 0) → IsKept R → (s : State) (new : PlannedStage) → Keeps R s ((attaching s new).1)
attaching-kept R k s new = attached_by-kept R k s.plan.room s new refl

-- each event keeps the relation
pub answered-kept : (R : List Stage → ℕ → List Stage → ℕ → Type 0) → IsKept R → (e : Event) (s : State) → Keeps R s ((answered s e).1)
answered-kept R k (Completes who i v) s = settled_by-kept R k (outcome_at s i) s i (Gives v) refl
answered-kept R k (Fails who i code) s = settled_by-kept R k (outcome_at s i) s i (Fault (Thrown code) false) refl
answered-kept R k (FailsAs who i failure) s = settled_by-kept R k (outcome_at s i) s i (Fault (cause_of failure) false) refl
answered-kept R k (Cancels who i) s = cancelled_by-kept R k (outcome_at s i) s i refl
answered-kept R k (Claims who i) s = claimed_by-kept R k (stage_at s i) s who i refl
answered-kept R k (Finishes who i answer) s =
    let closed : State = record s { claims = set s.claims i None } in
    chosen-kept R s (option_map_or (λ w. w == who) (claim_at s i) false) (finished_by (outcome_at s i) closed i answer) (NotYours, s)
    (finished_by-kept R k (outcome_at s i) closed i answer refl) (k.same s.stages s.plan.room)
answered-kept R k (Ticks who now) s =
    let fired = firing 0 s (due_limits s now) in
    chosen-kept R s (nat_lt now s.moment) (Past, s) (Fired fired.0, record fired.1 { moment = now; used = s.used + length (due_limits s now) })
    (k.same s.stages s.plan.room) (firing-kept R k (due_limits s now) 0 s)
answered-kept R k (Attaches who form of function) s = attaching-kept R k s (attached_stage form of function)

-- and so do all
pub state_after-kept : (R : List Stage → ℕ → List Stage → ℕ → Type 0) → IsKept R → (events : List Event) (s : State) → Keeps R s (state_after s events)
state_after-kept R k [] s = k.same s.stages s.plan.room
state_after-kept R k (e ∷ events) s =
    k.then s.stages s.plan.room ((answered s e).1.stages) ((answered s e).1.plan.room) ((state_after s (e ∷ events)).stages) ((state_after s (e ∷ events)).plan.room) (answered-kept R k e s) (state_after-kept R k events ((answered s e).1))

-- ---- a settled stage

-- a settled stage stays as it is among the new states
next_of-settled : (below : List Stage) (form : Form) (sources : List ℕ) (x : Stage) (o : Outcome) → outcome_of x ≡ Some o → next_of below form sources x ≡ x
next_of-settled below form sources (Settled p) o e = refl
next_of-settled below form sources Pending o e = cc
next_of-settled below form sources (Ready args) o e = cc
next_of-settled below form sources Claimed o e = cc
next_of-settled below form sources (Linked j) o e = cc

pub new_states-settled : (below : List Stage) (plan : List PlannedStage) (xs : List Stage) (i : ℕ) (o : Outcome) → outcome_in xs i ≡ Some o → outcome_in (new_states below plan xs) i ≡ Some o
new_states-settled below [] xs i o e = e
new_states-settled below (p ∷ plan) [] i o e = e
new_states-settled below (p ∷ plan) (x ∷ xs) zero o e = ap outcome_of (next_of-settled below p.form p.sources x o e) ∙ e
new_states-settled below (p ∷ plan) (x ∷ xs) (suc i) o e = new_states-settled (below ++ next_of below p.form p.sources x ∷ []) plan xs i o e

-- a write to a stage that isn't settled
pub set-settled : (xs : List Stage) (d i : ℕ) (y : Stage) (o : Outcome) → outcome_in xs d ≡ None → outcome_in xs i ≡ Some o → outcome_in (set xs d y) i ≡ Some o
set-settled xs d i y o unsettled e =
    let ne : i ≢ d = λ same. let h = ap (outcome_in xs) same in cc in
    ap (option_and_then outcome_of) (slice_get-set_other xs d i y ne) ∙ e

-- one stage more
pub push-settled : (xs : List Stage) (i : ℕ) (o : Outcome) → outcome_in xs i ≡ Some o → outcome_in (xs ++ Pending ∷ []) i ≡ Some o
push-settled [] i o e = cc
push-settled (x ∷ xs) zero o e = e
push-settled (x ∷ xs) (suc i) o e = push-settled xs i o e

KeepsOutcome : ℕ → Outcome → List Stage → ℕ → List Stage → ℕ → Type 0
KeepsOutcome i o xs a ys b = outcome_in xs i ≡ Some o → outcome_in ys i ≡ Some o

outcome-kept : (i : ℕ) (o : Outcome) → IsKept (KeepsOutcome i o)
unfolding KeepsOutcome
outcome-kept i o = record {
  same = λ xs a e. e;
  then = λ xs a ys b zs c f g e. g (f e);
  settles = λ plan xs a d p unsettled e. new_states-settled [] plan (set xs d (Settled p)) i o (set-settled xs d i (Settled p) o unsettled e);
  claims = λ xs a d args ready e. set-settled xs d i Claimed o (ap (option_and_then outcome_of) ready) e;
  links = λ xs a d j unsettled e. set-settled xs d i (Linked j) o unsettled e;
  attaches = λ plan xs a e. new_states-settled [] plan (xs ++ Pending ∷ []) i o (push-settled xs i o e);
}

pub keeps_outcomes : KeepsOutcomes
unfolding KeepsOutcome
keeps_outcomes s events i o e = state_after-kept (KeepsOutcome i o) (outcome-kept i o) events s e

-- ---- a stage that has been claimed

-- whether a stage can't be claimed any more
is_taken : Stage → Bool
is_taken Pending = false
is_taken (Ready args) = false
is_taken Claimed = true
is_taken (Linked j) = true
is_taken (Settled o) = true

abbrev taken_in : List Stage → ℕ → Bool
taken_in xs i = option_map_or is_taken (slice_get xs i) false

set-taken : (xs : List Stage) (d i : ℕ) (y : Stage) → is_taken y ≡ true → taken_in xs i ≡ true → taken_in (set xs d y) i ≡ true
set-taken [] d i y new e = e
set-taken (x ∷ xs) zero zero y new e = new
set-taken (x ∷ xs) zero (suc i) y new e = e
set-taken (x ∷ xs) (suc d) zero y new e = e
set-taken (x ∷ xs) (suc d) (suc i) y new e = set-taken xs d i y new e

linked_state-taken : (j : ℕ) (x : Option Outcome) → is_taken (linked_state j x) ≡ true
unfolding is_taken
linked_state-taken j None = refl
linked_state-taken j (Some o) = refl

next_of-taken : (below : List Stage) (form : Form) (sources : List ℕ) (x : Stage) → is_taken x ≡ true → is_taken (next_of below form sources x) ≡ true
unfolding is_taken
next_of-taken below form sources Pending e = cc
next_of-taken below form sources (Ready args) e = cc
next_of-taken below form sources Claimed e = e
next_of-taken below form sources (Linked j) e = linked_state-taken j (outcome_in below j)
next_of-taken below form sources (Settled o) e = e

new_states-taken : (below : List Stage) (plan : List PlannedStage) (xs : List Stage) (i : ℕ) → taken_in xs i ≡ true → taken_in (new_states below plan xs) i ≡ true
new_states-taken below [] xs i e = e
new_states-taken below (p ∷ plan) [] i e = e
new_states-taken below (p ∷ plan) (x ∷ xs) zero e = next_of-taken below p.form p.sources x e
new_states-taken below (p ∷ plan) (x ∷ xs) (suc i) e = new_states-taken (below ++ next_of below p.form p.sources x ∷ []) plan xs i e

push-taken : (xs : List Stage) (i : ℕ) → taken_in xs i ≡ true → taken_in (xs ++ Pending ∷ []) i ≡ true
push-taken [] i e = cc
push-taken (x ∷ xs) zero e = e
push-taken (x ∷ xs) (suc i) e = push-taken xs i e

KeepsTaken : ℕ → List Stage → ℕ → List Stage → ℕ → Type 0
KeepsTaken i xs a ys b = taken_in xs i ≡ true → taken_in ys i ≡ true

taken-kept : (i : ℕ) → IsKept (KeepsTaken i)
unfolding KeepsTaken is_taken
taken-kept i = record {
  same = λ xs a e. e;
  then = λ xs a ys b zs c f g e. g (f e);
  settles = λ plan xs a d o unsettled e. new_states-taken [] plan (set xs d (Settled o)) i (set-taken xs d i (Settled o) refl e);
  claims = λ xs a d args ready e. set-taken xs d i Claimed refl e;
  links = λ xs a d j unsettled e. set-taken xs d i (Linked j) refl e;
  attaches = λ plan xs a e. new_states-taken [] plan (xs ++ Pending ∷ []) i (push-taken xs i e);
}

-- a ready stage isn't taken
ready_not_taken : (x : Option Stage) (args : Args) → unwrap_or x Pending ≡ Ready args → option_map_or is_taken x false ≡ false
unfolding is_taken
ready_not_taken None args e = refl
ready_not_taken (Some x) args e = ap is_taken e

-- a stage that is taken isn't granted
claim_not_granted : (i : ℕ) (x : Stage) (s : State) (who j : ℕ) → stage_at s j ≡ x → taken_in s.stages i ≡ true → is_grant i (Claims who j) (ToldClaim ((claimed_by x s who j).0)) ≡ false
claim_not_granted i (Ready args) s who j e t =
    let free = ready_not_taken (slice_get s.stages j) args e in
    grind (arith, nat_tests)
claim_not_granted i (Settled o) s who j e t = refl
claim_not_granted i Claimed s who j e t = refl
claim_not_granted i (Linked k) s who j e t = refl
claim_not_granted i Pending s who j e t = refl

not_granted : (i : ℕ) (e : Event) (s : State) → taken_in s.stages i ≡ true → is_grant i e ((answered s e).0) ≡ false
not_granted i (Completes who j v) s t = refl
not_granted i (Fails who j code) s t = refl
not_granted i (FailsAs who j failure) s t = refl
not_granted i (Cancels who j) s t = refl
not_granted i (Claims who j) s t = claim_not_granted i (stage_at s j) s who j refl t
not_granted i (Finishes who j answer) s t = refl
not_granted i (Ticks who now) s t = refl
not_granted i (Attaches who form of function) s t = refl

no_grants : (i : ℕ) (events : List Event) (s : State) → taken_in s.stages i ≡ true → grants_of i s events ≡ 0
unfolding KeepsTaken
no_grants i [] s t = refl
no_grants i (e ∷ events) s t =
    let rest = no_grants i events ((answered s e).1) (answered-kept (KeepsTaken i) (taken-kept i) e s t) in
    rw (not_granted i e s t) (omega (arith, rest))

-- a stage that was granted is taken
set-there : (xs : List Stage) (i : ℕ) (x y : Stage) → slice_get xs i ≡ Some x → is_taken y ≡ true → taken_in (set xs i y) i ≡ true
set-there [] i x y e t = cc
set-there (z ∷ xs) zero x y e t = t
set-there (z ∷ xs) (suc i) x y e t = set-there xs i x y e t

claim_takes : (i : ℕ) (x : Stage) (s : State) (who j : ℕ) → stage_at s j ≡ x → is_grant i (Claims who j) (ToldClaim ((claimed_by x s who j).0)) ≡ true → taken_in ((claimed_by x s who j).1.stages) i ≡ true
unfolding is_taken
claim_takes i (Ready args) s who j e g =
    let same : i ≡ j = grind (arith, nat_tests) in
    rw same (set-there s.stages j (Ready args) Claimed (there (slice_get s.stages j) (Ready args) e (λ h. cc)) refl)
claim_takes i (Settled o) s who j e g = cc
claim_takes i Claimed s who j e g = cc
claim_takes i (Linked k) s who j e g = cc
claim_takes i Pending s who j e g = cc

grant_takes : (i : ℕ) (e : Event) (s : State) → is_grant i e ((answered s e).0) ≡ true → taken_in ((answered s e).1.stages) i ≡ true
grant_takes i (Completes who j v) s g = cc
grant_takes i (Fails who j code) s g = cc
grant_takes i (FailsAs who j failure) s g = cc
grant_takes i (Cancels who j) s g = cc
grant_takes i (Claims who j) s g = claim_takes i (stage_at s j) s who j refl g
grant_takes i (Finishes who j answer) s g = cc
grant_takes i (Ticks who now) s g = cc
grant_takes i (Attaches who form of function) s g = cc

at_most_one : (i : ℕ) (b : Bool) (e : Event) (events : List Event) (s : State) → is_grant i e ((answered s e).0) ≡ b → ((r : State) → grants_of i r events ≤ 1) → grants_of i s (e ∷ events) ≤ 1
at_most_one i true e events s g rest =
    rw g (let none = no_grants i events ((answered s e).1) (grant_takes i e s g) in omega arith)
at_most_one i false e events s g rest =
    rw g (let few = rest ((answered s e).1) in omega arith)

pub grants_once : GrantsOnce
grants_once s [] i = omega arith
grants_once s (e ∷ events) i = at_most_one i (is_grant i e ((answered s e).0)) e events s refl (λ r. grants_once r events i)
