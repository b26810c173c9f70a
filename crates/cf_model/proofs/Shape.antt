-- What stays the same of a state, whatever events come.
use Rattle.std.proofs.Common.{◌≡◌, ◌==◌, ℕ, ◌+◌, ◌∷◌, ◌++◌, [], List, Bool, true, false, cond, zero, suc, Option, Some, None, length, length-set, length-append, append-nil, append_assoc, arith, sym, ap, ◌∙◌, refl, set}
use Rattle.std.specs.Prelude.{nat_lt}
use Rattle.std.specs.Option.{option_map_or}
use Rattle.std.proofs.lemmas.List.Elements.{All-head, All-tail}
use Rattle.cf_outcome.specs.declared.outcome.Outcome.{Outcome}
use Rattle.cf_outcome.specs.declared.outcome.Outcome.TheVariants.{Value as Gives, Fault}
use Rattle.cf_outcome.specs.declared.outcome.Cause.TheVariants.{Thrown}
use Rattle.cf_forms.specs.declared.forms.Answer.{Answer}
use Rattle.cf_forms.specs.declared.forms.Landing.{Landing}
use Rattle.cf_forms.specs.declared.forms.Landing.TheVariants.{Settles as Lands, Links}
use Rattle.cf_forms.specs.declared.limits.Limit.{Limit}
use Rattle.cf_forms.specs.Forms.{landing}
use Rattle.cf_forms.specs.Plans.{Planned, PlannedStage, attached_stage, form_at}
use Rattle.cf_model.specs.declared.stage.Stage.{Stage}
use Rattle.cf_model.specs.declared.stage.Stage.TheVariants.{Pending, Ready, Claimed, Linked, Settled}
use Rattle.cf_model.specs.declared.replies.Finished.TheVariants.{NotYours}
use Rattle.cf_model.specs.declared.replies.Ticked.TheVariants.{Fired, Past}
use Rattle.cf_model.specs.declared.events.Event.{Event}
use Rattle.cf_model.specs.declared.events.Event.TheVariants.{Complete as Completes, Fail as Fails, FailAs as FailsAs, Cancel as Cancels, Claim as Claims, Finish as Finishes, Tick as Ticks, Attach as Attaches}
use Rattle.cf_model.specs.States.{State, outcome_at, stage_at, claim_at, next_of, new_states}
use Rattle.cf_model.specs.Events.{answered, settled_by, settling, cancelled_by, claimed_by, finished_by, landed, linked_to, firing, due_limits, limit_outcome, source_outcome, attached_by, attaching, state_after, cause_of}
use Rattle.cf_model.specs.Calls.{is_attach}
use Rattle.cf_model.specs.Growth.{EventsGrowPlans, Grows, OthersKeepShape, SameShape}
use Rattle.cf_model.proofs.Moves.{IsKept, answered-kept}

pub length-new_states : (below : List Stage) (plan : List PlannedStage) (xs : List Stage) → length (new_states below plan xs) ≡ length xs
length-new_states below [] xs = refl
length-new_states below (p ∷ plan) [] = refl
length-new_states below (p ∷ plan) (x ∷ xs) = ap suc (length-new_states (below ++ next_of below p.form p.sources x ∷ []) plan xs)

-- each stage that is attached takes its place of the room
SameLength : List Stage → ℕ → List Stage → ℕ → Type 0
SameLength xs a ys b = length ys + b ≡ length xs + a

same_length-kept : IsKept SameLength
unfolding SameLength
same_length-kept = record {
  same = λ xs a. refl;
  then = λ xs a ys b zs c f g. g ∙ f;
  settles = λ plan xs a d o unsettled. (let e = length-new_states [] plan (set xs d (Settled o)) ∙ length-set xs d (Settled o) in omega (arith, e));
  claims = λ xs a i args ready. (let e = length-set xs i Claimed in omega (arith, e));
  links = λ xs a i j unsettled. (let e = length-set xs i (Linked j) in omega (arith, e));
  attaches = λ plan xs a. (let e = length-new_states [] plan (xs ++ Pending ∷ []) ∙ length-append xs (Pending ∷ []) in let one : length (Pending ∷ []) ≡ 1 = refl in omega (arith, e, one));
}

-- the plan, and how many claims there are
pub record SameFrame (s r : State) : Type 0 where
  pub plan : r.plan ≡ s.plan
  pub all_claims : length r.claims ≡ length s.claims

same : (s : State) → SameFrame s s
same s = record { plan = refl; all_claims = refl }

settled_by-frame : (x : Option Outcome) (s : State) (i : ℕ) (o : Outcome) → SameFrame s ((settled_by x s i o).1)
settled_by-frame (Some old) s i o = same s
settled_by-frame None s i o = record { plan = refl; all_claims = refl }

cancelled_by-frame : (x : Option Outcome) (s : State) (i : ℕ) → SameFrame s ((cancelled_by x s i).1)
cancelled_by-frame (Some old) s i = same s
cancelled_by-frame None s i = record { plan = refl; all_claims = refl }

claimed_by-frame : (x : Stage) (s : State) (who i : ℕ) → SameFrame s ((claimed_by x s who i).1)
claimed_by-frame (Ready args) s who i = record { plan = refl; all_claims = length-set s.claims i (Some who) }
claimed_by-frame (Settled o) s who i = same s
claimed_by-frame Claimed s who i = same s
claimed_by-frame (Linked j) s who i = same s
claimed_by-frame Pending s who i = same s

linked_to-frame : (x : Option Outcome) (s : State) (i j : ℕ) → SameFrame s (linked_to x s i j)
linked_to-frame (Some o) s i j = record { plan = refl; all_claims = refl }
linked_to-frame None s i j = record { plan = refl; all_claims = refl }

landed-frame : (at : Landing) (s : State) (i : ℕ) → SameFrame s (landed s i at)
landed-frame (Lands o) s i = record { plan = refl; all_claims = refl }
landed-frame (Links j) s i = linked_to-frame (outcome_at s j) s i j

finished_by-frame : (x : Option Outcome) (s : State) (i : ℕ) (answer : Answer) → SameFrame s ((finished_by x s i answer).1)
finished_by-frame (Some old) s i answer = same s
finished_by-frame None s i answer = landed-frame (landing (form_at s.plan.stages i) i (source_outcome s i) answer) s i

firing-frame : (limits : List Limit) (count : ℕ) (s : State) → SameFrame s ((firing count s limits).1)
firing-frame [] count s = same s
firing-frame (l ∷ limits) count s =
    let done = settling s l.stage (limit_outcome l.kind) in
    let first = settled_by-frame (outcome_at s l.stage) s l.stage (limit_outcome l.kind) in
    let rest = firing-frame limits (cond done.0 (count + 1) count) done.1 in
    record { plan = rest.plan ∙ first.plan; all_claims = rest.all_claims ∙ first.all_claims }

chosen-frame : {X : Type 0} (s : State) (b : Bool) (p q : X × State) → SameFrame s p.1 → SameFrame s q.1 → SameFrame s ((cond b p q).1)
chosen-frame s true p q hp hq = hp
chosen-frame s false p q hp hq = hq

pub answered-frame : (s : State) (e : Event) → is_attach e ≡ false → SameFrame s ((answered s e).1)
answered-frame s (Completes who i v) other = settled_by-frame (outcome_at s i) s i (Gives v)
answered-frame s (Fails who i code) other = settled_by-frame (outcome_at s i) s i (Fault (Thrown code) false)
answered-frame s (FailsAs who i failure) other = settled_by-frame (outcome_at s i) s i (Fault (cause_of failure) false)
answered-frame s (Cancels who i) other = cancelled_by-frame (outcome_at s i) s i
answered-frame s (Claims who i) other = claimed_by-frame (stage_at s i) s who i
answered-frame s (Finishes who i answer) other =
    let closed : State = record s { claims = set s.claims i None } in
    let done = finished_by-frame (outcome_at s i) closed i answer in
    chosen-frame s (option_map_or (λ w. w == who) (claim_at s i) false) (finished_by (outcome_at s i) closed i answer) (NotYours, s)
    (record { plan = done.plan; all_claims = done.all_claims ∙ length-set s.claims i None }) (same s)
answered-frame s (Ticks who now) other =
    let fired = firing 0 s (due_limits s now) in
    let done = firing-frame (due_limits s now) 0 s in
    chosen-frame s (nat_lt now s.moment) (Past, s) (Fired fired.0, record fired.1 { moment = now; used = s.used + length (due_limits s now) })
    (same s) (record { plan = done.plan; all_claims = done.all_claims })
answered-frame s (Attaches who form of function) other = cc

pub answered-stages : (s : State) (e : Event) → is_attach e ≡ false → length ((answered s e).1.stages) ≡ length s.stages
unfolding SameLength
answered-stages s e other =
    let all = answered-kept SameLength same_length-kept e s in
    let room = ap (λ (p : Planned). p.room) ((answered-frame s e other).plan) in
    omega (arith, all, room)

-- one event that attaches nothing, and all of them
pub answered-shape : (s : State) (e : Event) → is_attach e ≡ false → SameShape s ((answered s e).1)
answered-shape s e other =
    let frame = answered-frame s e other in
    record { plan = frame.plan; all_stages = answered-stages s e other; all_claims = frame.all_claims }

pub state_after-shape : OthersKeepShape
state_after-shape s [] others = record { plan = refl; all_stages = refl; all_claims = refl }
state_after-shape s (e ∷ events) others =
    let first = answered-shape s e (All-head (λ e. is_attach e ≡ false) e events others) in
    let rest = state_after-shape ((answered s e).1) events (All-tail (λ e. is_attach e ≡ false) e events others) in
    record { plan = rest.plan ∙ first.plan; all_stages = rest.all_stages ∙ first.all_stages; all_claims = rest.all_claims ∙ first.all_claims }

-- ---- a stage is attached

attached_by-grows : (x : ℕ) (s : State) (new : PlannedStage) → s.plan.room ≡ x → Grows s ((attached_by x s new).1)
attached_by-grows zero s new e =
    let none : length {A = PlannedStage} [] ≡ 0 = refl in
    record {
      more = [];
      stages = sym (append-nil s.plan.stages);
      limits = refl;
      opened = refl;
      room = omega (arith, none);
      all_stages = omega (arith, none);
      all_claims = omega (arith, none);
    }
attached_by-grows (suc room) s new e =
    let one : length (new ∷ []) ≡ 1 = refl in
    let stages = length-new_states [] (s.plan.stages ++ new ∷ []) (s.stages ++ Pending ∷ []) ∙ length-append s.stages (Pending ∷ []) in
    let claims = length-append s.claims (None ∷ []) in
    record {
      more = new ∷ [];
      stages = refl;
      limits = refl;
      opened = refl;
      room = omega (arith, e, one);
      all_stages = stages;
      all_claims = claims;
    }

attaching-grows : (s : State) (new : PlannedStage) → Grows s ((attaching s new).1)
attaching-grows s new = attached_by-grows s.plan.room s new refl

-- ---- how a plan grows

kept-grows : (s r : State) → SameShape s r → Grows s r
kept-grows s r same =
    let none : length {A = PlannedStage} [] ≡ 0 = refl in
    let room = ap (λ (p : Planned). p.room) same.plan in
    let stages = same.all_stages in
    let claims = same.all_claims in
    record {
      more = [];
      stages = ap (λ (p : Planned). p.stages) same.plan ∙ sym (append-nil s.plan.stages);
      limits = ap (λ (p : Planned). p.limits) same.plan;
      opened = ap (λ (p : Planned). p.opened) same.plan;
      room = omega (arith, none, room);
      all_stages = omega (arith, none, stages);
      all_claims = omega (arith, none, claims);
    }

-- one event, and all
event-grows : (b : Bool) (s : State) (e : Event) → is_attach e ≡ b → Grows s ((answered s e).1)
event-grows false s e other = kept-grows s ((answered s e).1) (answered-shape s e other)
event-grows true s (Attaches who form of function) is = attaching-grows s (attached_stage form of function)
event-grows true s (Completes who i v) is = cc
event-grows true s (Fails who i code) is = cc
event-grows true s (FailsAs who i failure) is = cc
event-grows true s (Cancels who i) is = cc
event-grows true s (Claims who i) is = cc
event-grows true s (Finishes who i answer) is = cc
event-grows true s (Ticks who now) is = cc

pub answered-grows : (s : State) (e : Event) → Grows s ((answered s e).1)
answered-grows s e = event-grows (is_attach e) s e refl

pub grows-then : (s r t : State) → Grows s r → Grows r t → Grows s t
grows-then s r t first then =
    let both = length-append first.more then.more in
    let a = first.room in
    let b = then.room in
    let c = first.all_stages in
    let d = then.all_stages in
    let e = first.all_claims in
    let f = then.all_claims in
    record {
      more = first.more ++ then.more;
      stages = then.stages ∙ ap (λ stages. stages ++ then.more) first.stages ∙ append_assoc s.plan.stages first.more then.more;
      limits = then.limits ∙ first.limits;
      opened = then.opened ∙ first.opened;
      room = omega (arith, both, a, b);
      all_stages = omega (arith, both, c, d);
      all_claims = omega (arith, both, e, f);
    }

pub state_after-grows : EventsGrowPlans
state_after-grows s [] = kept-grows s s (record { plan = refl; all_stages = refl; all_claims = refl })
state_after-grows s (e ∷ events) = grows-then s ((answered s e).1) (state_after s (e ∷ events)) (answered-grows s e) (state_after-grows ((answered s e).1) events)
