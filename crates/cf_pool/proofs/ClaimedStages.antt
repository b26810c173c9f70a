-- A claimed stage has an open claim, whatever events came.
use Rattle.std.proofs.Common.{◌≡◌, ◌≢◌, ℕ, zero, suc, ◌+◌, ◌<◌, ◌==◌, Bool, true, false, cond, eqb, Option, Some, None, List, [], ◌∷◌, ◌++◌, length, set, replicate, sym, refl, ap, ◌∙◌, subst, arith}
use Rattle.std.specs.Prelude.{slice_get, unwrap_or, option_and_then, nat_lt}
use Rattle.std.specs.Option.{option_map_or}
use Rattle.std.proofs.lemmas.Bool.{eqb-true, eqb-false}
use Rattle.std.proofs.lemmas.List.{length-replicate, set_past}
use Rattle.std.proofs.lemmas.List.Elements.{All-nil}
use Rattle.std.proofs.lemmas.Option.{slice_get_past}
use Rattle.cf_outcome.specs.declared.outcome.Outcome.{Outcome}
use Rattle.cf_outcome.specs.declared.outcome.Outcome.TheVariants.{Value as Gives, Fault}
use Rattle.cf_outcome.specs.declared.outcome.Cause.TheVariants.{Thrown, Cancelled}
use Rattle.cf_forms.specs.declared.forms.Args.{Args}
use Rattle.cf_forms.specs.declared.forms.Answer.{Answer}
use Rattle.cf_forms.specs.declared.forms.Landing.TheVariants.{Settles as Lands}
use Rattle.cf_forms.specs.declared.limits.Limit.{Limit}
use Rattle.cf_forms.specs.Forms.{landing}
use Rattle.cf_forms.specs.Plans.{Planned, PlannedStage, attached_stage, form_at}
use Rattle.cf_model.specs.declared.stage.Stage.{Stage}
use Rattle.cf_model.specs.declared.stage.Stage.TheVariants.{Pending, Ready, Claimed, Linked, Settled}
use Rattle.cf_model.specs.declared.replies.Finished.TheVariants.{NotYours}
use Rattle.cf_model.specs.declared.replies.Ticked.TheVariants.{Fired, Past}
use Rattle.cf_model.specs.declared.events.Event.{Event}
use Rattle.cf_model.specs.declared.events.Event.TheVariants.{Complete as Completes, Fail as Fails, FailAs as FailsAs, Cancel as Cancels, Claim as Claims, Finish as Finishes, Tick as Ticks, Attach as Attaches}
use Rattle.cf_model.specs.States.{State, after, appended, flowed, new_states, outcome_of, outcome_at, stages_after, stage_at, start, claim_at}
use Rattle.cf_model.specs.Events.{answered, attached_by, cancelled_by, cause_of, claimed_by, due_limits, finished_by, firing, landed, limit_outcome, settled_by, settling, source_outcome, state_after}
use Rattle.cf_model.proofs.ClaimedStages.{is_claimed, at, landed_claimed, outside_leaves_unclaimed}
use Rattle.cf_model.proofs.OpenClaims.{landed_claims, pushed_claim}
use Rattle.cf_model.proofs.Shape.{answered-grows, length-new_states}
use Rattle.cf_model.proofs.StateLemmas.{slice_get-set_other}
use Rattle.cf_core.proofs.Keeping.Marking.{get-set_same}

-- ---- places of the lists

set_here : (xs : List (Option ℕ)) (i : ℕ) (x : Option ℕ) → i < length xs → unwrap_or (slice_get (set xs i x) i) None ≡ x
set_here xs i x l = ap (λ c. unwrap_or c None) (get-set_same xs i x l)

claims_other : (xs : List (Option ℕ)) (i j : ℕ) (x : Option ℕ) → j ≢ i → unwrap_or (slice_get (set xs i x) j) None ≡ unwrap_or (slice_get xs j) None
claims_other xs i j x ne = ap (λ c. unwrap_or c None) (slice_get-set_other xs i j x ne)

stages_other : (xs : List Stage) (i j : ℕ) (x : Stage) → j ≢ i → at (set xs i x) j ≡ at xs j
stages_other xs i j x ne = ap (λ c. unwrap_or c Pending) (slice_get-set_other xs i j x ne)

ready_there : (xs : List Stage) (i : ℕ) (args : Args) → at xs i ≡ Ready args → i < length xs
ready_there [] i args e = cc
ready_there (x ∷ xs) zero args e = omega arith
ready_there (x ∷ xs) (suc i) args e = let l = ready_there xs i args e in omega arith

settled_unclaimed : (x : Option Stage) (o : Outcome) → option_and_then outcome_of x ≡ Some o → is_claimed (unwrap_or x Pending) ≡ true → ⊥
settled_unclaimed None o e c = cc
settled_unclaimed (Some Pending) o e c = cc
settled_unclaimed (Some (Ready args)) o e c = cc
settled_unclaimed (Some Claimed) o e c = cc
settled_unclaimed (Some (Linked j)) o e c = cc
settled_unclaimed (Some (Settled p)) o e c = cc

-- ---- a claimed stage has an open claim

abbrev pub AllOpen : State → Type 0
AllOpen s = (i : ℕ) → is_claimed (stage_at s i) ≡ true → claim_at s i ≡ None → ⊥

-- what claims no further stage and leaves the claims
still_open : (s t : State) → ((i : ℕ) → is_claimed (stage_at t i) ≡ true → is_claimed (stage_at s i) ≡ true) → t.claims ≡ s.claims → AllOpen s → AllOpen t
still_open s t none same h i c e = h i (none i c) (ap (λ (l : List (Option ℕ)). unwrap_or (slice_get l i) None) (sym same) ∙ e)

after_open : (s : State) (i : ℕ) (o : Outcome) → outcome_at s i ≡ None → AllOpen s → AllOpen (after s i o)
after_open s i o e h = still_open s (after s i o) (λ j c. (landed_claimed (Lands o) s i e j c).0) refl h

settled_open : (x : Option Outcome) (s : State) (i : ℕ) (o : Outcome) → outcome_at s i ≡ x → AllOpen s → AllOpen ((settled_by x s i o).1)
settled_open (Some old) s i o e h = h
settled_open None s i o e h = after_open s i o e h

cancelled_open : (x : Option Outcome) (s : State) (i : ℕ) → outcome_at s i ≡ x → AllOpen s → AllOpen ((cancelled_by x s i).1)
cancelled_open (Some old) s i e h = h
cancelled_open None s i e h = after_open s i (Fault Cancelled false) e h

firing_open : (limits : List Limit) (count : ℕ) (s : State) → AllOpen s → AllOpen ((firing count s limits).1)
firing_open [] count s h = h
firing_open (l ∷ limits) count s h =
    let done = settling s l.stage (limit_outcome l.kind) in
    firing_open limits (cond done.0 (count + 1) count) done.1 (settled_open (outcome_at s l.stage) s l.stage (limit_outcome l.kind) refl h)

chosen_open : {X : Type 0} (b : Bool) (p q : X × State) → AllOpen p.1 → AllOpen q.1 → AllOpen ((cond b p q).1)
chosen_open true p q hp hq = hp
chosen_open false p q hp hq = hq

-- ---- a stage is attached

with_pending : (xs : List Stage) (i : ℕ) → is_claimed (at (xs ++ Pending ∷ []) i) ≡ is_claimed (at xs i)
with_pending [] zero = refl
with_pending [] (suc i) = refl
with_pending (x ∷ xs) zero = refl
with_pending (x ∷ xs) (suc i) = with_pending xs i

-- that each stage takes what its sources give is what settling a stage does that isn't there
flowed_none : (s : State) (i : ℕ) → is_claimed (stage_at (flowed s) i) ≡ true → is_claimed (stage_at s i) ≡ true
flowed_none s i c = (landed_claimed (Lands (Fault Cancelled false)) s n none i (subst (λ (l : List Stage). is_claimed (at l i) ≡ true) (sym same) c)).0
  where
    n : ℕ
    n = length s.stages

    none : outcome_at s n ≡ None
    none = ap (option_and_then outcome_of) (slice_get_past s.stages n (omega arith))

    same : (after s n (Fault Cancelled false)).stages ≡ (flowed s).stages
    same = ap (λ (x : Option Outcome). stages_after x s.plan.stages s.stages n (Fault Cancelled false)) none
        ∙ ap (new_states [] s.plan.stages) (set_past s.stages n (Settled (Fault Cancelled false)) (omega arith))

none_pushed : (x : Option ℕ) (xs : List (Option ℕ)) (i : ℕ) → unwrap_or (slice_get xs i) None ≡ x → unwrap_or (slice_get (xs ++ None ∷ []) i) None ≡ None → x ≡ None
none_pushed None xs i e h = refl
none_pushed (Some c) xs i e h = let there = pushed_claim xs i c e in cc

attached_open : (room : ℕ) (s : State) (new : PlannedStage) → AllOpen s → AllOpen ((attached_by room s new).1)
attached_open zero s new h i c e = h i c e
attached_open (suc room) s new h i c e =
    h i (sym (with_pending s.stages i) ∙ flowed_none (appended s new) i c) (none_pushed (claim_at s i) s.claims i refl e)

-- ---- a claim

granted_open : (s : State) (who i : ℕ) (args : Args) → i < length s.claims → AllOpen s → AllOpen ((claimed_by (Ready args) s who i).1)
granted_open s who i args there h j c e = split (eqb j i) refl
  where
    split : (b : Bool) → eqb j i ≡ b → ⊥
    split true t =
        let here = ap (λ (k : ℕ). unwrap_or (slice_get (set s.claims i (Some who)) k) None) (eqb-true j i t) ∙ set_here s.claims i (Some who) there in
        let no : ⊥ = cc in no
    split false t =
        let ne : j ≢ i = eqb-false j i t in
        h j (ap is_claimed (sym (stages_other s.stages i j Claimed ne)) ∙ c) (sym (claims_other s.claims i j (Some who) ne) ∙ e)

claim_open : (x : Stage) (s : State) (who i : ℕ) → stage_at s i ≡ x → length s.claims ≡ length s.stages → AllOpen s → AllOpen ((claimed_by x s who i).1)
claim_open (Ready args) s who i e len h = granted_open s who i args (subst (λ (k : ℕ). i < k) (sym len) (ready_there s.stages i args e)) h
claim_open Pending s who i e len h = h
claim_open Claimed s who i e len h = h
claim_open (Linked j) s who i e len h = h
claim_open (Settled o) s who i e len h = h

-- ---- a finish

closed_open : (s t : State) (i : ℕ) → t.claims ≡ set s.claims i None → ((j : ℕ) → is_claimed (stage_at t j) ≡ true → (is_claimed (stage_at s j) ≡ true) × (j ≢ i)) → AllOpen s → AllOpen t
closed_open s t i closed others h j c e =
    let was = others j c in
    h j was.0 (sym (claims_other s.claims i j None was.1) ∙ sym (ap (λ (l : List (Option ℕ)). unwrap_or (slice_get l j) None) closed) ∙ e)

finished_open : (x : Option Outcome) (s : State) (i : ℕ) (answer : Answer) → outcome_at s i ≡ x → AllOpen s → AllOpen ((finished_by x (record s { claims = set s.claims i None }) i answer).1)
finished_open (Some old) s i answer e h =
    closed_open s (record s { claims = set s.claims i None }) i refl (λ j c. (c, λ same. settled_unclaimed (slice_get s.stages i) old e (ap (λ (k : ℕ). is_claimed (stage_at s k)) (sym same) ∙ c))) h
finished_open None s i answer e h =
    let closed : State = record s { claims = set s.claims i None } in
    let to = landing (form_at s.plan.stages i) i (source_outcome closed i) answer in
    closed_open s (landed closed i to) i (landed_claims to closed i) (landed_claimed to closed i e) h

-- ---- along a history

event_open : (s : State) (e : Event) → length s.claims ≡ length s.stages → AllOpen s → AllOpen ((answered s e).1)
event_open s (Completes who i v) len h = settled_open (outcome_at s i) s i (Gives v) refl h
event_open s (Fails who i code) len h = settled_open (outcome_at s i) s i (Fault (Thrown code) false) refl h
event_open s (FailsAs who i failure) len h = settled_open (outcome_at s i) s i (Fault (cause_of failure) false) refl h
event_open s (Cancels who i) len h = cancelled_open (outcome_at s i) s i refl h
event_open s (Claims who i) len h = claim_open (stage_at s i) s who i refl len h
event_open s (Finishes who i answer) len h =
    chosen_open (option_map_or (λ w. w == who) (claim_at s i) false) (finished_by (outcome_at s i) (record s { claims = set s.claims i None }) i answer) (NotYours, s)
    (finished_open (outcome_at s i) s i answer refl h) h
event_open s (Ticks who now) len h =
    let fired = firing 0 s (due_limits s now) in
    chosen_open (nat_lt now s.moment) (Past, s) (Fired fired.0, record fired.1 { moment = now; used = s.used + length (due_limits s now) }) h (firing_open (due_limits s now) 0 s h)
event_open s (Attaches who form of function) len h = attached_open s.plan.room s (attached_stage form of function) h

all_open : (s : State) (events : List Event) → length s.claims ≡ length s.stages → AllOpen s → AllOpen (state_after s events)
all_open s [] len h = h
all_open s (e ∷ events) len h =
    let grown = answered-grows s e in
    all_open ((answered s e).1) events (grown.all_claims ∙ ap (λ (n : ℕ). n + length grown.more) len ∙ sym grown.all_stages) (event_open s e len h)

pub claimed_open : (plan : Planned) (events : List Event) → AllOpen (state_after (start plan) events)
claimed_open plan events =
    all_open (start plan) events
    (length-replicate (length plan.stages) None ∙ sym (length-new_states [] plan.stages (replicate (length plan.stages) Pending) ∙ length-replicate (length plan.stages) Pending))
    (λ i c e. (let free = outside_leaves_unclaimed plan [] (All-nil _) i in let no : ⊥ = cc in no))
