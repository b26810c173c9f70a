-- An open claim stays open, whatever events of other callers come.
use Rattle.std.proofs.Common.{◌≡◌, ◌≢◌, ◌==◌, ℕ, zero, suc, ◌⊎◌, inl, inr, Bool, true, false, cond, eqb, Option, Some, None, List, [], ◌∷◌, length, set, sym, refl, ap, ◌∙◌, arith}
use Rattle.std.specs.Prelude.{slice_get, unwrap_or}
use Rattle.std.specs.Option.{option_map_or}
use Rattle.std.proofs.lemmas.Bool.Decides.{nat_tests}
use Rattle.cf_outcome.specs.declared.outcome.Outcome.TheVariants.{Value as Gives, Fault}
use Rattle.cf_outcome.specs.declared.outcome.Cause.TheVariants.{Thrown}
use Rattle.cf_forms.specs.declared.forms.Args.{Args}
use Rattle.cf_forms.specs.declared.forms.Answer.{Answer}
use Rattle.cf_forms.specs.Plans.{Planned, PlannedStage, attached_stage}
use Rattle.cf_model.specs.declared.stage.Stage.{Stage}
use Rattle.cf_model.specs.declared.stage.Stage.TheVariants.{Pending, Ready, Claimed, Linked, Settled}
use Rattle.cf_model.specs.declared.replies.Finished.TheVariants.{NotYours}
use Rattle.cf_model.specs.declared.events.Event.{Event}
use Rattle.cf_model.specs.declared.events.Event.TheVariants.{Complete as Completes, Fail as Fails, FailAs as FailsAs, Cancel as Cancels, Claim as Claims, Finish as Finishes, Tick as Ticks, Attach as Attaches}
use Rattle.cf_model.specs.States.{State, start, stage_at, claim_at, outcome_at}
use Rattle.cf_model.specs.Events.{answered, state_after, claimed_by, finished_by, attached_by, cause_of}
use Rattle.cf_model.specs.Calls.{who_of}
use Rattle.cf_model.specs.Claims.{is_claimable}
use Rattle.cf_model.proofs.Claimable.{state_after-not_claimable}
use Rattle.cf_model.proofs.Histories.{state_after-append}
use Rattle.cf_model.proofs.OpenClaims.{cancelled_claims, claim_before_close, claim_before_push, claim_before_set, finished_claims, none_open, pushed_claim, same_claim, settled_claims, ticked_claims}
use Rattle.cf_model.proofs.StateLemmas.{slice_get-set_other}
use Rattle.cf_event.specs.Events.{own}
use Rattle.cf_desk.specs.Laws.{ClaimsStayOpen}
use Rattle.cf_desk.specs.Log.{state_from}

-- ---- what has an open claim can't be claimed

abbrev AreTaken : State → Type 0
AreTaken s = (i c : ℕ) → claim_at s i ≡ Some c → is_claimable (stage_at s i) ≡ false

-- a claim that is open after an event was open before it, or its stage can't be claimed any more
abbrev CameFrom : State → State → Type 0
CameFrom s t = (i c : ℕ) → claim_at t i ≡ Some c → (claim_at s i ≡ Some c) ⊎ (is_claimable (stage_at t i) ≡ false)

no_new : (s t : State) → t.claims ≡ s.claims → CameFrom s t
no_new s t same i c e = inl (sym (same_claim i s.claims t.claims same) ∙ e)

claimed_there : (xs : List Stage) (i : ℕ) (args : Args) → unwrap_or (slice_get xs i) Pending ≡ Ready args → is_claimable (unwrap_or (slice_get (set xs i Claimed) i) Pending) ≡ false
claimed_there [] i args e = (let no : ⊥ = cc in absurd no)
claimed_there (x ∷ xs) zero args e = refl
claimed_there (x ∷ xs) (suc i) args e = claimed_there xs i args e

claim_from : (x : Stage) (s : State) (who j : ℕ) → stage_at s j ≡ x → CameFrom s ((claimed_by x s who j).1)
claim_from (Ready args) s who j at i c e = split (claim_before_set s.claims j i (Some who) c e)
  where
    split : ((i ≡ j) × (Some who ≡ Some c)) ⊎ (claim_at s i ≡ Some c) → (claim_at s i ≡ Some c) ⊎ (is_claimable (unwrap_or (slice_get (set s.stages j Claimed) i) Pending) ≡ false)
    split (inl h) = inr (ap (λ (k : ℕ). is_claimable (unwrap_or (slice_get (set s.stages j Claimed) k) Pending)) h.0 ∙ claimed_there s.stages j args at)
    split (inr h) = inl h
claim_from Pending s who j at i c e = inl e
claim_from Claimed s who j at i c e = inl e
claim_from (Linked k) s who j at i c e = inl e
claim_from (Settled o) s who j at i c e = inl e

finish_from : (b : Bool) (s : State) (j : ℕ) (answer : Answer) → CameFrom s ((cond b (finished_by (outcome_at s j) (record s { claims = set s.claims j None }) j answer) (NotYours, s)).1)
finish_from true s j answer i c e =
    let closed : State = record s { claims = set s.claims j None } in
    inl ((claim_before_close s.claims j i c (sym (same_claim i closed.claims _ (finished_claims (outcome_at s j) closed j answer)) ∙ e)).1)
finish_from false s j answer i c e = inl e

attach_from : (room : ℕ) (s : State) (new : PlannedStage) → CameFrom s ((attached_by room s new).1)
attach_from zero s new i c e = inl e
attach_from (suc room) s new i c e = inl (claim_before_push s.claims i c e)

came_from : (s : State) (e : Event) → CameFrom s ((answered s e).1)
came_from s (Completes who j v) = no_new s ((answered s (Completes who j v)).1) (settled_claims (outcome_at s j) s j (Gives v))
came_from s (Fails who j code) = no_new s ((answered s (Fails who j code)).1) (settled_claims (outcome_at s j) s j (Fault (Thrown code) false))
came_from s (FailsAs who j failure) = no_new s ((answered s (FailsAs who j failure)).1) (settled_claims (outcome_at s j) s j (Fault (cause_of failure) false))
came_from s (Cancels who j) = no_new s ((answered s (Cancels who j)).1) (cancelled_claims (outcome_at s j) s j)
came_from s (Claims who j) = claim_from (stage_at s j) s who j refl
came_from s (Finishes who j answer) = finish_from (option_map_or (λ w. w == who) (claim_at s j) false) s j answer
came_from s (Ticks who now) = no_new s ((answered s (Ticks who now)).1) (ticked_claims s who now)
came_from s (Attaches who form of function) = attach_from s.plan.room s (attached_stage form of function)

taken_still : (s : State) (e : Event) → AreTaken s → AreTaken ((answered s e).1)
taken_still s e h i c open_now = split (came_from s e i c open_now)
  where
    split : (claim_at s i ≡ Some c) ⊎ (is_claimable (stage_at ((answered s e).1) i) ≡ false) → is_claimable (stage_at ((answered s e).1) i) ≡ false
    split (inl was) = state_after-not_claimable s (e ∷ []) i (h i c was)
    split (inr lost) = lost

taken_along : (s : State) (events : List Event) → AreTaken s → AreTaken (state_after s events)
taken_along s [] h = h
taken_along s (e ∷ events) h = taken_along ((answered s e).1) events (taken_still s e h)

taken_from : (plan : Planned) (events : List Event) → AreTaken (state_from plan events)
taken_from plan events = taken_along (start plan) events (λ i c e. (let none = none_open (length plan.stages) i in let no : ⊥ = cc in absurd no))

-- ---- an event of another caller

abbrev StaysOpen : State → State → ℕ → ℕ → Type 0
StaysOpen s t i c = claim_at s i ≡ Some c → claim_at t i ≡ Some c

still : (s t : State) (i c : ℕ) → t.claims ≡ s.claims → StaysOpen s t i c
still s t i c same e = same_claim i s.claims t.claims same ∙ e

claim_stays : (x : Stage) (s : State) (who j i c : ℕ) → stage_at s j ≡ x → AreTaken s → StaysOpen s ((claimed_by x s who j).1) i c
claim_stays (Ready args) s who j i c at h e =
    let other : i ≢ j = λ same. (let taken = h i c e in let free = ap is_claimable (ap (stage_at s) same ∙ at) in let no : ⊥ = cc in no) in
    ap (λ (x : Option (Option ℕ)). unwrap_or x None) (slice_get-set_other s.claims j i (Some who) other) ∙ e
claim_stays Pending s who j i c at h e = e
claim_stays Claimed s who j i c at h e = e
claim_stays (Linked k) s who j i c at h e = e
claim_stays (Settled o) s who j i c at h e = e

other_caller : (c who : ℕ) → eqb who c ≡ false → (c == who) ≢ true
other_caller c who other same = grind (arith, nat_tests)

finish_stays : (b : Bool) (s : State) (who j i c : ℕ) (answer : Answer) → option_map_or (λ w. w == who) (claim_at s j) false ≡ b → eqb who c ≡ false
    → StaysOpen s ((cond b (finished_by (outcome_at s j) (record s { claims = set s.claims j None }) j answer) (NotYours, s)).1) i c
finish_stays true s who j i c answer mine different e =
    let closed : State = record s { claims = set s.claims j None } in
    let other : i ≢ j = λ same. other_caller c who different (sym (ap (λ (x : Option ℕ). option_map_or (λ w. w == who) x false) (sym (ap (claim_at s) same) ∙ e)) ∙ mine) in
    same_claim i closed.claims _ (finished_claims (outcome_at s j) closed j answer)
    ∙ ap (λ (x : Option (Option ℕ)). unwrap_or x None) (slice_get-set_other s.claims j i None other) ∙ e
finish_stays false s who j i c answer mine different e = e

attach_stays : (room : ℕ) (s : State) (new : PlannedStage) (i c : ℕ) → StaysOpen s ((attached_by room s new).1) i c
attach_stays zero s new i c e = e
attach_stays (suc room) s new i c e = pushed_claim s.claims i c e

stays : (s : State) (e : Event) (i c : ℕ) → AreTaken s → eqb (who_of e) c ≡ false → StaysOpen s ((answered s e).1) i c
stays s (Completes who j v) i c h other = still s ((answered s (Completes who j v)).1) i c (settled_claims (outcome_at s j) s j (Gives v))
stays s (Fails who j code) i c h other = still s ((answered s (Fails who j code)).1) i c (settled_claims (outcome_at s j) s j (Fault (Thrown code) false))
stays s (FailsAs who j failure) i c h other = still s ((answered s (FailsAs who j failure)).1) i c (settled_claims (outcome_at s j) s j (Fault (cause_of failure) false))
stays s (Cancels who j) i c h other = still s ((answered s (Cancels who j)).1) i c (cancelled_claims (outcome_at s j) s j)
stays s (Claims who j) i c h other = claim_stays (stage_at s j) s who j i c refl h
stays s (Finishes who j answer) i c h other = finish_stays (option_map_or (λ w. w == who) (claim_at s j) false) s who j i c answer refl other
stays s (Ticks who now) i c h other = still s ((answered s (Ticks who now)).1) i c (ticked_claims s who now)
stays s (Attaches who form of function) i c h other = attach_stays s.plan.room s (attached_stage form of function) i c

not_mine : (b : Bool) (x : Event) (rest : List Event) → cond b (x ∷ rest) rest ≡ [] → (b ≡ false) × (rest ≡ [])
not_mine true x rest e = (let no : ⊥ = cc in absurd no)
not_mine false x rest e = (refl, e)

stays_along : (events : List Event) (s : State) (i c : ℕ) → AreTaken s → own c events ≡ [] → StaysOpen s (state_after s events) i c
stays_along [] s i c h none e = e
stays_along (x ∷ events) s i c h none e =
    let apart = not_mine (eqb (who_of x) c) x (own c events) none in
    stays_along events ((answered s x).1) i c (taken_still s x h) apart.1 (stays s x i c h apart.0 e)

pub claims_stay_open : ClaimsStayOpen
claims_stay_open plan caller i before now caught e =
    ap (λ (events : List Event). claim_at (state_from plan events) i) caught.joined
    ∙ ap (λ (s : State). claim_at s i) (state_after-append (start plan) before caught.others)
    ∙ stays_along caught.others (state_from plan before) i caller (taken_from plan before) caught.none e
