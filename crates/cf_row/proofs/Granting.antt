-- The claim that goes with a finish is granted.
use Rattle.std.proofs.Common.{◌≡◌, ◌≢◌, ℕ, zero, suc, ◌<◌, ◌⊎◌, inl, inr, Bool, true, false, cond, List, [], ◌∷◌, length, map, set, take, refl, ap, sym, ◌∙◌, subst, arith}
use Rattle.std.specs.Prelude.{Option, Some, None, ◌==◌, option_and_then, slice_get, unwrap_or}
use Rattle.std.specs.Option.{option_map, option_map_or}
use Rattle.std.proofs.lemmas.Bool.{eq-eqb}
use Rattle.cf_outcome.specs.declared.outcome.Outcome.{Outcome}
use Rattle.cf_outcome.specs.Outcomes.{wrap}
use Rattle.cf_forms.specs.declared.forms.Args.{Args}
use Rattle.cf_forms.specs.declared.forms.Answer.{Answer}
use Rattle.cf_forms.specs.declared.forms.Due.{Due}
use Rattle.cf_forms.specs.declared.forms.Due.TheVariants.{Waits, Settles, Needs}
use Rattle.cf_forms.specs.declared.forms.Form.{Form}
use Rattle.cf_forms.specs.declared.forms.Form.TheVariants.{Source, Supply, RunAsync, Apply, Accept, ThenRun, Combine, AcceptBoth, RunBoth, ApplyEither, AcceptEither, RunEither, Compose, Handle, WhenComplete, Exceptionally, AllOf, AnyOf, ExceptionallyCompose}
use Rattle.cf_forms.specs.declared.forms.Landing.{Landing}
use Rattle.cf_forms.specs.declared.forms.Landing.TheVariants.{Settles as Lands, Links}
use Rattle.cf_forms.specs.Forms.{due_one, follows, is_decided_by_first, landing}
use Rattle.cf_forms.specs.Plans.{Planned, PlannedStage, form_at, sources_at}
use Rattle.cf_model.specs.declared.stage.Stage.{Stage}
use Rattle.cf_model.specs.declared.stage.Stage.TheVariants.{Pending, Ready, Claimed as IsClaimed, Linked, Settled}
use Rattle.cf_model.specs.declared.events.Event.{Event}
use Rattle.cf_model.specs.declared.events.Event.TheVariants.{Complete as Completes, Fail as Fails, FailAs as FailsAs, Cancel as Cancels, Claim as Claims, Finish as FinishesAs, Tick as Ticks, Attach as Attaches}
use Rattle.cf_model.specs.declared.events.Reply.TheVariants.{Claim as ToldClaim}
use Rattle.cf_model.specs.declared.replies.Claimed.{Claimed}
use Rattle.cf_model.specs.declared.replies.Claimed.TheVariants.{Granted}
use Rattle.cf_model.specs.declared.replies.Finished.TheVariants.{NotYours}
use Rattle.cf_model.specs.Claims.{is_claimable}
use Rattle.cf_model.specs.States.{State, after, claim_at, due_state, is_ready, new_states, next_of, outcome_at, outcome_in, outcome_of, stage_at, start}
use Rattle.cf_model.specs.Events.{answered, claimed_by, claiming, finished_by, landed, linked_to, source_outcome, state_after}
use Rattle.cf_model.proofs.Claimable.{not_claimable-not_ready, ready-granted, state_after-not_claimable}
use Rattle.cf_model.proofs.Closed.{reached_length}
use Rattle.cf_model.proofs.Histories.{claiming-not_claimable, is_pending}
use Rattle.cf_model.proofs.OpenClaims.{none_open}
use Rattle.cf_model.proofs.StateLemmas.{after-unsettled, new_states-at, outcome_in-take, slice_get-set_other}
use Rattle.cf_ledger.specs.declared.step.Held.{Held}
use Rattle.cf_row.specs.Rows.{Replica, history_of, state_of}
use Rattle.cf_row.specs.Grants.{granted_by}
use Rattle.cf_row.specs.Next.{CanClaim, Finishes, GoesOn, IsGrant, NextClaimsAreGranted, is_needed, landed_with}
use Rattle.cf_row.proofs.Granted.{step}

-- ---- the claim of a ready stage is granted

grant_of : (c : Claimed) (args : Args) → c ≡ Granted args → IsGrant (ToldClaim c)
grant_of c args is = subst (λ (x : Claimed). IsGrant (ToldClaim x)) (sym is) tt

pub ready_grant : (s : State) (who i : ℕ) → is_ready (stage_at s i) ≡ true → IsGrant ((answered s (Claims who i)).0)
ready_grant s who i ready = (let g = ready-granted s who i ready in grant_of ((claiming s who i).0) g.0 g.1)

-- ---- a stage whose claim is open isn't ready

ready_then : (x : Stage) (s : State) (who j i : ℕ) → granted_by (Claims who j) (ToldClaim ((claimed_by x s who j).0)) ≡ Some i → (j ≡ i) × (is_pending x ≡ false)
ready_then (Ready args) s who j i is = ((let same : j ≡ i = cc in same), refl)
ready_then (Settled o) s who j i is = (let no : ⊥ = cc in absurd no)
ready_then IsClaimed s who j i is = (let no : ⊥ = cc in absurd no)
ready_then (Linked k) s who j i is = (let no : ⊥ = cc in absurd no)
ready_then Pending s who j i is = (let no : ⊥ = cc in absurd no)

-- a claim that is granted leaves its stage so
granted_leaves : (s : State) (e : Event) (i : ℕ) → granted_by e ((answered s e).0) ≡ Some i → is_claimable (stage_at ((answered s e).1) i) ≡ false
granted_leaves s (Claims who j) i is =
    let r = ready_then (stage_at s j) s who j i is in
    subst (λ (k : ℕ). is_claimable (stage_at ((answered s (Claims who j)).1) k) ≡ false) r.0 (claiming-not_claimable s who j r.1)
granted_leaves s (Completes who j v) i is = (let no : ⊥ = cc in absurd no)
granted_leaves s (Fails who j code) i is = (let no : ⊥ = cc in absurd no)
granted_leaves s (FailsAs who j failure) i is = (let no : ⊥ = cc in absurd no)
granted_leaves s (Cancels who j) i is = (let no : ⊥ = cc in absurd no)
granted_leaves s (FinishesAs who j answer) i is = (let no : ⊥ = cc in absurd no)
granted_leaves s (Ticks who now) i is = (let no : ⊥ = cc in absurd no)
granted_leaves s (Attaches who form of function) i is = (let no : ⊥ = cc in absurd no)

abbrev OpenIsTaken : State → ℕ → Type 0
OpenIsTaken s i = (w : ℕ) → claim_at s i ≡ Some w → is_claimable (stage_at s i) ≡ false

taken_next : (s : State) (e : Event) (i : ℕ) → OpenIsTaken s i → OpenIsTaken ((answered s e).1) i
taken_next s e i h w held = by_step (step s e i w held)
  where
    by_step : (granted_by e ((answered s e).0) ≡ Some i) ⊎ (claim_at s i ≡ Some w) → is_claimable (stage_at ((answered s e).1) i) ≡ false
    by_step (inl granted) = granted_leaves s e i granted
    by_step (inr before) = state_after-not_claimable s (e ∷ []) i (h w before)

taken_after : (s : State) (es : List Event) (i : ℕ) → OpenIsTaken s i → OpenIsTaken (state_after s es) i
taken_after s [] i h = h
taken_after s (e ∷ es) i h = taken_after ((answered s e).1) es i (taken_next s e i h)

open_not_ready : (plan : Planned) (es : List Event) (i w : ℕ) → claim_at (state_after (start plan) es) i ≡ Some w → is_ready (stage_at (state_after (start plan) es) i) ≡ false
open_not_ready plan es i w held =
    not_claimable-not_ready (stage_at (state_after (start plan) es) i)
    (taken_after (start plan) es i (λ v none. let no : ⊥ = (let is = none_open (length plan.stages) i in cc) in absurd no) w held)

-- ---- a stage that is ready stays so, whatever another one is settled with

at_stage : (xs : List Stage) (i : ℕ) → i < length xs → slice_get xs i ≡ Some (unwrap_or (slice_get xs i) Pending)
at_stage [] i l = absurd (omega arith)
at_stage (x ∷ xs) zero l = refl
at_stage (x ∷ xs) (suc i) l = at_stage xs i (omega arith)

ready_there : (xs : List Stage) (i : ℕ) → is_ready (unwrap_or (slice_get xs i) Pending) ≡ true → i < length xs
ready_there [] i ready = cc
ready_there (x ∷ xs) zero ready = omega arith
ready_there (x ∷ xs) (suc i) ready = (let l = ready_there xs i ready in omega (arith, l))

planned_at : (plan : List PlannedStage) (i : ℕ) → i < length plan → (p : PlannedStage) × (slice_get plan i ≡ Some p)
planned_at [] i l = absurd (omega arith)
planned_at (p ∷ plan) zero l = (p, refl)
planned_at (p ∷ plan) (suc i) l = planned_at plan i (omega arith)

-- the new state of a stage that isn't the one that is settled
other_new : (plan : List PlannedStage) (xs : List Stage) (d i : ℕ) (o : Outcome) (p : PlannedStage) → slice_get plan i ≡ Some p → i < length xs → i ≢ d →
    slice_get (new_states [] plan (set xs d (Settled o))) i ≡ Some (next_of (take i (new_states [] plan (set xs d (Settled o)))) p.form p.sources (unwrap_or (slice_get xs i) Pending))
other_new plan xs d i o p at l ne =
    new_states-at [] plan (set xs d (Settled o)) i p (unwrap_or (slice_get xs i) Pending) at (slice_get-set_other xs d i (Settled o) ne ∙ at_stage xs i l)

ready_keeps : (below : List Stage) (form : Form) (sources : List ℕ) (x : Stage) → is_ready x ≡ true → is_ready (next_of below form sources x) ≡ true
ready_keeps below form sources (Ready args) e = refl
ready_keeps below form sources Pending e = cc
ready_keeps below form sources IsClaimed e = cc
ready_keeps below form sources (Linked j) e = cc
ready_keeps below form sources (Settled o) e = cc

ready_after : (s : State) (d i : ℕ) (o : Outcome) → length s.stages ≡ length s.plan.stages → outcome_at s d ≡ None → i ≢ d → is_ready (stage_at s i) ≡ true → is_ready (stage_at (after s d o) i) ≡ true
ready_after s d i o all none ne ready =
    let l = ready_there s.stages i ready in
    let p = planned_at s.plan.stages i (omega (arith, l, all)) in
    let new = new_states [] s.plan.stages (set s.stages d (Settled o)) in
    ap (λ (t : State). is_ready (stage_at t i)) (after-unsettled s d o none)
    ∙ ap (λ (x : Option Stage). is_ready (unwrap_or x Pending)) (other_new s.plan.stages s.stages d i o p.0 p.1 l ne)
    ∙ ready_keeps (take i new) p.0.form p.0.sources (stage_at s i) ready

ready_linked : (x : Option Outcome) (s : State) (d i j : ℕ) → length s.stages ≡ length s.plan.stages → outcome_at s d ≡ None → i ≢ d → is_ready (stage_at s i) ≡ true → is_ready (stage_at (linked_to x s d j) i) ≡ true
ready_linked (Some o) s d i j all none ne ready = ready_after s d i (wrap o) all none ne ready
ready_linked None s d i j all none ne ready = ap (λ (x : Option Stage). is_ready (unwrap_or x Pending)) (slice_get-set_other s.stages d i (Linked j) ne) ∙ ready

ready_landed : (to : Landing) (s : State) (d i : ℕ) → length s.stages ≡ length s.plan.stages → outcome_at s d ≡ None → i ≢ d → is_ready (stage_at s i) ≡ true → is_ready (stage_at (landed s d to) i) ≡ true
ready_landed (Lands o) s d i all none ne ready = ready_after s d i o all none ne ready
ready_landed (Links j) s d i all none ne ready = ready_linked (outcome_at s j) s d i j all none ne ready

ready_finished : (x : Option Outcome) (s : State) (d i : ℕ) (answer : Answer) → outcome_at s d ≡ x → length s.stages ≡ length s.plan.stages → i ≢ d → is_ready (stage_at s i) ≡ true →
    is_ready (stage_at ((finished_by x s d answer).1) i) ≡ true
ready_finished (Some old) s d i answer is all ne ready = ready
ready_finished None s d i answer is all ne ready = ready_landed (landing (form_at s.plan.stages d) d (source_outcome s d) answer) s d i all is ne ready

-- ---- a stage that waits for it alone is ready then

follows_one : (form : Form) (o : Outcome) → is_decided_by_first form ≡ true → follows form (Some o ∷ []) ≡ due_one form o
follows_one Source o e = cc
follows_one Supply o e = cc
follows_one RunAsync o e = cc
follows_one Combine o e = cc
follows_one AcceptBoth o e = cc
follows_one RunBoth o e = cc
follows_one AllOf o e = cc
follows_one Apply o e = refl
follows_one Accept o e = refl
follows_one ThenRun o e = refl
follows_one ApplyEither o e = refl
follows_one AcceptEither o e = refl
follows_one RunEither o e = refl
follows_one Compose o e = refl
follows_one Handle o e = refl
follows_one WhenComplete o e = refl
follows_one Exceptionally o e = refl
follows_one ExceptionallyCompose o e = refl
follows_one AnyOf o e = refl

needed_ready : (due : Due) → is_needed due ≡ true → is_ready (due_state due) ≡ true
needed_ready Waits e = cc
needed_ready (Settles o) e = cc
needed_ready (Needs args) e = refl

set_at : (xs : List Stage) (d : ℕ) (y : Stage) → d < length xs → slice_get (set xs d y) d ≡ Some y
set_at [] d y l = absurd (omega arith)
set_at (x ∷ xs) zero y l = refl
set_at (x ∷ xs) (suc d) y l = set_at xs d y (omega arith)

settled_new : (plan : List PlannedStage) (xs : List Stage) (d : ℕ) (o : Outcome) (p : PlannedStage) → slice_get plan d ≡ Some p → d < length xs → outcome_in (new_states [] plan (set xs d (Settled o))) d ≡ Some o
settled_new plan xs d o p at l = ap (option_and_then outcome_of) (new_states-at [] plan (set xs d (Settled o)) d p (Settled o) at (set_at xs d (Settled o) l))

sources_there : (plan : List PlannedStage) (i d : ℕ) → sources_at plan i ≡ d ∷ [] → i < length plan
sources_there [] i d is = cc
sources_there (p ∷ plan) zero d is = omega arith
sources_there (p ∷ plan) (suc i) d is = (let l = sources_there plan i d is in omega (arith, l))

next_after : (s : State) (d i : ℕ) (o : Outcome) → length s.stages ≡ length s.plan.stages → outcome_at s d ≡ None → GoesOn s d o i → is_ready (stage_at (after s d o) i) ≡ true
next_after s d i o all none g =
    let plan = s.plan.stages in
    let f = g.follows in
    let lower = f.lower in
    let there = sources_there plan i d f.only in
    let p = planned_at plan i there in
    let q = planned_at plan d (omega (arith, there, lower)) in
    let new = new_states [] plan (set s.stages d (Settled o)) in
    let is_form : form_at plan i ≡ p.0.form = ap (λ (x : Option PlannedStage). option_map_or (λ (q : PlannedStage). q.form) x Source) p.1 in
    let is_sources : sources_at plan i ≡ p.0.sources = ap (λ (x : Option PlannedStage). option_map_or (λ (q : PlannedStage). q.sources) x []) p.1 in
    let only : p.0.sources ≡ d ∷ [] = sym is_sources ∙ f.only in
    let source : outcome_in (take i new) d ≡ Some o = outcome_in-take new i d lower ∙ settled_new plan s.stages d o q.0 q.1 (omega (arith, there, lower, all)) in
    let due : follows p.0.form (map (outcome_in (take i new)) p.0.sources) ≡ due_one (form_at plan i) o =
    ap (λ (js : List ℕ). follows p.0.form (map (outcome_in (take i new)) js)) only
    ∙ ap (λ (x : Option Outcome). follows p.0.form (x ∷ [])) source
    ∙ ap (λ (form : Form). follows form (Some o ∷ [])) (sym is_form)
    ∙ follows_one (form_at plan i) o f.first in
    let ne : i ≢ d = (λ same. absurd (omega (arith, lower, same))) in
    ap (λ (t : State). is_ready (stage_at t i)) (after-unsettled s d o none)
    ∙ ap (λ (x : Option Stage). is_ready (unwrap_or x Pending)) (other_new plan s.stages d i o p.0 p.1 (omega (arith, there, all)) ne)
    ∙ ap (λ (x : Stage). is_ready (next_of (take i new) p.0.form p.0.sources x)) g.pending
    ∙ ap (λ (x : Due). is_ready (due_state x)) due
    ∙ needed_ready (due_one (form_at plan i) o) f.needed

lands_linked : (x : Option Outcome) (s : State) (d j : ℕ) (o : Outcome) → option_map wrap x ≡ Some o → linked_to x s d j ≡ after s d o
lands_linked (Some w) s d j o is = (let same : wrap w ≡ o = cc in ap (after s d) same)
lands_linked None s d j o is = cc

lands_as : (to : Landing) (s : State) (d : ℕ) (o : Outcome) → landed_with s to ≡ Some o → landed s d to ≡ after s d o
lands_as (Lands w) s d o is = (let same : w ≡ o = cc in ap (after s d) same)
lands_as (Links j) s d o is = lands_linked (outcome_at s j) s d j o is

next_finished : (x : Option Outcome) (s : State) (d i : ℕ) (o : Outcome) (answer : Answer) → outcome_at s d ≡ x → x ≡ None → length s.stages ≡ length s.plan.stages →
    landed_with s (landing (form_at s.plan.stages d) d (source_outcome s d) answer) ≡ Some o → GoesOn s d o i → is_ready (stage_at ((finished_by x s d answer).1) i) ≡ true
next_finished (Some old) s d i o answer is none all lands g = (let no : ⊥ = cc in absurd no)
next_finished None s d i o answer is none all lands g =
    ap (λ (t : State). is_ready (stage_at t i)) (lands_as (landing (form_at s.plan.stages d) d (source_outcome s d) answer) s d o lands) ∙ next_after s d i o all is g

-- ---- the law

-- the state that a finish of the claimant leaves
its_finish : (x : Option ℕ) (who : ℕ) → x ≡ Some who → option_map_or (λ w. w == who) x false ≡ true
its_finish None who is = cc
its_finish (Some w) who is = (let same : w ≡ who = cc in eq-eqb w who same)

abbrev closed : State → ℕ → State
closed s d = record s { claims = set s.claims d None }

finish_leaves : (s : State) (who d i : ℕ) (answer : Answer) → claim_at s d ≡ Some who → is_ready (stage_at ((finished_by (outcome_at s d) (closed s d) d answer).1) i) ≡ true →
    is_ready (stage_at ((answered s (FinishesAs who d answer)).1) i) ≡ true
finish_leaves s who d i answer claimed ready =
    ap (λ (b : Bool). is_ready (stage_at ((cond b (finished_by (outcome_at s d) (closed s d) d answer) (NotYours, s)).1) i)) (its_finish (claim_at s d) who claimed) ∙ ready

behind : (r : Replica) (held : Held) (word i : ℕ) → (f : Finishes r held word) → CanClaim r (Some held) i → IsGrant ((answered ((answered (state_of r) (FinishesAs f.who held.stage held.answer)).1) (Claims f.who i)).0)
behind r held word i f (inl ready) =
    let s = state_of r in
    let d = held.stage in
    let not = open_not_ready r.plan (history_of r.seen) d f.who f.claimed in
    let ne : i ≢ d = (λ same. let no : ⊥ = (let is = ap (λ (k : ℕ). is_ready (stage_at s k)) same in cc) in no) in
    ready_grant ((answered s (FinishesAs f.who d held.answer)).1) f.who i
    (finish_leaves s f.who d i held.answer f.claimed (ready_finished (outcome_at s d) (closed s d) d i held.answer refl (reached_length r.plan (history_of r.seen)) ne ready))
behind r held word i f (inr m) =
    let s = state_of r in
    let d = held.stage in
    let g : GoesOn (closed s d) d m.outcome i = record { pending = m.next.pending; follows = m.next.follows } in
    ready_grant ((answered s (FinishesAs f.who d held.answer)).1) f.who i
    (finish_leaves s f.who d i held.answer f.claimed
    (next_finished (outcome_at s d) (closed s d) d i m.outcome held.answer refl m.has.unsettled (reached_length r.plan (history_of r.seen)) m.settles g))

alone : (r : Replica) (who i : ℕ) → CanClaim r None i → IsGrant ((answered (state_of r) (Claims who i)).0)
alone r who i (inl ready) = ready_grant (state_of r) who i ready
alone r who i (inr made) = absurd made

pub next_granted : NextClaimsAreGranted
next_granted = record { alone = alone; behind = behind }
