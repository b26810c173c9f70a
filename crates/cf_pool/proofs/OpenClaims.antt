-- Which claims are open along a history, and that work leaves none of its own open.
use Rattle.std.proofs.Common.{◌≡◌, ◌≢◌, ℕ, zero, suc, ◌<◌, ◌≤◌, ◌==◌, ◌⊎◌, inl, inr, Bool, true, false, cond, eqb, eq-eqb, Option, Some, None, List, [], ◌∷◌, ◌++◌, length, set, sym, refl, ap, ◌∙◌, subst, arith, map}
use Rattle.std.specs.Prelude.{slice_get, unwrap_or}
use Rattle.std.specs.Option.{option_map_or}
use Rattle.std.specs.List.{All, AllZip, Contains}
use Rattle.std.proofs.lemmas.Bool.{cases_lt, eqb-true}
use Rattle.std.proofs.lemmas.Bool.Decides.{nat_tests}
use Rattle.std.proofs.lemmas.List.Elements.{All-cons, All-nil, All-weaker, Contains-append_right}
use Rattle.cf_outcome.specs.declared.outcome.Outcome.TheVariants.{Value as Gives, Fault}
use Rattle.cf_outcome.specs.declared.outcome.Cause.TheVariants.{Thrown}
use Rattle.cf_forms.specs.declared.forms.Args.{Args}
use Rattle.cf_forms.specs.declared.forms.Answer.{Answer}
use Rattle.cf_forms.specs.Plans.{Planned, PlannedStage, attached_stage}
use Rattle.cf_pool.specs.Answering.{Answers}
use Rattle.cf_model.specs.declared.stage.Stage.{Stage}
use Rattle.cf_model.specs.declared.stage.Stage.TheVariants.{Pending, Ready, Claimed, Linked, Settled}
use Rattle.cf_model.specs.declared.replies.Claimed.TheVariants.{Granted, Settled as IsSettled, Taken, NotReady}
use Rattle.cf_model.specs.declared.replies.Finished.TheVariants.{NotYours}
use Rattle.cf_model.specs.declared.events.Event.{Event}
use Rattle.cf_model.specs.declared.events.Event.TheVariants.{Complete as Completes, Fail as Fails, FailAs as FailsAs, Cancel as Cancels, Claim as Claims, Finish as Finishes, Tick as Ticks, Attach as Attaches}
use Rattle.cf_model.specs.declared.events.Reply.{Reply}
use Rattle.cf_model.specs.declared.events.Reply.TheVariants.{Flag as ToldFlag, Claim as ToldClaim, Finish as ToldFinish, Tick as ToldTick, Attach as ToldAttach}
use Rattle.cf_model.specs.States.{State, start, stage_at, claim_at, outcome_at}
use Rattle.cf_model.specs.Events.{answered, state_after, claimed_by, finished_by, attached_by, cause_of}
use Rattle.cf_model.specs.Calls.{who_of}
use Rattle.cf_model.specs.declared.calls.Call.TheVariants.{Claim, Finish}
use Rattle.cf_model.proofs.OpenClaims.{cancelled_claims, claim_before_close, claim_before_push, claim_before_set, finished_claims, none_open, settled_claims, ticked_claims}
use Rattle.cf_desk.specs.declared.calls.Rec.{Rec}
use Rattle.cf_desk.specs.declared.calls.Rec.TheVariants.{Did, Saw}
use Rattle.cf_desk.specs.Keepings.{IsKeptFit, pass_did}
use Rattle.cf_desk.specs.Log.{state_from}
use Rattle.cf_desk.specs.Records.{Fits}
use Rattle.cf_desk.specs.Rule.{count_in}
use Rattle.cf_desk.specs.Views.{Pass, knowns, state_of}
use Rattle.cf_pool.specs.Claims.{WasOpen, WereOpen, open_after, open_by}
use Rattle.cf_pool.specs.Records.{recorded}
use Rattle.cf_pool.specs.Works.{AreWork, IsNext, Owed, WorksOut, owed_after, owed_by}
use Rattle.cf_pool.proofs.Racing.Joining.{absent_records, each_pass}
use Rattle.cf_pool.proofs.Racing.Owing.{rec_of}
use Rattle.cf_pool.proofs.Racing.Recorded.{fits_recorded, only_dids}
use Rattle.cf_pool.proofs.Working.{by_record}

-- ---- which claims are open in a state

-- the caller of each open claim holds it
abbrev AllHeld : (ℕ → ℕ → Bool) → State → Type 0
AllHeld held s = (i who : ℕ) → claim_at s i ≡ Some who → held who i ≡ true

-- what is held after a record of this caller
abbrev held_with : (ℕ → ℕ → Bool) → ℕ → Rec → ℕ → ℕ → Bool
held_with held who r c i = cond (eqb who c) (open_by i (held c i) r) (held c i)

same_either : {A : Type 0} (b : Bool) (x y z : A) → x ≡ z → y ≡ z → cond b x y ≡ z
same_either true x y z e f = e
same_either false x y z e f = f

-- an event that opens no claim, with a record that opens and closes none
held_less : (held : ℕ → ℕ → Bool) (s t : State) (who : ℕ) (r : Rec) → ((i c : ℕ) → claim_at t i ≡ Some c → claim_at s i ≡ Some c) → ((i : ℕ) (was : Bool) → open_by i was r ≡ was) → AllHeld held s → AllHeld (held_with held who r) t
held_less held s t who r before leaves h i c e =
    let old = h i c (before i c e) in
    same_either (eqb who c) (open_by i (held c i) r) (held c i) true (leaves i (held c i) ∙ old) old

-- one that leaves the claims
held_still : (held : ℕ → ℕ → Bool) (s t : State) (who : ℕ) (r : Rec) → t.claims ≡ s.claims → ((i : ℕ) (was : Bool) → open_by i was r ≡ was) → AllHeld held s → AllHeld (held_with held who r) t
held_still held s t who r same = held_less held s t who r (λ i c e. ap (λ (l : List (Option ℕ)). unwrap_or (slice_get l i) None) (sym same) ∙ e)

attached_none : (room : ℕ) (s : State) (new : PlannedStage) (i c : ℕ) → claim_at ((attached_by room s new).1) i ≡ Some c → claim_at s i ≡ Some c
attached_none zero s new i c e = e
attached_none (suc room) s new i c e = claim_before_push s.claims i c e

-- ---- a claim

same_number : (m n : ℕ) → m ≡ n → (m == n) ≡ true
same_number m n e = grind (arith, nat_tests)

other_number : (m n : ℕ) → m ≢ n → (m == n) ≡ false
other_number m n ne = grind (arith, nat_tests)

granted_held : (held : ℕ → ℕ → Bool) (n : ℕ) (s : State) (who j : ℕ) (args : Args) → AllHeld held s → AllHeld (held_with held who (Did n (Claim j) (ToldClaim (Granted args)))) ((claimed_by (Ready args) s who j).1)
granted_held held n s who j args h i c e = split (claim_before_set s.claims j i (Some who) c e)
  where
    split : ((i ≡ j) × (Some who ≡ Some c)) ⊎ (unwrap_or (slice_get s.claims i) None ≡ Some c) → cond (eqb who c) (cond (i == j) true (held c i)) (held c i) ≡ true
    split (inl f) =
        let mine : who ≡ c = (let g = f.1 in cc) in
        ap (λ (b : Bool). cond b (cond (i == j) true (held c i)) (held c i)) (eq-eqb who c mine) ∙ ap (λ (b : Bool). cond b true (held c i)) (same_number i j f.0)
    split (inr f) = let old = h i c f in same_either (eqb who c) (cond (i == j) true (held c i)) (held c i) true (same_either (i == j) true (held c i) true refl old) old

claim_held : (x : Stage) (held : ℕ → ℕ → Bool) (n : ℕ) (s : State) (who j : ℕ) → AllHeld held s → AllHeld (held_with held who (Did n (Claim j) (ToldClaim ((claimed_by x s who j).0)))) ((claimed_by x s who j).1)
claim_held (Ready args) held n s who j h = granted_held held n s who j args h
claim_held Pending held n s who j h = held_still held s s who (Did n (Claim j) (ToldClaim NotReady)) refl (λ i was. refl) h
claim_held Claimed held n s who j h = held_still held s s who (Did n (Claim j) (ToldClaim Taken)) refl (λ i was. refl) h
claim_held (Linked k) held n s who j h = held_still held s s who (Did n (Claim j) (ToldClaim Taken)) refl (λ i was. refl) h
claim_held (Settled o) held n s who j h = held_still held s s who (Did n (Claim j) (ToldClaim IsSettled)) refl (λ i was. refl) h

-- ---- a finish

finish_held : (b : Bool) (held : ℕ → ℕ → Bool) (n : ℕ) (s : State) (who j : ℕ) (answer : Answer) (reply : Reply) → option_map_or (λ w. w == who) (claim_at s j) false ≡ b → AllHeld held s
    → AllHeld (held_with held who (Did n (Finish j answer) reply)) ((cond b (finished_by (outcome_at s j) (record s { claims = set s.claims j None }) j answer) (NotYours, s)).1)
finish_held true held n s who j answer reply mine h i c e =
    let closed : State = record s { claims = set s.claims j None } in
    let was = claim_before_close s.claims j i c (ap (λ (l : List (Option ℕ)). unwrap_or (slice_get l i) None) (sym (finished_claims (outcome_at s j) closed j answer)) ∙ e) in
    let old = h i c was.1 in
    same_either (eqb who c) (cond (i == j) false (held c i)) (held c i) true (ap (λ (b : Bool). cond b false (held c i)) (other_number i j was.0) ∙ old) old
finish_held false held n s who j answer reply missed h i c e = split (eqb who c) refl
  where
    old : held c i ≡ true
    old = h i c e

    split : (b : Bool) → eqb who c ≡ b → cond b (cond (i == j) false (held c i)) (held c i) ≡ true
    split false t = old
    split true t = ap (λ (b : Bool). cond b false (held c i)) (other_number i j (λ here.
        let found : option_map_or (λ w. w == who) (claim_at s j) false ≡ true = ap (λ (x : Option ℕ). option_map_or (λ w. w == who) x false) (ap (claim_at s) (sym here) ∙ e) ∙ same_number c who (sym (eqb-true who c t)) in
        let wrong : true ≡ false = sym found ∙ missed in
        let nothing : ⊥ = cc in nothing)) ∙ old

-- ---- along the history

event_held : (held : ℕ → ℕ → Bool) (n : ℕ) (s : State) (e : Event) → AllHeld held s → AllHeld (held_with held (who_of e) (rec_of n e ((answered s e).0))) ((answered s e).1)
event_held held n s (Completes who i v) h = held_still held s ((answered s (Completes who i v)).1) who (rec_of n (Completes who i v) ((answered s (Completes who i v)).0)) (settled_claims (outcome_at s i) s i (Gives v)) (λ j was. refl) h
event_held held n s (Fails who i code) h = held_still held s ((answered s (Fails who i code)).1) who (rec_of n (Fails who i code) ((answered s (Fails who i code)).0)) (settled_claims (outcome_at s i) s i (Fault (Thrown code) false)) (λ j was. refl) h
event_held held n s (FailsAs who i failure) h = held_still held s ((answered s (FailsAs who i failure)).1) who (rec_of n (FailsAs who i failure) ((answered s (FailsAs who i failure)).0)) (settled_claims (outcome_at s i) s i (Fault (cause_of failure) false)) (λ j was. refl) h
event_held held n s (Cancels who i) h = held_still held s ((answered s (Cancels who i)).1) who (rec_of n (Cancels who i) ((answered s (Cancels who i)).0)) (cancelled_claims (outcome_at s i) s i) (λ j was. refl) h
event_held held n s (Claims who i) h = claim_held (stage_at s i) held (suc n) s who i h
event_held held n s (Finishes who i answer) h = finish_held (option_map_or (λ w. w == who) (claim_at s i) false) held (suc n) s who i answer ((answered s (Finishes who i answer)).0) refl h
event_held held n s (Ticks who now) h =
    held_still held s ((answered s (Ticks who now)).1) who (rec_of n (Ticks who now) ((answered s (Ticks who now)).0)) (ticked_claims s who now) (λ j was. refl) h
event_held held n s (Attaches who form of function) h =
    held_less held s ((answered s (Attaches who form of function)).1) who (rec_of n (Attaches who form of function) ((answered s (Attaches who form of function)).0)) (attached_none s.plan.room s (attached_stage form of function)) (λ j was. refl) h

open_here : (i : ℕ) (b was : Bool) (r : Rec) (rs : List Rec) → open_after i (cond b (open_by i was r) was) rs ≡ open_after i was (cond b (r ∷ rs) rs)
open_here i true was r rs = refl
open_here i false was r rs = refl

held_along : (held : ℕ → ℕ → Bool) (n : ℕ) (s : State) (events : List Event) → AllHeld held s → (i who : ℕ) → claim_at (state_after s events) i ≡ Some who → open_after i (held who i) (recorded who n s events) ≡ true
held_along held n s [] h i who e = h i who e
held_along held n s (x ∷ events) h i who e =
    let r = rec_of n x ((answered s x).0) in
    sym (open_here i (eqb (who_of x) who) (held who i) r (recorded who (suc n) ((answered s x).1) events))
    ∙ held_along (held_with held (who_of x) r) (suc n) ((answered s x).1) events (event_held held n s x h) i who e

open_recorded : (plan : Planned) (history : List Event) (i who : ℕ) → claim_at (state_from plan history) i ≡ Some who → open_after i false (recorded who 0 (start plan) history) ≡ true
open_recorded plan history i who e =
    held_along (λ c j. false) 0 (start plan) history (λ j c f. (let none = none_open (length plan.stages) j in let no : ⊥ = cc in absurd no)) i who e

-- ---- what work leaves open

open-append : (i : ℕ) (was : Bool) (xs ys : List Rec) → open_after i was (xs ++ ys) ≡ open_after i (open_after i was xs) ys
open-append i was [] ys = refl
open-append i was (x ∷ xs) ys = open-append i (open_by i was x) xs ys

open_dids : (i : ℕ) (was : Bool) (rs : List Rec) → open_after i was (only_dids rs) ≡ open_after i was rs
open_dids i was [] = refl
open_dids i was (Did place call reply ∷ rs) = open_dids i (open_by i was (Did place call reply)) rs
open_dids i was (Saw place ask answer ∷ rs) = open_dids i was rs

-- the stage whose finish is owed
abbrev OwesStage : Owed → ℕ → Type 0
OwesStage None i = ⊥
OwesStage (Some (j, args)) i = j ≡ i

granted_owes : (i j : ℕ) (was : Bool) → (was ≡ true → ⊥) → cond (i == j) true was ≡ true → j ≡ i
granted_owes i j was none e = split (i == j) refl e
  where
    split : (b : Bool) → (i == j) ≡ b → cond b true was ≡ true → j ≡ i
    split true t f = grind (arith, nat_tests)
    split false t f = absurd (none f)

finished_owes : (i j : ℕ) (was : Bool) → (was ≡ true → j ≡ i) → cond (i == j) false was ≡ true → ⊥
finished_owes i j was owed e = split (i == j) refl e
  where
    split : (b : Bool) → (i == j) ≡ b → cond b false was ≡ true → ⊥
    split true t f = cc
    split false t f = let same = same_number i j (sym (owed f)) in let wrong : true ≡ false = sym same ∙ t in let no : ⊥ = cc in no

claim_owes : (place i j : ℕ) (was : Bool) (reply : Reply) → (was ≡ true → ⊥) → open_by i was (Did place (Claim j) reply) ≡ true → OwesStage (owed_by (Did place (Claim j) reply)) i
claim_owes place i j was (ToldClaim (Granted args)) none e = granted_owes i j was none e
claim_owes place i j was (ToldClaim IsSettled) none e = none e
claim_owes place i j was (ToldClaim Taken) none e = none e
claim_owes place i j was (ToldClaim NotReady) none e = none e
claim_owes place i j was (ToldFlag b) none e = none e
claim_owes place i j was (ToldFinish f) none e = none e
claim_owes place i j was (ToldTick t) none e = none e
claim_owes place i j was (ToldAttach a) none e = none e

-- what a record of work leaves open is owed
next_owes : (answers : Answers) (plan : Planned) (i : ℕ) (was : Bool) (o : Owed) (r : Rec) → IsNext answers plan o r → (was ≡ true → OwesStage o i) → open_by i was r ≡ true → OwesStage (owed_by r) i
next_owes answers plan i was = by_record answers plan (λ o r. (was ≡ true → OwesStage o i) → open_by i was r ≡ true → OwesStage (owed_by r) i)
    (λ place j reply l. claim_owes place i j was reply)
    (λ place j args answer reply is. finished_owes i j was)

at_end : (o : Owed) (i : ℕ) (was : Bool) → o ≡ None → (was ≡ true → OwesStage o i) → was ≡ false
at_end None i true e h = absurd (h refl)
at_end (Some x) i true e h = cc
at_end o i false e h = refl

-- work that owes nothing at its end leaves open what was open before alone
closes : (answers : Answers) (plan : Planned) (o : Owed) (i : ℕ) (was : Bool) (rs : List Rec) → AreWork answers plan o rs → owed_after o rs ≡ None → (was ≡ true → OwesStage o i) → open_after i was rs ≡ false
closes answers plan o i was [] work out h = at_end o i was out h
closes answers plan o i was (r ∷ rs) work out h = closes answers plan (owed_by r) i (open_by i was r) rs work.1 out (next_owes answers plan i was o r work.0 h)

-- so what is open after a worker's records was open before it began
was_open : (answers : Answers) (p q : Pass) (i : ℕ) → WorksOut answers p q → open_after i false q.records ≡ true → open_after i false p.records ≡ true
was_open answers p q i w e = split (open_after i false p.records) refl
  where
    after : open_after i (open_after i false p.records) w.works.more ≡ true
    after = sym (open-append i false p.records w.works.more) ∙ ap (open_after i false) (sym w.works.records) ∙ e

    split : (b : Bool) → open_after i false p.records ≡ b → b ≡ true
    split true t = refl
    split false t =
        let none = closes answers (state_of q.known).plan None i false w.works.more w.works.work w.owes (λ f. (let no : ⊥ = cc in no)) in
        let wrong : true ≡ false = sym after ∙ ap (λ (b : Bool). open_after i b w.works.more) t ∙ none in
        let no : ⊥ = cc in absurd no

-- ---- the closed graph

all_there : (ps : List Pass) → All (Contains ps) ps
all_there [] = All-nil (Contains [])
all_there (p ∷ ps) = All-cons (Contains (p ∷ ps)) p ps (0, omega arith, refl) (All-weaker (Contains ps) (Contains (p ∷ ps)) (λ q h. Contains-append_right (p ∷ []) ps q h) ps (all_there ps))

-- what is open by a caller's records was open in its pass
abbrev WasOpenBy : Planned → List Event → List Pass → ℕ → Type 0
WasOpenBy plan history ps c = (i : ℕ) → open_after i false (recorded c 0 (start plan) history) ≡ true → WasOpen ps c i

opened_before : (answers : Answers) (plan : Planned) (history : List Event) (ps : List Pass) (p q : Pass) → WorksOut answers p q → Contains ps p → Fits plan q.known.caller history q.records → WasOpenBy plan history ps p.known.caller
opened_before answers plan history ps p q w there fit i e =
    let fits : Fits plan p.known.caller history q.records = subst (λ (c : ℕ). Fits plan c history q.records) w.works.same.2 fit in
    let after : open_after i false q.records ≡ true = sym (open_dids i false q.records) ∙ ap (open_after i false) (fits_recorded plan p.known.caller history q.records fits) ∙ e in
    record { by = p; there = there; is = refl; unfinished = was_open answers p q i w after }

pub were_open : (answers : Answers) (plan : Planned) (callers : ℕ) (history : List Event) (graph : State) (ps qs : List Pass) → AllZip (WorksOut answers) ps qs → All (IsKeptFit plan history) (map pass_did qs)
    → ((c : ℕ) → c < callers → count_in c (knowns qs) ≡ 1) → All (λ e. who_of e < callers) history → graph ≡ state_from plan history → WereOpen ps graph
were_open answers plan callers history graph ps qs zip fits each by is i who e = split (cases_lt who callers)
  where
    found : open_after i false (recorded who 0 (start plan) history) ≡ true
    found = open_recorded plan history i who (ap (λ (s : State). claim_at s i) (sym is) ∙ e)

    split : (who < callers) ⊎ (callers ≤ who) → WasOpen ps who i
    split (inl l) =
        each_pass plan history (WorksOut answers) (Contains ps) (WasOpenBy plan history ps) (λ p q w. w.works.same.2) (opened_before answers plan history ps) who ps qs zip (all_there ps) fits (let one = each who l in omega (arith, one)) i found
    split (inr l) =
        let none = absent_records callers who 0 (start plan) history l by in
        let wrong : true ≡ false = sym found ∙ ap (open_after i false) none in
        let no : ⊥ = cc in absurd no
