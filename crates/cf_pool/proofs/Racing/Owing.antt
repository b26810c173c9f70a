-- What each caller owes along a history of work, and that such a history is plain.
use Rattle.std.proofs.Common.{◌≡◌, ◌≢◌, ℕ, suc, ◌<◌, ◌==◌, Bool, true, false, cond, eqb, eq-eqb, Option, Some, None, List, [], ◌∷◌, length, sym, refl, ap, ◌∙◌, subst, arith}
use Rattle.std.specs.Prelude.{◌&&◌}
use Rattle.std.proofs.lemmas.Bool.{eqb-true, eqb-false}
use Rattle.std.proofs.lemmas.Bool.Decides.{nat_tests}
use Rattle.cf_forms.specs.declared.forms.Args.{Args}
use Rattle.cf_forms.specs.declared.forms.Answer.{Answer}
use Rattle.cf_forms.specs.Plans.{Planned}
use Rattle.cf_model.specs.declared.replies.Claimed.TheVariants.{Granted, Settled, Taken, NotReady}
use Rattle.cf_model.specs.declared.events.Event.{Event}
use Rattle.cf_model.specs.declared.events.Event.TheVariants.{Complete as Completes, Fail as Fails, FailAs as FailsAs, Cancel as Cancels, Claim as Claims, Finish as Finishes, Tick as Ticks, Attach as Attaches}
use Rattle.cf_model.specs.declared.events.Reply.{Reply}
use Rattle.cf_model.specs.declared.events.Reply.TheVariants.{Claim as ToldClaim, Flag as ToldFlag, Finish as ToldFinish, Tick as ToldTick, Attach as ToldAttach}
use Rattle.cf_model.specs.States.{State}
use Rattle.cf_model.specs.Calls.{as_call, is_attach, who_of}
use Rattle.cf_model.specs.Events.{answered, state_after}
use Rattle.cf_model.proofs.Shape.{answered-shape}
use Rattle.cf_pool.specs.Answering.{Answers, MayAnswer}
use Rattle.cf_expr.specs.Histories.{Grants, granted_with}
use Rattle.cf_expr.proofs.Parts.{granted_with-other}
use Rattle.cf_desk.specs.declared.calls.Rec.{Rec}
use Rattle.cf_desk.specs.declared.calls.Rec.TheVariants.{Did}
use Rattle.cf_pool.specs.Works.{Owed, owed_by, IsNext, AreWork}
use Rattle.cf_pool.specs.Records.{recorded}
use Rattle.cf_pool.specs.Races.{IsWorkEvent, IsWorkHistory}

-- the record of an event that has this reply
abbrev pub rec_of : ℕ → Event → Reply → Rec
rec_of n e reply = Did (suc n) (as_call e) reply

-- what each caller owes once the event has this reply
abbrev pub owing_with : (ℕ → Owed) → ℕ → Event → Reply → ℕ → Owed
owing_with owes n e reply c = cond (eqb (who_of e) c) (owed_by (rec_of n e reply)) (owes c)

-- each caller does work, from what it owes on
abbrev pub AllWork : Answers → Planned → (ℕ → Owed) → ℕ → State → List Event → Type 0
AllWork answers plan owes n s events = (c : ℕ) → AreWork answers plan (owes c) (recorded c n s events)

next_is : (answers : Answers) (plan : Planned) (o : Owed) (b : Bool) (r : Rec) (rs : List Rec) → b ≡ true → AreWork answers plan o (cond b (r ∷ rs) rs) → IsNext answers plan o r
next_is answers plan o true r rs e h = h.0
next_is answers plan o false r rs e h = cc

next_all : (answers : Answers) (plan : Planned) (o : Owed) (b : Bool) (r : Rec) (rs : List Rec) → AreWork answers plan o (cond b (r ∷ rs) rs) → AreWork answers plan (cond b (owed_by r) o) rs
next_all answers plan o true r rs h = h.1
next_all answers plan o false r rs h = h

pub is_next : (answers : Answers) (plan : Planned) (owes : ℕ → Owed) (n : ℕ) (s : State) (e : Event) (events : List Event) → AllWork answers plan owes n s (e ∷ events) →
    IsNext answers plan (owes (who_of e)) (rec_of n e ((answered s e).0))
is_next answers plan owes n s e events h =
    next_is answers plan (owes (who_of e)) (eqb (who_of e) (who_of e)) (rec_of n e ((answered s e).0)) (recorded (who_of e) (suc n) ((answered s e).1) events) (eq-eqb (who_of e) (who_of e) refl) (h (who_of e))

pub rest_works : (answers : Answers) (plan : Planned) (owes : ℕ → Owed) (n : ℕ) (s : State) (e : Event) (events : List Event) → AllWork answers plan owes n s (e ∷ events) →
    AllWork answers plan (owing_with owes n e ((answered s e).0)) (suc n) ((answered s e).1) events
rest_works answers plan owes n s e events h c =
    next_all answers plan (owes c) (eqb (who_of e) c) (rec_of n e ((answered s e).0)) (recorded c (suc n) ((answered s e).1) events) (h c)

-- ---- what comes is a claim by one who owes nothing, or the finish that is owed

pub by_next : (answers : Answers) (plan : Planned) (P : Owed → Event → Type 0)
    → ((who i : ℕ) → i < length plan.stages → P None (Claims who i))
    → ((who i : ℕ) (args : Args) (answer : Answer) → MayAnswer answers plan.stages i args answer → P (Some (i, args)) (Finishes who i answer))
    → (o : Owed) (n : ℕ) (e : Event) (reply : Reply) → IsNext answers plan o (rec_of n e reply) → P o e
by_next answers plan P claims finishes None n (Completes who i v) reply h = absurd h
by_next answers plan P claims finishes None n (Fails who i code) reply h = absurd h
by_next answers plan P claims finishes None n (FailsAs who i failure) reply h = absurd h
by_next answers plan P claims finishes None n (Cancels who i) reply h = absurd h
by_next answers plan P claims finishes None n (Claims who i) reply h = claims who i h
by_next answers plan P claims finishes None n (Finishes who i answer) reply h = absurd h
by_next answers plan P claims finishes None n (Ticks who now) reply h = absurd h
by_next answers plan P claims finishes None n (Attaches who form of function) reply h = absurd h
by_next answers plan P claims finishes (Some owed) n (Completes who i v) reply h = absurd h
by_next answers plan P claims finishes (Some owed) n (Fails who i code) reply h = absurd h
by_next answers plan P claims finishes (Some owed) n (FailsAs who i failure) reply h = absurd h
by_next answers plan P claims finishes (Some owed) n (Cancels who i) reply h = absurd h
by_next answers plan P claims finishes (Some owed) n (Claims who i) reply h = absurd h
by_next answers plan P claims finishes (Some (j, args)) n (Finishes who i answer) reply h =
    subst (λ (k : ℕ). P (Some (k, args)) (Finishes who i answer)) h.0 (finishes who i args answer h.1)
by_next answers plan P claims finishes (Some owed) n (Ticks who now) reply h = absurd h
by_next answers plan P claims finishes (Some owed) n (Attaches who form of function) reply h = absurd h

-- it attaches nothing
pub next_attaches_none : (answers : Answers) (plan : Planned) (o : Owed) (n : ℕ) (e : Event) (reply : Reply) → IsNext answers plan o (rec_of n e reply) → is_attach e ≡ false
next_attaches_none answers plan = by_next answers plan (λ o e. is_attach e ≡ false) (λ who i l. refl) (λ who i args answer means. refl)

-- so work leaves the plan
pub work_leaves_plan : (answers : Answers) (plan : Planned) (owes : ℕ → Owed) (n : ℕ) (s : State) (events : List Event) → AllWork answers plan owes n s events → (state_after s events).plan ≡ s.plan
work_leaves_plan answers plan owes n s [] h = refl
work_leaves_plan answers plan owes n s (e ∷ events) h =
    let reply = answered s e in
    let none = next_attaches_none answers plan (owes (who_of e)) n e reply.0 (is_next answers plan owes n s e events h) in
    work_leaves_plan answers plan (owing_with owes n e reply.0) (suc n) reply.1 events (rest_works answers plan owes n s e events h) ∙ (answered-shape s e none).plan

-- ---- what is owed was granted

abbrev pub WasGranted : (ℕ → Owed) → Grants → Type 0
WasGranted owes granted = (c i : ℕ) (args : Args) → owes c ≡ Some (i, args) → granted c i ≡ Some args

both : (b c : Bool) (x y : Option Args) → b ≡ true → c ≡ true → cond (b && c) x y ≡ x
both true true x y e h = refl
both true false x y e h = cc
both false c x y e h = cc

same_number : (m n : ℕ) → m ≡ n → (m == n) ≡ true
same_number m n e = grind (arith, nat_tests)

granted_now : (granted : Grants) (n c : ℕ) (e : Event) (reply : Reply) (i : ℕ) (args : Args) → who_of e ≡ c → owed_by (rec_of n e reply) ≡ Some (i, args) → granted_with granted e reply c i ≡ Some args
granted_now granted n c (Claims who j) (ToldClaim (Granted given)) i args w e =
    let both_same : (let p : ℕ × Args = (j, given) in p) ≡ (i, args) = cc in
    let pair : j ≡ i = ap (λ (p : ℕ × Args). p.0) both_same in
    let same : given ≡ args = ap (λ (p : ℕ × Args). p.1) both_same in
    both (c == who) (i == j) (Some given) (granted c i) (same_number c who (sym w)) (same_number i j (sym pair)) ∙ ap (λ (a : Args). Some a) same
granted_now granted n c (Claims who j) (ToldClaim Settled) i args w e = cc
granted_now granted n c (Claims who j) (ToldClaim Taken) i args w e = cc
granted_now granted n c (Claims who j) (ToldClaim NotReady) i args w e = cc
granted_now granted n c (Claims who j) (ToldFlag b) i args w e = cc
granted_now granted n c (Claims who j) (ToldFinish f) i args w e = cc
granted_now granted n c (Claims who j) (ToldTick t) i args w e = cc
granted_now granted n c (Claims who j) (ToldAttach a) i args w e = cc
granted_now granted n c (Completes who j v) reply i args w e = cc
granted_now granted n c (Fails who j code) reply i args w e = cc
granted_now granted n c (FailsAs who j failure) reply i args w e = cc
granted_now granted n c (Cancels who j) reply i args w e = cc
granted_now granted n c (Finishes who j answer) reply i args w e = cc
granted_now granted n c (Ticks who now) reply i args w e = cc
granted_now granted n c (Attaches who form of function) reply i args w e = cc

granted_still : (granted : Grants) (c : ℕ) (e : Event) (reply : Reply) (i : ℕ) → c ≢ who_of e → granted_with granted e reply c i ≡ granted c i
granted_still granted c (Claims who j) reply i ne = granted_with-other granted who j c i reply ne
granted_still granted c (Completes who j v) reply i ne = refl
granted_still granted c (Fails who j code) reply i ne = refl
granted_still granted c (FailsAs who j failure) reply i ne = refl
granted_still granted c (Cancels who j) reply i ne = refl
granted_still granted c (Finishes who j answer) reply i ne = refl
granted_still granted c (Ticks who now) reply i ne = refl
granted_still granted c (Attaches who form of function) reply i ne = refl

pub still_granted : (owes : ℕ → Owed) (granted : Grants) (n : ℕ) (e : Event) (reply : Reply) → WasGranted owes granted → WasGranted (owing_with owes n e reply) (granted_with granted e reply)
still_granted owes granted n e reply h c i args owed = split (eqb (who_of e) c) refl owed
  where
    split : (b : Bool) → eqb (who_of e) c ≡ b → cond b (owed_by (rec_of n e reply)) (owes c) ≡ Some (i, args) → granted_with granted e reply c i ≡ Some args
    split true t o = granted_now granted n c e reply i args (eqb-true (who_of e) c t) o
    split false t o = granted_still granted c e reply i (λ same. eqb-false (who_of e) c t (sym same)) ∙ h c i args o

-- ---- so the history is work

work_next : (answers : Answers) (plan : Planned) (granted : Grants) (s : State) (o : Owed) (n : ℕ) (e : Event) (reply : Reply) → s.plan ≡ plan → ((i : ℕ) (args : Args) → o ≡ Some (i, args) → granted (who_of e) i ≡ Some args) → IsNext answers plan o (rec_of n e reply) → IsWorkEvent answers granted s e
work_next answers plan granted s o n e reply same was next =
    by_next answers plan (λ o e. ((i : ℕ) (args : Args) → o ≡ Some (i, args) → granted (who_of e) i ≡ Some args) → IsWorkEvent answers granted s e)
    (λ who i l w. tt)
    (λ who i args answer may w. (args, w i args refl, subst (λ (p : Planned). MayAnswer answers p.stages i args answer) (sym same) may))
    o n e reply next was

pub is_work_then : (answers : Answers) (plan : Planned) (owes : ℕ → Owed) (granted : Grants) (n : ℕ) (s : State) (events : List Event) → s.plan ≡ plan → WasGranted owes granted → AllWork answers plan owes n s events → IsWorkHistory answers granted s events
is_work_then answers plan owes granted n s [] same was h = tt
is_work_then answers plan owes granted n s (e ∷ events) same was h =
    let reply = answered s e in
    let next = is_next answers plan owes n s e events h in
    let stays = (answered-shape s e (next_attaches_none answers plan (owes (who_of e)) n e reply.0 next)).plan in (
      work_next answers plan granted s (owes (who_of e)) n e reply.0 same (was (who_of e)) next,
      is_work_then answers plan (owing_with owes n e reply.0) (granted_with granted e reply.0) (suc n) reply.1 events (stays ∙ same) (still_granted owes granted n e reply.0 was) (rest_works answers plan owes n s e events h),
    )
