-- Over all callers of a closed desk the function of a stage is called at most once.
use Rattle.std.proofs.Common.{◌≡◌, ℕ, suc, ◌+◌, ◌<◌, ◌≤◌, Bool, true, false, cond, eqb, eq-eqb, List, [], ◌∷◌, map, sym, refl, ap, ◌∙◌, arith}
use Rattle.std.specs.List.{All}
use Rattle.std.proofs.lemmas.Bool.{eqb-true}
use Rattle.std.proofs.lemmas.List.Elements.{All-head, All-tail, All-weaker}
use Rattle.cf_forms.specs.Plans.{Planned}
use Rattle.cf_model.specs.declared.replies.Claimed.TheVariants.{Granted, Settled, Taken, NotReady}
use Rattle.cf_model.specs.declared.events.Event.{Event}
use Rattle.cf_model.specs.declared.events.Event.TheVariants.{Complete as Completes, Fail as Fails, FailAs as FailsAs, Cancel as Cancels, Claim as Claims, Finish as Finishes, Tick as Ticks, Attach as Attaches}
use Rattle.cf_model.specs.declared.events.Reply.{Reply}
use Rattle.cf_model.specs.declared.events.Reply.TheVariants.{Claim as ToldClaim, Flag as ToldFlag, Finish as ToldFinish, Tick as ToldTick, Attach as ToldAttach}
use Rattle.cf_model.specs.States.{State, start}
use Rattle.cf_model.specs.Events.{answered}
use Rattle.cf_model.specs.Calls.{as_call, who_of}
use Rattle.cf_model.specs.Laws.{grants_of, is_grant}
use Rattle.cf_model.proofs.Moves.{grants_once}
use Rattle.cf_desk.specs.declared.calls.Rec.{Rec}
use Rattle.cf_desk.specs.declared.calls.Rec.TheVariants.{Did, Saw}
use Rattle.cf_desk.specs.declared.row.CallerView.{CallerView}
use Rattle.cf_desk.specs.Keepings.{IsKeptFit, pass_did}
use Rattle.cf_desk.specs.Rule.{count_in, weight}
use Rattle.cf_desk.specs.Views.{Pass, knowns}
use Rattle.cf_pool.specs.Calling.{calls_by, calls_of, calls_of_all}
use Rattle.cf_pool.specs.Records.{recorded}
use Rattle.cf_pool.specs.Works.{owed_by}
use Rattle.cf_pool.proofs.Racing.Recorded.{fits_recorded, only_dids}

-- how often the function of stage i is called for what these callers record of these events
abbrev calls_along : ℕ → ℕ → State → List Event → List CallerView → ℕ
calls_along i n s events [] = 0
calls_along i n s events (k ∷ ks) = calls_of i (recorded k.caller n s events) + calls_along i n s events ks

none_along : (i n : ℕ) (s : State) (ks : List CallerView) → calls_along i n s [] ks ≡ 0
none_along i n s [] = refl
none_along i n s (k ∷ ks) = let rest = none_along i n s ks in omega (arith, rest)

calls_split : (i : ℕ) (b : Bool) (r : Rec) (rs : List Rec) → calls_of i (cond b (r ∷ rs) rs) ≡ cond b (calls_by i (owed_by r)) 0 + calls_of i rs
calls_split i true r rs = refl
calls_split i false r rs = omega arith

-- for which an event of another caller adds none
of_others : (i n : ℕ) (s : State) (e : Event) (events : List Event) (ks : List CallerView) → count_in (who_of e) ks ≡ 0 → calls_along i n s (e ∷ events) ks ≤ calls_along i (suc n) ((answered s e).1) events ks
of_others i n s e events [] none = omega arith
of_others i n s e events (k ∷ ks) none = split (eqb (who_of e) k.caller) refl (of_others i n s e events ks (omega (arith, none)))
  where
    one : calls_of i (recorded k.caller n s (e ∷ events)) ≡ cond (eqb (who_of e) k.caller) (calls_by i (owed_by (Did (suc n) (as_call e) ((answered s e).0)))) 0 + calls_of i (recorded k.caller (suc n) ((answered s e).1) events)
    one = calls_split i (eqb (who_of e) k.caller) (Did (suc n) (as_call e) ((answered s e).0)) (recorded k.caller (suc n) ((answered s e).1) events)

    split : (b : Bool) → eqb (who_of e) k.caller ≡ b → calls_along i n s (e ∷ events) ks ≤ calls_along i (suc n) ((answered s e).1) events ks
        → calls_along i n s (e ∷ events) (k ∷ ks) ≤ calls_along i (suc n) ((answered s e).1) events (k ∷ ks)
    split true t rest = absurd (let mine : weight (eqb k.caller (who_of e)) ≡ 1 = ap weight (eq-eqb k.caller (who_of e) (sym (eqb-true (who_of e) k.caller t))) in omega (arith, mine, none))
    split false t rest =
        let same : cond (eqb (who_of e) k.caller) (calls_by i (owed_by (Did (suc n) (as_call e) ((answered s e).0)))) 0 ≡ 0 = ap (λ (b : Bool). cond b (calls_by i (owed_by (Did (suc n) (as_call e) ((answered s e).0)))) 0) t in
        omega (arith, one, same, rest)

-- and one of a caller that stands there once adds its own
of_one : (i n : ℕ) (s : State) (e : Event) (events : List Event) (ks : List CallerView) → count_in (who_of e) ks ≤ 1
    → calls_along i n s (e ∷ events) ks ≤ calls_by i (owed_by (Did (suc n) (as_call e) ((answered s e).0))) + calls_along i (suc n) ((answered s e).1) events ks
of_one i n s e events [] few = omega arith
of_one i n s e events (k ∷ ks) few = split (eqb (who_of e) k.caller) refl (of_one i n s e events ks (omega (arith, few)))
  where
    one : calls_of i (recorded k.caller n s (e ∷ events)) ≡ cond (eqb (who_of e) k.caller) (calls_by i (owed_by (Did (suc n) (as_call e) ((answered s e).0)))) 0 + calls_of i (recorded k.caller (suc n) ((answered s e).1) events)
    one = calls_split i (eqb (who_of e) k.caller) (Did (suc n) (as_call e) ((answered s e).0)) (recorded k.caller (suc n) ((answered s e).1) events)

    split : (b : Bool) → eqb (who_of e) k.caller ≡ b
        → calls_along i n s (e ∷ events) ks ≤ calls_by i (owed_by (Did (suc n) (as_call e) ((answered s e).0))) + calls_along i (suc n) ((answered s e).1) events ks
        → calls_along i n s (e ∷ events) (k ∷ ks) ≤ calls_by i (owed_by (Did (suc n) (as_call e) ((answered s e).0))) + calls_along i (suc n) ((answered s e).1) events (k ∷ ks)
    split true t rest =
        let mine : weight (eqb k.caller (who_of e)) ≡ 1 = ap weight (eq-eqb k.caller (who_of e) (sym (eqb-true (who_of e) k.caller t))) in
        let others = of_others i n s e events ks (omega (arith, mine, few)) in
        let same : cond (eqb (who_of e) k.caller) (calls_by i (owed_by (Did (suc n) (as_call e) ((answered s e).0)))) 0 ≡ calls_by i (owed_by (Did (suc n) (as_call e) ((answered s e).0))) = ap (λ (b : Bool). cond b (calls_by i (owed_by (Did (suc n) (as_call e) ((answered s e).0)))) 0) t in
        omega (arith, one, same, others)
    split false t rest =
        let same : cond (eqb (who_of e) k.caller) (calls_by i (owed_by (Did (suc n) (as_call e) ((answered s e).0)))) 0 ≡ 0 = ap (λ (b : Bool). cond b (calls_by i (owed_by (Did (suc n) (as_call e) ((answered s e).0)))) 0) t in
        omega (arith, one, same, rest)

-- a call is for a claim that is granted
by_grant : (i n : ℕ) (e : Event) (reply : Reply) → calls_by i (owed_by (Did (suc n) (as_call e) reply)) ≤ cond (is_grant i e reply) 1 0
by_grant i n (Claims who j) (ToldClaim (Granted args)) = omega arith
by_grant i n (Claims who j) (ToldClaim Settled) = omega arith
by_grant i n (Claims who j) (ToldClaim Taken) = omega arith
by_grant i n (Claims who j) (ToldClaim NotReady) = omega arith
by_grant i n (Claims who j) (ToldFlag b) = omega arith
by_grant i n (Claims who j) (ToldFinish f) = omega arith
by_grant i n (Claims who j) (ToldTick t) = omega arith
by_grant i n (Claims who j) (ToldAttach a) = omega arith
by_grant i n (Completes who j v) reply = omega arith
by_grant i n (Fails who j code) reply = omega arith
by_grant i n (FailsAs who j failure) reply = omega arith
by_grant i n (Cancels who j) reply = omega arith
by_grant i n (Finishes who j answer) reply = omega arith
by_grant i n (Ticks who now) reply = omega arith
by_grant i n (Attaches who form of function) reply = omega arith

along : (i n : ℕ) (s : State) (events : List Event) (ks : List CallerView) → All (λ e. count_in (who_of e) ks ≤ 1) events → calls_along i n s events ks ≤ grants_of i s events
along i n s [] ks few = let none = none_along i n s ks in omega (arith, none)
along i n s (e ∷ events) ks few =
    let one = of_one i n s e events ks (All-head (λ x. count_in (who_of x) ks ≤ 1) e events few) in
    let grant = by_grant i n e ((answered s e).0) in
    let rest = along i (suc n) ((answered s e).1) events ks (All-tail (λ x. count_in (who_of x) ks ≤ 1) e events few) in
    omega (arith, one, grant, rest)

calls_dids : (i : ℕ) (rs : List Rec) → calls_of i (only_dids rs) ≡ calls_of i rs
calls_dids i [] = refl
calls_dids i (Did place call reply ∷ rs) = ap (λ (k : ℕ). calls_by i (owed_by (Did place call reply)) + k) (calls_dids i rs)
calls_dids i (Saw place ask answer ∷ rs) = let rest = calls_dids i rs in omega (arith, rest)

kept_along : (plan : Planned) (history : List Event) (i : ℕ) (qs : List Pass) → All (IsKeptFit plan history) (map pass_did qs) → calls_of_all i (map pass_did qs) ≡ calls_along i 0 (start plan) history (knowns qs)
kept_along plan history i [] fit = refl
kept_along plan history i (q ∷ qs) fit =
    let own : calls_of i q.records ≡ calls_of i (recorded q.known.caller 0 (start plan) history) =
    sym (calls_dids i q.records) ∙ ap (calls_of i) (fits_recorded plan q.known.caller history q.records (All-head (IsKeptFit plan history) (pass_did q) (map pass_did qs) fit)) in
    let rest = kept_along plan history i qs (All-tail (IsKeptFit plan history) (pass_did q) (map pass_did qs) fit) in
    omega (arith, own, rest)

pub called_once : (plan : Planned) (callers : ℕ) (history : List Event) (qs : List Pass) (i : ℕ) → All (IsKeptFit plan history) (map pass_did qs)
    → ((c : ℕ) → c < callers → count_in c (knowns qs) ≡ 1) → All (λ e. who_of e < callers) history → calls_of_all i (map pass_did qs) ≤ 1
called_once plan callers history qs i fit each by =
    let few : All (λ e. count_in (who_of e) (knowns qs) ≤ 1) history = All-weaker (λ e. who_of e < callers) (λ e. count_in (who_of e) (knowns qs) ≤ 1) (λ e l. (let one = each (who_of e) l in omega (arith, one))) history by in
    let granted = along i 0 (start plan) history (knowns qs) few in
    let are = kept_along plan history i qs fit in
    let once = grants_once (start plan) history i in
    omega (arith, granted, are, once)
