-- How long a history of work is.
use Rattle.std.proofs.Common.{◌≡◌, ◌≢◌, ◌==◌, ℕ, zero, suc, ◌+◌, ◌*◌, ◌<◌, ◌≤◌, Bool, true, false, cond, eqb, Some, None, List, [], ◌∷◌, length, refl, ap, ◌∙◌, arith}
use Rattle.std.specs.List.{All}
use Rattle.std.proofs.lemmas.Bool.{eqb-true, eqb-false}
use Rattle.std.proofs.lemmas.Bool.Decides.{nat_tests}
use Rattle.std.proofs.lemmas.List.Elements.{All-head, All-tail}
use Rattle.cf_forms.specs.Plans.{Planned}
use Rattle.cf_model.specs.declared.replies.Claimed.{Claimed}
use Rattle.cf_model.specs.declared.replies.Claimed.TheVariants.{Granted, Settled, Taken, NotReady}
use Rattle.cf_model.specs.declared.events.Event.{Event}
use Rattle.cf_model.specs.declared.events.Event.TheVariants.{Complete as Completes, Fail as Fails, FailAs as FailsAs, Cancel as Cancels, Claim as Claims, Finish as Finishes, Tick as Ticks, Attach as Attaches}
use Rattle.cf_model.specs.declared.events.Reply.TheVariants.{Claim as ToldClaim, Flag as ToldFlag, Finish as ToldFinish, Tick as ToldTick, Attach as ToldAttach}
use Rattle.cf_model.specs.States.{State}
use Rattle.cf_model.specs.Claims.{claimable_count}
use Rattle.cf_model.specs.Events.{answered, claiming, state_after}
use Rattle.cf_model.proofs.Claimable.{answered-claimable, claiming-claimable}
use Rattle.cf_model.proofs.Shape.{answered-shape}
use Rattle.cf_model.specs.Calls.{as_call, who_of}
use Rattle.cf_pool.specs.Answering.{Answers}
use Rattle.cf_model.specs.declared.calls.Call.TheVariants.{Complete, Fail, FailAs, Cancel, Claim, Finish, Tick, Attach}
use Rattle.cf_desk.specs.declared.calls.Rec.{Rec}
use Rattle.cf_desk.specs.declared.calls.Rec.TheVariants.{Did, Saw}
use Rattle.cf_pool.specs.Counting.{grant_at, total_by}
use Rattle.cf_pool.specs.Works.{Owed, owed_by, IsNext, AreWork, claims_of}
use Rattle.cf_pool.specs.Records.{recorded}
use Rattle.cf_pool.proofs.Working.{by_record}
use Rattle.cf_pool.proofs.Racing.Totals.{total, total_zero, total_most, total_more}

-- how many claims there are, and how many that were granted
abbrev claim_one : Rec → ℕ
claim_one (Did place (Claim i) reply) = 1
claim_one r = 0

abbrev pub claims_in : List Rec → ℕ
claims_in = total_by claim_one

abbrev pub grants_in : List Rec → ℕ
grants_in = total_by grant_at

-- ---- the records of one caller: a finish comes after each granted claim

abbrev owed_one : Owed → ℕ
owed_one None = 0
owed_one (Some owed) = 1

granted_one : (r : Rec) → owed_one (owed_by r) ≡ grant_at r
granted_one (Did place (Claim i) (ToldClaim (Granted args))) = refl
granted_one (Did place (Claim i) (ToldClaim Settled)) = refl
granted_one (Did place (Claim i) (ToldClaim Taken)) = refl
granted_one (Did place (Claim i) (ToldClaim NotReady)) = refl
granted_one (Did place (Claim i) (ToldFlag b)) = refl
granted_one (Did place (Claim i) (ToldFinish f)) = refl
granted_one (Did place (Claim i) (ToldTick t)) = refl
granted_one (Did place (Claim i) (ToldAttach a)) = refl
granted_one (Did place (Complete i v) reply) = refl
granted_one (Did place (Fail i code) reply) = refl
granted_one (Did place (FailAs i failure) reply) = refl
granted_one (Did place (Cancel i) reply) = refl
granted_one (Did place (Finish i answer) reply) = refl
granted_one (Did place (Tick now) reply) = refl
granted_one (Did place (Attach form of function) reply) = refl
granted_one (Saw place ask answer) = refl

grant_claims : (r : Rec) → grant_at r ≤ claim_one r
grant_claims (Did place (Claim i) (ToldClaim (Granted args))) = omega arith
grant_claims (Did place (Claim i) (ToldClaim Settled)) = omega arith
grant_claims (Did place (Claim i) (ToldClaim Taken)) = omega arith
grant_claims (Did place (Claim i) (ToldClaim NotReady)) = omega arith
grant_claims (Did place (Claim i) (ToldFlag b)) = omega arith
grant_claims (Did place (Claim i) (ToldFinish f)) = omega arith
grant_claims (Did place (Claim i) (ToldTick t)) = omega arith
grant_claims (Did place (Claim i) (ToldAttach a)) = omega arith
grant_claims (Did place (Complete i v) reply) = omega arith
grant_claims (Did place (Fail i code) reply) = omega arith
grant_claims (Did place (FailAs i failure) reply) = omega arith
grant_claims (Did place (Cancel i) reply) = omega arith
grant_claims (Did place (Finish i answer) reply) = omega arith
grant_claims (Did place (Tick now) reply) = omega arith
grant_claims (Did place (Attach form of function) reply) = omega arith
grant_claims (Saw place ask answer) = omega arith

-- a record of work is a claim, or pays what is owed
pays : (answers : Answers) (plan : Planned) (owed : Owed) (r : Rec) → IsNext answers plan owed r → claim_one r + owed_one owed ≡ 1
pays answers plan = by_record answers plan (λ owed r. claim_one r + owed_one owed ≡ 1) (λ place i reply l. omega arith) (λ place i args answer reply is. omega arith)

pub work_at_most : (answers : Answers) (plan : Planned) (owed : Owed) (rs : List Rec) → AreWork answers plan owed rs → length rs ≤ claims_in rs + grants_in rs + owed_one owed
work_at_most answers plan owed [] h = omega arith
work_at_most answers plan owed (r ∷ rs) h =
    let one = pays answers plan owed r h.0 in
    let now = granted_one r in
    let rest = work_at_most answers plan (owed_by r) rs h.1 in
    omega (arith, one, now, rest)

pub grants_at_most : (rs : List Rec) → grants_in rs ≤ claims_in rs
grants_at_most [] = omega arith
grants_at_most (r ∷ rs) = let one = grant_claims r in let rest = grants_at_most rs in omega (arith, one, rest)

-- ---- a caller claims no stage twice

-- each claim is of a stage below n
abbrev pub ClaimsBelow : ℕ → Rec → Type 0
ClaimsBelow n (Did place (Claim i) reply) = i < n
ClaimsBelow n r = Unit {0}

abbrev pub AllBelow : ℕ → List Rec → Type 0
AllBelow n [] = Unit {0}
AllBelow n (r ∷ rs) = ClaimsBelow n r × AllBelow n rs

-- as are those of work
next_below : (answers : Answers) (plan : Planned) (n : ℕ) → length plan.stages ≤ n → (owed : Owed) (r : Rec) → IsNext answers plan owed r → ClaimsBelow n r
next_below answers plan n few = by_record answers plan (λ owed r. ClaimsBelow n r) (λ place i reply l. omega (arith, few, l)) (λ place i args answer reply is. tt)

pub work_below : (answers : Answers) (plan : Planned) (n : ℕ) (owed : Owed) (rs : List Rec) → length plan.stages ≤ n → AreWork answers plan owed rs → AllBelow n rs
work_below answers plan n owed [] few h = tt
work_below answers plan n owed (r ∷ rs) few h = (next_below answers plan n few owed r h.0, work_below answers plan n (owed_by r) rs few h.1)

nothing_more : (n : ℕ) (f : ℕ → ℕ) → total n (λ i. 0 + f i) ≡ 0 + total n f
nothing_more zero f = refl
nothing_more (suc n) f = let rest = nothing_more n f in omega (arith, rest)

same_test : (i j a z : ℕ) → cond (i == j) a z ≡ cond (eqb j i) a z
same_test i j a z = ap (λ (b : Bool). cond b a z) (split (eqb j i) refl)
  where
    split : (b : Bool) → eqb j i ≡ b → (i == j) ≡ b
    split true t = let same = eqb-true j i t in grind (arith, nat_tests)
    split false t = let other : j ≢ i = eqb-false j i t in grind (arith, nat_tests)

one_more : (n : ℕ) (r : Rec) (rs : List Rec) → ClaimsBelow n r → total n (λ i. claims_of i (r ∷ rs)) ≡ claim_one r + total n (λ i. claims_of i rs)
one_more n (Did place (Claim j) reply) rs h = total_more j 1 n (λ i. cond (i == j) 1 0 + claims_of i rs) (λ i. claims_of i rs) (λ i. ap (λ (k : ℕ). k + claims_of i rs) (same_test i j 1 0)) h
one_more n (Did place (Complete i v) reply) rs h = nothing_more n (λ i. claims_of i rs)
one_more n (Did place (Fail i code) reply) rs h = nothing_more n (λ i. claims_of i rs)
one_more n (Did place (FailAs i failure) reply) rs h = nothing_more n (λ i. claims_of i rs)
one_more n (Did place (Cancel i) reply) rs h = nothing_more n (λ i. claims_of i rs)
one_more n (Did place (Finish i answer) reply) rs h = nothing_more n (λ i. claims_of i rs)
one_more n (Did place (Tick now) reply) rs h = nothing_more n (λ i. claims_of i rs)
one_more n (Did place (Attach form of function) reply) rs h = nothing_more n (λ i. claims_of i rs)
one_more n (Saw place ask answer) rs h = nothing_more n (λ i. claims_of i rs)

claims_each : (n : ℕ) (rs : List Rec) → AllBelow n rs → total n (λ i. claims_of i rs) ≡ claims_in rs
claims_each n [] h = total_zero n (λ i. 0) (λ k. refl)
claims_each n (r ∷ rs) h = one_more n r rs h.0 ∙ ap (λ (k : ℕ). claim_one r + k) (claims_each n rs h.1)

pub claims_at_most : (n : ℕ) (rs : List Rec) → AllBelow n rs → ((i : ℕ) → claims_of i rs ≤ 1) → claims_in rs ≤ n
claims_at_most n rs h once =
    let e = claims_each n rs h in
    let m = total_most 1 n (λ i. claims_of i rs) (λ i. 0) (λ i l. let o = once i in omega (arith, o)) in
    let z = total_zero n (λ i. 0) (λ k. refl) in
    omega (arith, e, m, z)

-- so a caller that owes nothing records at most two calls for each stage
pub records_at_most : (answers : Answers) (plan : Planned) (n : ℕ) (rs : List Rec) → AreWork answers plan None rs → AllBelow n rs → ((i : ℕ) → claims_of i rs ≤ 1) → length rs ≤ n + grants_in rs
records_at_most answers plan n rs h below once =
    let a = work_at_most answers plan None rs h in
    let b = claims_at_most n rs below once in
    omega (arith, a, b)

-- ---- the history

-- how many claims are granted among these events
abbrev pub grants_along : ℕ → State → List Event → ℕ
grants_along n s [] = 0
grants_along n s (e ∷ events) = grant_at (Did (suc n) (as_call e) ((answered s e).0)) + grants_along (suc n) ((answered s e).1) events

-- how many stages may be claimed, those counted that may still be attached
abbrev pub claims_left : State → ℕ
claims_left s = claimable_count s + s.plan.room

-- each leaves fewer that may be claimed
claim_leaves : (n : ℕ) (s : State) (who i : ℕ) (x : Claimed) → (claiming s who i).0 ≡ x → grant_at (Did (suc n) (Claim i) (ToldClaim x)) + claims_left ((claiming s who i).1) ≤ claims_left s
claim_leaves n s who i (Granted args) e =
    let l = claiming-claimable s who i args e in
    let room = ap (λ (p : Planned). p.room) ((answered-shape s (Claims who i) refl).plan) in
    omega (arith, l, room)
claim_leaves n s who i Settled e = let l = answered-claimable s (Claims who i) in omega (arith, l)
claim_leaves n s who i Taken e = let l = answered-claimable s (Claims who i) in omega (arith, l)
claim_leaves n s who i NotReady e = let l = answered-claimable s (Claims who i) in omega (arith, l)

one_leaves : (n : ℕ) (s : State) (e : Event) → grant_at (Did (suc n) (as_call e) ((answered s e).0)) + claims_left ((answered s e).1) ≤ claims_left s
one_leaves n s (Claims who i) = claim_leaves n s who i ((claiming s who i).0) refl
one_leaves n s (Completes who i v) = let l = answered-claimable s (Completes who i v) in omega (arith, l)
one_leaves n s (Fails who i code) = let l = answered-claimable s (Fails who i code) in omega (arith, l)
one_leaves n s (FailsAs who i failure) = let l = answered-claimable s (FailsAs who i failure) in omega (arith, l)
one_leaves n s (Cancels who i) = let l = answered-claimable s (Cancels who i) in omega (arith, l)
one_leaves n s (Finishes who i answer) = let l = answered-claimable s (Finishes who i answer) in omega (arith, l)
one_leaves n s (Ticks who now) = let l = answered-claimable s (Ticks who now) in omega (arith, l)
one_leaves n s (Attaches who form of function) = let l = answered-claimable s (Attaches who form of function) in omega (arith, l)

pub grants_leave : (n : ℕ) (s : State) (events : List Event) → grants_along n s events + claims_left (state_after s events) ≤ claims_left s
grants_leave n s [] = omega arith
grants_leave n s (e ∷ events) =
    let one = one_leaves n s e in
    let rest = grants_leave (suc n) ((answered s e).1) events in
    omega (arith, one, rest)

-- the history is shared among the callers
abbrev pub ByCaller : ℕ → Event → Type 0
ByCaller callers e = who_of e < callers

length_split : (b : Bool) (r : Rec) (rs : List Rec) → length (cond b (r ∷ rs) rs) ≡ cond b 1 0 + length rs
length_split true r rs = omega arith
length_split false r rs = omega arith

grants_split : (b : Bool) (r : Rec) (rs : List Rec) → grants_in (cond b (r ∷ rs) rs) ≡ cond b (grant_at r) 0 + grants_in rs
grants_split true r rs = refl
grants_split false r rs = omega arith

pub lengths_shared : (callers n : ℕ) (s : State) (events : List Event) → All (ByCaller callers) events → total callers (λ c. length (recorded c n s events)) ≡ length events
lengths_shared callers n s [] h = total_zero callers (λ c. 0) (λ k. refl)
lengths_shared callers n s (e ∷ events) h =
    let t = (answered s e).1 in
    let rest = lengths_shared callers (suc n) t events (All-tail (ByCaller callers) e events h) in
    let more = total_more (who_of e) 1 callers (λ c. length (recorded c n s (e ∷ events))) (λ c. length (recorded c (suc n) t events))
    (λ c. length_split (eqb (who_of e) c) (Did (suc n) (as_call e) ((answered s e).0)) (recorded c (suc n) t events)) (All-head (ByCaller callers) e events h) in
    omega (arith, rest, more)

pub grants_shared : (callers n : ℕ) (s : State) (events : List Event) → All (ByCaller callers) events → total callers (λ c. grants_in (recorded c n s events)) ≡ grants_along n s events
grants_shared callers n s [] h = total_zero callers (λ c. 0) (λ k. refl)
grants_shared callers n s (e ∷ events) h =
    let t = (answered s e).1 in
    let rest = grants_shared callers (suc n) t events (All-tail (ByCaller callers) e events h) in
    let r : Rec = Did (suc n) (as_call e) ((answered s e).0) in
    total_more (who_of e) (grant_at r) callers (λ c. grants_in (recorded c n s (e ∷ events))) (λ c. grants_in (recorded c (suc n) t events))
    (λ c. grants_split (eqb (who_of e) c) r (recorded c (suc n) t events)) (All-head (ByCaller callers) e events h)
    ∙ ap (λ (k : ℕ). grant_at r + k) rest

-- so many words fill it at most
pub history_at_most : (callers stages n : ℕ) (s : State) (events : List Event) → All (ByCaller callers) events → claims_left s ≤ stages
    → ((c : ℕ) → c < callers → length (recorded c n s events) ≤ stages + grants_in (recorded c n s events)) → length events ≤ stages * callers + stages
history_at_most callers stages n s events h few each =
    let a = lengths_shared callers n s events h in
    let b = total_most stages callers (λ c. length (recorded c n s events)) (λ c. grants_in (recorded c n s events)) each in
    let g = grants_shared callers n s events h in
    let l = grants_leave n s events in
    omega (arith, a, b, g, l)
