-- The events of workers among a walk's.
use Rattle.std.proofs.Common.{◌≡◌, ℕ, zero, suc, ◌+◌, ◌-◌, ◌<◌, ◌≤◌, Bool, true, false, Some, None, List, [], ◌∷◌, ◌++◌, inl, inr, length, set, ap, arith, refl, sym, ◌∙◌, subst, append-nil, length-append}
use Rattle.std.specs.Prelude.{Contains, ◌⊎◌, ◌&&◌, if◌then◌else◌, nat_le, not, slice_get, unwrap_or}
use Rattle.std.specs.List.{All, filter}
use Rattle.std.proofs.Math.Nat.{eq-or-lt_of_le}
use Rattle.std.proofs.lemmas.Bool.{le-leb, lt-ltb}
use Rattle.std.proofs.lemmas.List.{get_or-set_other, get_or-set_same, length-set}
use Rattle.std.proofs.lemmas.List.Elements.{All-head, All-tail, Contains-append_left, Contains-append_right}
use Rattle.std.proofs.lemmas.Option.{unwrap_or-slice_get}
use Rattle.cf_forms.specs.Meanings.{Meanings, stage_answer}
use Rattle.cf_forms.specs.Plans.{Planned}
use Rattle.cf_forms.specs.declared.forms.Answer.{Answer}
use Rattle.cf_forms.specs.declared.forms.Args.{Args}
use Rattle.cf_model.specs.declared.events.Event.{Event}
use Rattle.cf_model.specs.declared.events.Event.TheVariants.{Claim as Claims, Finish as Finishes}
use Rattle.cf_model.specs.declared.events.Reply.{Reply}
use Rattle.cf_model.specs.declared.events.Reply.TheVariants.{Claim as ToldClaim}
use Rattle.cf_model.specs.declared.replies.Claimed.{Claimed}
use Rattle.cf_model.specs.declared.replies.Claimed.TheVariants as claimed
use Rattle.cf_model.specs.declared.stage.Stage.{Stage}
use Rattle.cf_model.specs.declared.stage.Stage.TheVariants.{Pending, Ready, Claimed as IsClaimed, Linked, Settled}
use Rattle.cf_model.specs.Calls.{who_of}
use Rattle.cf_model.proofs.Histories.{state_after-append}
use Rattle.cf_model.specs.Ranges.{EventFits}
use Rattle.cf_model.specs.States.{State, is_ready, lowest_ready_of, stage_at, start}
use Rattle.cf_model.proofs.LowestReady.{lowest_ready-none}
use Rattle.cf_model.specs.Events.{answered, claimed_by, claiming, finishing, state_after, state_at}
use Rattle.cf_event.specs.declared.record.Record.{Record}
use Rattle.cf_event.specs.declared.record.Record.TheVariants.{Did, Saw}
use Rattle.cf_event.specs.Events.{placed}
use Rattle.cf_event.specs.Histories.{IsAnswered, dids}
use Rattle.cf_explore.specs.declared.step.Hand.{Hand}
use Rattle.cf_explore.specs.declared.step.Hand.TheVariants as hands
use Rattle.cf_explore.specs.declared.step.Move.{Move}
use Rattle.cf_explore.specs.declared.step.Move.TheVariants as moving
use Rattle.cf_explore.specs.Programs.{Programmed, Situated, hand_at, place_at}
use Rattle.cf_explore.specs.Moves.{call_by, caller_moves, claim_answer, claim_by, claim_moves, claims_by, event_of, finish_by, finish_by_hand, hand_of, moved, moves, moves_by_hand, own_moves, worker_moves}
use Rattle.cf_explore_laws.specs.Tellings.{AreWork, IsWork, but_vain, grants, held_after, is_vain}
use Rattle.cf_explore_laws.proofs.Lists.{contains-first, same-first, same-rest}
use Rattle.cf_explore_laws.proofs.Callers.{but_vain-left, but_vain-took, mine, same_number}
use Rattle.cf_explore_laws.proofs.Walks.{Asked, Comes, Stands, Walk, WorkStand, comes-more, mine-first, other-later, says-now, stands-still, state-now, work-later}

-- ---- what a worker has in hand

hand-self : (hs : List Hand) (v : ℕ) (x : Hand) → v < length hs → unwrap_or (slice_get (set hs v x) v) hands.Idle ≡ x
hand-self hs v x l = unwrap_or-slice_get (set hs v x) v hands.Idle ∙ get_or-set_same hs v x hands.Idle l

hand-other : (hs : List Hand) (v u : ℕ) (x : Hand) → (u ≡ v → ⊥) → unwrap_or (slice_get (set hs v x) u) hands.Idle ≡ unwrap_or (slice_get hs u) hands.Idle
hand-other hs v u x other = unwrap_or-slice_get (set hs v x) u hands.Idle ∙ get_or-set_other hs v u x hands.Idle other ∙ sym (unwrap_or-slice_get hs u hands.Idle)

-- ---- its moves

hand-moves : (s : Situated) (v : ℕ) (by : Move) → Contains (moves_by_hand s v (hand_at s v)) by → (n : ℕ) → v < n → Contains (worker_moves s n) by
hand-moves s v by h zero l = absurd (omega arith)
hand-moves s v by h (suc n) l = split (eq-or-lt_of_le (let le : v ≤ n = omega arith in le)) (hand-moves s v by h n)
  where
    split : (v ≡ n) ⊎ (v < n) → (v < n → Contains (worker_moves s n) by) → Contains (worker_moves s n ++ moves_by_hand s n (hand_at s n)) by
    split (inl is) rest = Contains-append_right (worker_moves s n) (moves_by_hand s n (hand_at s n)) by
        (subst (λ (k : ℕ). Contains (moves_by_hand s k (hand_at s k)) by) is h)
    split (inr less) rest = Contains-append_left (worker_moves s n) (moves_by_hand s n (hand_at s n)) by (rest less)

may-work : (p : Programmed) (s : Situated) (v : ℕ) (hand : Hand) (by : Move) → v < p.workers → hand_at s v ≡ hand → Contains (moves_by_hand s v hand) by → Contains (moves p s) by
unfolding moves own_moves
may-work p s v hand by l is h =
    Contains-append_left (own_moves p s) _ by
    (Contains-append_right (caller_moves p s (length p.callers)) (worker_moves s p.workers) by
    (hand-moves s v by (subst (λ (x : Hand). Contains (moves_by_hand s v x) by) (sym is) h) p.workers l))

claims : (s : State) (v i : ℕ) (args : Args) → stage_at s i ≡ Ready args → (n : ℕ) → i < n → Contains (claims_by s v n) (moving.Claim v i)
claims s v i args ready zero l = absurd (omega arith)
claims s v i args ready (suc n) l = split (eq-or-lt_of_le (let le : i ≤ n = omega arith in le)) (claims s v i args ready n)
  where
    here : Contains (claim_moves v i (stage_at s i)) (moving.Claim v i)
    here = subst (λ (x : Stage). Contains (claim_moves v i x) (moving.Claim v i)) (sym ready) (contains-first (moving.Claim v i) [])

    split : (i ≡ n) ⊎ (i < n) → (i < n → Contains (claims_by s v n) (moving.Claim v i)) → Contains (claims_by s v n ++ claim_moves v n (stage_at s n)) (moving.Claim v i)
    split (inl is) rest = Contains-append_right (claims_by s v n) (claim_moves v n (stage_at s n)) (moving.Claim v i)
        (subst (λ (k : ℕ). Contains (claim_moves v k (stage_at s k)) (moving.Claim v i)) is here)
    split (inr less) rest = Contains-append_left (claims_by s v n) (claim_moves v n (stage_at s n)) (moving.Claim v i) (rest less)

moved-claim : (m : Meanings) (p : Programmed) (s : Situated) (v i : ℕ) → v < p.workers → i < length s.state.plan.stages →
    moved m p s (moving.Claim v i) ≡ claim_by s v i (claiming s.state (length p.callers + v) i)
unfolding moved
moved-claim m p s v i l there =
    ap (λ (b : Bool). if b then claim_by s v i (claim_answer s.state (length p.callers + v) i) else s) (lt-ltb v p.workers l)
    ∙ ap (λ (b : Bool). claim_by s v i (if b then claiming s.state (length p.callers + v) i else (claimed.NotReady, s.state))) (lt-ltb i (length s.state.plan.stages) there)

event-claim : (p : Programmed) (s : Situated) (v i : ℕ) → v < p.workers → event_of p s (moving.Claim v i) ≡ Some (Claims (length p.callers + v) i)
event-claim p s v i l = ap (λ (b : Bool). if b then Some (Claims (length p.callers + v) i) else None) (lt-ltb v p.workers l)

moved-call : (m : Meanings) (p : Programmed) (s : Situated) (v : ℕ) (hand : Hand) → hand_at s v ≡ hand → moved m p s (moving.Call v) ≡ call_by m s v hand
unfolding moved
moved-call m p s v hand is = ap (call_by m s v) is

-- the situation behind a finish
abbrev pub finished_at : Situated → ℕ → ℕ → ℕ → Answer → Situated
finished_at s v who i answer = record s { state = (finishing s.state who i answer).1; hands = set s.hands v hands.Idle }

moved-finish : (m : Meanings) (p : Programmed) (s : Situated) (v i : ℕ) (answer : Answer) → v < p.workers → i < length s.state.plan.stages → hand_at s v ≡ hands.Called i answer →
    moved m p s (moving.Finish v) ≡ finished_at s v (length p.callers + v) i answer
unfolding moved
moved-finish m p s v i answer l there is =
    ap (λ (b : Bool). if b then finish_by s v (length p.callers + v) (hand_at s v) else s) (lt-ltb v p.workers l)
    ∙ ap (finish_by s v (length p.callers + v)) is
    ∙ ap (λ (b : Bool). record s { state = if b then (finishing s.state (length p.callers + v) i answer).1 else s.state; hands = set s.hands v hands.Idle }) (lt-ltb i (length s.state.plan.stages) there)

event-finish : (p : Programmed) (s : Situated) (v i : ℕ) (answer : Answer) → v < p.workers → hand_at s v ≡ hands.Called i answer →
    event_of p s (moving.Finish v) ≡ Some (Finishes (length p.callers + v) i answer)
event-finish p s v i answer l is =
    ap (λ (b : Bool). if b then finish_by_hand (hand_at s v) (length p.callers + v) else None) (lt-ltb v p.workers l)
    ∙ ap (λ (x : Hand). finish_by_hand x (length p.callers + v)) is

-- ---- what is told of it

-- its next record, behind its questions, is the event
pub record IsNextWork (w : Walk) (k : ℕ) (rest : List Event) (v : ℕ) (hand : Hand) (e : Event) : Type 0 where
  pub reply : Reply
  pub more : List Record
  pub changes : dids more ≡ filter (mine (length w.program.callers + v)) (placed (suc k) rest)
  pub is : IsWork w.meanings (state_at w.program.plan w.history (suc k - 1)) hand e
  pub work : AreWork w.meanings w.program.plan w.history (held_after e reply) more
  pub answer : IsAnswered w.program.plan w.history (Did (suc k) e reply)
  pub answers : All (IsAnswered w.program.plan w.history) more

next-work : (w : Walk) (k : ℕ) (rest : List Event) (v : ℕ) (hand : Hand) (e : Event) (left : List Record) →
    dids left ≡ (suc k, e) ∷ filter (mine (length w.program.callers + v)) (placed (suc k) rest) → AreWork w.meanings w.program.plan w.history hand left →
    All (IsAnswered w.program.plan w.history) left → IsNextWork w k rest v hand e
next-work w k rest v hand e [] is work answers = absurd (let impossible : ⊥ = cc in impossible)
next-work w k rest v hand e (Did place event reply ∷ left) is work answers =
    let xs = filter (mine (length w.program.callers + v)) (placed (suc k) rest) in
    let plan = w.program.plan in
    let both = same-first (place, event) (suc k, e) (dids left) xs is in
    record {
      reply = reply;
      more = left;
      changes = same-rest (place, event) (suc k, e) (dids left) xs is;
      is = subst (λ (x : ℕ × Event). IsWork w.meanings (state_at plan w.history (x.0 - 1)) hand x.1) both work.0;
      work = subst (λ (x : ℕ × Event). AreWork w.meanings plan w.history (held_after x.1 reply) left) both work.1;
      answer = subst (λ (x : ℕ × Event). IsAnswered plan w.history (Did x.0 x.1 reply)) both (All-head (IsAnswered plan w.history) (Did place event reply) left answers);
      answers = All-tail (IsAnswered plan w.history) (Did place event reply) left answers;
    }
next-work w k rest v hand e (Saw place ask answer ∷ left) is work answers =
    next-work w k rest v hand e left is work (All-tail (IsAnswered w.program.plan w.history) (Saw place ask answer) left answers)

and-false : (b : Bool) → (b && false) ≡ false
and-false true = refl
and-false false = refl

-- ---- a walk with one event of a worker more

work-done : (w : Walk) (k : ℕ) (done : List Event) (e : Event) (rest : List Event) (v : ℕ) → who_of e ≡ length w.program.callers + v → (h : Asked w k (length w.program.callers) done (e ∷ rest)) →
    (order : List Move) (t : Situated) (x : Hand) → Comes w (suc k) (done ++ e ∷ []) order t →
    ((d : ℕ) (left : List Record) → Stands w (suc k) 0 rest h.order d (place_at h.s d) left → Stands w (suc k) 0 rest order d (place_at t d) left) →
    hand_at t v ≡ x → ((u : ℕ) → (u ≡ v → ⊥) → hand_at t u ≡ hand_at h.s u) → WorkStand w (suc k) rest v x → Asked w (suc k) 0 (done ++ e ∷ []) rest
work-done w k done e rest v who h order t x comes still held others own = record {
  order = order;
  s = t;
  comes = comes;
  each = λ d less. (let one = h.each d less in
      (one.0, still d one.0 (other-later w k (length w.program.callers) e rest h.order d (place_at h.s d) one.0 less (λ same. absurd (omega (arith, same, who))) one.1)));
  working = λ u less. split u less (same_number u v);
}
  where
    split : (u : ℕ) → u < w.program.workers → (u ≡ v) ⊎ (u ≡ v → ⊥) → WorkStand w (suc k) rest u (hand_at t u)
    split u less (inl is) = subst (λ (y : ℕ). WorkStand w (suc k) rest y (hand_at t y)) (sym is) (subst (λ (y : Hand). WorkStand w (suc k) rest v y) (sym held) own)
    split u less (inr other) =
        subst (λ (y : Hand). WorkStand w (suc k) rest u y) (sym (others u other))
        (work-later w k e rest u (hand_at h.s u) (λ same. other (omega (arith, same, who))) (h.working u less))

-- what one event of a worker comes to
abbrev pub WorkGoal : Walk → ℕ → List Event → List Event → ℕ → Hand → Event → Type 0
WorkGoal w k done rest v hand e =
    done ++ e ∷ rest ≡ w.history → EventFits (length (state_after (start w.program.plan) done).plan.stages) e → (h : Asked w k (length w.program.callers) done (e ∷ rest)) →
    hand_at h.s v ≡ hand → IsNextWork w k rest v hand e → Asked w (suc k) 0 (done ++ e ∷ []) rest

-- a claim in vain is no move
vain : (w : Walk) (k : ℕ) (done rest : List Event) (v i : ℕ) (answer : Claimed) → done ++ Claims (length w.program.callers + v) i ∷ rest ≡ w.history →
    (h : Asked w k (length w.program.callers) done (Claims (length w.program.callers + v) i ∷ rest)) → hand_at h.s v ≡ hands.Idle → IsNextWork w k rest v hands.Idle (Claims (length w.program.callers + v) i) →
    claiming h.s.state (length w.program.callers + v) i ≡ (answer, h.s.state) → hand_of i answer ≡ hands.Idle → grants (ToldClaim answer) ≡ false →
    Asked w (suc k) 0 (done ++ Claims (length w.program.callers + v) i ∷ []) rest
vain w k done rest v i answer whole h idle own is held none =
    let n = length w.program.callers in
    let e : Event = Claims (n + v) i in
    let s = h.s in
    let now : s.state ≡ state_after (start w.program.plan) done = h.comes.state in
    let reply : own.reply ≡ ToldClaim answer = says-now w k done e rest h.order s own.reply whole h.comes own.answer ∙ ap (λ (x : Claimed × State). ToldClaim x.0) is in
    let there : answered (state_after (start w.program.plan) done) e ≡ (ToldClaim answer, s.state) =
    ap (λ (x : State). answered x e) (sym now) ∙ ap (λ (x : Claimed × State). (ToldClaim x.0, x.1)) is in
    let behind : is_vain n e (answered (state_after (start w.program.plan) done) e).0 ≡ true =
    ap (λ (x : Reply × State). is_vain n e x.0) there
    ∙ ap (λ (b : Bool). nat_le n (n + v) && not b) none
    ∙ ap (λ (b : Bool). b && true) (le-leb n (n + v) (omega arith)) in
    work-done w k done e rest v refl h h.order s hands.Idle (record {
      can_be = h.comes.can_be;
      leads = h.comes.leads;
      events = h.comes.events ∙ sym (but_vain-left n (start w.program.plan) done e behind);
      so_many = (let so = h.comes.so_many in omega (arith, length-append done (e ∷ [])));
      state = sym (ap (λ (x : Reply × State). x.1) there) ∙ sym (state_after-append (start w.program.plan) done (e ∷ []));
      places = h.comes.places;
      hands = h.comes.hands;
    }) (λ d left stands. stands) idle (λ u other. refl)
    (own.more, own.changes, subst (λ (x : Hand). AreWork w.meanings w.program.plan w.history x own.more) (ap (held_after e) reply ∙ held) own.work, own.answers)

-- one that is granted is one
granted : (w : Walk) (k : ℕ) (done rest : List Event) (v i : ℕ) (args : Args) → v < w.program.workers → done ++ Claims (length w.program.callers + v) i ∷ rest ≡ w.history →
    (h : Asked w k (length w.program.callers) done (Claims (length w.program.callers + v) i ∷ rest)) → i < length h.s.state.plan.stages → hand_at h.s v ≡ hands.Idle →
    IsNextWork w k rest v hands.Idle (Claims (length w.program.callers + v) i) → stage_at h.s.state i ≡ Ready args →
    Asked w (suc k) 0 (done ++ Claims (length w.program.callers + v) i ∷ []) rest
granted w k done rest v i args l whole h there idle own ready =
    let p = w.program in
    let n = length p.callers in
    let e : Event = Claims (n + v) i in
    let s = h.s in
    let by : Move = moving.Claim v i in
    let now : s.state ≡ state_after (start p.plan) done = h.comes.state in
    let grant : (claiming s.state (n + v) i).0 ≡ claimed.Granted args = ap (λ (x : Stage). (claimed_by x s.state (n + v) i).0) ready in
    let reply : own.reply ≡ ToldClaim (claimed.Granted args) = says-now w k done e rest h.order s own.reply whole h.comes own.answer ∙ ap (λ (x : Claimed). ToldClaim x) grant in
    let took : is_vain n e (answered (state_after (start p.plan) done) e).0 ≡ false =
    ap (λ (x : State). is_vain n e (answered x e).0) (sym now)
    ∙ ap (λ (x : Claimed). nat_le n (n + v) && not (grants (ToldClaim x))) grant
    ∙ and-false (nat_le n (n + v)) in
    let t : Situated = claim_by s v i (claiming s.state (n + v) i) in
    let within : v < length s.hands = (let so = h.comes.hands in omega arith) in
    let x : Hand = hand_of i (claiming s.state (n + v) i).0 in
    let held : x ≡ hands.Granted i args = ap (hand_of i) grant in
    work-done w k done e rest v refl h (h.order ++ by ∷ []) t (hands.Granted i args)
    (comes-more w k (suc k) done (done ++ e ∷ []) h.order s t by (Some e) h.comes
    (may-work p s v hands.Idle by l idle (claims s.state v i args ready (length s.state.plan.stages) there))
    (moved-claim w.meanings p s v i l there) (event-claim p s v i l) (but_vain-took n (start p.plan) done e took)
    (let so = h.comes.so_many in omega (arith, length-append done (e ∷ [])))
    (ap (λ (y : State). (answered y e).1) now ∙ sym (state_after-append (start p.plan) done (e ∷ []))) refl (length-set s.hands v x))
    (λ d left stands. stands-still w (suc k) 0 rest h.order by d (place_at s d) (place_at t d) left refl stands)
    (hand-self s.hands v x within ∙ held) (λ u other. hand-other s.hands v u x other)
    (own.more, own.changes, subst (λ (y : Hand). AreWork w.meanings p.plan w.history y own.more) (ap (held_after e) reply) own.work, own.answers)

claim-by : (w : Walk) (k : ℕ) (done rest : List Event) (v i : ℕ) → v < w.program.workers → done ++ Claims (length w.program.callers + v) i ∷ rest ≡ w.history →
    (h : Asked w k (length w.program.callers) done (Claims (length w.program.callers + v) i ∷ rest)) → i < length h.s.state.plan.stages → hand_at h.s v ≡ hands.Idle →
    IsNextWork w k rest v hands.Idle (Claims (length w.program.callers + v) i) → (x : Stage) → stage_at h.s.state i ≡ x →
    Asked w (suc k) 0 (done ++ Claims (length w.program.callers + v) i ∷ []) rest
claim-by w k done rest v i l whole h there idle own (Ready args) is = granted w k done rest v i args l whole h there idle own is
claim-by w k done rest v i l whole h there idle own (Settled o) is =
    vain w k done rest v i claimed.Settled whole h idle own (ap (λ (x : Stage). claimed_by x h.s.state (length w.program.callers + v) i) is) refl refl
claim-by w k done rest v i l whole h there idle own IsClaimed is =
    vain w k done rest v i claimed.Taken whole h idle own (ap (λ (x : Stage). claimed_by x h.s.state (length w.program.callers + v) i) is) refl refl
claim-by w k done rest v i l whole h there idle own (Linked j) is =
    vain w k done rest v i claimed.Taken whole h idle own (ap (λ (x : Stage). claimed_by x h.s.state (length w.program.callers + v) i) is) refl refl
claim-by w k done rest v i l whole h there idle own Pending is =
    vain w k done rest v i claimed.NotReady whole h idle own (ap (λ (x : Stage). claimed_by x h.s.state (length w.program.callers + v) i) is) refl refl

claim-event : (w : Walk) (k : ℕ) (done rest : List Event) (v i : ℕ) → v < w.program.workers → WorkGoal w k done rest v hands.Idle (Claims (length w.program.callers + v) i)
claim-event w k done rest v i l whole fits h idle own =
    let there : i < length h.s.state.plan.stages = subst (λ (x : State). i < length x.plan.stages) (sym h.comes.state) fits in
    claim-by w k done rest v i l whole h there idle own (stage_at h.s.state i) refl

-- a finish is two: the call of the function, and the finish
finish-event : (w : Walk) (k : ℕ) (done rest : List Event) (v i : ℕ) (args : Args) (answer : Answer) → v < w.program.workers → done ++ Finishes (length w.program.callers + v) i answer ∷ rest ≡ w.history →
    EventFits (length (state_after (start w.program.plan) done).plan.stages) (Finishes (length w.program.callers + v) i answer) →
    (h : Asked w k (length w.program.callers) done (Finishes (length w.program.callers + v) i answer ∷ rest)) → hand_at h.s v ≡ hands.Granted i args →
    IsNextWork w k rest v (hands.Granted i args) (Finishes (length w.program.callers + v) i answer) → stage_answer w.meanings h.s.state.plan.stages i args ≡ answer →
    Asked w (suc k) 0 (done ++ Finishes (length w.program.callers + v) i answer ∷ []) rest
finish-event w k done rest v i args answer l whole fits h held own gives =
    let p = w.program in
    let n = length p.callers in
    let e : Event = Finishes (n + v) i answer in
    let s = h.s in
    let now : s.state ≡ state_after (start p.plan) done = h.comes.state in
    let there : i < length s.state.plan.stages = subst (λ (x : State). i < length x.plan.stages) (sym now) fits in
    let within : v < length s.hands = (let so = h.comes.hands in omega arith) in
    let given : Answer = stage_answer w.meanings s.state.plan.stages i args in
    let x : Hand = hands.Called i given in
    let t : Situated = call_by w.meanings s v (hands.Granted i args) in
    let called : Comes w k done (h.order ++ moving.Call v ∷ []) t =
    comes-more w k k done done h.order s t (moving.Call v) None h.comes
    (may-work p s v (hands.Granted i args) (moving.Call v) l held (contains-first (moving.Call v) []))
    (moved-call w.meanings p s v (hands.Granted i args) held) refl (sym (append-nil (but_vain n (start p.plan) done))) h.comes.so_many now refl (length-set s.hands v x) in
    let has : hand_at t v ≡ hands.Called i answer = hand-self s.hands v x within ∙ ap (λ (y : Answer). hands.Called i y) gives in
    let u : Situated = finished_at t v (n + v) i answer in
    let inside : v < length t.hands = (let so = called.hands in omega arith) in
    let ends : Comes w (suc k) (done ++ e ∷ []) ((h.order ++ moving.Call v ∷ []) ++ moving.Finish v ∷ []) u =
    comes-more w k (suc k) done (done ++ e ∷ []) (h.order ++ moving.Call v ∷ []) t u (moving.Finish v) (Some e) called
    (may-work p t v (hands.Called i answer) (moving.Finish v) l has (contains-first (moving.Finish v) []))
    (moved-finish w.meanings p t v i answer l there has) (event-finish p t v i answer l has) (but_vain-took n (start p.plan) done e refl)
    (let so = h.comes.so_many in omega (arith, length-append done (e ∷ [])))
    (ap (λ (y : State). (answered y e).1) now ∙ sym (state_after-append (start p.plan) done (e ∷ []))) refl (length-set t.hands v hands.Idle) in
    work-done w k done e rest v refl h ((h.order ++ moving.Call v ∷ []) ++ moving.Finish v ∷ []) u hands.Idle ends
    (λ d left stands.
    stands-still w (suc k) 0 rest (h.order ++ moving.Call v ∷ []) (moving.Finish v) d (place_at t d) (place_at u d) left refl
    (stands-still w (suc k) 0 rest h.order (moving.Call v) d (place_at s d) (place_at t d) left refl stands))
    (hand-self t.hands v hands.Idle inside)
    (λ y other. hand-other t.hands v y hands.Idle other ∙ hand-other s.hands v y x other)
    (own.more, own.changes, own.work, own.answers)

-- by what it has in hand
work-by : (w : Walk) (k : ℕ) (done : List Event) (e : Event) (rest : List Event) (v : ℕ) (hand : Hand) → v < w.program.workers → who_of e ≡ length w.program.callers + v → WorkGoal w k done rest v hand e
work-by w k done e rest v hands.Idle l who whole fits h held own =
    let n = length w.program.callers in
    let i = own.is.0 in
    let is : Claims (n + v) i ≡ e = ap (λ (x : ℕ). Claims x i) (sym who) ∙ sym own.is.1 in
    subst (λ (x : Event). WorkGoal w k done rest v hands.Idle x) is (claim-event w k done rest v i l) whole fits h held own
work-by w k done e rest v (hands.Granted i args) l who whole fits h held own =
    let n = length w.program.callers in
    let before = state-now w k done e rest h.order h.s whole h.comes in
    let given : Answer = stage_answer w.meanings (state_at w.program.plan w.history (suc k - 1)).plan.stages i args in
    let gives : stage_answer w.meanings h.s.state.plan.stages i args ≡ given = ap (λ (x : State). stage_answer w.meanings x.plan.stages i args) (sym before) in
    let is : Finishes (n + v) i given ≡ e = ap (λ (x : ℕ). Finishes x i given) (sym who) ∙ sym own.is in
    finish-by w k done e rest v i args given l is whole fits h held own gives
  where
    finish-by : (w : Walk) (k : ℕ) (done : List Event) (e : Event) (rest : List Event) (v i : ℕ) (args : Args) (answer : Answer) → v < w.program.workers →
        Finishes (length w.program.callers + v) i answer ≡ e → done ++ e ∷ rest ≡ w.history → EventFits (length (state_after (start w.program.plan) done).plan.stages) e →
        (h : Asked w k (length w.program.callers) done (e ∷ rest)) → hand_at h.s v ≡ hands.Granted i args → IsNextWork w k rest v (hands.Granted i args) e →
        stage_answer w.meanings h.s.state.plan.stages i args ≡ answer → Asked w (suc k) 0 (done ++ e ∷ []) rest
    finish-by w k done e rest v i args answer l is =
        subst (λ (x : Event). done ++ x ∷ rest ≡ w.history → EventFits (length (state_after (start w.program.plan) done).plan.stages) x →
        (h : Asked w k (length w.program.callers) done (x ∷ rest)) → hand_at h.s v ≡ hands.Granted i args → IsNextWork w k rest v (hands.Granted i args) x →
        stage_answer w.meanings h.s.state.plan.stages i args ≡ answer → Asked w (suc k) 0 (done ++ x ∷ []) rest) is
        (finish-event w k done rest v i args answer l)
work-by w k done e rest v (hands.Called i answer) l who whole fits h held own = absurd own.is

pub one-work : (w : Walk) (k : ℕ) (done : List Event) (e : Event) (rest : List Event) (v : ℕ) → done ++ e ∷ rest ≡ w.history → v < w.program.workers → who_of e ≡ length w.program.callers + v →
    EventFits (length (state_after (start w.program.plan) done).plan.stages) e → Asked w k (length w.program.callers) done (e ∷ rest) → Asked w (suc k) 0 (done ++ e ∷ []) rest
one-work w k done e rest v whole l who fits h =
    let own = h.working v l in
    let first = own.1 ∙ mine-first (length w.program.callers + v) k e rest who in
    work-by w k done e rest v (hand_at h.s v) l who whole fits h refl (next-work w k rest v (hand_at h.s v) e own.0 first own.2 own.3)

-- ---- the end

-- a worker that has nothing to do any more has nothing in hand
idle-left : (m : Meanings) (plan : Planned) (history : List Event) (hand : Hand) (left : List Record) → dids left ≡ [] → AreWork m plan history hand left → hand ≡ hands.Idle
idle-left m plan history hand [] none h = h
idle-left m plan history hand (Did place event reply ∷ left) none h = absurd (let impossible : ⊥ = cc in impossible)
idle-left m plan history hand (Saw place ask answer ∷ left) none h = idle-left m plan history hand left none h

no-claim : (v i : ℕ) (x : Stage) → is_ready x ≡ false → claim_moves v i x ≡ []
no-claim v i (Ready args) h = absurd (let impossible : ⊥ = cc in impossible)
no-claim v i (Settled o) h = refl
no-claim v i IsClaimed h = refl
no-claim v i (Linked j) h = refl
no-claim v i Pending h = refl

no-claims : (s : State) (v : ℕ) → lowest_ready_of s ≡ None → (n : ℕ) → claims_by s v n ≡ []
no-claims s v none zero = refl
no-claims s v none (suc n) = ap (λ l. l ++ claim_moves v n (stage_at s n)) (no-claims s v none n) ∙ no-claim v n (stage_at s n) (lowest_ready-none s none n)

-- nor a move, where nothing is ready
pub no-work : (w : Walk) (k : ℕ) (s : Situated) → ((v : ℕ) → v < w.program.workers → WorkStand w k [] v (hand_at s v)) → ((v : ℕ) → v < w.program.workers → lowest_ready_of s.state ≡ None) →
    (n : ℕ) → n ≤ w.program.workers → worker_moves s n ≡ []
no-work w k s working rest zero l = refl
no-work w k s working rest (suc n) l =
    let less : n < w.program.workers = omega arith in
    let own = working n less in
    let idle : hand_at s n ≡ hands.Idle = idle-left w.meanings w.program.plan w.history (hand_at s n) own.0 own.1 own.2 in
    ap (λ l. l ++ moves_by_hand s n (hand_at s n)) (no-work w k s working rest n (omega arith))
    ∙ ap (moves_by_hand s n) idle
    ∙ no-claims s.state n (rest n less) (length s.state.plan.stages)
