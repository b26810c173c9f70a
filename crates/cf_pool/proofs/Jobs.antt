-- What a worker's calls add, and how that adds up.
use Rattle.std.proofs.Common.{◌≡◌, ℕ, ◌+◌, ◌<◌, ◌≤◌, inl, inr, Bool, true, false, cond, Option, Some, None, List, [], ◌∷◌, ◌++◌, length, sym, refl, ap, ◌∙◌, subst, append-nil, append_assoc, length-append, arith}
use Rattle.std.specs.Prelude.{◌==◌}
use Rattle.std.proofs.lemmas.Bool.{cases_lt, eqb-true}
use Rattle.cf_forms.specs.declared.forms.Answer.{Answer}
use Rattle.cf_forms.specs.declared.forms.Args.{Args}
use Rattle.cf_forms.specs.Plans.{Planned}
use Rattle.cf_model.specs.declared.events.Event.{Event}
use Rattle.cf_model.specs.declared.events.Event.TheVariants.{Claim as Claims}
use Rattle.cf_model.specs.declared.events.Reply.{Reply}
use Rattle.cf_model.specs.declared.events.Reply.TheVariants.{Flag as ToldFlag, Claim as ToldClaim, Finish as ToldFinish, Tick as ToldTick, Attach as ToldAttach}
use Rattle.cf_model.specs.declared.replies.Claimed.TheVariants.{Granted, Settled as IsSettled, Taken, NotReady}
use Rattle.cf_model.specs.declared.replies.Finished.TheVariants.{Won, Late, NotYours}
use Rattle.cf_model.specs.States.{State, stage_at, is_ready, lowest_ready_of}
use Rattle.cf_model.specs.Events.{answered, state_after}
use Rattle.cf_model.specs.Claims.{is_claimable}
use Rattle.cf_model.specs.Growth.{Grows}
use Rattle.cf_model.proofs.Claimable.{state_after-not_claimable}
use Rattle.cf_model.proofs.Histories.{claiming-not_claimable, is_pending, ready-claimable, ready-not_pending, state_after-append, state_after-not_pending}
use Rattle.cf_model.proofs.LowestReady.{lowest_ready-is_ready}
use Rattle.cf_pool.specs.Answering.{Answers, MayAnswer}
use Rattle.cf_model.specs.declared.calls.Call.{Call}
use Rattle.cf_model.specs.declared.calls.Call.TheVariants.{Claim, Finish}
use Rattle.cf_desk.specs.declared.calls.Rec.{Rec}
use Rattle.cf_desk.specs.declared.calls.Rec.TheVariants.{Did}
use Rattle.cf_desk.specs.declared.faults.DeskFault.{DeskFault}
use Rattle.cf_desk.specs.declared.row.CallerView.{CallerView}
use Rattle.cf_model.specs.Calls.{event_by}
use Rattle.cf_desk.specs.Faults.{HasRoom, IsOnStage}
use Rattle.cf_desk.specs.Results.{Refuses}
use Rattle.cf_desk.specs.Views.{Acts, Follows, Pass, Desk, state_of}
use Rattle.cf_desk.proofs.Passes.{follows_longer, same_acts, same_follows}
use Rattle.cf_pool.specs.declared.worker.Done.{Done}
use Rattle.cf_pool.specs.Counting.{Counts, EndedWith, grant_at, late_at, late_by, total_by, won_at, won_by}
use Rattle.cf_pool.specs.Jobs.{AddsCounted, AddsWork, DoesJob, StopsJob, granted_by, sum_of}
use Rattle.cf_pool.specs.Stops.{MeetsFault, Stops}
use Rattle.cf_pool.specs.Waits.{Idles, LooksBefore, Waits, last_place}
use Rattle.cf_pool.specs.Works.{AreWork, Owed, Works, claims_of, owed_after, owed_by}
use Rattle.cf_pool.proofs.Working.{answer_stays, goes_on_from, more_stages, owed_as, owed_claim, pass_grows, refuses_known, work_grown}
use Rattle.cf_pool.proofs.Waiting.{idles_since, last_place-append, last_place-mono, looks_none, looks_on}

-- ---- states that a pass has seen

still_spent : (p q : Pass) (seen : List Event) (i : ℕ) → q.known.setting ≡ p.known.setting → q.known.seen ≡ p.known.seen ++ seen → is_claimable (stage_at (state_of p.known) i) ≡ false → is_claimable (stage_at (state_of q.known) i) ≡ false
still_spent p q seen i same on e =
    subst (λ s. is_claimable (stage_at s i) ≡ false) (sym (goes_on_from p q seen same on)) (state_after-not_claimable (state_of p.known) seen i e)

before_too : (x y : Bool) → (x ≡ false → y ≡ false) → y ≡ true → x ≡ true
before_too true y h e = refl
before_too false y h e = let f = h refl in cc

-- ---- records

owed-append : (owed : Owed) (xs ys : List Rec) → owed_after owed (xs ++ ys) ≡ owed_after (owed_after owed xs) ys
owed-append owed [] ys = refl
owed-append owed (x ∷ xs) ys = owed-append (owed_by x) xs ys

work-append : (answers : Answers) (plan : Planned) (owed : Owed) (xs ys : List Rec) → AreWork answers plan owed xs → AreWork answers plan (owed_after owed xs) ys → AreWork answers plan owed (xs ++ ys)
work-append answers plan owed [] ys f g = g
work-append answers plan owed (x ∷ xs) ys f g = (f.0, work-append answers plan (owed_by x) xs ys f.1 g)

claims-append : (i : ℕ) (xs ys : List Rec) → claims_of i (xs ++ ys) ≡ claims_of i xs + claims_of i ys
claims-append i [] ys = omega arith
claims-append i (x ∷ xs) ys = let rest = claims-append i xs ys in omega arith

total-append : (count : Rec → ℕ) (xs ys : List Rec) → total_by count (xs ++ ys) ≡ total_by count xs + total_by count ys
total-append count [] ys = omega arith
total-append count (x ∷ xs) ys = let rest = total-append count xs ys in omega arith

counts_then : (a b : Done) (xs ys : List Rec) → Counts a xs → Counts b ys → Counts (sum_of a b) (xs ++ ys)
counts_then a b xs ys f g = record {
  run = (let t = total-append grant_at xs ys in let x = f.run in let y = g.run in omega arith);
  won = (let t = total-append won_at xs ys in let x = f.won in let y = g.won in omega arith);
  late = (let t = total-append late_at xs ys in let x = f.late in let y = g.late in omega arith);
}

abbrev grants_as : Option Args → ℕ
grants_as None = 0
grants_as (Some args) = 1

grant_claim : (place i : ℕ) (reply : Reply) → grant_at (Did place (Claim i) reply) ≡ grants_as (granted_by reply)
grant_claim place i (ToldFlag b) = refl
grant_claim place i (ToldClaim (Granted args)) = refl
grant_claim place i (ToldClaim IsSettled) = refl
grant_claim place i (ToldClaim Taken) = refl
grant_claim place i (ToldClaim NotReady) = refl
grant_claim place i (ToldFinish f) = refl
grant_claim place i (ToldTick t) = refl
grant_claim place i (ToldAttach a) = refl

won_by-few : (reply : Reply) → won_by reply ≤ 1
won_by-few (ToldFlag b) = omega arith
won_by-few (ToldClaim c) = omega arith
won_by-few (ToldFinish Won) = omega arith
won_by-few (ToldFinish Late) = omega arith
won_by-few (ToldFinish NotYours) = omega arith
won_by-few (ToldTick t) = omega arith
won_by-few (ToldAttach a) = omega arith

late_by-few : (reply : Reply) → late_by reply ≤ 1
late_by-few (ToldFlag b) = omega arith
late_by-few (ToldClaim c) = omega arith
late_by-few (ToldFinish Won) = omega arith
late_by-few (ToldFinish Late) = omega arith
late_by-few (ToldFinish NotYours) = omega arith
late_by-few (ToldTick t) = omega arith
late_by-few (ToldAttach a) = omega arith

one_claim : (b : Bool) → 0 < cond b 1 0 + 0 → b ≡ true
one_claim true h = refl
one_claim false h = absurd (omega arith)

few_claims : (b : Bool) → cond b 1 0 + 0 ≤ 1
few_claims true = omega arith
few_claims false = omega arith

-- ---- what calls add

pub adds_itself : (answers : Answers) (owed : Owed) (p : Pass) → AddsWork answers owed p p owed
adds_itself answers owed p = record {
  same = (refl, refl, refl, refl);
  seen = [];
  goes_on = sym (append-nil p.known.seen);
  more = [];
  records = sym (append-nil p.records);
  work = tt;
  owes_then = refl;
  once = λ i. omega arith;
  fresh = λ i h. absurd (omega arith);
  placed = omega arith;
  spent = λ i h. absurd (omega arith);
}

pub adds_follows : (answers : Answers) (owed : Owed) (p q : Pass) → Follows p q → AddsWork answers owed p q owed
adds_follows answers owed p q f = record {
  same = same_follows p q f;
  seen = f.caught.others;
  goes_on = ap (λ (h : Pass). h.known.seen) f.is ∙ f.caught.joined;
  more = [];
  records = ap (λ (h : Pass). h.records) f.is ∙ sym (append-nil p.records);
  work = tt;
  owes_then = refl;
  once = λ i. omega arith;
  fresh = λ i h. absurd (omega arith);
  placed = follows_longer p q f;
  spent = λ i h. absurd (omega arith);
}

acts_on : (p q : Pass) (call : Call) (reply : Reply) (a : Acts p call reply q) → q.known.seen ≡ p.known.seen ++ (a.caught.others ++ event_by p.known.caller call ∷ [])
acts_on p q call reply a =
    let e = event_by p.known.caller call in
    ap (λ (h : Pass). h.known.seen) a.is ∙ ap (λ l. l ++ e ∷ []) a.caught.joined ∙ append_assoc p.known.seen a.caught.others (e ∷ [])

pub acts_grow : (p q : Pass) (call : Call) (reply : Reply) → Acts p call reply q → Grows (state_of p.known) (state_of q.known)
acts_grow p q call reply a = pass_grows p q (a.caught.others ++ event_by p.known.caller call ∷ []) (same_acts p q call reply a).1 (acts_on p q call reply a)

-- a stage that it knew is still there
pub still_there : (p q : Pass) (i : ℕ) (call : Call) (reply : Reply) → Acts p call reply q → i < length (state_of p.known).plan.stages → i < length (state_of q.known).plan.stages
still_there p q i call reply a l = let more = more_stages (state_of p.known) (state_of q.known) (acts_grow p q call reply a) in omega (arith, l, more)

-- the record's place is that of the event
acts_placed : (p q : Pass) (call : Call) (reply : Reply) (a : Acts p call reply q) → (length p.known.seen < length a.before + 1) × (length a.before + 1 ≤ length q.known.seen)
acts_placed p q call reply a =
    let e = event_by p.known.caller call in
    let longer = ap length a.caught.joined in
    let parts = length-append p.known.seen a.caught.others in
    let len = ap (λ (h : Pass). length h.known.seen) a.is in
    let more = length-append a.before (e ∷ []) in
    (omega arith, omega arith)

pub adds_finish : (answers : Answers) (p q : Pass) (i : ℕ) (args : Args) (answer : Answer) (reply : Reply) → i < length (state_of p.known).plan.stages → MayAnswer answers (state_of p.known).plan.stages i args answer → Acts p (Finish i answer) reply q → AddsWork answers (Some (i, args)) p q None
adds_finish answers p q i args answer reply there may a =
    let call = Finish i answer in record {
      same = same_acts p q call reply a;
      seen = a.caught.others ++ event_by p.known.caller call ∷ [];
      goes_on = acts_on p q call reply a;
      more = Did (length a.before + 1) call reply ∷ [];
      records = ap (λ (h : Pass). h.records) a.is;
      work = ((refl, answer_stays answers (state_of p.known) (state_of q.known) i args answer (acts_grow p q call reply a) there may), tt);
      owes_then = refl;
      once = λ i. omega arith;
      fresh = λ i h. absurd (omega arith);
      placed = (acts_placed p q call reply a).1;
      spent = λ i h. absurd (omega arith);
    }

claim_spent : (p q : Pass) (i : ℕ) (reply : Reply) → Acts p (Claim i) reply q → is_ready (stage_at (state_of p.known) i) ≡ true → is_claimable (stage_at (state_of q.known) i) ≡ false
claim_spent p q i reply a ready =
    let plan = p.known.setting.plan in
    let e = Claims p.known.caller i in
    let on : q.known.seen ≡ p.known.seen ++ (a.caught.others ++ e ∷ []) = acts_on p q (Claim i) reply a in
    let then : State = state_after (state_of p.known) a.caught.others in
    let is : state_of q.known ≡ (answered then e).1 =
    goes_on_from p q (a.caught.others ++ e ∷ []) (ap (λ (h : Pass). h.known.setting) a.is) on ∙ state_after-append (state_of p.known) a.caught.others (e ∷ []) in
    let waits : is_pending (stage_at then i) ≡ false = state_after-not_pending (state_of p.known) a.caught.others i (ready-not_pending (stage_at (state_of p.known) i) ready) in
    subst (λ s. is_claimable (stage_at s i) ≡ false) (sym is) (claiming-not_claimable then p.known.caller i waits)

pub adds_claim : (answers : Answers) (p q : Pass) (i : ℕ) (reply : Reply) → Acts p (Claim i) reply q → i < length (state_of p.known).plan.stages → is_ready (stage_at (state_of p.known) i) ≡ true → AddsWork answers None p q (owed_as i (granted_by reply))
adds_claim answers p q i reply a there ready = record {
  same = same_acts p q (Claim i) reply a;
  seen = a.caught.others ++ event_by p.known.caller (Claim i) ∷ [];
  goes_on = acts_on p q (Claim i) reply a;
  more = Did (length a.before + 1) (Claim i) reply ∷ [];
  records = ap (λ (h : Pass). h.records) a.is;
  work = (still_there p q i (Claim i) reply a there, tt);
  owes_then = owed_claim (length a.before + 1) i reply;
  once = λ j. few_claims (j == i);
  fresh = λ j h. subst (λ k. is_claimable (stage_at (state_of p.known) k) ≡ true) (sym (eqb-true j i (one_claim (j == i) h))) (ready-claimable (stage_at (state_of p.known) i) ready);
  placed = (acts_placed p q (Claim i) reply a).1;
  spent = λ j h. subst (λ k. is_claimable (stage_at (state_of q.known) k) ≡ false) (sym (eqb-true j i (one_claim (j == i) h))) (claim_spent p q i reply a ready);
}

adds_owing : (answers : Answers) (owed owes then : Owed) (p q : Pass) → owes ≡ then → AddsWork answers owed p q owes → AddsWork answers owed p q then
adds_owing answers owed owes then p q e a = record {
  same = a.same;
  seen = a.seen;
  goes_on = a.goes_on;
  more = a.more;
  records = a.records;
  work = a.work;
  owes_then = a.owes_then ∙ e;
  once = a.once;
  fresh = a.fresh;
  placed = a.placed;
  spent = a.spent;
}

-- ---- one after another

no_both : (x : Bool) → x ≡ false → x ≡ true → ⊥
no_both true e f = cc
no_both false e f = cc

pub adds_then : (answers : Answers) (then owes : Owed) (p q r : Pass) → AddsWork answers None p q then → AddsWork answers then q r owes → AddsWork answers None p r owes
adds_then answers then owes p q r a b =
    let last = (state_of r.known).plan in
    let grows : Grows (state_of q.known) (state_of r.known) = pass_grows q r b.seen b.same.1 b.goes_on in
    let counted = λ (i : ℕ). claims-append i a.more b.more in
    let spent_once : (i : ℕ) → 0 < claims_of i a.more → 0 < claims_of i b.more → ⊥ = λ i x y. no_both (is_claimable (stage_at (state_of q.known) i)) (a.spent i x) (b.fresh i y) in
    record {
      same = (b.same.0 ∙ a.same.0, b.same.1 ∙ a.same.1, b.same.2 ∙ a.same.2, b.same.3 ∙ a.same.3);
      seen = a.seen ++ b.seen;
      goes_on = b.goes_on ∙ ap (λ l. l ++ b.seen) a.goes_on ∙ append_assoc p.known.seen a.seen b.seen;
      more = a.more ++ b.more;
      records = b.records ∙ ap (λ l. l ++ b.more) a.records ∙ append_assoc p.records a.more b.more;
      work = work-append answers last None a.more b.more (work_grown answers (state_of q.known) (state_of r.known) a.more grows a.work)
          (subst (λ o. AreWork answers last o b.more) (sym a.owes_then) b.work);
      owes_then = owed-append None a.more b.more ∙ ap (λ o. owed_after o b.more) a.owes_then ∙ b.owes_then;
      once = λ i. (let c = claims-append i a.more b.more in let x = a.once i in let y = b.once i in
          elim (cases_lt 0 (claims_of i a.more)) [
            | inl l ↦ elim (cases_lt 0 (claims_of i b.more)) [ inl m ↦ absurd (spent_once i l m) | inr m ↦ omega arith ]
            | inr l ↦ omega arith
          ]);
      fresh = λ i h. (let c = claims-append i a.more b.more in
          elim (cases_lt 0 (claims_of i a.more)) [
            | inl l ↦ a.fresh i l
            | inr l ↦ before_too (is_claimable (stage_at (state_of p.known) i)) (is_claimable (stage_at (state_of q.known) i)) (still_spent p q a.seen i a.same.1 a.goes_on) (b.fresh i (omega arith))
          ]);
      placed = (let whole = last_place-append (length p.known.seen) a.more b.more in
          let later = last_place-mono (last_place (length p.known.seen) a.more) (length q.known.seen) b.more a.placed in
          let end = b.placed in omega arith);
      spent = λ i h. (let c = claims-append i a.more b.more in
          elim (cases_lt 0 (claims_of i b.more)) [
            | inl l ↦ b.spent i l
            | inr l ↦ still_spent q r b.seen i b.same.1 b.goes_on (a.spent i (omega arith))
          ]);
    }

-- ---- what is counted

pub does_itself : (answers : Answers) (p : Pass) → length p.records ≤ p.calls → AddsCounted answers None p p (record { run = 0; won = 0; late = 0 })
unfolding adds_itself
does_itself answers p room = record {
  adds = adds_itself answers None p;
  counts = record { run = refl; won = refl; late = refl };
  run_few = omega arith;
  won_few = omega arith;
  late_few = omega arith;
  room = room;
}

pub does_then : (answers : Answers) (p q r : Pass) (a b : Done) → AddsCounted answers None p q a → AddsCounted answers None q r b → AddsCounted answers None p r (sum_of a b)
unfolding adds_then
does_then answers p q r a b f g = record {
  adds = adds_then answers None None p q r f.adds g.adds;
  counts = counts_then a b f.adds.more g.adds.more f.counts g.counts;
  run_few = (let x = f.run_few in let y = g.run_few in omega arith);
  won_few = (let x = f.won_few in let y = g.won_few in omega arith);
  late_few = (let x = f.late_few in let y = g.late_few in omega arith);
  room = g.room;
}

-- a pass that has only seen more
pub does_follows : (answers : Answers) (p q r : Pass) (a : Done) → AddsCounted answers None p q a → Follows q r → AddsCounted answers None p r a
unfolding adds_then adds_follows
does_follows answers p q r a f g =
    let h = adds_follows answers None q r g in
    let same : r.records ≡ q.records = ap (λ (x : Pass). x.records) g.is in
    let calls : r.calls ≡ q.calls = h.same.3 in
    let len = ap length same in
    record {
      adds = adds_then answers None None p q r f.adds h;
      counts = (let all : f.adds.more ++ [] ≡ f.adds.more = append-nil f.adds.more in subst (Counts a) (sym all) f.counts);
      run_few = (let x = f.run_few in omega arith);
      won_few = (let x = f.won_few in omega arith);
      late_few = (let x = f.late_few in omega arith);
      room = (let x = f.room in omega arith);
    }

-- a claim that wasn't granted
pub does_claim : (answers : Answers) (p q : Pass) (i : ℕ) (reply : Reply) → Acts p (Claim i) reply q → HasRoom p → i < length (state_of p.known).plan.stages → is_ready (stage_at (state_of p.known) i) ≡ true → granted_by reply ≡ None
    → DoesJob answers p q (record { run = 0; won = 0; late = 0 }) × (length p.records < length q.records)
unfolding adds_claim adds_owing
does_claim answers p q i reply a room there ready none =
    let adds = adds_claim answers p q i reply a there ready in
    let len : length q.records ≡ length p.records + 1 = ap (λ (h : Pass). length h.records) a.is ∙ length-append p.records (Did (length a.before + 1) (Claim i) reply ∷ []) in
    let calls : q.calls ≡ p.calls = ap (λ (h : Pass). h.calls) a.is in
    let g = grant_claim (length a.before + 1) i reply in
    let z : grants_as (granted_by reply) ≡ 0 = ap grants_as none in (
      record {
        does = record {
          adds = adds_owing answers None (owed_as i (granted_by reply)) None p q (ap (owed_as i) none) adds;
          counts = record { run = omega arith; won = refl; late = refl };
          run_few = omega arith;
          won_few = omega arith;
          late_few = omega arith;
          room = omega arith;
        };
        later = (acts_placed p q (Claim i) reply a).0;
      },
      omega arith,
    )

-- a claim that was granted, and its finish
pub adds_granted : (answers : Answers) (p q : Pass) (i : ℕ) (reply : Reply) (args : Args) → Acts p (Claim i) reply q → i < length (state_of p.known).plan.stages → is_ready (stage_at (state_of p.known) i) ≡ true → granted_by reply ≡ Some args → AddsWork answers None p q (Some (i, args))
adds_granted answers p q i reply args a there ready given = subst (λ (x : Option Args). AddsWork answers None p q (owed_as i x)) given (adds_claim answers p q i reply a there ready)

pub does_both : (answers : Answers) (p q r : Pass) (i : ℕ) (reply finished : Reply) (args : Args) (answer : Answer) (done : Done) → Acts p (Claim i) reply q → i < length (state_of p.known).plan.stages → is_ready (stage_at (state_of p.known) i) ≡ true → granted_by reply ≡ Some args
    → MayAnswer answers (state_of q.known).plan.stages i args answer → Acts q (Finish i answer) finished r → HasRoom q → done.run ≡ 1 → done.won ≡ won_by finished → done.late ≡ late_by finished
    → DoesJob answers p r done × (length p.records < length r.records)
unfolding adds_claim adds_owing adds_finish adds_then
does_both answers p q r i reply finished args answer done a there ready given may b room run won late =
    let adds = adds_claim answers p q i reply a there ready in
    let call = Finish i answer in
    let first : length q.records ≡ length p.records + 1 = ap (λ (h : Pass). length h.records) a.is ∙ length-append p.records (Did (length a.before + 1) (Claim i) reply ∷ []) in
    let second : length r.records ≡ length q.records + 1 = ap (λ (h : Pass). length h.records) b.is ∙ length-append q.records (Did (length b.before + 1) call finished ∷ []) in
    let calls : r.calls ≡ q.calls = ap (λ (h : Pass). h.calls) b.is in
    let g = grant_claim (length a.before + 1) i reply in
    let z : grants_as (granted_by reply) ≡ 1 = ap grants_as given in
    let x = won_by-few finished in
    let y = late_by-few finished in (
      record {
        does = record {
          adds = adds_then answers (Some (i, args)) None p q r (adds_owing answers None (owed_as i (granted_by reply)) (Some (i, args)) p q (ap (owed_as i) given) adds) (adds_finish answers q r i args answer finished (still_there p q i (Claim i) reply a there) may b);
          counts = record { run = omega arith; won = omega arith; late = omega arith };
          run_few = omega arith;
          won_few = omega arith;
          late_few = omega arith;
          room = omega arith;
        };
        later = (let claimed = acts_placed p q (Claim i) reply a in let done = acts_placed q r call finished b in omega arith);
      },
      omega arith,
    )

-- ---- what is told

pub adds_works : (answers : Answers) (p q : Pass) (owes : Owed) → AddsWork answers None p q owes → Works answers p q
adds_works answers p q owes a = record { same = a.same; seen = a.seen; goes_on = a.goes_on; more = a.more; records = a.records; work = a.work; once = a.once }

pub does_end : (answers : Answers) (p q : Pass) (done : Done) → AddsCounted answers None p q done → EndedWith answers p q done
unfolding adds_works
does_end answers p q done f = record { out = record { works = adds_works answers p q None f.adds; owes = f.adds.owes_then }; counts = f.counts }

pub ready_is : (k : CallerView) (i : ℕ) → lowest_ready_of (state_of k) ≡ Some i → is_ready (stage_at (state_of k) i) ≡ true
ready_is k i e = lowest_ready-is_ready (state_of k) i e

-- ---- a call that met a fault

pub claim_meets : (answers : Answers) (d : Desk) (p q : Pass) (i : ℕ) (fault : DeskFault) → lowest_ready_of (state_of p.known) ≡ Some i → IsOnStage p (event_by p.known.caller (Claim i)) → Refuses d p (Claim i) q fault → StopsJob answers d p q fault
claim_meets answers d p q i fault ready there refused =
    let left = refuses_known d p q (Claim i) fault there refused in record {
      stood = p;
      owes = None;
      adds = adds_itself answers None p;
      meets = record { call = Claim i; next = (i, ready, refl); there = there; left = left.0; looks = left.1; due = refused.due };
    }

pub finish_meets : (answers : Answers) (d : Desk) (p q : Pass) (i : ℕ) (args : Args) (answer : Answer) (fault : DeskFault) → i < length (state_of p.known).plan.stages → MayAnswer answers (state_of p.known).plan.stages i args answer → Refuses d p (Finish i answer) q fault
    → MeetsFault answers d (Some (i, args)) p q fault
finish_meets answers d p q i args answer fault there may refused =
    let left = refuses_known d p q (Finish i answer) fault there refused in
    record { call = Finish i answer; next = (answer, may, refl); there = there; left = left.0; looks = left.1; due = refused.due }

pub finish_stops : (answers : Answers) (d : Desk) (p q r : Pass) (owes : Owed) (fault : DeskFault) → AddsWork answers None p q owes → MeetsFault answers d owes q r fault → StopsJob answers d p r fault
finish_stops answers d p q r owes fault a m = record { stood = q; owes = owes; adds = a; meets = m }

-- what was done before
pub adds_stops : (answers : Answers) (d : Desk) (p q : Pass) (fault : DeskFault) → StopsJob answers d p q fault → (owes : Owed) × AddsWork answers None p q owes
adds_stops answers d p q fault s = (s.owes, adds_then answers s.owes s.owes p s.stood q s.adds (adds_follows answers s.owes s.stood q s.meets.left))

pub stops_then : (answers : Answers) (d : Desk) (p q r : Pass) (fault : DeskFault) → AddsWork answers None p q None → StopsJob answers d q r fault → Stops answers d p r fault
unfolding adds_works
stops_then answers d p q r fault a s =
    let all = adds_then answers None s.owes p q s.stood a s.adds in record {
      stood = s.stood;
      works = adds_works answers p s.stood s.owes all;
      meets = subst (λ (o : Owed). MeetsFault answers d o s.stood r fault) (sym all.owes_then) s.meets;
    }

-- ---- the turns of a worker

-- what it did, and that it looked before its last record alone
pub record Turned (answers : Answers) (p q : Pass) (done : Done) : Type 0 where
  pub does : AddsCounted answers None p q done
  pub looked : LooksBefore (length p.known.seen) (last_place (length p.known.seen) does.adds.more) p.known.looks q.known.looks

pub turned_none : (answers : Answers) (p : Pass) → length p.records ≤ p.calls → Turned answers p p (record { run = 0; won = 0; late = 0 })
unfolding does_itself adds_itself
turned_none answers p room = record { does = does_itself answers p room; looked = looks_none (length p.known.seen) p.known.looks }

pub adds_longer : (answers : Answers) (owed owes : Owed) (p q : Pass) → AddsWork answers owed p q owes → length p.known.seen ≤ length q.known.seen
adds_longer answers owed owes p q a = let e = ap length a.goes_on in let l = length-append p.known.seen a.seen in omega arith

-- a find, and the job that it gave
pub turned_then : (answers : Answers) (p q r s : Pass) (a b : Done) → Turned answers p q a → Follows q r → DoesJob answers r s b → s.known.looks ≡ r.known.looks → Turned answers p s (sum_of a b)
unfolding does_then does_follows adds_then adds_follows
turned_then answers p q r s a b t f job same =
    let before = does_follows answers p q r a t.does f in record {
      does = does_then answers p r s a b before job.does;
      looked = subst (λ (l : List Rec). LooksBefore (length p.known.seen) (last_place (length p.known.seen) (l ++ job.does.adds.more)) p.known.looks s.known.looks) (sym (append-nil t.does.adds.more))
          (looks_on q r s (length p.known.seen) p.known.looks t.does.adds.more job.does.adds.more (adds_longer answers None None p q t.does.adds) t.does.adds.placed f job.later same t.looked);
    }

-- the last looks, which found nothing
pub turned_waits : (answers : Answers) (d : Desk) (patience : ℕ) (p q r : Pass) (a : Done) → Turned answers p q a → Follows q r → Idles d patience (length q.known.seen) q.known.looks r → Waits d patience p r
turned_waits answers d patience p q r a t f i = record {
  more = t.does.adds.more;
  records = ap (λ (h : Pass). h.records) f.is ∙ t.does.adds.records;
  looks = q.known.looks;
  before = t.looked;
  idles = idles_since d patience (length q.known.seen) (last_place (length p.known.seen) t.does.adds.more) q.known.looks r t.does.adds.placed i;
}
