-- Rows of a machine's calls.
use Rattle.std.proofs.Common.{◌≡◌, ◌≢◌, ℕ, zero, suc, ◌+◌, ◌<◌, ◌≤◌, Bool, true, false, cond, nat_lt, Option, Some, None, List, [], ◌∷◌, ◌++◌, All, length, length-append, map, drop, take, refl, ap, sym, ◌∙◌, arith, subst, append_assoc, append-nil, take-append-drop, inl, inr}
use Rattle.std.specs.Prelude.{IfSome}
use Rattle.std.proofs.lemmas.List.{map-append}
use Rattle.std.proofs.lemmas.List.Elements.{All-append, All-cons, All-contains, All-nil, All-weaker}
use Rattle.cf_forms.specs.Plans.{Planned}
use Rattle.cf_model.specs.declared.events.Event.{Event}
use Rattle.cf_model.specs.declared.events.Event.TheVariants.{Claim as Claims, Finish as Finishes}
use Rattle.cf_model.specs.declared.events.Reply.{Reply}
use Rattle.cf_model.specs.declared.events.Reply.TheVariants.{Claim as ToldClaim, Finish as ToldFinish}
use Rattle.cf_model.specs.declared.replies.Claimed.TheVariants.{Granted}
use Rattle.cf_model.specs.Claims.{is_claimable}
use Rattle.cf_model.specs.Events.{answered}
use Rattle.cf_model.specs.States.{State, stage_at, start}
use Rattle.cf_event.specs.Words.{word_of}
use Rattle.cf_ledger.specs.Ledgers.{Ledger, stages_of, state_of, with_more}
use Rattle.cf_ledger.specs.Steps.{finished_as}
use Rattle.cf_ledger.specs.declared.step.Finish.{Finish}
use Rattle.cf_ledger.specs.declared.step.Held.{Held}
use Rattle.cf_ledger.specs.declared.step.Taken.{Taken}
use Rattle.cf_request.specs.Deadlines.{IsOverdue, open_of}
use Rattle.cf_request.specs.Growing.{Grows}
use Rattle.cf_request.specs.Lanes.{FinishesHeld, TakesIn}
use Rattle.cf_request.specs.Machines.{GoesOn, Machine, open_in, state_in, Finds, FindsForStep, waiting_in}
use Rattle.cf_request.specs.Ready.{Lanes, with_lane}
use Rattle.cf_request.specs.Refusals.{IsCancelled, IsRefused}
use Rattle.cf_request.specs.Relays.{IsRelayDue, IsRelayOr}
use Rattle.cf_request.specs.Rows.{AddsBehind, AddsLanes, AreCalls, BeginsAnew, ComesToAnEnd, IsCall, IsLater, IsOpened, Job, Out, RunsOnce, TellsOnce, Took, WasGranted, WordsTellAll, all_jobs, all_told, job_of, nothing, room_in, stage_of, unclaimed}
use Rattle.cf_request.specs.Rows.IsCall.{applies, goes_on, sets_join, sets_deadline, forgets, passes, refuses, cancels_all, took, grows, reserves, is_refused}
use Rattle.cf_request.specs.Settling.{AreSettledInTurn, SettlesDue, settle_event}
use Rattle.cf_request.specs.Telling.{AreFresh, AreSettled, AreSettledBy, IsApart, Teller, Tells, TellsEvent, order_in, with_memory}
use Rattle.cf_request.specs.declared.machine.Next.{Next}
use Rattle.cf_request.specs.declared.settling.Due.{Due}
use Rattle.cf_request.proofs.Later.{by_words, claimed_closed, closed_later, granted_fewer, granted_later, granted_now, later_free, later_grown, later_then, later_word, open_before, ready_open, unclaimed_later}
use Rattle.cf_request.proofs.Rooms.{settled_grown}
use Rattle.cf_request.proofs.Lists.{apart_append}
use Rattle.cf_request.proofs.Telling.{once, settled_more}
use Rattle.cf_request.proofs.Turns.{after_event}

-- ---- lanes

-- there are as many, and those of stages stay
record StayLanes (old new : Lanes) : Type 0 where
  count : new.count ≡ old.count
  adds : AddsLanes old new

lanes_same : (l : Lanes) → StayLanes l l
lanes_same l = record { count = refl; adds = record { more = []; of = sym (append-nil l.of) } }

lanes_is : (old new : Lanes) → new ≡ old → StayLanes old new
lanes_is old new same = subst (StayLanes old) (sym same) (lanes_same old)

lanes_then : (a b c : Lanes) → StayLanes a b → StayLanes b c → StayLanes a c
lanes_then a b c h k = record {
  count = k.count ∙ h.count;
  adds = record {
    more = h.adds.more ++ k.adds.more;
    of = k.adds.of ∙ ap (λ (l : List ℕ). l ++ k.adds.more) h.adds.of ∙ append_assoc a.of h.adds.more k.adds.more;
  };
}

lanes_by : (b : Bool) (lane : ℕ) (l : Lanes) → StayLanes l (record l { of = cond b (l.of ++ lane ∷ []) l.of })
lanes_by true lane l = record { count = refl; adds = record { more = lane ∷ []; of = refl } }
lanes_by false lane l = lanes_same l

lanes_word : (stages lane : ℕ) (old new : Lanes) → new ≡ with_lane stages lane old → StayLanes old new
lanes_word stages lane old new is = subst (StayLanes old) (sym is) (lanes_by (nat_lt (length old.of) stages) lane old)

-- ---- what words do to a teller

-- the ledger is later, what was settled in order is so now, and nothing is taken
record Onward (old new : Teller) : Type 0 where
  lanes : StayLanes old.lanes new.lanes
  later : IsLater old.ledger new.ledger
  settled : AreSettled old.ledger (old.taken ++ old.told) → AreSettled new.ledger (new.taken ++ new.told)
  taken : new.taken ≡ old.taken
  plan : new.ledger.plan ≡ old.ledger.plan

settled_free : (old new : Ledger) (xs : List ℕ) → new.plan ≡ old.plan → new.events ≡ old.events → AreSettled old xs → AreSettled new xs
settled_free old new xs plan events h = record {
  opening = h.opening;
  later = h.later;
  is = h.is;
  first = subst (λ p. AreFresh [] (start p).stages h.opening) (sym plan) h.first;
  rest = subst (λ p. AreSettledBy (start p) new.events h.later) (sym plan) (subst (λ (l : List Event). AreSettledBy (start old.plan) l h.later) (sym events) h.rest);
}

onward_same : (t : Teller) → Onward t t
onward_same t = record { lanes = lanes_same t.lanes; later = later_free t.ledger t.ledger refl refl; settled = λ h. h; taken = refl; plan = refl }

onward_is : (old new : Teller) → new ≡ old → Onward old new
onward_is old new same = subst (Onward old) (sym same) (onward_same old)

onward_free : (t : Teller) (n : ℕ) → Onward t (record t { ledger = record t.ledger { free = n } })
onward_free t n = record { lanes = lanes_same t.lanes; later = later_free t.ledger (record t.ledger { free = n }) refl refl; settled = settled_free t.ledger (record t.ledger { free = n }) (t.taken ++ t.told) refl refl; taken = refl; plan = refl }

onward_found : (least most : ℕ) (old found : Teller) → Finds least most old found → Onward old found
onward_found least most old found h = subst (Onward old) (sym h.is) (onward_free old (with_memory h.words old).ledger.free)

onward_step : (lane : ℕ) (held : Option Held) (m : Machine) (found : Teller) → FindsForStep lane held m found → Onward m.teller found
onward_step lane held m found (inl idle) = onward_is m.teller found idle.1
onward_step lane held m found (inr busy) = onward_found (2 + waiting_in m) (2 + length m.follows) m.teller found busy.1

onward_then : (a b c : Teller) → Onward a b → Onward b c → Onward a c
onward_then a b c h k = record { lanes = lanes_then a.lanes b.lanes c.lanes h.lanes k.lanes; later = later_then a.ledger b.ledger c.ledger h.later k.later; settled = λ s. k.settled (h.settled s); taken = k.taken ∙ h.taken; plan = k.plan ∙ h.plan }

onward_word : (old new : Teller) (word : ℕ) (reply : Reply) → Tells word old reply new → StayLanes old.lanes new.lanes → Onward old new
onward_word old new word reply t lanes = record {
  lanes = lanes;
  later = later_word old.ledger new.ledger word reply t.does;
  settled = λ h.
      subst (AreSettled new.ledger) (append_assoc old.taken old.told t.fresh ∙ ap (λ (l : List ℕ). old.taken ++ l) (sym t.told) ∙ ap (λ (l : List ℕ). l ++ new.told) (sym t.taken))
      (settled_more old.ledger new.ledger word reply (old.taken ++ old.told) t.fresh h t.does t.are);
  taken = t.taken;
  plan = ap (λ (l : Ledger). l.plan) t.does.written;
}

onward_event : (e : Event) (old new : Teller) (reply : Reply) → TellsEvent e old reply new → Onward old new
onward_event e old new reply h = onward_word old new (word_of e) reply h.tells.tells (lanes_is old.lanes new.lanes h.lanes)

onward_turns : (P : Teller → Due → Type 0) (who : ℕ) (dues : List Due) (a b : Teller) → AreSettledInTurn P who a dues b → Onward a b
onward_turns P who [] a b same = onward_is a b same
onward_turns P who (d ∷ dues) a b (between, waits, due, did, rest) =
    onward_then a between b (onward_event (settle_event who d.stage d.outcome) a between did.reply did.done) (onward_turns P who dues between b rest)

onward_dues : (P : Teller → Due → Type 0) (who : ℕ) (a b : Teller) → SettlesDue P who a b → Onward a b
onward_dues P who a b h = onward_turns P who h.dues a b h.are

onward_held : (who : ℕ) (held : Option Held) (old : Teller) (finish : Option Finish) (new : Teller) → FinishesHeld who held old finish new → Onward old new
onward_held who None old None new h = onward_is old new h
onward_held who (Some g) old (Some f) new h = onward_event (Finishes who g.stage g.answer) old new (ToldFinish (finished_as f.late)) h.done
onward_held who None old (Some f) new h = absurd h
onward_held who (Some g) old None new h = absurd h

-- ---- what a call does

-- a stage may still be claimed, or can't be any more
abbrev IsOpenIn : Teller → ℕ → Type 0
IsOpenIn t i = is_claimable (stage_at (state_of t.ledger) i) ≡ true

abbrev IsClosedIn : Teller → ℕ → Type 0
IsClosedIn t i = is_claimable (stage_at (state_of t.ledger) i) ≡ false

-- what it hands out: stages that might be claimed before, and can't be now, each granted; and what it told is taken
record Effect (old : Teller) (out : Out) (new : Teller) : Type 0 where
  lanes : StayLanes old.lanes new.lanes
  later : IsLater old.ledger new.ledger
  settled : AreSettled old.ledger (old.taken ++ old.told) → AreSettled new.ledger (new.taken ++ new.told)
  taken : new.taken ≡ old.taken ++ out.told
  apart : IsApart (map stage_of out.jobs)
  granted : All (WasGranted new.ledger) out.jobs
  before : All (IsOpenIn old) (map stage_of out.jobs)
  now : All (IsClosedIn new) (map stage_of out.jobs)
  fewer : length out.jobs + unclaimed (state_of new.ledger) + old.ledger.plan.room ≤ unclaimed (state_of old.ledger) + new.ledger.plan.room

quiet : (old new : Teller) (out : Out) → out ≡ nothing → Onward old new → Effect old out new
quiet old new out is h =
    let none : Effect old nothing new = record {
      lanes = h.lanes;
      later = h.later;
      settled = h.settled;
      taken = h.taken ∙ sym (append-nil old.taken);
      apart = tt;
      granted = All-nil (WasGranted new.ledger);
      before = All-nil (IsOpenIn old);
      now = All-nil (IsClosedIn new);
      fewer = let less = unclaimed_later old.ledger new.ledger h.later in omega (arith, less);
    } in
    subst (λ (o : Out). Effect old o new) (sym is) none

takes : (who lane : ℕ) (old between : Teller) (taken : Option Taken) (new : Teller) → Onward old between → TakesIn who lane between taken new → Effect old (job_of who taken) new
takes who lane old between None new h t = quiet old new nothing refl (onward_then old between new h (onward_is between new t.1))
takes who lane old between (Some t) new h k =
    let on = onward_event (Claims who t.stage) between new (ToldClaim (Granted t.args)) k.done in
    let job : Job = record { who = who; taken = t } in
    let ready = k.lowest.ready in
    let s = state_of between.ledger in
    let next = after_event (Claims who t.stage) between new (ToldClaim (Granted t.args)) k.done in
    let granted : (answered s (Claims who t.stage)).0 ≡ ToldClaim (Granted t.args) = ap (λ p. p.0) (sym k.done.answered) in
    let here = granted_fewer s who t.stage t.args granted in
    let now = ap unclaimed next in
    let less = unclaimed_later old.ledger between.ledger h.later in
    let does = k.done.tells.tells.does in
    let is : does.event ≡ Claims who t.stage = (let a = does.read in let b = k.done.read in cc) in
    let written = does.written in
    let room = ap (λ (l : Ledger). l.plan.room) written in
    record {
      lanes = lanes_then old.lanes between.lanes new.lanes h.lanes on.lanes;
      later = later_then old.ledger between.ledger new.ledger h.later on.later;
      settled = λ x. on.settled (h.settled x);
      taken = on.taken ∙ h.taken ∙ sym (append-nil old.taken);
      apart = (All-nil (λ y. t.stage ≢ y), tt);
      granted = All-cons (WasGranted new.ledger) job []
          (granted_now between.ledger new.ledger job (ap (λ (l : Ledger). l.plan) written) (ap (λ (l : Ledger). l.events) written ∙ ap (λ (e : Event). between.ledger.events ++ e ∷ []) is) granted k.function)
          (All-nil (WasGranted new.ledger));
      before = All-cons (IsOpenIn old) t.stage [] (open_before old.ledger between.ledger t.stage h.later (ready_open s t.stage ready)) (All-nil (IsOpenIn old));
      now = All-cons (IsClosedIn new) t.stage [] (ap (λ (r : State). is_claimable (stage_at r t.stage)) next ∙ claimed_closed s who t.stage ready) (All-nil (IsClosedIn new));
      fewer = omega (arith, here, now, less, room);
    }

-- those that were told are taken
takes_told : (count : ℕ) (old new : Machine) → Took count old new → Effect old.teller (record { jobs = []; told = take count old.teller.told }) new.teller
takes_told count old new h =
    let a = old.teller in
    let b = new.teller in
    let same : b.taken ++ b.told ≡ a.taken ++ a.told =
    ap (λ (l : List ℕ). l ++ b.told) h.taken ∙ ap (λ (l : List ℕ). (a.taken ++ take count a.told) ++ l) h.told
    ∙ append_assoc a.taken (take count a.told) (drop count a.told) ∙ ap (λ (l : List ℕ). a.taken ++ l) (take-append-drop count a.told) in
    let later = later_free a.ledger b.ledger (ap (λ (l : Ledger). l.plan) h.ledger) (ap (λ (l : Ledger). l.events) h.ledger) in
    record {
      lanes = lanes_is a.lanes b.lanes h.lanes;
      later = later;
      settled = λ s. subst (λ (l : Ledger). AreSettled l (b.taken ++ b.told)) (sym h.ledger) (subst (AreSettled a.ledger) (sym same) s);
      taken = h.taken;
      apart = tt;
      granted = All-nil (WasGranted b.ledger);
      before = All-nil (IsOpenIn a);
      now = All-nil (IsClosedIn b);
      fewer = let less = unclaimed_later a.ledger b.ledger later in omega (arith, less);
    }

-- there is room for more
more_room : (old new : Machine) → Grows old new → Effect old.teller nothing new.teller
more_room old new h =
    let a = old.teller in
    let b : Teller = record a { ledger = with_more a.ledger h.more } in
    let later = later_grown a.ledger h.more h.taken in
    let now : Effect a nothing b = record {
      lanes = lanes_same a.lanes;
      later = later;
      settled = settled_grown a.ledger h.more (a.taken ++ a.told) h.taken;
      taken = sym (append-nil a.taken);
      apart = tt;
      granted = All-nil (WasGranted b.ledger);
      before = All-nil (IsOpenIn a);
      now = All-nil (IsClosedIn b);
      fewer = let less = unclaimed_later a.ledger b.ledger later in omega (arith, less);
    } in
    subst (Effect a nothing) (sym (ap (λ (m : Machine). m.teller) h.is)) now

-- memory is found, and then due stages are settled
settles_found : (P : Teller → Due → Type 0) (who least most : ℕ) (old found new : Teller) → Finds least most old found → SettlesDue P who found new → Onward old new
settles_found P who least most old found new h k = onward_then old found new (onward_found least most old found h) (onward_dues P who found new k)

settles : (P : Teller → Due → Type 0) (who n : ℕ) (old new : Teller) → SettlesDue P who (record old { ledger = record old.ledger { free = n } }) new → Onward old new
settles P who n old new h = let found : Teller = record old { ledger = record old.ledger { free = n } } in onward_then old found new (onward_free old n) (onward_dues P who found new h)

-- what comes before a claim
onward_to_claim : (who lane : ℕ) (held : Option Held) (old new : Machine) (next : Next) → (h : GoesOn who lane held old next new) → Onward old.teller h.between
onward_to_claim who lane held old new next h =
    onward_then old.teller h.found h.between (onward_step lane held old h.found h.finds)
    (onward_then h.found h.finished h.between (onward_held who held h.found next.finish h.finished h.finishes) (onward_dues (IsRelayDue old.follows) old.own h.finished h.between h.catches_up.settles))

effect : (old new : Machine) (out : Out) → IsCall old out new → Effect old.teller out new.teller
effect old new out (applies word lane reply none h) =
    let found = h.found in
    let lanes = lanes_word (stages_of h.between.ledger) lane found.lanes h.between.lanes h.tells.lanes in
    quiet old.teller new.teller out none
    (onward_then old.teller found new.teller (onward_found (waiting_in old) (1 + length old.follows) old.teller found h.finds)
    (onward_then found h.between new.teller (onward_word found h.between word reply h.tells.tells lanes) (onward_dues (IsRelayDue old.follows) old.own h.between new.teller h.catches_up.settles)))
effect old new out (goes_on who lane held next is h) =
    subst (λ (o : Out). Effect old.teller o new.teller) (sym is) (takes who lane old.teller h.between next.taken new.teller (onward_to_claim who lane held old new next h) h.takes)
effect old new out (sets_join join none h) =
    quiet old.teller new.teller out none (settles_found (IsRelayDue new.follows) old.own (1 + waiting_in old) (1 + length old.follows) old.teller h.found new.teller h.finds h.catches_up.settles)
effect old new out (sets_deadline deadline none h) = quiet old.teller new.teller out none (onward_is old.teller new.teller (ap (λ (m : Machine). m.teller) h.same))
effect old new out (forgets none forgotten same) = quiet old.teller new.teller out none (onward_is old.teller new.teller (ap (λ (m : Machine). m.teller) same))
effect old new out (passes moment none h) =
    quiet old.teller new.teller out none
    (settles_found (IsRelayOr old.follows (IsOverdue moment old.deadlines)) old.own (waiting_in old + length (open_of (state_in old).stages (take h.come old.deadlines))) (length old.follows + h.come) old.teller h.found new.teller h.finds h.settles)
effect old new out (refuses lane code none h) =
    let found = with_memory (open_in old) old.teller in
    quiet old.teller new.teller out none (settles (IsRelayOr old.follows (IsRefused old.teller.lanes.of lane code)) old.own found.ledger.free old.teller new.teller h.settles)
effect old new out (cancels_all who none h) =
    let found = with_memory (open_in old) old.teller in
    quiet old.teller new.teller out none (settles (IsRelayOr old.follows IsCancelled) who found.ledger.free old.teller new.teller h.settles)
effect old new out (took count is h) = subst (λ (o : Out). Effect old.teller o new.teller) (sym is) (takes_told count old new h)
effect old new out (grows none h) = subst (λ (o : Out). Effect old.teller o new.teller) (sym none) (more_room old new h)
effect old new out (reserves words none is) =
    quiet old.teller new.teller out none (subst (λ (m : Machine). Onward old.teller m.teller) (sym is) (onward_free old.teller (with_memory words old.teller).ledger.free))
effect old new out (is_refused none h) =
    quiet old.teller new.teller out none (subst (λ (m : Machine). Onward old.teller m.teller) (sym h.same) (onward_free old.teller new.teller.ledger.free))

-- ---- a caller's step

fewer_by : (who m n : ℕ) (taken : Option Taken) (a b : State) → length (job_of who taken).jobs + unclaimed b + m ≤ unclaimed a + n → n ≡ m → IfSome taken (λ t. unclaimed b < unclaimed a)
fewer_by who m n None a b h same = tt
fewer_by who m n (Some t) a b h same = let one : length (job_of who (Some t)).jobs ≡ 1 = refl in omega (arith, h, one, same)

plan_taken : (who lane : ℕ) (old : Teller) (taken : Option Taken) (new : Teller) → TakesIn who lane old taken new → new.ledger.plan ≡ old.ledger.plan
plan_taken who lane old None new h = ap (λ (t : Teller). t.ledger.plan) h.1
plan_taken who lane old (Some t) new h = ap (λ (l : Ledger). l.plan) h.done.tells.tells.does.written

-- where one is told, fewer may be claimed
pub fewer_left : (who lane : ℕ) (held : Option Held) (old new : Machine) (next : Next) → GoesOn who lane held old next new → IfSome next.taken (λ t. unclaimed (state_in new) < unclaimed (state_in old))
fewer_left who lane held old new next h =
    let plan = plan_taken who lane h.between next.taken new.teller h.takes ∙ (onward_to_claim who lane held old new next h).plan in
    fewer_by who (room_in old) (room_in new) next.taken (state_in old) (state_in new) (effect old new (job_of who next.taken) (goes_on who lane held next refl h)).fewer (ap (λ (p : Planned). p.room) plan)

-- ---- what a row does

both : Out → Out → Out
both x y = record { jobs = x.jobs ++ y.jobs; told = x.told ++ y.told }

effect_then : (a b c : Teller) (x y : Out) → Effect a x b → Effect b y c → Effect a (both x y) c
unfolding both
effect_then a b c x y h k =
    let stages = map-append stage_of x.jobs y.jobs in
    let count = length-append x.jobs y.jobs in
    let less = h.fewer in
    let more = k.fewer in
    record {
      lanes = lanes_then a.lanes b.lanes c.lanes h.lanes k.lanes;
      later = later_then a.ledger b.ledger c.ledger h.later k.later;
      settled = λ s. k.settled (h.settled s);
      taken = k.taken ∙ ap (λ (l : List ℕ). l ++ y.told) h.taken ∙ append_assoc a.taken x.told y.told;
      apart = subst IsApart (sym stages)
          (apart_append (map stage_of x.jobs) (map stage_of y.jobs) h.apart k.apart
          (λ i first then. let not = All-contains (IsClosedIn b) (map stage_of x.jobs) i h.now first in let is = All-contains (IsOpenIn b) (map stage_of y.jobs) i k.before then in cc));
      granted = All-append (WasGranted c.ledger) x.jobs y.jobs (All-weaker (WasGranted b.ledger) (WasGranted c.ledger) (λ j g. granted_later b.ledger c.ledger j k.later g) x.jobs h.granted) k.granted;
      before = subst (All (IsOpenIn a)) (sym stages)
          (All-append (IsOpenIn a) (map stage_of x.jobs) (map stage_of y.jobs) h.before (All-weaker (IsOpenIn b) (IsOpenIn a) (λ i o. open_before a.ledger b.ledger i h.later o) (map stage_of y.jobs) k.before));
      now = subst (All (IsClosedIn c)) (sym stages)
          (All-append (IsClosedIn c) (map stage_of x.jobs) (map stage_of y.jobs) (All-weaker (IsClosedIn b) (IsClosedIn c) (λ i o. closed_later b.ledger c.ledger i k.later o) (map stage_of x.jobs) h.now) k.now);
      fewer = omega (arith, count, less, more);
    }

effects : (old new : Machine) (outs : List Out) → AreCalls old outs new → Effect old.teller (record { jobs = all_jobs outs; told = all_told outs }) new.teller
unfolding both
effects old new [] same = quiet old.teller new.teller nothing refl (onward_is old.teller new.teller (ap (λ (m : Machine). m.teller) same))
effects old new (out ∷ outs) (between, call, rest) =
    effect_then old.teller between.teller new.teller out (record { jobs = all_jobs outs; told = all_told outs }) (effect old between out call) (effects between new outs rest)

-- ---- the laws

pub first_settled : (m : Machine) → IsOpened m → AreSettled m.teller.ledger (m.teller.taken ++ m.teller.told)
first_settled m h = record {
  opening = m.teller.told;
  later = [];
  is = ap (λ (l : List ℕ). l ++ m.teller.told) h.taken ∙ sym (append-nil m.teller.told);
  first = h.told;
  rest = subst (λ (events : List Event). AreSettledBy (start m.teller.ledger.plan) events []) (sym h.events) refl;
}

pub tells_once : TellsOnce
tells_once old new outs opened calls =
    let e = effects old new outs calls in
    let taken = e.taken ∙ ap (λ (l : List ℕ). l ++ all_told outs) opened.taken in
    let order = subst (AreSettled new.teller.ledger) (ap (λ (l : List ℕ). l ++ new.teller.told) taken) (e.settled (first_settled old opened)) in
    record { once = once new.teller.ledger (all_told outs ++ new.teller.told) order; order = order }

pub runs_once : RunsOnce
runs_once old new outs calls = let e = effects old new outs calls in record { apart = e.apart; granted = e.granted }

-- each stage that a row tells might be claimed before the row
pub claimable_before : (old new : Machine) (outs : List Out) → AreCalls old outs new → All (λ i. is_claimable (stage_at (state_in old) i) ≡ true) (map stage_of (all_jobs outs))
claimable_before old new outs calls = (effects old new outs calls).before

pub comes_to_an_end : ComesToAnEnd
comes_to_an_end old new outs calls = (effects old new outs calls).fewer

pub adds_behind : AddsBehind
adds_behind old new outs calls = let e = effects old new outs calls in record { later = e.later; taken = e.taken; lanes = e.lanes.count; adds_lanes = e.lanes.adds }

pub words_tell_all : WordsTellAll
words_tell_all old new outs opened calls = by_words old.teller.ledger new.teller.ledger opened.events (effects old new outs calls).later

-- what was settled in order is so after a call
pub settled_call : (old new : Machine) (out : Out) → IsCall old out new → AreSettled old.teller.ledger (order_in old.teller) → AreSettled new.teller.ledger (order_in new.teller)
settled_call old new out h = (effect old new out h).settled

-- ---- starting again

take_front : (n : ℕ) (xs ys : List ℕ) → length xs ≡ n → take n (xs ++ ys) ≡ xs
take_front zero [] [] is = refl
take_front zero [] (y ∷ ys) is = refl
take_front (suc n) [] ys is = absurd (omega (arith, is))
take_front zero (x ∷ xs) ys is = absurd (omega (arith, is))
take_front (suc n) (x ∷ xs) ys is = ap (λ (l : List ℕ). x ∷ l) (take_front n xs ys (omega (arith, is)))

pub begins_anew : BeginsAnew
begins_anew first old new outs opened has calls h =
    let e = effects first old outs calls in
    let plan = e.later.plan in
    let stages = ap (λ (p : Planned). length p.stages) plan in
    let of : take (length old.teller.ledger.plan.stages) old.teller.lanes.of ≡ first.teller.lanes.of =
    ap (take (length old.teller.ledger.plan.stages)) e.lanes.adds.of ∙ take_front (length old.teller.ledger.plan.stages) first.teller.lanes.of e.lanes.adds.more (omega (arith, has, stages)) in
    let kept = ap (λ (l : Ledger). l.plan) h.ledger in
    record {
      opened = record {
        events = ap (λ (l : Ledger). l.events) h.ledger;
        taken = h.taken;
        told = subst (λ (p : Planned). AreFresh [] (start p).stages new.teller.told) (sym kept) h.told;
      };
      grown = e.later.grown;
      plan = kept ∙ plan;
      lanes = h.lanes ∙ (λ j. record { of = of j; count = e.lanes.count j });
    }
