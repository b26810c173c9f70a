-- What a step does to a pass.
use Rattle.cf_forms.specs.Plans.{Planned}
use Rattle.std.proofs.Common.{◌≡◌, ℕ, zero, suc, ◌+◌, ◌<◌, ◌≤◌, ◌⊎◌, inl, inr, ⊎_elim, eqb, leb, leb-true, leb-false, max, Bool, true, false, Option, Some, None, List, [], ◌∷◌, ◌++◌, length, sym, refl, ap, ◌∙◌, subst, append-nil, append_assoc, length-append, take, slice_get, arith}
use Rattle.std.proofs.lemmas.Option.{none-some}
use Rattle.std.specs.Prelude.{IfSome}
use Rattle.std.specs.List.{All}
use Rattle.std.proofs.lemmas.List.Elements.{All-nil, All-push, All-append, All-weaker, filter-append}
use mathlib.Core.Option.{none}
use prog.Atomic.{either}
use Rattle.atomic_table.specs.Table.{Me, step, Allows}
use Rattle.atomic_table.specs.Seated.{TableId}
use Rattle.cf_model.specs.declared.events.Event.{Event}
use Rattle.cf_desk.specs.declared.row.LogConfig.{LogConfig}
use Rattle.cf_desk.specs.declared.row.CallerView.{CallerView}
use Rattle.cf_model.specs.declared.asks.Ask.{Ask}
use Rattle.cf_model.specs.declared.asks.Told.{Told}
use Rattle.cf_model.specs.declared.events.Reply.{Reply}
use Rattle.cf_model.specs.declared.asks.Ask.TheVariants.{Outcome as AsksOutcome}
use Rattle.cf_model.specs.declared.asks.Told.TheVariants.{Outcome as ToldOutcome}
use Rattle.cf_outcome.specs.declared.outcome.Outcome.{Outcome}
use Rattle.cf_model.specs.declared.calls.Call.{Call}
use Rattle.cf_desk.specs.declared.calls.Joined.{Joined}
use Rattle.cf_desk.specs.declared.calls.Rec.{Rec}
use Rattle.cf_desk.specs.declared.calls.Rec.TheVariants.{Did, Saw}
use Rattle.cf_model.specs.States.{State, lowest_ready_of, outcome_at, start}
use Rattle.cf_model.specs.Events.{answered, told}
use Rattle.cf_model.specs.Ranges.{AskFits, EventFits}
use Rattle.cf_model.proofs.Histories.{state_after-append}
use Rattle.cf_model.proofs.LowestReady.{lowest_ready-within}
use Rattle.cf_model.specs.Calls.{event_by, who_of}
use Rattle.cf_event.specs.Words.{word_of}
use Rattle.cf_event.specs.Events.{own}
use Rattle.cf_desk.specs.Log.{IsDeskEvent, AreLogged, state_from, Catches}
use Rattle.cf_desk.specs.Faults.{AsksStage, AttachFits, IsFitting, IsOnStage}
use Rattle.cf_model.proofs.Closed.{reached_length}
use Rattle.cf_event.proofs.Events.{event_at, events_push}
use Rattle.cf_desk.proofs.Events.{asks_more, fits_more as event_fits_more, names_more, stages_grow_on}
use Rattle.cf_desk.specs.Calls.{joined}
use Rattle.cf_desk.specs.Records.{Fits}
use Rattle.cf_desk.specs.Rule.{holds, saw, looked, looks_next, adds_next, finds, longer_if, longest, with_seen, level, AllCatch, AllLogged, head_of, rest_of}
use Rattle.cf_desk.specs.Views.{known_of, Pass, IsSamePass, state_of, AddedByOther, AddedOwn, IsBetween, Follows, Acts, Reads, Joins, IsOne, Levelled, longer_of}
use Rattle.cf_desk.specs.Desks.{Agrees}
use Rattle.cf_desk.specs.Results.{CaughtUp}
use Rattle.cf_desk.specs.Views.{Desk}
use Rattle.cf_desk.proofs.Recs.{own_call, fits_more, fits_did, fits_saw}
use Rattle.cf_desk.proofs.Keeps.{looks, adds, same_some}
use Rattle.cf_desk.proofs.Meets.{found_there}

pub looks_at : (t : LogConfig) (slots id : ℕ) (me : Me ℕ (List CallerView)) (k : CallerView) (i : ℕ) → me ≡ (k ∷ [], []) → i ≡ length k.seen → Allows (holds {S = ℕ} t) slots id me i (λ n. n) (looks_next (step slots i 0 0 none) me)
looks_at t slots id me k i one at = subst (λ (m : Me ℕ (List CallerView)). Allows (holds {S = ℕ} t) slots id m i (λ n. n) (looks_next (step slots i 0 0 none) m)) (sym one)
    (subst (λ (n : ℕ). Allows (holds {S = ℕ} t) slots id (k ∷ [], []) n (λ n. n) (looks_next (step slots n 0 0 none) (k ∷ [], []))) (sym at) (looks {S = ℕ} t slots id k []))

pub adds_at : (t : LogConfig) (slots id : ℕ) (me : Me ℕ (List CallerView)) (k : CallerView) (i word : ℕ) (e : Event) → me ≡ (k ∷ [], []) → i ≡ length k.seen → i < t.words → word ≡ word_of e → IsDeskEvent k.setting (state_of k) e → who_of e ≡ k.caller
    → Allows (holds {S = ℕ} t) slots id me i (λ n. either (eqb n 0) word n) (adds_next (step slots i 0 word none) me)
adds_at t slots id me k i word e one at room is event mine = subst (λ (m : Me ℕ (List CallerView)). Allows (holds {S = ℕ} t) slots id m i (λ n. either (eqb n 0) word n) (adds_next (step slots i 0 word none) m)) (sym one)
    (subst (λ (n : ℕ). Allows (holds {S = ℕ} t) slots id (k ∷ [], []) n (λ n. either (eqb n 0) word n) (adds_next (step slots n 0 word none) (k ∷ [], []))) (sym at)
    (subst (λ (w : ℕ). Allows (holds {S = ℕ} t) slots id (k ∷ [], []) (length k.seen) (λ n. either (eqb n 0) w n) (adds_next (step slots (length k.seen) 0 w none) (k ∷ [], []))) (sym is)
    (adds {S = ℕ} t slots id k [] e (subst (λ n. n < t.words) at room) event mine)))

pub finds_at : (t : LogConfig) (slots id : ℕ) (me : Me ℕ (List CallerView)) (k : CallerView) (i : ℕ) → me ≡ (k ∷ [], []) → i < length k.seen → Allows (holds {S = ℕ} t) slots id me i (λ n. n) (finds (step slots i 0 0 none) me)
finds_at t slots id me k i one inside = subst (λ (m : Me ℕ (List CallerView)). Allows (holds {S = ℕ} t) slots id m i (λ n. n) (finds (step slots i 0 0 none) m)) (sym one) (found_there {S = ℕ} t slots id k [] i inside)

pub one_known : (me : Me ℕ (List CallerView)) (k : CallerView) → me.0 ≡ k ∷ [] → me.1 ≡ [] → me ≡ (known_of me.0 ∷ [], [])
one_known me k e f = let is : me.0 ≡ known_of me.0 ∷ [] = e ∙ ap (λ (x : CallerView). x ∷ []) (sym (ap known_of e)) in λ i. (is i, f i)

pub agrees_looked : (k k' : CallerView) (caller most count : ℕ) (replica : State) (records : List Rec) → k' ≡ looked k → Agrees k caller most count replica records → Agrees k' caller most count replica records
agrees_looked k k' caller most count replica records is a = subst (λ (x : CallerView). Agrees x caller most count replica records) (sym is) (record { caller = a.caller; one_of = a.one_of; few = a.few; functions = a.functions; count = a.count; state = a.state; events = a.events; fits = a.fits })

pub agrees_other : (k k' : CallerView) (caller most count : ℕ) (replica replica' : State) (records : List Rec) (found : Event) → k' ≡ saw k found → IsDeskEvent k.setting (state_of k) found → own k.caller (found ∷ []) ≡ [] → replica' ≡ (answered replica found).1 → Agrees k caller most count replica records
    → Agrees k' caller most (count + 1) replica' records
agrees_other k k' caller most count replica replica' records found is event other now a = subst (λ (x : CallerView). Agrees x caller most (count + 1) replica' records) (sym is) (record {
  caller = a.caller;
  one_of = a.one_of;
  few = a.few;
  functions = a.functions;
  count = (let c = a.count in omega (arith, length-append k.seen (found ∷ [])));
  state = now ∙ ap (λ s. (answered s found).1) a.state ∙ sym (state_after-append (start k.setting.plan) k.seen (found ∷ []));
  events = events_push k.setting.callers k.setting.functions (start k.setting.plan) k.seen found a.events event;
  fits = fits_more k.setting.plan k.caller k.seen (k.seen ++ found ∷ []) records (record { others = found ∷ []; joined = refl; none = other }) a.fits;
})

pub agrees_own : (k k' : CallerView) (caller most count : ℕ) (replica replica' : State) (records records' : List Rec) (call : Call) (reply : Reply) → k' ≡ saw k (event_by k.caller call) → IsDeskEvent k.setting (state_of k) (event_by k.caller call) → (reply, replica') ≡ answered replica (event_by k.caller call)
    → records' ≡ records ++ Did (count + 1) call reply ∷ [] → Agrees k caller most count replica records → Agrees k' caller most (count + 1) replica' records'
agrees_own k k' caller most count replica replica' records records' call reply is event now more a =
    let e : Event = event_by k.caller call in
    subst (λ (x : CallerView). Agrees x caller most (count + 1) replica' records') (sym is) (record {
      caller = a.caller;
      one_of = a.one_of;
      few = a.few;
      functions = a.functions;
      count = (let c = a.count in omega (arith, length-append k.seen (e ∷ [])));
      state = ap (λ (x : Reply × State). x.1) now ∙ ap (λ s. (answered s e).1) a.state ∙ sym (state_after-append (start k.setting.plan) k.seen (e ∷ []));
      events = events_push k.setting.callers k.setting.functions (start k.setting.plan) k.seen e a.events event;
      fits = subst (Fits k.setting.plan k.caller (k.seen ++ e ∷ [])) (ap (λ (n : ℕ). records ++ Did (n + 1) call reply ∷ []) (sym a.count) ∙ sym more)
          (fits_did k.setting.plan k.caller k.seen records call reply (own_call k.caller call) (ap (λ (x : Reply × State). x.0) now ∙ ap (λ s. (answered s e).0) a.state) a.fits);
    })

pub agrees_told : (k : CallerView) (caller most count : ℕ) (replica replica' : State) (records records' : List Rec) (ask : Ask) (answer : Told) → replica' ≡ replica → answer ≡ told replica ask → AskFits (length replica.plan.stages) ask
    → records' ≡ records ++ Saw count ask answer ∷ [] → Agrees k caller most count replica records → Agrees k caller most count replica' records'
agrees_told k caller most count replica replica' records records' ask answer same is there more a = record {
  caller = a.caller;
  one_of = a.one_of;
  few = a.few;
  functions = a.functions;
  count = a.count;
  state = same ∙ a.state;
  events = a.events;
  fits = subst (Fits k.setting.plan k.caller k.seen) (ap (λ (n : ℕ). records ++ Saw n ask answer ∷ []) (sym a.count) ∙ sym more)
      (fits_saw k.setting.plan k.caller k.seen records ask answer (is ∙ ap (λ (s : State). told s ask) a.state) (subst (λ (s : State). AskFits (length s.plan.stages) ask) a.state there) a.fits);
}

-- an event that fits what the pass has seen is one that its replica takes
pub on_plan : (k : CallerView) (replica : State) (e : Event) → replica ≡ state_of k → IsDeskEvent k.setting (state_of k) e → EventFits (length replica.plan.stages) e
on_plan k replica e is h = subst (λ (s : State). EventFits (length s.plan.stages) e) (sym is) h.fits

-- and so is a question
pub asked_there : (k : CallerView) (replica : State) (ask : Ask) → replica ≡ state_of k → AskFits (length (state_of k).plan.stages) ask → AskFits (length replica.plan.stages) ask
asked_there k replica ask is h = subst (λ (s : State). AskFits (length s.plan.stages) ask) (sym is) h

-- a ready stage is there
pub ready_there : (k : CallerView) (x : Option ℕ) → x ≡ lowest_ready_of (state_of k) → IfSome x (λ i. i < length (state_of k).plan.stages)
ready_there k None is = tt
ready_there k (Some i) is = subst (λ n. i < n) (reached_length k.setting.plan k.seen) (lowest_ready-within (state_of k) i (sym is))

pub on_plan_at : (k : CallerView) (replica : State) (i : ℕ) (e : Event) → replica ≡ state_from k.setting.plan (take i k.seen) → AreLogged k.setting k.seen → slice_get k.seen i ≡ Some e → EventFits (length replica.plan.stages) e
on_plan_at k replica i e is events there = subst (λ (s : State). EventFits (length s.plan.stages) e) (sym is) (event_at k.setting.callers k.setting.functions (start k.setting.plan) k.seen i e there events).fits

more_stages : (p q : Pass) → Follows p q → length (state_of p.known).plan.stages ≤ length (state_of q.known).plan.stages
more_stages p q f =
    let is : state_of q.known ≡ state_from p.known.setting.plan (p.known.seen ++ f.caught.others) = ap (λ (h : Pass). state_of h.known) f.is ∙ ap (state_from p.known.setting.plan) f.caught.joined in
    subst (λ (s : State). length (state_of p.known).plan.stages ≤ length s.plan.stages) (sym is) (stages_grow_on (start p.known.setting.plan) p.known.seen f.caught.others)

-- a pass that has seen more knows the stages that it knew
pub still_on_stage : (p q : Pass) (e : Event) → Follows p q → IsOnStage p e → IsOnStage q e
still_on_stage p q e f h = names_more (length (state_of p.known).plan.stages) (length (state_of q.known).plan.stages) e (more_stages p q f) h

-- and as many functions
pub still_fitting : (p q : Pass) (e : Event) → Follows p q → IsFitting p e → IsFitting q e
still_fitting p q e f h = subst (λ (k : CallerView). AttachFits k.setting.functions e) (sym (ap (λ (x : Pass). x.known) f.is)) h

-- and a call that fitted still does
pub still_event : (p q : Pass) (call : Call) → Follows p q → IsDeskEvent p.known.setting (state_of p.known) (event_by p.known.caller call) → IsDeskEvent q.known.setting (state_of q.known) (event_by q.known.caller call)
still_event p q call f h =
    let is : q.known ≡ record p.known { seen = f.now; looks = p.known.looks ++ f.more } = ap (λ (x : Pass). x.known) f.is in
    subst (λ (k : CallerView). IsDeskEvent k.setting (state_of q.known) (event_by k.caller call)) (sym is) (record {
      event = h.event;
      caller = h.caller;
      fits = event_fits_more (length (state_of p.known).plan.stages) (length (state_of q.known).plan.stages) (event_by p.known.caller call) (more_stages p q f) h.fits;
      function = h.function;
    })

pub still_asks_stage : (p q : Pass) (a : Ask) → Follows p q → AsksStage p a → AsksStage q a
still_asks_stage p q a f h = asks_more (length (state_of p.known).plan.stages) (length (state_of q.known).plan.stages) a (more_stages p q f) h

-- what is told of a test is told of what it tests
pub caught_as : (d : Desk) (p q : Pass) (test knows : Type 0) → (test → knows) → (knows → test) → CaughtUp d test p q → CaughtUp d knows p q
caught_as d p q test knows to from (inl h) = inl (to h.0, h.1)
caught_as d p q test knows to from (inr h) = inr ((λ k. h.0 (from k)), h.1, h.2)

pub none_new : (c : ℕ) (now : List Event) → Catches c now now
none_new c now = record { others = []; joined = sym (append-nil now); none = refl }

one_new : (c : ℕ) (before now : List Event) (e : Event) → Catches c before now → own c (e ∷ []) ≡ [] → Catches c before (now ++ e ∷ [])
one_new c before now e h other = record {
  others = h.others ++ e ∷ [];
  joined = ap (λ l. l ++ e ∷ []) h.joined ∙ append_assoc before h.others (e ∷ []);
  none = filter-append (λ x. eqb (who_of x) c) h.others (e ∷ []) ∙ (rw (h.none, other) refl);
}

wider : (low low' high high' : ℕ) (xs : List ℕ) → low' ≤ low → high ≤ high' → All (IsBetween low high) xs → All (IsBetween low' high') xs
wider low low' high high' xs down up h = All-weaker (IsBetween low high) (IsBetween low' high') (λ x b. (let l = b.0 in omega arith, let g = b.1 in omega arith)) xs h

pub caught_longer : (c : ℕ) (before now : List Event) → Catches c before now → length before ≤ length now
caught_longer c before now h = let len = ap length h.joined in omega (arith, length-append before h.others)

pub no_looks : (p : Pass) → p ≡ record p { known = record p.known { looks = p.known.looks ++ [] } }
no_looks p = ap (λ (l : List ℕ). record p { known = record p.known { looks = l } }) (sym (append-nil p.known.looks))

pub follows_itself : (p : Pass) → Follows p p
follows_itself p = record { now = p.known.seen; more = []; is = no_looks p; caught = none_new p.known.caller p.known.seen; between = All-nil (IsBetween (length p.known.seen) (length p.known.seen)) }

pub follows_more : (p q r : Pass) → Follows p q → AddedByOther q r → Follows p r
follows_more p q r f a =
    let k : q.known ≡ record p.known { seen = f.now; looks = p.known.looks ++ f.more } = ap (λ (h : Pass). h.known) f.is in record {
      now = f.now ++ a.found ∷ [];
      more = f.more;
      between = wider (length p.known.seen) (length p.known.seen) (length f.now) (length (f.now ++ a.found ∷ [])) f.more (omega arith) (omega (arith, length-append f.now (a.found ∷ []))) f.between;
      is = a.is ∙ ap (λ (h : Pass). record h { known = saw h.known a.found }) f.is;
      caught = one_new p.known.caller p.known.seen f.now a.found f.caught (ap (λ (x : CallerView). own x.caller (a.found ∷ [])) (sym k) ∙ a.other);
    }

pub looks_same : (q r : Pass) → AddedByOther q r → r.known.looks ≡ q.known.looks
looks_same q r a = ap (λ (h : Pass). h.known.looks) a.is

pub follows_looked : (p q r : Pass) → Follows p q → r ≡ record q { known = looked q.known } → Follows p r
follows_looked p q r f e = record {
  now = f.now;
  more = f.more ++ length f.now ∷ [];
  is = e ∙ ap (λ (h : Pass). record h { known = looked h.known }) f.is
      ∙ ap (λ (l : List ℕ). record p { known = record p.known { seen = f.now; looks = l } }) (append_assoc p.known.looks f.more (length f.now ∷ []));
  caught = f.caught;
  between = All-push (IsBetween (length p.known.seen) (length f.now)) f.more (length f.now) f.between (caught_longer p.known.caller p.known.seen f.now f.caught, omega arith);
}

pub follows_then : (p q r : Pass) → Follows p q → Follows q r → Follows p r
follows_then p q r f g =
    let k : q.known ≡ record p.known { seen = f.now; looks = p.known.looks ++ f.more } = ap (λ (h : Pass). h.known) f.is in
    let caught : Catches p.known.caller f.now g.now = subst (λ (x : CallerView). Catches x.caller x.seen g.now) k g.caught in
    let between : All (IsBetween (length f.now) (length g.now)) g.more = subst (λ (x : CallerView). All (IsBetween (length x.seen) (length g.now)) g.more) k g.between in
    let low = caught_longer p.known.caller p.known.seen f.now f.caught in
    let high = caught_longer p.known.caller f.now g.now caught in record {
      now = g.now;
      more = f.more ++ g.more;
      is = g.is ∙ ap (λ (h : Pass). record h { known = record h.known { seen = g.now; looks = h.known.looks ++ g.more } }) f.is
          ∙ ap (λ (l : List ℕ). record p { known = record p.known { seen = g.now; looks = l } }) (append_assoc p.known.looks f.more g.more);
      between = All-append (IsBetween (length p.known.seen) (length g.now)) f.more g.more
          (wider (length p.known.seen) (length p.known.seen) (length f.now) (length g.now) f.more (omega arith) high f.between)
          (wider (length f.now) (length p.known.seen) (length g.now) (length g.now) g.more low (omega arith) between);
      caught = record {
        others = f.caught.others ++ caught.others;
        joined = caught.joined ∙ ap (λ l. l ++ caught.others) f.caught.joined ∙ append_assoc p.known.seen f.caught.others caught.others;
        none = filter-append (λ x. eqb (who_of x) p.known.caller) f.caught.others caught.others ∙ (rw (f.caught.none, caught.none) refl);
      };
    }

pub acts_then : (p q r : Pass) (call : Call) (reply : Reply) → Follows p q → q.known.looks ≡ p.known.looks → AddedOwn q call reply r → Acts p call reply r
acts_then p q r call reply f same a =
    let k : q.known ≡ record p.known { seen = f.now; looks = p.known.looks ++ f.more } = ap (λ (h : Pass). h.known) f.is in
    let l : p.known.looks ++ f.more ≡ p.known.looks = ap (λ (x : CallerView). x.looks) (sym k) ∙ same in record {
      before = f.now;
      caught = f.caught;
      is = a.is ∙ ap (λ (h : Pass). record h { known = saw h.known (event_by h.known.caller call); records = h.records ++ Did (length h.known.seen + 1) call reply ∷ [] }) f.is
          ∙ ap (λ (n : List ℕ). record p { known = record p.known { seen = f.now ++ event_by p.known.caller call ∷ []; looks = n }; records = p.records ++ Did (length f.now + 1) call reply ∷ [] }) l;
      replied = a.replied ∙ ap (λ (x : CallerView). (answered (state_of x) (event_by x.caller call)).0) k;
    }

pub reads_then : (p q r : Pass) (ask : Ask) (answer : Told) → Follows p q → Reads q ask answer r → r.known ≡ q.known → Reads p ask answer r
reads_then p q r ask answer f a same =
    let k : q.known ≡ record p.known { seen = f.now; looks = p.known.looks ++ f.more } = ap (λ (h : Pass). h.known) f.is in
    let seen : a.now ≡ f.now = ap (λ (h : Pass). h.known.seen) (sym a.is) ∙ ap (λ (x : CallerView). x.seen) (same ∙ k) in
    let looks : q.known.looks ++ a.more ≡ p.known.looks ++ f.more = ap (λ (h : Pass). h.known.looks) (sym a.is) ∙ ap (λ (x : CallerView). x.looks) (same ∙ k) in record {
      now = f.now;
      more = f.more;
      caught = f.caught;
      between = f.between;
      is = a.is ∙ (λ i. record (f.is i) { known = record (f.is i).known { seen = seen i; looks = looks i }; records = (f.is i).records ++ Saw (length (seen i)) ask answer ∷ [] });
      told_is = a.told_is ∙ (λ i. told (state_from (k i).setting.plan (seen i)) ask);
    }

-- what a read of an outcome is told is the outcome
pub outcome_told : (p q : Pass) (stage : ℕ) (answer : Told) (outcome : Option Outcome) → Reads p (AsksOutcome stage) answer q → q.known ≡ p.known → outcome ≡ outcome_at (state_of p.known) stage → Reads p (AsksOutcome stage) (ToldOutcome outcome) q
outcome_told p q stage answer outcome r same is =
    let seen : r.now ≡ p.known.seen = ap (λ (h : Pass). h.known.seen) (sym r.is) ∙ ap (λ (x : CallerView). x.seen) same in
    let told_so : answer ≡ ToldOutcome outcome = r.told_is ∙ ap (λ (l : List Event). ToldOutcome (outcome_at (state_from p.known.setting.plan l) stage)) seen ∙ ap ToldOutcome (sym is) in
    subst (λ (x : Told). Reads p (AsksOutcome stage) x q) told_so r

-- what a join tells
pub joins_told : (p q r : Pass) (stage : ℕ) (outcome : Option Outcome) (answer : Told) (told_as : Joined) → outcome ≡ outcome_at (state_of p.known) stage → q ≡ p → Reads q (AsksOutcome stage) answer r → r.known ≡ q.known → told_as ≡ joined outcome
    → Joins p stage told_as r × (r.known ≡ p.known)
joins_told p q r stage outcome answer told_as is same read known as_told =
    let k : r.known ≡ p.known = known ∙ ap (λ (h : Pass). h.known) same in
    let from : Reads p (AsksOutcome stage) answer r = subst (λ (h : Pass). Reads h (AsksOutcome stage) answer r) same read in
    (record { outcome = outcome; read = outcome_told p r stage answer outcome from k is; answered_so = as_told }, k)

pub joins_then : (p q r : Pass) (stage : ℕ) (answer : Joined) → Follows p q → Joins q stage answer r → r.known ≡ q.known → Joins p stage answer r
joins_then p q r stage answer f j same = record { outcome = j.outcome; read = reads_then p q r (AsksOutcome stage) (ToldOutcome j.outcome) f j.read same; answered_so = j.answered_so }

pub follows_longer : (p q : Pass) → Follows p q → length p.known.seen ≤ length q.known.seen
follows_longer p q f =
    let longer = caught_longer p.known.caller p.known.seen f.now f.caught in
    let len = ap (λ (h : Pass). length h.known.seen) f.is in
    omega arith

pub short_same : (z z' : TableId) (n : ℕ) → z' ≡ z → n ≤ z.words → n ≤ z'.words
short_same z z' n e h = subst (λ (x : TableId). n ≤ x.words) (sym e) h

pub short_more : (z z' : TableId) (n : ℕ) → z' ≡ z → n < z.words → n + 1 ≤ z'.words
short_more z z' n e h = subst (λ (x : TableId). n + 1 ≤ x.words) (sym e) (let g : n < z.words = h in omega arith)

pub state_more : (plan : Planned) (seen : List Event) (i : ℕ) (state : State) (e : Event) (state' : State) → state' ≡ (answered state e).1 → state ≡ state_from plan (take i seen) → slice_get seen i ≡ Some e → state' ≡ state_from plan (take (i + 1) seen)
state_more plan seen i state e state' now was is =
    now ∙ ap (λ s. (answered s e).1) was ∙ sym (state_after-append (start plan) (take i seen) (e ∷ [])) ∙ ap (state_from plan) (take_next seen i e is ∙ ap (λ (n : ℕ). take n seen) (let p : suc i ≡ i + 1 = omega arith in p))
  where
    take_next : (xs : List Event) (n : ℕ) (x : Event) → slice_get xs n ≡ Some x → take n xs ++ x ∷ [] ≡ take (suc n) xs
    take_next [] n x h = absurd (none-some x h)
    take_next (y ∷ ys) zero x h = ap (λ (z : Event). z ∷ []) (sym (same_some y x h))
    take_next (y ∷ ys) (suc n) x h = ap (λ l. y ∷ l) (take_next ys n x h)

pub levelled_from : (a b o j m x y : Me ℕ (List CallerView)) → IsOne a → IsOne b → o ≡ b → j ≡ (a.0 ++ o.0, a.1) → m.1 ≡ j.1 → m.0 ≡ level j.0 → AllCatch (longest j.0) j.0 × AllLogged (longest j.0) j.0 → x ≡ (head_of m.0, m.1) → y ≡ (rest_of m.0, []) → Levelled a b x y
levelled_from a b o j m x y one two is both held level_is told left right =
    let k = known_of a.0 in
    let l = known_of b.0 in
    let j0 : j.0 ≡ k ∷ l ∷ [] = ap (λ (z : Me ℕ (List CallerView)). z.0) both ∙ (λ i. (one i).0 ++ (is i).0) ∙ (λ i. (k ∷ []) ++ (two i).0) in
    let j1 : j.1 ≡ [] = ap (λ (z : Me ℕ (List CallerView)). z.1) both ∙ ap (λ (z : Me ℕ (List CallerView)). z.1) one in
    let m0 : m.0 ≡ level (k ∷ l ∷ []) = level_is ∙ ap level j0 in
    let m1 : m.1 ≡ [] = held ∙ j1 in
    let shown = subst (λ (v : List CallerView). AllCatch (longest v) v × AllLogged (longest v) v) j0 told in record {
      left = left ∙ (λ i. (head_of (m0 i), m1 i));
      right = right ∙ (λ i. (rest_of (m0 i), []));
      begins_left = shown.0.0;
      begins_right = shown.0.1.0;
      logged_left = shown.1.0;
      logged_right = shown.1.1.0;
    }

longer_one : (xs ys : List Event) (b : Bool) → (longer_if b xs ys ≡ xs) ⊎ (longer_if b xs ys ≡ ys)
longer_one xs ys true = inr refl
longer_one xs ys false = inl refl

longer_none : (xs : List Event) (b : Bool) → leb (length xs) 0 ≡ b → longer_if b xs [] ≡ xs
longer_none xs false e = refl
longer_none [] true e = refl
longer_none (x ∷ xs) true e = absurd (let h : length (x ∷ xs) ≤ 0 = leb-true (length (x ∷ xs)) 0 e in omega arith)

pub longer_either : (k l : CallerView) → (longer_of k l ≡ k.seen) ⊎ (longer_of k l ≡ l.seen)
longer_either k l = ⊎_elim inl (λ e. inr (e ∙ longer_none l.seen (leb (length l.seen) 0) refl)) (longer_one k.seen (longest (l ∷ [])) (leb (length k.seen) (length (longest (l ∷ [])))))

longer_max : (xs ys : List Event) (b : Bool) → leb (length xs) (length ys) ≡ b → length (longer_if b xs ys) ≡ max (length xs) (length ys)
longer_max xs ys true e = let h : length xs ≤ length ys = leb-true (length xs) (length ys) e in omega arith
longer_max xs ys false e = let h : length ys < length xs = leb-false (length xs) (length ys) e in omega arith

pub longest_count : (k l : CallerView) (n m to : ℕ) → n ≡ length k.seen → m ≡ length l.seen → to ≡ max n m → to ≡ length (longer_of k l)
longest_count k l n m to a b e =
    let one : longest (l ∷ []) ≡ l.seen = longer_none l.seen (leb (length l.seen) 0) refl in
    let both = longer_max k.seen (longest (l ∷ [])) (leb (length k.seen) (length (longest (l ∷ [])))) refl in
    let same = ap length one in
    e ∙ (λ i. max (a i) (b i)) ∙ ap (max (length k.seen)) (sym same) ∙ sym both

pub agrees_levelled : (k : CallerView) (all : List Event) (old new : Me ℕ (List CallerView)) (caller most count to : ℕ) (replica replica' : State) (records : List Rec) → old ≡ (with_seen all k ∷ [], []) → new ≡ old → Catches k.caller k.seen all → AreLogged k.setting all → to ≡ length all
    → replica' ≡ state_of (known_of old.0) → Agrees k caller most count replica records → Agrees (known_of new.0) caller most to replica' records
agrees_levelled k all old new caller most count to replica replica' records is same catch events len now a =
    let known : known_of new.0 ≡ with_seen all k = (λ i. known_of (same i).0) ∙ (λ i. known_of (is i).0) in
    subst (λ (x : CallerView). Agrees x caller most to replica' records) (sym known) (record {
      caller = a.caller;
      one_of = a.one_of;
      few = a.few;
      functions = a.functions;
      count = len;
      state = now ∙ (λ i. state_of (known_of (is i).0));
      events = events;
      fits = fits_more k.setting.plan k.caller k.seen all records catch a.fits;
    })

pub same_follows : (p q : Pass) → Follows p q → IsSamePass p q
same_follows p q f = (ap (λ (h : Pass). h.table) f.is, ap (λ (h : Pass). h.known.setting) f.is, ap (λ (h : Pass). h.known.caller) f.is, ap (λ (h : Pass). h.calls) f.is)

pub same_reads : (p q : Pass) (ask : Ask) (answer : Told) → Reads p ask answer q → IsSamePass p q
same_reads p q ask answer f = (ap (λ (h : Pass). h.table) f.is, ap (λ (h : Pass). h.known.setting) f.is, ap (λ (h : Pass). h.known.caller) f.is, ap (λ (h : Pass). h.calls) f.is)

pub same_acts : (p q : Pass) (call : Call) (reply : Reply) → Acts p call reply q → IsSamePass p q
same_acts p q call reply f = (ap (λ (h : Pass). h.table) f.is, ap (λ (h : Pass). h.known.setting) f.is, ap (λ (h : Pass). h.known.caller) f.is, ap (λ (h : Pass). h.calls) f.is)
