-- How long nothing is to be done.
use Rattle.std.proofs.Common.{◌≡◌, ℕ, zero, suc, ◌+◌, ◌<◌, ◌≤◌, ◌⊎◌, inl, inr, Bool, true, false, cond, nat_lt, Option, Some, None, List, [], ◌∷◌, length, refl, ap, sym, ◌∙◌, subst, arith}
use Rattle.std.specs.Prelude.{◌||◌, IfSome, is_some, leb, min, slice_get}
use Rattle.std.specs.Bool.{OnFalse, OnTrue}
use Rattle.std.proofs.Math.Nat.{min-le_left, min-le_right}
use Rattle.std.proofs.lemmas.Bool.{cases_lt}
use Rattle.std.proofs.lemmas.Bool.Decides.{nat_tests}
use Rattle.cf_model.specs.States.{outcome_at}
use Rattle.cf_notes.specs.declared.noted.Noted.{Noted}
use Rattle.cf_notes.specs.declared.noted.Timer.{Timer}
use Rattle.cf_notes.specs.Noting.{timer_of}
use Rattle.cf_row.specs.declared.entry.Entry.{Entry}
use Rattle.cf_row.specs.Grants.{ClaimsAreOnes, IsGrantedTo, NoneOpen}
use Rattle.cf_row.specs.Rows.{Replica, stages_of, state_of}
use Rattle.cf_watch.specs.Watches.{Watch}
use Rattle.cf_due.specs.Timers.{NoneToTime}
use Rattle.cf_part.specs.declared.question.Fault.{Fault}
use Rattle.cf_part.specs.declared.question.Question.{Question}
use Rattle.cf_part.specs.declared.question.Question.TheVariants.{Put, Read}
use Rattle.cf_part.specs.Parts.{MayPlan, Part, question_of, seen_by, wanted_in}
use Rattle.cf_part.specs.Steps.{NothingToTell, is_time}
use Rattle.cf_turn.specs.declared.quiet.Quiet.{Quiet}
use Rattle.cf_turn.specs.declared.wish.End.{End}
use Rattle.cf_turn.specs.declared.wish.Told.{Told}
use Rattle.cf_turn.specs.declared.wish.Wish.{Wish}
use Rattle.cf_turn.specs.Closing.{IsDone}
use Rattle.cf_turn.specs.Busy.{Takes}
use Rattle.cf_turn.specs.Quiets.{ActsWait, EndsWait, IsAfter, IsAtRest, IsQuiet, IsTillShown, IsWithin, OnlyOwn}
use Rattle.cf_turn.specs.Timers.{first_timer, moment_at, moment_by, moments_below, never}
use Rattle.cf_turn.specs.Turns.{IsIdle, Moment, Rests, RestsBy, RestsWith, moment_of}
use Rattle.cf_turn.specs.Works.{NobodyIsTold, Work, end_told, ended_by, is_closed_in, told_by, wish_told}

-- ---- users

not_late : (until now : ℕ) → now < until → leb until now ≡ false
not_late until now h = grind (arith, nat_tests)

untold : (answer : Option Told) (fault : Option Fault) (b : Bool) → told_by answer fault b ≡ None → told_by answer fault false ≡ None
untold (Some told) fault b h = h
untold None (Some f) b h = h
untold None None b h = refl

unended : (fault : Option Fault) (is_closed b : Bool) → ended_by fault is_closed b ≡ None → ended_by fault is_closed false ≡ None
unended (Some f) is_closed b h = h
unended None true b h = h
unended None false b h = refl

wish_waits : (fault : Option Fault) (now0 now : ℕ) (w : Wish) → wish_told fault now0 w ≡ None → now < w.until → wish_told fault now w ≡ None
wish_waits fault now0 now w h early =
    subst (λ (b : Bool). told_by w.answer fault b ≡ None) (sym (not_late w.until now early)) (untold w.answer fault (leb w.until now0) h)

end_waits : (fault : Option Fault) (is_closed : Bool) (now0 now : ℕ) (e : End) → end_told fault is_closed now0 e ≡ None → now < e.until → end_told fault is_closed now e ≡ None
end_waits fault is_closed now0 now e h early =
    subst (λ (b : Bool). ended_by fault is_closed b ≡ None) (sym (not_late e.until now early)) (unended fault is_closed (leb e.until now0) h)

nobody_till : (w : Work) (now0 now until : ℕ) → NobodyIsTold w now0 → ActsWait w.wishes until (length w.wishes) → EndsWait w.ends until (length w.ends) → now < until → NobodyIsTold w now
nobody_till w now0 now until told acts ends early = record {
  wishes = λ k x low is. wish_waits w.part.fault now0 now x (told.wishes k x low is) (let wait = acts k x low is in omega (arith, wait, early));
  ends = λ k e low is. end_waits w.part.fault (is_closed_in w) now0 now e (told.ends k e low is) (let wait = ends k e low is in omega (arith, wait, early));
}

-- ---- steps

time_before : (b : Bool) (now0 now until : ℕ) (from : Option ℕ) → IsAfter from now0 until → now < until → is_time b now from ≡ true → is_time b now0 from ≡ true
time_before b now0 now until None after early h = h
time_before true now0 now until (Some m) after early h = refl
time_before false now0 now until (Some m) after early h = split (after m refl)
  where
    split : (m ≤ now0) ⊎ (until ≤ m) → leb m now0 ≡ true
    split (inl come) = grind (arith, nat_tests)
    split (inr later) = grind (arith, nat_tests)

nothing_till : (p : Part) (now0 now until : ℕ) → NothingToTell p now0 → IsTillShown p.wanted now0 until (length p.wanted) → now < until → NothingToTell p now
nothing_till p now0 now until steps till early = record {
  shown = λ i low show. steps.shown i low (record {
    time = time_before (is_some p.fault) now0 now until (wanted_in p.wanted i) (till i low) early show.time;
    settled = show.settled;
  });
  stopped = steps.stopped;
  called = steps.called;
}

-- ---- timers

past : (m clock : ℕ) → clock < cond (nat_lt 0 m) m never → cond (nat_lt clock m) m never ≡ cond (nat_lt 0 m) m never
past m clock low = split (cases_lt 0 m)
  where
    split : (0 < m) ⊎ (m ≤ 0) → cond (nat_lt clock m) m never ≡ cond (nat_lt 0 m) m never
    split (inl pos) =
        let first : nat_lt 0 m ≡ true = grind (arith, nat_tests) in
        let is : cond (nat_lt 0 m) m never ≡ m = ap (λ (b : Bool). cond b m never) first in
        let second : nat_lt clock m ≡ true = (let less : clock < m = omega (arith, low, is) in grind (arith, nat_tests)) in
        ap (λ (b : Bool). cond b m never) second ∙ sym is
    split (inr none) =
        let first : nat_lt 0 m ≡ false = grind (arith, nat_tests) in
        let second : nat_lt clock m ≡ false = grind (arith, nat_tests) in
        ap (λ (b : Bool). cond b m never) (second ∙ sym first)

by_past : (t : Option Timer) (clock : ℕ) → clock < moment_by t 0 → moment_by t clock ≡ moment_by t 0
by_past None clock low = refl
by_past (Some t) clock low = past t.moment clock low

at_past : (b : Bool) (t : Option Timer) (clock : ℕ) → clock < cond b never (moment_by t 0) → cond b never (moment_by t clock) ≡ cond b never (moment_by t 0)
at_past true t clock low = refl
at_past false t clock low = by_past t clock low

below_past : (to : ℕ) (r : Replica) (notes : List Noted) (clock : ℕ) → clock < moments_below to r notes 0 → moments_below to r notes clock ≡ moments_below to r notes 0
below_past zero r notes clock low = refl
below_past (suc to) r notes clock low =
    let a = moments_below to r notes 0 in
    let b = moment_at r notes 0 to in
    let left = min-le_left a b in
    let right = min-le_right a b in
    let front = below_past to r notes clock (omega (arith, low, left)) in
    let last = at_past (is_some (outcome_at (state_of r) to)) (timer_of notes to) clock (omega (arith, low, right)) in
    ap (λ (x : ℕ). min x (moment_at r notes clock to)) front ∙ ap (λ (x : ℕ). min a x) last

by_fault : (b : Bool) (x y clock : ℕ) → (clock < y → x ≡ y) → clock < cond b never y → cond b never x ≡ cond b never y
by_fault true x y clock f low = refl
by_fault false x y clock f low = f low

-- up to the first timer of all it is the first that hasn't come
pub timer_past : (p : Part) (clock : ℕ) → clock < first_timer 0 p → first_timer clock p ≡ first_timer 0 p
timer_past p clock low =
    by_fault (is_some p.fault) _ (moments_below (stages_of p.row.replica) p.row.replica p.notes.stages 0) clock
    (below_past (stages_of p.row.replica) p.row.replica p.notes.stages clock) low

below_at : (to : ℕ) (r : Replica) (notes : List Noted) (clock k : ℕ) → k < to → moments_below to r notes clock ≤ moment_at r notes clock k
below_at zero r notes clock k low = omega (arith, low)
below_at (suc to) r notes clock k low = split (below_at to r notes clock k) (cases_lt k to)
  where
    left : moments_below (suc to) r notes clock ≤ moments_below to r notes clock
    left = min-le_left (moments_below to r notes clock) (moment_at r notes clock to)

    right : moments_below (suc to) r notes clock ≤ moment_at r notes clock to
    right = min-le_right (moments_below to r notes clock) (moment_at r notes clock to)

    split : (k < to → moments_below to r notes clock ≤ moment_at r notes clock k) → (k < to) ⊎ (to ≤ k) → moments_below (suc to) r notes clock ≤ moment_at r notes clock k
    split front (inl lt) = (let f = front lt in let l = left in omega (arith, f, l))
    split front (inr le) = (let same : to ≡ k = omega (arith, low, le) in subst (λ (j : ℕ). moments_below (suc to) r notes clock ≤ moment_at r notes clock j) same right)

come : (m clock0 clock : ℕ) → clock < cond (nat_lt 0 m) m never → m ≤ clock → m ≤ clock0
come m clock0 clock low has = split (cases_lt 0 m)
  where
    split : (0 < m) ⊎ (m ≤ 0) → m ≤ clock0
    split (inl pos) =
        let first : nat_lt 0 m ≡ true = grind (arith, nat_tests) in
        let is : cond (nat_lt 0 m) m never ≡ m = ap (λ (b : Bool). cond b m never) first in
        omega (arith, low, is, has)
    split (inr none) = omega (arith, none)

none_timed : (r : Replica) (notes : List Noted) (clock0 clock n : ℕ) → NoneToTime r notes clock0 n → clock < moments_below n r notes 0 → NoneToTime r notes clock n
none_timed r notes clock0 clock n none early k low t h =
    let le = below_at n r notes 0 k low in
    let open' : is_some (outcome_at (state_of r) k) ≡ false = ap is_some h.is_open.unsettled in
    let is : moment_at r notes 0 k ≡ cond (nat_lt 0 t.moment) t.moment never =
    ap (λ (b : Bool). cond b never (moment_by (timer_of notes k) 0)) open' ∙ ap (λ (o : Option Timer). moment_by o 0) h.is in
    let before : clock < cond (nat_lt 0 t.moment) t.moment never = omega (arith, early, le, is) in
    none k low t (record { is_open = h.is_open; is = h.is; has_come = come t.moment clock0 clock before h.has_come })

-- ---- what is due

unfaulted : (p : Part) (clock : ℕ) → p.fault ≡ None → clock < first_timer 0 p → clock < moments_below (stages_of p.row.replica) p.row.replica p.notes.stages 0
unfaulted p clock sound low =
    subst (λ (f : Option Fault). clock < cond (is_some f) never (moments_below (stages_of p.row.replica) p.row.replica p.notes.stages 0)) sound low

idle_till : (w : Work) (at0 at : Moment) → IsIdle w at0 → OnlyOwn w.part.row.replica (stages_of w.part.row.replica) → w.part.fault ≡ None → at.clock < first_timer 0 w.part →
    (at.may_claim ≡ true → at0.may_claim ≡ true) → IsIdle w at
idle_till w at0 at idle own sound low claims = record {
  none = record {
    finish = idle.none.finish;
    abandon = λ session gone k from to held. gone.other (own k session to held.granted held.claimed);
    link = idle.none.link;
    cancel = idle.none.cancel;
    timer = none_timed w.part.row.replica w.part.notes.stages at0.clock at.clock (stages_of w.part.row.replica) idle.none.timer (unfaulted w.part at.clock sound low);
    claim = λ may. idle.none.claim (claims may);
  };
  unfinished = λ over. idle.unfinished (record { unclosed = over.unclosed; why = by over.why });
}
  where
    by : (0 < length w.ends) ⊎ IsDone w.part at.watch → (0 < length w.ends) ⊎ IsDone w.part at0.watch
    by (inl ends) = inl ends
    by (inr done) = inr (record {
      flow = done.flow;
      settled = done.settled;
      idle = λ i to here. done.idle i to (record {
        session = here.session;
        granted = here.granted;
        claimed = here.claimed;
        stays = λ gone. gone.other (own i here.session to here.granted here.claimed);
      });
    })

-- ---- questions

abbrev pub rest_of : Part → Option Question
rest_of p = cond (nat_lt 0 (length p.row.put)) (Some (Put (seen_by p))) (cond (p.is_stale || nat_lt (seen_by p) p.words) (Some (Read (seen_by p))) None)

question_is : (p : Part) (now : ℕ) (o : Option Question) (f : Option Fault) (b : Bool) → p.asked ≡ o → p.fault ≡ f → nat_lt now p.retry ≡ b →
    question_of p now ≡ cond (is_some o || is_some f || b) None (rest_of p)
question_is p now o f b a e t =
    ap (λ (x : Option Question). cond (is_some x || is_some p.fault || nat_lt now p.retry) None (rest_of p)) a
    ∙ ap (λ (x : Option Fault). cond (is_some o || is_some x || nat_lt now p.retry) None (rest_of p)) e
    ∙ ap (λ (x : Bool). cond (is_some o || is_some f || x) None (rest_of p)) t

rest_none : (b s c : Bool) (x y : Question) → cond b (Some x) (cond (s || c) (Some y) None) ≡ None → (b ≡ false) × (s ≡ false) × (c ≡ false)
rest_none true s c x y h = (let no : ⊥ = cc in absurd no)
rest_none false true c x y h = (let no : ⊥ = cc in absurd no)
rest_none false false true x y h = (let no : ⊥ = cc in absurd no)
rest_none false false false x y h = (refl, refl, refl)

empty_of : (l : List Entry) → nat_lt 0 (length l) ≡ false → l ≡ []
empty_of [] h = refl
empty_of (x ∷ l) h = (let no : ⊥ = grind (arith, nat_tests) in absurd no)

-- where nothing may be planned and nothing is asked, that stays so
still : (p : Part) (now0 now until : ℕ) → ¬ MayPlan p now0 → question_of p now0 ≡ None → IsAfter (Some p.retry) now0 until → now < until →
    (¬ MayPlan p now) × (question_of p now ≡ None)
still p now0 now until cannot none after early = by_asked p.asked refl
  where
    waits : p.asked ≡ None → p.fault ≡ None → now0 < p.retry → (p.retry ≤ now0) ⊎ (until ≤ p.retry) → (¬ MayPlan p now) × (question_of p now ≡ None)
    waits a e late (inl is) = (let bad : ⊥ = omega (arith, late, is) in absurd bad)
    waits a e late (inr is) =
        let t : nat_lt now p.retry ≡ true = grind (arith, nat_tests) in
        ((λ may. let time = may.time in omega (arith, time, early, is)), question_is p now None None true a e t)

    by_retry : p.asked ≡ None → p.fault ≡ None → (b : Bool) → nat_lt now0 p.retry ≡ b → (¬ MayPlan p now) × (question_of p now ≡ None)
    by_retry a e true t = (let late : now0 < p.retry = grind (arith, nat_tests) in waits a e late (after p.retry refl))
    by_retry a e false t =
        let is = rest_none (nat_lt 0 (length p.row.put)) p.is_stale (nat_lt (seen_by p) p.words) (Put (seen_by p)) (Read (seen_by p))
        (sym (question_is p now0 None None false a e t) ∙ none) in
        let seen = is.2 in
        absurd (cannot (record {
          none = empty_of p.row.put is.0;
          asked = a;
          sound = e;
          fresh = is.1;
          all_seen = grind (arith, nat_tests);
          time = grind (arith, nat_tests);
        }))

    by_fault' : p.asked ≡ None → (f : Option Fault) → p.fault ≡ f → (¬ MayPlan p now) × (question_of p now ≡ None)
    by_fault' a None e = by_retry a e (nat_lt now0 p.retry) refl
    by_fault' a (Some f) e = ((λ may. let sound = may.sound in cc), question_is p now None (Some f) (nat_lt now p.retry) a e refl)

    by_asked : (o : Option Question) → p.asked ≡ o → (¬ MayPlan p now) × (question_of p now ≡ None)
    by_asked None a = by_fault' a p.fault refl
    by_asked (Some q) a = ((λ may. let asked = may.asked in cc), question_is p now (Some q) p.fault (nat_lt now p.retry) a refl refl)

-- ---- all

-- where nothing is to be done at a moment, nothing is at any other before these
pub rests_till : (w : Work) (at0 at : Moment) (until : ℕ) → IsAtRest w at0 → (MayPlan w.part at0.now → OnlyOwn w.part.row.replica (stages_of w.part.row.replica)) →
    ActsWait w.wishes until (length w.wishes) → EndsWait w.ends until (length w.ends) → IsTillShown w.part.wanted at0.now until (length w.part.wanted) →
    IsAfter (Some w.part.retry) at0.now until → at.now < until → at.clock < first_timer 0 w.part → (at.may_claim ≡ true → at0.may_claim ≡ true) → Rests w at w
rests_till w at0 at until rest own acts ends shown retry early low claims = record {
  told = nobody_till w at0.now at.now until rest.told acts ends early;
  steps = nothing_till w.part at0.now at.now until rest.steps shown early;
  rests = by rest.why;
}
  where
    by_time : MayPlan w.part at0.now → w.wishes ≡ [] → IsIdle w at0 → (at.now < w.part.retry) ⊎ (w.part.retry ≤ at.now) → RestsBy w at w
    by_time may free idle (inl late) =
        let t : nat_lt at.now w.part.retry ≡ true = grind (arith, nat_tests) in
        inr ((λ now. let time = now.time in omega (arith, time, late)), question_is w.part at.now None None true may.asked may.sound t, refl)
    by_time may free idle (inr has) = inl (
      record { none = may.none; asked = may.asked; sound = may.sound; fresh = may.fresh; all_seen = may.all_seen; time = has },
      subst (λ (l : List Wish). RestsWith (slice_get l 0) w at w) (sym free) (inr (idle_till w at0 at idle (own may) may.sound low claims, refl)),
    )

    by : (MayPlan w.part at0.now × (w.wishes ≡ []) × IsIdle w at0) ⊎ ((¬ MayPlan w.part at0.now) × (question_of w.part at0.now ≡ None)) → RestsBy w at w
    by (inl (may, free, idle)) = by_time may free idle (cases_lt at.now w.part.retry)
    by (inr (cannot, none)) = (let is = still w.part at0.now at.now until cannot none retry early in inr (is.0, is.1, refl))

-- ---- open claims

-- each is the session's own, also up to the next stage whose claim is open
pub own_till : (r : Replica) (from to : ℕ) → OnlyOwn r from → NoneOpen from to (state_of r) → OnlyOwn r to
own_till r from to own none i session low granted claimed = split (cases_lt i from)
  where
    split : (i < from) ⊎ (from ≤ i) → session ≡ r.session
    split (inl lt) = own i session lt granted claimed
    split (inr le) = (let no : ⊥ = claimed (none i le low) in absurd no)

-- and at that one, where it is
pub own_with : (r : Replica) (stage session : ℕ) → ClaimsAreOnes → OnlyOwn r stage → IsGrantedTo r session stage → session ≡ r.session → OnlyOwn r (stage + 1)
own_with r stage session ones own granted is i other low held claimed = split (cases_lt i stage)
  where
    split : (i < stage) ⊎ (stage ≤ i) → other ≡ r.session
    split (inl lt) = own i other lt held claimed
    split (inr le) =
        let same : i ≡ stage = omega (arith, le, low) in
        ones r.plan r.seen stage other session (subst (IsGrantedTo r other) same held) granted ∙ is

-- ---- what is kept

pub own_where : (r r' : Replica) (b : Bool) → r ≡ r' → b ≡ true → OnTrue b (OnlyOwn r (stages_of r)) → OnlyOwn r' (stages_of r')
own_where r r' true same is own = subst (λ (q : Replica). OnlyOwn q (stages_of q)) same own
own_where r r' false same is own = (let bad : ⊥ = cc in absurd bad)

pub cannot_where : (p : Part) (now : ℕ) (b : Bool) → b ≡ false → OnFalse b (¬ MayPlan p now) → ¬ MayPlan p now
cannot_where p now true is none = (let bad : ⊥ = cc in absurd bad)
cannot_where p now false is none = none

pub quiet_is : (w : Work) (at0 : Moment) (q : Quiet) → IsAtRest w at0 → (MayPlan w.part at0.now → OnlyOwn w.part.row.replica (stages_of w.part.row.replica)) →
    ActsWait w.wishes q.until (length w.wishes) → EndsWait w.ends q.until (length w.ends) → IsTillShown w.part.wanted at0.now q.until (length w.part.wanted) →
    IsAfter (Some w.part.retry) at0.now q.until → q.clock ≡ first_timer 0 w.part → q.claims ≡ at0.may_claim → Takes w.part q.busy → IsQuiet w q
quiet_is w at0 q rest own acts ends shown retry clock may busy = record {
  rests = λ at within. rests_till w at0 at q.until rest own acts ends shown retry within.now (subst (λ (m : ℕ). at.clock < m) clock within.clock)
      (λ claims. sym may ∙ within.claims claims);
  timer = λ now low. timer_past w.part now (subst (λ (m : ℕ). now < m) clock low) ∙ sym clock;
  busy = busy;
}

pub quiet_tells : (w : Work) (kept : Option Quiet) (q : Quiet) (now clock : ℕ) (may b : Bool) → kept ≡ Some q → IfSome kept (IsQuiet w) →
    OnTrue b ((watch : Watch) → IsWithin q (moment_of now watch clock may)) → OnTrue b ((watch : Watch) → Rests w (moment_of now watch clock may) w)
quiet_tells w kept q now clock may true is known within = λ watch. (subst (λ (o : Option Quiet). IfSome o (IsQuiet w)) is known).rests (moment_of now watch clock may) (within watch)
quiet_tells w kept q now clock may false is known within = tt
