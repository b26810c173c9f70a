-- Records that fit by a graph with some room fit by one with more.
use Rattle.std.proofs.Common.{◌≡◌, ℕ, zero, suc, ◌+◌, ◌-◌, ◌<◌, ◌≤◌, Bool, true, false, cond, eqb, List, [], ◌∷◌, length, take, All, refl, ap, sym, ◌∙◌, subst, arith}
use Rattle.std.specs.Prelude.{Some, slice_get}
use Rattle.std.proofs.Common.{Result, Ok, Err}
use Rattle.std.specs.Result.{OnErr, OnOk}
use Rattle.std.proofs.lemmas.Option.{none-some}
use Rattle.std.proofs.lemmas.List.{take_all}
use Rattle.std.proofs.lemmas.List.Elements.{All-nil, All-cons, All-head, All-tail, All-weaker}
use Rattle.cf_forms.specs.Plans.{Planned, with_room}
use Rattle.cf_model.specs.declared.asks.Ask.{Ask}
use Rattle.cf_model.specs.declared.asks.Ask.TheVariants.{Now as AsksNow, Outcome as AsksOutcome}
use Rattle.cf_model.specs.declared.events.Event.{Event}
use Rattle.cf_model.specs.States.{State, start}
use Rattle.cf_model.specs.Events.{answered, state_after, told}
use Rattle.cf_model.specs.Ranges.{AskFits}
use Rattle.cf_event.specs.declared.record.Record.{Record}
use Rattle.cf_event.specs.declared.record.Record.TheVariants.{Did, Saw}
use Rattle.cf_event.specs.Histories.{IsAnswered, dids}
use Rattle.cf_ledger.specs.Ledgers.{AreTaken, IsTaken, Ledger, roomier, with_more}
use Rattle.cf_ledger.proofs.Growth.{answered_more, state_more, taken_more}
use Rattle.cf_row.specs.declared.entry.Entry.{Entry}
use Rattle.cf_row.specs.Rows.{FitsUpTo, IsKept, history_of, own_from, own_in, session_of}

taken_take : (s : State) (es : List Event) (k : ℕ) → AreTaken s es → AreTaken s (take k es)
taken_take s es zero h = tt
taken_take s [] (suc k) h = tt
taken_take s (e ∷ es) (suc k) h = (h.0, taken_take ((answered s e).1) es k h.1)

pub taken_at : (s : State) (es : List Event) (k : ℕ) (e : Event) → slice_get es k ≡ Some e → AreTaken s es → IsTaken (state_after s (take k es)) e
taken_at s [] k e there h = absurd (none-some e there)
taken_at s (d ∷ es) zero e there h = subst (IsTaken s) (let same : d ≡ e = cc in same) h.0
taken_at s (d ∷ es) (suc k) e there h = taken_at ((answered s d).1) es k e there h.1

pub state_lift : (plan : Planned) (r more : ℕ) (es : List Event) → AreTaken (start (with_room plan r)) es → state_after (start (with_room plan (r + more))) es ≡ roomier more (state_after (start (with_room plan r)) es)
state_lift plan r more es h = state_more more (start (with_room plan r)) es h

-- each changing call is the event at its place
abbrev IsAt : List Event → Record → Type 0
IsAt es (Did place e reply) = slice_get es (place - 1) ≡ Some e
IsAt es (Saw place ask answer) = Unit {0}

if_own : (b : Bool) (P : ℕ × Event → Type 0) (p : ℕ × Event) (l : List (ℕ × Event)) → P p → All P l → All P (cond b (p ∷ l) l)
if_own true P p l here later = All-cons P p l here later
if_own false P p l here later = later

own_at : (s n : ℕ) (row : List Entry) (es : List Event) → All (λ (q : ℕ × Event). (n < q.0) × (slice_get es (q.0 - n - 1) ≡ Some q.1)) (own_from s n row es)
own_at s n [] es = All-nil (λ (q : ℕ × Event). (n < q.0) × (slice_get es (q.0 - n - 1) ≡ Some q.1))
own_at s n (x ∷ row) [] =
    let none : List Event = [] in
    All-nil (λ (q : ℕ × Event). (n < q.0) × (slice_get none (q.0 - n - 1) ≡ Some q.1))
own_at s n (x ∷ row) (e ∷ es) =
    let P : ℕ × Event → Type 0 = λ (q : ℕ × Event). (n < q.0) × (slice_get (e ∷ es) (q.0 - n - 1) ≡ Some q.1) in
    let later : All P (own_from s (suc n) row es) =
    All-weaker (λ (q : ℕ × Event). (suc n < q.0) × (slice_get es (q.0 - suc n - 1) ≡ Some q.1)) P
    (λ q h. let lt = h.0 in ((omega arith), subst (λ (k : ℕ). slice_get (e ∷ es) k ≡ Some q.1) (let is : suc (q.0 - suc n - 1) ≡ q.0 - n - 1 = omega arith in is) h.1)) (own_from s (suc n) row es) (own_at s (suc n) row es) in
    let here : P (suc n, e) = ((omega arith), ap (λ (k : ℕ). slice_get (e ∷ es) k) (let is : suc n - n - 1 ≡ 0 = omega arith in is)) in
    if_own (eqb (session_of x.token) s) P (suc n, e) (own_from s (suc n) row es) here later

at_all : (es : List Event) (rs : List Record) → All (λ (q : ℕ × Event). slice_get es (q.0 - 1) ≡ Some q.1) (dids rs) → All (IsAt es) rs
at_all es [] h = All-nil (IsAt es)
at_all es (Did place e reply ∷ rs) h =
    let P : ℕ × Event → Type 0 = λ (q : ℕ × Event). slice_get es (q.0 - 1) ≡ Some q.1 in
    All-cons (IsAt es) (Did place e reply) rs (All-head P (place, e) (dids rs) h) (at_all es rs (All-tail P (place, e) (dids rs) h))
at_all es (Saw place ask answer ∷ rs) h = All-cons (IsAt es) (Saw place ask answer) rs tt (at_all es rs h)

told_lift : (more : ℕ) (s : State) (ask : Ask) → told s ask ≡ told (roomier more s) ask
told_lift more s (AsksNow i absent) = refl
told_lift more s (AsksOutcome i) = refl

one_lift : (plan : Planned) (r more : ℕ) (es : List Event) (t : Record) → AreTaken (start (with_room plan r)) es → IsAt es t → IsAnswered (with_room plan r) es t → IsAnswered (with_room plan (r + more)) es t
one_lift plan r more es (Did place e reply) taken at h =
    let before = take (place - 1) es in
    let s = state_after (start (with_room plan r)) before in
    let lifted = state_lift plan r more before (taken_take (start (with_room plan r)) es (place - 1) taken) in
    let room = (taken_at (start (with_room plan r)) es (place - 1) e at taken).room in
    (h.0, h.1, h.2 ∙ sym (ap (λ p. p.0) (answered_more more s e room)) ∙ ap (λ (t : State). (answered t e).0) (sym lifted))
one_lift plan r more es (Saw place ask answer) taken at h =
    let before = take place es in
    let s = state_after (start (with_room plan r)) before in
    let lifted = state_lift plan r more before (taken_take (start (with_room plan r)) es place taken) in
    (h.0, h.1 ∙ told_lift more s ask ∙ ap (λ (t : State). told t ask) (sym lifted), subst (λ (t : State). AskFits (length t.plan.stages) ask) (sym lifted) h.2)

all_lift : (plan : Planned) (r more : ℕ) (es : List Event) (rs : List Record) → AreTaken (start (with_room plan r)) es → All (IsAt es) rs → All (IsAnswered (with_room plan r) es) rs → All (IsAnswered (with_room plan (r + more)) es) rs
all_lift plan r more es rs taken at h = λ k d l. one_lift plan r more es _ taken (at k d l) (h k d l)

pub kept_lift : (plan : Planned) (r more s : ℕ) (row : List Entry) (rs : List Record) → dids rs ≡ own_in s row → AreTaken (start (with_room plan r)) (history_of row) → All (IsAnswered (with_room plan r) (history_of row)) rs → All (IsAnswered (with_room plan (r + more)) (history_of row)) rs
kept_lift plan r more s row rs own taken h =
    let P : ℕ × Event → Type 0 = λ (q : ℕ × Event). slice_get (history_of row) (q.0 - 1) ≡ Some q.1 in
    let there : All P (own_in s row) = All-weaker (λ (q : ℕ × Event). (0 < q.0) × (slice_get (history_of row) (q.0 - 0 - 1) ≡ Some q.1)) P
    (λ q g. subst (λ (k : ℕ). slice_get (history_of row) k ≡ Some q.1) (let is : q.0 - 0 - 1 ≡ q.0 - 1 = omega arith in is) g.1) (own_in s row) (own_at s 0 row (history_of row)) in
    all_lift plan r more (history_of row) rs taken (at_all (history_of row) rs (subst (All P) (sym own) there)) h

pub fits_lift : (plan : Planned) (r s : ℕ) (row : List Entry) (rs : List Record) → r ≤ plan.room → FitsUpTo (with_room plan r) s (length row) row rs → FitsUpTo plan s (length row) row rs
fits_lift plan r s row rs le h =
    let more = plan.room - r in
    let all : take (length row) row ≡ row = take_all (length row) row (omega arith) in
    let taken : AreTaken (start (with_room plan r)) (history_of row) = subst (λ (l : List Entry). AreTaken (start (with_room plan r)) (history_of l)) all h.taken in
    let is : r + more ≡ plan.room = omega arith in
    subst (λ (n : ℕ). FitsUpTo (with_room plan n) s (length row) row rs) is (record {
      did = h.did;
      answers = kept_lift plan r more s row rs (h.did ∙ ap (own_in s) all) taken h.answers;
      order = h.order;
      taken = taken_more more (start (with_room plan r)) (history_of (take (length row) row)) h.taken;
    })

-- what is kept, once the graph has more room
kept_more : (l : Ledger) (s : ℕ) (seen : List Entry) (rs : List Record) (more : ℕ) → IsKept l s seen rs → IsKept (with_more l more) s seen rs
kept_more l s seen rs more kept = record {
  events = kept.events;
  named = kept.named;
  own = kept.own;
  answers = kept_lift l.plan l.plan.room more s seen rs kept.own kept.taken kept.answers;
  order = kept.order;
  taken = taken_more more (start l.plan) (history_of seen) kept.taken;
}

pub kept_grow : {E : Type 0} (r : Result (Unit {0}) E) (old new : Ledger) (s : ℕ) (seen : List Entry) (rs : List Record) (more : ℕ) → OnOk r (new ≡ with_more old more) → OnErr r (new ≡ old) → IsKept old s seen rs → IsKept new s seen rs
kept_grow (Ok u) old new s seen rs more grown same kept = subst (λ (l : Ledger). IsKept l s seen rs) (sym grown) (kept_more old s seen rs more kept)
kept_grow (Err e) old new s seen rs more grown same kept = subst (λ (l : Ledger). IsKept l s seen rs) (sym same) kept

pub free_grow : {E : Type 0} (r : Result (Unit {0}) E) (old new : Ledger) (more : ℕ) → OnOk r (new ≡ with_more old more) → OnErr r (new ≡ old) → new.free ≡ old.free
free_grow (Ok u) old new more grown same = ap (λ (l : Ledger). l.free) grown
free_grow (Err e) old new more grown same = ap (λ (l : Ledger). l.free) same
