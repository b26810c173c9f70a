-- Records that fit a list of events.
use Rattle.std.proofs.Common.{◌≡◌, ℕ, ◌+◌, ◌-◌, ◌<◌, ◌≤◌, List, [], ◌∷◌, ◌++◌, length, take, All, sym, refl, ap, ◌∙◌, subst, append-nil, length-append, arith}
use Rattle.std.proofs.lemmas.List.{take-append-le}
use Rattle.std.proofs.Math.Seq.{take-append_seam}
use Rattle.std.proofs.lemmas.List.Elements.{All-nil, All-cons, All-head, All-tail, All-push}
use Rattle.cf_forms.specs.Plans.{Planned}
use Rattle.cf_model.specs.declared.asks.Ask.{Ask}
use Rattle.cf_model.specs.declared.asks.Told.{Told}
use Rattle.cf_model.specs.declared.events.Event.{Event}
use Rattle.cf_model.specs.declared.events.Reply.{Reply}
use Rattle.cf_model.specs.States.{State, start}
use Rattle.cf_model.specs.Events.{answered, state_after, state_at, told}
use Rattle.cf_model.specs.Ranges.{AskFits}
use Rattle.cf_event.specs.declared.record.Record.{Record}
use Rattle.cf_event.specs.declared.record.Record.TheVariants.{Did, Saw}
use Rattle.cf_model.specs.Calls.{who_of}
use Rattle.cf_event.specs.Events.{own}
use Rattle.cf_event.specs.Histories.{AreRecordsOf, InOrder, IsAnswered, dids}
use Rattle.cf_event.proofs.Events.{events_own, events_still}

dids_append : (rs qs : List Record) → dids (rs ++ qs) ≡ dids rs ++ dids qs
dids_append [] qs = refl
dids_append (Did place e reply ∷ rs) qs = ap (λ l. (place, e) ∷ l) (dids_append rs qs)
dids_append (Saw place ask answer ∷ rs) qs = dids_append rs qs

pub take_all : (xs : List Event) → take (length xs) xs ≡ xs
take_all [] = refl
take_all (x ∷ xs) = ap (λ l. x ∷ l) (take_all xs)

-- an answer stays one while the list grows
pub at_still : (plan : Planned) (xs ys : List Event) (p : ℕ) → p ≤ length xs → state_at plan xs p ≡ state_at plan (xs ++ ys) p
at_still plan xs ys p le = ap (state_after (start plan)) (sym (take-append-le p xs ys le))

answered_still : (plan : Planned) (xs ys : List Event) (r : Record) → IsAnswered plan xs r → IsAnswered plan (xs ++ ys) r
answered_still plan xs ys (Did place e reply) h =
    (h.0, (let l = h.1 in omega (arith, length-append xs ys)), h.2 ∙ ap (λ (s : State). (answered s e).0) (at_still plan xs ys (place - 1) (let l = h.1 in omega arith)))
answered_still plan xs ys (Saw place ask answer) h =
    let same = at_still plan xs ys place h.0 in
    ((let l = h.0 in omega (arith, length-append xs ys)), h.1 ∙ ap (λ (s : State). told s ask) same, subst (λ (s : State). AskFits (length s.plan.stages) ask) same h.2)

all_still : (plan : Planned) (xs ys : List Event) (rs : List Record) → All (IsAnswered plan xs) rs → All (IsAnswered plan (xs ++ ys)) rs
all_still plan xs ys [] h = All-nil (IsAnswered plan (xs ++ ys))
all_still plan xs ys (r ∷ rs) h = All-cons (IsAnswered plan (xs ++ ys)) r rs (answered_still plan xs ys r (All-head (IsAnswered plan xs) r rs h)) (all_still plan xs ys rs (All-tail (IsAnswered plan xs) r rs h))

-- records still fit where events of others come
pub records_more : (plan : Planned) (c : ℕ) (xs ys : List Event) (rs : List Record) → own c ys ≡ [] → AreRecordsOf plan c xs rs → AreRecordsOf plan c (xs ++ ys) rs
records_more plan c xs ys rs none f = record {
  did = f.did ∙ sym (events_still c xs ys none);
  answers = all_still plan xs ys rs f.answers;
  order = f.order;
}

-- a new record is at or behind the last place
did_ordered : (plan : Planned) (history : List Event) (last : ℕ) (rs : List Record) (place : ℕ) (e : Event) (reply : Reply) → last ≤ length history → length history < place → All (IsAnswered plan history) rs → InOrder last rs → InOrder last (rs ++ Did place e reply ∷ [])
did_ordered plan history last [] place e reply le lt h o = (omega arith, tt)
did_ordered plan history last (Did p d r ∷ rs) place e reply le lt h o =
    (o.0, did_ordered plan history p rs place e reply (All-head (IsAnswered plan history) (Did p d r) rs h).1 lt (All-tail (IsAnswered plan history) (Did p d r) rs h) o.1)
did_ordered plan history last (Saw p a t ∷ rs) place e reply le lt h o =
    (o.0, did_ordered plan history p rs place e reply (All-head (IsAnswered plan history) (Saw p a t) rs h).0 lt (All-tail (IsAnswered plan history) (Saw p a t) rs h) o.1)

saw_ordered : (plan : Planned) (history : List Event) (last : ℕ) (rs : List Record) (place : ℕ) (ask : Ask) (answer : Told) → last ≤ length history → length history ≤ place → All (IsAnswered plan history) rs → InOrder last rs → InOrder last (rs ++ Saw place ask answer ∷ [])
saw_ordered plan history last [] place ask answer le lt h o = (omega arith, tt)
saw_ordered plan history last (Did p d r ∷ rs) place ask answer le lt h o =
    (o.0, saw_ordered plan history p rs place ask answer (All-head (IsAnswered plan history) (Did p d r) rs h).1 lt (All-tail (IsAnswered plan history) (Did p d r) rs h) o.1)
saw_ordered plan history last (Saw p a t ∷ rs) place ask answer le lt h o =
    (o.0, saw_ordered plan history p rs place ask answer (All-head (IsAnswered plan history) (Saw p a t) rs h).0 lt (All-tail (IsAnswered plan history) (Saw p a t) rs h) o.1)

-- one more event, the caller's, with its record
pub records_did : (plan : Planned) (c : ℕ) (seen : List Event) (rs : List Record) (e : Event) (reply : Reply) → who_of e ≡ c → reply ≡ (answered (state_after (start plan) seen) e).0 → AreRecordsOf plan c seen rs
    → AreRecordsOf plan c (seen ++ e ∷ []) (rs ++ Did (length seen + 1) e reply ∷ [])
records_did plan c seen rs e reply mine replied f =
    let before : take (length seen + 1 - 1) (seen ++ e ∷ []) ≡ seen = ap (λ (n : ℕ). take n (seen ++ e ∷ [])) (let e : length seen + 1 - 1 ≡ length seen = omega arith in e) ∙ take-append_seam seen (e ∷ []) in record {
      did = dids_append rs (Did (length seen + 1) e reply ∷ []) ∙ ap (λ l. l ++ (length seen + 1, e) ∷ []) f.did ∙ sym (events_own c seen e mine);
      answers = All-push (IsAnswered plan (seen ++ e ∷ [])) rs (Did (length seen + 1) e reply) (all_still plan seen (e ∷ []) rs f.answers)
          ((omega arith), (omega (arith, length-append seen (e ∷ []))), replied ∙ ap (λ (l : List Event). (answered (state_after (start plan) l) e).0) (sym before));
      order = did_ordered plan seen 0 rs (length seen + 1) e reply (omega arith) (omega arith) f.answers f.order;
    }

-- one more record of a question
pub records_saw : (plan : Planned) (c : ℕ) (seen : List Event) (rs : List Record) (ask : Ask) (answer : Told) → answer ≡ told (state_after (start plan) seen) ask → AskFits (length (state_after (start plan) seen).plan.stages) ask → AreRecordsOf plan c seen rs
    → AreRecordsOf plan c seen (rs ++ Saw (length seen) ask answer ∷ [])
records_saw plan c seen rs ask answer is there f =
    let now : state_after (start plan) seen ≡ state_at plan seen (length seen) = ap (state_after (start plan)) (sym (take_all seen)) in record {
      did = dids_append rs (Saw (length seen) ask answer ∷ []) ∙ append-nil (dids rs) ∙ f.did;
      answers = All-push (IsAnswered plan seen) rs (Saw (length seen) ask answer) f.answers
          ((omega arith), is ∙ ap (λ (s : State). told s ask) now, subst (λ (s : State). AskFits (length s.plan.stages) ask) now there);
      order = saw_ordered plan seen 0 rs (length seen) ask answer (omega arith) (omega arith) f.answers f.order;
    }

pub records_none : (plan : Planned) (c : ℕ) → AreRecordsOf plan c [] []
records_none plan c = record { did = refl; answers = All-nil (IsAnswered plan []); order = tt }
