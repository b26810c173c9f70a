-- A caller's records fit when they are read one after another exactly where they fit the whole history.
use Rattle.std.proofs.Common.{◌≡◌, ℕ, zero, suc, ◌+◌, ◌-◌, ◌<◌, ◌≤◌, ◌≢◌, List, [], ◌∷◌, length, drop, slice_get, All, sym, refl, ap, ◌∙◌, subst, length-drop, arith}
use Rattle.std.specs.Prelude.{Some}
use mathlib.Core.Logic.{dite}
use native.Mathlib.Decide.{ℕ_discrete}
use Rattle.std.specs.List.{Contains, filter}
use Rattle.std.proofs.lemmas.List.{drop-drop}
use Rattle.std.proofs.lemmas.List.Elements.{All-nil, All-cons, All-head, All-tail}
use Rattle.std.proofs.lemmas.Option.{none-some, slice_get_within}
use Rattle.cf_forms.specs.Plans.{Planned}
use Rattle.cf_model.specs.declared.events.Event.{Event}
use Rattle.cf_model.specs.States.{State, start}
use Rattle.cf_model.specs.Events.{answered, state_at, told}
use Rattle.cf_model.specs.Ranges.{AskFits}
use Rattle.cf_event.specs.declared.record.Record.{Record}
use Rattle.cf_event.specs.declared.record.Record.TheVariants.{Did, Saw}
use Rattle.cf_model.specs.Calls.{who_of}
use Rattle.cf_event.specs.Words.{IsEvent}
use Rattle.cf_event.specs.Events.{AreEventsOf, placed}
use Rattle.cf_event.specs.Histories.{AreRecordsOfOne, InOrder, IsAnswered, IsOneHistory, dids, numbers_of}
use Rattle.cf_event.proofs.Events.{events_each, none_placed}
use Rattle.cf_history.specs.declared.history.Caller.{Caller}
use Rattle.cf_history.specs.Histories.{AllRight, callers_from}
use Rattle.cf_history.specs.Records.{AreRight, state_in}
use Rattle.cf_history.proofs.Placed.{Behind, behind_less, mine, own_none, passes_over, placed_next, placed_past, stands_next, state_on}

-- what a record's place leaves to come
rest_on : (history : List Event) (at place : ℕ) → at ≤ place → drop (place - at) (drop at history) ≡ drop place history
rest_on history at place le = drop-drop (place - at) at history ∙ ap (λ (n : ℕ). drop n history) (let p : at + (place - at) ≡ place = omega arith in p)

-- records in order are behind the last place
in_order : (last : ℕ) (rs : List Record) → InOrder last rs → Behind last (dids rs)
in_order last [] o = tt
in_order last (Did place e reply ∷ rs) o = o.0
in_order last (Saw place ask answer ∷ rs) o = behind_less last place (dids rs) o.0 (in_order place rs o.1)

-- the event at a place has a word
all_drop : (n : ℕ) (es : List Event) → All IsEvent es → All IsEvent (drop n es)
all_drop zero es h = h
all_drop (suc n) [] h = h
all_drop (suc n) (x ∷ xs) h = all_drop n xs (All-tail IsEvent x xs h)

is_event : (es : List Event) (n : ℕ) (x : Event) → slice_get es n ≡ Some x → All IsEvent es → IsEvent x
is_event [] n x there h = absurd (none-some x there)
is_event (y ∷ ys) zero x there h = subst IsEvent (let same : y ≡ x = cc in same) (All-head IsEvent y ys h)
is_event (y ∷ ys) (suc n) x there h = is_event ys n x there (All-tail IsEvent y ys h)

-- ---- from the whole to one after another

pub goes_right : (plan : Planned) (c : ℕ) (history : List Event) (at : ℕ) (rs : List Record) → All IsEvent history → dids rs ≡ filter (mine c) (placed at (drop at history)) →
    All (IsAnswered plan history) rs → InOrder at rs → AreRight c (state_at plan history at) (drop at history) at rs
goes_right plan c history at [] are did answers order = own_none c at (drop at history) (sym did)
goes_right plan c history at (Did place e reply ∷ rs) are did answers order =
    let next = stands_next c at (drop at history) place e (dids rs) did in
    let answer = All-head (IsAnswered plan history) (Did place e reply) rs answers in
    let le : at ≤ place = (let l = order.0 in omega arith) in
    let before : state_in (state_at plan history at) (drop at history) (place - at - 1) ≡ state_at plan history (place - 1) = state_on plan history at (place - at - 1) (place - 1) (let l = order.0 in omega arith) in
    let now : state_in (state_at plan history at) (drop at history) (place - at) ≡ state_at plan history place = state_on plan history at (place - at) place (omega arith) in
    let rest = rest_on history at place le in (
      record {
        behind = order.0;
        next = next.none;
        there = next.there;
        event = is_event (drop at history) (place - at - 1) e next.there (all_drop at history are);
        mine = next.owner;
        replied = answer.2 ∙ ap (λ (s : State). (answered s e).0) (sym before);
      },
      subst (λ (s : State). AreRight c s (drop (place - at) (drop at history)) place rs) (sym now)
          (subst (λ (es : List Event). AreRight c (state_at plan history place) es place rs) (sym rest)
          (goes_right plan c history place rs are (next.others ∙ ap (λ (es : List Event). filter (mine c) (placed place es)) rest)
          (All-tail (IsAnswered plan history) (Did place e reply) rs answers) order.1)),
    )
goes_right plan c history at (Saw place ask answer ∷ rs) are did answers order =
    let told_so = All-head (IsAnswered plan history) (Saw place ask answer) rs answers in
    let le : at ≤ place = order.0 in
    let far : at + (place - at) ≡ place = omega arith in
    let over = passes_over c at (place - at) (drop at history) (dids rs) did (subst (λ (n : ℕ). Behind n (dids rs)) (sym far) (in_order place rs order.1)) in
    let now : state_in (state_at plan history at) (drop at history) (place - at) ≡ state_at plan history place = state_on plan history at (place - at) place (omega arith) in
    let rest = rest_on history at place le in (
      record {
        not_before = le;
        within = (let w = told_so.0 in let l = length-drop at history in omega arith);
        none = over.0;
        asks = subst (λ (s : State). AskFits (length s.plan.stages) ask) (sym now) told_so.2;
        told_so = told_so.1 ∙ ap (λ (s : State). told s ask) (sym now);
      },
      subst (λ (s : State). AreRight c s (drop (place - at) (drop at history)) place rs) (sym now)
          (subst (λ (es : List Event). AreRight c (state_at plan history place) es place rs) (sym rest)
          (goes_right plan c history place rs are
          (over.1 ∙ ap (λ (n : ℕ). filter (mine c) (placed n (drop (place - at) (drop at history)))) far ∙ ap (λ (es : List Event). filter (mine c) (placed place es)) rest)
          (All-tail (IsAnswered plan history) (Saw place ask answer) rs answers) order.1)),
    )

-- ---- from one after another to the whole

pub record Read (plan : Planned) (c : ℕ) (history : List Event) (at : ℕ) (rs : List Record) : Type 0 where
  pub did : dids rs ≡ filter (mine c) (placed at (drop at history))
  pub answers : All (IsAnswered plan history) rs
  pub order : InOrder at rs

pub was_right : (plan : Planned) (c : ℕ) (history : List Event) (at : ℕ) (rs : List Record) → at ≤ length history → AreRight c (state_at plan history at) (drop at history) at rs → Read plan c history at rs
was_right plan c history at [] most right = record { did = sym (none_placed c at (drop at history) right); answers = All-nil (IsAnswered plan history); order = tt }
was_right plan c history at (Did place e reply ∷ rs) most right =
    let r = right.0 in
    let le : at ≤ place = (let l = r.behind in omega arith) in
    let last : place ≤ length history = (let l = slice_get_within (drop at history) (place - at - 1) e r.there in let d = length-drop at history in let b = r.behind in omega arith) in
    let before : state_in (state_at plan history at) (drop at history) (place - at - 1) ≡ state_at plan history (place - 1) = state_on plan history at (place - at - 1) (place - 1) (let l = r.behind in omega arith) in
    let now : state_in (state_at plan history at) (drop at history) (place - at) ≡ state_at plan history place = state_on plan history at (place - at) place (omega arith) in
    let rest = rest_on history at place le in
    let here : suc (at + (place - at - 1)) ≡ place = (let l = r.behind in omega arith) in
    let one : suc (place - at - 1) ≡ place - at = (let l = r.behind in omega arith) in
    let then = was_right plan c history place rs last
    (subst (λ (es : List Event). AreRight c (state_at plan history place) es place rs) rest
    (subst (λ (s : State). AreRight c s (drop (place - at) (drop at history)) place rs) now right.1)) in
    let next : filter (mine c) (placed at (drop at history)) ≡ (place, e) ∷ filter (mine c) (placed place (drop place history)) =
    placed_next c at (place - at - 1) (drop at history) e r.next r.there r.mine
    ∙ ap (λ (n : ℕ). (n, e) ∷ filter (mine c) (placed n (drop (suc (place - at - 1)) (drop at history)))) here
    ∙ ap (λ (n : ℕ). (place, e) ∷ filter (mine c) (placed place (drop n (drop at history)))) one
    ∙ ap (λ (es : List Event). (place, e) ∷ filter (mine c) (placed place es)) rest in record {
      did = ap (λ (l : List (ℕ × Event)). (place, e) ∷ l) then.did ∙ sym next;
      answers = All-cons (IsAnswered plan history) (Did place e reply) rs
          ((let l = r.behind in omega arith), last, r.replied ∙ ap (λ (s : State). (answered s e).0) before) then.answers;
      order = (r.behind, then.order);
    }
was_right plan c history at (Saw place ask answer ∷ rs) most right =
    let r = right.0 in
    let le : at ≤ place = r.not_before in
    let last : place ≤ length history = (let l = r.within in let d = length-drop at history in let b = r.not_before in omega arith) in
    let far : at + (place - at) ≡ place = omega arith in
    let now : state_in (state_at plan history at) (drop at history) (place - at) ≡ state_at plan history place = state_on plan history at (place - at) place (omega arith) in
    let rest = rest_on history at place le in
    let then = was_right plan c history place rs last
    (subst (λ (es : List Event). AreRight c (state_at plan history place) es place rs) rest
    (subst (λ (s : State). AreRight c s (drop (place - at) (drop at history)) place rs) now right.1)) in
    let next : filter (mine c) (placed at (drop at history)) ≡ filter (mine c) (placed place (drop place history)) =
    placed_past c at (place - at) (drop at history) r.none
    ∙ ap (λ (n : ℕ). filter (mine c) (placed n (drop (place - at) (drop at history)))) far
    ∙ ap (λ (es : List Event). filter (mine c) (placed place es)) rest in record {
      did = then.did ∙ sym next;
      answers = All-cons (IsAnswered plan history) (Saw place ask answer) rs
          (last, r.told_so ∙ ap (λ (s : State). told s ask) now, subst (λ (s : State). AskFits (length s.plan.stages) ask) now r.asks) then.answers;
      order = (r.not_before, then.order);
    }

-- ---- all callers

each_right : (plan : Planned) (history : List Event) (c : ℕ) (callers : List Caller) → All IsEvent history → All (AreRecordsOfOne plan history) (callers_from c callers) → AllRight (start plan) history c callers
each_right plan history c [] are h = tt
each_right plan history c (k ∷ ks) are h =
    let f = All-head (AreRecordsOfOne plan history) (c, k.records.items) (callers_from (c + 1) ks) h in (
      goes_right plan c history 0 k.records.items are f.did f.answers f.order,
      each_right plan history (c + 1) ks are (All-tail (AreRecordsOfOne plan history) (c, k.records.items) (callers_from (c + 1) ks) h),
    )

right_each : (plan : Planned) (history : List Event) (c : ℕ) (callers : List Caller) → AllRight (start plan) history c callers → All (AreRecordsOfOne plan history) (callers_from c callers)
right_each plan history c [] h = All-nil (AreRecordsOfOne plan history)
right_each plan history c (k ∷ ks) h =
    let read = was_right plan c history 0 k.records.items (omega arith) h.0 in
    All-cons (AreRecordsOfOne plan history) (c, k.records.items) (callers_from (c + 1) ks)
    (record { did = read.did; answers = read.answers; order = read.order })
    (right_each plan history (c + 1) ks h.1)

pub count_from : (c : ℕ) (callers : List Caller) → length (callers_from c callers) ≡ length callers
count_from c [] = refl
count_from c (k ∷ ks) = let r = count_from (c + 1) ks in omega arith

number_there : (c w : ℕ) (callers : List Caller) → c ≤ w → w < c + length callers → Contains (numbers_of (callers_from c callers)) w
number_there c w [] le lt = absurd (omega arith)
number_there c w (k ∷ ks) le lt = dite (ℕ_discrete c w)
    (λ (same : c ≡ w). (0, omega arith, same))
    (λ (other : c ≢ w). let r = number_there (c + 1) w ks (let o = other in omega arith) (omega arith) in (suc r.0, (let l = r.1 in omega arith), r.2))

pub are_events : (callers functions : ℕ) (s : State) (history : List Event) → AreEventsOf callers functions s history → All IsEvent history
are_events callers functions s history taken = events_each IsEvent callers functions (λ s e is. is.event) s history taken

pub one_of_each : (plan : Planned) (functions : ℕ) (history : List Event) (callers : List Caller) → AreEventsOf (length callers) functions (start plan) history → All (AreRecordsOfOne plan history) (callers_from 0 callers) →
    IsOneHistory plan functions history (callers_from 0 callers)
one_of_each plan functions history callers taken each = record {
  taken = subst (λ (n : ℕ). AreEventsOf n functions (start plan) history) (sym (count_from 0 callers)) taken;
  each = each;
  no_other = events_each (λ e. Contains (numbers_of (callers_from 0 callers)) (who_of e)) (length callers) functions
      (λ s e is. number_there 0 (who_of e) callers (omega arith) (let l = is.caller in omega arith)) (start plan) history taken;
}

pub one_of_right : (plan : Planned) (functions : ℕ) (history : List Event) (callers : List Caller) → AreEventsOf (length callers) functions (start plan) history → AllRight (start plan) history 0 callers →
    IsOneHistory plan functions history (callers_from 0 callers)
one_of_right plan functions history callers taken right = one_of_each plan functions history callers taken (right_each plan history 0 callers right)

pub taken_of_one : (plan : Planned) (functions : ℕ) (history : List Event) (callers : List Caller) → IsOneHistory plan functions history (callers_from 0 callers) →
    AreEventsOf (length callers) functions (start plan) history
taken_of_one plan functions history callers one = subst (λ (n : ℕ). AreEventsOf n functions (start plan) history) (count_from 0 callers) one.taken

pub right_of_one : (plan : Planned) (functions : ℕ) (history : List Event) (callers : List Caller) → IsOneHistory plan functions history (callers_from 0 callers) → AllRight (start plan) history 0 callers
right_of_one plan functions history callers one =
    each_right plan history 0 callers (are_events (length (callers_from 0 callers)) functions (start plan) history one.taken) one.each
