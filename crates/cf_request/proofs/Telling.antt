-- Stages that were settled, each told once.
use Rattle.std.proofs.Common.{◌≡◌, ◌≢◌, ℕ, zero, suc, ◌+◌, ◌-◌, ◌<◌, ◌≤◌, Bool, true, false, take, drop, Option, Some, None, List, [], ◌∷◌, ◌++◌, All, Contains, length, length-append, refl, ap, sym, ◌∙◌, arith, subst, inl, inr, ◌⊎◌, append-nil, append_assoc, take-append-drop}
use Rattle.std.specs.Prelude.{is_some, slice_get, option_and_then, unwrap_or}
use Rattle.std.specs.List.{filter}
use Rattle.std.proofs.lemmas.Bool.{cases_lt}
use Rattle.std.proofs.lemmas.List.{drop-append-le, take-append-le}
use Rattle.std.proofs.lemmas.List.Elements.{All-append, All-contains, All-filter, All-nil, All-push, All-weaker, Contains-append_left, Contains-append_right, Contains-push, filter_passes}
use Rattle.cf_outcome.specs.declared.outcome.Outcome.{Outcome}
use Rattle.cf_forms.specs.Plans.{Planned, PlannedStage, has_place, with_room}
use Rattle.cf_forms.proofs.PlanLemmas.{place_is}
use Rattle.cf_model.specs.declared.stage.Stage.{Stage}
use Rattle.cf_model.specs.declared.stage.Stage.TheVariants.{Pending, Ready, Claimed, Linked, Settled}
use Rattle.cf_model.specs.declared.events.Event.{Event}
use Rattle.cf_model.specs.declared.events.Reply.{Reply}
use Rattle.cf_model.specs.Events.{answered, state_after}
use Rattle.cf_model.specs.Graphs.{AreNews, stage_in}
use Rattle.cf_model.specs.States.{State, outcome_in, outcome_of, start}
use Rattle.cf_model.proofs.Histories.{state_after-append}
use Rattle.cf_model.proofs.Moves.{keeps_outcomes}
use Rattle.cf_model.proofs.Shape.{answered-grows}
use Rattle.cf_ledger.specs.Ledgers.{Does, Ledger, and_event, stages_of, state_at, state_of}
use Rattle.cf_request.specs.Ready.{Lanes}
use Rattle.cf_request.specs.Telling.{AreFresh, AreSettled, AreSettledBelow, AreSettledBy, IsKept, IsOnce, Teller, Tells, is_settled_in, most_stages}
use Rattle.cf_request.proofs.Lists.{apart_append, apart_climbing, climbing_filter, climbing_push, contains_filter, few_apart}

-- ---- the settled ones

pub some_true : (o : Option Outcome) (x : Outcome) → o ≡ Some x → is_some o ≡ true
some_true o x e = ap is_some e

stays_by : (s : State) (e : Event) (i : ℕ) (o : Option Outcome) → outcome_in s.stages i ≡ o → is_some o ≡ true → outcome_in ((answered s e).1.stages) i ≡ o
stays_by s e i None is h = cc
stays_by s e i (Some o) is h = keeps_outcomes s (e ∷ []) i o is

pub stays : (s : State) (e : Event) (i : ℕ) → is_settled_in s.stages i ≡ true → outcome_in ((answered s e).1.stages) i ≡ outcome_in s.stages i
stays s e i h = stays_by s e i (outcome_in s.stages i) refl h

-- a settled stage is known by its outcome
stage_by : (o p : Option Stage) → is_some (option_and_then outcome_of o) ≡ true → option_and_then outcome_of p ≡ option_and_then outcome_of o → unwrap_or p Pending ≡ unwrap_or o Pending
stage_by None p h e = cc
stage_by (Some Pending) p h e = cc
stage_by (Some (Ready a)) p h e = cc
stage_by (Some Claimed) p h e = cc
stage_by (Some (Linked j)) p h e = cc
stage_by (Some (Settled o)) None h e = cc
stage_by (Some (Settled o)) (Some Pending) h e = cc
stage_by (Some (Settled o)) (Some (Ready a)) h e = cc
stage_by (Some (Settled o)) (Some Claimed) h e = cc
stage_by (Some (Settled o)) (Some (Linked j)) h e = cc
stage_by (Some (Settled o)) (Some (Settled p)) h e = cc

both_tests : (b : Bool) → (b ≡ true) ⊎ (b ≡ false)
both_tests true = inl refl
both_tests false = inr refl

-- what was settled is no news
pub no_news : (s : State) (e : Event) (i : ℕ) → stage_in ((answered s e).1.stages) i ≢ stage_in s.stages i → is_settled_in s.stages i ≡ false
no_news s e i differs = elim (both_tests (is_settled_in s.stages i)) [
  | inl h ↦ absurd (differs (stage_by (slice_get s.stages i) (slice_get ((answered s e).1.stages) i) h (stays s e i h)))
  | inr h ↦ h
]

pub outcome_stage : (o : Option Stage) → option_and_then outcome_of o ≡ outcome_of (unwrap_or o Pending)
outcome_stage None = refl
outcome_stage (Some x) = refl

-- what is settled now and wasn't, is
pub is_news : (old new : List Stage) (i : ℕ) → is_settled_in old i ≡ false → is_settled_in new i ≡ true → stage_in new i ≢ stage_in old i
is_news old new i before after = λ same.
    let a = outcome_stage (slice_get old i) in
    let b = outcome_stage (slice_get new i) in
    let h : outcome_in new i ≡ outcome_in old i = b ∙ ap outcome_of same ∙ sym a in
    let t = ap is_some h in
    cc

-- the news that are settled now
pub fresh_of : (s : State) (e : Event) (news : List ℕ) → AreNews s.stages ((answered s e).1.stages) news → AreFresh s.stages ((answered s e).1.stages) (filter (is_settled_in ((answered s e).1.stages)) news)
fresh_of s e news h =
    let new = (answered s e).1.stages in
    record {
      rising = climbing_filter (is_settled_in new) news h.rising;
      before = All-filter (is_settled_in new) (λ i. is_settled_in s.stages i ≡ false) news
          (All-weaker (λ i. stage_in new i ≢ stage_in s.stages i) (λ i. is_settled_in s.stages i ≡ false) (λ i d. no_news s e i d) news h.differ);
      settled = filter_passes (is_settled_in new) news;
      all = λ i before after. contains_filter (is_settled_in new) news i after (h.all i (is_news s.stages new i before after));
    }

pub next_is : (old new : Ledger) (word : ℕ) (reply : Reply) → (does : Does word old reply new) → state_of new ≡ (answered (state_of old) does.event).1
next_is old new word reply does = ap (λ p. p.1) does.told

-- ---- one event more

pub settled_push : (s : State) (events : List Event) (e : Event) (xs fresh : List ℕ) → AreSettledBy s events xs → AreFresh (state_after s events).stages ((answered (state_after s events) e).1.stages) fresh →
    AreSettledBy s (events ++ e ∷ []) (xs ++ fresh)
settled_push s [] e xs fresh h more =
    (fresh, [], ap (λ (l : List ℕ). l ++ fresh) h ∙ sym (append-nil fresh), more, refl)
settled_push s (d ∷ events) e xs fresh (front, rest, is, first, then) more =
    (front, rest ++ fresh, ap (λ (l : List ℕ). l ++ fresh) is ∙ append_assoc front rest fresh, first, settled_push ((answered s d).1) events e rest fresh then more)

pub settled_more : (old new : Ledger) (word : ℕ) (reply : Reply) (xs fresh : List ℕ) → AreSettled old xs → Does word old reply new → AreFresh (state_of old).stages (state_of new).stages fresh → AreSettled new (xs ++ fresh)
settled_more old new word reply xs fresh h does are =
    let more : AreSettled (and_event old does.event) (xs ++ fresh) = record {
      opening = h.opening;
      later = h.later ++ fresh;
      is = ap (λ (l : List ℕ). l ++ fresh) h.is ∙ append_assoc h.opening h.later fresh;
      first = h.first;
      rest = settled_push (start old.plan) old.events does.event h.later fresh h.rest (subst (λ (s : State). AreFresh (state_of old).stages s.stages fresh) (next_is old new word reply does) are);
    } in
    subst (λ (l : Ledger). AreSettled l (xs ++ fresh)) (sym does.written) more

-- ---- each once

once_more : (s : State) (e : Event) (xs fresh : List ℕ) → IsOnce s xs → AreFresh s.stages ((answered s e).1.stages) fresh → IsOnce ((answered s e).1) (xs ++ fresh)
once_more s e xs fresh h more =
    let new = (answered s e).1.stages in
    record {
      apart = apart_append xs fresh h.apart (apart_climbing fresh more.rising)
          (λ i a b. let was = All-contains (λ j. is_settled_in s.stages j ≡ true) xs i h.settled a in let not = All-contains (λ j. is_settled_in s.stages j ≡ false) fresh i more.before b in cc);
      settled = All-append (λ j. is_settled_in new j ≡ true) xs fresh (All-weaker (λ j. is_settled_in s.stages j ≡ true) (λ j. is_settled_in new j ≡ true) (λ j was. ap is_some (stays s e j was) ∙ was) xs h.settled) more.settled;
      all = λ i is. elim (both_tests (is_settled_in s.stages i)) [
        | inl was ↦ Contains-append_left xs fresh i (h.all i was)
        | inr not ↦ Contains-append_right xs fresh i (more.all i not is)
      ];
    }

once_by : (s : State) (events : List Event) (xs later : List ℕ) → IsOnce s xs → AreSettledBy s events later → IsOnce (state_after s events) (xs ++ later)
once_by s [] xs later h is = subst (IsOnce s) (sym (ap (λ (l : List ℕ). xs ++ l) is ∙ append-nil xs)) h
once_by s (e ∷ events) xs later h (front, rest, is, first, then) =
    subst (IsOnce (state_after s (e ∷ events))) (append_assoc xs front rest ∙ ap (λ (l : List ℕ). xs ++ l) (sym is))
    (once_by ((answered s e).1) events (xs ++ front) rest (once_more s e xs front h first) then)

once_first : (s : State) (xs : List ℕ) → AreFresh [] s.stages xs → IsOnce s xs
once_first s xs h = record { apart = apart_climbing xs h.rising; settled = h.settled; all = λ i is. h.all i refl is }

pub once : (ledger : Ledger) (xs : List ℕ) → AreSettled ledger xs → IsOnce (state_of ledger) xs
once ledger xs h = subst (IsOnce (state_of ledger)) (sym h.is) (once_by (start ledger.plan) ledger.events h.opening h.later (once_first (start ledger.plan) h.opening h.first) h.rest)

-- ---- all at the opening

pub below_more : (k : ℕ) (stages : List Stage) (xs : List ℕ) → AreSettledBelow k stages xs → is_settled_in stages k ≡ true → AreSettledBelow (k + 1) stages (xs ++ k ∷ [])
below_more k stages xs h is = record {
  rising = climbing_push xs k h.rising h.below;
  below = All-push (λ i. i < k + 1) xs k (All-weaker (λ i. i < k) (λ i. i < k + 1) (λ i l. omega (arith, l)) xs h.below) (omega arith);
  settled = All-push (λ i. is_settled_in stages i ≡ true) xs k h.settled is;
  all = λ i l on. elim (cases_lt i k) [
    | inl below ↦ Contains-append_left xs (k ∷ []) i (h.all i below on)
    | inr above ↦ (let same : k ≡ i = omega (arith, l, above) in subst (λ (j : ℕ). Contains (xs ++ k ∷ []) j) same (Contains-push xs k))
  ];
}

pub below_not : (k : ℕ) (stages : List Stage) (xs : List ℕ) → AreSettledBelow k stages xs → is_settled_in stages k ≡ false → AreSettledBelow (k + 1) stages xs
below_not k stages xs h isnt = record {
  rising = h.rising;
  below = All-weaker (λ i. i < k) (λ i. i < k + 1) (λ i l. omega (arith, l)) xs h.below;
  settled = h.settled;
  all = λ i l on. elim (cases_lt i k) [
    | inl below ↦ h.all i below on
    | inr above ↦ (let same : i ≡ k = omega (arith, l, above) in let wrong = ap (is_settled_in stages) same in cc)
  ];
}

pub below_none : (stages : List Stage) → AreSettledBelow 0 stages []
below_none stages = record { rising = tt; below = All-nil (λ i. i < 0); settled = All-nil (λ i. is_settled_in stages i ≡ true); all = λ i l on. absurd (omega (arith, l)) }

pub settled_within : (stages : List Stage) (i : ℕ) → is_settled_in stages i ≡ true → i < length stages
settled_within [] i h = cc
settled_within (x ∷ stages) zero h = omega arith
settled_within (x ∷ stages) (suc i) h = let l = settled_within stages i h in omega (arith, l)

pub fresh_all : (n : ℕ) (stages : List Stage) (xs : List ℕ) → length stages ≡ n → AreSettledBelow n stages xs → AreFresh [] stages xs
fresh_all n stages xs size h = record {
  rising = h.rising;
  before = λ k d l. refl;
  settled = h.settled;
  all = λ i none is. h.all i (let l = settled_within stages i is in omega (arith, l, size)) is;
}

-- ---- one call

take_front : (xs ys : List Event) → take (length xs) (xs ++ ys) ≡ xs
take_front [] [] = refl
take_front [] (y ∷ ys) = refl
take_front (x ∷ xs) ys = ap (λ (l : List Event). x ∷ l) (take_front xs ys)

take_whole : (xs : List Event) (e : Event) → take (length xs + 1) (xs ++ e ∷ []) ≡ xs ++ e ∷ []
take_whole [] e = refl
take_whole (x ∷ xs) e =
    let next : suc (length xs) + 1 ≡ suc (length xs + 1) = omega arith in
    rw next (ap (λ (l : List Event). x ∷ l) (take_whole xs e))

pub last_news : (old new : Ledger) (word place : ℕ) (reply : Reply) (news : List ℕ) → (does : Does word old reply new) → place ≡ length new.events - 1 → AreNews (state_at new place).stages (state_at new (place + 1)).stages news →
    AreNews (state_of old).stages ((answered (state_of old) does.event).1.stages) news
last_news old new word place reply news does is h =
    let e = does.event in
    let events = ap (λ (l : Ledger). l.events) does.written in
    let size : place ≡ length old.events = is ∙ ap (λ (l : List Event). length l - 1) events ∙ (let k = length-append old.events (e ∷ []) in omega (arith, k)) in
    let s = start old.plan in
    let here : AreNews (state_at (and_event old e) (length old.events)).stages (state_at (and_event old e) (length old.events + 1)).stages news =
    subst (λ (p : ℕ). AreNews (state_at (and_event old e) p).stages (state_at (and_event old e) (p + 1)).stages news) size
    (subst (λ (l : Ledger). AreNews (state_at l place).stages (state_at l (place + 1)).stages news) does.written h) in
    let first : state_after s (take (length old.events) (old.events ++ e ∷ [])) ≡ state_of old = ap (state_after s) (take_front old.events (e ∷ [])) in
    let second : state_after s (take (length old.events + 1) (old.events ++ e ∷ [])) ≡ (answered (state_of old) e).1 =
    ap (state_after s) (take_whole old.events e) ∙ state_after-append s old.events (e ∷ []) in
    subst (λ (t : State). AreNews (state_of old).stages t.stages news) second
    (subst (λ (t : State). AreNews t.stages (state_after s (take (length old.events + 1) (old.events ++ e ∷ []))).stages news) first here)

-- those of the news that are settled now
fresh_news : (old new : Ledger) (word place : ℕ) (reply : Reply) (news : List ℕ) → (does : Does word old reply new) → place ≡ length new.events - 1 → AreNews (state_at new place).stages (state_at new (place + 1)).stages news →
    AreFresh (state_of old).stages (state_of new).stages (filter (is_settled_in (state_of new).stages) news)
fresh_news old new word place reply news does is are =
    subst (λ (s : State). AreFresh (state_of old).stages s.stages (filter (is_settled_in s.stages) news)) (sym (next_is old new word reply does)) (fresh_of (state_of old) does.event news (last_news old new word place reply news does is are))

-- as many stages as before, with those that there is room for
pub same_most : (old new : Ledger) (word : ℕ) (reply : Reply) → Does word old reply new → most_stages (state_of new) ≡ most_stages (state_of old)
same_most old new word reply does =
    let grows = answered-grows (state_of old) does.event in
    let stages = ap (λ (l : List PlannedStage). length l) grows.stages ∙ length-append (state_of old).plan.stages grows.more in
    let room = grows.room in
    ap most_stages (next_is old new word reply does) ∙ omega (arith, stages, room)

-- what is kept, with the settled news behind the others
pub kept_note : (old new : Ledger) (word place : ℕ) (reply : Reply) (order more news : List ℕ) (places count : ℕ) → IsKept old order places count → (does : Does word old reply new) → place ≡ length new.events - 1 →
    AreNews (state_at new place).stages (state_at new (place + 1)).stages news → more ≡ order ++ filter (is_settled_in (state_of new).stages) news → IsKept new more places count
kept_note old new word place reply order more news places count h does is are written =
    let fresh = filter (is_settled_in (state_of new).stages) news in
    let size = ap (λ (l : List ℕ). length l) written ∙ length-append order fresh in
    let few = h.few in
    let same = same_most old new word reply does in
    let most = h.most in
    let room = h.room in
    record {
      settled = subst (AreSettled new) (sym written) (settled_more old new word reply order fresh h.settled does (fresh_news old new word place reply news does is are));
      few = omega (arith, size, few);
      most = omega (arith, same, most);
      room = omega (arith, same, room);
    }

-- what a contract sees of it
abbrev pub view_of : Ledger → List ℕ → ℕ → Lanes → Teller
view_of ledger order count lanes = record { ledger = ledger; taken = take count order; told = drop count order; lanes = lanes }

pub tells_note : (old new : Ledger) (word place : ℕ) (reply : Reply) (order more news : List ℕ) (places count : ℕ) (before after : Lanes) → IsKept old order places count → (does : Does word old reply new) → place ≡ length new.events - 1 →
    AreNews (state_at new place).stages (state_at new (place + 1)).stages news → more ≡ order ++ filter (is_settled_in (state_of new).stages) news →
    Tells word (view_of old order count before) reply (view_of new more count after)
tells_note old new word place reply order more news places count before after h does is are written =
    let fresh = filter (is_settled_in (state_of new).stages) news in
    record {
      does = does;
      fresh = fresh;
      are = fresh_news old new word place reply news does is are;
      told = ap (drop count) written ∙ drop-append-le count order fresh h.few;
      taken = ap (take count) written ∙ take-append-le count order fresh h.few;
    }

pub none_there : (stages : List Stage) (i : ℕ) → length stages ≤ i → stage_in stages i ≡ Pending
none_there [] i l = refl
none_there (x ∷ stages) zero l = absurd (omega (arith, l))
none_there (x ∷ stages) (suc i) l = none_there stages i (omega (arith, l))

news_there : (old new : List Stage) (news : List ℕ) → length old ≤ length new → AreNews old new news → All (λ i. i < length new) news
news_there old new news less h = All-weaker (λ i. stage_in new i ≢ stage_in old i) (λ i. i < length new)
    (λ i differs. elim (cases_lt i (length new)) [
      | inl l ↦ l
      | inr l ↦ absurd (differs (none_there new i l ∙ sym (none_there old i (omega (arith, l, less)))))
    ]) news h.differ

-- the news of a word are stages that are there
pub news_fit : (old new : Ledger) (word place : ℕ) (reply : Reply) (news : List ℕ) → (does : Does word old reply new) → place ≡ length new.events - 1 → AreNews (state_at new place).stages (state_at new (place + 1)).stages news →
    length (state_of old).stages ≡ stages_of old → length (state_of new).stages ≡ stages_of new → All (λ i. i < stages_of new) news
news_fit old new word place reply news does is are before after =
    let next = next_is old new word reply does in
    let s = state_of old in
    let grows = answered-grows s does.event in
    let all_new : length ((answered s does.event).1.stages) ≡ length ((answered s does.event).1.plan.stages) = subst (λ (t : State). length t.stages ≡ length t.plan.stages) next after in
    let stages = ap (λ (l : List PlannedStage). length l) grows.stages ∙ length-append s.plan.stages grows.more in
    let there = news_there s.stages ((answered s does.event).1.stages) news (omega (arith, before, all_new, stages)) (last_news old new word place reply news does is are) in
    subst (λ (t : State). All (λ i. i < length t.plan.stages) news) (sym next) (subst (λ (n : ℕ). All (λ i. i < n) news) all_new there)

-- and there are places for those that are settled
pub news_room : (old new : Ledger) (word place : ℕ) (reply : Reply) (order news : List ℕ) (places count : ℕ) → IsKept old order places count → (does : Does word old reply new) → place ≡ length new.events - 1 →
    AreNews (state_at new place).stages (state_at new (place + 1)).stages news → length (state_of new).stages ≡ stages_of new →
    length order + length (filter (is_settled_in (state_of new).stages) news) ≤ places
news_room old new word place reply order news places count h does is are after =
    let stages = (state_of new).stages in
    let fresh = filter (is_settled_in stages) news in
    let each = once new (order ++ fresh) (settled_more old new word reply order fresh h.settled does (fresh_news old new word place reply news does is are)) in
    let few = few_apart (length stages) (order ++ fresh) each.apart (All-weaker (λ i. is_settled_in stages i ≡ true) (λ i. i < length stages) (λ i on. settled_within stages i on) (order ++ fresh) each.settled) in
    let size = length-append order fresh in
    let room = h.room in
    let same = same_most old new word reply does in
    omega (arith, few, size, room, same, after)

pub kept_new : (ledger : Ledger) (order : List ℕ) → ledger.events ≡ [] → length (state_of ledger).stages ≡ stages_of ledger →
    AreSettledBelow (stages_of ledger) (state_of ledger).stages order → AreFresh [] (start ledger.plan).stages order
kept_new ledger order none size h =
    let first : state_of ledger ≡ start ledger.plan = ap (state_after (start ledger.plan)) none in
    subst (λ (s : State). AreFresh [] s.stages order) first (fresh_all (stages_of ledger) (state_of ledger).stages order size h)

pub kept_first : (ledger : Ledger) (plan : Planned) (more : ℕ) (order : List ℕ) (places : ℕ) → ledger ≡ (record { plan = with_room plan more; events = []; free = 0 }) → has_place plan.stages more ≡ true →
    stages_of ledger + more ≤ places → AreFresh [] (start ledger.plan).stages order → IsKept ledger order places 0
kept_first ledger plan more order places is place room h =
    let none : ledger.events ≡ [] = ap (λ (l : Ledger). l.events) is in
    let most : most_stages (state_of ledger) ≡ length plan.stages + more = ap (λ (l : Ledger). most_stages (state_of l)) is in
    let stages : stages_of ledger ≡ length plan.stages = ap (λ (l : Ledger). stages_of l) is in
    let few = (place_is plan.stages more place).0 in
    record {
      settled = record { opening = order; later = []; is = sym (append-nil order); first = h; rest = subst (λ (events : List Event). AreSettledBy (start ledger.plan) events []) (sym none) refl };
      few = omega arith;
      most = omega (arith, most, few);
      room = omega (arith, most, stages, room);
    }

pub once_kept : (ledger : Ledger) (order : List ℕ) (places count : ℕ) → IsKept ledger order places count → IsOnce (state_of ledger) (take count order ++ drop count order)
once_kept ledger order places count h = subst (IsOnce (state_of ledger)) (sym (take-append-drop count order)) (once ledger order h.settled)

pub settled_kept : (ledger : Ledger) (order : List ℕ) (places count : ℕ) → IsKept ledger order places count → AreSettled ledger (take count order ++ drop count order)
settled_kept ledger order places count h = subst (AreSettled ledger) (sym (take-append-drop count order)) h.settled
