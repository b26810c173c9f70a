-- How many words may follow.
use Rattle.std.proofs.Common.{◌≡◌, ℕ, zero, suc, ◌+◌, ◌-◌, ◌<◌, ◌≤◌, Bool, true, false, cond, not, Option, Some, None, List, [], ◌∷◌, All, Contains, drop, take, take-append-drop, get_or, ◌⊎◌, length, refl, ap, ◌∙◌, arith, subst, sym, inl, inr}
use Rattle.std.specs.Prelude.{is_some}
use Rattle.std.specs.List.{filter}
use Rattle.std.proofs.lemmas.Bool.{cases_lt}
use Rattle.std.proofs.lemmas.List.{get_or_default}
use Rattle.std.proofs.lemmas.List.Elements.{All-contains, Contains-append_cases, Contains-append_right}
use Rattle.std.proofs.lemmas.List.Sums.{count_by-le-length, length-filter}
use Rattle.cf_model.specs.declared.events.Event.TheVariants.{Finish as Finishes}
use Rattle.cf_model.specs.declared.events.Reply.{Reply}
use Rattle.cf_model.specs.declared.events.Reply.TheVariants.{Finish as ToldFinish}
use Rattle.cf_model.specs.declared.stage.Stage.{Stage}
use Rattle.cf_model.specs.States.{State}
use Rattle.cf_event.specs.Words.{word_of}
use Rattle.cf_ledger.specs.Ledgers.{Ledger, stages_of, state_of}
use Rattle.cf_ledger.specs.Steps.{finished_as}
use Rattle.cf_ledger.specs.declared.step.Finish.{Finish}
use Rattle.cf_ledger.specs.declared.step.Held.{Held}
use Rattle.cf_request.specs.Deadlines.{IsOverdue, open_of}
use Rattle.cf_request.specs.Lanes.{FinishesHeld}
use Rattle.cf_request.specs.Refusals.{open_below}
use Rattle.cf_request.specs.Relays.{IsRelayDue, IsRelayOr, NoneBehind, waiting_of}
use Rattle.cf_request.specs.Settling.{IsOpen, Settles, settle_event}
use Rattle.cf_request.specs.Telling.{Teller, Tells, is_settled_in}
use Rattle.cf_request.specs.declared.deadlines.Deadline.{Deadline}
use Rattle.cf_request.specs.declared.joins.Join.{Join}
use Rattle.cf_request.specs.declared.settling.Due.{Due}
use Rattle.cf_request.proofs.Moments.{next_in}
use Rattle.cf_request.proofs.Turns.{StaySettled, keeps_settle}

-- ---- a word takes the memory of one

pub spends_word : (word : ℕ) (old new : Teller) (reply : Reply) → Tells word old reply new → new.ledger.free ≡ old.ledger.free - 1
spends_word word old new reply h = ap (λ (l : Ledger). l.free) h.does.written

pub spends_settle : (who : ℕ) (d : Due) (old new : Teller) → Settles who d old new → new.ledger.free ≡ old.ledger.free - 1
spends_settle who d old new h = spends_word (word_of (settle_event who d.stage d.outcome)) old new h.reply h.done.tells.tells

pub spends_held : (who : ℕ) (held : Option Held) (old : Teller) (finish : Option Finish) (new : Teller) → FinishesHeld who held old finish new → old.ledger.free ≤ new.ledger.free + 1
spends_held who None old None new h = let same = ap (λ (t : Teller). t.ledger.free) h in omega (arith, same)
spends_held who (Some g) old (Some f) new h = let one = spends_word (word_of (Finishes who g.stage g.answer)) old new (ToldFinish (finished_as f.late)) h.done.tells.tells in omega (arith, one)
spends_held who None old (Some f) new h = absurd h
spends_held who (Some g) old None new h = absurd h

-- ---- fewer pass a test

no_more_by : {X : Type 0} (a b : Bool) (x : X) (old new : List X) → (b ≡ true → a ≡ true) → length new ≤ length old → length (cond b (x ∷ new) new) ≤ length (cond a (x ∷ old) old)
no_more_by true true x old new h l = omega (arith, l)
no_more_by true false x old new h l = omega (arith, l)
no_more_by false true x old new h l = let e = h refl in cc
no_more_by false false x old new h l = l

fewer_by : {X : Type 0} (a b : Bool) (x : X) (old new : List X) → (b ≡ true → a ≡ true) → length new < length old → length (cond b (x ∷ new) new) < length (cond a (x ∷ old) old)
fewer_by true true x old new h l = omega (arith, l)
fewer_by true false x old new h l = omega (arith, l)
fewer_by false true x old new h l = let e = h refl in cc
fewer_by false false x old new h l = l

fewer_here : {X : Type 0} (a b : Bool) (x : X) (old new : List X) → a ≡ true → b ≡ false → length new ≤ length old → length (cond b (x ∷ new) new) < length (cond a (x ∷ old) old)
fewer_here true true x old new is isnt l = cc
fewer_here true false x old new is isnt l = omega (arith, l)
fewer_here false b x old new is isnt l = cc

no_more : {X : Type 0} (p q : X → Bool) → ((x : X) → q x ≡ true → p x ≡ true) → (xs : List X) → length (filter q xs) ≤ length (filter p xs)
no_more p q h [] = omega arith
no_more p q h (x ∷ xs) = no_more_by (p x) (q x) x (filter p xs) (filter q xs) (h x) (no_more p q h xs)

fewer : {X : Type 0} (p q : X → Bool) → ((x : X) → q x ≡ true → p x ≡ true) → (xs : List X) (y : X) → Contains xs y → p y ≡ true → q y ≡ false → length (filter q xs) < length (filter p xs)
fewer p q h [] y (k, l, e) is isnt = absurd (omega (arith, l))
fewer p q h (x ∷ xs) y (zero, l, e) is isnt = fewer_here (p x) (q x) x (filter p xs) (filter q xs) (ap p e ∙ is) (ap q e ∙ isnt) (no_more p q h xs)
fewer p q h (x ∷ xs) y (suc k, l, e) is isnt = fewer_by (p x) (q x) x (filter p xs) (filter q xs) (h x) (fewer p q h xs y (k, omega (arith, l), e) is isnt)

some : {X : Type 0} (p : X → Bool) (xs : List X) (y : X) → Contains xs y → p y ≡ true → 0 < length (filter p xs)
some p xs y h is = let l = fewer p (λ x. false) (λ x e. cc) xs y h is refl in omega (arith, l)

still_open : (a b : Bool) → (a ≡ true → b ≡ true) → not b ≡ true → not a ≡ true
still_open true true h e = e
still_open true false h e = let wrong = h refl in cc
still_open false b h e = refl

-- ---- relays

pub few_relays : (stages : List Stage) (follows : List Join) → length (waiting_of stages follows) ≤ length follows
few_relays stages follows =
    let size = length-filter (λ (j : Join). not (is_settled_in stages j.stage)) follows in
    let few = count_by-le-length (λ (j : Join). not (is_settled_in stages j.stage)) follows in
    omega (arith, size, few)

among : (follows : List Join) (t : Teller) (d : Due) (due : IsRelayDue follows t d) → Contains follows due.join
among follows t d due =
    subst (λ (l : List Join). Contains l due.join) (sym due.is) (Contains-append_right due.front (due.join ∷ due.back) due.join (0, omega arith, refl))

pub relay_waits : (follows : List Join) (t : Teller) (d : Due) → IsOpen (state_of t.ledger) d.stage → IsRelayDue follows t d → 0 < length (waiting_of (state_of t.ledger).stages follows)
relay_waits follows t d waits due =
    let stages = (state_of t.ledger).stages in
    some (λ (j : Join). not (is_settled_in stages j.stage)) follows due.join (among follows t d due) (ap not (ap (is_settled_in stages) due.due.stage ∙ waits.1))

pub relays_stay : (follows : List Join) (old new : List Stage) → StaySettled old new → length (waiting_of new follows) ≤ length (waiting_of old follows)
relays_stay follows old new stay =
    no_more (λ (j : Join). not (is_settled_in old j.stage)) (λ (j : Join). not (is_settled_in new j.stage)) (λ j e. still_open (is_settled_in old j.stage) (is_settled_in new j.stage) (stay j.stage) e) follows

bools : (b : Bool) → (b ≡ true) ⊎ (b ≡ false)
bools true = inl refl
bools false = inr refl

-- where no relay is open, none is behind
pub none_waiting : (stages : List Stage) (follows : List Join) → length (waiting_of stages follows) ≤ 0 → NoneBehind follows stages
none_waiting stages follows h = λ k d l.
    let f = get_or follows k d in
    elim (bools (is_settled_in stages f.stage)) [
      | inl settled ↦ λ decided. settled
      | inr waits ↦ (let more = some (λ (j : Join). not (is_settled_in stages j.stage)) follows f (k, l, get_or_default follows k f d l) (ap not waits) in absurd (omega (arith, more, h)))
    ]

pub relays_fewer : (follows : List Join) (who : ℕ) (d : Due) (old new : Teller) → IsOpen (state_of old.ledger) d.stage → IsRelayDue follows old d → Settles who d old new →
    length (waiting_of (state_of new.ledger).stages follows) < length (waiting_of (state_of old.ledger).stages follows)
relays_fewer follows who d old new waits due h =
    let before = (state_of old.ledger).stages in
    let after = (state_of new.ledger).stages in
    let stay = (keeps_settle who d old new h).settled in
    fewer (λ (j : Join). not (is_settled_in before j.stage)) (λ (j : Join). not (is_settled_in after j.stage)) (λ j e. still_open (is_settled_in before j.stage) (is_settled_in after j.stage) (stay j.stage) e) follows due.join (among follows old d due)
    (ap not (ap (is_settled_in before) due.due.stage ∙ waits.1)) (ap not (ap (is_settled_in after) due.due.stage ∙ ap is_some h.ends))

-- ---- deadlines

pub few_limits : (stages : List Stage) (deadlines : List Deadline) → length (open_of stages deadlines) ≤ length deadlines
few_limits stages deadlines =
    let size = length-filter (λ (d : Deadline). not (is_settled_in stages d.stage)) deadlines in
    let few = count_by-le-length (λ (d : Deadline). not (is_settled_in stages d.stage)) deadlines in
    omega (arith, size, few)

pub limits_stay : (deadlines : List Deadline) (old new : List Stage) → StaySettled old new → length (open_of new deadlines) ≤ length (open_of old deadlines)
limits_stay deadlines old new stay =
    no_more (λ (d : Deadline). not (is_settled_in old d.stage)) (λ (d : Deadline). not (is_settled_in new d.stage)) (λ d e. still_open (is_settled_in old d.stage) (is_settled_in new d.stage) (stay d.stage) e) deadlines

-- one that has come is among the first
take_in : (moment come : ℕ) (ds : List Deadline) (d : Deadline) → All (λ e. moment < e.moment) (drop come ds) → Contains ds d → d.moment ≤ moment → Contains (take come ds) d
take_in moment come ds d later h up = elim (Contains-append_cases (take come ds) (drop come ds) d (subst (λ (l : List Deadline). Contains l d) (sym (take-append-drop come ds)) h)) [
  | inl first ↦ first
  | inr rest ↦ (let after = All-contains (λ (e : Deadline). moment < e.moment) (drop come ds) d later rest in absurd (omega (arith, after, up)))
]

limit_waits : (moment come : ℕ) (deadlines : List Deadline) (s : State) (d : Due) → All (λ e. moment < e.moment) (drop come deadlines) → IsOpen s d.stage → IsOverdue moment deadlines s d → 0 < length (open_of s.stages (take come deadlines))
limit_waits moment come deadlines s d later waits due =
    some (λ (e : Deadline). not (is_settled_in s.stages e.stage)) (take come deadlines) due.deadline (take_in moment come deadlines due.deadline later (next_in deadlines s.stages due.deadline due.next) due.come) (ap not due.next.waits)

limits_fewer : (moment come : ℕ) (deadlines : List Deadline) (who : ℕ) (d : Due) (old new : Teller) → All (λ e. moment < e.moment) (drop come deadlines) → IsOverdue moment deadlines (state_of old.ledger) d → Settles who d old new →
    length (open_of (state_of new.ledger).stages (take come deadlines)) < length (open_of (state_of old.ledger).stages (take come deadlines))
limits_fewer moment come deadlines who d old new later due h =
    let before = (state_of old.ledger).stages in
    let after = (state_of new.ledger).stages in
    let stay = (keeps_settle who d old new h).settled in
    fewer (λ (e : Deadline). not (is_settled_in before e.stage)) (λ (e : Deadline). not (is_settled_in after e.stage)) (λ x e. still_open (is_settled_in before x.stage) (is_settled_in after x.stage) (stay x.stage) e) (take come deadlines) due.deadline
    (take_in moment come deadlines due.deadline later (next_in deadlines before due.deadline due.next) due.come) (ap not due.next.waits) (ap not (ap (is_settled_in after) (sym due.stage) ∙ ap is_some h.ends))

-- ---- relays and deadlines

abbrev pub left_of : List Stage → List Join → List Deadline → ℕ
left_of stages follows deadlines = length (waiting_of stages follows) + length (open_of stages deadlines)

pub due_waits : (follows : List Join) (moment come : ℕ) (deadlines : List Deadline) (t : Teller) (d : Due) → All (λ e. moment < e.moment) (drop come deadlines) → IsOpen (state_of t.ledger) d.stage → IsRelayOr follows (IsOverdue moment deadlines) t d →
    0 < left_of (state_of t.ledger).stages follows (take come deadlines)
due_waits follows moment come deadlines t d later waits (inl relay) = let l = relay_waits follows t d waits relay in omega (arith, l)
due_waits follows moment come deadlines t d later waits (inr other) = let l = limit_waits moment come deadlines (state_of t.ledger) d later waits other.1 in omega (arith, l)

pub dues_fewer : (follows : List Join) (moment come : ℕ) (deadlines : List Deadline) (who : ℕ) (d : Due) (old new : Teller) → All (λ e. moment < e.moment) (drop come deadlines) → IsOpen (state_of old.ledger) d.stage →
    IsRelayOr follows (IsOverdue moment deadlines) old d → Settles who d old new → left_of (state_of new.ledger).stages follows (take come deadlines) < left_of (state_of old.ledger).stages follows (take come deadlines)
dues_fewer follows moment come deadlines who d old new later waits (inl relay) h =
    let less = relays_fewer follows who d old new waits relay h in
    let rest = limits_stay (take come deadlines) (state_of old.ledger).stages (state_of new.ledger).stages (keeps_settle who d old new h).settled in
    omega (arith, less, rest)
dues_fewer follows moment come deadlines who d old new later waits (inr other) h =
    let less = limits_fewer moment come deadlines who d old new later other.1 h in
    let rest = relays_stay follows (state_of old.ledger).stages (state_of new.ledger).stages (keeps_settle who d old new h).settled in
    omega (arith, less, rest)

-- ---- open stages

abbrev pub open_in_all : State → ℕ
open_in_all s = open_below s.stages (length s.plan.stages)

less_by : (a b : Bool) → (a ≡ true → b ≡ true) → cond b 0 1 ≤ cond a 0 1
less_by true true h = omega arith
less_by true false h = let e = h refl in cc
less_by false true h = omega arith
less_by false false h = omega arith

less_than : (a b : Bool) → a ≡ false → b ≡ true → cond b 0 1 < cond a 0 1
less_than true b before now = cc
less_than false true before now = omega arith
less_than false false before now = cc

open_stay : (old new : List Stage) → StaySettled old new → (n : ℕ) → open_below new n ≤ open_below old n
open_stay old new stay zero = omega arith
open_stay old new stay (suc k) =
    let one = less_by (is_settled_in old k) (is_settled_in new k) (stay k) in
    let rest = open_stay old new stay k in
    omega (arith, one, rest)

open_fewer : (old new : List Stage) → StaySettled old new → (n i : ℕ) → i < n → is_settled_in old i ≡ false → is_settled_in new i ≡ true → open_below new n < open_below old n
open_fewer old new stay zero i l before now = absurd (omega (arith, l))
open_fewer old new stay (suc k) i l before now = elim (cases_lt i k) [
  | inl below ↦ (let one = less_by (is_settled_in old k) (is_settled_in new k) (stay k) in
      let rest = open_fewer old new stay k i below before now in
      omega (arith, one, rest))
  | inr above ↦ (let same : k ≡ i = omega (arith, l, above) in
      let one = less_than (is_settled_in old k) (is_settled_in new k) (ap (is_settled_in old) same ∙ before) (ap (is_settled_in new) same ∙ now) in
      let rest = open_stay old new stay k in
      omega (arith, one, rest))
]

one_by : (a : Bool) → a ≡ false → 0 < cond a 0 1
one_by true h = cc
one_by false h = omega arith

some_open : (stages : List Stage) (n i : ℕ) → i < n → is_settled_in stages i ≡ false → 0 < open_below stages n
some_open stages zero i l before = absurd (omega (arith, l))
some_open stages (suc k) i l before = elim (cases_lt i k) [
  | inl below ↦ (let rest = some_open stages k i below before in omega (arith, rest))
  | inr above ↦ (let same : k ≡ i = omega (arith, l, above) in
      let one = one_by (is_settled_in stages k) (ap (is_settled_in stages) same ∙ before) in
      omega (arith, one))
]

pub stage_waits : (s : State) (i : ℕ) → IsOpen s i → 0 < open_in_all s
stage_waits s i waits = some_open s.stages (length s.plan.stages) i waits.0 waits.1

pub stages_fewer : (who : ℕ) (d : Due) (old new : Teller) → IsOpen (state_of old.ledger) d.stage → Settles who d old new → open_in_all (state_of new.ledger) < open_in_all (state_of old.ledger)
stages_fewer who d old new waits h =
    let keeps = keeps_settle who d old new h in
    let before = (state_of old.ledger).stages in
    let after = (state_of new.ledger).stages in
    let n = stages_of old.ledger in
    subst (λ (m : ℕ). open_below after m < open_below before n) (sym keeps.count) (open_fewer before after keeps.settled n d.stage waits.0 waits.1 (ap is_some h.ends))
