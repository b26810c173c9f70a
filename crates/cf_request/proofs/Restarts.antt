-- What starts again.
use Rattle.std.proofs.Common.{◌≡◌, ℕ, ◌+◌, ◌≤◌, List, [], length, length-append, refl, ap, sym, ◌∙◌, arith, subst, append-nil}
use Rattle.std.specs.Prelude.{take}
use Rattle.std.proofs.lemmas.List.{length-take-le}
use Rattle.cf_forms.specs.Plans.{PlannedStage}
use Rattle.cf_model.specs.declared.events.Event.{Event}
use Rattle.cf_model.specs.States.{start}
use Rattle.cf_model.proofs.Shape.{state_after-grows}
use Rattle.cf_ledger.specs.Ledgers.{Ledger, stages_of, state_of}
use Rattle.cf_request.specs.Ready.{FitState, HasLanes, IsFit, ReadySets, none_ready}
use Rattle.cf_request.specs.Telling.{AreFresh, AreSettledBy, IsKept, most_stages}

-- the stages of a plan stay, and with the room there are as many as ever
pub stages_stay : (l : Ledger) → length l.plan.stages ≤ stages_of l
stages_stay l =
    let grows = state_after-grows (start l.plan) l.events in
    let stages = ap (λ (xs : List PlannedStage). length xs) grows.stages ∙ length-append l.plan.stages grows.more in
    omega (arith, stages)

pub most_of : (l : Ledger) → most_stages (state_of l) ≡ length l.plan.stages + l.plan.room
most_of l =
    let grows = state_after-grows (start l.plan) l.events in
    let stages = ap (λ (xs : List PlannedStage). length xs) grows.stages ∙ length-append l.plan.stages grows.more in
    let room = grows.room in
    omega (arith, stages, room)

-- a ledger that starts again has the stages of its plan
pub stages_again : (old new : Ledger) → new ≡ (record old { events = [] }) → stages_of new ≡ length old.plan.stages
stages_again old new is = ap (λ (l : Ledger). stages_of l) is

pub most_again : (old new : Ledger) → new ≡ (record old { events = [] }) → most_stages (state_of new) ≡ most_stages (state_of old)
most_again old new is =
    let was = most_of old in
    let now = ap (λ (l : Ledger). most_stages (state_of l)) is in
    omega (arith, was, now)

-- what is kept then
pub kept_again : (old new : Ledger) (order more : List ℕ) (places count : ℕ) → IsKept old order places count → new ≡ (record old { events = [] }) → AreFresh [] (start new.plan).stages more → IsKept new more places 0
kept_again old new order more places count h is first =
    let none : new.events ≡ [] = ap (λ (l : Ledger). l.events) is in
    let same = most_again old new is in
    let most = h.most in
    let room = h.room in
    record {
      settled = record { opening = more; later = []; is = sym (append-nil more); first = first; rest = subst (λ (events : List Event). AreSettledBy (start new.plan) events []) (sym none) refl };
      few = omega arith;
      most = omega (arith, same, most);
      room = omega (arith, same, room);
    }

-- and the sets, once all is written
pub fit_again : (old new : Ledger) (r r' : ReadySets) → FitState (state_of old) r → new ≡ (record old { events = [] }) → r'.places ≡ r.places → HasLanes (state_of new) r'.of → ((i : ℕ) → IsFit (state_of new).stages r' i) → FitState (state_of new) r'
fit_again old new r r' h is places all fit =
    let same = most_again old new is in
    let room = h.room in
    record {
      all = all;
      room = omega (arith, same, room, places);
      fit = fit;
    }

-- and how many lanes of stages there are
pub lanes_left : (old new : Ledger) (r r' : ReadySets) (n : ℕ) → new ≡ (record old { events = [] }) → HasLanes (state_of old) r.of → n ≡ stages_of new → r' ≡ none_ready (take n r.of) (length r.sets) r.places → length r'.of ≡ n
lanes_left old new r r' n is all count first =
    let stages = stages_again old new is in
    let less = stages_stay old in
    ap (λ (x : ReadySets). length x.of) first ∙ length-take-le n r.of (omega (arith, stages, less, all, count))
