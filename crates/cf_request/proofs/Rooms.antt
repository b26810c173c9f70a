-- A machine with room for more stages.
use Rattle.std.proofs.Common.{◌≡◌, ℕ, ◌+◌, ◌≤◌, true, List, [], ◌∷◌, length, ap, sym, arith, subst}
use Rattle.cf_forms.specs.Plans.{has_place}
use Rattle.cf_forms.proofs.PlanLemmas.{place_is}
use Rattle.cf_model.specs.declared.events.Event.{Event}
use Rattle.cf_model.specs.Events.{answered}
use Rattle.cf_model.specs.States.{State, start}
use Rattle.cf_ledger.specs.Ledgers.{AreTaken, Ledger, roomier, state_of, with_more}
use Rattle.cf_ledger.proofs.Growth.{answered_more}
use Rattle.cf_request.specs.Ready.{FitState, IsFit, ReadySets, none_ready}
use Rattle.cf_request.specs.Telling.{AreFresh, AreSettled, AreSettledBy, IsKept, most_stages}
use Rattle.cf_request.proofs.Restarts.{most_of}

-- ---- what was settled

settled_roomier : (more : ℕ) (s : State) (events : List Event) (xs : List ℕ) → AreTaken s events → AreSettledBy s events xs → AreSettledBy (roomier more s) events xs
settled_roomier more s [] xs taken h = h
settled_roomier more s (e ∷ events) xs taken (front, rest, is, first, then) =
    let next = sym (ap (λ p. p.1) (answered_more more s e taken.0.room)) in (
      front,
      rest,
      is,
      subst (λ (r : State). AreFresh s.stages r.stages front) next first,
      subst (λ (r : State). AreSettledBy r events rest) next (settled_roomier more ((answered s e).1) events rest taken.1 then),
    )

-- the same events settle the same stages where there is more room
pub settled_grown : (l : Ledger) (more : ℕ) (xs : List ℕ) → AreTaken (start l.plan) l.events → AreSettled l xs → AreSettled (with_more l more) xs
settled_grown l more xs taken h = record {
  opening = h.opening;
  later = h.later;
  is = h.is;
  first = h.first;
  rest = settled_roomier more (start l.plan) l.events h.later taken h.rest;
}

-- ---- what is kept

most_grown : (l : Ledger) (more : ℕ) → most_stages (state_of (with_more l more)) ≡ most_stages (state_of l) + more
most_grown l more =
    let was = most_of l in
    let now = most_of (with_more l more) in
    omega (arith, was, now)

-- so many there may ever be then
pub few_grown : (l : Ledger) (more : ℕ) → has_place l.plan.stages (l.plan.room + more) ≡ true → most_stages (state_of l) + more ≤ 4096
few_grown l more place =
    let most = most_of l in
    let few = (place_is l.plan.stages (l.plan.room + more) place).0 in
    omega (arith, most, few)

pub kept_grown : (l new : Ledger) (more : ℕ) (order : List ℕ) (places places' count : ℕ) → IsKept l order places count → new ≡ with_more l more → AreTaken (start l.plan) l.events →
    has_place l.plan.stages (l.plan.room + more) ≡ true → most_stages (state_of l) + more ≤ places' → IsKept new order places' count
kept_grown l new more order places places' count h is taken place room =
    let same = most_grown l more in
    let few = few_grown l more place in
    subst (λ (x : Ledger). IsKept x order places' count) (sym is) (record {
      settled = settled_grown l more order taken h.settled;
      few = h.few;
      most = omega (arith, same, few);
      room = omega (arith, same, room);
    })

-- and the sets, once all is written
pub fit_grown : (s t : State) (more room : ℕ) (r made r' : ReadySets) → FitState s r → t ≡ roomier more s → room ≡ s.plan.room + more → made ≡ none_ready r.of (length r.sets) (length r.of + room) →
    r' ≡ (record made { sets = r'.sets }) → ((i : ℕ) → IsFit s.stages r' i) → FitState t r'
fit_grown s t more room r made r' h is free first same fit =
    let size = ap (λ (x : ReadySets). length x.of) same in
    let was = ap (λ (x : ReadySets). length x.of) first in
    let places = ap (λ (x : ReadySets). x.places) same in
    let had = ap (λ (x : ReadySets). x.places) first in
    let all = h.all in
    subst (λ (x : State). FitState x r') (sym is) (record {
      all = omega (arith, size, was, all);
      room = omega (arith, places, had, all, free);
      fit = fit;
    })
