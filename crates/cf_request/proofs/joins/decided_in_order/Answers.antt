use Rattle.std.proofs.Common.{◌≡◌, ◌-◌, ◌∙◌, ◌++◌, ◌∷◌, [], ℕ, suc, List, ap, arith, drop, get_or, length, refl, subst, sym, take}
use Rattle.std.proofs.Math.Seq.{split_at}
use Rattle.std.proofs.lemmas.List.{take_all}
use Rattle.cf_model.proofs.Closed.{reached_length}
use Rattle.cf_model.specs.States.{outcome_in}
use Rattle.cf_ledger.specs.Ledgers.{stages_of, state_of}
use Rattle.cf_request.specs.Joins.{IsDecided, IsUndecided, failures_by, has_failed, has_value, outcome_among, sources_of, values_by}
use Rattle.cf_request.specs.Telling.{order_in}
use Rattle.cf_request.proofs.Decided.{count_all, counted_back, if_some, take_last, undecided_all, undecided_first}
use Rattle.cf_request.proofs.Telling.{settled_within}
use Rattle.cf_request.proofs.joins.decided_in_order.Goals as goal

pub loop-place-init : goal.loop-place-init
loop-place-init c =
    let t = c.args.teller.now in
    let j = c.args.join.now in
    let s = state_of t.ledger in
    let order = order_in t in
    let n = length c.settled-order.result.now in
    let size = ap (λ (l : List ℕ). length l) c.settled-order.ensures.order in
    let once = c.settled-order.ensures.once in
    let whole : take n order ≡ order = take_all n order (omega (arith, size)) in
    record {
      within = omega (arith, size);
      values = subst (λ (l : List ℕ). c.args.all.values ≡ values_by (outcome_among s.stages l) (sources_of j)) (sym whole) (c.requires.values ∙ count_all has_value s order (sources_of j) once);
      failures = subst (λ (l : List ℕ). c.args.all.failures ≡ failures_by (outcome_among s.stages l) (sources_of j)) (sym whole) (c.requires.failures ∙ count_all has_failed s order (sources_of j) once);
      decided = λ undecided. c.requires.decided (undecided_all s order j once (subst (λ (l : List ℕ). IsUndecided (outcome_among s.stages l) j) whole undecided));
    }

pub outcome-outcome-requires : goal.outcome-outcome-requires
outcome-outcome-requires c =
    let t = c.args.teller.now in
    let k = c.loop-place.place - 1 in
    let is : get_or c.settled-order.result.now k 0 ≡ get_or (order_in t) k 0 = ap (λ (l : List ℕ). get_or l k 0) c.settled-order.ensures.order in
    let some = c.loop-place-test.true in
    let l = c.loop-place.invariant.within in
    let within = settled_within (state_of t.ledger).stages (get_or (order_in t) k 0) (c.settled-order.ensures.once.settled k 0 (omega (arith, some, l))) in
    let all = reached_length t.ledger.plan t.ledger.events in
    record { there = omega (arith, is, within, all) }

pub without-tally-requires-clause-values : goal.without-tally-requires-clause-values
without-tally-requires-clause-values c =
    let t = c.args.teller.now in
    (counted_back has_value (state_of t.ledger).stages (order_in t) c.settled-order.result.now c.loop-place.place (sources_of c.args.join.now) c.outcome-outcome.result c.loop-place.tally.values c.times_in-times.result 0 refl c.settled-order.ensures.order c.loop-place-test.true
    c.loop-place.invariant.within c.settled-order.ensures.once.apart c.loop-place.invariant.values c.outcome-outcome.ensures c.times_in-times.ensures).0

pub without-tally-requires-clause-failures : goal.without-tally-requires-clause-failures
without-tally-requires-clause-failures c =
    let t = c.args.teller.now in
    (counted_back has_failed (state_of t.ledger).stages (order_in t) c.settled-order.result.now c.loop-place.place (sources_of c.args.join.now) c.outcome-outcome.result c.loop-place.tally.failures c.times_in-times.result 0 refl c.settled-order.ensures.order c.loop-place-test.true
    c.loop-place.invariant.within c.settled-order.ensures.once.apart c.loop-place.invariant.failures c.outcome-outcome.ensures c.times_in-times.ensures).0

pub returns-then-is_undecided-clause-decided : goal.returns-then-is_undecided-clause-decided
returns-then-is_undecided-clause-decided c =
    let t = c.args.teller.now in
    let j = c.args.join.now in
    let stages = (state_of t.ledger).stages in
    let order = order_in t in
    let place = c.loop-place.place in
    let k = place - 1 in
    let i = get_or order k 0 in
    let some = c.loop-place-test.true in
    let l = c.loop-place.invariant.within in
    let same : get_or c.settled-order.result.now k 0 ≡ i = ap (λ (l : List ℕ). get_or l k 0) c.settled-order.ensures.order in
    let v = (counted_back has_value stages order c.settled-order.result.now place (sources_of j) c.outcome-outcome.result c.loop-place.tally.values c.times_in-times.result c.without-tally.result.values refl c.settled-order.ensures.order some l c.settled-order.ensures.once.apart
    c.loop-place.invariant.values c.outcome-outcome.ensures c.times_in-times.ensures).1 c.without-tally.ensures.values in
    let f = (counted_back has_failed stages order c.settled-order.result.now place (sources_of j) c.outcome-outcome.result c.loop-place.tally.failures c.times_in-times.result c.without-tally.result.failures refl c.settled-order.ensures.order some l c.settled-order.ensures.once.apart
    c.loop-place.invariant.failures c.outcome-outcome.ensures c.times_in-times.ensures).1 c.without-tally.ensures.failures in
    let still = c.is_undecided.ensures.0 c.if-is_undecided.true in
    let a = still.0 in
    let b = still.1 in
    if_some c.outcome-outcome.result (λ o. IsDecided stages order j o) (λ o is. record {
      front = take k order;
      by = i;
      back = drop (suc k) order;
      is = split_at order k 0 (omega (arith, some, l));
      before = record { values = omega (arith, a, v); failures = omega (arith, b, f) };
      decides = λ undecided. c.loop-place.invariant.decided (subst (λ (l : List ℕ). IsUndecided (outcome_among stages l) j) (sym (take_last place order some l)) undecided);
      outcome = sym (c.outcome-outcome.ensures ∙ ap (outcome_in stages) same) ∙ is;
    })

pub loop-place-preserved : goal.loop-place-preserved
loop-place-preserved c =
    let t = c.args.teller.now in
    let j = c.args.join.now in
    let stages = (state_of t.ledger).stages in
    let order = order_in t in
    let place = c.loop-place.place in
    let some = c.loop-place-test.true in
    let l = c.loop-place.invariant.within in
    let v = (counted_back has_value stages order c.settled-order.result.now place (sources_of j) c.outcome-outcome.result c.loop-place.tally.values c.times_in-times.result c.without-tally.result.values refl c.settled-order.ensures.order some l c.settled-order.ensures.once.apart
    c.loop-place.invariant.values c.outcome-outcome.ensures c.times_in-times.ensures).1 c.without-tally.ensures.values in
    let f = (counted_back has_failed stages order c.settled-order.result.now place (sources_of j) c.outcome-outcome.result c.loop-place.tally.failures c.times_in-times.result c.without-tally.result.failures refl c.settled-order.ensures.order some l c.settled-order.ensures.once.apart
    c.loop-place.invariant.failures c.outcome-outcome.ensures c.times_in-times.ensures).1 c.without-tally.ensures.failures in
    record {
      within = omega (arith, l);
      values = v;
      failures = f;
      decided = λ undecided. absurd (
          let a = undecided.values in
          let b = undecided.failures in
          let on = c.is_undecided.ensures.1 (omega (arith, a, v), omega (arith, b, f)) in
          let off = c.if-is_undecided.false in
          cc
          );
    }

pub returns-clause-none : goal.returns-clause-none
returns-clause-none c =
    let t = c.args.teller.now in
    let j = c.args.join.now in
    let stages = (state_of t.ledger).stages in
    let first : 0 ≡ c.loop-place.place = omega (arith, c.loop-place-test.false) in
    absurd (c.loop-place.invariant.decided (subst (λ (n : ℕ). IsUndecided (outcome_among stages (take n (order_in t))) j) first (undecided_first stages (stages_of t.ledger) j c.requires.join)))
