use Rattle.std.proofs.Common.{◌≡◌, ◌+◌, ◌∙◌, ◌++◌, ◌∷◌, [], ℕ, All, List, true, false, ap, arith, get_or, length, subst, sym, take}
use Rattle.std.proofs.lemmas.List.{take_all}
use Rattle.cf_model.proofs.Closed.{reached_length}
use Rattle.cf_ledger.specs.Ledgers.{state_of}
use Rattle.cf_request.specs.Tallies.{AreTalliedBy}
use Rattle.cf_request.specs.Telling.{is_settled_in, order_in}
use Rattle.cf_request.proofs.Decided.{apart_at, take_next}
use Rattle.cf_request.proofs.Tallied.{NotesOne, all_next, led_next, left_next, or_false}
use Rattle.cf_request.proofs.Telling.{settled_within}
use Rattle.cf_request.specs.Joins.{is_among}
use Rattle.cf_request.proofs.tallies.note.Goals as goal

pub note_one-is_spent-requires : goal.note_one-is_spent-requires
note_one-is_spent-requires c =
    let t = c.args.teller.now in
    let k = c.loop-place.place in
    let is : get_or c.settled-order.result.now k 0 ≡ get_or (order_in t) k 0 = ap (λ (l : List ℕ). get_or l k 0) c.settled-order.ensures.order in
    let size = ap (λ (l : List ℕ). length l) c.settled-order.ensures.order in
    let within = settled_within (state_of t.ledger).stages (get_or (order_in t) k 0) (c.settled-order.ensures.once.settled k 0 (omega (arith, size, c.loop-place-test.true))) in
    let all = reached_length t.ledger.plan t.ledger.events in
    record { there = omega (arith, is, within, all) }

pub loop-place-preserved : goal.loop-place-preserved
loop-place-preserved c =
    let t = c.args.teller.now in
    let stages = (state_of t.ledger).stages in
    let order = order_in t in
    let flags = c.args.followed.now in
    let k = c.loop-place.place in
    let i = get_or c.settled-order.result.now k 0 in
    let old = c.loop-place.tallies.spares.items in
    let now = c.note_one-is_spent.new.spares.items in
    let is : i ≡ get_or order k 0 = ap (λ (l : List ℕ). get_or l k 0) c.settled-order.ensures.order in
    let size = ap (λ (l : List ℕ). length l) c.settled-order.ensures.order in
    let there = c.loop-place-test.true in
    let since = c.loop-place.invariant.since in
    let h : NotesOne flags stages i old now = record { spends = c.note_one-is_spent.ensures.spends; none = c.note_one-is_spent.ensures.none } in
    let off : is_among (take k order) i ≡ false = ap (is_among (take k order)) is ∙ apart_at order k 0 (omega (arith, size, there)) c.settled-order.ensures.once.apart in
    let next : take k order ++ i ∷ [] ≡ take (k + 1) order = ap (λ (n : ℕ). take k order ++ n ∷ []) is ∙ sym (take_next k order (omega (arith, size, there))) in
    record {
      within = omega (arith, size, there);
      since = omega (arith, since);
      led = led_next flags stages i old now h c.loop-place.invariant.led;
      tallied = λ follows marked was. subst (λ (l : List ℕ). AreTalliedBy now follows stages l) next (all_next flags stages (take k order) i old now follows h marked off (c.loop-place.invariant.tallied follows marked was));
      left = λ none. (let both = or_false c.loop-place.is_due c.note_one-is_spent.result none in
          left_next flags stages order c.args.tallies.now.noted k i old now is h (c.note_one-is_spent.ensures.left both.1) (c.loop-place.invariant.left both.0));
    }

pub returns-clause-tallied : goal.returns-clause-tallied
returns-clause-tallied c =
    let t = c.args.teller.now in
    let stages = (state_of t.ledger).stages in
    let order = order_in t in
    let k = c.loop-place.place in
    let size = ap (λ (l : List ℕ). length l) c.settled-order.ensures.order in
    let end = c.loop-place-test.false in
    let whole : take k order ≡ order = take_all k order (omega (arith, size, end)) in
    λ follows marked was. record {
      within = c.loop-place.invariant.within;
      settled = subst (λ (l : List ℕ). All (λ (i : ℕ). is_settled_in stages i ≡ true) l) (sym whole) c.settled-order.ensures.once.settled;
      led = c.loop-place.invariant.led;
      joins = c.loop-place.invariant.tallied follows marked was;
    }
