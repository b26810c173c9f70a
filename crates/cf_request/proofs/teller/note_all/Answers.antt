use Rattle.std.proofs.Common.{◌≡◌, ◌+◌, ◌∷◌, [], ℕ, List, ap, arith, length, length-append, subst, sym, ◌∙◌}
use Rattle.std.specs.Prelude.{is_some}
use Rattle.cf_ledger.specs.Ledgers.{state_of}
use Rattle.cf_request.specs.Telling.{AreSettledBelow, is_settled_in}
use Rattle.cf_request.proofs.Telling.{below_more, below_not}
use Rattle.cf_request.proofs.teller.note_all.Goals.{then-is_some, else-is_some}
use Rattle.cf_request.proofs.teller.note_all.Goals as goal

pub loop-i-preserved : goal.loop-i-preserved
loop-i-preserved c =
    let h = c.loop-i.invariant in
    let i = c.loop-i.i in
    let stages = (state_of c.args.ledger.now).stages in
    let was : is_settled_in stages i ≡ c.is_some.result = sym (c.is_some.ensures ∙ ap is_some c.outcome.ensures) in
    elim c.if-is_some.branch [
      | then-is_some w ↦ (let items = w.push_reserved.ensures.items in
          let more = length-append c.loop-i.order.items (i ∷ []) in
          let size = ap (λ (l : List ℕ). length l) items in
          let count = h.count in
          rw (w.order-is) (record {
            written = subst (λ (l : List ℕ). AreSettledBelow (i + 1) stages l) (sym items) (below_more i stages c.loop-i.order.items h.written (was ∙ w.if-is_some.true));
            count = omega (arith, more, size, count);
            places = w.push_reserved.ensures.capacity ∙ h.places;
          }))
      | else-is_some w ↦ (let count = h.count in rw (w.order-is) (record {
        written = below_not i stages c.loop-i.order.items h.written (was ∙ w.if-is_some.false);
        count = omega (arith, count);
        places = h.places;
      }))
    ]
