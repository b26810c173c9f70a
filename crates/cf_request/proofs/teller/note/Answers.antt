use Rattle.std.proofs.Common.{◌≡◌, ◌+◌, ◌∙◌, ◌++◌, ◌∷◌, [], ℕ, Bool, List, Contains, ap, append_assoc, arith, cond, drop, get_or, length, length-append, sym, take}
use Rattle.std.specs.Prelude.{is_some}
use Rattle.std.specs.List.{filter}
use Rattle.std.proofs.lemmas.List.Elements.{filter_more}
use Rattle.cf_model.specs.States.{is_ready}
use Rattle.cf_ledger.specs.Ledgers.{state_of}
use Rattle.cf_request.specs.Telling.{is_settled_in}
use Rattle.cf_request.proofs.Lists.{filter_from, length_cond, length_one, weigh}
use Rattle.cf_request.proofs.Sets.{Marks, left_next, marks_more}
use Rattle.cf_request.proofs.teller.note.Goals as goal

pub put-requires : goal.put-requires
put-requires c =
    let p = is_settled_in (state_of c.args.ledger.now).stages in
    let news = c.args.news.now in
    let k = c.loop-i.i-index in
    let i = get_or news k 0 in
    let is : c.is_some-settled.result ≡ p i = c.is_some-settled.ensures ∙ ap is_some c.outcome.ensures in
    let one = ap weigh is in
    let more = ap (λ (l : List ℕ). length l) (filter_from p news k 0 (omega arith)) ∙ length_cond (p i) i (filter p (drop (k + 1) news)) in
    let room = c.loop-i.invariant.room in
    record { room = omega (arith, one, more, room) }

pub loop-i-preserved : goal.loop-i-preserved
loop-i-preserved c =
    let stages = (state_of c.args.ledger.now).stages in
    let p = is_settled_in stages in
    let news = c.args.news.now in
    let k = c.loop-i.i-index in
    let i = get_or news k 0 in
    let settled = c.is_some-settled.result in
    let was = c.loop-i.order.items in
    let now = c.put.new.order.items in
    let first = c.args.order.now.items in
    let is : settled ≡ p i = c.is_some-settled.ensures ∙ ap is_some c.outcome.ensures in
    let one = ap weigh is in
    let more = ap (λ (l : List ℕ). length l) (filter_from p news k 0 (omega arith)) ∙ length_cond (p i) i (filter p (drop (k + 1) news)) in
    let room = c.loop-i.invariant.room in
    let size = ap (λ (l : List ℕ). length l) c.put.ensures.items ∙ length-append was (cond settled (i ∷ []) []) in
    let long = length_one settled i in
    let capacity = c.put.ensures.room in
    let before : Marks (Contains (drop k news)) stages c.args.sets.now c.loop-i.sets = record { rest = c.loop-i.invariant.rest; count = c.loop-i.invariant.count; same = c.loop-i.invariant.same } in
    let there = c.requires.there k 0 (omega arith) in
    let after = marks_more (Contains (drop k news)) (Contains (drop (k + 1) news)) stages c.args.sets.now c.loop-i.sets c.write.new.self i c.is_ready-ready.result before c.write.ensures.sets
    (omega (arith, there, c.requires.lanes)) (c.is_ready-ready.ensures ∙ ap is_ready c.stage.ensures) c.write.ensures.written (λ j differs not. left_next news k j (omega arith) differs not) in
    record {
      written = c.put.ensures.items ∙ ap (λ (l : List ℕ). l ++ cond settled (i ∷ []) []) c.loop-i.invariant.written ∙ append_assoc first (filter p (take k news)) (cond settled (i ∷ []) [])
          ∙ ap (λ (l : List ℕ). first ++ l) (ap (λ (b : Bool). filter p (take k news) ++ cond b (i ∷ []) []) is ∙ sym (filter_more p news k 0 (omega arith)));
      room = omega (arith, one, more, room, size, long, capacity);
      places = c.put.ensures.room ∙ c.loop-i.invariant.places;
      rest = after.rest;
      count = after.count;
      same = after.same;
    }
