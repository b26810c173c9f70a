use Rattle.std.proofs.Common.{◌≡◌, ◌+◌, ℕ, [], ap, arith, length, subst, vec_capacity}
use Rattle.cf_model.specs.States.{start}
use Rattle.cf_ledger.specs.Ledgers.{Ledger, stages_of, state_of}
use Rattle.cf_request.specs.Telling.{AreFresh, AreSettledBelow}
use Rattle.cf_request.proofs.Sets.{fit_first, left_first}
use Rattle.cf_request.proofs.Telling.{kept_first, kept_new}
use Rattle.cf_request.proofs.teller.Teller.new.Goals as goal

opened : (c : goal.After-mark_all) → AreFresh [] (start c.in_ok-ledger.ledger.plan).stages c.note_all.new.order.items
opened c =
    let l = c.in_ok-ledger.ledger in
    kept_new l c.note_all.new.order.items (ap (λ (x : Ledger). x.events) c.in_ok-ledger.ensures) c.stages-stages.ensures.all_stages
    (subst (λ (n : ℕ). AreSettledBelow n (state_of l).stages c.note_all.new.order.items) c.stages-stages.ensures.count c.note_all.ensures.noted)

pub note_all-requires-clause-room : goal.note_all-requires-clause-room
note_all-requires-clause-room c =
    let stages = c.stages-stages.ensures.count in
    let same : stages_of c.in_ok-ledger.ledger ≡ length c.args.plan.now.stages = ap (λ (l : Ledger). stages_of l) c.in_ok-ledger.ensures in
    let all = c.requires.all in
    let room = c.in_ok-order.ensures.capacity in
    omega (arith, stages, same, all, room)

pub mark_all-requires-clause-rest : goal.mark_all-requires-clause-rest
mark_all-requires-clause-rest c =
    let stages = c.stages-stages.ensures.count in
    let all = c.stages-stages.ensures.all_stages in
    left_first (state_of c.in_ok-ledger.ledger).stages c.args.of.now c.args.lanes (length c.args.of.now + c.args.room) c.stages-stages.result c.in_ok-sets.sets c.in_ok-sets.ensures (omega (arith, stages, all))

pub invariant_of-result : goal.invariant_of-result
invariant_of-result c =
    let l = c.in_ok-ledger.ledger in
    let stages = c.stages-stages.ensures.count in
    let first : stages_of l ≡ length c.args.plan.now.stages = ap (λ (x : Ledger). stages_of x) c.in_ok-ledger.ensures in
    let all = c.requires.all in
    let room = c.in_ok-order.ensures.capacity in
    let same = c.note_all.ensures.room in (
      kept_first l c.args.plan.now c.args.room c.note_all.new.order.items (vec_capacity c.note_all.new.order) c.in_ok-ledger.ensures c.requires.place (omega (arith, stages, first, all, room, same)) (opened c),
      fit_first l c.args.plan.now c.args.room c.args.of.now c.args.lanes c.in_ok-sets.sets c.mark_all.new.sets c.in_ok-ledger.ensures c.requires.all c.in_ok-sets.ensures c.mark_all.ensures.same c.mark_all.ensures.fit,
    )

pub returns-clause-told : goal.returns-clause-told
returns-clause-told c = subst (λ (x : Ledger). AreFresh [] (start x.plan).stages c.note_all.new.order.items) c.in_ok-ledger.ensures (opened c)
