use Rattle.std.proofs.Common.{◌≡◌, ◌∙◌, ℕ, [], ap, arith, length, subst, sym, vec_capacity}
use Rattle.std.specs.Prelude.{take}
use Rattle.cf_model.specs.States.{start}
use Rattle.cf_ledger.specs.Ledgers.{Ledger, state_of}
use Rattle.cf_request.specs.Ready.{ReadySets, none_ready}
use Rattle.cf_request.specs.Telling.{AreFresh, AreSettledBelow, IsKept, Teller}
use Rattle.cf_request.proofs.Restarts.{fit_again, kept_again, lanes_left, most_again, stages_again, stages_stay}
use Rattle.cf_request.proofs.Sets.{lanes_first, lanes_in, left_first}
use Rattle.cf_request.proofs.Telling.{kept_new}
use Rattle.cf_request.proofs.teller.Teller.restart.Goals as goal

pub note_all-requires-clause-room : goal.note_all-requires-clause-room
note_all-requires-clause-room c =
    let t = c.self.inside in
    let most = most_again t.ledger c.restart.new.self c.restart.ensures in
    let room = c.self.invariant.0.room in
    let count = c.stages-stages.ensures.count in
    let same = c.clear.ensures.capacity in
    omega (arith, most, room, count, same)

pub begin_anew-requires : goal.begin_anew-requires
begin_anew-requires c =
    let t = c.self.inside in
    let stages = stages_again t.ledger c.restart.new.self c.restart.ensures in
    let less = stages_stay t.ledger in
    let all = c.self.invariant.1.all in
    let count = c.stages-stages.ensures.count in
    omega (arith, stages, less, all, count)

pub mark_all-requires-clause-lanes : goal.mark_all-requires-clause-lanes
mark_all-requires-clause-lanes c =
    let t = c.self.inside in
    let size = lanes_left t.ledger c.restart.new.self t.lanes c.begin_anew.new.self c.stages-stages.result c.restart.ensures c.self.invariant.1.all c.stages-stages.ensures.count c.begin_anew.ensures in
    let count = c.stages-stages.ensures.count in
    omega (arith, size, count)

pub mark_all-requires-clause-rest : goal.mark_all-requires-clause-rest
mark_all-requires-clause-rest c =
    let t = c.self.inside in
    let stages = c.stages-stages.ensures.count in
    let all = c.stages-stages.ensures.all_stages in
    left_first (state_of c.restart.new.self).stages (take c.stages-stages.result t.lanes.of) (length t.lanes.sets) t.lanes.places c.stages-stages.result c.begin_anew.new.self c.begin_anew.ensures (omega (arith, stages, all))

opened : (c : goal.After-mark_all) → AreFresh [] (start c.restart.new.self.plan).stages c.note_all.new.order.items
opened c =
    let l = c.restart.new.self in
    kept_new l c.note_all.new.order.items (ap (λ (x : Ledger). x.events) c.restart.ensures) c.stages-stages.ensures.all_stages
    (subst (λ (n : ℕ). AreSettledBelow n (state_of l).stages c.note_all.new.order.items) c.stages-stages.ensures.count c.note_all.ensures.noted)

pub invariant_of-self : goal.invariant_of-self
invariant_of-self c =
    let t = c.self.inside in
    let l = c.restart.new.self in
    let size = lanes_left t.ledger l t.lanes c.begin_anew.new.self c.stages-stages.result c.restart.ensures c.self.invariant.1.all c.stages-stages.ensures.count c.begin_anew.ensures in
    let count = c.stages-stages.ensures.count in
    let of = ap (λ (r : ReadySets). length r.of) c.mark_all.ensures.same in (
      subst (λ (places : ℕ). IsKept l c.note_all.new.order.items places 0) (sym (c.note_all.ensures.room ∙ c.clear.ensures.capacity))
          (kept_again t.ledger l t.order.items c.note_all.new.order.items (vec_capacity t.order) t.count c.self.invariant.0 c.restart.ensures (opened c)),
      fit_again t.ledger l t.lanes c.mark_all.new.sets c.self.invariant.1 c.restart.ensures (ap (λ (r : ReadySets). r.places) c.mark_all.ensures.same ∙ ap (λ (r : ReadySets). r.places) c.begin_anew.ensures)
          (omega (arith, size, count, of)) c.mark_all.ensures.fit,
    )

pub returns-clause-told : goal.returns-clause-told
returns-clause-told c =
    let t = c.self.inside in
    subst (λ (x : Teller). AreFresh [] (start x.ledger.plan).stages c.note_all.new.order.items) c.self.view_is
    (subst (λ (x : Ledger). AreFresh [] (start x.plan).stages c.note_all.new.order.items) c.restart.ensures (opened c))

pub returns-clause-lanes : goal.returns-clause-lanes
returns-clause-lanes c =
    let t = c.self.inside in
    let n = stages_again t.ledger c.restart.new.self c.restart.ensures in
    subst (λ (x : Teller). lanes_in c.mark_all.new.sets ≡ record x.lanes { of = take (length x.ledger.plan.stages) x.lanes.of }) c.self.view_is
    (lanes_first c.begin_anew.new.self c.mark_all.new.sets (take (length t.ledger.plan.stages) t.lanes.of) (length t.lanes.sets) t.lanes.places
    (c.begin_anew.ensures ∙ ap (λ (k : ℕ). none_ready (take k t.lanes.of) (length t.lanes.sets) t.lanes.places) (c.stages-stages.ensures.count ∙ n)) c.mark_all.ensures.same c.mark_all.ensures.count)
