use Rattle.std.proofs.Common.{◌≡◌, ◌+◌, ℕ, List, arith, length, subst, sym, true, vec_capacity}
use Rattle.cf_forms.specs.Plans.{has_place}
use Rattle.cf_ledger.specs.Ledgers.{state_of}
use Rattle.cf_request.specs.Ready.{FitState, ReadySets}
use Rattle.cf_request.specs.Telling.{IsKept, Teller}
use Rattle.cf_request.proofs.Rooms.{few_grown, fit_grown, kept_grown}
use Rattle.cf_request.proofs.Sets.{left_first}
use Rattle.cf_request.proofs.teller.Teller.grow.Goals as goal

pub with_room-requires : goal.with_room-requires
with_room-requires c =
    let few = few_grown c.self.inside.ledger c.args.more (subst (λ (x : Teller). has_place x.ledger.plan.stages (x.ledger.plan.room + c.args.more) ≡ true) (sym c.self.view_is) c.requires) in
    let all = c.self.invariant.1.all in
    let room = c.room.ensures in
    omega (arith, few, all, room)

pub mark_all-requires-clause-rest : goal.mark_all-requires-clause-rest
mark_all-requires-clause-rest c =
    let t = c.self.inside in
    let stages = c.stages-stages.ensures.count in
    let all = c.stages-stages.ensures.all_stages in
    left_first (state_of t.ledger).stages t.lanes.of (length t.lanes.sets) (length t.lanes.of + (c.room.result + c.args.more)) c.stages-stages.result c.in_ok-sets.sets c.in_ok-sets.ensures (omega (arith, stages, all))

pub invariant_of-self-in-Ok : goal.invariant_of-self-in-Ok
invariant_of-self-in-Ok c =
    let t = c.self.inside in
    let new = c.grow.new.self in
    let stages = c.stages-stages.ensures.count in
    let room = c.room.ensures in
    let places = c.in_ok-reserve.ensures.ok in
    let kept = c.in_ok-reserve.ensures.len in
    let more = c.saturating_sub.ensures in
    let size = c.len.ensures in (
      subst (λ (xs : List ℕ). IsKept new xs (vec_capacity c.reserve.new.self) t.count) (sym c.in_ok-reserve.ensures.items)
          (kept_grown t.ledger new c.args.more t.order.items (vec_capacity t.order) (vec_capacity c.reserve.new.self) t.count c.self.invariant.0 c.in-Ok.ensures.grown c.in-Ok.ensures.taken
          (subst (λ (x : Teller). has_place x.ledger.plan.stages (x.ledger.plan.room + c.args.more) ≡ true) (sym c.self.view_is) c.requires)
          (omega (arith, stages, room, places, kept, more, size, t.order.ok.0))),
      subst (λ (r : ReadySets). FitState (state_of new) r) (sym c.replace.ensures.after)
          (fit_grown (state_of t.ledger) (state_of new) c.args.more (c.room.result + c.args.more) t.lanes c.in_ok-sets.sets c.mark_all.new.sets c.self.invariant.1 c.in-Ok.ensures.state (omega (arith, room))
          c.in_ok-sets.ensures c.mark_all.ensures.same c.mark_all.ensures.fit),
    )
