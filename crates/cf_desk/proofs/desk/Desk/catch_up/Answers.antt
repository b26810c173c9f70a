use Rattle.std.proofs.Common.{◌≡◌, Some, sym, ap, ◌∙◌, arith}
use Rattle.atomic_table.specs.Seated.{TableId}
use Rattle.cf_model.specs.declared.events.Event.{Event}
use Rattle.cf_model.specs.declared.events.Reply.{Reply}
use Rattle.cf_model.specs.States.{State}
use Rattle.cf_desk.specs.Rule.{FindsSeen}
use Rattle.cf_desk.specs.Views.{Desk, known_of}
use Rattle.cf_desk.proofs.Keeps.{same_some}
use Rattle.cf_desk.proofs.Passes.{finds_at, state_more, on_plan_at}
use Rattle.cf_desk.proofs.desk.Desk.catch_up.Goals as goal
use Rattle.cf_desk.proofs.desk.Desk.catch_up.Goals.{After-load-word, In-Some}

pub load-word-requires : goal.load-word-requires
load-word-requires c =
    let i = c.loop-place.invariant in
    let z = i.0 ∙ c.requires.table ∙ sym (ap (λ (h : Desk). h.table) c.self.view_is) in
    let words = ap (λ (z : TableId). z.words) (c.requires.table ∙ sym (ap (λ (h : Desk). h.table) c.self.view_is)) in
    (z, (omega arith), finds_at _ _ _ _ (known_of c.args.seat.now.me.0) c.loop-place.place (i.1 ∙ c.requires.one) (omega arith))

told : (c : After-load-word) → FindsSeen (known_of c.args.seat.now.me.0) c.loop-place.place c.load-word.result
told c = c.load-word.ensures.2.1 (known_of c.args.seat.now.me.0) (ap (λ m. m.0) (c.loop-place.invariant.1 ∙ c.requires.one))

-- the event that was found is the one seen
seen : (c : In-Some) → (told (goal.at.In-Some c).After-load-word).event ≡ c.in-Some.event
seen c =
    let t = told (goal.at.In-Some c).After-load-word in
    same_some t.event c.in-Some.event (sym t.is ∙ sym c.in-Some.ensures.value)

pub apply-requires : goal.apply-requires
apply-requires c =
    let t = told (goal.at.apply-requires c).After-load-word in
    let e = seen (goal.at.apply-requires c).In-Some in
    on_plan_at (known_of c.args.seat.now.me.0) _ c.loop-place.place _ c.loop-place.invariant.2 c.requires.events (t.there ∙ ap (λ (x : Event). Some x) e)

pub loop-place-preserved : goal.loop-place-preserved
loop-place-preserved c =
    let i = c.loop-place.invariant in
    let t = told (goal.at.loop-place-preserved c).After-load-word in
    let e = seen (goal.at.loop-place-preserved c).In-Some in
    let k = known_of c.args.seat.now.me.0 in (
      c.load-word.ensures.0 ∙ i.0,
      c.load-word.ensures.2.0 ∙ i.1,
      state_more k.setting.plan k.seen c.loop-place.place _ _ _ (ap (λ (x : Reply × State). x.1) c.apply.ensures.told) i.2 (t.there ∙ ap (λ (x : Event). Some x) e),
    )

pub unreachable-requires : goal.unreachable-requires
unreachable-requires c =
    let t = told (goal.at.unreachable-requires c).After-load-word in
    let none = c.in-None.ensures.value in
    let some = t.is in
    cc
