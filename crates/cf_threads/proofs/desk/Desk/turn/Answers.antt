use Rattle.std.proofs.Common.{List, refl, sym, ap, ◌∙◌, subst}
use Rattle.std.specs.Prelude.{IfNone, IfOk}
use Rattle.crossbeam_utils.specs.Seq.{cell_view}
use Rattle.cf_request.specs.Lanes.{NothingIsReady}
use Rattle.cf_threads.specs.declared.place.Place.{Place}
use Rattle.cf_threads.specs.declared.slips.View.{View}
use Rattle.cf_threads.specs.declared.turn.Turn.{Turn}
use Rattle.cf_threads.specs.Desks.{IsKept}
use Rattle.cf_threads.specs.Turns.{Steps}
use Rattle.cf_threads.proofs.Kept.{after_turn, few_busy, held_busy, keeps_parts, kept_turn, same_lanes, steps_of}
use Rattle.cf_threads.proofs.desk.Desk.turn.Goals as goal

pub step-next-requires : goal.step-next-requires
step-next-requires g c = same_lanes c.calls_add_behind.ensures g.B.Room.place g.B.Room.start c.self.inside.machine (cell_view c.self.inside.all).all c.args.place.lane c.self.invariant.2.are c.requires.place.1

pub count_busy-self-inside-requires-clause-some : goal.count_busy-self-inside-requires-clause-some
count_busy-self-inside-requires-clause-some g c =
    let all = (cell_view c.self.inside.all).all in
    let after = after_turn c.args.held c.step-next.result (cell_view c.args.mine).mine all c.requires.holds _ refl c.note-mine.ensures.among in
    held_busy g.B.Room.place g.B.Room.start c.self.inside.machine c.self.inside.busy all c.args.held c.step-next.result c.self.invariant.2 after

pub count_busy-self-inside-requires-clause-few : goal.count_busy-self-inside-requires-clause-few
count_busy-self-inside-requires-clause-few g c =
    let all = (cell_view c.self.inside.all).all in
    let after = after_turn c.args.held c.step-next.result (cell_view c.args.mine).mine all c.requires.holds _ refl c.note-mine.ensures.among in
    few_busy g.B.Room.place g.B.Room.start c.self.inside.machine c.self.inside.busy all c.args.held c.step-next.result c.self.invariant.2 after

pub invariant_of-self : goal.invariant_of-self
invariant_of-self g c =
    let i = c.self.invariant in
    let k = c.note-mine.ensures.kept in
    let old = cell_view c.self.inside.all in
    let m = c.self.inside.machine in
    let n = c.step-next.new.machine in
    let held = c.args.held in
    let next = c.step-next.result in
    let after = after_turn held next (cell_view c.args.mine).mine old.all c.requires.holds _ refl c.note-mine.ensures.among in
    let steps = steps_of c.args.place held m n next c.step-next.ensures.next c.step-next.ensures.refused c.step-next.ensures.why in
    let its = c.requires.place.0 in
    let kept = kept_turn g.B.Room.place g.B.Room.start m n c.self.inside.busy c.count_busy-self-inside.result old.all held next i.2 (subst (λ (p : Place). Steps p held m next n) its steps)
    (subst (λ (p : Place). IfOk next (λ taken. IfNone taken (NothingIsReady n.teller p.lane))) its c.step-next.ensures.none) after c.count_busy-self-inside.ensures in (
      k.0.0 ∙ i.0,
      keeps_parts g.B.Room.parts old (cell_view c.note-mine.new.all) _ i.1 k.1,
      subst (λ (l : List Turn). IsKept g.B.Room.place g.B.Room.start c.count_busy-self-inside.result (record { machine = n; turns = l })) (sym (ap (λ (v : View). v.all) k.1)) kept,
    )
