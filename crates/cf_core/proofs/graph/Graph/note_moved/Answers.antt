use Rattle.std.proofs.Common.{◌<◌, ◌∙◌, arith, length, subst, sym}
use Rattle.cf_core.specs.Keeping.Changes.{HaveMoved}
use Rattle.cf_core.proofs.Keeping.Changes.{moved_not, moved_on}
use Rattle.cf_core.proofs.graph.Graph.note_moved.Goals.{then-rank-before, else-rank-before}
use Rattle.cf_core.proofs.graph.Graph.note_moved.Goals as goal

pub insert-requires : goal.insert-requires
insert-requires c =
    let there = c.rank.ensures.there (let more = c.if-rank-before.true in omega (arith, more)) in
    let flags = c.requires.flags in
    omega (arith, there, flags)

pub returns-clause-told : goal.returns-clause-told
returns-clause-told c old mid moved alone before =
    let kept = c.args.self.now.kept in
    let d = c.args.d in
    let flags = c.args.changed.now in
    let is = c.rank.ensures.rank in
    c.tell_rest.ensures.told old (elim c.if-rank-before.branch [
      | then-rank-before w ↦ (let more = w.if-rank-before.true in
          let there = c.rank.ensures.there (omega (arith, more)) in
          let within : d < length flags = (let all = c.requires.flags in omega (arith, there, all)) in
          subst (HaveMoved old kept) (sym (w.changed-is ∙ w.insert.ensures)) (moved_on old mid kept flags d within moved alone (omega (arith, is, before, more))))
      | else-rank-before w ↦ (let less = w.if-rank-before.false in
          subst (HaveMoved old kept) (sym w.changed-is) (moved_not old mid kept flags d moved alone (omega (arith, is, before, less))))
    ])
