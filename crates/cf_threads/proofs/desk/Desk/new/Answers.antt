use Rattle.std.proofs.Common.{List, sym, ap, ◌∙◌, subst}
use Rattle.cf_threads.specs.Desks.{IsKept}
use Rattle.cf_threads.specs.Slips.{keeper}
use Rattle.cf_threads.specs.declared.turn.Turn.{Turn}
use Rattle.cf_threads.proofs.Kept.{kept_none}
use Rattle.cf_threads.proofs.desk.Desk.new.Goals as goal

pub invariant_of-result : goal.invariant_of-result
invariant_of-result g c =
    let k = c.requires.all in
    let none = ap (λ v. v.all) k.1 in (
      k.0,
      k.1 ∙ ap (λ (l : List Turn). keeper g.B.Room.parts l) (sym none),
      subst (λ (l : List Turn). IsKept g.B.Room.place g.B.Room.start 0 (record { machine = c.args.machine; turns = l })) (sym none) (kept_none g.B.Room.place g.B.Room.start c.args.machine c.requires.start),
    )
