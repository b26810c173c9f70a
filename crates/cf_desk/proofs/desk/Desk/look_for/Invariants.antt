use Rattle.cf_desk.specs.Views.{Follows}
use Rattle.cf_desk.proofs.Looks.{LooksInVain}
use Rattle.cf_desk.proofs.desk.Desk.look_for.Given as goal

abbrev pub invariant-looks : goal.invariant-looks
invariant-looks l = record {
  seen : Follows l.initial.p l.p;
  looks : LooksInVain l.self l.stage l.counter l.initial.p l.p;
}
