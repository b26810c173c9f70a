use Rattle.std.proofs.Common.{sym, ap, ◌∙◌, arith}
use Rattle.cf_desk.specs.Views.{Desk, Pass}
use Rattle.cf_desk.proofs.Meets.{notes_at}
use Rattle.cf_desk.proofs.desk.Desk.notice.Goals as goal

pub split_seat-requires : goal.split_seat-requires
split_seat-requires c =
    let z = ap (λ (h : Desk). h.table) c.self.view_is in
    (ap (λ (p : Pass). p.table) c.p.view_is ∙ c.requires ∙ sym z, (omega arith), notes_at _ _ _ _ c.p.invariant.one)
