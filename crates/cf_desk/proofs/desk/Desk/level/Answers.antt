use Rattle.std.proofs.Common.{sym, ap, ◌∙◌, arith}
use Rattle.cf_desk.specs.Views.{Desk}
use Rattle.cf_desk.proofs.Meets.{sits_down, joins, levels_out, keeps_first}
use Rattle.cf_desk.proofs.Passes.{levelled_from}
use Rattle.cf_desk.proofs.desk.Desk.level.Goals as goal

pub load_new_seat-spare-requires : goal.load_new_seat-spare-requires
load_new_seat-spare-requires c = (omega arith, sits_down _ _ _)

pub join_seat-requires : goal.join_seat-requires
join_seat-requires c =
    let z = ap (λ (h : Desk). h.table) c.self.view_is in
    let is = c.replace-other.ensures.value in
    (c.requires.table.0 ∙ sym z, ap (λ s. s.table_id) is ∙ c.requires.table.1 ∙ sym z, ap (λ s. s.me.1) is ∙ ap (λ m. m.1) c.requires.one.1, (omega arith), joins _ _ _ _ _)

pub load-requires : goal.load-requires
load-requires c =
    let z = ap (λ (h : Desk). h.table) c.self.view_is in
    (c.join_seat.ensures.0 ∙ c.requires.table.0 ∙ sym z, (omega arith), levels_out _ _ _ _ _ _)

pub split_seat-requires : goal.split_seat-requires
split_seat-requires c =
    let z = ap (λ (h : Desk). h.table) c.self.view_is in
    (c.load.ensures.0 ∙ c.join_seat.ensures.0 ∙ c.requires.table.0 ∙ sym z, (omega arith), keeps_first _ _ _)

pub returns : goal.returns
returns c =
    let s = c.split_seat.ensures in
    let z = c.load.ensures.0 ∙ c.join_seat.ensures.0 ∙ c.requires.table.0 in record {
      table = (s.0 ∙ z, s.3 ∙ z);
      level = levelled_from _ _ _ _ _ _ _ c.requires.one.0 c.requires.one.1 (ap (λ q. q.me) c.replace-other.ensures.value) c.join_seat.ensures.2 c.load.ensures.2.0 c.load.ensures.2.1 (c.load.ensures.2.2, c.load.ensures.2.3) s.2 s.4;
    }
