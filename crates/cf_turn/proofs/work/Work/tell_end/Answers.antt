use Rattle.std.proofs.Common.{List, length, ap, ◌∙◌, subst}
use Rattle.cf_row.specs.declared.entry.Entry.{Entry}
use Rattle.cf_row.specs.Rows.{Replica}
use Rattle.cf_turn.specs.Works.{Work, is_at}
use Rattle.cf_turn.specs.Turns.{TellsEnd}
use Rattle.cf_turn.proofs.Telling.{tells_end, with_users}
use Rattle.cf_turn.proofs.work.Work.tell_end.Goals as goal

pub returns-clause-told : goal.returns-clause-told
returns-clause-told c =
    let i = c.self.inside in
    let p = c.in_ok-place.place in
    let old : Work = record { part = i.part; wishes = i.users.wishes; ends = i.users.ends; free = i.users.free; is_acting = i.is_acting; is_doubtful = i.is_doubtful; closed_at = i.closed_at } in
    let seen = c.seen.ensures ∙ ap (λ (r : Replica). r.seen) c.view.ensures in
    let closed = c.is_at-is_closed.ensures ∙ ap (λ (l : List Entry). is_at i.closed_at (length l)) seen in
    subst (λ (w : Work). TellsEnd w c.args.now p.number p.told (with_users old c.remove_end.new.self i.is_acting)) c.self.view_is
    (tells_end old c.args.now p.at p.number p.told c.fault.result c.is_at-is_closed.result c.remove_end.new.self c.fault.ensures closed c.in_ok-place.ensures.is c.remove_end.ensures)
