use Rattle.std.proofs.Common.{subst}
use Rattle.cf_turn.specs.Works.{Work}
use Rattle.cf_turn.specs.Turns.{TellsWish}
use Rattle.cf_turn.proofs.Telling.{tells_wish, with_users}
use Rattle.cf_turn.proofs.work.Work.tell_wish.Goals as goal

pub returns-clause-told : goal.returns-clause-told
returns-clause-told c =
    let i = c.self.inside in
    let p = c.in_ok-place.place in
    let old : Work = record { part = i.part; wishes = i.users.wishes; ends = i.users.ends; free = i.users.free; is_acting = i.is_acting; is_doubtful = i.is_doubtful; closed_at = i.closed_at } in
    subst (λ (w : Work). TellsWish w c.args.now p.number p.told (with_users old c.remove_act.new.self c.stays_first-self-inside.result)) c.self.view_is
    (tells_wish old c.args.now p.at p.number p.told c.fault.result c.remove_act.new.self c.stays_first-self-inside.result c.fault.ensures c.in_ok-place.ensures.is
    c.remove_act.ensures c.stays_first-self-inside.ensures)
