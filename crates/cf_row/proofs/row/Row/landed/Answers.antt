use Rattle.cf_row.proofs.Puts.{emptied}
use Rattle.cf_row.proofs.row.Row.landed.Goals as goal

pub invariant_of-self : goal.invariant_of-self
invariant_of-self c =
    let i = c.self.invariant in
    let e = emptied c.self.inside.replica c.replay_own.new.self c.self.inside.put.items c.clear.new.self.items c.self.inside.next _ _ c.clear.ensures.items c.replay_own.ensures.all.session c.replay_own.ensures.less c.clear.ensures.capacity i.tokens i.places in
    record { tokens = e.0; planned = e.1; memory = e.2; places = e.3 }
