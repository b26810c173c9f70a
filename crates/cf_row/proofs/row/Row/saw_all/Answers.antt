use Rattle.std.proofs.Common.{◌≡◌, [], length, ap, refl, ◌∙◌}
use Rattle.cf_row.specs.Puts.{Row}
use Rattle.cf_row.proofs.Puts.{emptied, same_put}
use Rattle.cf_row.proofs.row.Row.saw_all.Goals as goal

pub invariant_of-self : goal.invariant_of-self
invariant_of-self c =
    let i = c.self.invariant in
    let none : c.self.inside.put.items ≡ [] =
    ap (λ (r : Row). r.put) c.self.view_is ∙ same_put c.reserve.result c.args.self.now c.reserve.new.self (length c.args.entries.now) c.reserve.ensures.found c.reserve.ensures.refused ∙ c.requires.none in
    let e = emptied c.self.inside.replica c.replay.new.self c.self.inside.put.items c.self.inside.put.items c.self.inside.next _ _ none c.replay.ensures.session c.replay.ensures.less refl i.tokens i.places in
    record { tokens = e.0; planned = e.1; memory = e.2; places = e.3 }
