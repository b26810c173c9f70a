use Rattle.std.proofs.Common.{◌≡◌, ◌<◌, eqb, get_or, length, ap, sym, ◌∙◌, subst}
use Rattle.std.proofs.lemmas.List.{get_or_read}
use Rattle.cf_row.specs.declared.entry.Entry.{Entry}
use Rattle.cf_row.specs.Puts.{Row}
use Rattle.cf_row.proofs.Puts.{tells}
use Rattle.cf_row.proofs.row.Row.met.Goals as goal

pub returns-clause-told : goal.returns-clause-told
returns-clause-told c =
    let none : Entry = record { word = 0; token = 0 } in
    let some : 0 < length c.self.inside.put.items = subst (λ (r : Row). 0 < length r.put) (sym c.self.view_is) c.requires.under_way in
    let first : c.index.result.now ≡ get_or c.self.inside.put.items 0 none = get_or_read c.self.inside.put.items _ _ some c.index.ensures none in
    tells c.args.self.now.replica c.args.self.now.put c.args.first none (eqb c.index.result.now.token c.args.first.token) c.requires.under_way
    (ap (λ (e : Entry). eqb e.token c.args.first.token) (first ∙ ap (λ (r : Row). get_or r.put 0 none) c.self.view_is))
