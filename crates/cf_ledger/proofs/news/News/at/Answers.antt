use Rattle.std.proofs.Common.{ap, arith, length}
use Rattle.cf_ledger.specs.News.{News}
use Rattle.cf_ledger.proofs.Parts.{count_parts}
use Rattle.cf_ledger.proofs.news.News.at.Goals as goal

pub part-requires-clause-place : goal.part-requires-clause-place
part-requires-clause-place c =
    let count = count_parts 0 c.self.inside.all.items c.self.inside.ends.items in
    let is = ap (λ (n : News). length n.lists) c.self.view_is in
    let same = ap length c.deref-2.ensures.value in
    let place = c.requires in
    omega (arith, count, is, same, place)
