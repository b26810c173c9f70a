use Rattle.std.proofs.Common.{arith, rules}
use Rattle.cf_forms.specs.Plans.{with_room}
use Rattle.cf_ledger.proofs.Words.{few_stages}
use Rattle.cf_ledger.proofs.writing.Book.finish_held.Goals as goal

pub encode-word-requires : goal.encode-word-requires
encode-word-requires c =
    let b = c.args.self.now in
    let few = few_stages (with_room b.plan b.room) b.words.items b.graph b.changed b.news.lists c.requires.kept.kept in
    let there = c.requires.there in
    (c.requires.caller, omega (arith, few, there), search rules)
