use Rattle.std.proofs.Common.{arith}
use Rattle.cf_forms.specs.Plans.{with_room}
use Rattle.cf_ledger.proofs.Words.{few_stages}
use Rattle.cf_ledger.proofs.writing.Book.take.Goals as goal

pub encode-word-requires : goal.encode-word-requires
encode-word-requires c =
    let b = c.args.self.now in
    let few = few_stages (with_room b.plan b.room) b.words.items b.graph b.changed b.news.lists c.requires.kept.kept in
    let there = c.in-Some.ensures.there in
    (c.requires.caller, omega (arith, few, there))
