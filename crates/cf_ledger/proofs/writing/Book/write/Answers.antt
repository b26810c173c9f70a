use Rattle.std.proofs.Common.{subst, sym, ◌∷◌, ◌∙◌, [], ap, arith, length, length-append}
use Rattle.cf_forms.specs.Plans.{with_room}
use Rattle.cf_ledger.specs.Ledgers.{Does, HavePlaces, IsKept, ledger_of}
use Rattle.cf_ledger.proofs.Reserving.{places_less}
use Rattle.cf_ledger.proofs.Words.{does_push, kept_push}
use Rattle.cf_ledger.proofs.writing.Book.write.Goals as goal

pub returns-clause-kept : goal.returns-clause-kept
returns-clause-kept c =
    let b = c.args.self.now in
    let plan = with_room b.plan b.room in
    let t = c.note-reply.ensures in
    let g = c.note-reply.new in
    let one = ap length c.push_reserved.ensures.items ∙ length-append b.words.items (c.args.word ∷ []) in
    let same = c.push_reserved.ensures.capacity in
    let lists = t.more in
    let stages = t.free in
    let place = c.requires.place.of_words in
    record {
      whole = c.requires.kept.whole;
      kept = subst (λ words. IsKept plan words g.graph g.flags g.self.lists) (sym c.push_reserved.ensures.items)
          (kept_push plan b.words.items b.graph g.graph c.args.word c.args.event.now c.note-reply.result b.changed g.flags b.news.lists g.self.lists
          c.requires.kept.kept c.requires.read c.requires.named c.requires.taken t.told t.worked_out t.unset t.flags t.lists);
      places = subst (λ most. HavePlaces c.saturating_sub-self.result most c.push_reserved.new.self g.self) (sym t.flags)
          (places_less b.free c.saturating_sub-self.result (length b.changed) b.words c.push_reserved.new.self b.news g.self c.requires.kept.places c.saturating_sub-self.ensures
          (omega (arith, one, same, place)) (omega (arith, lists)) (omega (arith, stages)));
    }

pub returns-clause-does : goal.returns-clause-does
returns-clause-does c =
    let b = c.args.self.now in
    let plan = with_room b.plan b.room in
    let k = c.requires.kept.kept in
    subst (λ words. Does c.args.word (ledger_of plan b.words.items b.free) c.note-reply.result (ledger_of plan words c.saturating_sub-self.result)) (sym c.push_reserved.ensures.items)
    (does_push plan b.words.items b.graph.state c.note-reply.new.graph.state c.args.word c.args.event.now c.note-reply.result b.free c.saturating_sub-self.result k.written k.left
    c.requires.read c.requires.named c.requires.taken c.note-reply.ensures.told c.saturating_sub-self.ensures)
