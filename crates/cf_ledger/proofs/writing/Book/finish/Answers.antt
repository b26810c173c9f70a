use Rattle.std.proofs.Common.{ap, refl, subst, sym, ◌∷◌, ◌∙◌, [], arith, length, length-append}
use Rattle.cf_forms.specs.Plans.{with_room}
use Rattle.cf_model.specs.declared.events.Event.TheVariants.{Finish as FinishesAs}
use Rattle.cf_model.specs.declared.events.Reply.TheVariants.{Finish as ToldFinish}
use Rattle.cf_model.specs.declared.replies.Finished.{Finished}
use Rattle.cf_model.specs.States.{State}
use Rattle.cf_ledger.specs.Ledgers.{Does, IsKept, ledger_of}
use Rattle.cf_ledger.proofs.Reserving.{places_less}
use Rattle.cf_ledger.proofs.Words.{does_push, kept_push}
use Rattle.cf_ledger.proofs.writing.Book.finish.Goals as goal

pub returns-clause-kept : goal.returns-clause-kept
returns-clause-kept c =
    let b = c.args.self.now in
    let plan = with_room b.plan b.room in
    let event = FinishesAs c.args.who c.args.stage c.args.answer in
    let t = c.note_finish-told.ensures in
    let g = c.note_finish-told.new in
    let one = ap length c.push_reserved.ensures.items ∙ length-append b.words.items (c.args.word ∷ []) in
    let same = c.push_reserved.ensures.capacity in
    let lists = t.more in
    let stages = t.free in
    let flags = c.requires.kept.kept.flags in
    let place = c.requires.place.of_words in
    record {
      whole = c.requires.kept.whole;
      kept = subst (λ words. IsKept plan words g.graph b.changed g.self.lists) (sym c.push_reserved.ensures.items)
          (kept_push plan b.words.items b.graph g.graph c.args.word event (ToldFinish c.note_finish-told.result) b.changed b.changed b.news.lists g.self.lists
          c.requires.kept.kept c.requires.read c.requires.named (record { fits = c.requires.there; room = tt }) (ap (λ (p : Finished × State). (ToldFinish p.0, p.1)) t.told)
          t.worked_out c.requires.kept.kept.unset refl t.lists);
      places = places_less b.free c.saturating_sub-self.result (length b.changed) b.words c.push_reserved.new.self b.news g.self c.requires.kept.places c.saturating_sub-self.ensures
          (omega (arith, one, same, place)) (omega (arith, lists)) (omega (arith, stages, flags));
    }

pub returns-clause-does : goal.returns-clause-does
returns-clause-does c =
    let b = c.args.self.now in
    let plan = with_room b.plan b.room in
    let k = c.requires.kept.kept in
    subst (λ words. Does c.args.word (ledger_of plan b.words.items b.free) (ToldFinish c.note_finish-told.result) (ledger_of plan words c.saturating_sub-self.result)) (sym c.push_reserved.ensures.items)
    (does_push plan b.words.items b.graph.state c.note_finish-told.new.graph.state c.args.word (FinishesAs c.args.who c.args.stage c.args.answer) (ToldFinish c.note_finish-told.result) b.free c.saturating_sub-self.result k.written k.left
    c.requires.read c.requires.named (record { fits = c.requires.there; room = tt }) (ap (λ (p : Finished × State). (ToldFinish p.0, p.1)) c.note_finish-told.ensures.told) c.saturating_sub-self.ensures)

pub returns-clause-place : goal.returns-clause-place
returns-clause-place c =
    let b = c.args.self.now in
    let t = c.note_finish-told.ensures in
    let g = c.note_finish-told.new in
    let one = ap length c.push_reserved.ensures.items ∙ length-append b.words.items (c.args.word ∷ []) in
    let same = c.push_reserved.ensures.capacity in
    let lists = t.more in
    let stages = t.free in
    let flags = c.requires.kept.kept.flags in
    let place = c.requires.place.of_words in
    λ two. places_less 2 1 (length b.changed) b.words c.push_reserved.new.self b.news g.self two refl
    (omega (arith, one, same, place)) (omega (arith, lists)) (omega (arith, stages, flags))
