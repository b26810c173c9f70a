use Rattle.std.proofs.Common.{ap, refl, subst, sym, ◌∷◌, ◌∙◌, [], arith, length, length-append}
use Rattle.cf_forms.specs.Plans.{with_room}
use Rattle.cf_model.specs.declared.events.Event.TheVariants.{Claim as Claims}
use Rattle.cf_model.specs.declared.events.Reply.TheVariants.{Claim as ToldClaim}
use Rattle.cf_model.specs.declared.replies.Claimed.{Claimed}
use Rattle.cf_model.specs.States.{State}
use Rattle.cf_ledger.specs.Ledgers.{Does, IsKept, ledger_of}
use Rattle.cf_ledger.proofs.Reserving.{places_less}
use Rattle.cf_ledger.proofs.Words.{does_push, kept_push, kept_states}
use Rattle.cf_ledger.proofs.writing.Book.claim.Goals as goal

pub returns-clause-kept : goal.returns-clause-kept
returns-clause-kept c =
    let b = c.args.self.now in
    let plan = with_room b.plan b.room in
    let event = Claims c.args.who c.args.stage in
    let t = c.note_claim-told.ensures in
    let g = c.note_claim-told.new in
    let one = ap length c.push_reserved.ensures.items ∙ length-append b.words.items (c.args.word ∷ []) in
    let same = c.push_reserved.ensures.capacity in
    let lists = t.more in
    let stages = t.free in
    let flags = c.requires.kept.kept.flags in
    let place = c.requires.place.of_words in
    record {
      whole = c.requires.kept.whole;
      kept = subst (λ words. IsKept plan words g.graph b.changed g.self.lists) (sym c.push_reserved.ensures.items)
          (kept_push plan b.words.items b.graph g.graph c.args.word event (ToldClaim c.note_claim-told.result) b.changed b.changed b.news.lists g.self.lists
          c.requires.kept.kept c.requires.read c.requires.named (record { fits = c.requires.there; room = tt }) (ap (λ (p : Claimed × State). (ToldClaim p.0, p.1)) t.told)
          t.worked_out c.requires.kept.kept.unset refl t.lists);
      places = places_less b.free c.saturating_sub-self.result (length b.changed) b.words c.push_reserved.new.self b.news g.self c.requires.kept.places c.saturating_sub-self.ensures
          (omega (arith, one, same, place)) (omega (arith, lists)) (omega (arith, stages, flags));
    }

pub returns-clause-does : goal.returns-clause-does
returns-clause-does c =
    let b = c.args.self.now in
    let plan = with_room b.plan b.room in
    let k = c.requires.kept.kept in
    subst (λ words. Does c.args.word (ledger_of plan b.words.items b.free) (ToldClaim c.note_claim-told.result) (ledger_of plan words c.saturating_sub-self.result)) (sym c.push_reserved.ensures.items)
    (does_push plan b.words.items b.graph.state c.note_claim-told.new.graph.state c.args.word (Claims c.args.who c.args.stage) (ToldClaim c.note_claim-told.result) b.free c.saturating_sub-self.result k.written k.left
    c.requires.read c.requires.named (record { fits = c.requires.there; room = tt }) (ap (λ (p : Claimed × State). (ToldClaim p.0, p.1)) c.note_claim-told.ensures.told) c.saturating_sub-self.ensures)

pub note_claim-told-requires-clause-all_stages : goal.note_claim-told-requires-clause-all_stages
note_claim-told-requires-clause-all_stages c = let b = c.args.self.now in kept_states (with_room b.plan b.room) b.words.items b.graph b.changed b.news.lists c.requires.kept.kept
