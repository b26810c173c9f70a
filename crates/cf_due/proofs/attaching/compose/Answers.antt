-- The words of a promise, and of the stage that composes it, fit behind all that was seen.
use Rattle.std.proofs.Common.{◌≡◌, ℕ, ◌+◌, ◌-◌, ◌<◌, None, Some, [], ◌∷◌, ap, refl, sym, ◌∙◌, subst, arith}
use Rattle.std.proofs.lemmas.List.Elements.{All-nil}
use Rattle.cf_forms.specs.declared.forms.Form.TheVariants.{Source}
use Rattle.cf_forms.specs.declared.forms.Of.TheVariants.{None as NoSource}
use Rattle.cf_model.specs.declared.events.Event.TheVariants.{Attach as AttachesAs}
use Rattle.cf_event.specs.Words.{word_of}
use Rattle.cf_ledger.specs.Ledgers.{Ledger, stages_of as ledger_stages, state_of as ledger_state}
use Rattle.cf_row.specs.Puts.{AreWordsFor, attached_by}
use Rattle.cf_row.specs.Rows.{stages_of, state_of}
use Rattle.cf_row.proofs.Abandoned.{rule_small}
use Rattle.cf_notes.specs.declared.note.Note.TheVariants.{Nothing, Composes as NotesCompose}
use Rattle.cf_notes.specs.declared.wants.Source.TheVariants.{Nothing as NoPayload}
use Rattle.cf_notes.specs.declared.wants.Want.{Want}
use Rattle.cf_due.proofs.AttachedStages.{all_below, attach_for, is_attach}
use Rattle.cf_due.proofs.attaching.compose.Goals as goal

pub encode-requires : goal.encode-requires
encode-requires c =
    (let r = c.args.view.now in rule_small r.seen r.session c.number-who.result c.number-who.ensures, omega arith, omega arith, omega arith, refl)

pub encode-requires-2 : goal.encode-requires-2
encode-requires-2 c =
    let r = c.args.view.now in
    let who = c.number-who.result in
    let few = c.stages-promise.ensures.few in
    let count : c.stages-promise.result ≡ stages_of r = c.stages-promise.ensures.count ∙ ap ledger_stages c.ledger.ensures.ledger in
    let room = ap (λ (l : Ledger). (ledger_state l).plan.room) c.ledger.ensures.ledger in
    let left = c.requires.room in
    is_attach who (stages_of r) c.args.form c.args.of (Some (c.stages-promise.result + 1)) (rule_small r.seen r.session who c.number-who.ensures)
    (omega arith) c.requires.there (omega arith) c.requires.form

pub returns : goal.returns
returns c =
    let r = c.args.view.now in
    let who = c.number-who.result in
    let n = c.stages-promise.result in
    let few = c.stages-promise.ensures.few in
    let count : n ≡ stages_of r = c.stages-promise.ensures.count ∙ ap ledger_stages c.ledger.ensures.ledger in
    let room = ap (λ (l : Ledger). (ledger_state l).plan.room) c.ledger.ensures.ledger in
    let left = c.requires.room in
    let who_small = rule_small r.seen r.session who c.number-who.ensures in
    let event = is_attach who (stages_of r) c.args.form c.args.of (Some (n + 1)) who_small (omega arith) c.requires.there (omega arith) c.requires.form in
    let made : ℕ → Want = (λ w. record { word = w; note = Nothing; source = NoPayload }) in
    let first = attach_for who (stages_of r) (state_of r).plan.room c.encode.result Source NoSource None c.encode.ensures.back c.encode.ensures.word
    (who_small, omega arith, omega arith, omega arith, refl) (All-nil (λ j. j < stages_of r)) (omega arith) in
    let second = attach_for who (stages_of r + 1) ((state_of r).plan.room - 1) c.encode-2.result c.args.form c.args.of (Some (n + 1))
    c.encode-2.ensures.back c.encode-2.ensures.word event (all_below (stages_of r) (stages_of r + 1) c.args.of (omega arith) c.requires.there) (omega arith) in
    record {
      who = who;
      rule = c.number-who.ensures;
      promise = ap made c.encode.ensures.word;
      behind = record { word = c.encode-2.result; note = NotesCompose c.args.function n; source = NoPayload };
      second = refl;
      is = c.encode-2.ensures.word ∙ ap (λ k. word_of (AttachesAs who c.args.form c.args.of (Some (k + 1)))) count;
      note = ap (NotesCompose c.args.function) count;
      source = refl;
      fits = (
        first,
        subst (λ o. AreWordsFor who (stages_of r + attached_by o) ((state_of r).plan.room - attached_by o) (c.encode-2.result ∷ []))
            (sym c.encode.ensures.back) (second, tt),
      );
    }
