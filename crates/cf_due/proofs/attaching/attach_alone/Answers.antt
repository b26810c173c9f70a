-- The stage's word fits behind all that was seen.
use Rattle.std.proofs.Common.{ap, refl, arith}
use Rattle.cf_ledger.specs.Ledgers.{Ledger, stages_of as ledger_stages, state_of as ledger_state}
use Rattle.cf_row.specs.Rows.{stages_of, state_of}
use Rattle.cf_row.proofs.Abandoned.{rule_small}
use Rattle.cf_due.proofs.AttachedStages.{attach_for, is_attach}
use Rattle.cf_due.proofs.attaching.attach_alone.Goals as goal

pub encode-word-requires : goal.encode-word-requires
encode-word-requires c =
    let r = c.args.view.now in
    let who = c.number-who.result in
    let count = ap ledger_stages c.ledger.ensures.ledger in
    let room = ap (λ (l : Ledger). (ledger_state l).plan.room) c.ledger.ensures.ledger in
    let left = c.requires.room in
    let small = c.requires.small in
    is_attach who (stages_of r) c.args.form c.args.of c.args.function (rule_small r.seen r.session who c.number-who.ensures) (omega arith)
    c.requires.there (omega arith) c.requires.form

pub returns : goal.returns
returns c =
    let r = c.args.view.now in
    let who = c.number-who.result in
    let count = ap ledger_stages c.ledger.ensures.ledger in
    let room = ap (λ (l : Ledger). (ledger_state l).plan.room) c.ledger.ensures.ledger in
    let left = c.requires.room in
    let small = c.requires.small in
    let event = is_attach who (stages_of r) c.args.form c.args.of c.args.function (rule_small r.seen r.session who c.number-who.ensures) (omega arith)
    c.requires.there (omega arith) c.requires.form in
    record {
      who = who;
      rule = c.number-who.ensures;
      is = c.encode-word.ensures.word;
      fits = (
        attach_for who (stages_of r) (state_of r).plan.room c.encode-word.result c.args.form c.args.of c.args.function
            c.encode-word.ensures.back c.encode-word.ensures.word event c.requires.there c.requires.room,
        tt,
      );
      note = refl;
      source = refl;
      alone = refl;
    }
