use Rattle.std.proofs.Common.{ap, ◌∙◌, subst}
use Rattle.std.specs.Prelude.{Some}
use Rattle.cf_model.specs.declared.events.Event.{Event}
use Rattle.cf_event.specs.Words.{IsEvent, word_of}
use Rattle.cf_row.proofs.Abandoned.{rule_small}
use Rattle.cf_due.proofs.Below.{few_stages}
use Rattle.cf_due.proofs.Settled.{settles_as}
use Rattle.cf_due.proofs.settling.settle_word.Goals as goal

pub encode-requires : goal.encode-requires
encode-requires c =
    let r = c.args.view.now in
    let few = few_stages c.ledger.result.now r c.stages-few.result c.args.stage c.ledger.ensures.ledger c.stages-few.ensures.count c.stages-few.ensures.few c.requires.is_open.there in
    c.settle_event-event.ensures.event (rule_small r.seen r.session c.number-who.result c.number-who.ensures) few

pub returns : goal.returns
returns c =
    let r = c.args.view.now in
    let few = few_stages c.ledger.result.now r c.stages-few.result c.args.stage c.ledger.ensures.ledger c.stages-few.ensures.count c.stages-few.ensures.few c.requires.is_open.there in
    let is = c.settle_event-event.ensures.is in
    let event = c.settle_event-event.ensures.event (rule_small r.seen r.session c.number-who.result c.number-who.ensures) few in
    settles_as r c.number-who.result c.args.stage c.encode.result c.args.outcome c.number-who.ensures c.requires.is_open (subst IsEvent is event)
    (c.encode.ensures.word ∙ ap word_of is) (c.encode.ensures.back ∙ ap (λ (e : Event). Some e) is)
