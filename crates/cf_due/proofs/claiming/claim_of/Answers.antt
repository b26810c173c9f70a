use Rattle.std.proofs.Common.{refl}
use Rattle.cf_row.proofs.Abandoned.{rule_small}
use Rattle.cf_due.proofs.Below.{few_stages}
use Rattle.cf_due.proofs.Calls.{claims_next}
use Rattle.cf_due.proofs.claiming.claim_of.Goals as goal

pub encode-requires : goal.encode-requires
encode-requires c =
    let r = c.args.view.now in
    let there = c.in_ok-stage.ensures.there in
    let few = few_stages c.ledger.result.now r c.stages-few.result c.in_ok-stage.stage c.ledger.ensures.ledger c.stages-few.ensures.count c.stages-few.ensures.few there in
    (rule_small r.seen r.session c.number-who.result c.number-who.ensures, few)

pub returns-clause-claim : goal.returns-clause-claim
returns-clause-claim c =
    let r = c.args.view.now in
    let there = c.in_ok-stage.ensures.there in
    let few = few_stages c.ledger.result.now r c.stages-few.result c.in_ok-stage.stage c.ledger.ensures.ledger c.stages-few.ensures.count c.stages-few.ensures.few there in
    claims_next r c.args.notes.now c.number-who.result c.in_ok-stage.stage _ c.next_claims_are_granted.ensures c.number-who.ensures
    (rule_small r.seen r.session c.number-who.result c.number-who.ensures) few there c.in_ok-stage.ensures.next c.encode.ensures.word c.encode.ensures.back (record { note = refl; source = refl })
