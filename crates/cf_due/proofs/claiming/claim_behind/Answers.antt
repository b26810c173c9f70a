use Rattle.std.proofs.Common.{◌≡◌, ℕ, ◌∙◌, ap, refl, rules, sym}
use Rattle.std.specs.Prelude.{Some}
use Rattle.cf_event.specs.Words.{word_of}
use Rattle.cf_model.specs.States.{claim_at}
use Rattle.cf_model.specs.declared.events.Event.TheVariants.{Claim as Claims}
use Rattle.cf_row.proofs.Abandoned.{rule_small}
use Rattle.cf_row.specs.Rows.{state_of}
use Rattle.cf_due.proofs.Below.{few_stages}
use Rattle.cf_due.proofs.Calls.{claims_behind, same_some}
use Rattle.cf_due.proofs.claiming.claim_behind.Goals as goal

pub returns-clause-claim : goal.returns-clause-claim
returns-clause-claim c =
    let r = c.args.view.now in
    let there = c.in_ok-stage.ensures.there in
    let few = few_stages c.ledger.result.now r c.stages-few.result c.in_ok-stage.stage c.ledger.ensures.ledger c.stages-few.ensures.count c.stages-few.ensures.few there in
    let f = c.requires in
    let told : claim_at (state_of r) c.args.held.stage ≡ Some c.in-Some.who = search rules in
    let same : c.in-Some.who ≡ f.who = same_some c.in-Some.who f.who (sym told ∙ f.claimed) in
    claims_behind r c.args.notes.now c.args.held c.args.finish c.in_ok-stage.stage _ c.next_claims_are_granted.ensures f
    (rule_small r.seen r.session f.who f.rule) few there c.in_ok-stage.ensures.next
    (c.encode.ensures.word ∙ ap (λ (w : ℕ). word_of (Claims w c.in_ok-stage.stage)) same)
    (c.encode.ensures.back ∙ ap (λ (w : ℕ). Some (Claims w c.in_ok-stage.stage)) same) (record { note = refl; source = refl })
