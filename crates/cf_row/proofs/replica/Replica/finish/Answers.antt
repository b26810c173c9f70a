use Rattle.std.proofs.Common.{◌≡◌, ap, ◌∙◌, arith, rules}
use Rattle.std.specs.Prelude.{Some}
use Rattle.cf_model.specs.States.{claim_at}
use Rattle.cf_ledger.specs.Ledgers.{state_of as ledger_state}
use Rattle.cf_row.specs.Rows.{Replica}
use Rattle.cf_row.specs.Grants.{granted_in}
use Rattle.cf_row.proofs.Abandoned.{rule_small}
use Rattle.cf_row.proofs.Finishing.{finishes}
use Rattle.cf_row.proofs.replica.Replica.finish.Goals as goal

pub encode-requires : goal.encode-requires
encode-requires c =
    (rule_small c.args.self.now.seen c.args.self.now.session c.number-who.result c.number-who.ensures, omega (arith, c.stages.ensures.few, c.if-held-stages.false), search rules)

pub returns-clause-word : goal.returns-clause-word
returns-clause-word c =
    let claimed : claim_at (ledger_state c.ledger-ledger.result.now) c.args.held.stage ≡ Some c.number-who.result = search rules in
    finishes c.ledger-ledger.result.now c.args.self.now c.deref.result.now c.args.held c.self.inside.session c.number-who.result c.stages.result c.encode.result c.ledger-ledger.ensures.ledger c.stages.ensures.count
    (omega (arith, c.if-held-stages.false)) c.number-who.ensures (c.deref.ensures.value ∙ c.self.invariant.claims.are ∙ ap (λ (v : Replica). granted_in v.plan v.seen) c.self.view_is) (ap (λ (v : Replica). v.session) c.self.view_is)
    (search rules) claimed c.encode.ensures.word c.encode.ensures.back
