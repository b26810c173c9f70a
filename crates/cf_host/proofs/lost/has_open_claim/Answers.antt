use Rattle.cf_host.proofs.Claimed.{others_claim}
use Rattle.cf_host.proofs.lost.has_open_claim.Goals as goal

pub returns-then-claim-stage-clause-none : goal.returns-then-claim-stage-clause-none
returns-then-claim-stage-clause-none c =
    let claim = c.in-Some.claim in
    others_claim c.args.view.now c.args.stage claim.stage claim.session c.session.result c.claims_are_one_sessions.ensures c.session.ensures c.if-claim-stage.true c.in-Some.ensures.whose
