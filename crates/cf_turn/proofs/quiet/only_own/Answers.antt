use Rattle.std.proofs.Common.{rules, ◌≡◌}
use Rattle.cf_row.specs.Rows.{stages_of}
use Rattle.cf_turn.proofs.Quiets.{own_till, own_with}
use Rattle.cf_turn.proofs.quiet.only_own.Goals as goal

pub loop-claim-preserved : goal.loop-claim-preserved
loop-claim-preserved c =
    let r = c.args.view.now in
    let claim = c.in-Some.claim in
    let own : claim.session ≡ r.session = search rules in
    own_with r claim.stage claim.session c.claims_are_one_sessions.ensures (own_till r c.loop-claim.from claim.stage c.loop-claim.invariant c.in-Some.ensures.first)
    c.in-Some.ensures.whose own

pub returns : goal.returns
returns c = own_till c.args.view.now c.loop-claim.from (stages_of c.args.view.now) c.loop-claim.invariant c.in_default.ensures.none
