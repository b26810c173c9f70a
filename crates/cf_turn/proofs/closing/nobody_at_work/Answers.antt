use Rattle.std.proofs.Common.{rules}
use Rattle.cf_row.specs.Rows.{stages_of}
use Rattle.cf_due.specs.Abandoning.{IsOtherGone}
use Rattle.cf_turn.specs.Closing.{NobodyAtWork}
use Rattle.cf_turn.proofs.Idle.{nobody_till, nobody_with}
use Rattle.cf_turn.proofs.closing.nobody_at_work.Goals as goal

pub loop-claim-preserved : goal.loop-claim-preserved
loop-claim-preserved c =
    let r = c.args.view.now in
    let w = c.args.watch.now in
    let i = c.in-Some.claim.stage in
    let before : NobodyAtWork r w i = nobody_till r w c.loop-claim.from i c.loop-claim.invariant c.in-Some.ensures.first in
    let gone : IsOtherGone r w c.in-Some.claim.session = search rules in
    nobody_with r w i c.in-Some.claim.session c.claims_are_one_sessions.ensures before c.in-Some.ensures.whose gone

pub returns-clause-nobody : goal.returns-clause-nobody
returns-clause-nobody c =
    let r = c.args.view.now in
    nobody_till r c.args.watch.now c.loop-claim.from (stages_of r) c.loop-claim.invariant c.in_default.ensures.none
