use Rattle.std.proofs.Common.{◌⊎◌, rules}
use Rattle.std.specs.Prelude.{◌≢◌, None}
use Rattle.cf_model.specs.States.{outcome_at}
use Rattle.cf_row.specs.Rows.{state_of}
use Rattle.cf_due.specs.Abandoning.{IsOtherGone, NoneToAbandon}
use Rattle.cf_due.proofs.Gone.{none_till, none_with}
use Rattle.cf_due.proofs.abandoning.next_of_gone.Goals as goal

pub loop-claim-preserved : goal.loop-claim-preserved
loop-claim-preserved c =
    let r = c.args.view.now in
    let w = c.args.watch.now in
    let i = c.in-Some.claim.stage in
    let s = c.in-Some.claim.session in
    let before : NoneToAbandon r w i = none_till r w c.loop-claim.from i c.loop-claim.invariant c.in-Some.ensures.first in
    let why : (outcome_at (state_of r) i ≢ None) ⊎ (¬ IsOtherGone r w s) = search rules in
    none_with r w i s c.claims_are_one_sessions.ensures before c.in-Some.ensures.whose why
