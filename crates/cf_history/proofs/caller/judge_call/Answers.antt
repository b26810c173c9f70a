use Rattle.std.proofs.Common.{◌≡◌, ◌-◌, arith, refl}
use Rattle.cf_history.proofs.Walks.{called_on, there_fits}
use Rattle.cf_history.proofs.caller.judge_call.Goals as goal

pub answer-given-requires : goal.answer-given-requires
answer-given-requires c =
    let p = c.pass_by-passed.ensures in
    let most = p.at_most in
    there_fits _ _ _ _ _ (let is : c.pass_by-passed.result ≡ c.args.place - c.args.at - 1 = omega arith in is) (omega arith) p.fits (c.if-not-is_own_at.ensures.0 refl).0

pub returns-then-is_reply : goal.returns-then-is_reply
returns-then-is_reply c =
    let p = c.pass_by-passed.ensures in
    let most = p.at_most in
    let own = c.if-not-is_own_at.ensures.0 refl in
    called_on _ _ _ _ _ _ _ _ _ _ _ (omega arith) (omega arith) (let is : c.pass_by-passed.result ≡ c.args.place - c.args.at - 1 = omega arith in is) p.others p.state own.0 own.1 own.2
    c.answer-given.ensures.told (c.if-is_reply.ensures.0 refl)
