use Rattle.cf_example.proofs.TwoSessions.{new_share, share_apart}
use Rattle.cf_example.proofs.sharing.share.Goals as goal

pub loop-turn-init : goal.loop-turn-init
loop-turn-init c =
    new_share c.args.store.now c.args.first.now c.args.second.now c.new-ones.result.items c.new-others.result.items c.requires.knows c.requires.plan c.requires.sessions c.new-ones.ensures.items c.new-others.ensures.items

pub returns : goal.returns
returns c = share_apart c.claims_are_one_sessions.ensures c.loop-turn.store c.loop-turn.first c.loop-turn.second c.loop-turn.ones.items c.loop-turn.others.items c.loop-turn.invariant
