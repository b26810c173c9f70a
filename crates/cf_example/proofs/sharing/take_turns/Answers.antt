use Rattle.cf_example.proofs.TwoSessions.{both_went, other_holds}
use Rattle.cf_example.proofs.sharing.take_turns.Goals as goal

pub take_turn-requires-2 : goal.take_turn-requires-2
take_turn-requires-2 c = other_holds c.args.store.now c.take_turn.new.store c.args.second.now c.args.others.now.items c.in_ok-take_turn.ensures.goes_on.grown c.requires.second

pub returns : goal.returns
returns c =
    both_went c.take_turn-2.result c.args.store.now c.take_turn.new.store c.take_turn-2.new.store c.args.first.now c.args.second.now c.take_turn.new.row c.take_turn-2.new.row c.args.ones.now.items c.args.others.now.items
    c.take_turn.new.taken.items c.take_turn-2.new.taken.items c.requires c.in_ok-take_turn.ensures.goes_on c.in_ok-take_turn.ensures.holds c.take_turn-2.ensures.goes_on c.take_turn-2.ensures.holds
