use Rattle.cf_example.proofs.TwoSessions.{none_held, one_held}
use Rattle.cf_example.proofs.sharing.take_turn.Goals as goal

pub returns-in_ok-push-clause-holds : goal.returns-in_ok-push-clause-holds
returns-in_ok-push-clause-holds c =
    one_held c.args.store.now c.take_stage.new.store c.args.row.now c.take_stage.new.row c.args.taken.now.items c.push.new.self.items c.in-Some.stage c.requires c.take_stage.ensures.goes_on c.in-Some.ensures.granted c.in_ok-push.ensures.items

pub returns-in_default-clause-holds : goal.returns-in_default-clause-holds
returns-in_default-clause-holds c = none_held c.args.store.now c.take_stage.new.store c.args.row.now c.take_stage.new.row c.args.taken.now.items c.requires c.take_stage.ensures.goes_on
