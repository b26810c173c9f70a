use Rattle.std.proofs.Common.{ℕ, subst}
use Rattle.cf_example.specs.Processes.{Turns}
use Rattle.cf_example.proofs.Led.{asked_so, turn_leads, turned_led}
use Rattle.cf_example.proofs.processes.take_turn.Goals as goal

pub serve-requires-clause-led : goal.serve-requires-clause-led
serve-requires-clause-led c =
    let turns = subst (λ (n : ℕ). Turns n c.args.now c.in_ok-order.order c.args.worker.now c.turn.new.self) c.number.ensures c.in_ok-order.ensures in
    turned_led c.args.stored.now c.args.now c.in_ok-order.order c.args.worker.now c.turn.new.self turns c.requires

pub serve-requires-clause-asked : goal.serve-requires-clause-asked
serve-requires-clause-asked c =
    let turns = subst (λ (n : ℕ). Turns n c.args.now c.in_ok-order.order c.args.worker.now c.turn.new.self) c.number.ensures c.in_ok-order.ensures in
    asked_so c.questions_are_behind_all_that_is_seen.ensures c.args.stored.now c.args.now c.in_ok-order.order c.args.worker.now c.turn.new.self turns c.requires

pub returns : goal.returns
returns c = turn_leads c.serve.result c.args.stored.now c.serve.new.stored c.args.worker.now c.turn.new.self c.serve.new.worker c.in_ok-order.ensures.session c.serve.ensures
