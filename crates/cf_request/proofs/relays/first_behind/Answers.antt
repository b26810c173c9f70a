use Rattle.std.proofs.Common.{◌-◌, ◌∙◌, ap, arith, drop, length, length-drop, take}
use Rattle.std.proofs.lemmas.List.{take_all}
use Rattle.cf_ledger.specs.Ledgers.{state_of}
use Rattle.cf_request.proofs.Behind.{none_behind}
use Rattle.cf_request.proofs.relays.first_behind.Goals as goal

pub returns-then-none_followed-clause-none : goal.returns-then-none_followed-clause-none
returns-then-none_followed-clause-none c =
    none_behind c.args.seen c.args.teller.now.told (take (length c.told.result.now - c.args.seen) (drop c.args.seen c.told.result.now)) c.args.relays.now.followed c.args.relays.now.follows.items (state_of c.args.teller.now.ledger).stages (take_all (length c.told.result.now - c.args.seen) (drop c.args.seen c.told.result.now) (let size = length-drop c.args.seen c.told.result.now in omega (arith, size)) ∙ ap (drop c.args.seen) c.told.ensures.told) c.requires.marked c.requires.seen (c.none_followed.ensures c.if-none_followed.true)
