use Rattle.std.proofs.Common.{arith, subst}
use Rattle.cf_model.specs.declared.events.Event.{Event}
use Rattle.cf_request.specs.Telling.{TellsEvent}
use Rattle.cf_request.proofs.Turns.{settle_ends}
use Rattle.cf_request.proofs.settling.settle.Goals as goal

pub apply_event-requires-clause-is : goal.apply_event-requires-clause-is
apply_event-requires-clause-is c = λ few. c.settle_event-event.ensures.event c.requires.caller (let there = c.requires.is_open.0 in omega (arith, there, few))

pub returns : goal.returns
returns c =
    let d = c.args.due.now in
    let old = c.args.teller.now in
    let new = c.apply_event.new.self in
    let reply = c.apply_event.result in
    let done = subst (λ (e : Event). TellsEvent e old reply new) c.settle_event-event.ensures.is c.apply_event.ensures in
    record { reply = reply; done = done; ends = settle_ends c.args.who d.stage d.outcome old new reply c.requires.is_open done }
