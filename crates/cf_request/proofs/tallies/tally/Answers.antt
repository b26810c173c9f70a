use Rattle.cf_ledger.specs.Ledgers.{state_of}
use Rattle.cf_request.specs.Telling.{order_in}
use Rattle.cf_request.proofs.Tallied.{led_places, less_places, tallied_set}
use Rattle.cf_request.proofs.tallies.tally.Goals as goal

pub mark_sources-requires-clause-led : goal.mark_sources-requires-clause-led
mark_sources-requires-clause-led c = led_places c.args.followed.now c.note-due.new.tallies.spares.items c.make_places.new.spares.items c.make_places.ensures c.note-due.ensures.led

pub returns-clause-tallied : goal.returns-clause-tallied
returns-clause-tallied c = λ follows marked was.
    let t = c.args.teller.now in
    let old = c.note-due.new.tallies.spares.items in
    let now = c.mark_sources.new.spares.items in
    let less = less_places c.args.followed.now old c.make_places.new.spares.items now c.make_places.ensures c.mark_sources.ensures.less in
    tallied_set (state_of t.ledger) (order_in t) follows c.args.followed.now c.mark_sources.new.followed old now c.note-due.new.tallies.noted c.args.join.now c.left_of-left.result c.note-due.ensures.once c.note-due.ensures.all marked less
    c.mark_sources.ensures.led c.mark_sources.ensures.spared c.left_of-left.ensures.left (c.note-due.ensures.tallied follows marked was)
