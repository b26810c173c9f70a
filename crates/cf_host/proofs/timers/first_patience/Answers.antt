use Rattle.std.proofs.Common.{arith}
use Rattle.cf_host.specs.Waking.{patience_of}
use Rattle.cf_host.proofs.Leasts.{least_begun, least_ended}
use Rattle.cf_host.proofs.timers.first_patience.Goals as goal

pub loop-ticket-init : goal.loop-ticket-init
loop-ticket-init c = record { is = least_begun patience_of c.args.waiting.now; low = omega arith }

pub returns : goal.returns
returns c = least_ended patience_of c.args.waiting.now c.loop-ticket.ticket-index c.loop-ticket.first (omega arith) c.loop-ticket.invariant.low c.loop-ticket.invariant.is
