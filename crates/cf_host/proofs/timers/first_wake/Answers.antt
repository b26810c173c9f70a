use Rattle.std.proofs.Common.{arith}
use Rattle.cf_host.specs.Waking.{wake_of}
use Rattle.cf_host.proofs.Leasts.{least_begun, least_ended}
use Rattle.cf_host.proofs.timers.first_wake.Goals as goal

pub loop-request-init : goal.loop-request-init
loop-request-init c = record { is = least_begun (wake_of c.args.now) c.args.requests.now; low = omega arith }

pub returns : goal.returns
returns c = least_ended (wake_of c.args.now) c.args.requests.now c.loop-request.request-index c.loop-request.first (omega arith) c.loop-request.invariant.low c.loop-request.invariant.is
