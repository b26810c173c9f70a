use Rattle.std.proofs.Common.{arith}
use Rattle.cf_host.specs.declared.request.Request.{Request}
use Rattle.cf_host.specs.Waking.{moment_of}
use Rattle.cf_host.proofs.Leasts.{least_begun, least_ended}
use Rattle.cf_host.proofs.timers.first_moment.Goals as goal

pub loop-request-init : goal.loop-request-init
loop-request-init c = record { is = least_begun (λ (r : Request). moment_of c.args.clock r.work) c.args.requests.now; low = omega arith }

pub returns : goal.returns
returns c = least_ended (λ (r : Request). moment_of c.args.clock r.work) c.args.requests.now c.loop-request.request-index c.loop-request.first (omega arith) c.loop-request.invariant.low c.loop-request.invariant.is
