use Rattle.std.proofs.Common.{ap, refl}
use Rattle.cf_host.specs.Hosts.{Host}
use Rattle.cf_host.specs.Laws.IsCall.{beats}
use Rattle.cf_example.proofs.Led.{either_goes}
use Rattle.cf_example.proofs.Told.{beats_know}
use Rattle.cf_example.proofs.processes.Worker.beats.Goals as goal

pub returns-then-is_answered : goal.returns-then-is_answered
returns-then-is_answered c =
    either_goes c.args.self.now _ c.beats.result _ refl refl c.beats.ensures.ok c.beats.ensures.err (λ e. beats c.args.now c.args.ticket c.args.now _ refl e)
    (λ e s k. beats_know s.number s.plan s.row c.args.self.now.host c.beats.new.self (ap (λ (h : Host). h.requests) e.rest) k)
