use Rattle.std.proofs.Common.{refl}
use Rattle.cf_host.specs.Laws.IsCall.{closes}
use Rattle.cf_example.proofs.Led.{either_goes}
use Rattle.cf_example.proofs.Told.{closed_knows}
use Rattle.cf_example.proofs.processes.Worker.closes.Goals as goal

pub returns-then-is_answered : goal.returns-then-is_answered
returns-then-is_answered c =
    either_goes c.args.self.now _ c.closed.result _ refl refl c.closed.ensures.ok c.closed.ensures.err (λ e. closes c.args.ticket c.args.is_closed refl e)
    (λ e s k. closed_knows s.number s.plan s.row c.args.self.now.host c.args.is_closed c.args.ticket c.closed.new.self e k)
