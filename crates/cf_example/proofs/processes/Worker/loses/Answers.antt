use Rattle.std.proofs.Common.{refl}
use Rattle.cf_host.specs.Laws.IsCall.{loses}
use Rattle.cf_example.proofs.Led.{either_goes}
use Rattle.cf_example.proofs.Told.{dropped_knows}
use Rattle.cf_example.proofs.processes.Worker.loses.Goals as goal

pub returns : goal.returns
returns c =
    either_goes c.args.self.now _ c.dropped.result _ refl refl c.dropped.ensures.ok c.dropped.ensures.err (λ e. loses c.args.ticket refl e)
    (λ e s k. dropped_knows s.number s.plan s.row c.args.self.now.host c.args.ticket c.dropped.new.self e k)
