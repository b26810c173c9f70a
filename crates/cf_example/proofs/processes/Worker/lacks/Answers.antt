use Rattle.std.proofs.Common.{refl}
use Rattle.cf_host.specs.Laws.IsCall.{lacks}
use Rattle.cf_example.proofs.Led.{either_goes}
use Rattle.cf_example.proofs.Told.{unknown_knows}
use Rattle.cf_example.proofs.processes.Worker.lacks.Goals as goal

pub returns : goal.returns
returns c =
    either_goes c.args.self.now _ c.unknown.result _ refl refl c.unknown.ensures.ok c.unknown.ensures.err (λ e. lacks c.args.now c.args.ticket refl e)
    (λ e s k. unknown_knows s.number s.plan s.row c.args.self.now.host c.args.now c.args.ticket c.unknown.new.self e k)
