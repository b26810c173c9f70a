use Rattle.std.proofs.Common.{refl}
use Rattle.cf_host.specs.Laws.IsCall.{finishes}
use Rattle.cf_example.proofs.Led.{either_goes}
use Rattle.cf_example.proofs.Told.{ended_knows}
use Rattle.cf_example.proofs.processes.Worker.ends.Goals as goal

pub returns : goal.returns
returns c =
    either_goes c.args.self.now _ c.ended.result _ refl refl c.ended.ensures.ok c.ended.ensures.err (λ e. finishes c.args.ticket c.args.answer refl e)
    (λ e s k. ended_knows s.number s.plan s.row c.args.self.now.host c.args.answer c.args.ticket c.ended.new.self e k)
