use Rattle.std.proofs.Common.{Some, refl}
use Rattle.cf_host.specs.Laws.IsCall.{wants}
use Rattle.cf_example.proofs.Led.{either_goes}
use Rattle.cf_example.proofs.Told.{wants_know}
use Rattle.cf_example.proofs.processes.Worker.wants.Goals as goal

pub returns : goal.returns
returns c =
    either_goes c.args.self.now _ c.wants.result _ refl refl c.wants.ensures.ok c.wants.ensures.err (λ e. wants c.args.request c.args.stage (Some 0) refl e)
    (λ e s k. wants_know s.number s.plan s.row c.args.stage (Some 0) c.args.request c.args.self.now.host c.wants.new.self e k)
