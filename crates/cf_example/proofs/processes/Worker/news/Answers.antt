use Rattle.std.proofs.Common.{refl}
use Rattle.cf_host.specs.Laws.IsCall.{news}
use Rattle.cf_example.proofs.Led.{either_goes}
use Rattle.cf_example.proofs.Told.{news_knows}
use Rattle.cf_example.proofs.processes.Worker.news.Goals as goal

pub returns-then-is_answered : goal.returns-then-is_answered
returns-then-is_answered c =
    either_goes c.args.self.now _ c.news.result _ refl refl c.news.ensures.ok c.news.ensures.err (λ e. news c.args.now c.args.ticket c.args.now _ refl e)
    (λ e s k. news_knows s.number s.plan s.row c.args.self.now.host c.args.now c.args.ticket c.args.now _ c.news.new.self e k)
