use Rattle.cf_example.proofs.OverCalls.{ok_so}
use Rattle.cf_example.proofs.keeping.gather_at_once.Goals as goal

pub returns : goal.returns
returns c =
    ok_so c.gather.result _ _ c.gather.ensures.done
    (λ root h. c.roots_have_it_at_once.ensures c.args.who c.args.how c.args.sources.now root c.args.machine.now c.gather.new.self h)
