use Rattle.std.proofs.Common.{subst}
use Rattle.cf_ledger.specs.declared.step.Finish.{Finish}
use Rattle.cf_request.specs.Composing.{LinksFound}
use Rattle.cf_request.specs.Machines.{Machine}
use Rattle.cf_request.proofs.Composes.{calls_link, ok_so}
use Rattle.cf_request.proofs.machine.Machine.link.Goals as goal

pub returns-clause-calls : goal.returns-clause-calls
returns-clause-calls c =
    let between = c.find_two.new.self in
    let new = c.link_found.new.self in
    ok_so c.link_found.result (λ (f : Finish). LinksFound c.args.who c.args.composed c.args.stage between f new) _ c.link_found.ensures.done
    (λ f h. calls_link c.args.who c.args.composed c.args.stage c.args.self.now f new (record {
      found = between.teller;
      finds = c.in_ok-find_two.ensures.finds;
      linked = subst (λ (m : Machine). LinksFound c.args.who c.args.composed c.args.stage m f new) c.in_ok-find_two.ensures.same h;
    }))
