use Rattle.std.proofs.Common.{refl}
use Rattle.cf_host.proofs.Ordering.{turns_ready}
use Rattle.cf_host.proofs.host.Host.turn.Goals as goal

pub returns-clause-orders : goal.returns-clause-orders
returns-clause-orders c =
    turns_ready c.args.self.now _ _ c.next.new.self c.reserve.new.self c.args.now c.next.result c.self.view_is c.in_ok-reserve.ensures.found refl c.next.ensures
