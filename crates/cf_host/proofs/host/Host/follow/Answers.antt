use Rattle.std.proofs.Common.{refl}
use Rattle.cf_host.proofs.Placed.{follows_in}
use Rattle.cf_host.proofs.host.Host.follow.Goals as goal

pub returns-clause-ok : goal.returns-clause-ok
returns-clause-ok c = follows_in c.args.request c.args.self.now _ _ c.self.view_is c.in_ok-follow.ensures.ok refl
