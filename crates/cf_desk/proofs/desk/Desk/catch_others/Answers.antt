use Rattle.std.proofs.Common.{refl}
use Rattle.cf_desk.proofs.Passes.{follows_itself}
use Rattle.cf_desk.proofs.desk.Desk.catch_others.Goals as goal

pub next-init : goal.next-init
next-init c = (follows_itself _, refl)
