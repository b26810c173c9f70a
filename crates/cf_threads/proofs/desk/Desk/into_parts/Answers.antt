use Rattle.std.proofs.Common.{subst}
use Rattle.cf_threads.specs.Desks.{IsQuiet}
use Rattle.cf_threads.proofs.desk.Desk.into_parts.Goals as goal

pub returns-clause-quiet : goal.returns-clause-quiet
returns-clause-quiet g c = subst (IsQuiet g.B.Room.place.lane) c.self.view_is c.self.invariant.2.quiet
