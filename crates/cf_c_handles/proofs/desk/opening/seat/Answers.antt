use Rattle.std.proofs.Common.{refl}
use Rattle.std.specs.Arc.{arc_value}
use Rattle.cf_c_handles.proofs.Seats.{boxed_caller}
use Rattle.cf_c_handles.proofs.desk.opening.seat.Goals as goal

pub returns-in-Ok : goal.returns-in-Ok
returns-in-Ok c = boxed_caller (arc_value c.args.desk.now) c.args.pass _ c.box_of.result c.box_of.ensures c.in-Ok.ensures refl
