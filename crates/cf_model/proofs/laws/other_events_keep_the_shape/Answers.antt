use Rattle.cf_model.proofs.Shape.{state_after-shape}
use Rattle.cf_model.proofs.laws.other_events_keep_the_shape.Goals as goal

pub returns : goal.returns
returns c = state_after-shape
