use Rattle.cf_model.proofs.Shape.{state_after-grows}
use Rattle.cf_model.proofs.laws.events_grow_plans.Goals as goal

pub returns : goal.returns
returns c = state_after-grows
