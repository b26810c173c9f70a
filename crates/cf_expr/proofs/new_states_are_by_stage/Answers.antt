use Rattle.cf_expr.proofs.Stagewise.{new_states_by_stage}
use Rattle.cf_expr.proofs.new_states_are_by_stage.Goals as goal

pub returns : goal.returns
returns c = new_states_by_stage
