use Rattle.cf_core.proofs.Keeping.Marks.{steady_by_stage}
use Rattle.cf_core.proofs.propagation.waiting_stages_are_steady.Goals as goal

pub returns : goal.returns
returns c = steady_by_stage
