use Rattle.cf_turn.proofs.PartCalls.{works_are_parts}
use Rattle.cf_turn.proofs.laws.works_are_calls_of_parts.Goals as goal

pub returns : goal.returns
returns c = works_are_parts
