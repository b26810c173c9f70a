use Rattle.cf_host.proofs.Values.{no_value_is_lost}
use Rattle.cf_host.proofs.laws.no_value_is_lost.Goals as goal

pub returns : goal.returns
returns c = no_value_is_lost c.works_are_calls_of_parts.ensures c.what_is_owed_is_kept.ensures
