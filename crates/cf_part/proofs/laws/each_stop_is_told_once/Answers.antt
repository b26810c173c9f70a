use Rattle.cf_part.proofs.Rows.{stops_once}
use Rattle.cf_part.proofs.laws.each_stop_is_told_once.Goals as goal

pub returns : goal.returns
returns c = stops_once
