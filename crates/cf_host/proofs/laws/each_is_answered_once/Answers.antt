use Rattle.cf_host.proofs.Answered.{each_is_answered_once}
use Rattle.cf_host.proofs.laws.each_is_answered_once.Goals as goal

pub returns : goal.returns
returns c = each_is_answered_once
