use Rattle.cf_desk.proofs.TimeLemmas.{calls_come_after_what_was_seen}
use Rattle.cf_desk.proofs.laws.calls_come_after_what_was_seen.Goals as goal

pub returns : goal.returns
returns c = calls_come_after_what_was_seen
