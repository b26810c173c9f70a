use Rattle.cf_desk.proofs.WaitFree.{passes_are_wait_free}
use Rattle.cf_desk.proofs.laws.passes_are_wait_free.Goals as goal

pub returns : goal.returns
returns c = passes_are_wait_free
