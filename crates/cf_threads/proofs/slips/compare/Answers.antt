use Rattle.std.proofs.Common.{rules}
use Rattle.cf_threads.proofs.Tokens.{compares}
use Rattle.cf_threads.proofs.slips.compare.Goals as goal

pub load_as-requires : goal.load_as-requires
load_as-requires g c = (search rules, (search rules, (c.requires.own, compares _ _ c.requires.whole.0 c.requires.whole.1)))
