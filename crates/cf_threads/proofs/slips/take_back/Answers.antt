use Rattle.std.proofs.Common.{rules}
use Rattle.cf_threads.proofs.Tokens.{joins}
use Rattle.cf_threads.proofs.slips.take_back.Goals as goal

pub join_pass-requires : goal.join_pass-requires
join_pass-requires c = (search rules, (search rules, ((c.requires.own, c.requires.slip.0, c.requires.slip.1), joins _ _ _ _)))
