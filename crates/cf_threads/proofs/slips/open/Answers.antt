use Rattle.std.proofs.Common.{rules}
use Rattle.cf_threads.proofs.Tokens.{begins}
use Rattle.cf_threads.proofs.slips.open.Goals as goal

pub ruled-requires : goal.ruled-requires
ruled-requires c = (search rules, (search rules, begins _))
