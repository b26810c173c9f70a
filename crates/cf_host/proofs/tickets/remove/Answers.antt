use Rattle.std.proofs.Common.{rules}
use Rattle.std.proofs.lemmas.Fn.{filter_same}
use Rattle.cf_host.proofs.tickets.remove.Goals as goal

pub returns-clause-is : goal.returns-clause-is
returns-clause-is c = filter_same _ _ _ (λ x b f' k. search rules) _ _ c.retain.ensures.filtered
