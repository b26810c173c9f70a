use Rattle.cf_explore_laws.proofs.Histories.{histories_are_orders}
use Rattle.cf_explore_laws.proofs.laws.histories_are_orders.Goals as goal

pub returns : goal.returns
returns c = histories_are_orders
