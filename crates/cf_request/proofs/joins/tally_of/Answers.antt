use Rattle.std.proofs.Common.{ℕ, suc, List, ap, arith, get_or}
use Rattle.cf_request.proofs.joins.tally_of.Goals as goal

pub outcome-outcome-requires : goal.outcome-outcome-requires
outcome-outcome-requires c =
    let k = c.loop-source.source-index in
    let there = c.requires.join.sources (suc k) 0 (omega arith) in
    let is = ap (λ (l : List ℕ). get_or l k 0) c.deref-source-items.ensures.value in
    record { there = omega (arith, there, is) }
