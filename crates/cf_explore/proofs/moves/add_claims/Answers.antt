use Rattle.std.proofs.Common.{add-one, append_assoc}
use Rattle.cf_explore.proofs.moves.add_claims.Goals as goal

pub loop-i-preserved : goal.loop-i-preserved
loop-i-preserved c = rw (c.in_ok-add_claim.ensures, c.loop-i.invariant, c.stage.ensures, add-one, append_assoc)
