use Rattle.std.proofs.Common.{All, take}
use Rattle.std.specs.Prelude.{◌≢◌}
use Rattle.cf_row.specs.declared.grants.Claim.{Claim}
use Rattle.cf_row.proofs.grants.whose.Given as goal

-- none so far is of the stage
abbrev pub invariant-loop-claim : goal.invariant-loop-claim
invariant-loop-claim l = All (λ (c : Claim). c.stage ≢ l.stage) (take l.claim-index l.claims)
