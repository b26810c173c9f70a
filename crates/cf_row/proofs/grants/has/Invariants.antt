use Rattle.std.proofs.Common.{All, take}
use Rattle.std.specs.Prelude.{◌≢◌}
use Rattle.cf_row.specs.declared.grants.Claim.{Claim}
use Rattle.cf_row.proofs.grants.has.Given as goal

-- none so far is the one
abbrev pub invariant-loop-claim : goal.invariant-loop-claim
invariant-loop-claim l = All (λ (c : Claim). c ≢ l.wanted) (take l.claim-index l.claims)
