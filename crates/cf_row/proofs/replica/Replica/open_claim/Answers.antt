use Rattle.std.proofs.Common.{List, All, subst}
use Rattle.std.specs.Prelude.{◌≢◌, None}
use Rattle.cf_model.specs.declared.events.Event.{Event}
use Rattle.cf_model.specs.States.{claim_at, start}
use Rattle.cf_model.specs.Events.{state_after}
use Rattle.cf_row.specs.declared.grants.Claim.{Claim}
use Rattle.cf_row.proofs.Granted.{open_is_kept}
use Rattle.cf_row.proofs.replica.Replica.open_claim.Goals as goal

pub unreachable-requires : goal.unreachable-requires
unreachable-requires c =
    let r = c.self.inside in
    let kept = c.self.invariant.kept in
    let i = c.in_ok-stage.stage in
    open_is_kept r.ledger.plan r.seen.items r.claims.items i c.self.invariant.claims.are kept.named
    (subst (λ (es : List Event). claim_at (state_after (start r.ledger.plan) es) i ≢ None) kept.events c.in_ok-stage.ensures.claimed)
    (subst (λ (l : List Claim). All (λ (x : Claim). x.stage ≢ i) l) c.deref.ensures.value c.in_default.ensures.none)
