-- The word that finishes a stage of the session's own.
use Rattle.std.proofs.Common.{◌≡◌, ℕ, ◌<◌, ◌≤◌, List, Contains, length, ap, sym, subst, refl, arith}
use Rattle.std.specs.Prelude.{Option, Some}
use Rattle.cf_model.specs.declared.events.Event.{Event}
use Rattle.cf_model.specs.declared.events.Event.TheVariants.{Finish as FinishesAs}
use Rattle.cf_model.specs.States.{claim_at}
use Rattle.cf_event.specs.Words.{word_of}
use Rattle.cf_event.specs.Decoding.{event_of}
use Rattle.cf_event.proofs.WordLemmas.{event_of_is}
use Rattle.cf_ledger.specs.Ledgers.{Ledger, state_of as ledger_state}
use Rattle.cf_ledger.specs.declared.step.Held.{Held}
use Rattle.cf_row.specs.declared.grants.Claim.{Claim}
use Rattle.cf_row.specs.Rows.{Replica, ledger_of, state_of}
use Rattle.cf_row.specs.Grants.{granted_in}
use Rattle.cf_row.specs.Numbers.{FollowsRule}
use Rattle.cf_row.specs.Puts.{attached_by, pairs_of}
use Rattle.cf_row.specs.Next.{Finishes}

pub finishes : (l : Ledger) (r : Replica) (claims : List Claim) (held : Held) (session who n w : ℕ) → l ≡ ledger_of r → n ≡ length (ledger_state l).plan.stages → held.stage < n → FollowsRule (pairs_of r.seen) (r.session, who) →
    claims ≡ granted_in r.plan r.seen → session ≡ r.session → Contains claims (record { stage = held.stage; session = session }) → claim_at (ledger_state l) held.stage ≡ Some who →
    w ≡ word_of (FinishesAs who held.stage held.answer) → event_of w ≡ Some (FinishesAs who held.stage held.answer) → Finishes r held w
finishes l r claims held session who n w is count there rule are whose granted claimed word back =
    let stages = ap (λ (m : Ledger). length (ledger_state m).plan.stages) is in
    let c : Claim = record { stage = held.stage; session = r.session } in
    record {
      who = who;
      rule = rule;
      granted = subst (λ (l : List Claim). Contains l c) are (subst (λ (s : ℕ). Contains claims (record { stage = held.stage; session = s })) whose granted);
      claimed = subst (λ (m : Ledger). claim_at (ledger_state m) held.stage ≡ Some who) is claimed;
      is = word;
      fits = (
        record {
          event = FinishesAs who held.stage held.answer;
          read = back;
          named = sym word;
          is = (event_of_is w (FinishesAs who held.stage held.answer) back).0;
          mine = refl;
          fits = omega (arith, there, count, stages);
          left = subst (λ (o : Option Event). attached_by o ≤ (state_of r).plan.room) (sym back) (omega arith);
        },
        tt,
      );
    }
