use Rattle.std.proofs.Common.{◌≡◌, ◌≤◌, ◌-◌, false, List, length, take}
use Rattle.cf_ledger.specs.Ledgers.{state_of}
use Rattle.cf_request.specs.Relays.{AreMarked}
use Rattle.cf_request.specs.Tallies.{AreLed, AreTalliedBy, HaveLeft, TalliesFit}
use Rattle.cf_request.specs.Telling.{order_in}
use Rattle.cf_request.specs.declared.joins.Join.{Join}
use Rattle.cf_request.proofs.tallies.note.Given as goal

-- those before the place are noted
abbrev pub invariant-loop-place : goal.invariant-loop-place
invariant-loop-place l = record {
  within : l.place ≤ length (order_in l.teller);
  since : l.initial.tallies.noted ≤ l.place;
  led : AreLed l.followed l.tallies.spares.items;
  tallied : (follows : List Join) → AreMarked l.followed follows → TalliesFit follows l.followed l.initial.tallies l.teller →
      AreTalliedBy l.tallies.spares.items follows (state_of l.teller.ledger).stages (take l.place (order_in l.teller));
  left : l.is_due ≡ false → HaveLeft l.followed l.tallies.spares.items (order_in l.teller) l.initial.tallies.noted l.place;
}

abbrev pub decreases-loop-place : goal.decreases-loop-place
decreases-loop-place l = length (order_in l.teller) - l.place
