use Rattle.std.proofs.Common.{◌≡◌, ◌≤◌, length, vec_capacity}
use Rattle.cf_ledger.specs.Ledgers.{state_of}
use Rattle.cf_request.specs.Telling.{AreSettledBelow}
use Rattle.cf_request.proofs.teller.note_all.Given as goal

-- those so far that are settled are written
abbrev pub invariant-loop-i : goal.invariant-loop-i
invariant-loop-i l = record {
  written : AreSettledBelow l.i (state_of l.ledger).stages l.order.items;
  count : length l.order.items ≤ l.i;
  places : vec_capacity l.order ≡ vec_capacity l.initial.order;
}
