use Rattle.std.proofs.Common.{◌≡◌, ◌<◌, ◌≤◌, length}
use Rattle.cf_ledger.specs.Ledgers.{state_of}
use Rattle.cf_request.specs.Ready.{AreFitBut}
use Rattle.cf_request.proofs.teller.mark_all.Given as goal

-- those from here on are left
abbrev pub invariant-loop-i : goal.invariant-loop-i
invariant-loop-i l = record {
  rest : AreFitBut (λ i. (l.i ≤ i) × (i < l.stages)) (state_of l.ledger).stages l.sets;
  count : length l.sets.sets ≡ length l.initial.sets.sets;
  same : l.sets ≡ record l.initial.sets { sets = l.sets.sets };
}
