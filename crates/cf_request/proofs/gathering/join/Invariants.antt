use Rattle.std.proofs.Common.{◌≡◌, ◌+◌, ◌≤◌, drop, length}
use Rattle.cf_ledger.specs.Ledgers.{stages_of, state_of}
use Rattle.cf_request.specs.Attaching.{TellsAttaches}
use Rattle.cf_request.specs.Gathering.{joins}
use Rattle.cf_request.specs.Telling.{Teller}
use Rattle.cf_request.proofs.gathering.join.Given as goal

-- what the rest leads to from here, all lead to from the start; there are stages, room and memory for the rest
abbrev pub invariant-loop-source : goal.invariant-loop-source
invariant-loop-source l = record {
  onward : (end : Teller) → TellsAttaches 0 (joins l.who l.how (stages_of l.teller.ledger) l.root (drop l.source-index l.sources)) l.teller end →
      TellsAttaches 0 (joins l.who l.how (stages_of l.initial.teller.ledger) l.before l.sources) l.initial.teller end;
  root : l.root + 1 ≡ stages_of l.teller.ledger;
  there : stages_of l.initial.teller.ledger ≤ stages_of l.teller.ledger;
  room : length l.sources ≤ (state_of l.teller.ledger).plan.room + l.source-index;
  memory : length l.sources ≤ l.teller.ledger.free + l.source-index;
}
