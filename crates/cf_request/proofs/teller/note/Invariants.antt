use Rattle.std.proofs.Common.{◌≡◌, ◌+◌, ◌≤◌, ◌++◌, Contains, drop, length, take, vec_capacity}
use Rattle.std.specs.List.{filter}
use Rattle.cf_ledger.specs.Ledgers.{state_of}
use Rattle.cf_request.specs.Ready.{AreFitBut}
use Rattle.cf_request.specs.Telling.{is_settled_in}
use Rattle.cf_request.proofs.teller.note.Given as goal

-- those so far that are settled stand behind the others, there are places for the rest, and the rest of the news is left
abbrev pub invariant-loop-i : goal.invariant-loop-i
invariant-loop-i l = record {
  written : l.order.items ≡ l.initial.order.items ++ filter (is_settled_in (state_of l.ledger).stages) (take l.i-index l.news);
  room : length l.order.items + length (filter (is_settled_in (state_of l.ledger).stages) (drop l.i-index l.news)) ≤ vec_capacity l.order;
  places : vec_capacity l.order ≡ vec_capacity l.initial.order;
  rest : AreFitBut (Contains (drop l.i-index l.news)) (state_of l.ledger).stages l.sets;
  count : length l.sets.sets ≡ length l.initial.sets.sets;
  same : l.sets ≡ record l.initial.sets { sets = l.sets.sets };
}
