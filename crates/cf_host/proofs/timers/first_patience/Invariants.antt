use Rattle.std.proofs.Common.{◌≡◌, ◌≤◌, drop}
use Rattle.std.specs.Prelude.{min}
use Rattle.cf_turn.specs.Timers.{never}
use Rattle.cf_host.specs.Waking.{first_patience}
use Rattle.cf_host.proofs.timers.first_patience.Given as goal

-- the least of all is that so far, or comes behind
abbrev pub invariant-loop-ticket : goal.invariant-loop-ticket
invariant-loop-ticket l = record {
  is : first_patience l.waiting ≡ min l.first (first_patience (drop l.ticket-index l.waiting));
  low : l.first ≤ never;
}
