use Rattle.std.proofs.Common.{◌≡◌, ◌≤◌, drop}
use Rattle.std.specs.Prelude.{min}
use Rattle.cf_turn.specs.Timers.{never}
use Rattle.cf_host.specs.Waking.{first_wake}
use Rattle.cf_host.proofs.timers.first_wake.Given as goal

-- the least of all is that so far, or comes behind
abbrev pub invariant-loop-request : goal.invariant-loop-request
invariant-loop-request l = record {
  is : first_wake l.now l.requests ≡ min l.first (first_wake l.now (drop l.request-index l.requests));
  low : l.first ≤ never;
}
