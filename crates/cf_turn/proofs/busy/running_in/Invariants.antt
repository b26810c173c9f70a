use Rattle.std.proofs.Common.{◌≡◌, ◌+◌, ◌≤◌, drop}
use Rattle.cf_turn.specs.Busy.{running_in}
use Rattle.cf_turn.proofs.busy.running_in.Given as goal

-- those so far are counted
abbrev pub invariant-loop-call : goal.invariant-loop-call
invariant-loop-call l = record {
  is : running_in l.calls ≡ l.count + running_in (drop l.call-index l.calls);
  few : l.count ≤ l.call-index;
}
