use Rattle.std.proofs.Common.{◌≡◌, ◌++◌, [], drop, length}
use Rattle.cf_model.specs.States.{new_states}
use Rattle.cf_reference.proofs.stages.new_stages.Given as goal

-- the new states so far, and those that then follow, are all new states
abbrev pub invariant-loop-i : goal.invariant-loop-i
invariant-loop-i l = record {
  states : l.new.items ++ new_states l.new.items (drop l.i l.plan.stages) (drop l.i l.stages) ≡ new_states [] l.plan.stages l.stages;
  so_many : length l.new.items ≡ l.i;
}
