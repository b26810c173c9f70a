use Rattle.std.proofs.Common.{◌≡◌, take}
use Rattle.cf_reference.proofs.plan.copied_stages.Given as goal

-- the stages so far
abbrev pub invariant-loop-i : goal.invariant-loop-i
invariant-loop-i l = l.copies.items ≡ take l.i l.stages
