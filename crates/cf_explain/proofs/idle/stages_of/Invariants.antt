use Rattle.std.proofs.Common.{◌≡◌, length, map, take}
use Rattle.cf_explain.specs.Sights.{known_of}
use Rattle.cf_explain.proofs.idle.stages_of.Given as goal

abbrev pub invariant-loop-i : goal.invariant-loop-i
invariant-loop-i l = record { all : l.i-end ≡ length l.plan.stages; so_far : l.stages.items ≡ map known_of (take l.i l.plan.stages) }
