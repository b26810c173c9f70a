use Rattle.std.proofs.Common.{◌≡◌, ◌≤◌}
use Rattle.cf_explore.specs.Conditions.{calls_among}
use Rattle.cf_explore.proofs.facts.calls_of.Given as goal

-- the calls so far, at most one of each stage
abbrev pub invariant-loop-i : goal.invariant-loop-i
invariant-loop-i l = record { so_far : l.calls ≡ calls_among l.s l.f l.i; few : l.calls ≤ l.i }
