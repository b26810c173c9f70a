use Rattle.std.proofs.Common.{ℕ, ◌≤◌, length, take}
use Rattle.cf_forms.specs.Meanings.{meanings_of}
use Rattle.cf_explore.specs.Layers.{AreNumbered}
use Rattle.cf_explore.proofs.Spreading.{SpreadUpTo}
use Rattle.cf_explore.proofs.program.Program.spread.Given as goal

-- what the moves so far lead to, that the bound holds, and that numbers go on
abbrev pub invariant-loop-by : goal.invariant-loop-by
invariant-loop-by g l =
    SpreadUpTo (meanings_of g.F.StageFn.meaning l.functions) l.self l.entry l.initial.next.entries.items l.initial.trail.items l.next.entries.items l.trail.items (take l.by-index l.by-items)
    × (length l.initial.trail.items ≤ l.bound → length l.trail.items ≤ l.bound)
    × ((base : ℕ) → AreNumbered base l.initial.trail.items l.initial.next.entries.items → AreNumbered base l.trail.items l.next.entries.items)
