use Rattle.std.proofs.Common.{◌≤◌, length, take}
use Rattle.cf_forms.specs.Meanings.{meanings_of}
use Rattle.cf_explore.specs.Layers.{AreNumbered}
use Rattle.cf_explore.proofs.Spreading.{NextUpTo}
use Rattle.cf_explore.proofs.program.Program.next_layer.Given as goal

-- what the entries so far lead to, that the bound holds, and that numbers go on with those before
abbrev pub invariant-loop-entry : goal.invariant-loop-entry
invariant-loop-entry g l =
    NextUpTo (meanings_of g.F.StageFn.meaning l.functions) l.self (take l.entry-index l.entries) l.initial.trail.items l.next.entries.items l.trail.items
    × (length l.initial.trail.items ≤ l.bound → length l.trail.items ≤ l.bound)
    × AreNumbered (length l.initial.trail.items) l.trail.items l.next.entries.items
