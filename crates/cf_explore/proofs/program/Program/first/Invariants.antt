use Rattle.std.proofs.Common.{◌≡◌, All, false, take}
use Rattle.cf_explore.specs.declared.layer.Entry.{Entry}
use Rattle.cf_explore.specs.Conditions.{decides}
use Rattle.cf_explore.proofs.program.Program.first.Given as goal

-- none so far decides it
abbrev pub invariant-loop-entry : goal.invariant-loop-entry
invariant-loop-entry l = All (λ (e : Entry). decides l.self l.condition e.situation ≡ false) (take l.entry-index l.entries)
