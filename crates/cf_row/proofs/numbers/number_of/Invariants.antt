use Rattle.std.proofs.Common.{All, take}
use Rattle.std.specs.Prelude.{◌≢◌}
use Rattle.cf_row.specs.declared.entry.Entry.{Entry}
use Rattle.cf_row.specs.Rows.{session_of}
use Rattle.cf_row.proofs.numbers.number_of.Given as goal

-- none so far is the session's
abbrev pub invariant-loop-entry : goal.invariant-loop-entry
invariant-loop-entry l = All (λ (x : Entry). session_of x.token ≢ l.session) (take l.entry-index l.seen)
