use Rattle.std.proofs.Common.{◌≡◌, All, None, take}
use Rattle.cf_event.specs.declared.record.Record.{Record}
use Rattle.cf_part.specs.Steps.{grant_of}
use Rattle.cf_part.proofs.finding.args_of.Given as goal

-- none so far is of such a claim
abbrev pub invariant-loop-record : goal.invariant-loop-record
invariant-loop-record l = All (λ (r : Record). grant_of l.stage r ≡ None) (take l.record-index l.records)
