use Rattle.std.proofs.Common.{◌<◌, All, take}
use Rattle.cf_request.proofs.joins.are_all_there.Given as goal

-- those so far are there
abbrev pub invariant-loop-source : goal.invariant-loop-source
invariant-loop-source l = All (λ i. i < l.stages) (take l.source-index l.join.others.items)
