use Rattle.std.proofs.Common.{take}
use Rattle.cf_request.specs.Relays.{NoneFollowed}
use Rattle.cf_request.proofs.relays.none_followed.Given as goal

-- none so far is followed
abbrev pub invariant-loop-stage : goal.invariant-loop-stage
invariant-loop-stage l = NoneFollowed l.followed (take l.stage-index l.stages)
