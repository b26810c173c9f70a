use Rattle.std.proofs.Common.{◌≡◌, ◌++◌, drop, map, take}
use Rattle.cf_host.specs.Requests.{missed}
use Rattle.cf_host.proofs.requests.miss_all.Given as goal

-- those so far are missed, or aren't
abbrev pub invariant-loop-request : goal.invariant-loop-request
invariant-loop-request l = l.requests ≡ map (missed l.lengths) (take l.request-index l.initial.requests) ++ drop l.request-index l.initial.requests
