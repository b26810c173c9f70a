use Rattle.cf_host.specs.Requests.{NoneAt}
use Rattle.cf_host.proofs.requests.place_of.Given as goal

-- none so far has the number
abbrev pub invariant-loop-place : goal.invariant-loop-place
invariant-loop-place l = NoneAt l.number l.place l.requests
