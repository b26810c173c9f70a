use Rattle.cf_host.specs.Hosts.{NoneToOpen}
use Rattle.cf_host.proofs.turning.next_to_open.Given as goal

-- none so far is to be opened
abbrev pub invariant-loop-place : goal.invariant-loop-place
invariant-loop-place l = NoneToOpen l.now l.place l.requests
