use Rattle.cf_host.specs.Lost.{NoneLost}
use Rattle.cf_host.proofs.lost.has_lost.Given as goal

-- none is so far
abbrev pub invariant-loop-place : goal.invariant-loop-place
invariant-loop-place l = NoneLost l.view l.place l.entries
