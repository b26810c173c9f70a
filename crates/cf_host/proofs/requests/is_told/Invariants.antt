use Rattle.std.proofs.Common.{◌≡◌, drop}
use Rattle.cf_host.specs.Requests.{is_told}
use Rattle.cf_host.proofs.requests.is_told.Given as goal

-- what is to be found is found behind those so far
abbrev pub invariant-loop-told : goal.invariant-loop-told
invariant-loop-told l = is_told l.lengths l.number ≡ is_told (drop l.told-index l.lengths) l.number
