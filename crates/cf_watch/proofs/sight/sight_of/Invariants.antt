use Rattle.std.proofs.Common.{◌≡◌, drop}
use Rattle.cf_watch.specs.Watches.{sight_of}
use Rattle.cf_watch.proofs.sight.sight_of.Given as goal

-- what is to be found is found behind those so far
abbrev pub invariant-loop-one : goal.invariant-loop-one
invariant-loop-one l = sight_of l.session l.known ≡ sight_of l.session (drop l.one-index l.known)
