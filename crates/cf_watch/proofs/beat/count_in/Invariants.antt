use Rattle.std.proofs.Common.{◌≡◌, drop}
use Rattle.cf_watch.specs.Calls.{count_in}
use Rattle.cf_watch.proofs.beat.count_in.Given as goal

-- what is to be found is found behind those so far
abbrev pub invariant-loop-beat : goal.invariant-loop-beat
invariant-loop-beat l = count_in l.session l.beats ≡ count_in l.session (drop l.beat-index l.beats)
