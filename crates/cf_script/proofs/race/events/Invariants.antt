use Rattle.std.proofs.Common.{◌≡◌, ◌++◌, drop}
use Rattle.cf_script.specs.Races.{events_of}
use Rattle.cf_script.proofs.race.events.Given as goal

abbrev pub invariant-steps : goal.invariant-steps
invariant-steps l = l.found.items ++ events_of (drop l.step-index l.steps) ≡ events_of l.steps
