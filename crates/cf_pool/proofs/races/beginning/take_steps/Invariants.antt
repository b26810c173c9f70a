use Rattle.std.proofs.Common.{◌≡◌}
use Rattle.cf_pool.specs.Beginnings.{HasTaken}
use Rattle.cf_pool.proofs.races.beginning.take_steps.Given as goal

abbrev pub invariant-loop-step : goal.invariant-loop-step
invariant-loop-step l = record {
  taken : HasTaken l.desk l.steps l.step-index l.pass;
  calls : l.pass.calls ≡ l.initial.pass.calls;
}
