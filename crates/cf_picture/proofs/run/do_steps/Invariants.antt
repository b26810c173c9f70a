use Rattle.std.proofs.Common.{◌≡◌, drop}
use Rattle.cf_script_reading.specs.Scripts.{StepsFit, extent_of}
use Rattle.cf_script.specs.Reports.{after_steps}
use Rattle.cf_picture.proofs.run.do_steps.Given as goal

abbrev pub invariant-steps : goal.invariant-steps
invariant-steps l = record {
  fit : StepsFit (extent_of l.graph.state.plan) (drop l.step-index l.steps);
  state : after_steps l.functions l.graph.state (drop l.step-index l.steps) ≡ after_steps l.functions l.initial.graph.state l.steps;
}
