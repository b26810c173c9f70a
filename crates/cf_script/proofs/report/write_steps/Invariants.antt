use Rattle.std.proofs.Common.{◌≡◌, ◌++◌, drop, string_bytes}
use Rattle.cf_script_reading.specs.Scripts.{StepsFit, extent_of}
use Rattle.cf_script.specs.Reports.{steps_lines, after_steps}
use Rattle.cf_script.proofs.report.write_steps.Given as goal

abbrev pub invariant-steps : goal.invariant-steps
invariant-steps l = record {
  fit : StepsFit (extent_of l.graph.state.plan) (drop l.step-index l.steps);
  lines : string_bytes l.text ++ steps_lines l.functions l.graph.state (drop l.step-index l.steps) ≡ string_bytes l.initial.text ++ steps_lines l.functions l.initial.graph.state l.steps;
  state : after_steps l.functions l.graph.state (drop l.step-index l.steps) ≡ after_steps l.functions l.initial.graph.state l.steps;
}
