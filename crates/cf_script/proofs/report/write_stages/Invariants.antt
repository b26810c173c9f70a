use Rattle.std.proofs.Common.{◌≡◌, ◌++◌, drop, string_bytes}
use Rattle.cf_model.specs.States.{outcome_at}
use Rattle.cf_script.specs.Reports.{stage_lines}
use Rattle.cf_script.proofs.report.write_stages.Given as goal

abbrev pub invariant-stages : goal.invariant-stages
invariant-stages l = record {
  unchanged : l.graph.state ≡ l.initial.graph.state;
  lines : string_bytes l.text ++ stage_lines (outcome_at l.graph.state) l.i (drop l.i l.graph.state.plan.stages) ≡ string_bytes l.initial.text ++ stage_lines (outcome_at l.initial.graph.state) 0 l.initial.graph.state.plan.stages;
}
