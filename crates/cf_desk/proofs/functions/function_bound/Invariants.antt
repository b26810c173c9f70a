use Rattle.std.proofs.Common.{◌≡◌, ◌≤◌, max, drop}
use Rattle.cf_desk.specs.Functions.{function_bound}
use Rattle.cf_desk.proofs.functions.function_bound.Given as goal

abbrev pub invariant-stages : goal.invariant-stages
invariant-stages l = record {
  bound : max l.bound (function_bound (drop l.i l.plan.stages)) ≡ function_bound l.plan.stages;
  few : l.bound ≤ 65536;
}
