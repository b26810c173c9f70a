use Rattle.std.proofs.Common.{length, sym, subst, ap, ◌∙◌}
use Rattle.cf_forms.specs.Plans.{PlannedStage, edges_of, with_stage}
use Rattle.cf_plan.specs.Faults.{stage_fault}
use Rattle.cf_script_reading.specs.Checks.{Fails, planned_unless, refusal_told}
use Rattle.cf_script_reading.proofs.Refusals.{refused}
use Rattle.cf_script_reading.proofs.refused.plan_stage.Goals as goal

pub returns-in-Err-clause-gives : goal.returns-in-Err-clause-gives
returns-in-Err-clause-gives c =
    let plan = c.args.plan.now.plan in
    let k = length plan.stages in
    let stage : PlannedStage = record { form = c.args.form; sources = c.args.of.now; function = c.args.function } in
    let cause = stage_fault k (edges_of plan.stages) stage in
    subst (λ fault. Fails fault (planned_unless cause k (with_stage plan stage))) (sym (c.told.ensures ∙ ap (refusal_told c.in-Err.e) c.stages-k.ensures.count))
    (refused c.stage.result cause k (with_stage plan stage) c.in-Err.e c.in-Err.is c.stage.ensures.refused c.stage.ensures.otherwise)
