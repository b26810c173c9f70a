use Rattle.std.proofs.Common.{◌∙◌, ap, rules}
use Rattle.cf_script_reading.specs.Stages.{number_after, stage_next}
use Rattle.cf_script_reading.proofs.Drafts.{numbered_after, on_ok_then}
use Rattle.cf_script_reading.proofs.stages.add_stage.Goals as goal

pub returns-clause-numbered : goal.returns-clause-numbered
returns-clause-numbered c = on_ok_then c.keep.result
    (numbered_after c.args.draft.now.functions.items _ c.in-Some-function.function c.in-Some.form c.as_slice-2.result.now c.number_after-number.result c.args.draft.now.plan.plan c.plan_stage.new.plan.plan
    (c.number_after-number.ensures ∙ ap (λ functions. number_after functions c.in-Some-function.function) c.as_slice.ensures.value) c.in_ok-plan_stage.ensures.ok)
    c.keep.ensures.ok

pub returns-in_err-of-clause-gives : goal.returns-in_err-of-clause-gives
unfolding stage_next
returns-in_err-of-clause-gives c = search rules

pub returns-in_err-plan_stage-clause-gives : goal.returns-in_err-plan_stage-clause-gives
unfolding stage_next
returns-in_err-plan_stage-clause-gives c = search rules

pub returns-clause-gives : goal.returns-clause-gives
unfolding stage_next
returns-clause-gives c = search rules
