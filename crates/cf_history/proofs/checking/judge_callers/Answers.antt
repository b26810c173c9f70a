use Rattle.std.proofs.Common.{arith, refl}
use Rattle.std.proofs.lemmas.Option.{slice_get_read}
use Rattle.cf_forms.specs.Plans.{with_room}
use Rattle.cf_model.specs.States.{start}
use Rattle.cf_history.specs.Callers.{IsJudged}
use Rattle.cf_history.specs.Verdicts.{ComesTo}
use Rattle.cf_history.proofs.Whole.{all_more}
use Rattle.cf_history.proofs.checking.judge_callers.Goals as goal
use Rattle.cf_history.proofs.checking.judge_callers.Goals.{In_ok-judged}

comes : (c : In_ok-judged) → ComesTo (start (with_room c.args.plan.now c.args.room)) c.args.events.now c.args.callers.now c.loop-caller.caller c.index-callers-caller.result
comes c = record { before = c.loop-caller.invariant; is = slice_get_read _ _ c.loop-caller.caller c.index-callers-caller.result refl (omega arith) c.index-callers-caller.is }

judged : (c : In_ok-judged) → IsJudged c.loop-caller.caller (start (with_room c.args.plan.now c.args.room)) c.args.events.now c.index-callers-caller.result.records.items c.in_ok-judged.judged
judged c = rw c.deref.ensures.value at c.in_ok-judged.ensures

pub returns-in-Record : goal.returns-in-Record
returns-in-Record c =
    let at = (goal.at.returns-in-Record c).In_ok-judged in
    (c.index-callers-caller.result, comes at, rw c.in-Record.is at (judged at))

pub returns-in-Missing : goal.returns-in-Missing
returns-in-Missing c =
    let at = (goal.at.returns-in-Missing c).In_ok-judged in
    (c.index-callers-caller.result, comes at, rw c.in-Missing.is at (judged at))

pub loop-caller-preserved : goal.loop-caller-preserved
loop-caller-preserved c =
    let at = (goal.at.loop-caller-preserved c).In_ok-judged in
    all_more _ _ c.loop-caller.caller _ c.index-callers-caller.result (comes at).is c.loop-caller.invariant (rw c.in-Fits.is at (judged at))
