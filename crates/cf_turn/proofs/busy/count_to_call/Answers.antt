use Rattle.std.proofs.Common.{◌∙◌, arith, sym}
use Rattle.cf_turn.specs.Busy.Counts.{none}
use Rattle.cf_turn.proofs.Counted.{counts_end, counts_one, counts_other}
use Rattle.cf_turn.proofs.busy.count_to_call.Goals.{then-is_new, else-is_new}
use Rattle.cf_turn.proofs.busy.count_to_call.Goals as goal

pub loop-stage-init : goal.loop-stage-init
loop-stage-init c = record { counts = none; few = omega arith; low = omega arith }

pub loop-stage-preserved : goal.loop-stage-preserved
loop-stage-preserved c =
    let calls = c.args.calls.now in
    let view = c.args.view.now in
    let session = c.session-session.result in
    let from = c.loop-stage.from in
    let stage = c.in-Some.stage in
    let so_far = c.loop-stage.invariant in
    let few = so_far.few in
    let held = c.in-Some.ensures in
    let there = held.there in
    let above = held.above in
    elim c.if-is_new.branch [
      | then-is_new w ↦ rw w.count-is (record {
        counts = counts_one calls view session from stage c.loop-stage.count c.session-session.ensures above held.held held.first there (sym c.is_new.ensures ∙ w.if-is_new.true) so_far.counts;
        few = omega (arith, few, above);
        low = omega (arith, there);
      })
      | else-is_new w ↦ rw w.count-is (record {
        counts = counts_other calls view session from stage c.loop-stage.count c.session-session.ensures above held.first (sym c.is_new.ensures ∙ w.if-is_new.false) so_far.counts;
        few = omega (arith, few, above);
        low = omega (arith, there);
      })
    ]

pub returns-clause-counts : goal.returns-clause-counts
returns-clause-counts c = counts_end c.args.calls.now c.args.view.now c.session-session.result c.loop-stage.from c.loop-stage.count c.session-session.ensures c.loop-stage.invariant.low c.in_default.ensures.none c.loop-stage.invariant.counts
