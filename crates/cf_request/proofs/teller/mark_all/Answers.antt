use Rattle.std.proofs.Common.{◌+◌, ◌<◌, ◌≤◌, ◌∙◌, ap, arith}
use Rattle.cf_model.specs.States.{is_ready}
use Rattle.cf_ledger.specs.Ledgers.{state_of}
use Rattle.cf_request.proofs.Sets.{Marks, marks_more}
use Rattle.cf_request.proofs.teller.mark_all.Goals as goal

pub loop-i-preserved : goal.loop-i-preserved
loop-i-preserved c =
    let stages = (state_of c.args.ledger.now).stages in
    let n = c.args.stages in
    let k = c.loop-i.i in
    let before : Marks (λ i. (k ≤ i) × (i < n)) stages c.args.sets.now c.loop-i.sets = record { rest = c.loop-i.invariant.rest; count = c.loop-i.invariant.count; same = c.loop-i.invariant.same } in
    let after = marks_more (λ i. (k ≤ i) × (i < n)) (λ i. (k + 1 ≤ i) × (i < n)) stages c.args.sets.now c.loop-i.sets c.write.new.self k c.is_ready.result before c.write.ensures.sets
    (omega (arith, c.requires.stages, c.requires.lanes)) (c.is_ready.ensures ∙ ap is_ready c.stage.ensures) c.write.ensures.written
    (λ j differs not left. let from = left.0 in let below = left.1 in not (omega (arith, differs, from), below)) in
    record { rest = after.rest; count = after.count; same = after.same }
