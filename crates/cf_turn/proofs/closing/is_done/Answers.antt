use Rattle.std.proofs.Common.{sym, subst}
use Rattle.std.specs.Bool.{OnFalse, OnTrue}
use Rattle.cf_row.specs.Rows.{Replica, stages_of}
use Rattle.cf_turn.specs.Closing.{AllSettled, NobodyAtWork}
use Rattle.cf_turn.proofs.Idle.{done_by, undone_by}
use Rattle.cf_turn.proofs.closing.is_done.Goals as goal

pub returns-clause-done : goal.returns-clause-done
returns-clause-done c =
    let w = c.args.watch.now in
    done_by c.args.part.now w c.nobody_at_work.result (sym c.if-not-is_flow.ensures)
    (subst (λ (r : Replica). AllSettled r (stages_of r)) c.view-view.ensures c.if-not-all_settled.ensures.settled)
    (subst (λ (r : Replica). OnTrue c.nobody_at_work.result (NobodyAtWork r w (stages_of r))) c.view-view.ensures c.nobody_at_work.ensures.nobody)

pub returns-clause-open : goal.returns-clause-open
returns-clause-open c =
    let w = c.args.watch.now in
    undone_by c.args.part.now w c.nobody_at_work.result
    (subst (λ (r : Replica). OnFalse c.nobody_at_work.result (¬ NobodyAtWork r w (stages_of r))) c.view-view.ensures c.nobody_at_work.ensures.one)
