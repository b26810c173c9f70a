use Rattle.cf_turn.specs.Closing.{AllSettled}
use Rattle.cf_turn.proofs.closing.all_settled.Given as goal

-- all so far are
abbrev pub invariant-loop-stage : goal.invariant-loop-stage
invariant-loop-stage l = AllSettled l.view l.stage
