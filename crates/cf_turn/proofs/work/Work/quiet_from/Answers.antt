use Rattle.std.proofs.Common.{rules, ◌≡◌, true, false, Some, length, refl, subst, sym}
use Rattle.cf_row.specs.Rows.{stages_of}
use Rattle.cf_part.specs.Parts.{MayPlan}
use Rattle.cf_turn.specs.Quiets.{ActsWait, EndsWait, IsAfter, IsAtRest, IsQuiet, IsTillShown, OnlyOwn}
use Rattle.cf_turn.specs.Turns.{moment_of}
use Rattle.cf_turn.specs.Works.{Work, work_of}
use Rattle.cf_turn.specs.declared.quiet.Quiet.{Quiet}
use Rattle.cf_turn.proofs.Quiets.{cannot_where, own_where, quiet_is}
use Rattle.cf_turn.proofs.work.Work.quiet_from.Goals.{else-may_plan-via-then-may_plan+else-not-only_own, else-may_plan-via-else-may_plan}
use Rattle.cf_turn.proofs.work.Work.quiet_from.Goals as goal

pub returns : goal.returns
returns c =
    let i = c.self.inside in
    let v : Work = work_of i.part i.users i.is_acting i.is_doubtful i.closed_at in
    let now = c.args.now in
    let at = moment_of now c.args.watch.now c.args.clock c.args.may_claim in
    let until = c.till.result in
    let q : Quiet = record { until = until; clock = c.first_timer.result; claims = c.args.may_claim; busy = c.busy_in.result } in
    let r = i.part.row.replica in
    let own : MayPlan i.part now → OnlyOwn r (stages_of r) = elim c.else-may_plan.branch [
      | else-may_plan-via-then-may_plan+else-not-only_own w ↦
          let yes : w.only_own.result ≡ true = search rules in
          λ may. own_where w.view.result.now r w.only_own.result w.view.ensures yes w.only_own.ensures
      | else-may_plan-via-else-may_plan w ↦
          let none : c.may_plan.result ≡ false = search rules in
          λ may. absurd (cannot_where i.part now c.may_plan.result none c.may_plan.ensures.none may)
    ] in
    subst (λ (w : Work). IsQuiet w q) c.self.view_is (quiet_is v at q
    (subst (λ (w : Work). IsAtRest w at) (sym c.self.view_is) c.requires)
    own
    (subst (λ (w : Work). ActsWait w.wishes until (length w.wishes)) (sym c.self.view_is) c.till.ensures.acts)
    (subst (λ (w : Work). EndsWait w.ends until (length w.ends)) (sym c.self.view_is) c.till.ensures.ends)
    (subst (λ (w : Work). IsTillShown w.part.wanted now until (length w.part.wanted)) (sym c.self.view_is) c.till.ensures.shown)
    (subst (λ (w : Work). IsAfter (Some w.part.retry) now until) (sym c.self.view_is) c.till.ensures.retry)
    c.first_timer.ensures refl c.busy_in.ensures)
