use Rattle.std.proofs.Common.{subst}
use Rattle.std.specs.Bool.{OnTrue}
use Rattle.cf_watch.specs.Watches.{Watch}
use Rattle.cf_turn.specs.Turns.{Rests, moment_of}
use Rattle.cf_turn.specs.Works.{Work, work_of}
use Rattle.cf_turn.proofs.Quiets.{quiet_tells}
use Rattle.cf_turn.proofs.work.Work.is_quiet.Goals as goal

pub returns-in-Some : goal.returns-in-Some
returns-in-Some c =
    let i = c.self.inside in
    let now = c.args.now in
    let clock = c.args.clock in
    let may = c.args.may_claim in
    subst (λ (w : Work). OnTrue c.covers.result ((watch : Watch) → Rests w (moment_of now watch clock may) w)) c.self.view_is
    (quiet_tells (work_of i.part i.users i.is_acting i.is_doubtful i.closed_at) i.quiet c.in-Some.quiet now clock may c.covers.result c.in-Some.is c.self.invariant c.covers.ensures)
