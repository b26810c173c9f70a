use Rattle.std.proofs.Common.{◌≡◌, ◌∙◌, None, arith, refl, rules, subst}
use Rattle.cf_pool.specs.Answering.{Answers}
use Rattle.cf_desk.specs.declared.faults.DeskFault.{DeskFault}
use Rattle.cf_desk.specs.Views.{Desk, Pass}
use Rattle.cf_pool.specs.Jobs.{AddsWork, DoesJob, StopsJob}
use Rattle.cf_pool.proofs.Calling.{calls_itself, calls_on, calls_once, calls_then}
use Rattle.cf_pool.proofs.Jobs.{adds_then, adds_works, does_end, does_follows, stops_then, turned_none, turned_then, turned_waits}
use Rattle.cf_pool.proofs.worker.work.Goals as goal

-- the functions mean what they did at first
stops_alike : (answers first : Answers) (d : Desk) (p q : Pass) (fault : DeskFault) → answers ≡ first → StopsJob answers d p q fault → StopsJob first d p q fault
stops_alike answers first d p q fault same h = subst (λ (m : Answers). StopsJob m d p q fault) same h

pub jobs-init : goal.jobs-init
jobs-init g c = record {
  turned = turned_none _ c.args.pass.now (let e = c.left-room.ensures in omega arith);
  called = calls_itself _ _ c.args.pass.now _;
  keeps = refl;
  room = c.left-room.ensures;
}

pub returns-in_err-job-clause-works : goal.returns-in_err-job-clause-works
returns-in_err-job-clause-works g c =
    let before = does_follows _ c.args.pass.now c.jobs.pass c.next_ready.new.pass c.jobs.done c.jobs.invariant.turned.does c.next_ready.ensures.seen in
    let (owes, added) = c.take_job.ensures.adds in
    let job : AddsWork (g.W.Worker.answers c.args.worker.now) None c.next_ready.new.pass c.take_job.new.pass owes = subst (λ (m : Answers). AddsWork m None c.next_ready.new.pass c.take_job.new.pass owes) c.jobs.invariant.keeps added in
    adds_works _ c.args.pass.now c.take_job.new.pass owes (adds_then _ None owes c.args.pass.now c.next_ready.new.pass c.take_job.new.pass before.adds job)

pub returns-in_err-job-clause-stops : goal.returns-in_err-job-clause-stops
returns-in_err-job-clause-stops g c =
    let before = does_follows _ c.args.pass.now c.jobs.pass c.next_ready.new.pass c.jobs.done c.jobs.invariant.turned.does c.next_ready.ensures.seen in
    let job = stops_alike _ _ c.args.desk.now c.next_ready.new.pass c.take_job.new.pass _ c.jobs.invariant.keeps c.in_err-job.ensures.stops in
    let h = stops_then (g.W.Worker.answers c.args.worker.now) c.args.desk.now c.args.pass.now c.next_ready.new.pass c.take_job.new.pass _ before.adds job in
    search (rules, h)

pub returns-in_err-job-clause-called : goal.returns-in_err-job-clause-called
returns-in_err-job-clause-called g c =
    let before = does_follows _ c.args.pass.now c.jobs.pass c.next_ready.new.pass c.jobs.done c.jobs.invariant.turned.does c.next_ready.ensures.seen in
    let (owes, added) = c.take_job.ensures.adds in
    let job : AddsWork (g.W.Worker.answers c.args.worker.now) None c.next_ready.new.pass c.take_job.new.pass owes = subst (λ (m : Answers). AddsWork m None c.next_ready.new.pass c.take_job.new.pass owes) c.jobs.invariant.keeps added in
    calls_once _ _ (g.W.Worker.answers c.args.worker.now) c.args.pass.now c.take_job.new.pass _ _
    (adds_works _ c.args.pass.now c.take_job.new.pass owes (adds_then _ None owes c.args.pass.now c.next_ready.new.pass c.take_job.new.pass before.adds job))
    (calls_then _ _ (g.W.Worker.answers c.args.worker.now) c.args.pass.now c.next_ready.new.pass c.take_job.new.pass _ _ _ owes before.adds job (calls_on _ _ c.args.pass.now c.jobs.pass c.next_ready.new.pass _ _ c.jobs.invariant.called c.next_ready.ensures.seen) c.take_job.ensures.called)

pub jobs-preserved : goal.jobs-preserved
jobs-preserved g c =
    let i = c.jobs.invariant in
    let before = does_follows _ c.args.pass.now c.jobs.pass c.next_ready.new.pass c.jobs.done i.turned.does c.next_ready.ensures.seen in
    let done : DoesJob (g.W.Worker.answers c.args.worker.now) c.next_ready.new.pass c.take_job.new.pass c.in_ok-job.job = subst (λ (m : Answers). DoesJob m c.next_ready.new.pass c.take_job.new.pass c.in_ok-job.job) i.keeps c.in_ok-job.ensures.done in
    record {
      turned = turned_then _ c.args.pass.now c.jobs.pass c.next_ready.new.pass c.take_job.new.pass c.jobs.done c.in_ok-job.job i.turned c.next_ready.ensures.seen done c.in_ok-job.ensures.looks;
      called = calls_then _ _ (g.W.Worker.answers c.args.worker.now) c.args.pass.now c.next_ready.new.pass c.take_job.new.pass _ _ _ None before.adds done.does.adds (calls_on _ _ c.args.pass.now c.jobs.pass c.next_ready.new.pass _ _ i.called c.next_ready.ensures.seen) c.take_job.ensures.called;
      keeps = c.take_job.ensures.keeps ∙ i.keeps;
      room = i.room;
    }

pub returns-clause-works : goal.returns-clause-works
returns-clause-works g c =
    (does_end _ c.args.pass.now c.next_ready.new.pass c.jobs.done (does_follows _ c.args.pass.now c.jobs.pass c.next_ready.new.pass c.jobs.done c.jobs.invariant.turned.does c.next_ready.ensures.seen)).out.works

pub returns-clause-done : goal.returns-clause-done
returns-clause-done g c =
    does_end _ c.args.pass.now c.next_ready.new.pass c.jobs.done (does_follows _ c.args.pass.now c.jobs.pass c.next_ready.new.pass c.jobs.done c.jobs.invariant.turned.does c.next_ready.ensures.seen)

pub returns-clause-waits : goal.returns-clause-waits
returns-clause-waits g c =
    turned_waits _ c.args.desk.now c.args.patience c.args.pass.now c.jobs.pass c.next_ready.new.pass c.jobs.done c.jobs.invariant.turned c.next_ready.ensures.seen (c.next_ready.ensures.idles c.in_default.is)

pub returns-clause-called : goal.returns-clause-called
returns-clause-called g c =
    let before = does_follows _ c.args.pass.now c.jobs.pass c.next_ready.new.pass c.jobs.done c.jobs.invariant.turned.does c.next_ready.ensures.seen in
    calls_once _ _ (g.W.Worker.answers c.args.worker.now) c.args.pass.now c.next_ready.new.pass _ _ (adds_works _ c.args.pass.now c.next_ready.new.pass None before.adds)
    (calls_on _ _ c.args.pass.now c.jobs.pass c.next_ready.new.pass _ _ c.jobs.invariant.called c.next_ready.ensures.seen)
