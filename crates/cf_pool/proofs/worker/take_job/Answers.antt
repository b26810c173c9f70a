use Rattle.std.proofs.Common.{◌∙◌, sym, Some, rules}
use Rattle.cf_model.specs.declared.calls.Call.TheVariants.{Claim}
use Rattle.cf_desk.specs.Faults.{HasRoom}
use Rattle.cf_desk.specs.Views.{Acts}
use Rattle.cf_pool.proofs.Jobs.{adds_claim, adds_granted, adds_stops, claim_meets, does_both, does_claim, finish_meets, finish_stops, ready_is, still_there}
use Rattle.cf_pool.proofs.Calling.{calls_both, calls_claim, calls_follows, calls_granted}
use Rattle.cf_pool.proofs.Working.{acts_known, acts_looks, refuses_known}
use Rattle.cf_pool.proofs.worker.take_job.Given.{Over}
use Rattle.cf_pool.proofs.worker.take_job.Goals as goal
use Rattle.cf_pool.proofs.worker.take_job.Goals.{In_ok-reply}

-- the stage is one that the pass knew
acted : (g : Over) (c : In_ok-reply g) → Acts c.args.pass.now (Claim c.args.stage) c.in_ok-reply.reply c.act.new.p × HasRoom c.args.pass.now
acted g c = acts_known c.args.desk.now c.args.pass.now c.act.new.p (Claim c.args.stage) c.in_ok-reply.reply c.requires.there c.in_ok-reply.ensures.done

pub finish-requires-clause-stage : goal.finish-requires-clause-stage
finish-requires-clause-stage g c =
    let a = acted g (goal.at.finish-requires-clause-stage g c).In_ok-reply in
    still_there c.args.pass.now c.act.new.p c.args.stage _ c.in_ok-reply.reply a.0 c.requires.there

pub answer_of-answer-requires : goal.answer_of-answer-requires
answer_of-answer-requires g c =
    let a = acted g (goal.at.answer_of-answer-requires g c).In_ok-reply in
    still_there c.args.pass.now c.act.new.p c.args.stage _ c.in_ok-reply.reply a.0 c.requires.there

pub finish-requires-clause-pass : goal.finish-requires-clause-pass
finish-requires-clause-pass g c = (c.act.ensures.same.0 ∙ c.requires.pass.0, c.act.ensures.same.1 ∙ c.requires.pass.1)

pub returns-in_err-reply-clause-adds : goal.returns-in_err-reply-clause-adds
returns-in_err-reply-clause-adds g c =
    adds_stops (g.W.Worker.answers c.args.worker.now) c.args.desk.now c.args.pass.now c.act.new.p _
    (claim_meets _ c.args.desk.now c.args.pass.now c.act.new.p c.args.stage _ c.requires.ready c.requires.there c.in_err-reply.ensures.refused)

pub returns-in_err-reply-clause-stops : goal.returns-in_err-reply-clause-stops
returns-in_err-reply-clause-stops g c =
    let e = c.in_err-reply.ensures in
    let h = claim_meets (g.W.Worker.answers c.args.worker.now) c.args.desk.now c.args.pass.now c.act.new.p c.args.stage _ c.requires.ready c.requires.there e.refused in
    search (rules, h)

pub returns-in_err-finished-in-Some-clause-adds : goal.returns-in_err-finished-in-Some-clause-adds
returns-in_err-finished-in-Some-clause-adds g c =
    let a = acted g (goal.at.returns-in_err-finished-in-Some-clause-adds g c).In_ok-reply in
    let given = sym c.granted.ensures ∙ c.in-Some.is in
    let first = adds_granted _ c.args.pass.now c.act.new.p c.args.stage c.in_ok-reply.reply c.in-Some.args a.0 c.requires.there (ready_is c.args.pass.now.known c.args.stage c.requires.ready) given in
    let meets = finish_meets (g.W.Worker.answers c.args.worker.now) c.args.desk.now c.act.new.p c.finish.new.pass c.args.stage c.in-Some.args c.answer_of-answer.result _ (still_there c.args.pass.now c.act.new.p c.args.stage _ c.in_ok-reply.reply a.0 c.requires.there) c.answer_of-answer.ensures.answers c.in_err-finished-in-Some.ensures.refused in
    adds_stops _ c.args.desk.now c.args.pass.now c.finish.new.pass _ (finish_stops _ c.args.desk.now c.args.pass.now c.act.new.p c.finish.new.pass (Some (c.args.stage, c.in-Some.args)) _ first meets)

pub returns-in_err-finished-in-Some-clause-stops : goal.returns-in_err-finished-in-Some-clause-stops
returns-in_err-finished-in-Some-clause-stops g c =
    let a = acted g (goal.at.returns-in_err-finished-in-Some-clause-stops g c).In_ok-reply in
    let given = sym c.granted.ensures ∙ c.in-Some.is in
    let first = adds_granted _ c.args.pass.now c.act.new.p c.args.stage c.in_ok-reply.reply c.in-Some.args a.0 c.requires.there (ready_is c.args.pass.now.known c.args.stage c.requires.ready) given in
    let meets = finish_meets (g.W.Worker.answers c.args.worker.now) c.args.desk.now c.act.new.p c.finish.new.pass c.args.stage c.in-Some.args c.answer_of-answer.result _ (still_there c.args.pass.now c.act.new.p c.args.stage _ c.in_ok-reply.reply a.0 c.requires.there) c.answer_of-answer.ensures.answers c.in_err-finished-in-Some.ensures.refused in
    let h = finish_stops (g.W.Worker.answers c.args.worker.now) c.args.desk.now c.args.pass.now c.act.new.p c.finish.new.pass (Some (c.args.stage, c.in-Some.args)) _ first meets in
    search (rules, h)

pub returns-in-None-clause-adds : goal.returns-in-None-clause-adds
returns-in-None-clause-adds g c =
    let a = acted g (goal.at.returns-in-None-clause-adds g c).In_ok-reply in
    (_, adds_claim _ c.args.pass.now c.act.new.p c.args.stage c.in_ok-reply.reply a.0 c.requires.there (ready_is c.args.pass.now.known c.args.stage c.requires.ready))

pub returns-in-None-clause-done : goal.returns-in-None-clause-done
returns-in-None-clause-done g c =
    let a = acted g (goal.at.returns-in-None-clause-done g c).In_ok-reply in
    (does_claim _ c.args.pass.now c.act.new.p c.args.stage c.in_ok-reply.reply a.0 a.1 c.requires.there (ready_is c.args.pass.now.known c.args.stage c.requires.ready) (sym c.granted.ensures ∙ c.in-None.is)).0

pub returns-in-None-clause-more : goal.returns-in-None-clause-more
returns-in-None-clause-more g c =
    let a = acted g (goal.at.returns-in-None-clause-more g c).In_ok-reply in
    (does_claim (g.W.Worker.answers c.args.worker.now) c.args.pass.now c.act.new.p c.args.stage c.in_ok-reply.reply a.0 a.1 c.requires.there (ready_is c.args.pass.now.known c.args.stage c.requires.ready) (sym c.granted.ensures ∙ c.in-None.is)).1

pub returns-in_ok-finished-in-Some-clause-more : goal.returns-in_ok-finished-in-Some-clause-more
returns-in_ok-finished-in-Some-clause-more g c =
    let a = acted g (goal.at.returns-in_ok-finished-in-Some-clause-more g c).In_ok-reply in
    (does_both (g.W.Worker.answers c.args.worker.now) c.args.pass.now c.act.new.p c.finish.new.pass c.args.stage c.in_ok-reply.reply c.in_ok-finished-in-Some.finished c.in-Some.args c.answer_of-answer.result c.count.result a.0 c.requires.there (ready_is c.args.pass.now.known c.args.stage c.requires.ready) (sym c.granted.ensures ∙ c.in-Some.is)
    c.answer_of-answer.ensures.answers c.in_ok-finished-in-Some.ensures.done c.in_ok-finished-in-Some.ensures.room c.count.ensures.run c.count.ensures.won c.count.ensures.late).1

pub returns-in_ok-finished-in-Some-clause-adds : goal.returns-in_ok-finished-in-Some-clause-adds
returns-in_ok-finished-in-Some-clause-adds g c =
    let a = acted g (goal.at.returns-in_ok-finished-in-Some-clause-adds g c).In_ok-reply in
    let d = does_both _ c.args.pass.now c.act.new.p c.finish.new.pass c.args.stage c.in_ok-reply.reply c.in_ok-finished-in-Some.finished c.in-Some.args c.answer_of-answer.result c.count.result a.0 c.requires.there (ready_is c.args.pass.now.known c.args.stage c.requires.ready) (sym c.granted.ensures ∙ c.in-Some.is)
    c.answer_of-answer.ensures.answers c.in_ok-finished-in-Some.ensures.done c.in_ok-finished-in-Some.ensures.room c.count.ensures.run c.count.ensures.won c.count.ensures.late in
    (_, d.0.does.adds)

pub returns-in_ok-finished-in-Some-clause-done : goal.returns-in_ok-finished-in-Some-clause-done
returns-in_ok-finished-in-Some-clause-done g c =
    let a = acted g (goal.at.returns-in_ok-finished-in-Some-clause-done g c).In_ok-reply in
    (does_both _ c.args.pass.now c.act.new.p c.finish.new.pass c.args.stage c.in_ok-reply.reply c.in_ok-finished-in-Some.finished c.in-Some.args c.answer_of-answer.result c.count.result a.0 c.requires.there (ready_is c.args.pass.now.known c.args.stage c.requires.ready) (sym c.granted.ensures ∙ c.in-Some.is)
    c.answer_of-answer.ensures.answers c.in_ok-finished-in-Some.ensures.done c.in_ok-finished-in-Some.ensures.room c.count.ensures.run c.count.ensures.won c.count.ensures.late).0

pub returns-in-None-clause-looks : goal.returns-in-None-clause-looks
returns-in-None-clause-looks g c =
    let a = acted g (goal.at.returns-in-None-clause-looks g c).In_ok-reply in
    acts_looks c.args.pass.now c.act.new.p _ c.in_ok-reply.reply a.0

pub returns-in_ok-finished-in-Some-clause-looks : goal.returns-in_ok-finished-in-Some-clause-looks
returns-in_ok-finished-in-Some-clause-looks g c =
    let a = acted g (goal.at.returns-in_ok-finished-in-Some-clause-looks g c).In_ok-reply in
    c.finish.ensures.looks ∙ acts_looks c.args.pass.now c.act.new.p _ c.in_ok-reply.reply a.0

pub returns-in_err-reply-clause-called : goal.returns-in_err-reply-clause-called
returns-in_err-reply-clause-called g c =
    calls_follows _ _ c.args.pass.now c.act.new.p _ (refuses_known c.args.desk.now c.args.pass.now c.act.new.p (Claim c.args.stage) _ c.requires.there c.in_err-reply.ensures.refused).0

pub returns-in_err-finished-in-Some-clause-called : goal.returns-in_err-finished-in-Some-clause-called
returns-in_err-finished-in-Some-clause-called g c =
    let a = acted g (goal.at.returns-in_err-finished-in-Some-clause-called g c).In_ok-reply in
    calls_granted g.W.Worker.tells g.W.Functions.calls c.args.pass.now c.act.new.p c.finish.new.pass c.args.worker.now c.answer_of-answer.new.worker c.args.stage c.in_ok-reply.reply c.in-Some.args
    c.answer_of-answer.result a.0 (sym c.granted.ensures ∙ c.in-Some.is) c.answer_of-answer.ensures.called
    (refuses_known c.args.desk.now c.act.new.p c.finish.new.pass _ _ (still_there c.args.pass.now c.act.new.p c.args.stage _ c.in_ok-reply.reply a.0 c.requires.there) c.in_err-finished-in-Some.ensures.refused).0

pub returns-in-None-clause-called : goal.returns-in-None-clause-called
returns-in-None-clause-called g c =
    let a = acted g (goal.at.returns-in-None-clause-called g c).In_ok-reply in
    calls_claim _ _ c.args.pass.now c.act.new.p _ c.args.stage c.in_ok-reply.reply a.0 (sym c.granted.ensures ∙ c.in-None.is)

pub returns-in_ok-finished-in-Some-clause-called : goal.returns-in_ok-finished-in-Some-clause-called
returns-in_ok-finished-in-Some-clause-called g c =
    let a = acted g (goal.at.returns-in_ok-finished-in-Some-clause-called g c).In_ok-reply in
    calls_both g.W.Worker.tells g.W.Functions.calls c.args.pass.now c.act.new.p c.finish.new.pass c.args.worker.now c.answer_of-answer.new.worker c.args.stage c.in_ok-reply.reply c.in_ok-finished-in-Some.finished c.in-Some.args
    c.answer_of-answer.result a.0 (sym c.granted.ensures ∙ c.in-Some.is) c.answer_of-answer.ensures.called c.in_ok-finished-in-Some.ensures.done
