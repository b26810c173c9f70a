use Rattle.std.proofs.Common.{◌≡◌, ◌≤◌, false, IfErr, IfOk, List, length, map, sym, ap, subst, vec_len, vec_capacity, arith, rules}
use Rattle.std.specs.List.{All}
use Rattle.std.proofs.lemmas.List.{length-map}
use Rattle.cf_desk.specs.Views.{IsOf, Pass}
use Rattle.cf_pool.specs.Calling.{AnswerAlike, first_answers}
use Rattle.cf_pool.specs.Closings.{HadThreads, HaveCalled, RunRefuses, RanOut}
use Rattle.cf_pool.proofs.pool.run.Goals as goal

pub run_each-requires-clause-workers : goal.run_each-requires-clause-workers
run_each-requires-clause-workers g c κs within =
    let n = ap (λ (l : List Pass). length l) c.pair-pairs.ensures.passes in
    let m = length-map c.pair-pairs.result.items (λ w. w.0) in
    let a = c.pair-pairs.result.ok.0 in let b = c.args.passes.ok.0 in let r = c.requires.workers in let p = c.requires.passes.1 in
    (omega arith, omega arith)

pub run_each-requires-clause-passes : goal.run_each-requires-clause-passes
run_each-requires-clause-passes g c κs within = subst (All (IsOf c.args.desk)) (sym c.pair-pairs.ensures.passes) c.requires.passes.0

pub run_each-requires-clause-alike : goal.run_each-requires-clause-alike
run_each-requires-clause-alike g c κs within = subst (AnswerAlike g.W.Worker.answers) (sym c.pair-pairs.ensures.workers) c.requires.alike

pub returns-in-Ok-clause-ran : goal.returns-in-Ok-clause-ran
returns-in-Ok-clause-ran g c =
    subst (λ ps. IfOk c.run_each.result (λ left. RanOut (first_answers g.W.Worker.answers c.args.workers.items) c.args.desk ps left.closed.history.items left.closed.passes.items left.closed.graph.state)) c.pair-pairs.ensures.passes
    (subst (λ ms. IfOk c.run_each.result (λ left. RanOut (first_answers g.W.Worker.answers ms) c.args.desk (map (λ w. w.0) c.pair-pairs.result.items) left.closed.history.items left.closed.passes.items left.closed.graph.state)) c.pair-pairs.ensures.workers c.run_each.ensures.ran)

pub returns-in-Ok-clause-called : goal.returns-in-Ok-clause-called
returns-in-Ok-clause-called g c =
    subst (λ ps. IfOk c.run_each.result (HaveCalled g.W.Worker.tells g.W.Functions.calls ps c.args.workers.items)) c.pair-pairs.ensures.passes
    (subst (λ ms. IfOk c.run_each.result (HaveCalled g.W.Worker.tells g.W.Functions.calls (map (λ w. w.0) c.pair-pairs.result.items) ms)) c.pair-pairs.ensures.workers c.run_each.ensures.called)

pub returns-in-Ok-clause-threads : goal.returns-in-Ok-clause-threads
returns-in-Ok-clause-threads g c =
    subst (λ ps. IfOk c.run_each.result (λ left. HadThreads (first_answers g.W.Worker.answers c.args.workers.items) c.args.desk ps left false)) c.pair-pairs.ensures.passes
    (subst (λ ms. IfOk c.run_each.result (λ left. HadThreads (first_answers g.W.Worker.answers ms) c.args.desk (map (λ w. w.0) c.pair-pairs.result.items) left false)) c.pair-pairs.ensures.workers c.run_each.ensures.threads)

pub returns-in-Ok-clause-refused : goal.returns-in-Ok-clause-refused
returns-in-Ok-clause-refused g c =
    subst (λ ps. IfErr c.run_each.result (RunRefuses g.W.Worker.tells g.W.Functions.calls (first_answers g.W.Worker.answers c.args.workers.items) c.args.desk ps c.args.workers.items)) c.pair-pairs.ensures.passes
    (subst (λ ms. IfErr c.run_each.result (RunRefuses g.W.Worker.tells g.W.Functions.calls (first_answers g.W.Worker.answers ms) c.args.desk (map (λ w. w.0) c.pair-pairs.result.items) ms)) c.pair-pairs.ensures.workers c.run_each.ensures.refused)

pub pair-pairs-requires-clause-room : goal.pair-pairs-requires-clause-room
pair-pairs-requires-clause-room g c = let r = c.in-Ok.ensures.pairs in let l = c.len.ensures in let p = c.requires.passes.1 in omega arith

pub run_each-requires-clause-room : goal.run_each-requires-clause-room
run_each-requires-clause-room g c =
    let n = ap (λ (l : List Pass). length l) c.pair-pairs.ensures.passes in
    let m = length-map c.pair-pairs.result.items (λ w. w.0) in
    let a = c.pair-pairs.result.ok.0 in let b = c.args.passes.ok.0 in let p = c.requires.passes.1 in let l = c.len.ensures in let r = c.in-Ok.ensures.room in
    let len : vec_len c.pair-pairs.result ≡ vec_len c.args.workers = omega arith in
    let started : vec_len c.pair-pairs.result ≤ vec_capacity c.in-Ok.room.started = omega (arith, len, r.0) in
    let worked : vec_len c.pair-pairs.result ≤ vec_capacity c.in-Ok.room.worked = omega (arith, len, r.1) in
    search (rules, started, worked)

pub run_each-requires-clause-back : goal.run_each-requires-clause-back
run_each-requires-clause-back g c =
    let n = ap (λ (l : List Pass). length l) c.pair-pairs.ensures.passes in
    let m = length-map c.pair-pairs.result.items (λ w. w.0) in
    let a = c.pair-pairs.result.ok.0 in let b = c.args.passes.ok.0 in let p = c.requires.passes.1 in let l = c.len.ensures in let r = c.in-Ok.ensures.back in
    let len : vec_len c.pair-pairs.result ≡ vec_len c.args.workers = omega arith in
    let passes : vec_len c.pair-pairs.result ≤ vec_capacity c.in-Ok.room.back.passes = omega (arith, len, r.0) in
    let workers : vec_len c.pair-pairs.result ≤ vec_capacity c.in-Ok.room.back.workers = omega (arith, len, r.1) in
    search (rules, passes, workers)
