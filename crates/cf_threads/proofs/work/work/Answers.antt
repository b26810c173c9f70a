use Rattle.std.proofs.Common.{◌≡◌, [], None, Option, Some, List, ap, refl, subst, sym, rules}
use Rattle.std.specs.Prelude.{Err, Ok, Result, unwrap_or}
use Rattle.crossbeam_utils.specs.Seq.{cell_view}
use Rattle.cf_ledger.specs.declared.step.Held.{Held}
use Rattle.cf_ledger.specs.declared.step.Taken.{Taken}
use Rattle.cf_threads.specs.Works.{TakesNext, Works}
use Rattle.cf_threads.specs.declared.turn.Turn.{Turn}
use Rattle.cf_threads.specs.declared.work.Stopped.{Stopped}
use Rattle.cf_threads.proofs.Kept.{slip_is}
use Rattle.cf_threads.proofs.Works.{works_ended, works_holds, works_next}
use Rattle.cf_threads.proofs.work.work.Goals as goal

pub jobs-init : goal.jobs-init
jobs-init g c =
    let m = c.requires.mine in
    let none = ap (λ v. v.mine) m.2 in
    record {
      table = m.0;
      free = m.1;
      slip = slip_is _ [] m.2;
      works = subst (λ (l : List Turn). Works g.F.Functions.calls c.args.functions.now None l c.args.functions.now None) (sym none) (refl, refl);
    }

pub take_next-next-requires-clause-holds : goal.take_next-next-requires-clause-holds
take_next-next-requires-clause-holds g c = works_holds g.F.Functions.calls c.args.functions.now c.jobs.functions c.jobs.holds (cell_view c.jobs.mine).mine c.jobs.invariant.works

pub jobs-preserved : goal.jobs-preserved
jobs-preserved g c =
    let t = c.in-Ok-Some.taken in
    let m = c.take_next-next.ensures.mine in
    let before = (cell_view c.jobs.mine).mine in
    let after = (cell_view c.take_next-next.result.1).mine in
    let done : c.take_next-next.result.0 ≡ Ok (Some t) = search rules in
    let takes = subst (λ (n : Result (Option Taken) Stopped). TakesNext c.jobs.holds before n after) done c.take_next-next.ensures.next in
    let call : g.F.Functions.calls c.jobs.functions (unwrap_or t.function 0) t.args c.call-answer.result c.call-answer.new.self = search rules in
    let held : Held = record { stage = t.stage; answer = c.call-answer.result } in
    record {
      table = m.0;
      free = m.1;
      slip = m.2;
      works = works_next g.F.Functions.calls c.args.functions.now c.jobs.functions c.call-answer.new.self c.jobs.holds (Some held) before after (Ok (Some t)) c.jobs.invariant.works takes (c.call-answer.result, call, refl);
    }

pub returns-in-Ok-None-clause-worked : goal.returns-in-Ok-None-clause-worked
returns-in-Ok-None-clause-worked g c =
    let before = (cell_view c.jobs.mine).mine in
    let after = (cell_view c.take_next-next.result.1).mine in
    let done : c.take_next-next.result.0 ≡ Ok None = search rules in
    let takes = subst (λ (n : Result (Option Taken) Stopped). TakesNext c.jobs.holds before n after) done c.take_next-next.ensures.next in
    works_ended g.F.Functions.calls c.args.functions.now c.jobs.functions c.jobs.holds before after None c.jobs.invariant.works takes

pub returns-in-Err-clause-worked : goal.returns-in-Err-clause-worked
returns-in-Err-clause-worked g c =
    let before = (cell_view c.jobs.mine).mine in
    let after = (cell_view c.take_next-next.result.1).mine in
    let s = c.in-Err.stopped in
    let done : c.take_next-next.result.0 ≡ Err s = search rules in
    let takes = subst (λ (n : Result (Option Taken) Stopped). TakesNext c.jobs.holds before n after) done c.take_next-next.ensures.next in
    works_ended g.F.Functions.calls c.args.functions.now c.jobs.functions c.jobs.holds before after (Some s) c.jobs.invariant.works takes
