use Rattle.std.proofs.Common.{◌≡◌, ◌+◌, ◌≤◌, ◌∷◌, false, IfErr, IfOk, List, length, map, sym, ap, ◌∙◌, subst, vec_len, vec_capacity, arith, rules}
use Rattle.std.specs.List.{All, AllZip}
use Rattle.std.proofs.lemmas.List.{length-map}
use Rattle.std.proofs.lemmas.List.Elements.{All-head, All-tail, All-weaker}
use Rattle.cf_desk.specs.Views.{IsOf, Pass}
use Rattle.cf_pool.specs.declared.pool.Left.{Left}
use Rattle.cf_pool.specs.declared.pool.Worked.{Worked}
use Rattle.cf_pool.specs.Calling.{AnswerAlike, first_answers}
use Rattle.cf_pool.specs.Closings.{HadThreads, HaveCalled, RunRefuses, RanOut}
use Rattle.cf_pool.specs.Runs.{IsFirst, IsWorkedFrom, first_with, is_any_alone, stop_of}
use Rattle.cf_pool.proofs.Pools.{all_mapped}
use Rattle.cf_pool.proofs.Runs.{Back, Leaves, all_from, back_leaves, back_of, first_and, shut_of, told_left, told_refused, worked_of, zip_length}
use Rattle.cf_pool.proofs.pool.run_each.Given.{Over}
use Rattle.cf_pool.proofs.pool.run_each.Goals as goal
use Rattle.cf_pool.proofs.pool.run_each.Goals.{After-put_first-workers, After-remove-one, After-spread-worked, In-Ok}

-- the caller's pass with its worker, and the others
split : (g : Over) (c : After-remove-one g) → c.args.workers.items ≡ c.remove-one.result ∷ c.remove-one.new.self.items
split g c =
    first_and c.args.workers.items c.remove-one.new.self.items c.remove-one.result (let e = c.requires.workers.0 in let o = c.args.workers.ok.0 in omega arith) c.remove-one.ensures.value c.remove-one.ensures.by_index.2

of : (g : Over) (c : After-remove-one g) → All (IsOf c.args.desk) (c.remove-one.result.0 ∷ map (λ w. w.0) c.remove-one.new.self.items)
of g c = subst (λ l. All (IsOf c.args.desk) (map (λ w. w.0) l)) (split g c) c.requires.passes

alike : (g : Over) (c : After-remove-one g) → AnswerAlike g.W.Worker.answers (c.remove-one.result.1 ∷ map (λ w. w.1) c.remove-one.new.self.items)
alike g c = subst (λ l. AnswerAlike g.W.Worker.answers (map (λ w. w.1) l)) (split g c) c.requires.alike

all : (g : Over) (c : After-remove-one g) → length c.args.workers.items ≡ length c.remove-one.new.self.items + 1
all g c = let n = ap length (split g c) in omega (arith, n)

pub spread-worked-requires-clause-all : goal.spread-worked-requires-clause-all
spread-worked-requires-clause-all g c =
    let there = all_mapped (IsOf c.args.desk) (λ w. w.0) c.remove-one.new.self.items (All-tail (IsOf c.args.desk) c.remove-one.result.0 (map (λ w. w.0) c.remove-one.new.self.items) (of g (goal.at.spread-worked-requires-clause-all g c).After-remove-one)) in
    search (rules, there)

pub spread-worked-requires-clause-room : goal.spread-worked-requires-clause-room
spread-worked-requires-clause-room g c =
    let m = all g (goal.at.spread-worked-requires-clause-room g c).After-remove-one in let a = c.remove-one.new.self.ok.0 in let b = c.args.workers.ok.0 in let r = c.requires.room.0 in let s = c.requires.room.1 in
    let one : vec_len c.remove-one.new.self ≤ vec_capacity c.args.started = omega arith in
    let other : vec_len c.remove-one.new.self ≤ vec_capacity c.args.worked = omega arith in
    search (rules, one, other)

work : (g : Over) (c : After-spread-worked g) → AnswerAlike g.W.Worker.answers (c.remove-one.result.1 ∷ map (λ w. w.1) c.remove-one.new.self.items)
    → AllZip (IsWorkedFrom (g.W.Worker.answers c.remove-one.result.1) c.args.desk 1000) (map (λ w. w.0) c.remove-one.new.self.items) c.spread-worked.result.items
work g c same =
    all_from g.W.Worker.tells g.W.Functions.calls g.W.Worker.answers (g.W.Worker.answers c.remove-one.result.1) c.args.desk c.remove-one.new.self.items c.spread-worked.result.items
    (All-tail (λ m. g.W.Worker.answers m ≡ g.W.Worker.answers c.remove-one.result.1) c.remove-one.result.1 (map (λ w. w.1) c.remove-one.new.self.items) same) c.spread-worked.ensures

-- as many have come back as there are others
came : (g : Over) (c : After-spread-worked g) → length c.spread-worked.result.items ≡ length c.remove-one.new.self.items
came g c = zip_length _ c.remove-one.new.self.items c.spread-worked.result.items c.spread-worked.ensures

pub meet_all-back-requires-clause-table : goal.meet_all-back-requires-clause-table
meet_all-back-requires-clause-table g c =
    let at = goal.at.meet_all-back-requires-clause-table g c in
    let every = of g at.After-remove-one in (
      (All-head (IsOf c.args.desk) c.remove-one.result.0 (map (λ w. w.0) c.remove-one.new.self.items) every).0,
      worked_of (g.W.Worker.answers c.remove-one.result.1) c.args.desk (map (λ w. w.0) c.remove-one.new.self.items) c.spread-worked.result.items (All-tail (IsOf c.args.desk) c.remove-one.result.0 (map (λ w. w.0) c.remove-one.new.self.items) every) (work g at.After-spread-worked (alike g at.After-remove-one)),
    )

pub meet_all-back-requires-clause-room : goal.meet_all-back-requires-clause-room
meet_all-back-requires-clause-room g c =
    let at = goal.at.meet_all-back-requires-clause-room g c in
    let n = came g at.After-spread-worked in let m = all g at.After-remove-one in let a = c.spread-worked.result.ok.0 in let b = c.args.workers.ok.0 in let p = c.requires.back.0 in let w = c.requires.back.1 in
    (omega arith, omega arith)

pub work_on-done-requires-clause-pass : goal.work_on-done-requires-clause-pass
work_on-done-requires-clause-pass g c =
    let at = goal.at.work_on-done-requires-clause-pass g c in
    let first = All-head (IsOf c.args.desk) c.remove-one.result.0 (map (λ w. w.0) c.remove-one.new.self.items) (of g at.After-remove-one) in
    let met = c.meet_all-back.ensures.mine.same in
    (met.0 ∙ first.0, met.1 ∙ first.1)

pub put_first-passes-requires : goal.put_first-passes-requires
put_first-passes-requires g c =
    let at = goal.at.put_first-passes-requires g c in
    let n = came g at.After-spread-worked in let m = all g at.After-remove-one in
    let z = zip_length _ c.spread-worked.result.items c.meet_all-back.result.passes.items c.meet_all-back.ensures.others in
    let a = c.meet_all-back.result.passes.ok.0 in let b = c.args.workers.ok.0 in let p = c.requires.back.0 in let w = c.requires.back.1 in let r = c.meet_all-back.ensures.room in let k = c.meet_all-back.ensures.room_too in
    omega arith

pub put_first-workers-requires : goal.put_first-workers-requires
put_first-workers-requires g c =
    let at = goal.at.put_first-workers-requires g c in
    let n = came g at.After-spread-worked in let m = all g at.After-remove-one in
    let z = ap length c.meet_all-back.ensures.workers ∙ length-map c.spread-worked.result.items (λ w. w.worker) in
    let a = c.meet_all-back.result.workers.ok.0 in let b = c.args.workers.ok.0 in let p = c.requires.back.0 in let w = c.requires.back.1 in let r = c.meet_all-back.ensures.room in let k = c.meet_all-back.ensures.room_too in
    omega arith

back : (g : Over) (c : After-put_first-workers g) → All (IsOf c.args.desk) (c.remove-one.result.0 ∷ map (λ w. w.0) c.remove-one.new.self.items)
    → AllZip (IsWorkedFrom (g.W.Worker.answers c.remove-one.result.1) c.args.desk 1000) (map (λ w. w.0) c.remove-one.new.self.items) c.spread-worked.result.items
    → Back (g.W.Worker.answers c.remove-one.result.1) c.args.desk c.remove-one.result.0 c.meet_all-back.new.mine c.work_on-done.result.pass (map (λ w. w.0) c.remove-one.new.self.items) c.meet_all-back.result.passes.items c.spread-worked.result.items c.first_fault-others.result c.work_on-done.result.fault
back g c every worked = record {
  worker = c.work_on-done.result.worker;
  of = every;
  work = worked;
  sees = c.meet_all-back.ensures.others;
  mine_sees = c.meet_all-back.ensures.mine;
  mine_works = c.work_on-done.ensures.worked.from;
  short = c.meet_all-back.ensures.short;
  first = subst (λ (l : List (Worked g.row.W.Denot)). IsFirst (map stop_of l) c.first_fault-others.result) c.as_slice.ensures.value c.first_fault-others.ensures;
}

pub close-requires-clause-table : goal.close-requires-clause-table
close-requires-clause-table g c =
    let at = goal.at.close-requires-clause-table g c in
    subst (All (λ (p : Pass). p.table ≡ c.args.desk.table)) (sym c.put_first-passes.ensures)
    (All-weaker (IsOf c.args.desk) (λ (p : Pass). p.table ≡ c.args.desk.table) (λ p x. x.0) (c.work_on-done.result.pass ∷ c.meet_all-back.result.passes.items)
    (back_of _ _ _ _ _ _ _ _ _ _ (back g at.After-put_first-workers (of g at.After-remove-one) (work g at.After-spread-worked (alike g at.After-remove-one)))))

pub close-requires-clause-all : goal.close-requires-clause-all
close-requires-clause-all g c =
    let at = goal.at.close-requires-clause-all g c in
    let n = came g at.After-spread-worked in let m = all g at.After-remove-one in
    let z = zip_length _ c.spread-worked.result.items c.meet_all-back.result.passes.items c.meet_all-back.ensures.others in
    let a = c.put_first-passes.result.ok.0 in let b = c.args.workers.ok.0 in
    let e = ap length c.put_first-passes.ensures in
    let w = c.requires.workers.1 in
    omega arith

-- what is left of all
leaves : (g : Over) (c : In-Ok g) → c.args.workers.items ≡ c.remove-one.result ∷ c.remove-one.new.self.items
    → Back (g.W.Worker.answers c.remove-one.result.1) c.args.desk c.remove-one.result.0 c.meet_all-back.new.mine c.work_on-done.result.pass (map (λ w. w.0) c.remove-one.new.self.items) c.meet_all-back.result.passes.items c.spread-worked.result.items c.first_fault-others.result c.work_on-done.result.fault
    → Leaves g.W.Worker.tells g.W.Functions.calls (first_answers g.W.Worker.answers (map (λ w. w.1) c.args.workers.items)) c.args.desk (map (λ w. w.0) c.args.workers.items) (map (λ w. w.1) c.args.workers.items) c.is_any_alone-refused.result c.first_of-first.result
    (record { closed = c.in-Ok.closed; workers = c.put_first-workers.result })
leaves g c parts came_back =
    let e = c.in-Ok.ensures in
    let left : Left g.row.W.Denot = record { closed = c.in-Ok.closed; workers = c.put_first-workers.result } in
    subst (λ l. Leaves g.W.Worker.tells g.W.Functions.calls (first_answers g.W.Worker.answers (map (λ w. w.1) l)) c.args.desk (map (λ w. w.0) l) (map (λ w. w.1) l) c.is_any_alone-refused.result c.first_of-first.result left) (sym parts)
    (back_leaves g.W.Worker.tells g.W.Functions.calls g.W.Worker.answers _ c.args.desk c.remove-one.result.0 c.meet_all-back.new.mine c.work_on-done.result.pass c.remove-one.new.self.items c.meet_all-back.result.passes.items c.spread-worked.result.items c.first_fault-others.result c.work_on-done.result.fault c.remove-one.result.1 c.work_on-done.result.worker
    came_back c.spread-worked.ensures c.work_on-done.ensures.worked.called c.is_any_alone-refused.result c.first_of-first.result left
    (shut_of _ _ _ _ _ _ c.put_first-passes.ensures e.history e.passes e.fit e.one e.graph)
    (c.put_first-workers.ensures ∙ ap (λ l. c.work_on-done.result.worker ∷ l) c.meet_all-back.ensures.workers)
    (c.is_any_alone-refused.ensures ∙ ap (λ (l : List (Worked g.row.W.Denot)). is_any_alone l) c.as_slice-2.ensures.value)
    (c.first_of-first.ensures ∙ ap (λ n. first_with c.first_fault-others.result n c.work_on-done.result.fault) c.caller.ensures))

pub returns-clause-ran : goal.returns-clause-ran
returns-clause-ran g c =
    let at = goal.at.returns-clause-ran g c in
    let h = leaves g at.In-Ok (split g at.After-remove-one) (back g at.After-put_first-workers (of g at.After-remove-one) (work g at.After-spread-worked (alike g at.After-remove-one))) in
    let P : Left g.row.W.Denot → Type 0 = (λ left. RanOut (first_answers g.W.Worker.answers (map (λ w. w.1) c.args.workers.items)) c.args.desk (map (λ w. w.0) c.args.workers.items) left.closed.history.items left.closed.passes.items left.closed.graph.state) in
    subst (λ r. IfOk r P) (sym c.told.ensures) (told_left P c.is_any_alone-refused.result c.first_of-first.result (record { closed = c.in-Ok.closed; workers = c.put_first-workers.result }) (λ any none. h.out none))

pub returns-clause-called : goal.returns-clause-called
returns-clause-called g c =
    let at = goal.at.returns-clause-called g c in
    let h = leaves g at.In-Ok (split g at.After-remove-one) (back g at.After-put_first-workers (of g at.After-remove-one) (work g at.After-spread-worked (alike g at.After-remove-one))) in
    let P : Left g.row.W.Denot → Type 0 = (HaveCalled g.W.Worker.tells g.W.Functions.calls (map (λ w. w.0) c.args.workers.items) (map (λ w. w.1) c.args.workers.items)) in
    subst (λ r. IfOk r P) (sym c.told.ensures) (told_left P c.is_any_alone-refused.result c.first_of-first.result (record { closed = c.in-Ok.closed; workers = c.put_first-workers.result }) (λ any none. h.called))

pub returns-clause-threads : goal.returns-clause-threads
returns-clause-threads g c =
    let at = goal.at.returns-clause-threads g c in
    let h = leaves g at.In-Ok (split g at.After-remove-one) (back g at.After-put_first-workers (of g at.After-remove-one) (work g at.After-spread-worked (alike g at.After-remove-one))) in
    let P : Left g.row.W.Denot → Type 0 = (λ left. HadThreads (first_answers g.W.Worker.answers (map (λ w. w.1) c.args.workers.items)) c.args.desk (map (λ w. w.0) c.args.workers.items) left false) in
    subst (λ r. IfOk r P) (sym c.told.ensures) (told_left P c.is_any_alone-refused.result c.first_of-first.result (record { closed = c.in-Ok.closed; workers = c.put_first-workers.result }) (λ any none. subst (HadThreads _ c.args.desk _ _) any h.threads))

pub returns-clause-refused : goal.returns-clause-refused
returns-clause-refused g c =
    let at = goal.at.returns-clause-refused g c in
    let h = leaves g at.In-Ok (split g at.After-remove-one) (back g at.After-put_first-workers (of g at.After-remove-one) (work g at.After-spread-worked (alike g at.After-remove-one))) in
    subst (λ r. IfErr r (RunRefuses g.W.Worker.tells g.W.Functions.calls (first_answers g.W.Worker.answers (map (λ w. w.1) c.args.workers.items)) c.args.desk (map (λ w. w.0) c.args.workers.items) (map (λ w. w.1) c.args.workers.items))) (sym c.told.ensures) (told_refused _ _ _ _ _ _ _ _ _ h)
