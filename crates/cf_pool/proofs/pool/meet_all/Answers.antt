use Rattle.std.proofs.Common.{◌≡◌, ◌++◌, ◌∷◌, [], List, length, sym, ap, ◌∙◌, subst, append_assoc, arith, rules}
use mathlib.Core.List.{map-append}
use Rattle.std.specs.List.{All, AllZip}
use Rattle.std.specs.Vec.Iter.{into_iter_items}
use Rattle.cf_desk.specs.Rule.{AllShort}
use Rattle.cf_desk.specs.Views.{Pass, knowns}
use Rattle.cf_desk.proofs.Gathers.{all_at}
use Rattle.cf_pool.specs.declared.pool.Worked.{Worked}
use Rattle.cf_pool.specs.Runs.{SeesOn}
use Rattle.cf_pool.proofs.Pools.{sees_itself, sees_left, sees_right, sees_then, short_met, zip_push}
use Rattle.cf_pool.proofs.pool.meet_all.Given.{Over}
use Rattle.cf_pool.proofs.pool.meet_all.Goals as goal
use Rattle.cf_pool.proofs.pool.meet_all.Goals.{In-Some}

parts : (g : Over) (c : In-Some g) → c.args.worked.items ≡ c.next.invariant.done ++ c.in-Some.w ∷ into_iter_items c.next-in-next.new.self
parts g c = c.next.invariant.parts ∙ ap (λ l. c.next.invariant.done ++ l) c.in-Some.ensures.cases.0

pub next-init : goal.next-init
next-init g c = record {
  done = [];
  parts = search rules;
  left = (let n = c.requires.room.0 in search rules);
  left_too = (let n = c.requires.room.1 in search rules);
  room = omega arith;
  room_too = omega arith;
  mine = sees_itself c.args.mine.now;
  others = subst (λ (l : List Pass). AllZip (SeesOn {M = g.row.W.Denot}) [] l) (sym c.requires.none.0) tt;
  workers = c.requires.none.1;
  short = subst (λ (l : List Pass). AllShort (length c.args.mine.now.known.seen) (knowns l)) (sym c.requires.none.0) tt;
}

pub meet-requires : goal.meet-requires
meet-requires g c =
    let i = c.next.invariant in record {
      table = (
        i.mine.same.0 ∙ c.requires.table.0,
        all_at (λ (w : Worked g.row.W.Denot). w.pass.table ≡ c.args.desk.now.table) i.done c.in-Some.w (into_iter_items c.next-in-next.new.self)
            (subst (All (λ (w : Worked g.row.W.Denot). w.pass.table ≡ c.args.desk.now.table)) (parts g (goal.at.meet-requires g c).In-Some) c.requires.table.1),
      );
    }

pub push_reserved-requires : goal.push_reserved-requires
push_reserved-requires g c = let left = c.next.invariant.left in let one = c.in-Some.ensures.cases.1 in omega (arith, left, one)

pub push_reserved-requires-in-Some : goal.push_reserved-requires-in-Some
push_reserved-requires-in-Some g c = let left = c.next.invariant.left_too in let one = c.in-Some.ensures.cases.1 in omega (arith, left, one)

pub returns-clause-room : goal.returns-clause-room
returns-clause-room g c = c.next.invariant.room

pub returns-clause-room_too : goal.returns-clause-room_too
returns-clause-room_too g c = c.next.invariant.room_too

pub next-preserved : goal.next-preserved
next-preserved g c =
    let i = c.next.invariant in
    let at = (goal.at.next-preserved g c).In-Some in
    let m = c.meet.ensures.level in
    let passes = c.push_reserved.ensures in
    let workers = c.push_reserved-in-Some.ensures in
    let rest = c.in-Some.ensures.cases.1 in record {
      done = i.done ++ c.in-Some.w ∷ [];
      parts = parts g at ∙ sym (append_assoc i.done (c.in-Some.w ∷ []) (into_iter_items c.next-in-next.new.self));
      left = (let l = i.left in let n = passes.len in let k = passes.capacity in omega (arith, l, n, k, rest));
      left_too = (let l = i.left_too in let n = workers.len in let k = workers.capacity in omega (arith, l, n, k, rest));
      room = (let r = i.room in let k = passes.capacity in omega (arith, r, k));
      room_too = (let r = i.room_too in let k = workers.capacity in omega (arith, r, k));
      mine = sees_then c.args.mine.now c.next.mine c.meet.new.p i.mine (sees_left c.next.mine c.in-Some.w.pass c.meet.new.p c.meet.new.q m);
      others = subst (AllZip SeesOn (i.done ++ c.in-Some.w ∷ [])) (sym {A = List Pass} passes.items) (zip_push SeesOn i.done c.next.back.passes.items c.in-Some.w c.meet.new.q i.others (sees_right c.next.mine c.in-Some.w.pass c.meet.new.p c.meet.new.q m));
      workers = workers.items ∙ ap (λ l. l ++ c.in-Some.w.worker ∷ []) i.workers ∙ sym (map-append (λ (w : Worked g.row.W.Denot). w.worker) i.done (c.in-Some.w ∷ []));
      short = subst (λ (l : List Pass). AllShort (length c.meet.new.p.known.seen) (knowns l)) (sym {A = List Pass} passes.items) (short_met c.next.mine c.in-Some.w.pass c.meet.new.p c.meet.new.q c.next.back.passes.items m i.short);
    }
