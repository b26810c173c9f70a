use Rattle.std.proofs.Common.{◌++◌, map, length, refl, ap, sym, ◌∙◌, arith}
use Rattle.cf_pool.proofs.Pools.{parts_step}
use Rattle.cf_pool.proofs.pool.pair.Goals as goal

pub next-init : goal.next-init
next-init g c =
    let rest = c.into_iter-rest.ensures in
    let hands = c.into_iter-hands.ensures in record {
      passes = rw c.requires.none (sym rest.rest);
      workers = rw c.requires.none (sym hands.rest);
      left = (let a = rest.len in let b = hands.len in let same = c.requires.same in omega (arith, a, b, same));
      room = (let a = rest.len in let none = ap length c.requires.none in let n = c.args.pairs.ok.0 in let r = c.requires.room in omega (arith, a, none, n, r));
    }

pub unreachable-requires : goal.unreachable-requires
unreachable-requires g c = let one = c.in-Some.ensures.cases.1 in let none = c.in_default-next.ensures.cases.0 in let left = c.next.invariant.left in omega (arith, one, none, left)

pub push_reserved-requires : goal.push_reserved-requires
push_reserved-requires g c = let room = c.next.invariant.room in let one = c.in-Some.ensures.cases.1 in omega (arith, room, one)

pub next-preserved : goal.next-preserved
next-preserved g c =
    let i = c.next.invariant in
    let pushed = c.push_reserved.ensures in
    let items = pushed.items in record {
      passes = parts_step (λ w. w.0) c.next.pairs.items c.push_reserved.new.self.items (c.in-Some.pass, c.in-Some-next.worker) c.in-Some.pass _ c.args.passes.items (i.passes ∙ ap (λ l. map (λ w. w.0) c.next.pairs.items ++ l) c.in-Some.ensures.cases.0) refl items;
      workers = parts_step (λ w. w.1) c.next.pairs.items c.push_reserved.new.self.items (c.in-Some.pass, c.in-Some-next.worker) c.in-Some-next.worker _ c.args.workers.items (i.workers ∙ ap (λ l. map (λ w. w.1) c.next.pairs.items ++ l) c.in-Some-next.ensures.cases.0) refl items;
      left = (let l = i.left in let a = c.in-Some.ensures.cases.1 in let b = c.in-Some-next.ensures.cases.1 in omega (arith, l, a, b));
      room = (let l = i.room in let a = c.in-Some.ensures.cases.1 in let n = pushed.len in let k = pushed.capacity in omega (arith, l, a, n, k));
    }
