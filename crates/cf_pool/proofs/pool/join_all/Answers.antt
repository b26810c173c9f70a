use Rattle.std.proofs.Common.{arith, rules}
use Rattle.std.specs.Vec.Iter.{into_iter_items}
use Rattle.cf_pool.proofs.Pools.{zip_begun, zip_ended, zip_step}
use Rattle.cf_pool.proofs.pool.join_all.Goals as goal

pub next-init : goal.next-init
next-init g c = record {
  left = (let n = c.requires.room in search rules);
  each = zip_begun _ c.args.started.items _ c.args.worked.items (search rules) c.requires.none;
}

pub next-preserved : goal.next-preserved
next-preserved g c =
    let i = c.next.invariant in
    let pushed = c.push_reserved.ensures in
    let rest = c.in-Some.ensures.cases in record {
      left = (let l = i.left in let n = pushed.len in let k = pushed.capacity in let r = rest.1 in omega (arith, l, n, k, r));
      each = zip_step _ c.args.started.items (into_iter_items c.next.rest) (into_iter_items c.next-in-next.new.self) c.next.worked.items c.push_reserved.new.self.items c.in-Some.one c.ended-new.result rest.0 pushed.items c.ended-new.ensures i.each;
    }

pub returns : goal.returns
returns g c = zip_ended _ c.args.started.items (into_iter_items c.next.rest) c.next.worked.items (let e = c.in_default.ensures.cases.0 in let o = c.next.rest.rest.ok.0 in omega arith) c.next.invariant.each
