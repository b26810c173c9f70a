use Rattle.std.proofs.Common.{sym, subst, arith, rules}
use Rattle.std.specs.Vec.Iter.{into_iter_items}
use Rattle.std.specs.List.{All}
use Rattle.std.proofs.lemmas.List.Elements.{All-head, All-tail}
use Rattle.cf_desk.specs.Views.{IsOf}
use Rattle.cf_pool.proofs.Pools.{zip_begun, zip_ended, zip_step}
use Rattle.cf_pool.proofs.pool.start_all.Goals as goal

pub next-init : goal.next-init
next-init g c = record {
  all = subst (All (λ w. IsOf c.args.desk.now w.0)) (sym c.into_iter-rest.ensures.rest) c.requires.all;
  left = (let n = c.requires.room in search rules);
  each = zip_begun _ c.args.workers.items _ c.args.started.items (search rules) c.requires.none;
}

pub start-new-requires : goal.start-new-requires
start-new-requires g c =
    let there : IsOf c.args.desk.now c.in-Some.one.0 = All-head (λ w. IsOf c.args.desk.now w.0) c.in-Some.one (into_iter_items c.next-in-next.new.self) (subst (All (λ w. IsOf c.args.desk.now w.0)) c.in-Some.ensures.cases.0 c.next.invariant.all) in
    search (rules, there)

pub next-preserved : goal.next-preserved
next-preserved g c =
    let i = c.next.invariant in
    let pushed = c.push_reserved.ensures in
    let rest = c.in-Some.ensures.cases in record {
      all = All-tail (λ w. IsOf c.args.desk.now w.0) c.in-Some.one (into_iter_items c.next-in-next.new.self) (subst (All (λ w. IsOf c.args.desk.now w.0)) rest.0 i.all);
      left = (let l = i.left in let n = pushed.len in let k = pushed.capacity in let r = rest.1 in omega (arith, l, n, k, r));
      each = zip_step _ c.args.workers.items (into_iter_items c.next.rest) (into_iter_items c.next-in-next.new.self) c.next.started.items c.push_reserved.new.self.items c.in-Some.one c.start-new.result rest.0 pushed.items c.start-new.ensures i.each;
    }

pub returns : goal.returns
returns g c = zip_ended _ c.args.workers.items (into_iter_items c.next.rest) c.next.started.items (let e = c.in_default.ensures.cases.0 in let o = c.next.rest.rest.ok.0 in omega arith) c.next.invariant.each
