use Rattle.std.proofs.Common.{◌≡◌, ap, arith, length, refl, subst, sym}
use Rattle.std.specs.List.{All}
use Rattle.std.proofs.lemmas.List.Elements.{All-push}
use Rattle.cf_pool.specs.declared.workers.Shared.{Shared}
use Rattle.cf_pool.proofs.Calling.{alike_shared, first_shared}
use Rattle.cf_pool.proofs.workers.share.Goals as goal

pub workers-init : goal.workers-init
workers-init g c = record {
  same = λ k d within. (let none = ap length c.in_ok-workers.ensures.items in absurd (omega (arith, within, none)));
  count = c.in_ok-workers.ensures.len;
}

pub workers-preserved : goal.workers-preserved
workers-preserved g c =
    let i = c.workers.invariant in record {
      same = subst (All (λ (w : Shared g.row.F.Denot g.row.G.Denot). w.functions.now ≡ c.args.functions.now)) (sym c.in_ok-push.ensures.items)
          (All-push (λ (w : Shared g.row.F.Denot g.row.G.Denot). w.functions.now ≡ c.args.functions.now) c.workers.workers.items _ i.same refl);
      count = (let n = i.count in let l = c.in_ok-push.ensures.len in omega (arith, n, l));
    }

pub returns-clause-alike : goal.returns-clause-alike
returns-clause-alike g c = alike_shared g.F.StageFn.meaning (λ w. w.functions.now) c.args.functions.now c.workers.workers.items c.workers.invariant.same

pub returns-clause-means : goal.returns-clause-means
returns-clause-means g c = λ l. first_shared g.F.StageFn.meaning (λ w. w.functions.now) c.args.functions.now c.workers.workers.items (let n = c.workers.invariant.count in let o = c.workers.workers.ok.0 in omega arith) c.workers.invariant.same
