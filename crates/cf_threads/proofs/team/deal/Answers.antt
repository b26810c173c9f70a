use Rattle.std.proofs.Common.{◌++◌, ◌∷◌, ◌-◌, [], List, length, length-append, refl, sym, ap, ◌∙◌, subst, append_assoc, arith, rules}
use Rattle.std.specs.List.{AllZip}
use Rattle.std.specs.Vec.Iter.{into_iter_items}
use Rattle.cf_threads.specs.Slips.{keeper}
use Rattle.cf_threads.specs.Teams.{IsDealt, Slip}
use Rattle.cf_threads.proofs.Dealt.{is_keeper, keeper_less, zip_push}
use Rattle.cf_threads.proofs.team.deal.Goals as goal

pub next-init : goal.next-init
next-init g c = record {
  done = [];
  parts = search rules;
  few = search rules;
  left = (let n = c.requires.room in search rules);
  table = refl;
  view = c.requires.whole;
  each = subst (λ (l : List (g.row.F.Denot × Slip)). AllZip (IsDealt c.args.all.now.table_id) [] l) (sym c.requires.none) tt;
}

pub cut-mine-requires : goal.cut-mine-requires
cut-mine-requires g c =
    let i = c.next.invariant in
    record {
      own = i.table ∙ c.requires.own;
      keeper = (
        is_keeper _ _ _ i.view,
        (let p = ap (λ v. v.parts) i.view in let f = i.few in let one = c.in-Some.ensures.cases.1 in let few = c.requires.few in omega (arith, p, f, one, few)),
      );
    }

pub push_reserved-requires : goal.push_reserved-requires
push_reserved-requires g c = let left = c.next.invariant.left in let one = c.in-Some.ensures.cases.1 in omega (arith, left, one)

pub next-preserved : goal.next-preserved
next-preserved g c =
    let i = c.next.invariant in
    let pushed = c.push_reserved.ensures in
    let rest = c.in-Some.ensures.cases in
    let cut = c.cut-mine.ensures in
    let more = length-append i.done (c.in-Some.one ∷ []) in
    record {
      done = i.done ++ c.in-Some.one ∷ [];
      parts = i.parts ∙ ap (λ l. i.done ++ l) rest.0 ∙ sym (append_assoc i.done (c.in-Some.one ∷ []) (into_iter_items c.next-in-next.new.self));
      few = (let f = i.few in let r = rest.1 in omega (arith, f, r, more));
      left = (let l = i.left in let n = pushed.len in let k = pushed.capacity in let r = rest.1 in omega (arith, l, n, k, r));
      table = cut.kept.0.0 ∙ i.table;
      view = keeper_less (length i.done) _ _ _ i.view cut.kept.1 (omega (arith, more));
      each = subst (AllZip (IsDealt c.args.all.now.table_id) (i.done ++ c.in-Some.one ∷ [])) (sym {A = List (g.row.F.Denot × Slip)} pushed.items)
          (zip_push (IsDealt c.args.all.now.table_id) i.done c.next.jobs.items c.in-Some.one (c.in-Some.one, c.cut-mine.result) i.each (refl, (cut.given.0 ∙ i.table, cut.given.1), cut.given.2));
    }
