use Rattle.std.proofs.Common.{◌≡◌, ◌++◌, ◌∷◌, ◌+◌, [], List, length-append, refl, sym, ap, ◌∙◌, subst, append_assoc, arith, rules}
use Rattle.std.specs.List.{All, AllZip}
use Rattle.std.specs.Vec.Iter.{into_iter_items}
use Rattle.crossbeam_utils.specs.Seq.{cell_view}
use Rattle.cf_threads.specs.Teams.{IsBack, IsLeft, Slip, turns_of}
use Rattle.cf_threads.specs.Turns.{weigh}
use Rattle.cf_threads.specs.declared.team.Worked.{Worked}
use Rattle.cf_threads.proofs.Dealt.{all_middle, weighs_more, zip_push}
use Rattle.cf_threads.proofs.team.take_all_back.Given.{Over}
use Rattle.cf_threads.proofs.team.take_all_back.Goals as goal
use Rattle.cf_threads.proofs.team.take_all_back.Goals.{In-Some}

parts : (g : Over) (c : In-Some g) → c.args.ended.items ≡ c.next.invariant.done ++ c.in-Some.one ∷ into_iter_items c.next-in-next.new.self
parts g c = c.next.invariant.parts ∙ ap (λ l. c.next.invariant.done ++ l) c.in-Some.ensures.cases.0

one_back : (g : Over) (c : In-Some g) → IsBack c.args.all.now.table_id c.in-Some.one
one_back g c = all_middle (IsBack c.args.all.now.table_id) c.next.invariant.done c.in-Some.one (into_iter_items c.next-in-next.new.self) (subst (All (IsBack c.args.all.now.table_id)) (parts g c) c.requires.slips)

pub next-init : goal.next-init
next-init g c = record {
  done = [];
  parts = search rules;
  left = (let n = c.requires.room in search rules);
  table = refl;
  keeps = refl;
  knows = refl;
  shares = omega arith;
  weighs = λ weight. ap (weigh weight) c.requires.keeper.0 ∙ sym (ap (weigh (λ (w : Worked g.row.F.Denot). weigh weight (turns_of w))) c.requires.keeper.1);
  workers = subst (λ (l : List (Worked g.row.F.Denot)). AllZip IsLeft [] l) (sym c.requires.keeper.1) tt;
}

pub take_back-requires : goal.take_back-requires
take_back-requires g c =
    let i = c.next.invariant in
    let b = one_back g (goal.at.take_back-requires g c).In-Some in
    record { own = i.table ∙ c.requires.own; slip = (b.0.0 ∙ sym i.table, b.0.1) }

pub push_reserved-requires : goal.push_reserved-requires
push_reserved-requires g c = let left = c.next.invariant.left in let one = c.in-Some.ensures.cases.1 in omega (arith, left, one)

pub next-preserved : goal.next-preserved
next-preserved g c =
    let i = c.next.invariant in
    let at = (goal.at.next-preserved g c).In-Some in
    let b = one_back g at in
    let back = c.take_back.ensures in
    let pushed = c.push_reserved.ensures in
    let rest = c.in-Some.ensures.cases.1 in
    let left : Worked g.row.F.Denot = record { functions = c.in-Some.one.functions; stopped = c.in-Some.one.stopped; turns = c.of-turns.result } in
    record {
      done = i.done ++ c.in-Some.one ∷ [];
      parts = parts g at ∙ sym (append_assoc i.done (c.in-Some.one ∷ []) (into_iter_items c.next-in-next.new.self));
      left = (let l = i.left in let n = pushed.len in let k = pushed.capacity in omega (arith, l, n, k, rest));
      table = back.0.0 ∙ i.table;
      keeps = ap (λ v. v.keeps) back.1 ∙ i.keeps;
      knows = ap (λ v. v.all) back.1 ∙ i.knows;
      shares = (let n = ap (λ v. v.parts) back.1 in let m = ap (λ v. v.parts) b.1 in let s = i.shares in let l = length-append i.done (c.in-Some.one ∷ []) in omega (arith, n, m, s, l));
      weighs = weighs_more (cell_view c.next.all) (cell_view c.take_back.new.all) (cell_view c.in-Some.one.mine) c.next.back.items c.push_reserved.new.self.items left i.weighs back.1
          (ap (λ (s : Slip). (cell_view s).mine) c.of-turns.ensures) pushed.items;
      workers = subst (AllZip IsLeft (i.done ++ c.in-Some.one ∷ [])) (sym {A = List (Worked g.row.F.Denot)} pushed.items) (zip_push IsLeft i.done c.next.back.items c.in-Some.one left i.workers (record { functions = refl; stopped = refl; turns = c.of-turns.ensures }));
    }
