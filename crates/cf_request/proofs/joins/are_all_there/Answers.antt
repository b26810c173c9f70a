use Rattle.std.proofs.Common.{◌<◌, ℕ, suc, List, All, ap, arith, get_or, refl, subst}
use Rattle.std.proofs.lemmas.List.{take_all}
use Rattle.std.proofs.lemmas.List.Elements.{All-cons, All-more}
use Rattle.cf_request.proofs.joins.are_all_there.Goals as goal

pub returns-then-source-stages : goal.returns-then-source-stages
returns-then-source-stages c = (
  λ wrong. absurd (cc),
  λ all. absurd (
      let k = c.loop-source.source-index in
      let there = all.1 (suc k) 0 (omega arith) in
      let is = ap (λ (l : List ℕ). get_or l k 0) c.deref-source-items.ensures.value in
      omega (arith, there, is, c.if-source-stages.true)
      ),
)

pub loop-source-preserved : goal.loop-source-preserved
loop-source-preserved c =
    let row = c.args.join.now.others.items in
    let k = c.loop-source.source-index in
    let is = ap (λ (l : List ℕ). get_or l k 0) c.deref-source-items.ensures.value in
    All-more (λ (i : ℕ). i < c.args.stages) row k 0 (omega arith) c.loop-source.invariant (omega (arith, is, c.if-source-stages.false))

pub returns : goal.returns
returns c = (
  λ on. (
    omega arith,
    All-cons (λ (i : ℕ). i < c.args.stages) c.args.join.now.source c.args.join.now.others.items (omega arith)
        (subst (λ (l : List ℕ). All (λ (i : ℕ). i < c.args.stages) l) (take_all c.loop-source.source-index c.args.join.now.others.items (omega arith)) c.loop-source.invariant),
  ),
  λ all. refl,
)
