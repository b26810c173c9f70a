use Rattle.std.proofs.Common.{◌≡◌, ◌∙◌, ◌<◌, arith, ap, sym, length}
use Rattle.std.proofs.lemmas.Grind.{get_or_default_zero}
use Rattle.std.specs.Prelude.{slice_index}
use Rattle.cf_core.proofs.Keeping.LinkLemmas.{length-lists_of, AreLinks-pop, first_listed, first_within, lists_of-pop, lists_of-pop_none, none_listed}
use Rattle.cf_core.proofs.links.Links.pop.Goals as goal

pub returns-then-head-eq0-clause-first : goal.returns-then-head-eq0-clause-first
returns-then-head-eq0-clause-first c =
    let l : c.args.target < length c.self.inside.heads.items = omega (arith, ap length c.self.view_is, length-lists_of c.self.inside.next.items c.self.inside.heads.items) in
    rw (← c.self.view_is) (sym (none_listed c.self.inside.next.items c.self.inside.heads.items c.args.target c.index-head.result.now l c.index-head.ensures c.if-head-eq0.true))

pub returns-then-head-eq0-clause-rest : goal.returns-then-head-eq0-clause-rest
returns-then-head-eq0-clause-rest c =
    let l : c.args.target < length c.self.inside.heads.items = omega (arith, ap length c.self.view_is, length-lists_of c.self.inside.next.items c.self.inside.heads.items) in
    rw (← c.self.view_is) (lists_of-pop_none c.self.inside.next.items c.self.inside.heads.items c.args.target c.index-head.result.now l c.index-head.ensures c.if-head-eq0.true)

pub index-requires : goal.index-requires
index-requires c =
    let l : c.args.target < length c.self.inside.heads.items = omega (arith, ap length c.self.view_is, length-lists_of c.self.inside.next.items c.self.inside.heads.items) in
    let m = first_within c.self.inside.next.items c.self.inside.heads.items c.args.target c.index-head.result.now l c.index-head.ensures c.if-head-eq0.false c.self.invariant in
    omega (arith, m)

pub invariant_of-self : goal.invariant_of-self
invariant_of-self c =
    let l : c.args.target < length c.self.inside.heads.items = omega (arith, ap length c.self.view_is, length-lists_of c.self.inside.next.items c.self.inside.heads.items) in
    let m = first_within c.self.inside.next.items c.self.inside.heads.items c.args.target c.index-head.result.now l c.index-head.ensures c.if-head-eq0.false c.self.invariant in
    let is : c.index.result.now ≡ slice_index c.self.inside.next.items c.index-head.result.now.first = c.index.ensures ∙ get_or_default_zero c.self.inside.next.items c.index-head.result.now.first c.index.result.now m in
    AreLinks-pop c.self.inside.next.items c.self.inside.heads.items c.args.target c.index-head.result.now c.index.result.now l c.index-head.ensures c.if-head-eq0.false is c.self.invariant

pub returns-clause-first : goal.returns-clause-first
returns-clause-first c =
    let l : c.args.target < length c.self.inside.heads.items = omega (arith, ap length c.self.view_is, length-lists_of c.self.inside.next.items c.self.inside.heads.items) in
    rw (← c.self.view_is) (sym (first_listed c.self.inside.next.items c.self.inside.heads.items c.args.target c.index-head.result.now l c.index-head.ensures c.if-head-eq0.false))

pub returns-clause-rest : goal.returns-clause-rest
returns-clause-rest c =
    let l : c.args.target < length c.self.inside.heads.items = omega (arith, ap length c.self.view_is, length-lists_of c.self.inside.next.items c.self.inside.heads.items) in
    let m = first_within c.self.inside.next.items c.self.inside.heads.items c.args.target c.index-head.result.now l c.index-head.ensures c.if-head-eq0.false c.self.invariant in
    let is : c.index.result.now ≡ slice_index c.self.inside.next.items c.index-head.result.now.first = c.index.ensures ∙ get_or_default_zero c.self.inside.next.items c.index-head.result.now.first c.index.result.now m in
    rw (← c.self.view_is) (lists_of-pop c.self.inside.next.items c.self.inside.heads.items c.args.target c.index-head.result.now c.index.result.now l c.index-head.ensures c.if-head-eq0.false is)

pub returns-clause-within : goal.returns-clause-within
returns-clause-within c =
    let l : c.args.target < length c.self.inside.heads.items = omega (arith, ap length c.self.view_is, length-lists_of c.self.inside.next.items c.self.inside.heads.items) in
    let m = first_within c.self.inside.next.items c.self.inside.heads.items c.args.target c.index-head.result.now l c.index-head.ensures c.if-head-eq0.false c.self.invariant in
    omega (arith, m, ap length c.self.view_is, length-lists_of c.self.inside.next.items c.self.inside.heads.items, c.self.invariant.all_heads)
