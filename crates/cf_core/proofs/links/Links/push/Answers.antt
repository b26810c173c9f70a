use Rattle.std.proofs.Common.{◌<◌, List, arith, ap, sym, subst, ℕ, length}
use Rattle.cf_core.specs.Keeping.Links.{list_at, IsFree}
use Rattle.cf_core.proofs.Keeping.LinkLemmas.{length-lists_of, AreLinks-push, few_listed, lists_of-push}
use Rattle.cf_core.proofs.links.Links.push.Goals as goal

pub overflow_add-head : goal.overflow_add-head
overflow_add-head c =
    let l : c.args.target < length c.self.inside.heads.items = omega (arith, c.requires.target, ap length c.self.view_is, length-lists_of c.self.inside.next.items c.self.inside.heads.items) in
    let P : List (List ℕ) → Type 0 = λ lists. length (list_at lists c.args.target) < 65535 in
    let few = few_listed c.self.inside.next.items c.self.inside.heads.items c.args.target c.index-head.result.now 65535 l c.index-head.ensures (subst P (sym c.self.view_is) c.requires.room) in
    omega (arith, few)

pub invariant_of-self : goal.invariant_of-self
invariant_of-self c =
    let n = length-lists_of c.self.inside.next.items c.self.inside.heads.items in
    let l : c.args.target < length c.self.inside.heads.items = omega (arith, c.requires.target, ap length c.self.view_is, n) in
    let m : c.args.stage < length c.self.inside.next.items = omega (arith, c.requires.stage, ap length c.self.view_is, n, c.self.invariant.all_heads) in
    let P : List (List ℕ) → Type 0 = λ lists. IsFree lists c.args.stage in
    AreLinks-push c.self.inside.next.items c.self.inside.heads.items c.args.target c.args.stage c.index-head.result.now l m c.index-head.ensures (subst P (sym c.self.view_is) c.requires.free) c.self.invariant

pub returns : goal.returns
returns c =
    let n = length-lists_of c.self.inside.next.items c.self.inside.heads.items in
    let l : c.args.target < length c.self.inside.heads.items = omega (arith, c.requires.target, ap length c.self.view_is, n) in
    let m : c.args.stage < length c.self.inside.next.items = omega (arith, c.requires.stage, ap length c.self.view_is, n, c.self.invariant.all_heads) in
    let P : List (List ℕ) → Type 0 = λ lists. IsFree lists c.args.stage in
    rw (← c.self.view_is) (lists_of-push c.self.inside.next.items c.self.inside.heads.items c.args.target c.args.stage c.index-head.result.now l m c.index-head.ensures (subst P (sym c.self.view_is) c.requires.free))
