use Rattle.std.proofs.Common.{◌≡◌, ◌≤◌, Bool, List, ap, arith, length, set, subst, sym, ◌∙◌}
use Rattle.cf_request.specs.Ready.{count_of}
use Rattle.cf_request.proofs.Sets.{count_few, count_less, count_more, same_by, set_same}
use Rattle.cf_request.proofs.ready.ReadySet.write.Goals as goal

pub returns-then-contains-ready : goal.returns-then-contains-ready
returns-then-contains-ready c =
    let l = c.self.inside in
    let now : set l.set c.args.i c.args.ready ≡ l.set =
    ap (set l.set c.args.i) (sym (same_by c.contains.result c.args.ready c.if-contains-ready.true)) ∙ set_same l.set c.args.i c.contains.result c.contains.ensures in
    subst (λ (flags : List Bool). flags ≡ set flags c.args.i c.args.ready) c.self.view_is (sym now)

pub overflow_add-self : goal.overflow_add-self
overflow_add-self c =
    let few = subst (λ (flags : List Bool). length flags ≤ 4096) (sym c.self.view_is) c.requires.few in
    let all = count_few c.self.inside.set in
    let is = c.self.invariant in
    omega (arith, few, all, is)

pub invariant_of-self : goal.invariant_of-self
invariant_of-self c =
    let l = c.self.inside in
    count_more l.set c.args.self.now l.count c.args.i c.contains.result c.args.ready c.self.view_is c.self.invariant c.requires.there c.contains.ensures c.if-contains-ready.false c.if-ready.true ∙ ap count_of (sym c.insert.ensures)

pub overflow_sub-self : goal.overflow_sub-self
overflow_sub-self c =
    let l = c.self.inside in
    let less = count_less l.set c.args.self.now l.count c.args.i c.contains.result c.args.ready c.self.view_is c.self.invariant c.requires.there c.contains.ensures c.if-contains-ready.false c.if-ready.false in
    omega (arith, less)

pub invariant_of-self-else-ready : goal.invariant_of-self-else-ready
invariant_of-self-else-ready c =
    let l = c.self.inside in
    let less = count_less l.set c.args.self.now l.count c.args.i c.contains.result c.args.ready c.self.view_is c.self.invariant c.requires.there c.contains.ensures c.if-contains-ready.false c.if-ready.false in
    let now = ap count_of c.remove.ensures in
    omega (arith, less, now)
