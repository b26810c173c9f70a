use Rattle.std.proofs.Common.{◌≡◌, ◌+◌, ◌-◌, ◌∙◌, ◌++◌, ℕ, ap, arith, drop, length, min, subst, take}
use Rattle.cf_request.specs.Telling.{Teller}
use Rattle.cf_request.proofs.Lists.{drop_up_to, take_up_to}
use Rattle.cf_request.proofs.teller.Teller.took.Goals as goal

more : (c : goal.After-self-1) → c.min.result ≡ min c.args.count (length c.self.inside.order.items - c.self.inside.count)
more c =
    let long : c.len.result ≡ length c.self.inside.order.items = omega (arith, c.len.ensures, c.self.inside.order.ok.0) in
    c.min.ensures ∙ ap (λ (n : ℕ). min c.args.count (n - c.self.inside.count)) long

pub returns-clause-taken : goal.returns-clause-taken
returns-clause-taken c =
    let t = c.self.inside in
    subst (λ (x : Teller). take (t.count + c.min.result) t.order.items ≡ x.taken ++ take c.args.count x.told) c.self.view_is
    (ap (λ (k : ℕ). take (t.count + k) t.order.items) (more c) ∙ take_up_to t.count c.args.count t.order.items)

pub returns-clause-told : goal.returns-clause-told
returns-clause-told c =
    let t = c.self.inside in
    subst (λ (x : Teller). drop (t.count + c.min.result) t.order.items ≡ drop c.args.count x.told) c.self.view_is
    (ap (λ (k : ℕ). drop (t.count + k) t.order.items) (more c) ∙ drop_up_to t.count c.args.count t.order.items)
