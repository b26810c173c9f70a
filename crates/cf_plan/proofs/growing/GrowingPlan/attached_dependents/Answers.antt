use Rattle.std.proofs.Common.{◌≡◌, ◌∙◌, ◌++◌, ◌<◌, ℕ, false, zero, suc, arith, ap, length, map, sym, take}
use Rattle.std.specs.Prelude.{reverse, ◌==◌}
use Rattle.std.proofs.Math.Seq.{take-append_seam}
use Rattle.cf_plan.specs.Growing.{attached_of, attached_dependents_of}
use Rattle.cf_forms.specs.Plans.{dependents_of}
use Rattle.cf_plan.proofs.GrowingLemmas.{dependents_split, attached_above, attached_below, listed}
use Rattle.cf_plan.proofs.growing.GrowingPlan.attached_dependents.Goals as goal

nonzero : (n : ℕ) → false ≡ (n == 0) → 0 < n
nonzero zero e = cc
nonzero (suc n) e = omega arith

pub returns-else-is_empty-clause-rest : goal.returns-else-is_empty-clause-rest
returns-else-is_empty-clause-rest c =
    let opening = c.self.inside.opening in
    let rows = c.self.inside.rows.items in
    let i = c.args.i in
    let within = listed _ _ _ _ _ _ _ i c.self.invariant (let o = c.self.inside.rows.ok.0 in let e = nonzero _ (sym c.if-is_empty.false ∙ c.is_empty.ensures) in omega arith) (rw (← c.self.view_is) at c.requires) in
    let is : c.list.result ≡ attached_dependents_of opening rows i = c.list.ensures ∙ c.self.invariant.lists.parts i within in
    let whole = take-append_seam opening.stages (map attached_of rows) in
    rw (← c.self.view_is)
    (dependents_split opening rows i ∙ ap (λ xs. dependents_of xs i ++ reverse (attached_dependents_of opening rows i)) (sym whole)
    ∙ ap (λ xs. dependents_of (take (length opening.stages) (opening.stages ++ map attached_of rows)) i ++ reverse xs) (sym is))

pub returns-else-is_empty-clause-above : goal.returns-else-is_empty-clause-above
returns-else-is_empty-clause-above c =
    let opening = c.self.inside.opening in
    let rows = c.self.inside.rows.items in
    let i = c.args.i in
    let within = listed _ _ _ _ _ _ _ i c.self.invariant (let o = c.self.inside.rows.ok.0 in let e = nonzero _ (sym c.if-is_empty.false ∙ c.is_empty.ensures) in omega arith) (rw (← c.self.view_is) at c.requires) in
    let is : c.list.result ≡ attached_dependents_of opening rows i = c.list.ensures ∙ c.self.invariant.lists.parts i within in
    rw is (attached_above opening rows i c.self.invariant.growing.built.lower)

pub returns-else-is_empty-clause-below : goal.returns-else-is_empty-clause-below
returns-else-is_empty-clause-below c =
    let opening = c.self.inside.opening in
    let rows = c.self.inside.rows.items in
    let i = c.args.i in
    let within = listed _ _ _ _ _ _ _ i c.self.invariant (let o = c.self.inside.rows.ok.0 in let e = nonzero _ (sym c.if-is_empty.false ∙ c.is_empty.ensures) in omega arith) (rw (← c.self.view_is) at c.requires) in
    let is : c.list.result ≡ attached_dependents_of opening rows i = c.list.ensures ∙ c.self.invariant.lists.parts i within in
    rw (is, ← c.self.view_is) (attached_below opening rows i)
