use Rattle.std.proofs.Common.{◌≡◌, ℕ, ap, arith, length, subst, ◌∙◌}
use Rattle.cf_forms.specs.Plans.{Planned, dependents_of, mentions, sources_at}
use Rattle.cf_plan.specs.Rows.{stages_of}
use Rattle.cf_plan.proofs.DependentLemmas.{dependents_above, dependents_converse, dependents_rising, dependents_there}
use Rattle.cf_plan.proofs.plan.Plan.dependents.Goals as goal

pub returns : goal.returns
returns c =
    let inside = c.behind-self.inside in
    let i = c.args.i in
    let stages = stages_of inside.sources.items inside.rows.items in
    let count = ap (λ (p : Planned). length p.stages) (c.behind-self.view_is ∙ c.deref.ensures ∙ c.self.view_is) in
    let is : c.of.result.now ≡ dependents_of stages i = c.of.ensures ∙ c.behind-self.invariant.1.parts i (omega (arith, count, c.requires)) in
    let there = dependents_there stages i in
    let Names : Planned → Type 0 = λ p. (k : ℕ) → mentions k c.of.result.now ≡ mentions i (sources_at p.stages k) in
    record {
      dependents = is ∙ ap (λ (p : Planned). dependents_of p.stages i) (c.behind-self.view_is ∙ c.deref.ensures ∙ c.self.view_is);
      above = rw is (dependents_above 0 stages i c.behind-self.invariant.0.built.lower);
      below = rw is (λ m d l. let b = there m d l in omega (arith, count));
      rising = rw is (dependents_rising 0 stages i);
      converse = subst Names (c.behind-self.view_is ∙ c.deref.ensures ∙ c.self.view_is) (rw is (λ k. dependents_converse stages i k));
    }
