use Rattle.std.proofs.Common.{◌≡◌, ap, arith, length, ◌∙◌}
use Rattle.cf_forms.specs.Plans.{Planned, starts_of}
use Rattle.cf_plan.specs.Rows.{stages_of}
use Rattle.cf_plan.proofs.StartLemmas.{starts_below, starts_rising}
use Rattle.cf_plan.proofs.plan.Plan.starts.Goals as goal

pub returns : goal.returns
returns c =
    let inside = c.behind-self.inside in
    let stages = stages_of inside.sources.items inside.rows.items in
    let count = ap (λ (p : Planned). length p.stages) (c.behind-self.view_is ∙ c.deref.ensures ∙ c.self.view_is) in
    let is : c.as_slice.result.now ≡ starts_of stages = c.as_slice.ensures.value ∙ c.behind-self.invariant.2 in
    let below = starts_below 0 stages in
    record {
      starts = is ∙ ap (λ (p : Planned). starts_of p.stages) (c.behind-self.view_is ∙ c.deref.ensures ∙ c.self.view_is);
      below = rw is (λ m d l. let b = below m d l in omega (arith, count));
      rising = rw is (starts_rising 0 stages);
    }
