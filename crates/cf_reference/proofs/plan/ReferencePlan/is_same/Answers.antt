use Rattle.std.proofs.Common.{◌∙◌, ap, rules, sym}
use Rattle.cf_forms.specs.Plans.{Planned}
use Rattle.cf_reference.proofs.Attaching.{alike_grown, grown_alike}
use Rattle.cf_reference.proofs.plan.ReferencePlan.is_same.Goals as goal

pub returns-then-self-other : goal.returns-then-self-other
returns-then-self-other c =
    let a = c.self.inside in
    let b = c.other.inside in (
      λ no. search rules,
      λ e. absurd (c.if-self-other.true (grown_alike a.opening b.opening a.attached.items b.attached.items a.room b.room (c.self.view_is ∙ e ∙ sym c.other.view_is)).room),
    )

pub returns-then-not-same_plans : goal.returns-then-not-same_plans
returns-then-not-same_plans c =
    let a = c.self.inside in
    let b = c.other.inside in (
      λ no. search rules,
      λ e.
          let same = grown_alike a.opening b.opening a.attached.items b.attached.items a.room b.room (c.self.view_is ∙ e ∙ sym c.other.view_is) in
          sym c.if-not-same_plans.true ∙ c.same_plans.ensures.all same.stages same.limits,
    )

pub returns : goal.returns
returns c =
    let a = c.self.inside in
    let b = c.other.inside in (
      λ yes.
          let opening = c.same_plans.ensures.same c.if-not-same_plans.false in
          let attached = sym c.deref.ensures.value ∙ c.same_stages.ensures.0 yes ∙ c.deref-2.ensures.value in
          sym c.self.view_is
          ∙ alike_grown a.opening b.opening a.attached.items b.attached.items a.room b.room (record {
            stages = ap (λ (p : Planned). p.stages) opening;
            limits = ap (λ (p : Planned). p.limits) opening;
            attached = attached;
            room = c.if-self-other.false;
          })
          ∙ c.other.view_is,
      λ e.
          let same = grown_alike a.opening b.opening a.attached.items b.attached.items a.room b.room (c.self.view_is ∙ e ∙ sym c.other.view_is) in
          c.same_stages.ensures.1 (c.deref.ensures.value ∙ same.attached ∙ sym c.deref-2.ensures.value),
    )
