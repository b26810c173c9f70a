use Rattle.std.proofs.Common.{◌∙◌, ap, arith, drop}
use Rattle.cf_forms.specs.Plans.{Planned, starts_of}
use Rattle.cf_core.specs.Keeping.Starts.{mark_starts, mark_those}
use Rattle.cf_core.proofs.Keeping.StartSound.{mark_starts-opened, opened_within}
use Rattle.cf_core.proofs.stages.mark_starts.Goals as goal

pub mark_those-requires : goal.mark_those-requires
mark_those-requires c =
    let plan = c.args.plan.now in
    let few = opened_within plan.opened c.opening-opening.result.now.stages plan.stages (ap (λ (p : Planned). p.stages) c.opening-opening.ensures) in
    λ m d l. let below = c.starts.ensures.below m d l in omega (arith, below, few, c.requires)

pub mark_attached-requires-clause-first : goal.mark_attached-requires-clause-first
mark_attached-requires-clause-first c =
    let plan = c.args.plan.now in
    let few = opened_within plan.opened c.opening-opening.result.now.stages plan.stages (ap (λ (p : Planned). p.stages) c.opening-opening.ensures) in
    omega (arith, few, c.stages.ensures.count)

pub returns : goal.returns
returns c =
    let plan = c.args.plan.now in
    let opened = c.opening-opening.result.now.stages in
    let marks = c.args.marks.now in
    c.mark_attached.ensures ∙ ap (mark_starts c.stages.result (drop c.stages.result plan.stages)) (c.mark_those.ensures.marks ∙ ap (λ s. mark_those s marks) c.starts.ensures.starts)
    ∙ ap (λ n. mark_starts n (drop n plan.stages) (mark_those (starts_of opened) marks)) c.stages.ensures.count
    ∙ mark_starts-opened plan.opened opened plan.stages marks (ap (λ (p : Planned). p.stages) c.opening-opening.ensures)
