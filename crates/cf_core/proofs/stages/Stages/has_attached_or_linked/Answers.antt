use Rattle.std.proofs.Common.{◌∙◌, ◌++◌, ap, append-nil, sym}
use Rattle.std.specs.Prelude.{reverse}
use Rattle.cf_plan.specs.Growing.{opening_dependents}
use Rattle.cf_core.specs.Keeping.Links.{list_at}
use Rattle.cf_core.proofs.Keeping.MarkLemmas.{none_first, nothing_left}
use Rattle.cf_core.proofs.stages.Stages.has_attached_or_linked.Goals as goal

pub returns-in-None-clause-dependents : goal.returns-in-None-clause-dependents
returns-in-None-clause-dependents c e =
    let first = opening_dependents c.args.plan.now c.args.d in
    c.attached_dependents-attached.ensures.rest
    ∙ ap (λ rest. first ++ reverse rest) (nothing_left c.attached_dependents-attached.result (sym c.in-None.is ∙ c.pop.ensures.first))
    ∙ append-nil first

pub returns-in-None-clause-links : goal.returns-in-None-clause-links
returns-in-None-clause-links c e = none_first (list_at c.args.self.now.links c.args.d) (sym c.has.ensures ∙ e)
