use Rattle.std.proofs.Common.{◌≡◌, ◌+◌, ◌<◌, ◌∙◌, Some, ap, arith, sym}
use Rattle.std.specs.Prelude.{option_and_then, slice_get}
use Rattle.cf_forms.specs.Plans.{sources_at}
use Rattle.cf_model.specs.States.{outcome_in}
use Rattle.cf_core.specs.Keeping.SoundStages.{settled_view_of}
use Rattle.cf_core.proofs.Keeping.GraphLemmas.{first_all}
use Rattle.cf_core.proofs.Keeping.Sweeping.{swept_outcome}
use Rattle.cf_core.proofs.stages.Stages.source.Goals as goal

pub returns-in-Some : goal.returns-in-Some
returns-in-Some c =
    let s = c.args.self.now in
    let plan = c.args.plan.now.stages in
    let j = c.in-Some.j.now in
    let first : slice_get c.sources.result.now 0 ≡ Some j = sym c.in-Some.ensures.value in
    let at : slice_get (sources_at plan c.args.i) 0 ≡ Some j = ap (λ xs. slice_get xs 0) (sym c.sources.ensures.sources) ∙ first in
    let below = first_all (λ k. k < c.args.i) c.sources.result.now j c.sources.ensures.lower first in
    c.outcome.ensures
    ∙ sym (swept_outcome plan s.kept.items s.links s.steps s.turns (c.args.i + 1) 0 j c.requires.treated (omega (arith, below, c.requires.stage)) (omega (arith, below)))
    ∙ ap (option_and_then (outcome_in (settled_view_of plan c.args.self.now))) (sym at)
