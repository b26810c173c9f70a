use Rattle.std.proofs.Common.{◌≡◌, ◌∙◌, None, Some, [], ap, set, sym}
use Rattle.cf_model.specs.declared.stage.Stage.TheVariants.{Settled}
use Rattle.cf_model.specs.States.{new_states, outcome_in}
use Rattle.cf_core.specs.Keeping.Landings.{linked_stages}
use Rattle.cf_core.specs.Keeping.SoundStages.{settled_view_of}
use Rattle.cf_core.proofs.Keeping.GraphLemmas.{told_below}
use Rattle.cf_core.proofs.stages.Stages.land_at.Goals as goal

pub returns-in-Some-clause-landed : goal.returns-in-Some-clause-landed
returns-in-Some-clause-landed c =
    let plan = c.args.plan.now.stages in
    let seen = settled_view_of plan c.args.self.now in
    let j = c.args.j in
    let told : outcome_in seen j ≡ Some c.in-Some.o = told_below plan c.args.self.now c.args.d j c.requires.sound c.requires.stage c.requires.treated c.requires.target ∙ sym c.outcome.ensures ∙ c.in-Some.is in
    c.settle.ensures.after ∙ ap (λ o. new_states [] plan (set seen c.args.d (Settled o))) c.wrap.ensures ∙ sym (ap (λ y. linked_stages y plan seen c.args.d j) told)

pub returns-in-None-clause-landed : goal.returns-in-None-clause-landed
returns-in-None-clause-landed c =
    let plan = c.args.plan.now.stages in
    let seen = settled_view_of plan c.args.self.now in
    let j = c.args.j in
    let told : outcome_in seen j ≡ None = told_below plan c.args.self.now c.args.d j c.requires.sound c.requires.stage c.requires.treated c.requires.target ∙ sym c.outcome.ensures ∙ c.in-None.is in
    c.link.ensures.linked ∙ sym (ap (λ y. linked_stages y plan seen c.args.d j) told)
