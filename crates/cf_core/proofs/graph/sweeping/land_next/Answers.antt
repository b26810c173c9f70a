use Rattle.std.proofs.Common.{◌∙◌, ap, set, sym}
use Rattle.std.specs.Prelude.{option_and_then, slice_get}
use Rattle.cf_outcome.specs.declared.outcome.Outcome.TheVariants.{Value as Gives}
use Rattle.cf_forms.specs.Forms.{landing}
use Rattle.cf_forms.specs.Plans.{form_at, sources_at}
use Rattle.cf_model.specs.declared.stage.Stage.TheVariants.{Claimed}
use Rattle.cf_model.specs.States.{is_ready, outcome_in}
use Rattle.cf_model.proofs.Stable.{landing-lower}
use Rattle.cf_core.specs.Keeping.Landings.{landed_stages}
use Rattle.cf_core.specs.Keeping.SoundStages.{settled_view_of}
use Rattle.cf_core.proofs.Keeping.Offering.{landing-composes}
use Rattle.cf_core.proofs.Keeping.Serving.{settles-claimed}
use Rattle.cf_core.proofs.graph.sweeping.land_next.Goals as goal

pub returns-in-Some-clause-landed : goal.returns-in-Some-clause-landed
returns-in-Some-clause-landed c =
    let plan = c.args.plan.now.stages in
    let s = c.args.stages.now in
    let source = option_and_then (outcome_in (settled_view_of plan s)) (slice_get (sources_at plan c.args.m) 0) in
    settles-claimed plan (settled_view_of plan s) (settled_view_of plan c.settle_ready.new.self) c.args.m (landing (form_at plan c.args.m) c.args.m source c.args.answer) (Gives c.in-Some.v)
    (ap (λ form. landing form c.args.m source c.args.answer) (sym c.form.ensures) ∙ c.in-Some.ensures c.args.m source) c.settle_ready.ensures.after

pub land_swept-requires-clause-ready : goal.land_swept-requires-clause-ready
land_swept-requires-clause-ready c = ap is_ready c.write_ready.ensures.ready

pub land_swept-requires-clause-target : goal.land_swept-requires-clause-target
land_swept-requires-clause-target c j e = landing-lower _ _ _ _ j (sym c.landing_of-at.ensures ∙ e)

pub land_swept-requires-clause-composes : goal.land_swept-requires-clause-composes
land_swept-requires-clause-composes c j e = landing-composes _ _ _ _ j (sym c.landing_of-at.ensures ∙ e)

pub returns-in-None-clause-landed : goal.returns-in-None-clause-landed
returns-in-None-clause-landed c =
    let plan = c.args.plan.now.stages in
    let m = c.args.m in
    let seen = settled_view_of plan c.write_ready.new.self in
    c.land_swept.ensures.landed
    ∙ ap (landed_stages plan (set seen m Claimed) m) c.landing_of-at.ensures
    ∙ ap (λ xs. landed_stages plan (set xs m Claimed) m (landing (form_at plan m) m (option_and_then (outcome_in xs) (slice_get (sources_at plan m) 0)) c.args.answer)) c.write_ready.ensures.same

pub returns-in-None-clause-taken : goal.returns-in-None-clause-taken
returns-in-None-clause-taken c = λ i ne taken. c.land_swept.ensures.taken i ne (c.write_ready.ensures.taken i ne taken)
