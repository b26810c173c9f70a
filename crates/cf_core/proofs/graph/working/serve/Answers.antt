use Rattle.std.proofs.Common.{◌≡◌, ◌+◌, ◌∙◌, Some, ap, sym}
use Rattle.std.specs.Prelude.{slice_get}
use Rattle.cf_model.specs.declared.stage.Stage.TheVariants.{Ready}
use Rattle.cf_model.specs.States.{is_ready}
use Rattle.cf_model.proofs.Stable.{landing-lower}
use Rattle.cf_core.specs.Keeping.SoundStages.{settled_view_of}
use Rattle.cf_core.proofs.Keeping.GraphLemmas.{told_stage}
use Rattle.cf_core.proofs.Keeping.Offering.{landing-composes}
use Rattle.cf_core.proofs.Keeping.Serving.{never_unready, serves_once}
use Rattle.cf_core.proofs.Keeping.Sweeping.{treated_swept}
use Rattle.cf_core.proofs.graph.working.serve.Goals as goal

pub landing_of-at-requires-clause-treated : goal.landing_of-at-requires-clause-treated
landing_of-at-requires-clause-treated g c =
    treated_swept c.args.plan.now.stages (c.args.i + 1) c.treat_up_to.new.self c.treat_up_to.ensures.sound c.treat_up_to.ensures.treated

pub land_ready-requires-clause-ready : goal.land_ready-requires-clause-ready
land_ready-requires-clause-ready g c = ap is_ready (sym c.stage.ensures ∙ c.in-Ready.is)

pub land_ready-requires-clause-target : goal.land_ready-requires-clause-target
land_ready-requires-clause-target g c j e = landing-lower _ _ _ _ j (sym c.landing_of-at.ensures ∙ e)

pub land_ready-requires-clause-composes : goal.land_ready-requires-clause-composes
land_ready-requires-clause-composes g c j e = landing-composes _ _ _ _ j (sym c.landing_of-at.ensures ∙ e)

pub returns-in-Ready-clause-taken : goal.returns-in-Ready-clause-taken
returns-in-Ready-clause-taken g c = λ i ne taken. c.land_ready.ensures.taken i ne (c.treat_up_to.ensures.taken i taken)

pub returns-in-Ready-clause-served : goal.returns-in-Ready-clause-served
returns-in-Ready-clause-served g c =
    let plan = c.args.plan.now.stages in
    let t = c.treat_up_to.new.self in
    let is : slice_get (settled_view_of plan t) c.args.i ≡ Some (Ready c.in-Ready.args) =
    told_stage plan t c.args.i c.treat_up_to.ensures.sound c.requires.stage c.treat_up_to.ensures.treated ∙ ap (λ x. Some x) (sym c.stage.ensures ∙ c.in-Ready.is) in
    serves_once g.F.Functions.calls plan c.args.functions.now c.answer_of-answer.new.functions (settled_view_of plan c.args.stages.now) (settled_view_of plan t) (settled_view_of plan c.land_ready.new.stages) c.args.i c.in-Ready.args
    c.answer_of-answer.result c.landing_of-at.result c.treat_up_to.ensures.same c.requires.lowest is c.answer_of-answer.ensures c.landing_of-at.ensures c.land_ready.ensures.landed

pub returns-in_default : goal.returns-in_default
returns-in_default g c =
    let plan = c.args.plan.now.stages in
    let t = c.treat_up_to.new.self in
    let told = told_stage plan t c.args.i c.treat_up_to.ensures.sound c.requires.stage c.treat_up_to.ensures.treated ∙ ap (λ x. Some x) (sym c.stage.ensures) in
    absurd (never_unready (settled_view_of plan c.args.stages.now) (settled_view_of plan t) c.args.i c.stage.result c.treat_up_to.ensures.same told c.requires.lowest c.in_default.not-Ready)
