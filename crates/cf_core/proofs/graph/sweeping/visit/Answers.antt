use Rattle.std.proofs.Common.{◌≡◌, ◌∙◌, Some, ap, refl, sym}
use Rattle.std.specs.Prelude.{position, slice_get}
use Rattle.cf_model.specs.declared.stage.Stage.TheVariants.{Ready}
use Rattle.cf_model.specs.States.{is_ready}
use Rattle.cf_core.specs.Keeping.SoundStages.{settled_view_of}
use Rattle.cf_core.proofs.Keeping.GraphLemmas.{AreClaimed-closed, AreClaimed-stay}
use Rattle.cf_core.proofs.Keeping.Serving.{serves_once}
use Rattle.cf_core.proofs.Keeping.Sweeping.{with_lowest, with_stage}
use Rattle.cf_core.proofs.graph.sweeping.visit.Goals as goal

pub returns-in-Some-clause-served : goal.returns-in-Some-clause-served
returns-in-Some-clause-served g c =
    let plan = c.args.plan.now.stages in
    let t = c.next_swept.new.self in
    let ready = c.in-Some.ensures.ready in
    let lowest = ap (position is_ready) (sym (ready.same ∙ c.in-Some.ensures.same)) ∙ with_lowest plan t.kept.items t.links t.steps t.turns c.args.m c.in-Some.args c.requires.stage ready.swept in
    let is : slice_get (settled_view_of plan t) c.args.m ≡ Some (Ready c.in-Some.args) =
    ap (λ xs. slice_get xs c.args.m) (sym ready.same) ∙ with_stage plan t.kept.items t.links t.steps t.turns c.args.m c.in-Some.args c.requires.stage ready.swept in (
      serves_once g.F.Functions.calls plan c.args.functions.now c.answer_of-answer.new.functions (settled_view_of plan c.args.stages.now) (settled_view_of plan t) (settled_view_of plan c.land_next.new.stages) c.args.m c.in-Some.args
          c.answer_of-answer.result _ c.in-Some.ensures.same lowest is c.answer_of-answer.ensures refl c.land_next.ensures.landed,
      refl,
    )

pub returns-in-Some-clause-claimed : goal.returns-in-Some-clause-claimed
returns-in-Some-clause-claimed g c =
    let s = c.args.stages.now in
    let t = c.next_swept.new.self in
    AreClaimed-closed c.args.claims.now.items t.kept.items c.land_next.new.stages.kept.items c.args.m
    (AreClaimed-stay c.args.claims.now.items s.kept.items t.kept.items c.requires.claimed c.in-Some.ensures.taken) c.land_next.ensures.taken

pub returns-in-None-clause-claimed : goal.returns-in-None-clause-claimed
returns-in-None-clause-claimed g c =
    let s = c.args.stages.now in
    let t = c.next_swept.new.self in
    AreClaimed-stay c.args.claims.now.items s.kept.items t.kept.items c.requires.claimed c.in-None.ensures.taken
