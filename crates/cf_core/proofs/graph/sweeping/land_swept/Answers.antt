use Rattle.std.proofs.Common.{◌≡◌, ◌+◌, ◌∙◌, [], None, Some, ap, arith, set, sym}
use Rattle.cf_model.specs.declared.stage.Stage.TheVariants.{Settled}
use Rattle.cf_model.specs.States.{new_states, outcome_in}
use Rattle.cf_core.specs.Keeping.SoundStages.{settled_view_of}
use Rattle.cf_core.specs.Keeping.Sound.{kept_at}
use Rattle.cf_core.proofs.Keeping.Places.{ready_args}
use Rattle.cf_core.proofs.Keeping.Serving.{links-claimed, settles-claimed}
use Rattle.cf_core.proofs.Keeping.Sweeping.{swept_outcome, swept_stage}
use Rattle.cf_core.proofs.graph.sweeping.land_swept.Goals as goal

pub returns-in-Settles-clause-landed : goal.returns-in-Settles-clause-landed
returns-in-Settles-clause-landed c =
    let plan = c.args.plan.now.stages in
    settles-claimed plan (settled_view_of plan c.args.stages.now) (settled_view_of plan c.settle_swept.new.self) c.args.m c.args.at c.in-Settles.o c.in-Settles.is c.settle_swept.ensures.after

pub returns-in-Some-clause-landed : goal.returns-in-Some-clause-landed
returns-in-Some-clause-landed c =
    let plan = c.args.plan.now.stages in
    let s = c.args.stages.now in
    let args = ready_args ((kept_at s.kept.items c.args.m).stage) c.requires.ready in
    let lower = c.requires.target c.in-Links.j c.in-Links.is in
    let seen = swept_stage plan s.kept.items s.links s.steps s.turns (c.args.m + 1) c.args.m c.args.m c.requires.swept c.requires.stage (omega arith) ∙ ap (λ x. Some x) args.1 in
    let told : outcome_in (settled_view_of plan s) c.in-Links.j ≡ Some c.in-Some.o =
    swept_outcome plan s.kept.items s.links s.steps s.turns (c.args.m + 1) c.args.m c.in-Links.j c.requires.swept (omega (arith, lower, c.requires.stage)) (omega (arith, lower)) ∙ sym c.outcome.ensures ∙ c.in-Some.is in
    links-claimed plan (settled_view_of plan s) (settled_view_of plan c.settle_swept-in-Some.new.self) c.args.m c.in-Links.j c.args.at args.0 (Some c.in-Some.o) c.in-Links.is seen told
    (c.settle_swept-in-Some.ensures.after ∙ ap (λ o. new_states [] plan (set (settled_view_of plan s) c.args.m (Settled o))) c.wrap.ensures)

pub returns-in-None-clause-landed : goal.returns-in-None-clause-landed
returns-in-None-clause-landed c =
    let plan = c.args.plan.now.stages in
    let s = c.args.stages.now in
    let args = ready_args ((kept_at s.kept.items c.args.m).stage) c.requires.ready in
    let lower = c.requires.target c.in-Links.j c.in-Links.is in
    let seen = swept_stage plan s.kept.items s.links s.steps s.turns (c.args.m + 1) c.args.m c.args.m c.requires.swept c.requires.stage (omega arith) ∙ ap (λ x. Some x) args.1 in
    let told : outcome_in (settled_view_of plan s) c.in-Links.j ≡ None =
    swept_outcome plan s.kept.items s.links s.steps s.turns (c.args.m + 1) c.args.m c.in-Links.j c.requires.swept (omega (arith, lower, c.requires.stage)) (omega (arith, lower)) ∙ sym c.outcome.ensures ∙ c.in-None.is in
    links-claimed plan (settled_view_of plan s) (settled_view_of plan c.link_swept.new.self) c.args.m c.in-Links.j c.args.at args.0 None c.in-Links.is seen told c.link_swept.ensures.linked
