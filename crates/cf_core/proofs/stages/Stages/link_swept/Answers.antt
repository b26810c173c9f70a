use Rattle.std.proofs.Common.{◌+◌, ◌∙◌, ap, refl, subst, sym}
use Rattle.cf_model.specs.declared.stage.Stage.TheVariants.{Linked}
use Rattle.cf_core.specs.declared.kept.KeptStage.{KeptStage}
use Rattle.cf_core.specs.Keeping.Cells.{KeptStages}
use Rattle.cf_core.specs.Keeping.Sound.{StayTakenBut, settled_view}
use Rattle.cf_core.proofs.Keeping.Places.{StayTakenBut-set}
use Rattle.cf_core.proofs.Keeping.Sweeping.{IsSwept-same, swept_free, swept_link_same, swept_linked, swept_room}
use Rattle.cf_core.proofs.stages.Stages.link_swept.Goals as goal

pub push-requires-clause-room : goal.push-requires-clause-room
push-requires-clause-room c =
    let s = c.args.self.now in
    swept_room c.args.plan.now.stages s.kept.items s.links s.steps s.turns (c.args.m + 1) c.args.m c.args.j c.requires.swept

pub push-requires-clause-free : goal.push-requires-clause-free
push-requires-clause-free c =
    let s = c.args.self.now in
    swept_free c.args.plan.now.stages s.kept.items s.links s.steps s.turns (c.args.m + 1) c.args.m c.args.m c.requires.swept c.requires.ready

pub returns-clause-linked : goal.returns-clause-linked
returns-clause-linked c =
    let s = c.args.self.now in
    let plan = c.args.plan.now.stages in
    ap (λ (k : KeptStages). settled_view plan k.items) c.put.ensures
    ∙ swept_link_same plan s.kept.items s.links s.steps s.turns c.args.m c.requires.stage c.args.j (s.steps + 1) c.requires.target c.requires.ready c.requires.unsettled c.requires.swept

pub returns-clause-taken : goal.returns-clause-taken
returns-clause-taken c =
    let s = c.args.self.now in
    let new : KeptStage = record { stage = Linked c.args.j; step = s.steps + 1 } in
    subst (StayTakenBut c.args.m s.kept.items) (sym (ap (λ (k : KeptStages). k.items) c.put.ensures)) (StayTakenBut-set s.kept.items c.args.m new)

pub returns-clause-swept : goal.returns-clause-swept
returns-clause-swept c =
    let s = c.args.self.now in
    let plan = c.args.plan.now.stages in
    IsSwept-same plan (c.args.m + 1) (c.args.m + 1) c.put.new.self.items _ c.push.new.self _ (s.steps + 1) _ s.turns _
    (ap (λ (k : KeptStages). k.items) c.put.ensures) c.push.ensures refl refl
    (swept_linked plan s.kept.items s.links s.steps s.turns c.args.m c.requires.stage c.args.j c.requires.target c.requires.ready c.requires.composes c.requires.unsettled c.requires.swept)
