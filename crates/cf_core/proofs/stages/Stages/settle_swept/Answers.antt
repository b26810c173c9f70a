use Rattle.std.proofs.Common.{◌+◌, ◌∙◌, ap, arith, refl, subst, sym}
use Rattle.cf_model.specs.declared.stage.Stage.TheVariants.{Settled}
use Rattle.cf_core.specs.declared.kept.KeptStage.{KeptStage}
use Rattle.cf_core.specs.Keeping.Cells.{KeptStages}
use Rattle.cf_core.specs.Keeping.Sound.{StayTaken, settled_view}
use Rattle.cf_core.proofs.Keeping.Moves.{settle_same}
use Rattle.cf_core.proofs.Keeping.Places.{StayTaken-set}
use Rattle.cf_core.proofs.Keeping.Sweeping.{IsSwept-same, swept_settled, swept_steady, swept_within}
use Rattle.cf_core.proofs.stages.Stages.settle_swept.Goals as goal

pub returns-clause-after : goal.returns-clause-after
returns-clause-after c =
    let s = c.args.self.now in
    let plan = c.args.plan.now.stages in
    let h = c.requires.swept in
    ap (λ (k : KeptStages). settled_view plan k.items) c.settle.ensures
    ∙ settle_same plan s.kept.items h.marks h.ready s.links s.steps s.turns h.sound c.args.m (c.args.m + 1) c.args.o c.requires.stage
    (swept_steady plan s.kept.items s.links s.steps s.turns (c.args.m + 1) c.args.m h) (omega arith) c.requires.unsettled

pub returns-clause-taken : goal.returns-clause-taken
returns-clause-taken c =
    let s = c.args.self.now in
    let new : KeptStage = record { stage = Settled c.args.o; step = s.steps + 1 } in
    let all = swept_within c.args.plan.now.stages s.kept.items s.links s.steps s.turns (c.args.m + 1) c.args.m c.requires.swept in
    subst (StayTaken s.kept.items) (sym (ap (λ (k : KeptStages). k.items) c.settle.ensures)) (StayTaken-set s.kept.items c.args.m new (omega (arith, c.requires.stage, all)) (λ _. refl))

pub returns-clause-swept : goal.returns-clause-swept
returns-clause-swept c =
    let s = c.args.self.now in
    let plan = c.args.plan.now.stages in
    IsSwept-same plan (c.args.m + 1) (c.args.m + 1) c.settle.new.self.items _ c.clear.new.self _ (s.steps + 1) _ s.turns _
    (ap (λ (k : KeptStages). k.items) c.settle.ensures) c.clear.ensures refl refl
    (swept_settled plan s.kept.items s.links s.steps s.turns c.args.m c.requires.stage c.args.o c.requires.unsettled c.requires.swept)
