use Rattle.std.proofs.Common.{◌+◌, ◌∙◌, ap, refl, subst, sym}
use Rattle.cf_outcome.specs.declared.outcome.Outcome.TheVariants.{Value as Gives}
use Rattle.cf_core.specs.Keeping.Cells.{KeptStages}
use Rattle.cf_core.specs.Keeping.Sound.{StayTaken, settled_view}
use Rattle.cf_core.proofs.Keeping.Sweeping.{IsSwept-same, with_settle_same, with_settled, with_taken}
use Rattle.cf_core.proofs.stages.Stages.settle_ready.Goals as goal

pub returns-clause-after : goal.returns-clause-after
returns-clause-after c =
    let s = c.args.self.now in
    let plan = c.args.plan.now.stages in
    ap (λ (k : KeptStages). settled_view plan k.items) c.settle.ensures
    ∙ with_settle_same plan s.kept.items s.links s.steps s.turns c.args.m c.args.args c.requires.stage (Gives c.args.v) c.requires.ready.same c.requires.ready.swept

pub returns-clause-taken : goal.returns-clause-taken
returns-clause-taken c =
    let s = c.args.self.now in
    subst (StayTaken s.kept.items) (sym (ap (λ (k : KeptStages). k.items) c.settle.ensures))
    (with_taken c.args.plan.now.stages s.kept.items s.links s.steps s.turns c.args.m c.args.args c.requires.stage (Gives c.args.v) c.requires.ready.swept)

pub returns-clause-swept : goal.returns-clause-swept
returns-clause-swept c =
    let s = c.args.self.now in
    let plan = c.args.plan.now.stages in
    IsSwept-same plan (c.args.m + 1) (c.args.m + 1) c.settle.new.self.items _ c.clear.new.self _ (s.steps + 1) _ s.turns _
    (ap (λ (k : KeptStages). k.items) c.settle.ensures) c.clear.ensures refl refl
    (with_settled plan s.kept.items s.links s.steps s.turns c.args.m c.args.args c.requires.stage (Gives c.args.v) c.requires.ready.swept)
