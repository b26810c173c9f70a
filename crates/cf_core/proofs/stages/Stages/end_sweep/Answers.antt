use Rattle.std.proofs.Common.{◌∙◌, ap, refl}
use Rattle.std.specs.Prelude.{false, replicate}
use Rattle.cf_core.proofs.Keeping.Places.{IsSound-same}
use Rattle.cf_core.proofs.Keeping.Sweeping.{swept_marks, swept_none}
use Rattle.cf_core.proofs.stages.Stages.end_sweep.Goals as goal

pub returns-clause-none : goal.returns-clause-none
returns-clause-none c =
    let s = c.args.self.now in
    swept_none c.args.plan.now.stages s.kept.items s.links s.steps s.turns c.requires.swept

pub returns-clause-sound : goal.returns-clause-sound
returns-clause-sound c =
    let s = c.args.self.now in
    let plan = c.args.plan.now.stages in
    let count = c.stages-count.ensures.count in
    IsSound-same plan s.kept.items _ c.reset.new.self _ c.reset-2.new.self _ s.links _ s.steps _ s.turns _
    refl
    (c.reset.ensures ∙ ap (λ n. replicate n false) count)
    (c.reset-2.ensures ∙ ap (λ n. replicate n false) count)
    refl refl refl
    (swept_marks plan s.kept.items s.links s.steps s.turns c.requires.swept)
