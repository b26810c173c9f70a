use Rattle.std.proofs.Common.{◌≡◌, ◌<◌, ◌+◌, ◌∙◌, [], All, ap, arith, length, refl, set, subst, sym}
use Rattle.cf_model.specs.declared.stage.Stage.TheVariants.{Settled}
use Rattle.cf_core.specs.declared.kept.KeptStage.{KeptStage}
use Rattle.cf_core.specs.Keeping.Cells.{KeptStages}
use Rattle.cf_core.specs.Keeping.Links.{list_at}
use Rattle.cf_core.specs.Keeping.Sound.{AreTreated, StayTaken, kept_at, marks_settled, settled_view}
use Rattle.cf_core.proofs.Keeping.Moves.{is_steady, links_within, settle_same, settle_sound}
use Rattle.cf_core.proofs.Keeping.Places.{IsSound-same, StayTaken-set}
use Rattle.cf_model.specs.Graphs.{MovesAlone, rank, stage_in}
use Rattle.cf_core.specs.Keeping.Treatment.{stages_of}
use Rattle.cf_core.proofs.Keeping.Changes.{alone_put, further_put, open_rank}
use Rattle.cf_core.proofs.Keeping.Above.{leaves_above, settled_above}
use Rattle.cf_core.proofs.stages.Stages.settle.Goals as goal
use Rattle.cf_core.proofs.stages.Stages.settle.Goals.{After-mark_after}

pub mark_after-requires-clause-linked : goal.mark_after-requires-clause-linked
mark_after-requires-clause-linked c =
    let s = c.args.self.now in
    subst (λ links. All (λ i. i < length c.args.plan.now.stages) (list_at links c.args.d)) (sym c.unready.ensures.links)
    (links_within c.args.plan.now.stages s.kept.items s.marks s.ready s.links s.steps s.turns c.requires.sound c.args.d)

-- what is written of the stage
abbrev new : After-mark_after → KeptStage
new c = record { stage = Settled c.args.o; step = c.args.self.now.steps + 1 }

kept : (c : After-mark_after) → c.settle.new.self.items ≡ set c.args.self.now.kept.items c.args.d (new c)
kept c =
    ap (λ (k : KeptStages). k.items) c.settle.ensures
    ∙ ap (λ (k : KeptStages). set k.items c.args.d (record { stage = Settled c.args.o; step = c.unready.new.self.steps + 1 })) c.unready.ensures.kept
    ∙ ap (λ n. set c.args.self.now.kept.items c.args.d (record { stage = Settled c.args.o; step = n + 1 })) c.unready.ensures.steps

items : (c : After-mark_after) → c.mark_after.new.self.kept.items ≡ set c.args.self.now.kept.items c.args.d (new c)
items c = ap (λ (k : KeptStages). k.items) c.mark_after.ensures.kept ∙ kept c

pub returns-clause-after : goal.returns-clause-after
returns-clause-after c =
    let s = c.args.self.now in
    let plan = c.args.plan.now.stages in
    let steady = is_steady plan s.kept.items s.marks s.ready s.links s.steps s.turns c.requires.sound (c.args.d + 1) c.requires.treated in
    ap (settled_view plan) (items (goal.at.returns-clause-after c).After-mark_after)
    ∙ settle_same plan s.kept.items s.marks s.ready s.links s.steps s.turns c.requires.sound c.args.d (c.args.d + 1) c.args.o c.requires.stage steady (omega arith) c.requires.unsettled

pub returns-clause-taken : goal.returns-clause-taken
returns-clause-taken c =
    let at = (goal.at.returns-clause-taken c).After-mark_after in
    let s = c.args.self.now in
    subst (StayTaken s.kept.items) (sym (items at)) (StayTaken-set s.kept.items c.args.d (new at) (omega (arith, c.requires.stage, c.requires.sound.all_kept)) (λ _. refl))

pub returns-clause-sound : goal.returns-clause-sound
returns-clause-sound c =
    let at = (goal.at.returns-clause-sound c).After-mark_after in
    let s = c.args.self.now in
    let t = c.mark_after.new.self in
    let u = c.unready.ensures in
    let plan = c.args.plan.now.stages in
    IsSound-same plan t.kept.items _ t.marks _ t.ready _ t.links _ t.steps _ t.turns _ (items at)
    (c.mark_after.ensures.marks ∙ rw (kept at, u.links, u.marks) refl)
    (c.mark_after.ensures.ready ∙ u.ready)
    (c.mark_after.ensures.links ∙ ap (λ links. set links c.args.d []) u.links)
    (c.mark_after.ensures.steps ∙ ap (λ n. n + 1) u.steps)
    (c.mark_after.ensures.turns ∙ u.turns)
    (settle_sound plan s.kept.items s.marks s.ready s.links s.steps s.turns c.requires.sound c.args.d c.args.o c.requires.stage c.requires.unsettled)

pub returns-clause-alone : goal.returns-clause-alone
returns-clause-alone c =
    let at = (goal.at.returns-clause-alone c).After-mark_after in
    let s = c.args.self.now in
    let u = c.unready.ensures in
    let t = c.settle.new.self.items in
    let marks = c.mark_after.ensures.marks ∙ ap (λ links. marks_settled c.args.plan.now.stages t links c.unready.new.self.marks c.args.d) u.links ∙ ap (λ marks. marks_settled c.args.plan.now.stages t s.links marks c.args.d) u.marks in (
      subst (λ kept. MovesAlone c.args.d (stages_of s.kept.items) (stages_of kept)) (sym (items at))
          (alone_put s.kept.items c.args.d (new at) (omega (arith, c.requires.stage, c.requires.sound.all_kept)) (open_rank ((kept_at s.kept.items c.args.d).stage) c.requires.unsettled)),
      leaves_above c.mark_after.new.self.marks c.args.d (subst (AreTreated (c.args.d + 1)) (sym marks)
          (settled_above c.args.plan.now.stages t s.links s.marks c.args.d c.requires.sound.sources_lower c.requires.sound.above c.requires.treated)),
    )

pub returns-clause-further : goal.returns-clause-further
returns-clause-further c =
    let at = (goal.at.returns-clause-further c).After-mark_after in
    let s = c.args.self.now in
    subst (λ kept. rank (stage_in (stages_of s.kept.items) c.args.d) < rank (stage_in (stages_of kept) c.args.d)) (sym (items at))
    (further_put s.kept.items c.args.d (new at) (omega (arith, c.requires.stage, c.requires.sound.all_kept)) (open_rank ((kept_at s.kept.items c.args.d).stage) c.requires.unsettled))
