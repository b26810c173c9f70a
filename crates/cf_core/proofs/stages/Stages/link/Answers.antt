use Rattle.std.proofs.Common.{◌≡◌, ◌<◌, ◌∷◌, length, ◌+◌, ◌∙◌, None, ap, arith, subst, sym}
use Rattle.cf_model.specs.declared.stage.Stage.TheVariants.{Linked}
use Rattle.cf_core.specs.declared.kept.KeptStage.{KeptStage}
use Rattle.cf_core.specs.Keeping.Treatment.{dated_in}
use Rattle.cf_core.specs.Keeping.Links.{list_at}
use Rattle.cf_core.specs.Keeping.Sound.{AreTreated, StayTakenBut, settled_view}
use Rattle.cf_core.proofs.Keeping.Moves.{is_steady, links_within, link_free, link_room, link_same, link_sound}
use Rattle.cf_core.proofs.Keeping.MarkLemmas.{other_within}
use Rattle.cf_core.proofs.Keeping.Places.{IsSound-same, StayTakenBut-set, undated}
use Rattle.cf_model.specs.Graphs.{MovesAlone, rank, stage_in}
use Rattle.cf_core.specs.Keeping.Treatment.{stages_of}
use Rattle.cf_core.proofs.Keeping.Changes.{alone_put, further_put}
use Rattle.cf_core.proofs.Keeping.Above.{leaves_above}
use Rattle.cf_core.proofs.stages.Stages.link.Goals as goal

pub put-requires-clause-linked : goal.put-requires-clause-linked
put-requires-clause-linked c =
    let s = c.args.self.now in
    other_within s.links c.push.new.self c.args.j c.args.d (length c.args.plan.now.stages) (c.args.d ∷ list_at s.links c.args.j) c.push.ensures (λ same. absurd (omega (arith, c.requires.target)))
    (links_within c.args.plan.now.stages s.kept.items s.marks s.ready s.links s.steps s.turns c.requires.sound c.args.d)

pub push-requires-clause-room : goal.push-requires-clause-room
push-requires-clause-room c =
    let s = c.args.self.now in
    link_room c.args.plan.now.stages s.kept.items s.marks s.ready s.links s.steps s.turns c.requires.sound c.args.j

pub push-requires-clause-free : goal.push-requires-clause-free
push-requires-clause-free c =
    let s = c.args.self.now in
    link_free c.args.plan.now.stages s.kept.items s.marks s.ready s.links s.steps s.turns c.requires.sound c.args.d c.requires.claimed

pub returns-clause-linked : goal.returns-clause-linked
returns-clause-linked c =
    let s = c.args.self.now in
    let plan = c.args.plan.now.stages in
    let h = c.requires.sound in
    let steady = is_steady plan s.kept.items s.marks s.ready s.links s.steps s.turns h (c.args.d + 1) c.requires.treated in
    ap (settled_view plan) c.put.ensures.kept
    ∙ link_same plan s.kept.items s.marks s.ready s.links s.steps s.turns h c.args.d c.args.j (s.steps + 1) (c.args.d + 1) c.requires.stage steady (omega arith) c.requires.target c.requires.claimed c.requires.unsettled

pub returns-clause-taken : goal.returns-clause-taken
returns-clause-taken c =
    let s = c.args.self.now in
    let new : KeptStage = record { stage = Linked c.args.j; step = s.steps + 1 } in
    subst (StayTakenBut c.args.d s.kept.items) (sym c.put.ensures.kept) (StayTakenBut-set s.kept.items c.args.d new)

pub returns-clause-sound : goal.returns-clause-sound
returns-clause-sound c =
    let s = c.args.self.now in
    let t = c.put.new.self in
    let plan = c.args.plan.now.stages in
    let h = c.requires.sound in
    let open_target : dated_in s.kept.items c.args.j ≡ None = undated s.kept.items c.args.j (omega (arith, c.requires.target, c.requires.stage, h.all_kept)) c.requires.unsettled in
    IsSound-same plan t.kept.items _ t.marks _ t.ready _ t.links _ t.steps _ t.turns _ c.put.ensures.kept c.put.ensures.marks c.put.ensures.ready (c.put.ensures.links ∙ c.push.ensures) c.put.ensures.steps c.put.ensures.turns
    (link_sound plan s.kept.items s.marks s.ready s.links s.steps s.turns h c.args.d c.args.j c.requires.stage c.requires.target c.requires.claimed c.requires.composes open_target)

pub returns-clause-alone : goal.returns-clause-alone
returns-clause-alone c =
    let s = c.args.self.now in
    let new : KeptStage = record { stage = Linked c.args.j; step = s.steps + 1 } in
    let was = ap rank c.requires.claimed in (
      subst (λ kept. MovesAlone c.args.d (stages_of s.kept.items) (stages_of kept)) (sym c.put.ensures.kept)
          (alone_put s.kept.items c.args.d new (omega (arith, c.requires.stage, c.requires.sound.all_kept)) (omega (arith, was))),
      leaves_above c.put.new.self.marks c.args.d (subst (AreTreated (c.args.d + 1)) (sym c.put.ensures.marks) c.requires.treated),
    )

pub returns-clause-further : goal.returns-clause-further
returns-clause-further c =
    let s = c.args.self.now in
    let new : KeptStage = record { stage = Linked c.args.j; step = s.steps + 1 } in
    let was = ap rank c.requires.claimed in
    subst (λ kept. rank (stage_in (stages_of s.kept.items) c.args.d) < rank (stage_in (stages_of kept) c.args.d)) (sym c.put.ensures.kept)
    (further_put s.kept.items c.args.d new (omega (arith, c.requires.stage, c.requires.sound.all_kept)) (omega (arith, was)))
