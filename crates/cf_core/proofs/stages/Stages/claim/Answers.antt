use Rattle.std.proofs.Common.{◌<◌, ◌+◌, ◌∙◌, ap, arith, length, refl, subst, sym}
use Rattle.cf_core.specs.declared.kept.KeptStage.{KeptStage}
use Rattle.cf_core.specs.Keeping.Cells.{KeptStages}
use Rattle.cf_core.specs.Keeping.Sound.{StayTaken, is_taken, kept_at, settled_view}
use Rattle.cf_core.proofs.Keeping.Marking.{get-set_same}
use Rattle.cf_core.proofs.Keeping.Sums.{StepsUpTo-at, kept_is, kept_there}
use Rattle.cf_core.proofs.Keeping.Moves.{claim_same, claim_sound, is_steady}
use Rattle.cf_core.proofs.Keeping.Places.{IsSound-same, StayTaken-set, ready_args}
use Rattle.cf_model.specs.Graphs.{MovesAlone}
use Rattle.cf_core.specs.Keeping.Treatment.{claimed_kept, stages_of}
use Rattle.cf_core.proofs.Keeping.Changes.{alone_put, ready_rank}
use Rattle.cf_core.proofs.Keeping.Above.{leaves_above}
use Rattle.cf_core.proofs.stages.Stages.claim.Goals as goal

pub returns-clause-claimed : goal.returns-clause-claimed
returns-clause-claimed c =
    let s = c.args.self.now in
    let plan = c.args.plan.now.stages in
    let h = c.requires.sound in
    let is = ready_args ((kept_at s.kept.items c.args.d).stage) c.requires.ready in
    let steady = is_steady plan s.kept.items s.marks s.ready s.links s.steps s.turns h (c.args.d + 1) c.requires.treated in
    ap (λ (k : KeptStages). settled_view plan k.items) c.claim.ensures
    ∙ claim_same plan s.kept.items s.marks s.ready s.links s.steps s.turns h c.args.d (kept_at s.kept.items c.args.d).step (c.args.d + 1) is.0 c.requires.stage steady (omega arith) is.1

pub returns-clause-here : goal.returns-clause-here
returns-clause-here c =
    let s = c.args.self.now in
    let new = claimed_kept (kept_at s.kept.items c.args.d).step in
    let there = get-set_same s.kept.items c.args.d new (omega (arith, c.requires.stage, c.requires.sound.all_kept)) in
    ap (λ (k : KeptStages). is_taken ((kept_at k.items c.args.d).stage)) c.claim.ensures ∙ ap (λ (k : KeptStage). is_taken k.stage) (kept_is _ c.args.d new there)

pub returns-clause-taken : goal.returns-clause-taken
returns-clause-taken c =
    let s = c.args.self.now in
    let new = claimed_kept (kept_at s.kept.items c.args.d).step in
    subst (λ (k : KeptStages). StayTaken s.kept.items k.items) (sym c.claim.ensures)
    (StayTaken-set s.kept.items c.args.d new (omega (arith, c.requires.stage, c.requires.sound.all_kept)) (λ _. refl))

pub returns-clause-sound : goal.returns-clause-sound
returns-clause-sound c =
    let s = c.args.self.now in
    let plan = c.args.plan.now.stages in
    let h = c.requires.sound in
    let l : c.args.d < length s.kept.items = omega (arith, c.requires.stage, h.all_kept) in
    let is = ready_args ((kept_at s.kept.items c.args.d).stage) c.requires.ready in
    let few = StepsUpTo-at s.steps s.kept.items c.args.d (kept_at s.kept.items c.args.d) h.kept_steps (kept_there s.kept.items c.args.d l) in
    IsSound-same plan c.claim.new.self.items _ s.marks _ c.remove.new.self _ s.links _ s.steps _ s.turns _
    (ap (λ (k : KeptStages). k.items) c.claim.ensures) refl c.remove.ensures refl refl refl
    (claim_sound plan s.kept.items s.marks s.ready s.links s.steps s.turns h c.args.d (kept_at s.kept.items c.args.d).step is.0 c.requires.stage is.1 few)

pub returns-clause-alone : goal.returns-clause-alone
returns-clause-alone c =
    let s = c.args.self.now in
    let new = claimed_kept (kept_at s.kept.items c.args.d).step in
    let was = ready_rank ((kept_at s.kept.items c.args.d).stage) c.requires.ready in (
      subst (λ (k : KeptStages). MovesAlone c.args.d (stages_of s.kept.items) (stages_of k.items)) (sym c.claim.ensures)
          (alone_put s.kept.items c.args.d new (omega (arith, c.requires.stage, c.requires.sound.all_kept)) (omega (arith, was))),
      leaves_above s.marks c.args.d c.requires.treated,
    )
