use Rattle.std.proofs.Common.{◌∙◌, refl, ap, arith, length}
use Rattle.std.specs.Prelude.{false, replicate}
use Rattle.std.proofs.lemmas.List.{length-replicate}
use Rattle.cf_core.specs.Keeping.Sound.{settled_view}
use Rattle.cf_core.specs.Keeping.Starts.{mark_starts, untreated}
use Rattle.cf_core.proofs.Keeping.Places.{IsSound-same}
use Rattle.cf_core.proofs.Keeping.StartLemmas.{treating_starts}
use Rattle.cf_core.proofs.Keeping.StartSound.{start_sound}
use Rattle.cf_core.proofs.stages.Stages.new.Goals as goal

pub returns-clause-start : goal.returns-clause-start
returns-clause-start c =
    let plan = c.args.plan.now.stages in
    ap (settled_view plan) (c.in_ok-kept.ensures.kept ∙ ap (λ n. replicate n untreated) c.stages-count.ensures.count) ∙ treating_starts plan (length plan)

pub returns-clause-sound : goal.returns-clause-sound
returns-clause-sound c =
    let plan = c.args.plan.now.stages in
    let built = c.stages-count.ensures.growing.built in
    let count = c.stages-count.ensures.count in
    IsSound-same plan c.in_ok-kept.kept.items _ c.mark_starts.new.marks _ c.in_ok-ready.ready _ c.in_ok-links.links _ 0 _ 0 _
    (c.in_ok-kept.ensures.kept ∙ ap (λ n. replicate n untreated) count)
    (c.mark_starts.ensures ∙ ap (mark_starts 0 plan) (c.in_ok-marks.ensures ∙ ap (λ n. replicate n false) count))
    (c.in_ok-ready.ensures ∙ ap (λ n. replicate n false) count)
    c.in_ok-links.ensures
    refl refl
    (start_sound plan c.list_count.result c.list_count.ensures.composing built.few_stages built.few_edges built.lower)

pub mark_starts-requires : goal.mark_starts-requires
mark_starts-requires c = ap length c.in_ok-marks.ensures ∙ length-replicate c.stages-count.result false ∙ c.stages-count.ensures.count

pub returns-clause-room : goal.returns-clause-room
returns-clause-room c =
    let count = c.stages-count.ensures.count in
    let room = c.room-room.ensures in
    let kept = c.in_ok-kept.ensures.room in
    let lists = ap length c.in_ok-links.ensures ∙ length-replicate c.list_count.result _ in
    (omega (arith, count, room, kept), λ more. (let enough = c.list_count.ensures.room more in omega (arith, lists, enough)))
