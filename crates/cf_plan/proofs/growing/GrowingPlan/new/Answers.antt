use Rattle.std.proofs.Common.{◌≡◌, ◌+◌, ◌<◌, arith, length}
use Rattle.cf_plan.proofs.GrowingLemmas.{AreGrowing-start}
use Rattle.cf_forms.proofs.PlanLemmas.{place_is}
use Rattle.cf_plan.proofs.growing.GrowingPlan.new.Goals as goal
use Rattle.cf_plan.proofs.growing.GrowingPlan.new.Goals.{in-0, in_default}

pub invariant_of-result : goal.invariant_of-result
invariant_of-result c =
    let opening = c.args.opening in
    let rows = c.in_ok-rows.ensures in
    let made = c.in_ok-lists.ensures in
    let place = place_is opening.stages c.args.room c.requires.place in
    let lists : 0 < c.args.room → c.match-room.count ≡ length opening.stages + c.args.room =
    elim c.match-room.branch [ in-0 w ↦ (λ some. let z = w.in-0 in omega arith) | in_default w ↦ (λ some. let l = w.count-is in omega (arith, c.stages-stages.ensures.count)) ] in
    rw (rows.items, made.heads, made.cells)
    (AreGrowing-start opening c.args.room c.match-room.count _ _ c.stages-stages.ensures.whole c.stages-stages.ensures.built place.0 place.1 (omega (arith, rows.exact)) (omega (arith, made.room)) lists)
