use Rattle.std.proofs.Common.{◌∷◌, ◌-◌, [], append_assoc, length, subst, sym}
use Rattle.std.specs.Prelude.{List}
use Rattle.cf_forms.specs.Plans.{IsGrowing, Planned, PlannedStage, and_stage, attached_stage}
use Rattle.cf_forms.proofs.PlanLemmas.{growing-and_stage}
use Rattle.cf_reference.specs.References.{grown}
use Rattle.cf_reference.proofs.plan.ReferencePlan.attach.Goals as goal

pub invariant_of-self-2 : goal.invariant_of-self-2
invariant_of-self-2 c =
    let new = attached_stage c.args.form c.args.of c.args.function in
    let opening = c.self.inside.opening in
    let attached = c.self.inside.attached.items in
    let plan = grown opening attached c.self.inside.room in
    let still = growing-and_stage c.args.self.now c.args.form c.args.of c.args.function (subst IsGrowing c.self.view_is c.self.invariant) c.requires.room c.requires.fits c.requires.sources in
    let after : IsGrowing (and_stage plan new) = subst (λ (p : Planned). IsGrowing (and_stage p new)) (sym c.self.view_is) still in
    let Grows : List PlannedStage → Type 0 =
    λ stages. IsGrowing (record { stages = stages; limits = opening.limits; opened = length opening.stages; room = c.self.inside.room - 1 }) in
    rw (c.in_ok-push.ensures.items, c.in_ok-stage.ensures) (subst Grows (append_assoc opening.stages attached (new ∷ [])) after)
