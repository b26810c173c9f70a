use Rattle.std.proofs.Common.{arith, refl, sym, subst, length, List, ◌∙◌}
use Rattle.std.specs.List.{All}
use Rattle.std.proofs.lemmas.List.Elements.{All-replicate}
use Rattle.cf_forms.specs.Plans.{with_room}
use Rattle.cf_model.specs.declared.events.Event.{Event}
use Rattle.cf_model.specs.Ranges.{EventFits}
use Rattle.cf_model.specs.States.{start}
use Rattle.cf_pool.specs.Races.{AreSteps, IsStep}
use Rattle.cf_pool.proofs.Racing.Begun.{fits_below}
use Rattle.cf_desk_tests.proofs.pool.races.race_behind.Goals as goal

pub race-requires-clause-steps : goal.race-requires-clause-steps
race-requires-clause-steps g c =
    let n = length c.args.plan.stages in
    let all = All-replicate IsStep _ _ (refl, tt) in
    let fits = All-replicate (EventFits n) _ _ tt in
    λ κs out. subst (λ (steps : List Event). AreSteps (with_room c.args.plan 0) steps) (sym (c.deref.ensures.value ∙ c.ticks-steps.ensures))
    (all, fits_below n (start (with_room c.args.plan 0)) _ (omega arith) fits)
