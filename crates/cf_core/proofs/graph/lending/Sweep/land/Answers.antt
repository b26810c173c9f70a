use Rattle.std.proofs.Common.{◌≡◌, ◌∙◌, None, Some, ap, arith, length-set, subst, sym}
use Rattle.std.specs.Prelude.{option_map, position, slice_get, unwrap_or}
use Rattle.cf_model.specs.declared.stage.Stage.TheVariants.{Ready}
use Rattle.cf_model.specs.States.{State, is_ready}
use Rattle.cf_core.specs.Keeping.Lending.{IsAt, served_by}
use Rattle.cf_core.specs.Keeping.SoundStages.{settled_view_of}
use Rattle.cf_core.proofs.Keeping.GraphLemmas.{AreClaimed-closed, room_stays}
use Rattle.cf_core.proofs.Keeping.Lending.{lands}
use Rattle.cf_core.proofs.Keeping.Sweeping.{with_lowest, with_stage}
use Rattle.cf_core.proofs.graph.lending.Sweep.land.Goals as goal

pub invariant_of-self : goal.invariant_of-self
invariant_of-self c =
    let g = c.self.inside in
    let h = c.self.invariant in
    let at : IsAt g.plan.stages g.behind (Some c.in-Some.args) g.stages = subst (λ x. IsAt g.plan.stages g.behind x g.stages) c.in-Some.is h.at in
    let within = at.0 in
    record {
      growing = h.growing;
      at = (omega (arith, within), c.land_next.ensures.swept);
      all_claims = length-set g.claims.items g.behind None ∙ h.all_claims;
      claimed = AreClaimed-closed g.claims.items g.stages.kept.items c.land_next.new.stages.kept.items g.behind h.claimed c.land_next.ensures.taken;
      stages_room = room_stays _ _ g.stages c.land_next.new.stages h.stages_room c.land_next.ensures.room;
      claims_room = h.claims_room;
      few_used = h.few_used;
    }

pub returns-in-Some-clause-landed : goal.returns-in-Some-clause-landed
returns-in-Some-clause-landed c = λ who.
    let g = c.self.inside in
    let h = c.self.invariant in
    let args = c.in-Some.args in
    let plan = g.plan.stages in
    let at : IsAt plan g.behind (Some args) g.stages = subst (λ x. IsAt plan g.behind x g.stages) c.in-Some.is h.at in
    let s : State = record { plan = g.plan; stages = settled_view_of plan g.stages; claims = g.claims.items; moment = g.moment; used = g.used } in
    let lowest : position is_ready s.stages ≡ Some g.behind = ap (position is_ready) (sym at.1.same) ∙ with_lowest plan g.stages.kept.items g.stages.links g.stages.steps g.stages.turns g.behind args at.0 at.1.swept in
    let ready : slice_get s.stages g.behind ≡ Some (Ready args) = ap (λ xs. slice_get xs g.behind) (sym at.1.same) ∙ with_stage plan g.stages.kept.items g.stages.links g.stages.steps g.stages.turns g.behind args at.0 at.1.swept in
    let within = at.0 in
    let all = h.all_claims in
    let here : unwrap_or (option_map (λ x. g.behind) g.args) 0 ≡ g.behind = ap (λ x. unwrap_or (option_map (λ y. g.behind) x) 0) c.in-Some.is in
    rw (← c.self.view_is)
    (lands who s g.behind args c.args.answer (settled_view_of plan c.land_next.new.stages) (omega (arith, within, all)) lowest ready c.land_next.ensures.landed
    ∙ ap (λ i. served_by who s i c.args.answer) (sym here))
