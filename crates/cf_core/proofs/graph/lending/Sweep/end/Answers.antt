use Rattle.std.proofs.Common.{◌∙◌, ap, subst, sym}
use Rattle.cf_model.specs.States.{State}
use Rattle.cf_core.specs.Keeping.Cells.{KeptStages}
use Rattle.cf_core.specs.Keeping.Graphs.{AreClaimed}
use Rattle.cf_core.specs.Keeping.Lending.{Sweep}
use Rattle.cf_core.specs.Keeping.Sound.{settled_view}
use Rattle.cf_core.proofs.Keeping.GraphLemmas.{room_stays}
use Rattle.cf_core.proofs.Keeping.Lending.{swept_over}
use Rattle.cf_core.proofs.graph.lending.Sweep.end.Goals as goal

pub end_sweep-requires : goal.end_sweep-requires
end_sweep-requires c =
    let g = c.self.inside in
    record { swept = swept_over g.plan.stages g.behind g.args g.stages c.self.invariant.at (rw (← c.self.view_is) at c.requires.over) }

pub invariant_of-result : goal.invariant_of-result
invariant_of-result c =
    let g = c.self.inside in
    let h = c.self.invariant in
    record {
      growing = h.growing;
      sound = c.end_sweep.ensures.sound;
      all_claims = h.all_claims;
      claimed = subst (λ (k : KeptStages). AreClaimed g.claims.items k.items) (sym c.end_sweep.ensures.kept) h.claimed;
      stages_room = room_stays _ _ g.stages c.end_sweep.new.self h.stages_room c.end_sweep.ensures.room;
      claims_room = h.claims_room;
      few_used = h.few_used;
    }

pub returns-clause-same : goal.returns-clause-same
returns-clause-same c =
    let g = c.self.inside in
    let seen : KeptStages → State = λ k. record { plan = g.plan; stages = settled_view g.plan.stages k.items; claims = g.claims.items; moment = g.moment; used = g.used } in
    ap seen c.end_sweep.ensures.kept ∙ ap (λ (s : Sweep). s.state) c.self.view_is

pub returns-clause-none : goal.returns-clause-none
returns-clause-none c = c.end_sweep.ensures.none
