use Rattle.std.proofs.Common.{◌≡◌, ◌≤◌, length}
use Rattle.std.specs.Vec.{vec_capacity}
use Rattle.cf_core.specs.Keeping.Graphs.{AreClaimed}
use Rattle.cf_core.specs.Keeping.SoundStages.{SameRoom, settled_view_of}
use Rattle.cf_core.specs.Keeping.Sweeps.{AreSwept, Serves}
use Rattle.cf_core.proofs.graph.sweeping.sweep.Given as goal

-- the stages so far are treated and served, the lowest ready one each time
abbrev pub invariant-loop-m : goal.invariant-loop-m
invariant-loop-m g l = record {
  swept : AreSwept l.plan.stages l.m l.m l.stages;
  served : Serves g.F.Functions.calls l.plan.stages (settled_view_of l.plan.stages l.initial.stages) l.initial.claims.items l.initial.functions l.calls (settled_view_of l.plan.stages l.stages) l.claims.items l.functions;
  few : l.calls ≤ l.m;
  all_claims : length l.claims.items ≡ length l.plan.stages;
  claimed : AreClaimed l.claims.items l.stages.kept.items;
  claims_room : vec_capacity l.claims ≡ vec_capacity l.initial.claims;
  counted : l.initial.stages.turns ≤ l.stages.turns;
  room : SameRoom l.initial.stages l.stages;
}
