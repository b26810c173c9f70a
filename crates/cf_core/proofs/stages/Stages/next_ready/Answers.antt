use Rattle.std.proofs.Common.{◌∙◌, ap, arith, inl, inr, sym}
use Rattle.std.proofs.lemmas.Bool.Decides.{eqb_tells}
use Rattle.cf_model.specs.Graphs.{stage_in}
use Rattle.cf_model.specs.States.{is_ready}
use Rattle.cf_core.specs.Keeping.Treatment.{stages_of}
use Rattle.cf_core.proofs.Keeping.Changes.{kept_stage}
use Rattle.cf_core.proofs.stages.Stages.next_ready.Goals as goal

pub loop-i-preserved : goal.loop-i-preserved
loop-i-preserved c i from below = elim (eqb_tells i c.loop-i.i) [
  | inl s ↦ ap (λ n. is_ready (stage_in (stages_of c.args.self.now.kept.items) n)) s.1 ∙ ap is_ready (kept_stage c.args.self.now.kept.items c.loop-i.i) ∙ sym c.is_ready.ensures ∙ c.if-is_ready.false
  | inr s ↦ (let other = s.1 in c.loop-i.invariant i from (omega (arith, below, other)))
]
