use Rattle.std.proofs.Common.{◌<◌, ◌+◌, ◌≡◌, ◌∙◌, ap, arith, length, length-set, refl, set, subst, sym}
use Rattle.cf_forms.specs.Plans.{function_at}
use Rattle.cf_core.specs.declared.kept.KeptStage.{KeptStage}
use Rattle.cf_model.specs.declared.stage.Stage.TheVariants.{Ready}
use Rattle.cf_core.specs.Keeping.Cells.{KeptStages}
use Rattle.cf_core.specs.Keeping.Treatment.{treated}
use Rattle.cf_core.specs.Keeping.Turns.{planned_at}
use Rattle.cf_core.specs.Keeping.Sound.{StayTaken, kept_at, links_after, settled_view}
use Rattle.cf_core.specs.Keeping.Sweeps.{IsSwept, turns_after}
use Rattle.cf_core.specs.Keeping.Taking.{ready_with}
use Rattle.cf_core.proofs.Keeping.Places.{StayTaken-set, kept_put, waiting_untaken}
use Rattle.cf_core.proofs.Keeping.Sweeping.{IsSwept-same, offered_ready, offered_same, swept_same, swept_treated, swept_within}
use Rattle.cf_core.proofs.stages.Stages.treat_swept.Goals as goal

pub returns-in-Some-clause-ready : goal.returns-in-Some-clause-ready
returns-in-Some-clause-ready g c =
    let s = c.args.self.now in
    let plan = c.args.plan.now.stages in
    let told : treated s.kept.items (planned_at plan c.args.m) (kept_at s.kept.items c.args.m) ≡ record { stage = Ready c.in-Some.args; step = (kept_at s.kept.items c.args.m).step } =
    rw (← c.form.ensures, ← c.sources.ensures.sources) (c.in-Some.ensures.told (function_at plan c.args.m)) in
    record {
      swept = subst (λ (k : KeptStages). IsSwept plan (c.args.m + 1) c.args.m (ready_with k.items c.args.m c.in-Some.args) s.links s.steps (s.turns + 1)) (sym c.in-Some.ensures.unwritten)
          (offered_ready plan s.kept.items s.links s.steps s.turns c.args.m c.in-Some.args c.requires.stage told c.requires.waiting c.requires.swept);
      same = subst (λ (k : KeptStages). settled_view plan (ready_with k.items c.args.m c.in-Some.args) ≡ settled_view plan k.items) (sym c.in-Some.ensures.unwritten)
          (offered_same plan s.kept.items s.links s.steps s.turns c.args.m c.in-Some.args c.requires.stage told c.requires.swept);
    }

pub note_swept-requires-clause-stage : goal.note_swept-requires-clause-stage
note_swept-requires-clause-stage g c =
    let s = c.args.self.now in
    let all = swept_within c.args.plan.now.stages s.kept.items s.links s.steps s.turns c.args.m c.args.m c.requires.swept in
    let same = ap length (c.in-None.ensures.kept (function_at c.args.plan.now.stages c.args.m)) ∙ length-set s.kept.items c.args.m _ in
    omega (arith, all, same, c.requires.stage)

pub returns-in-None-clause-same : goal.returns-in-None-clause-same
returns-in-None-clause-same g c =
    let s = c.args.self.now in
    let plan = c.args.plan.now.stages in
    let new = treated s.kept.items (planned_at plan c.args.m) (kept_at s.kept.items c.args.m) in
    let is : c.offer.new.kept.items ≡ set s.kept.items c.args.m new = rw (← c.form.ensures, ← c.sources.ensures.sources) (c.in-None.ensures.kept (function_at plan c.args.m)) in
    ap (settled_view plan) (ap (λ (k : KeptStages). k.items) c.note_swept.ensures.kept ∙ is)
    ∙ swept_same plan s.kept.items s.links s.steps s.turns c.args.m new c.requires.swept c.requires.stage refl

pub returns-in-None-clause-taken : goal.returns-in-None-clause-taken
returns-in-None-clause-taken g c =
    let s = c.args.self.now in
    let plan = c.args.plan.now.stages in
    let new = treated s.kept.items (planned_at plan c.args.m) (kept_at s.kept.items c.args.m) in
    let is : c.offer.new.kept.items ≡ set s.kept.items c.args.m new = rw (← c.form.ensures, ← c.sources.ensures.sources) (c.in-None.ensures.kept (function_at plan c.args.m)) in
    let all = swept_within plan s.kept.items s.links s.steps s.turns c.args.m c.args.m c.requires.swept in
    subst (StayTaken s.kept.items) (sym (ap (λ (k : KeptStages). k.items) c.note_swept.ensures.kept ∙ is))
    (StayTaken-set s.kept.items c.args.m new (omega (arith, all, c.requires.stage)) (λ taken. absurd (waiting_untaken ((kept_at s.kept.items c.args.m).stage) c.requires.waiting taken)))

pub returns-in-None-clause-swept : goal.returns-in-None-clause-swept
returns-in-None-clause-swept g c =
    let s = c.args.self.now in
    let t = c.note_swept.new.self in
    let plan = c.args.plan.now.stages in
    let new = treated s.kept.items (planned_at plan c.args.m) (kept_at s.kept.items c.args.m) in
    let is : c.offer.new.kept.items ≡ set s.kept.items c.args.m new = rw (← c.form.ensures, ← c.sources.ensures.sources) (c.in-None.ensures.kept (function_at plan c.args.m)) in
    let all = swept_within plan s.kept.items s.links s.steps s.turns c.args.m c.args.m c.requires.swept in
    let there : c.args.m < length s.kept.items = omega (arith, all, c.requires.stage) in
    let stage = ap (λ kept. (kept_at kept c.args.m).stage) is ∙ ap (λ (k : KeptStage). k.stage) (kept_put s.kept.items c.args.m new there) in
    IsSwept-same plan (c.args.m + 1) c.args.m t.kept.items _ t.links _ t.steps _ t.turns _
    (ap (λ (k : KeptStages). k.items) c.note_swept.ensures.kept ∙ is)
    (c.note_swept.ensures.links ∙ ap (links_after s.links c.args.m) stage)
    c.note_swept.ensures.steps
    (c.note_swept.ensures.turns ∙ ap (turns_after s.turns) stage)
    (swept_treated plan s.kept.items s.links s.steps s.turns c.args.m c.requires.stage new refl c.requires.waiting c.requires.swept)
