use Rattle.std.proofs.Common.{◌+◌, ◌<◌, ◌≡◌, ◌∙◌, Some, ap, arith, cond, false, length, length-set, refl, set, subst, sym, true}
use Rattle.cf_forms.specs.Plans.{function_at}
use Rattle.cf_core.specs.declared.kept.KeptStage.{KeptStage}
use Rattle.cf_model.specs.States.{is_ready}
use Rattle.cf_core.specs.Keeping.Cells.{KeptStages}
use Rattle.cf_core.specs.declared.kept.Treated.TheVariants.{Same}
use Rattle.cf_core.specs.Keeping.Taking.{made_of}
use Rattle.cf_core.specs.Keeping.Treatment.{became, treated}
use Rattle.cf_core.specs.Keeping.Turns.{planned_at}
use Rattle.cf_core.specs.Keeping.Sound.{StayTaken, is_waiting, kept_at, links_after, settled_view}
use Rattle.cf_core.proofs.Keeping.Moves.{links_within}
use Rattle.cf_core.proofs.Keeping.Lowest.{flag_at}
use Rattle.cf_core.proofs.Keeping.Places.{IsSound-same, kept_put, lowest_within, made_ready, ready_marks, turn_idle, turn_idly, turn_kept, turn_settled_view, turn_taken, waiting_unready}
use Rattle.cf_core.specs.Keeping.Sound.{AreTreated}
use Rattle.cf_core.proofs.Keeping.Above.{leaves_above, lowest_out, written_above}
use Rattle.cf_core.proofs.stages.Stages.turn.Goals as goal
use Rattle.cf_core.proofs.stages.Stages.turn.Goals.{After-treat-treated}

pub note_treated-requires-clause-all_kept : goal.note_treated-requires-clause-all_kept
note_treated-requires-clause-all_kept c =
    let s = c.args.self.now in
    ap length (c.treat-treated.ensures.kept (function_at c.args.plan.now.stages c.args.m)) ∙ length-set s.kept.items c.args.m _ ∙ c.requires.sound.all_kept

pub note_treated-requires-clause-linked : goal.note_treated-requires-clause-linked
note_treated-requires-clause-linked c =
    let s = c.args.self.now in
    links_within c.args.plan.now.stages s.kept.items s.marks s.ready s.links s.steps s.turns c.requires.sound c.args.m

waited : (c : After-treat-treated) → is_waiting ((kept_at c.args.self.now.kept.items c.args.m).stage) ≡ true
waited c = sym c.is_waiting.ensures ∙ c.if-is_waiting.true

-- what the treatment tells of a stage that waited is what it is then
became_so : (c : After-treat-treated) → c.treat-treated.result ≡ became ((kept_at c.treat-treated.new.kept.items c.args.m).stage)
became_so c = c.treat-treated.ensures.told ∙ ap (λ b. cond b (became ((kept_at c.treat-treated.new.kept.items c.args.m).stage)) Same) (waited c)

pub note_treated-requires-clause-told : goal.note_treated-requires-clause-told
note_treated-requires-clause-told c = became_so (goal.at.note_treated-requires-clause-told c).After-treat-treated

pub note_treated-requires-clause-waited : goal.note_treated-requires-clause-waited
note_treated-requires-clause-waited c =
    let s = c.args.self.now in
    let plan = c.args.plan.now.stages in
    let l = lowest_within s.marks c.args.m c.requires.lowest in
    flag_at plan s.kept.items s.marks s.ready s.links s.steps s.turns c.requires.sound c.args.m (omega (arith, l, c.requires.sound.all_marks, c.requires.sound.all_kept))
    ∙ ap (λ b. Some b) (waiting_unready ((kept_at s.kept.items c.args.m).stage) (waited (goal.at.note_treated-requires-clause-waited c).After-treat-treated))

pub returns-then-is_waiting-clause-turned : goal.returns-then-is_waiting-clause-turned
returns-then-is_waiting-clause-turned c =
    let plan = c.args.plan.now.stages in
    ap (λ (k : KeptStages). k.items) c.note_treated.ensures.kept
    ∙ rw (← c.form.ensures, ← c.sources.ensures.sources) (c.treat-treated.ensures.kept (function_at plan c.args.m))

pub returns-then-is_waiting-clause-same : goal.returns-then-is_waiting-clause-same
returns-then-is_waiting-clause-same c =
    let s = c.args.self.now in
    let plan = c.args.plan.now.stages in
    let new = treated s.kept.items (planned_at plan c.args.m) (kept_at s.kept.items c.args.m) in
    let is : c.treat-treated.new.kept.items ≡ set s.kept.items c.args.m new = rw (← c.form.ensures, ← c.sources.ensures.sources) (c.treat-treated.ensures.kept (function_at plan c.args.m)) in
    ap (settled_view plan) (ap (λ (k : KeptStages). k.items) c.note_treated.ensures.kept ∙ is)
    ∙ turn_settled_view plan s.kept.items s.marks s.ready s.links s.steps s.turns c.requires.sound c.args.m c.requires.lowest new refl

pub returns-then-is_waiting-clause-taken : goal.returns-then-is_waiting-clause-taken
returns-then-is_waiting-clause-taken c =
    let s = c.args.self.now in
    let plan = c.args.plan.now.stages in
    let waiting = waited (goal.at.returns-then-is_waiting-clause-taken c).After-treat-treated in
    let new = treated s.kept.items (planned_at plan c.args.m) (kept_at s.kept.items c.args.m) in
    let is : c.treat-treated.new.kept.items ≡ set s.kept.items c.args.m new = rw (← c.form.ensures, ← c.sources.ensures.sources) (c.treat-treated.ensures.kept (function_at plan c.args.m)) in
    subst (StayTaken s.kept.items) (sym (ap (λ (k : KeptStages). k.items) c.note_treated.ensures.kept ∙ is))
    (turn_taken plan s.kept.items s.marks s.ready s.links s.steps s.turns c.requires.sound c.args.m c.requires.lowest new waiting)

pub returns-then-is_waiting-clause-sound : goal.returns-then-is_waiting-clause-sound
returns-then-is_waiting-clause-sound c =
    let s = c.args.self.now in
    let t = c.note_treated.new.self in
    let plan = c.args.plan.now.stages in
    let waiting = waited (goal.at.returns-then-is_waiting-clause-sound c).After-treat-treated in
    let new = treated s.kept.items (planned_at plan c.args.m) (kept_at s.kept.items c.args.m) in
    let is : c.treat-treated.new.kept.items ≡ set s.kept.items c.args.m new = rw (← c.form.ensures, ← c.sources.ensures.sources) (c.treat-treated.ensures.kept (function_at plan c.args.m)) in
    let there : c.args.m < length s.kept.items = (let l = lowest_within s.marks c.args.m c.requires.lowest in omega (arith, l, c.requires.sound.all_marks, c.requires.sound.all_kept)) in
    let stage = ap (λ kept. (kept_at kept c.args.m).stage) is ∙ ap (λ (k : KeptStage). k.stage) (kept_put s.kept.items c.args.m new there) in
    IsSound-same plan t.kept.items _ t.marks _ t.ready _ t.links _ t.steps _ t.turns _ (ap (λ (k : KeptStages). k.items) c.note_treated.ensures.kept ∙ is)
    (c.note_treated.ensures.marks ∙ rw (is, kept_put s.kept.items c.args.m new there, c.remove.ensures) refl)
    (c.note_treated.ensures.ready ∙ ap (λ x. set s.ready c.args.m (is_ready x)) stage)
    (c.note_treated.ensures.links ∙ ap (links_after s.links c.args.m) stage)
    c.note_treated.ensures.steps c.note_treated.ensures.turns
    (turn_kept plan s.kept.items s.marks s.ready s.links s.steps s.turns c.requires.sound c.args.m c.requires.lowest new refl waiting)

pub returns-then-is_waiting-clause-told : goal.returns-then-is_waiting-clause-told
returns-then-is_waiting-clause-told c =
    c.treat-treated.ensures.told
    ∙ ap (λ (k : KeptStages). made_of ((kept_at c.args.self.now.kept.items c.args.m).stage) ((kept_at k.items c.args.m).stage)) (sym c.note_treated.ensures.kept)

pub returns-then-is_waiting-clause-ready : goal.returns-then-is_waiting-clause-ready
returns-then-is_waiting-clause-ready c e =
    let at = (goal.at.returns-then-is_waiting-clause-ready c).After-treat-treated in
    c.note_treated.ensures.ready ∙ ap (set c.args.self.now.ready c.args.m) (made_ready ((kept_at c.treat-treated.new.kept.items c.args.m).stage) (sym (became_so at) ∙ e))

pub returns-then-is_waiting-clause-marks : goal.returns-then-is_waiting-clause-marks
returns-then-is_waiting-clause-marks c e =
    let at = (goal.at.returns-then-is_waiting-clause-marks c).After-treat-treated in
    let kept = c.treat-treated.new.kept.items in
    let is = made_ready ((kept_at kept c.args.m).stage) (sym (became_so at) ∙ e) in
    c.note_treated.ensures.marks ∙ ready_marks c.args.plan.now.stages kept c.args.self.now.links c.remove.new.self c.args.m ((kept_at kept c.args.m).stage) is ∙ c.remove.ensures

pub returns-else-is_waiting-clause-told : goal.returns-else-is_waiting-clause-told
returns-else-is_waiting-clause-told c =
    let stage = (kept_at c.args.self.now.kept.items c.args.m).stage in
    sym (ap (λ b. cond b (became stage) Same) (sym c.is_waiting.ensures ∙ c.if-is_waiting.false))

pub returns-else-is_waiting-clause-sound : goal.returns-else-is_waiting-clause-sound
returns-else-is_waiting-clause-sound c =
    let s = c.args.self.now in
    let plan = c.args.plan.now.stages in
    let idle : is_waiting ((kept_at s.kept.items c.args.m).stage) ≡ false = sym c.is_waiting.ensures ∙ c.if-is_waiting.false in
    rw c.remove.ensures (turn_idle plan s.kept.items s.marks s.ready s.links s.steps s.turns c.requires.sound c.args.m c.requires.lowest idle)

pub returns-else-is_waiting-clause-turned : goal.returns-else-is_waiting-clause-turned
returns-else-is_waiting-clause-turned c =
    let s = c.args.self.now in
    let plan = c.args.plan.now.stages in
    let idle : is_waiting ((kept_at s.kept.items c.args.m).stage) ≡ false = sym c.is_waiting.ensures ∙ c.if-is_waiting.false in
    turn_idly plan s.kept.items s.marks s.ready s.links s.steps s.turns c.requires.sound c.args.m c.requires.lowest idle

pub returns-then-is_waiting-clause-above : goal.returns-then-is_waiting-clause-above
returns-then-is_waiting-clause-above c =
    let s = c.args.self.now in
    let kept = c.treat-treated.new.kept.items in
    let out = subst (AreTreated (c.args.m + 1)) (sym c.remove.ensures) (lowest_out s.marks c.args.m c.requires.lowest) in
    leaves_above c.note_treated.new.self.marks c.args.m
    (subst (AreTreated (c.args.m + 1)) (sym c.note_treated.ensures.marks)
    (written_above c.args.plan.now.stages kept s.links c.remove.new.self c.args.m ((kept_at kept c.args.m).stage) c.requires.sound.sources_lower c.requires.sound.above out))

pub returns-else-is_waiting-clause-above : goal.returns-else-is_waiting-clause-above
returns-else-is_waiting-clause-above c =
    let s = c.args.self.now in
    leaves_above c.remove.new.self c.args.m (subst (AreTreated (c.args.m + 1)) (sym c.remove.ensures) (lowest_out s.marks c.args.m c.requires.lowest))
