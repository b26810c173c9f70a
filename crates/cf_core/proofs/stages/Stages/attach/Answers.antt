use Rattle.std.proofs.Common.{ℕ, ◌∙◌, ◌+◌, ◌++◌, ◌∷◌, [], ap, arith, false, length, refl, subst, sym, cond}
use Rattle.cf_forms.specs.Plans.{attached_stage, sources_of}
use Rattle.cf_core.specs.declared.kept.KeptStage.{KeptStage}
use Rattle.cf_core.specs.declared.stages.Stages.{Stages}
use Rattle.cf_model.specs.States.{is_ready}
use Rattle.cf_core.specs.Keeping.Attaching.{due_now, takes_now}
use Rattle.cf_core.specs.Keeping.Sound.{StayTaken, settled_view}
use Rattle.cf_forms.proofs.PlanLemmas.{few_sources}
use Rattle.cf_core.proofs.Keeping.AttachSound.{StayTaken-push, attach_sound}
use Rattle.cf_core.proofs.Keeping.Attaching.{attaching_is_after}
use Rattle.cf_core.proofs.Keeping.Lowest.{all_steady}
use Rattle.cf_core.proofs.Keeping.Places.{IsSound-same}
use Rattle.cf_core.proofs.Keeping.Takes.{budget}
use Rattle.cf_model.specs.Graphs.{MovesAlone}
use Rattle.cf_core.specs.Keeping.Treatment.{stages_of}
use Rattle.cf_core.proofs.Keeping.Changes.{alone_pushed}
use Rattle.std.specs.Prelude.{position}
use Rattle.cf_core.proofs.Keeping.Above.{leaves_none, none_more, none_treated}
use Rattle.cf_core.proofs.stages.Stages.attach.Goals as goal

pub returns-clause-attached : goal.returns-clause-attached
returns-clause-attached c function =
    let s = c.args.self.now in
    let plan = c.args.plan.now.stages in
    let p = attached_stage c.args.form c.args.of function in
    let h = c.requires.sound in
    ap (settled_view (plan ++ p ∷ []))
    (c.push.ensures.kept ∙ ap (λ (n : Stages). n.kept.items ++ c.newcomer_of-new.result ∷ []) c.newcomer_of-new.ensures.counted ∙ ap (λ (k : KeptStage). s.kept.items ++ k ∷ []) c.newcomer_of-new.ensures.kept)
    ∙ attaching_is_after plan s.kept.items p (s.steps + 1) h.all_kept (all_steady plan s.kept.items s.marks s.ready s.links s.steps s.turns h c.requires.treated)

pub returns-clause-taken : goal.returns-clause-taken
returns-clause-taken c =
    let s = c.args.self.now in
    subst (StayTaken s.kept.items) (sym (c.push.ensures.kept ∙ ap (λ (n : Stages). n.kept.items ++ c.newcomer_of-new.result ∷ []) c.newcomer_of-new.ensures.counted)) (StayTaken-push s.kept.items c.newcomer_of-new.result)

pub returns-clause-sound : goal.returns-clause-sound
returns-clause-sound c function =
    let s = c.args.self.now in
    let t = c.push.new.self in
    let plan = c.args.plan.now.stages in
    let p = attached_stage c.args.form c.args.of function in
    let few = few_sources c.args.of in
    let more = budget s.kept.items p in
    let takes : ℕ = cond (takes_now s.kept.items c.args.form (sources_of c.args.of)) 1 0 in
    let is = c.newcomer_of-new.ensures.kept in
    let counted = c.newcomer_of-new.ensures.counted in
    IsSound-same (plan ++ p ∷ []) t.kept.items _ t.marks _ t.ready _ t.links _ t.steps _ t.turns _
    (c.push.ensures.kept ∙ ap (λ (n : Stages). n.kept.items ++ c.newcomer_of-new.result ∷ []) counted ∙ ap (λ (k : KeptStage). s.kept.items ++ k ∷ []) is)
    (c.push.ensures.marks ∙ ap (λ (n : Stages). n.marks ++ false ∷ []) counted)
    (c.push.ensures.ready ∙ ap (λ (n : Stages). n.ready ++ is_ready c.newcomer_of-new.result.stage ∷ []) counted ∙ ap (λ (k : KeptStage). s.ready ++ is_ready k.stage ∷ []) is)
    (c.push.ensures.links ∙ ap (λ (n : Stages). n.links) counted) (c.push.ensures.steps ∙ ap (λ (n : Stages). n.steps) counted) (c.push.ensures.turns ∙ ap (λ (n : Stages). n.turns) counted)
    (attach_sound plan s.kept.items s.marks s.ready s.links s.steps s.turns c.requires.sound p (due_now s.kept.items c.args.form (sources_of c.args.of)) (s.turns + takes) refl
    c.requires.few (omega (arith, few, c.requires.few_edges)) c.requires.sources c.requires.lists (omega (arith, more)))

pub returns-clause-alone : goal.returns-clause-alone
returns-clause-alone c =
    let s = c.args.self.now in
    let new = c.newcomer_of-new.result in
    let items = c.push.ensures.kept ∙ ap (λ (n : Stages). n.kept.items ++ new ∷ []) c.newcomer_of-new.ensures.counted in (
      subst (λ n. MovesAlone n (stages_of s.kept.items) (stages_of c.push.new.self.kept.items)) c.requires.sound.all_kept
          (subst (λ kept. MovesAlone (length s.kept.items) (stages_of s.kept.items) (stages_of kept)) (sym items) (alone_pushed s.kept.items new)),
      leaves_none (length c.args.plan.now.stages) (position (λ b. b) c.push.new.self.marks)
          (ap (position (λ b. b)) (c.push.ensures.marks ∙ ap (λ (n : Stages). n.marks ++ false ∷ []) c.newcomer_of-new.ensures.counted) ∙ none_more s.marks (none_treated s.marks (length c.args.plan.now.stages) c.requires.sound.all_marks c.requires.treated)),
    )
