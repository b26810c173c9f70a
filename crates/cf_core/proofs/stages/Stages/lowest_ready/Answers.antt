use Rattle.std.proofs.Common.{◌∙◌, arith, refl, sym}
use Rattle.std.specs.Prelude.{position}
use Rattle.cf_core.proofs.Keeping.Lowest.{all_flags, lowest_ready_is, ready_unmarked}
use Rattle.cf_core.proofs.Keeping.TurnLemmas.{no_turn_below}
use Rattle.cf_core.proofs.stages.Stages.lowest_ready.Goals as goal

pub returns-in-None-clause-told : goal.returns-in-None-clause-told
returns-in-None-clause-told c =
    let s = c.args.self.now in
    let plan = c.args.plan.now.stages in
    let h = c.requires.sound in
    let none = sym c.lowest.ensures ∙ c.in-None.is in
    let all = all_flags plan s.kept.items s.marks s.ready s.links s.steps s.turns h in
    c.lowest-in-None.ensures
    ∙ sym (lowest_ready_is plan s.kept.items s.marks s.ready s.links s.steps s.turns h (position (λ b. b) s.ready) refl (ready_unmarked s.marks s.ready none (omega (arith, all, h.all_marks, h.all_kept))))

pub returns-in-None-clause-turns : goal.returns-in-None-clause-turns
returns-in-None-clause-turns c = no_turn_below c.args.plan.now.stages c.args.self.now
