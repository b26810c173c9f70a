use Rattle.std.proofs.Common.{◌∙◌, sym}
use Rattle.cf_core.proofs.Keeping.Sweeping.{swept_idle, told_ready, told_unready}
use Rattle.cf_core.proofs.stages.Stages.next_swept.Goals as goal

pub returns-then-not-is_waiting-clause-ready : goal.returns-then-not-is_waiting-clause-ready
returns-then-not-is_waiting-clause-ready g c =
    let s = c.args.self.now in
    let plan = c.args.plan.now.stages in
    told_ready plan c.args.m s c.args-then-not-is_waiting.result c.args-then-not-is_waiting.ensures c.requires.stage
    (swept_idle plan s.kept.items s.links s.steps s.turns c.args.m c.requires.swept c.requires.stage (sym c.is_waiting.ensures ∙ c.if-not-is_waiting.true))

pub returns-then-not-is_waiting-clause-swept : goal.returns-then-not-is_waiting-clause-swept
returns-then-not-is_waiting-clause-swept g c =
    let s = c.args.self.now in
    let plan = c.args.plan.now.stages in
    told_unready plan c.args.m s c.args-then-not-is_waiting.result c.args-then-not-is_waiting.ensures c.requires.stage
    (swept_idle plan s.kept.items s.links s.steps s.turns c.args.m c.requires.swept c.requires.stage (sym c.is_waiting.ensures ∙ c.if-not-is_waiting.true))

pub returns-in-None-clause-ready : goal.returns-in-None-clause-ready
returns-in-None-clause-ready g c = told_ready c.args.plan.now.stages c.args.m c.treat_swept.new.self c.args-in-None.result c.args-in-None.ensures c.requires.stage c.in-None.ensures.swept

pub returns-in-None-clause-swept : goal.returns-in-None-clause-swept
returns-in-None-clause-swept g c = told_unready c.args.plan.now.stages c.args.m c.treat_swept.new.self c.args-in-None.result c.args-in-None.ensures c.requires.stage c.in-None.ensures.swept
