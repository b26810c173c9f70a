use Rattle.std.proofs.Common.{◌+◌, arith, subst}
use Rattle.cf_model.specs.Calling.{Runs}
use Rattle.cf_model.proofs.Calling.{runs_all, runs_few, runs_none, runs_on}
use Rattle.cf_core.proofs.graph.Graph.work.Goals as goal
use Rattle.cf_core.proofs.graph.Graph.work.Given.{Over}
use Rattle.cf_core.proofs.graph.Graph.work.Goals.{else-nudge-few, then-nudge-few+else-calls-few}

pub returns-then-calls-few-clause-called : goal.returns-then-calls-few-clause-called
returns-then-calls-few-clause-called g c =
    subst (λ x. Runs g.F.Functions.calls c.args.who x c.args.functions.now c.work_few-calls.result c.work_few-calls.new.self.state c.work_few-calls.new.functions) c.nudge.ensures.unchanged c.work_few-calls.ensures.called

pub returns-then-calls-few-clause-stateless : goal.returns-then-calls-few-clause-stateless
returns-then-calls-few-clause-stateless g c meanings stateless =
    runs_all g.F.Functions.calls c.args.who meanings c.args.self.now.state c.work_few-calls.new.self.state c.args.functions.now c.work_few-calls.new.functions c.work_few-calls.result c.stages.ensures.all_stages
    (subst (λ x. Runs g.F.Functions.calls c.args.who x c.args.functions.now c.work_few-calls.result c.work_few-calls.new.self.state c.work_few-calls.new.functions) c.nudge.ensures.unchanged c.work_few-calls.ensures.called)
    (c.work_few-calls.ensures.none c.if-calls-few.true) stateless

-- what was done before the sweep, and by it
all : (g : Over) (c : goal.After-row_known-1 g) → Runs g.F.Functions.calls c.args.who c.args.self.now.state c.args.functions.now (c.if-nudge-few.calls + c.sweep.result) c.sweep.new.self.state c.sweep.new.functions
all g c =
    let calls = g.F.Functions.calls in
    let s = c.args.self.now.state in
    let so_far : Runs calls c.args.who s c.args.functions.now c.if-nudge-few.calls c.if-nudge-few.self.state c.if-nudge-few.functions = elim c.if-nudge-few.branch [
      | then-nudge-few+else-calls-few w ↦ rw (w.self-is, w.calls-is, w.functions-is)
          (subst (λ x. Runs calls c.args.who x c.args.functions.now w.work_few-calls.result w.work_few-calls.new.self.state w.work_few-calls.new.functions) c.nudge.ensures.unchanged w.work_few-calls.ensures.called)
      | else-nudge-few w ↦ rw (w.self-is, w.calls-is, w.functions-is, c.nudge.ensures.unchanged) (runs_none calls c.args.who s c.args.functions.now)
    ] in
    runs_on calls c.args.who s c.if-nudge-few.self.state c.sweep.new.self.state c.args.functions.now c.if-nudge-few.functions c.sweep.new.functions c.if-nudge-few.calls c.sweep.result so_far c.sweep.ensures.called

pub overflow_add-result : goal.overflow_add-result
overflow_add-result g c =
    let few = runs_few g.F.Functions.calls c.args.who c.args.self.now.state c.sweep.new.self.state c.args.functions.now c.sweep.new.functions (c.if-nudge-few.calls + c.sweep.result) c.stages.ensures.all_stages (all g c) in
    let count = c.stages.ensures.count in
    omega (arith, few, count, c.stages.type_inv)

pub returns-clause-called : goal.returns-clause-called
returns-clause-called g c = all g c

pub returns-clause-stateless : goal.returns-clause-stateless
returns-clause-stateless g c meanings stateless =
    runs_all g.F.Functions.calls c.args.who meanings c.args.self.now.state c.sweep.new.self.state c.args.functions.now c.sweep.new.functions (c.if-nudge-few.calls + c.sweep.result) c.stages.ensures.all_stages
    (all g c) c.sweep.ensures.none stateless
