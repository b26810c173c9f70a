use Rattle.std.proofs.Common.{◌≡◌, ◌<◌, ◌∙◌, ap, arith, length, subst, sym}
use Rattle.std.specs.Prelude.{position, slice_get}
use Rattle.cf_model.specs.States.{is_ready}
use Rattle.cf_core.specs.Keeping.Sweeps.{AreSwept}
use Rattle.cf_core.proofs.Keeping.Sweeping.{swept_none, with_lowest, with_stage}
use Rattle.cf_core.proofs.graph.lending.go_on.Goals as goal

pub returns-in-Some-clause-lowest : goal.returns-in-Some-clause-lowest
returns-in-Some-clause-lowest c =
    let plan = c.args.plan.now.stages in
    let t = c.next_swept.new.self in
    let within : c.loop-m.m < length plan = omega arith in
    let ready = c.in-Some.ensures.ready in
    ap (position is_ready) (sym ready.same) ∙ with_lowest plan t.kept.items t.links t.steps t.turns c.loop-m.m c.in-Some.args within ready.swept

pub returns-in-Some-clause-ready : goal.returns-in-Some-clause-ready
returns-in-Some-clause-ready c =
    let plan = c.args.plan.now.stages in
    let t = c.next_swept.new.self in
    let within : c.loop-m.m < length plan = omega arith in
    let ready = c.in-Some.ensures.ready in
    ap (λ xs. slice_get xs c.loop-m.m) (sym ready.same) ∙ with_stage plan t.kept.items t.links t.steps t.turns c.loop-m.m c.in-Some.args within ready.swept

pub returns-clause-none : goal.returns-clause-none
returns-clause-none c =
    let plan = c.args.plan.now.stages in
    let s = c.loop-m.stages in
    let all : c.loop-m.m ≡ length plan = omega arith in
    swept_none plan s.kept.items s.links s.steps s.turns (subst (λ n. AreSwept plan n n s) all c.loop-m.invariant.swept)
