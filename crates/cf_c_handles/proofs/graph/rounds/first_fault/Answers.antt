use Rattle.std.proofs.Common.{ap, sym, ◌∙◌, arith}
use Rattle.cf_c_handles.specs.Rounds.{fault_of}
use Rattle.cf_c_handles.proofs.Rounds.{first_fault, may_all, may_more, no_fault}
use Rattle.cf_c_handles.proofs.graph.rounds.first_fault.Goals as goal

pub each-preserved : goal.each-preserved
each-preserved c =
    may_more c.args.who c.args.graph.now.state c.args.tasks.now c.each.k _ (let t = c.each-test.true in let e = c.each.auto.k-end in omega arith) c.each.invariant
    (no_fault c.args.who c.args.graph.now.state _ c.held_by.result c.fault_of.result c.held_by.ensures c.fault_of.ensures c.in_default.not-Some)

pub returns : goal.returns
returns c = may_all c.args.who c.args.graph.now.state c.args.tasks.now c.each.k (let t = c.each-test.false in let e = c.each.auto.k-end in omega arith) c.each.invariant

pub returns-in-Some : goal.returns-in-Some
returns-in-Some c =
    first_fault c.args.who c.args.graph.now.state c.args.tasks.now c.each.k _ c.in-Some.code (let t = c.each-test.true in let e = c.each.auto.k-end in omega arith) c.each.invariant
    (ap (fault_of c.args.who c.args.graph.now.state) (sym c.held_by.ensures) ∙ sym c.fault_of.ensures ∙ c.in-Some.is)
