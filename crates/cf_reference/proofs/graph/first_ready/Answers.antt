use Rattle.std.proofs.Common.{◌∙◌, sym, arith}
use Rattle.cf_model.specs.States.{is_ready}
use Rattle.cf_model.specs.declared.stage.Stage.TheVariants.{Pending}
use Rattle.cf_bits.proofs.Positions.{position_is, position_is_none}
use Rattle.cf_reference.proofs.graph.first_ready.Goals as goal

pub returns-then-ready : goal.returns-then-ready
returns-then-ready c =
    sym (position_is is_ready c.args.stages.now c.loop-i.i Pending c.loop-i-test.true c.loop-i.invariant (sym c.ready.ensures ∙ c.if-ready.true))

pub returns : goal.returns
returns c =
    sym (position_is_none is_ready c.args.stages.now Pending (λ j l. c.loop-i.invariant j (omega (arith, c.loop-i-test.false))))
