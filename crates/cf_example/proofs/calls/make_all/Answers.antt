use Rattle.std.proofs.Common.{List, sym, subst, take}
use Rattle.std.proofs.lemmas.Bool.{OnTrue_at}
use Rattle.std.proofs.lemmas.List.{take_more}
use Rattle.cf_example.specs.declared.calls.MachineCall.{MachineCall}
use Rattle.cf_example.specs.declared.calls.MachineCall.TheVariants.{Reserve}
use Rattle.cf_example.specs.Calls.{MakesAll}
use Rattle.cf_example.proofs.AnyRow.{one_more}
use Rattle.cf_example.proofs.calls.make_all.Goals as goal

pub loop-place-preserved : goal.loop-place-preserved
loop-place-preserved c =
    let calls = c.args.calls.now in
    let i = c.loop-place.place in
    subst (λ (l : List MachineCall). MakesAll l c.args.machine.now c.make.new.machine) (sym (take_more calls i (Reserve 0) c.loop-place-test.true))
    (one_more c.settled_stages_keep_their_outcomes.ensures c.calls_add_behind.ensures (take i calls) _ c.args.machine.now c.loop-place.machine c.make.new.machine c.loop-place.invariant c.make.ensures.row (OnTrue_at c.if-not-make.false c.make.ensures.set))
