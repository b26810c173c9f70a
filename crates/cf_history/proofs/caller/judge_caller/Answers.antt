use Rattle.std.proofs.Common.{ℕ, ◌+◌, List, get_or, false, arith, subst, sym}
use Rattle.std.proofs.lemmas.List.{take_rest}
use Rattle.cf_outcome.specs.declared.outcome.Value.TheVariants.{Nil}
use Rattle.cf_model.specs.declared.events.Event.{Event}
use Rattle.cf_model.specs.declared.events.Event.TheVariants.{Complete as Completes}
use Rattle.cf_model.specs.declared.events.Reply.TheVariants.{Flag}
use Rattle.cf_event.specs.declared.record.Record.{Record}
use Rattle.cf_event.specs.declared.record.Record.TheVariants.{Did}
use Rattle.cf_history.specs.Records.{RecordGoesOn}
use Rattle.cf_history.specs.Verdicts.{IsMisfit}
use Rattle.cf_history.proofs.Walks.{Walked, walk_misfit, walk_on}
use Rattle.cf_history.proofs.caller.judge_caller.Goals as goal

pub returns-in-Err : goal.returns-in-Err
returns-in-Err c =
    let d : Record = Did 0 (Completes 0 0 Nil) (Flag false) in
    walk_misfit c.args.caller c.args.graph.now.state c.args.history.now c.args.records.now c.loop-k.k c.loop-k.at d c.loop-k.graph.state c.in-Err.why (omega arith)
    (subst (λ (es : List Event). IsMisfit c.args.caller c.loop-k.graph.state es c.loop-k.at (get_or c.args.records.now c.loop-k.k d) c.in-Err.why) (take_rest c.args.history.now c.loop-k.at) c.in-Err.ensures) c.loop-k.invariant

pub loop-k-preserved : goal.loop-k-preserved
loop-k-preserved c =
    let d : Record = Did 0 (Completes 0 0 Nil) (Flag false) in
    subst (λ (n : ℕ). Walked c.args.caller c.args.graph.now.state c.args.history.now c.args.records.now (c.loop-k.k + 1) n c.judge_record.new.graph.state) (sym c.place-at.ensures)
    (walk_on c.args.caller c.args.graph.now.state c.args.history.now c.args.records.now c.loop-k.k c.loop-k.at d c.loop-k.graph.state c.judge_record.new.graph.state (omega arith)
    (subst (λ (es : List Event). RecordGoesOn c.args.caller c.loop-k.graph.state es c.loop-k.at (get_or c.args.records.now c.loop-k.k d) c.judge_record.new.graph.state) (take_rest c.args.history.now c.loop-k.at) c.in-Ok.ensures) c.loop-k.invariant)
