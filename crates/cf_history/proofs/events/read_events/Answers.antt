use Rattle.std.proofs.Common.{◌++◌, List, ap, sym}
use Rattle.cf_model.specs.declared.events.Event.{Event}
use Rattle.cf_event.specs.Decoding.{decoded}
use Rattle.cf_history.proofs.Words.{decoded_all, decoded_stop, read_more, read_up_to}
use Rattle.cf_history.proofs.events.read_events.Goals as goal

pub loop-i-init : goal.loop-i-init
loop-i-init c = ap (λ (es : List Event). es ++ decoded c.args.words.now) (sym c.new-events.ensures.items)

pub returns-in-None : goal.returns-in-None
returns-in-None c =
    read_up_to c.args.words.now c.loop-i.i c.loop-i.events.items (decoded_stop c.args.words.now c.loop-i.i c.loop-i-test.true (sym c.in-None.ensures.value)) c.loop-i.invariant

pub loop-i-preserved : goal.loop-i-preserved
loop-i-preserved c =
    read_more c.args.words.now c.loop-i.i c.loop-i.events.items c.push.new.self.items c.in-Some.event c.loop-i-test.true (sym c.in-Some.ensures.value) c.in_ok-push-in-Some.ensures.items c.loop-i.invariant

pub returns : goal.returns
returns c = read_up_to c.args.words.now c.loop-i.i c.loop-i.events.items (decoded_all c.args.words.now c.loop-i.i c.loop-i-test.false) c.loop-i.invariant
