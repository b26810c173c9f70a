use Rattle.std.proofs.Common.{◌++◌, ◌+◌, ◌∙◌, [], List, ap, drop, map, sym}
use Rattle.cf_history.specs.declared.history.Caller.{Caller}
use Rattle.cf_history.specs.declared.shared.Session.{Session}
use Rattle.cf_history.specs.declared.shared.SharedCaller.{SharedCaller}
use Rattle.cf_history.specs.Shared.{all_filled, entries_of, filled, merged_all, records_of}
use Rattle.cf_history.proofs.Replies.{callers_all, callers_more}
use Rattle.cf_history.proofs.filling.fill_callers.Goals as goal

pub loop-caller-init : goal.loop-caller-init
loop-caller-init c = ap (λ (ks : List Caller). records_of ks ++ all_filled c.args.replies.now (entries_of c.args.callers.now)) (sym c.new-told.ensures.items)

pub loop-caller-preserved : goal.loop-caller-preserved
loop-caller-preserved c =
    let replies = c.args.replies.now in
    let i = c.loop-caller.caller-index in
    callers_more replies c.args.callers.now i c.caller-item.result c.loop-caller.told.items (record { records = c.in_ok-records.records }) c.loop-caller-test.true
    (c.in_ok-records.ensures ∙ ap (λ (ss : List Session). map (filled replies) (merged_all [] ss)) c.deref.ensures.value
    ∙ ap (λ (k : SharedCaller). map (filled replies) (merged_all [] k.sessions.items)) c.caller-item.is) c.loop-caller.invariant
    ∙ ap (λ (ks : List Caller). records_of ks ++ all_filled replies (entries_of (drop (i + 1) c.args.callers.now))) (sym c.in_ok-push.ensures.items)

pub returns : goal.returns
returns c = callers_all c.args.replies.now c.args.callers.now c.loop-caller.caller-index c.loop-caller.told.items c.loop-caller-test.false c.loop-caller.invariant
