use Rattle.std.proofs.Common.{◌++◌, ◌+◌, ◌∙◌, ◌∷◌, [], List, ap, drop, map, sym}
use Rattle.cf_event.specs.declared.record.Record.{Record}
use Rattle.cf_history.specs.Shared.{filled}
use Rattle.cf_history.proofs.Replies.{map_all, map_more}
use Rattle.cf_history.proofs.filling.fill.Goals as goal

pub loop-entry-init : goal.loop-entry-init
loop-entry-init c = ap (λ (rs : List Record). rs ++ map (filled c.args.replies.now) c.args.entries.now) (sym c.new-records.ensures.items)

pub loop-entry-preserved : goal.loop-entry-preserved
loop-entry-preserved c =
    let f = filled c.args.replies.now in
    let i = c.loop-entry.entry-index in
    let out = c.loop-entry.records.items in
    map_more f c.args.entries.now i _ out c.loop-entry-test.true c.loop-entry.invariant
    ∙ ap (λ (rs : List Record). rs ++ map f (drop (i + 1) c.args.entries.now)) (sym (c.in_ok-push.ensures.items ∙ ap (λ (r : Record). out ++ r ∷ []) c.filled.ensures))

pub returns : goal.returns
returns c = map_all (filled c.args.replies.now) c.args.entries.now c.loop-entry.entry-index c.loop-entry.records.items c.loop-entry-test.false c.loop-entry.invariant
