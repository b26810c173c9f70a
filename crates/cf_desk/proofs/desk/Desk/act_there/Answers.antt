use Rattle.std.proofs.Common.{Option, Some, None, ◌≢◌, MatchOption, refl, ◌∙◌}
use Rattle.cf_model.specs.declared.events.Reply.{Reply}
use Rattle.cf_model.specs.declared.calls.Call.{Call}
use Rattle.cf_desk.specs.Views.{Pass, AddedByOther, AddedOwn}
use Rattle.cf_desk.proofs.Passes.{follows_itself, follows_more, looks_same, still_event}
use Rattle.cf_desk.proofs.desk.Desk.act_there.Goals as goal

pub next-init : goal.next-init
next-init c = (follows_itself _, refl, c.requires.event)

lost : (p q : Pass) (call : Call) (reply : Option Reply) → ((won : Reply) → reply ≢ Some won) → MatchOption reply (AddedByOther p q) (λ won. AddedOwn p call won q) → AddedByOther p q
lost p q call None none h = h
lost p q call (Some won) none h = absurd (none won refl)

pub next-preserved : goal.next-preserved
next-preserved c =
    let other = lost c.next.p c.add.new.p c.args.c c.add.result c.in_default.not-Some c.add.ensures in
    (follows_more _ _ _ c.next.invariant.0 other, looks_same _ _ other ∙ c.next.invariant.1, still_event _ _ _ (follows_more _ _ _ (follows_itself _) other) c.next.invariant.2)
