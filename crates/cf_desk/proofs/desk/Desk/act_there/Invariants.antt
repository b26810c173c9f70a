use Rattle.std.proofs.Common.{◌≡◌, ◌-◌, length}
use Rattle.cf_model.specs.Calls.{event_by}
use Rattle.cf_desk.specs.Log.{IsDeskEvent}
use Rattle.cf_desk.specs.Views.{Follows, state_of}
use Rattle.cf_desk.proofs.desk.Desk.act_there.Given as goal

abbrev pub invariant-next : goal.invariant-next
invariant-next l = Follows l.initial.p l.p × (l.p.known.looks ≡ l.initial.p.known.looks) × IsDeskEvent l.p.known.setting (state_of l.p.known) (event_by l.p.known.caller l.c)

abbrev pub decreases-next : goal.decreases-next
decreases-next l = l.words - length l.p.known.seen
