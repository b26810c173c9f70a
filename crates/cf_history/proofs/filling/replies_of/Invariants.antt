use Rattle.cf_history.proofs.Replies.{Replied}
use Rattle.cf_history.proofs.filling.replies_of.Given as goal

abbrev pub invariant-loop-event : goal.invariant-loop-event
invariant-loop-event l = Replied l.fn.graph.state l.events l.event-index l.graph.state l.replies.items
