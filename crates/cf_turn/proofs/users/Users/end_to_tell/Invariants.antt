use Rattle.cf_turn.specs.Works.{NoEndTold}
use Rattle.cf_turn.proofs.users.Users.end_to_tell.Given as goal

-- none so far
abbrev pub invariant-loop-at : goal.invariant-loop-at
invariant-loop-at l = NoEndTold l.fault l.is_closed l.now l.at l.self.ends
