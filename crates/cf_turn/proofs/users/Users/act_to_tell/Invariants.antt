use Rattle.cf_turn.specs.Works.{NoneTold}
use Rattle.cf_turn.proofs.users.Users.act_to_tell.Given as goal

-- none so far
abbrev pub invariant-loop-at : goal.invariant-loop-at
invariant-loop-at l = NoneTold l.fault l.now l.at l.self.wishes
