use Rattle.cf_turn.specs.Quiets.{ActsWait}
use Rattle.cf_turn.proofs.users.acts_wait_till.Given as goal

-- those so far wait till then
abbrev pub invariant-loop-at : goal.invariant-loop-at
invariant-loop-at l = ActsWait l.wishes l.until l.at
