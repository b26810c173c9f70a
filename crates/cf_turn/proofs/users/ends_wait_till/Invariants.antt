use Rattle.cf_turn.specs.Quiets.{EndsWait}
use Rattle.cf_turn.proofs.users.ends_wait_till.Given as goal

-- those so far wait till then
abbrev pub invariant-loop-at : goal.invariant-loop-at
invariant-loop-at l = EndsWait l.ends l.until l.at
