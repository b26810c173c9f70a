-- What is put for a session that is gone.
use Rattle.std.specs.Prelude.{◌≡◌, ℕ, ◌≤◌, true, [], ◌∷◌}
use Rattle.cf_model.specs.declared.events.Event.TheVariants.{Fail as Fails}
use Rattle.cf_model.specs.declared.events.Reply.TheVariants.{Flag as ToldFlag}
use Rattle.cf_model.specs.Events.{answered}
use Rattle.cf_event.specs.Words.{word_of}
use Rattle.cf_row.specs.Rows.{Replica, state_of}
use Rattle.cf_row.specs.Grants.{IsHeldBy, NoneHeldBy}
use Rattle.cf_row.specs.Numbers.{FollowsRule}
use Rattle.cf_row.specs.Puts.{AreWordsBehind, pairs_of}

-- the word by which this view's session fails the lowest stage from a number on that another one has: the graph takes it behind all that was seen, and the stage is settled by it
pub record Abandons (r : Replica) (session from code word : ℕ) : Type 0 where
  pub who : ℕ
  pub stage : ℕ
  pub rule : FollowsRule (pairs_of r.seen) (r.session, who)
  pub held : IsHeldBy r session stage
  pub above : from ≤ stage
  pub first : NoneHeldBy r session from stage
  pub is : word ≡ word_of (Fails who stage code)
  pub fits : AreWordsBehind r who (word ∷ [])
  pub settles : (answered (state_of r) (Fails who stage code)).0 ≡ ToldFlag true
