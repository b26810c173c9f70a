-- What one job of a worker adds: a claim, and the finish where the claim is granted.
use Rattle.std.specs.Prelude.{◌≡◌, ℕ, ◌+◌, ◌<◌, ◌≤◌, true, false, Option, Some, None, List, ◌++◌, length}
use Rattle.cf_forms.specs.declared.forms.Args.{Args}
use Rattle.cf_model.specs.declared.events.Event.{Event}
use Rattle.cf_model.specs.declared.events.Reply.{Reply}
use Rattle.cf_model.specs.declared.events.Reply.TheVariants.{Claim as ToldClaim}
use Rattle.cf_model.specs.declared.replies.Claimed.TheVariants.{Granted}
use Rattle.cf_model.specs.Claims.{is_claimable}
use Rattle.cf_model.specs.States.{stage_at}
use Rattle.cf_pool.specs.Answering.{Answers}
use Rattle.cf_desk.specs.declared.calls.Rec.{Rec}
use Rattle.cf_desk.specs.declared.faults.DeskFault.{DeskFault}
use Rattle.cf_desk.specs.Views.{Desk, Pass, IsSamePass, state_of}
use Rattle.cf_pool.specs.declared.worker.Done.{Done}
use Rattle.cf_pool.specs.Works.{Owed, AreWork, owed_after, claims_of}
use Rattle.cf_pool.specs.Counting.{Counts}
use Rattle.cf_pool.specs.Stops.{MeetsFault}
use Rattle.cf_pool.specs.Waits.{last_place}

-- The same pass has seen more, and has done work over the plan as it has seen it last: where this was owed before, that is owed
-- after. Each stage that it claimed could be claimed before in what it had seen, or wasn't there yet, and can't be claimed any more
-- after.
pub record AddsWork (answers : Answers) (owed : Owed) (p q : Pass) (owes : Owed) : Type 0 where
  pub same : IsSamePass p q
  pub seen : List Event
  pub goes_on : q.known.seen ≡ p.known.seen ++ seen
  pub more : List Rec
  pub records : q.records ≡ p.records ++ more
  pub work : AreWork answers (state_of q.known).plan owed more
  pub owes_then : owed_after owed more ≡ owes
  pub once : (i : ℕ) → claims_of i more ≤ 1
  pub fresh : (i : ℕ) → 0 < claims_of i more → is_claimable (stage_at (state_of p.known) i) ≡ true
  pub placed : last_place (length p.known.seen) more ≤ length q.known.seen
  pub spent : (i : ℕ) → 0 < claims_of i more → is_claimable (stage_at (state_of q.known) i) ≡ false

-- a job's work, up to a call that met a fault
pub record StopsJob (answers : Answers) (d : Desk) (p q : Pass) (fault : DeskFault) : Type 0 where
  pub stood : Pass
  pub owes : Owed
  pub adds : AddsWork answers None p stood owes
  pub meets : MeetsFault answers d owes stood q fault

-- the counts with more of them
abbrev pub sum_of : Done → Done → Done
sum_of a b = record { run = a.run + b.run; won = a.won + b.won; late = a.late + b.late }

-- the pass has added what was counted, a record at least for each that was counted, and not more than it may hold
pub record AddsCounted (answers : Answers) (owed : Owed) (p q : Pass) (done : Done) : Type 0 where
  pub adds : AddsWork answers owed p q None
  pub counts : Counts done adds.more
  pub run_few : done.run + length p.records ≤ length q.records
  pub won_few : done.won + length p.records ≤ length q.records
  pub late_few : done.late + length p.records ≤ length q.records
  pub room : length q.records ≤ q.calls

-- a job's counts, and that its records came after all that the pass had seen
pub record DoesJob (answers : Answers) (p q : Pass) (done : Done) : Type 0 where
  pub does : AddsCounted answers None p q done
  pub later : length p.known.seen < last_place (length p.known.seen) does.adds.more

-- the arguments that a reply grants
abbrev pub granted_by : Reply → Option Args
granted_by (ToldClaim (Granted args)) = Some args
granted_by reply = None
