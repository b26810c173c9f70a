-- Why a worker stops: a call that it made was refused.
use Rattle.std.specs.Prelude.{◌≡◌, ℕ, Some, None}
use Rattle.cf_model.specs.States.{lowest_ready_of}
use Rattle.cf_forms.specs.declared.forms.Answer.{Answer}
use Rattle.cf_pool.specs.Answering.{Answers, MayAnswer}
use Rattle.cf_model.specs.declared.calls.Call.{Call}
use Rattle.cf_model.specs.declared.calls.Call.TheVariants.{Claim, Finish}
use Rattle.cf_desk.specs.declared.faults.DeskFault.{DeskFault}
use Rattle.cf_model.specs.Calls.{event_by}
use Rattle.cf_desk.specs.Faults.{IsDue, IsOnStage}
use Rattle.cf_desk.specs.Views.{Desk, Follows, Pass, state_of}
use Rattle.cf_pool.specs.Works.{Owed, Works, owed_after}

-- The next call of a worker that owes this: the claim of the lowest ready stage of what its pass has seen, or the finish that it
-- owes, with what the stage's function may answer.
abbrev pub IsNextCall : Answers → Pass → Owed → Call → Type 0
IsNextCall answers p None call = (i : ℕ) × (lowest_ready_of (state_of p.known) ≡ Some i) × (call ≡ Claim i)
IsNextCall answers p (Some owed) call =
    (answer : Answer) × MayAnswer answers (state_of p.known).plan.stages owed.0 owed.1 answer × (call ≡ Finish owed.0 answer)

-- The next call of a worker that owes this, on a stage of the plan as its pass has seen it, is refused for this fault. Its pass has
-- then only seen more events of others.
pub record MeetsFault (answers : Answers) (d : Desk) (owed : Owed) (p q : Pass) (fault : DeskFault) : Type 0 where
  pub call : Call
  pub next : IsNextCall answers p owed call
  pub there : IsOnStage p (event_by p.known.caller call)
  pub left : Follows p q
  pub looks : q.known.looks ≡ p.known.looks
  pub due : IsDue q d (event_by p.known.caller call) fault

-- a worker has done work, and its next call met a fault
pub record Stops (answers : Answers) (d : Desk) (p q : Pass) (fault : DeskFault) : Type 0 where
  pub stood : Pass
  pub works : Works answers p stood
  pub meets : MeetsFault answers d (owed_after None works.more) stood q fault
