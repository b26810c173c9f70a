-- What a caller of a desk is given to do, a stage at a time, and a row of stages that it completes.
use Rattle.std.specs.Prelude.{◌≡◌, ◌≢◌, ◌⊎◌, ℕ, ◌<◌, ◌≤◌, Option, Some, None, Result, Ok, Err, List, [], ◌∷◌, length, slice_get, take}
use Rattle.std.specs.Arc.{arc_value}
use Rattle.cf_forms.specs.declared.forms.Args.{Args}
use Rattle.cf_forms.specs.Plans.{function_at}
use Rattle.cf_model.specs.declared.events.Reply.{Reply}
use Rattle.cf_model.specs.declared.events.Reply.TheVariants.{Claim as ToldClaim, Finish as ToldFinish}
use Rattle.cf_model.specs.declared.replies.Claimed.TheVariants.{Granted}
use Rattle.cf_model.specs.declared.replies.Finished.{Finished}
use Rattle.cf_model.specs.States.{claim_at, lowest_ready_of}
use Rattle.cf_ledger.specs.declared.step.Held.{Held}
use Rattle.cf_model.specs.declared.calls.Call.{Call}
use Rattle.cf_model.specs.declared.calls.Call.TheVariants.{Claim, Complete, Finish}
use Rattle.cf_desk.specs.declared.faults.DeskFault.{DeskFault}
use Rattle.cf_desk.specs.Results.{DeskAnswers, Refuses}
use Rattle.cf_desk.specs.Views.{Desk, Follows, HoldsClaim, LooksOnce, Pass, state_of}
use Rattle.cf_c_handles.specs.Codes.{desk_code}
use Rattle.cf_c_handles.specs.Desks.{AtCaller}
use Rattle.cf_c_handles.specs.Replies.{finish_number}
use Rattle.cf_c_handles.specs.Tasks.{finished_as, held_by, holding}
use Rattle.cf_c_handles.specs.Values.{value_of}
use Rattle.cf_c_handles.specs.declared.code.Code.{Code}
use Rattle.cf_c_handles.specs.declared.code.Code.TheVariants.{Lost, NoStage, NotHeld, Nothing, WrongKind}
use Rattle.cf_c_handles.specs.declared.handle.object.Caller.{Caller as Caller'}
use Rattle.cf_c_handles.specs.declared.handle.object.Object.{Object}
use Rattle.cf_c_handles.specs.declared.handle.object.Object.TheVariants.{Caller}
use Rattle.cf_c_handles.specs.declared.values.CfGiven.{CfGiven}
use Rattle.cf_c_handles.specs.declared.values.task.CfTask.{CfTask}

-- ---- one step

-- the caller finishes a stage that it holds, and is answered that it won or came late
pub record IsFinished (d : Desk) (h : Held) (p : Pass) (told : ℕ) (q : Pass) : Type 0 where
  pub held : HoldsClaim p h.stage
  pub reply : Finished
  pub answers : DeskAnswers d p (Finish h.stage h.answer) (ToldFinish reply) q
  pub tells : finished_as reply ≡ Ok told

-- how the finish of a held stage went
abbrev pub reply_number : Reply → ℕ
reply_number (ToldFinish finished) = finish_number finished
reply_number reply = 0

-- a call is refused, and C is told why
pub record CallerRefuses (d : Desk) (call : Call) (p : Pass) (code : Code) (q : Pass) : Type 0 where
  pub why : DeskFault
  pub refuses : Refuses d p call q why
  pub tells : code ≡ desk_code why

-- it isn't finished: the stage isn't there, or isn't the caller's, in what the caller has seen; or the desk refuses the finish
abbrev pub IsNotFinished : Desk → Held → Pass → Code → Pass → Type 0
IsNotFinished d h p code q =
    ((code ≡ NoStage) × (length (state_of p.known).plan.stages ≤ h.stage) × (q ≡ p))
    ⊎ ((code ≡ NotHeld) × (h.stage < length (state_of p.known).plan.stages) × (claim_at (state_of p.known) h.stage ≢ Some p.known.caller) × (q ≡ p))
    ⊎ (HoldsClaim p h.stage × CallerRefuses d (Finish h.stage h.answer) p code q)

-- what is held is finished, if anything is
abbrev pub Finishes : Desk → Option Held → Pass → Result ℕ Code → Pass → Type 0
Finishes d None p r q = (r ≡ Ok 0) × (q ≡ p)
Finishes d (Some h) p (Ok told) q = IsFinished d h p told q
Finishes d (Some h) p (Err code) q = IsNotFinished d h p code q

-- the claim is granted, and the task holds the stage
pub record IsGranted (d : Desk) (i : ℕ) (p : Pass) (had has : CfTask) (q : Pass) : Type 0 where
  pub args : Args
  pub answers : DeskAnswers d p (Claim i) (ToldClaim (Granted args)) q
  pub is : has ≡ holding had i (function_at (state_of p.known).plan.stages i) args

-- it is answered otherwise: another caller was first
pub record IsLost (d : Desk) (i : ℕ) (p : Pass) (q : Pass) : Type 0 where
  pub reply : Reply
  pub answers : DeskAnswers d p (Claim i) reply q
  pub lost : (args : Args) → reply ≢ ToldClaim (Granted args)

abbrev pub IsNotGranted : Desk → ℕ → Pass → Code → Pass → Type 0
IsNotGranted d i p code q = ((code ≡ Lost) × IsLost d i p q) ⊎ CallerRefuses d (Claim i) p code q

-- the stage that is ready is claimed; where none is, or the claim isn't granted, the task holds nothing
abbrev pub Claims : Desk → Option ℕ → Pass → CfTask → Result (Unit {0}) Code → CfTask → Pass → Type 0
Claims d None p had r has q = (r ≡ Err Nothing) × (has ≡ record had { held = 0 }) × (q ≡ p)
Claims d (Some i) p had (Ok done) has q = IsGranted d i p had has q
Claims d (Some i) p had (Err code) has q = (has ≡ record had { held = 0 }) × IsNotGranted d i p code q

-- the caller looks once, and the lowest stage that is ready then is claimed
pub record DeskTakes (d : Desk) (p : Pass) (had : CfTask) (r : Result (Unit {0}) Code) (has : CfTask) (q : Pass) : Type 0 where
  pub found : Pass
  pub seen : Follows p found
  pub looks : LooksOnce d p found
  pub claims : Claims d (lowest_ready_of (state_of found.known)) found had r has q

-- what the task holds is finished, the task tells how, and then the lowest ready stage is taken
pub record IsStep (d : Desk) (p : Pass) (had : CfTask) (r : Result (Unit {0}) Code) (has : CfTask) (q : Pass) : Type 0 where
  pub told : ℕ
  pub between : Pass
  pub finishes : Finishes d (held_by had) p (Ok told) between
  pub takes : DeskTakes d between (record had { finished = told }) r has q

-- what the task holds can't be finished: the task stays, and no event is added
pub record IsNoStep (d : Desk) (p : Pass) (had : CfTask) (r : Result (Unit {0}) Code) (has : CfTask) (q : Pass) : Type 0 where
  pub code : Code
  pub told : r ≡ Err code
  pub finishes : Finishes d (held_by had) p (Err code) q
  pub task : has ≡ had

abbrev pub StepsDesk : CfTask → CfTask → Caller' → Result (Unit {0}) Code → Caller' → Type 0
StepsDesk had has c r now = IsStep (arc_value c.desk) c.pass had r has now.pass ⊎ IsNoStep (arc_value c.desk) c.pass had r has now.pass

-- one step of a caller of a desk
abbrev pub StepsCaller : CfTask → CfTask → Object → Result (Unit {0}) Code → Object → Type 0
StepsCaller had has (Caller c) r new = AtCaller (StepsDesk had has) c r new
StepsCaller had has held r new = (r ≡ Err WrongKind) × (new ≡ held) × (has ≡ had)

-- ---- a row of stages

abbrev pub call_of : CfGiven → Call
call_of x = Complete x.stage (value_of x.value)

-- stages are completed one after another, each by a call that is answered
abbrev pub AreCompleted : Desk → List CfGiven → Pass → Pass → Type 0
AreCompleted d [] p q = q ≡ p
AreCompleted d (x ∷ xs) p q = (next : Pass) × ((reply : Reply) × DeskAnswers d p (call_of x) reply next) × AreCompleted d xs next q

-- all are completed, or the next one is refused
abbrev pub Ends : Desk → Option CfGiven → Pass → Result (Unit {0}) Code → Pass → Type 0
Ends d None p r q = (r ≡ Ok tt) × (q ≡ p)
Ends d (Some x) p (Ok done) q = ⊥
Ends d (Some x) p (Err code) q = CallerRefuses d (call_of x) p code q

-- the first stages are completed, and C is told how many these are
pub record IsRow (d : Desk) (given : List CfGiven) (p : Pass) (r : Result (Unit {0}) Code) (q : Pass) (has : ℕ) : Type 0 where
  pub few : has ≤ length given
  pub found : Pass
  pub front : AreCompleted d (take has given) p found
  pub ends : Ends d (slice_get given has) found r q

abbrev pub CompletesRow : List CfGiven → ℕ → Caller' → Result (Unit {0}) Code → Caller' → Type 0
CompletesRow given has c r now = IsRow (arc_value c.desk) given c.pass r now.pass has

-- a caller completes stages
abbrev pub CompletesMany : List CfGiven → Object → ℕ → Result (Unit {0}) Code → Object → ℕ → Type 0
CompletesMany given (Caller c) had r new has = AtCaller (CompletesRow given has) c r new
CompletesMany given held had r new has = (r ≡ Err WrongKind) × (new ≡ held) × (has ≡ had)
