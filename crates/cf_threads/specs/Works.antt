-- What one thread does between its turns.
use Rattle.std.specs.Prelude.{◌≡◌, Option, Some, None, Result, Ok, Err, List, [], ◌∷◌, ◌++◌, unwrap_or}
use Rattle.cf_forms.specs.declared.forms.Answer.{Answer}
use Rattle.cf_model.specs.Calling.{CallsOf}
use Rattle.cf_ledger.specs.declared.faults.StepFault.{StepFault}
use Rattle.cf_ledger.specs.declared.step.Held.{Held}
use Rattle.cf_ledger.specs.declared.step.Taken.{Taken}
use Rattle.cf_threads.specs.declared.turn.Turn.{Turn}
use Rattle.cf_threads.specs.declared.work.Stopped.{Stopped}

-- the function of the stage that was told is called once, with the arguments of the job, and the thread holds the stage then with what that call
-- answered; if none was told, no function is called and nothing is held
abbrev pub CallsFor : {F : Type 0} → CallsOf F → F → Option Taken → F → Option Held → Type 0
CallsFor calls f None g holds = (g ≡ f) × (holds ≡ None)
CallsFor calls f (Some t) g holds = (answer : Answer) × calls f (unwrap_or t.function 0) t.args answer g × (holds ≡ Some (record { stage = t.stage; answer = answer }))

-- so it is if a step isn't refused
abbrev pub Follows : {F : Type 0} → CallsOf F → F → Result (Option Taken) StepFault → F → Option Held → Type 0
Follows calls f (Ok taken) g holds = CallsFor calls f taken g holds
Follows calls f (Err fault) g holds = ⊥

-- A thread with these functions, which holds this, takes these turns, one after another: it brings what it holds to each.
abbrev pub Works : {F : Type 0} → CallsOf F → F → Option Held → List Turn → F → Option Held → Type 0
Works calls f held [] g holds = (g ≡ f) × (holds ≡ held)
Works {F} calls f held (t ∷ ts) g holds = (between : F) × (next : Option Held) × (t.held ≡ held) × Follows calls f t.next between next × Works calls between next ts g holds

-- it comes until no stage is ready
abbrev pub Rests : Option Held → List Turn → Option Held → Type 0
Rests held [] holds = holds ≡ held
Rests held (t ∷ ts) holds = (t.held ≡ held) × (t.next ≡ Ok None) × Rests None ts holds

-- what the last of these turns was told, and what is held if it was refused
abbrev pub told_by : Result (Option Taken) Stopped → Result (Option Taken) StepFault
told_by (Ok taken) = Ok taken
told_by (Err s) = Err s.fault

abbrev pub IsHeldAt : Result (Option Taken) Stopped → Option Held → Type 0
IsHeldAt (Ok taken) held = Unit {0}
IsHeldAt (Err s) held = s.held ≡ held

-- so it has waited, if it has, and then it had this answer
pub record TakesNext (held : Option Held) (before : List Turn) (next : Result (Option Taken) Stopped) (after : List Turn) : Type 0 where
  pub waits : List Turn
  pub holds : Option Held
  pub rests : Rests held waits holds
  pub noted : after ≡ (before ++ waits) ++ (record { held = holds; next = told_by next }) ∷ []
  pub kept : IsHeldAt next holds

-- how a thread has ended: it found no stage ready, or it was refused a step
abbrev pub end_of : Option Stopped → Result (Option Taken) Stopped
end_of None = Ok None
end_of (Some s) = Err s

-- The thread has brought what its functions answered, each answer once, until it found no stage ready; or its last step was refused, and it holds
-- still what it brought then.
pub record HasWorked {F : Type 0} (calls : CallsOf F) (f : F) (turns : List Turn) (g : F) (stopped : Option Stopped) : Type 0 where
  pub front : List Turn
  pub held : Option Held
  pub works : Works calls f None front g held
  pub is : turns ≡ front ++ (record { held = held; next = told_by (end_of stopped) }) ∷ []
  pub kept : IsHeldAt (end_of stopped) held
