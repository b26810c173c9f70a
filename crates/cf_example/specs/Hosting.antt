-- What a host of a request does: it runs the stages of a lane, and tells those that wait.
use Rattle.std.specs.Prelude.{◌≡◌, ℕ, Option, Some, None, List, [], ◌∷◌, ◌++◌, map, unwrap_or}
use Rattle.cf_forms.specs.declared.forms.Answer.{Answer}
use Rattle.cf_model.specs.Calling.{CallsOf}
use Rattle.cf_model.specs.declared.events.Reply.{Reply}
use Rattle.cf_ledger.specs.declared.faults.StepFault.{StepFault}
use Rattle.cf_ledger.specs.declared.step.Held.{Held}
use Rattle.cf_ledger.specs.declared.step.Taken.{Taken}
use Rattle.cf_request.specs.Deadlines.{Forgets}
use Rattle.cf_request.specs.Lanes.{NothingIsReady}
use Rattle.cf_request.specs.Machines.{AppliesWord, GoesOn, IsNoNext, Machine, OnlyDeadlines, OnlyFinds, Passes, state_in}
use Rattle.cf_request.specs.Telling.{IsApart, IsOnce, Teller}
use Rattle.cf_request.specs.declared.machine.Next.{Next}

-- ---- those that wait

-- from the first memory, being told that a stage is settled leaves the second memory
abbrev pub WakesOf : Type 0 → Type 1
WakesOf W = W → ℕ → W → Type 0

-- these stages are told, one after another, and nothing else happens to the memory
abbrev pub AreWoken : {W : Type 0} → WakesOf W → W → List ℕ → W → Type 0
AreWoken wakes v [] w = w ≡ v
AreWoken {W} wakes v (i ∷ rest) w = (between : W) × wakes v i between × AreWoken wakes between rest w

-- all that is told was taken
abbrev pub all_taken : Teller → Teller
all_taken t = record t { taken = t.taken ++ t.told; told = [] }

-- all that the machine tells is told to those that wait, and taken
pub record HandsOut {W : Type 0} (wakes : WakesOf W) (old : Machine) (v : W) (new : Machine) (w : W) : Type 0 where
  pub woken : AreWoken wakes v old.teller.told w
  pub taken : new ≡ record old { teller = all_taken old.teller }

-- nothing is told and not yet taken, and those that wait were told each settled stage once
pub record IsHandedOut (m : Machine) : Type 0 where
  pub none : m.teller.told ≡ []
  pub once : IsOnce (state_in m) m.teller.taken

-- ---- the turns of a thread

-- a machine, the memories of the functions and of those that wait, and the stage that the thread holds
pub record Now (F W : Type 0) : Type 0 where
  pub machine : Machine
  pub functions : F
  pub waiters : W
  pub held : Option Held

-- what is held is finished, a stage is claimed, and its function is called once, with the arguments of the claim; the stage is held then with what that call answered
pub record IsTurn {F W : Type 0} (calls : CallsOf F) (wakes : WakesOf W) (who lane : ℕ) (a : Now F W) (t : Taken) (b : Now F W) : Type 0 where
  pub next : Next
  pub told : next.taken ≡ Some t
  pub between : Machine
  pub goes_on : GoesOn who lane a.held a.machine next between
  pub hands_out : HandsOut wakes between a.waiters b.machine b.waiters
  pub answer : Answer
  pub called : calls a.functions (unwrap_or t.function 0) t.args answer b.functions
  pub held : b.held ≡ Some (record { stage = t.stage; answer = answer })

-- what is held is finished, and no stage is there to claim: no function is called, and nothing is held
pub record IsLastTurn {F W : Type 0} (calls : CallsOf F) (wakes : WakesOf W) (who lane : ℕ) (a b : Now F W) : Type 0 where
  pub next : Next
  pub told : next.taken ≡ None
  pub between : Machine
  pub goes_on : GoesOn who lane a.held a.machine next between
  pub hands_out : HandsOut wakes between a.waiters b.machine b.waiters
  pub functions : b.functions ≡ a.functions
  pub held : b.held ≡ None

-- so it goes for these claims, one after another
abbrev pub AreTurns : {F W : Type 0} → CallsOf F → WakesOf W → ℕ → ℕ → Now F W → List Taken → Now F W → Type 0
AreTurns calls wakes who lane a [] b = b ≡ a
AreTurns {F} {W} calls wakes who lane a (t ∷ ts) b = (between : Now F W) × IsTurn calls wakes who lane a t between × AreTurns calls wakes who lane between ts b

abbrev pub stage_taken : Taken → ℕ
stage_taken t = t.stage

-- From one moment to another: for each claim, in turn, its function was called once, and for no other; no stage was claimed twice; and those that wait were told all that was taken since, in order.
pub record RunsOn {F W : Type 0} (calls : CallsOf F) (wakes : WakesOf W) (who lane : ℕ) (a b : Now F W) : Type 0 where
  pub claims : List Taken
  pub turns : AreTurns calls wakes who lane a claims b
  pub no_stage_twice : IsApart (map stage_taken claims)
  pub told : List ℕ
  pub woken : AreWoken wakes a.waiters told b.waiters
  pub taken : b.machine.teller.taken ≡ a.machine.teller.taken ++ told

-- then what is held was finished, and no stage of the lane is ready
pub record RunsOut {F W : Type 0} (calls : CallsOf F) (wakes : WakesOf W) (who lane : ℕ) (a b : Now F W) : Type 0 where
  pub before : Now F W
  pub runs : RunsOn calls wakes who lane a before
  pub last : IsLastTurn calls wakes who lane before b
  pub none : NothingIsReady b.machine.teller lane
  pub handed_out : IsHandedOut b.machine

-- then a step was refused for this fault: nothing is done by it, and what is held then is still to be finished
pub record RunsUntil {F W : Type 0} (calls : CallsOf F) (wakes : WakesOf W) (who lane : ℕ) (a : Now F W) (fault : StepFault) (b : Now F W) : Type 0 where
  pub before : Now F W
  pub runs : RunsOn calls wakes who lane a before
  pub refused : OnlyFinds before.machine b.machine
  pub same : b ≡ record before { machine = b.machine }
  pub why : IsNoNext who lane before.held before.machine fault

-- what a turn gives: what is held then, if a stage was claimed
abbrev pub Turns : {F W : Type 0} → CallsOf F → WakesOf W → ℕ → ℕ → Now F W → Now F W → Option Held → Type 0
Turns calls wakes who lane a b None = IsLastTurn calls wakes who lane a b
Turns calls wakes who lane a b (Some h) = (t : Taken) × IsTurn calls wakes who lane a t b

-- ---- words and moments

-- a word is done, and those that wait are told
pub record AppliesThen {W : Type 0} (wakes : WakesOf W) (word lane : ℕ) (old : Machine) (v : W) (reply : Reply) (new : Machine) (w : W) : Type 0 where
  pub between : Machine
  pub applies : AppliesWord word lane old reply between
  pub hands_out : HandsOut wakes between v new w

-- time passes, and those that wait are told; deadlines of settled stages may be forgotten then
pub record PassesThen {W : Type 0} (wakes : WakesOf W) (moment : ℕ) (old : Machine) (v : W) (new : Machine) (w : W) : Type 0 where
  pub between : Machine
  pub passes : Passes moment old between
  pub told : Machine
  pub hands_out : HandsOut wakes between v told w
  pub forgets : Forgets (state_in told).stages told.deadlines new.deadlines
  pub same : OnlyDeadlines told new
