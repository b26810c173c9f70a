-- The turns of threads at one machine under a lock.
use Rattle.std.specs.Prelude.{◌≡◌, ℕ, ◌-◌, ◌+◌, Option, Some, None, Result, Ok, Err, List, [], ◌∷◌, ◌++◌}
use Rattle.cf_ledger.specs.declared.faults.StepFault.{StepFault}
use Rattle.cf_ledger.specs.declared.step.Held.{Held}
use Rattle.cf_ledger.specs.declared.step.Taken.{Taken}
use Rattle.cf_request.specs.Machines.{GoesOn, IsNoNext, Machine, OnlyFinds}
use Rattle.cf_request.specs.declared.machine.Next.{Next}
use Rattle.cf_threads.specs.declared.place.Place.{Place}
use Rattle.cf_threads.specs.declared.turn.Turn.{Turn}

-- ---- what the machine does

-- what is held is finished, and the machine tells this job, if any
pub record GoesOnWith (place : Place) (held : Option Held) (old : Machine) (taken : Option Taken) (new : Machine) : Type 0 where
  pub next : Next
  pub told : next.taken ≡ taken
  pub goes_on : GoesOn place.who place.lane held old next new

-- a step is refused for this fault, and what is held isn't finished
pub record IsRefused (place : Place) (held : Option Held) (old : Machine) (fault : StepFault) (new : Machine) : Type 0 where
  pub finds : OnlyFinds old new
  pub why : IsNoNext place.who place.lane held old fault

abbrev pub Steps : Place → Option Held → Machine → Result (Option Taken) StepFault → Machine → Type 0
Steps place held old (Ok taken) new = GoesOnWith place held old taken new
Steps place held old (Err fault) new = IsRefused place held old fault new

-- these turns lead from the one machine to the other, one after another
abbrev pub AreTurns : Place → Machine → List Turn → Machine → Type 0
AreTurns place old [] new = new ≡ old
AreTurns place old (t ∷ ts) new = (between : Machine) × Steps place t.held old t.next between × AreTurns place between ts new

-- ---- what is told and what is finished

abbrev pub jobs_in : Option Taken → List Taken
jobs_in None = []
jobs_in (Some t) = t ∷ []

abbrev pub jobs_of : Result (Option Taken) StepFault → List Taken
jobs_of (Ok taken) = jobs_in taken
jobs_of (Err fault) = []

-- the jobs that these turns tell
abbrev pub jobs_told : List Turn → List Taken
jobs_told [] = []
jobs_told (t ∷ ts) = jobs_of t.next ++ jobs_told ts

abbrev pub stage_taken : Taken → ℕ
stage_taken t = t.stage

-- ---- how many stages threads hold

-- the weights of these, added up
abbrev pub weigh : {A : Type 0} → (A → ℕ) → List A → ℕ
weigh weight [] = 0
weigh weight (x ∷ xs) = weight x + weigh weight xs

abbrev pub one : ℕ → ℕ
one stage = 1

-- what the stage weighs that is told, and the one that was held
abbrev pub weigh_taken : (ℕ → ℕ) → Option Taken → ℕ
weigh_taken weight None = 0
weigh_taken weight (Some t) = weight t.stage

abbrev pub weigh_told : (ℕ → ℕ) → Result (Option Taken) StepFault → ℕ
weigh_told weight (Ok taken) = weigh_taken weight taken
weigh_told weight (Err fault) = 0

abbrev pub weigh_held : (ℕ → ℕ) → Option Held → ℕ
weigh_held weight None = 0
weigh_held weight (Some h) = weight h.stage

abbrev pub begun : (ℕ → ℕ) → Turn → ℕ
begun weight t = weigh_told weight t.next

abbrev pub ended : (ℕ → ℕ) → Turn → ℕ
ended weight t = weigh_held weight t.held

-- 1 if the step is refused
abbrev pub refused_by : Result (Option Taken) StepFault → ℕ
refused_by (Ok taken) = 0
refused_by (Err fault) = 1

abbrev pub refused : Turn → ℕ
refused t = refused_by t.next

-- how many stages are told in these turns and not brought back in them
abbrev pub held_in : List Turn → ℕ
held_in ts = weigh (begun one) ts - weigh (ended one) ts

-- however stages are weighed, those that were told weigh what those do that were brought back, and this one
abbrev pub Holds : Option Held → List Turn → Type 0
Holds held ts = (weight : ℕ → ℕ) → weigh (begun weight) ts ≡ weigh (ended weight) ts + weigh_held weight held
