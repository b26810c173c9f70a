-- Any row of calls of a machine, and what holds once time has passed behind it.
use Rattle.std.specs.Prelude.{◌≡◌, ◌⊎◌, ℕ, ◌≤◌, true, List, Contains}
use Rattle.cf_request.specs.Machines.{Machine, Passes, state_in}
use Rattle.cf_request.specs.Rows.{AreCalls, Out}
use Rattle.cf_request.specs.Telling.{is_settled_in}
use Rattle.cf_request.specs.declared.deadlines.Deadline.{Deadline}
use Rattle.cf_example.specs.declared.calls.MachineCall.{MachineCall}
use Rattle.cf_example.specs.declared.calls.MachineCall.TheVariants.{SetDeadline}

-- some row of calls leads from the one to the other
pub record IsRow (old new : Machine) : Type 0 where
  pub outs : List Out
  pub are : AreCalls old outs new

-- the deadline is the machine's, or its stage is settled
abbrev pub IsKept : Deadline → Machine → Type 0
IsKept d m = Contains m.deadlines d ⊎ (is_settled_in (state_in m).stages d.stage ≡ true)

-- the deadline that a call sets is the machine's
abbrev pub HasSet : MachineCall → Machine → Type 0
HasSet (SetDeadline d) m = Contains m.deadlines d
HasSet call m = Unit {0}

-- these calls were made, and the deadlines that they set are kept
pub record MakesAll (calls : List MachineCall) (old new : Machine) : Type 0 where
  pub row : IsRow old new
  pub kept : (d : Deadline) → Contains calls (SetDeadline d) → IsKept d new

-- They were made, and then time passed up to a moment. No stage is open that has a deadline up to it, whether one of these calls set that or it was set before.
pub record PassesAfter (calls : List MachineCall) (moment : ℕ) (old new : Machine) : Type 0 where
  pub between : Machine
  pub row : IsRow old between
  pub passes : Passes moment between new
  pub none_open : (d : Deadline) → Contains old.deadlines d ⊎ Contains calls (SetDeadline d) → d.moment ≤ moment → is_settled_in (state_in new).stages d.stage ≡ true
