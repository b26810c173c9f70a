-- What lies under the lock.
use Rattle.std.specs.Prelude.{◌≡◌, ◌⊎◌, ℕ, ◌<◌, ◌≤◌, List, []}
use Rattle.cf_request.specs.Lanes.{NothingIsReady}
use Rattle.cf_request.specs.Machines.{Machine}
use Rattle.cf_threads.specs.Turns.{AreTurns, begun, ended, held_in, one, refused, weigh}
use Rattle.cf_threads.specs.declared.place.Place.{Place}
use Rattle.cf_threads.specs.declared.turn.Turn.{Turn}

-- the machine, and all turns so far
pub record Book : Type 0 where
  pub machine : Machine
  pub turns : List Turn

-- no stage is ready, or somebody will come yet: nobody has come so far, or somebody holds a stage; but for those whose step was refused
abbrev pub IsQuiet : ℕ → Book → Type 0
IsQuiet lane b = (b.turns ≡ []) ⊎ (0 < weigh refused b.turns) ⊎ (0 < held_in b.turns) ⊎ NothingIsReady b.machine.teller lane

-- these turns have led to the machine, so many stages are held, and unless somebody comes yet nothing is ready
pub record IsKept (place : Place) (start : Machine) (busy : ℕ) (b : Book) : Type 0 where
  pub are : AreTurns place start b.turns b.machine
  pub some : weigh (ended one) b.turns ≤ weigh (begun one) b.turns
  pub busy_is : busy ≡ held_in b.turns
  pub quiet : IsQuiet place.lane b
