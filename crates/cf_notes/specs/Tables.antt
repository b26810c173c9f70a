-- What a table of notes is.
use Rattle.std.specs.Prelude.{ℕ, ◌+◌, ◌≤◌, All, List, length}
use Rattle.std.specs.declared.vec.Vec.{Vec}
use Rattle.std.specs.Vec.{vec_capacity}
use Rattle.cf_notes.specs.declared.noted.Noted.{Noted}
use Rattle.cf_notes.specs.Noting.{NamesStages}

-- what is noted of each stage, and for how many stages more there are places
pub record Table : Type 0 where
  pub stages : List Noted
  pub room : ℕ

-- what is kept: only stages that are there are named, and there is memory for the places
pub record IsTable {Z : Type 0} (stages : Vec Noted Z) (room : ℕ) : Type 0 where
  pub names : All (NamesStages (length stages.items)) stages.items
  pub places : length stages.items + room ≤ vec_capacity stages
  pub few : length stages.items + room ≤ 4096
