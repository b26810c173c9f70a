-- Room for more stages.
use Rattle.std.specs.Prelude.{◌≡◌, ◌⊎◌, ℕ, ◌+◌, ◌<◌, ◌≤◌, true, max}
use Rattle.cf_forms.specs.Plans.{has_place}
use Rattle.cf_model.specs.States.{start}
use Rattle.cf_ledger.specs.Ledgers.{AreTaken, Ledger, roomier, stages_of, with_more}
use Rattle.cf_request.specs.Machines.{Machine, state_in}
use Rattle.cf_request.specs.declared.faults.MachineFault.{MachineFault}
use Rattle.cf_request.specs.declared.faults.MachineFault.TheVariants.{NoMemory, NoStage, Past, Full}

-- ---- by how much

-- the plan of a ledger has place for so many stages more
abbrev pub HasPlaceFor : Ledger → ℕ → Type 0
HasPlaceFor l more = has_place l.plan.stages (l.plan.room + more) ≡ true

-- as many stages more as there are, and at least 16
abbrev pub wanted_in : Ledger → ℕ
wanted_in l = max (stages_of l) 16

-- so many, or, where the plan has no place for these, as many as it has place for
pub record IsGrowth (l : Ledger) (more : ℕ) : Type 0 where
  pub some : 0 < more
  pub most : more ≤ wanted_in l
  pub place : HasPlaceFor l more
  pub as_far : (more ≡ wanted_in l) ⊎ (¬ HasPlaceFor l (more + 1))

-- it has place for none
abbrev pub IsFull : Ledger → Type 0
IsFull l = ¬ HasPlaceFor l 1

-- ---- what growing does

-- There is room for so many more, and nothing else has changed. Each event was taken, and is so where there is more room: it leaves the same state but for that.
pub record Grows (old new : Machine) : Type 0 where
  pub more : ℕ
  pub growth : IsGrowth old.teller.ledger more
  pub is : new ≡ record old { teller = record old.teller { ledger = with_more old.teller.ledger more } }
  pub taken : AreTaken (start old.teller.ledger.plan) old.teller.ledger.events
  pub state : state_in new ≡ roomier more (state_in old)

-- why it doesn't grow
abbrev pub IsNoGrowth : Ledger → MachineFault → Type 0
IsNoGrowth l NoMemory = ¬ IsFull l
IsNoGrowth l Full = IsFull l
IsNoGrowth l NoStage = ⊥
IsNoGrowth l Past = ⊥
