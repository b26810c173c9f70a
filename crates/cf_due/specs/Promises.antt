-- Promises of stages that compose: a promise ends as the stage that it was given.
use Rattle.std.specs.Prelude.{◌≡◌, ℕ, ◌<◌, false, Some, None, List}
use Rattle.cf_outcome.specs.declared.outcome.Cause.TheVariants.{Cancelled}
use Rattle.cf_outcome.specs.declared.outcome.Outcome.{Outcome}
use Rattle.cf_outcome.specs.declared.outcome.Outcome.TheVariants.{Fault}
use Rattle.cf_model.specs.States.{outcome_at}
use Rattle.cf_row.specs.Rows.{Replica, state_of}
use Rattle.cf_notes.specs.declared.noted.Noted.{Noted}
use Rattle.cf_notes.specs.Noting.{given_of, promise_of}
use Rattle.cf_due.specs.Settling.{IsOpen, WantsAs}
use Rattle.cf_notes.specs.declared.wants.Want.{Want}

-- ---- one that was given a stage

-- a promise is open, and the stage that it was given has ended as this
pub record IsToLink (r : Replica) (notes : List Noted) (promise : ℕ) (o : Outcome) : Type 0 where
  pub is_open : IsOpen r promise
  pub given : ℕ
  pub is : given_of notes promise ≡ Some given
  pub ended : outcome_at (state_of r) given ≡ Some o

abbrev pub NoneToLink : Replica → List Noted → ℕ → Type 0
NoneToLink r notes to = (k : ℕ) → k < to → (o : Outcome) → ¬ IsToLink r notes k o

-- the word that settles the lowest such promise with the same value, or with a fault of the same cause and code
pub record IsLinkDue (r : Replica) (notes : List Noted) (want : Want) : Type 0 where
  pub promise : ℕ
  pub outcome : Outcome
  pub link : IsToLink r notes promise outcome
  pub lowest : NoneToLink r notes promise
  pub settles : WantsAs r promise outcome want

-- ---- one that was given none

-- a stage that composes this promise has ended, and the promise is open and was given no stage
pub record IsToCancel (r : Replica) (notes : List Noted) (i promise : ℕ) : Type 0 where
  pub outcome : Outcome
  pub ended : outcome_at (state_of r) i ≡ Some outcome
  pub composes : promise_of notes i ≡ Some promise
  pub none : given_of notes promise ≡ None
  pub is_open : IsOpen r promise

abbrev pub NoneToCancel : Replica → List Noted → ℕ → Type 0
NoneToCancel r notes to = (k : ℕ) → k < to → (promise : ℕ) → ¬ IsToCancel r notes k promise

-- the word that cancels the promise of the lowest such stage
pub record IsCancelDue (r : Replica) (notes : List Noted) (want : Want) : Type 0 where
  pub stage : ℕ
  pub promise : ℕ
  pub cancel : IsToCancel r notes stage promise
  pub lowest : NoneToCancel r notes stage
  pub settles : WantsAs r promise (Fault Cancelled false) want
