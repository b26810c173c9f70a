-- What is read of a script's steps so far, and what is so once they are done.
use Rattle.std.specs.Prelude.{◌≡◌, ◌≤◌, ℕ, List, [], ◌∷◌, ◌++◌, length, All, Option}
use Rattle.cf_script_reading.specs.declared.func.Func.{Func}
use Rattle.cf_script_reading.specs.declared.purpose.Purpose.{Purpose}
use Rattle.cf_script_reading.specs.declared.script.Step.{Step}
use Rattle.cf_script_reading.specs.Purposes.{IsTaken}
use Rattle.cf_script_reading.specs.Scripts.{Extent, extent_after, StepFits, StepsFit, StepCalls}
use Rattle.cf_script_reading.specs.Stages.{with_function}

-- the stages and the room that these steps leave, all functions so far, and the steps
pub record Progress : Type 0 where
  pub extent : Extent
  pub functions : List Func
  pub steps : List Step

-- with one step more, and its function, if it has one
abbrev pub with_step : Progress → Step × Option Func → Progress
with_step progress said = record {
  extent = extent_after said.0 progress.extent;
  functions = with_function progress.functions said.1;
  steps = progress.steps ++ said.0 ∷ [];
}

-- what is so of a step behind so many stages and these functions: it fits, and the functions that it names are there with its own,
-- which are no more than events have numbers for
pub record FitsNext (stages : ℕ) (functions : List Func) (said : Step × Option Func) : Type 0 where
  pub fits : StepFits stages said.0
  pub calls : StepCalls (length (with_function functions said.1)) said.0
  pub few : length (with_function functions said.1) ≤ 4096

-- once all these steps are done
abbrev pub extents_after : List Step → Extent → Extent
extents_after [] x = x
extents_after (step ∷ steps) x = extents_after steps (extent_after step x)

-- one progress is another with one step more, which fits and is taken
pub record ReadingGoesOn (purpose : Purpose) (old new : Progress) : Type 0 where
  pub said : Step × Option Func
  pub grown : new ≡ with_step old said
  pub fits : FitsNext old.extent.stages old.functions said
  pub taken : IsTaken purpose said.0

-- What is true of a progress that began at an extent with so many functions: its steps fit and lead to where it is, and the
-- functions that they name are there.
pub record IsProgress (purpose : Purpose) (start : Extent) (known : ℕ) (progress : Progress) : Type 0 where
  pub fits : StepsFit start progress.steps
  pub reached : progress.extent ≡ extents_after progress.steps start
  pub calls : All (StepCalls (length progress.functions)) progress.steps
  pub taken : All (IsTaken purpose) progress.steps
  pub kept : known ≤ length progress.functions
