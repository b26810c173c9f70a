-- What a call through a handle tells C.
use Rattle.std.specs.Prelude.{◌≡◌, ℕ, Option, Some, None, Result, Ok, Err, MatchResult}
use Rattle.cf_c_handles.specs.declared.code.Code.{Code}
use Rattle.cf_c_handles.specs.declared.code.Code.TheVariants.{Empty}
use Rattle.cf_c_handles.specs.declared.handle.object.Object.{Object}
use Rattle.cf_c_handles.specs.Codes.{number_of}

-- what C gets: 0 and the answer, or a code, and then what C had stays
abbrev pub HandleGives : {X : Type 0} → Result X Code → ℕ → X → X → Type 0
HandleGives (Ok x) code had has = (code ≡ 0) × (has ≡ x)
HandleGives (Err fault) code had has = (code ≡ number_of fault) × (has ≡ had)

-- what stands behind a handle is asked and stays there, and C gets what that answers
pub record Told {X : Type 0} (Asks : Object → Result X Code → Object → Type 0) (held : Object) (new : Option Object) (code : ℕ) (had has : X) : Type 0 where
  pub result : Result X Code
  pub now : Object
  pub is : new ≡ Some now
  pub asked : Asks held result now
  pub gives : HandleGives result code had has

-- C is told the code, and where that is 0 the answer. If nothing stands behind the handle, C is told that, and nothing stands there
-- afterwards.
abbrev pub Tells : {X : Type 0} → (Object → Result X Code → Object → Type 0) → Option Object → Option Object → ℕ → X → X → Type 0
Tells Asks None new code had has = (code ≡ number_of Empty) × (new ≡ None) × (has ≡ had)
Tells Asks (Some held) new code had has = Told Asks held new code had has

-- the same where a code is all that C gets
abbrev pub Codes : Result (Unit {0}) Code → ℕ → Type 0
Codes (Ok done) code = code ≡ 0
Codes (Err fault) code = code ≡ number_of fault

pub record Done (Asks : Object → Result (Unit {0}) Code → Object → Type 0) (held : Object) (new : Option Object) (code : ℕ) : Type 0 where
  pub result : Result (Unit {0}) Code
  pub now : Object
  pub is : new ≡ Some now
  pub asked : Asks held result now
  pub codes : Codes result code

abbrev pub Does : (Object → Result (Unit {0}) Code → Object → Type 0) → Option Object → Option Object → ℕ → Type 0
Does Asks None new code = (code ≡ number_of Empty) × (new ≡ None)
Does Asks (Some held) new code = Done Asks held new code

-- Something takes what is given, or gives it back with the code that says why.
abbrev pub TakesOrGivesBack : {X G : Type 0} → (X → G → Result (Unit {0}) Code → X → Type 0) → X → G → Result (Unit {0}) (G × Code) → X → Type 0
TakesOrGivesBack Takes old given result new =
    MatchResult result (λ done. Takes old given (Ok done) new) (λ back. Takes old given (Err back.1) new × (back.0 ≡ given))
