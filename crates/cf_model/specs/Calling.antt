-- Which functions work calls: that of each stage that it works on, once, and no other.
use Rattle.std.specs.Prelude.{◌≡◌, ◌≢◌, ℕ, List, [], ◌∷◌, Some, length, unwrap_or}
use Rattle.std.specs.List.{AllPairs}
use Rattle.cf_forms.specs.declared.forms.Args.{Args}
use Rattle.cf_forms.specs.declared.forms.Answer.{Answer}
use Rattle.cf_forms.specs.Meanings.{Meanings}
use Rattle.cf_forms.specs.Plans.{function_at}
use Rattle.cf_model.specs.declared.replies.Claimed.TheVariants.{Granted}
use Rattle.cf_model.specs.declared.events.Event.TheVariants.{Claim as Claims, Finish as Finishes}
use Rattle.cf_model.specs.declared.events.Reply.TheVariants.{Claim as ToldClaim}
use Rattle.cf_model.specs.States.{State, lowest_ready_of}
use Rattle.cf_model.specs.Events.{answered}

-- what a call of functions with one memory does: from the first memory, the function of this number answers so to these
-- arguments, and leaves the second memory
abbrev pub CallsOf : Type 0 → Type 1
CallsOf M = M → ℕ → Args → Answer → M → Type 0

-- The lowest ready stage is claimed by a caller, its function called once with the arguments of the claim, which takes the
-- memory m to n, and the stage finished with the answer.
pub record RunsOnce {M : Type 0} (calls : CallsOf M) (who : ℕ) (s : State) (m : M) (i : ℕ) (t : State) (n : M) : Type 0 where
  pub lowest : lowest_ready_of s ≡ Some i
  pub args : Args
  pub claimed : State
  pub granted : answered s (Claims who i) ≡ (ToldClaim (Granted args), claimed)
  pub answer : Answer
  pub called : calls m (unwrap_or (function_at s.plan.stages i) 0) args answer n
  pub finished : t ≡ (answered claimed (Finishes who i answer)).1

-- these stages are, one after another, and no function is called else
abbrev pub AreRun : {M : Type 0} → CallsOf M → ℕ → State → M → List ℕ → State → M → Type 0
AreRun calls who s m [] t n = (t ≡ s) × (n ≡ m)
AreRun {M} calls who s m (i ∷ rest) t n = (r : State) × (k : M) × RunsOnce calls who s m i r k × AreRun calls who r k rest t n

-- so many are, and none of them twice
pub record Runs {M : Type 0} (calls : CallsOf M) (who : ℕ) (s : State) (m : M) (count : ℕ) (t : State) (n : M) : Type 0 where
  pub which : List ℕ
  pub run : AreRun calls who s m which t n
  pub counted : length which ≡ count
  pub no_stage_twice : AllPairs (λ i j. i ≢ j) which

-- from this memory on, functions that remember nothing answer by their meanings
abbrev pub AreStateless : {M : Type 0} → CallsOf M → M → Meanings → Type 0
AreStateless {M} calls m meanings = (number : ℕ) (args : Args) (answer : Answer) (n : M) → calls m number args answer n → (answer ≡ meanings number args) × (n ≡ m)
