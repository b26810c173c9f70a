-- What is counted.
use Rattle.std.proofs.Common.{◌≡◌, ◌≢◌, ℕ, zero, suc, ◌+◌, ◌-◌, ◌<◌, ◌≤◌, true, false, List, arith, refl, subst, sym}
use Rattle.cf_part.specs.declared.progress.Progress.{Progress}
use Rattle.cf_part.specs.declared.progress.Progress.TheVariants.{NotCalled, Runs, Stopped, Ended}
use Rattle.cf_part.specs.Parts.{call_in}
use Rattle.cf_part.specs.Steps.{IsToCall}
use Rattle.cf_row.specs.Grants.{IsHeldBy, NoneHeldBy}
use Rattle.cf_row.specs.Rows.{Replica, stages_of}
use Rattle.cf_turn.specs.Busy.{Counts, is_new}
use Rattle.cf_turn.specs.Busy.Counts.{one, other}

-- none of those between has the property
pub counts_over : (P : ℕ → Type 0) (from n gap : ℕ) → ((k : ℕ) → from ≤ k → k < from + gap → ¬ P k) → Counts P from n → Counts P (from + gap) n
counts_over P from n zero none' h = subst (λ (to : ℕ). Counts P to n) (omega arith) h
counts_over P from n (suc gap) none' h =
    let before = counts_over P from n gap (λ k low high. none' k low (omega (arith, high))) h in
    subst (λ (to : ℕ). Counts P to n) (omega arith) (other (from + gap) n before (none' (from + gap) (omega arith) (omega arith)))

pub counts_to : (P : ℕ → Type 0) (from to n : ℕ) → from ≤ to → ((k : ℕ) → from ≤ k → k < to → ¬ P k) → Counts P from n → Counts P to n
counts_to P from to n up none' h =
    let is : from + (to - from) ≡ to = omega (arith, up) in
    subst (λ (t : ℕ). Counts P t n) is (counts_over P from n (to - from) (λ k low high. none' k low (omega (arith, high, is))) h)

-- ---- stages whose function wasn't called

is_not_called : (call : Progress) → is_new call ≡ true → call ≡ NotCalled
is_not_called NotCalled e = refl
is_not_called Runs e = cc
is_not_called Stopped e = cc
is_not_called Ended e = cc

was_called : (call : Progress) → is_new call ≡ false → call ≢ NotCalled
was_called NotCalled e = cc
was_called Runs e = λ no. cc
was_called Stopped e = λ no. cc
was_called Ended e = λ no. cc

none_between : (calls : List Progress) (r : Replica) (session from to : ℕ) → session ≡ r.session → NoneHeldBy r session from to → (k : ℕ) → from ≤ k → k < to → ¬ IsToCall calls r k
none_between calls r session from to same none' k low high call = none' k low high (subst (λ (s : ℕ). IsHeldBy r s k) (sym same) call.held)

pub counts_one : (calls : List Progress) (r : Replica) (session from stage n : ℕ) → session ≡ r.session → from ≤ stage → IsHeldBy r session stage → NoneHeldBy r session from stage →
    stage < stages_of r → is_new (call_in calls stage) ≡ true → Counts (IsToCall calls r) from n → Counts (IsToCall calls r) (stage + 1) (n + 1)
counts_one calls r session from stage n same above held none' there is h =
    one stage n (counts_to (IsToCall calls r) from stage n above (none_between calls r session from stage same none') h)
    (record { there = there; held = subst (λ (s : ℕ). IsHeldBy r s stage) same held; new = is_not_called (call_in calls stage) is })

pub counts_other : (calls : List Progress) (r : Replica) (session from stage n : ℕ) → session ≡ r.session → from ≤ stage → NoneHeldBy r session from stage →
    is_new (call_in calls stage) ≡ false → Counts (IsToCall calls r) from n → Counts (IsToCall calls r) (stage + 1) n
counts_other calls r session from stage n same above none' is h =
    other stage n (counts_to (IsToCall calls r) from stage n above (none_between calls r session from stage same none') h)
    (λ call. was_called (call_in calls stage) is call.new)

pub counts_end : (calls : List Progress) (r : Replica) (session from n : ℕ) → session ≡ r.session → from ≤ stages_of r → NoneHeldBy r session from (stages_of r) →
    Counts (IsToCall calls r) from n → Counts (IsToCall calls r) (stages_of r) n
counts_end calls r session from n same low none' h = counts_to (IsToCall calls r) from (stages_of r) n low (none_between calls r session from (stages_of r) same none') h

pub counts_of : (calls calls' : List Progress) (r r' : Replica) (n : ℕ) → calls ≡ calls' → r ≡ r' → Counts (IsToCall calls r) (stages_of r) n → Counts (IsToCall calls' r') (stages_of r') n
counts_of calls calls' r r' n same alike h =
    subst (λ (q : Replica). Counts (IsToCall calls' q) (stages_of q) n) alike (subst (λ (l : List Progress). Counts (IsToCall l r) (stages_of r) n) same h)
