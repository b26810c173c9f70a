-- A state with nothing ready and nothing claimed is quiet.
use Rattle.std.proofs.Common.{◌≡◌, ℕ, suc, ◌∷◌, [], List, true, false, refl}
use Rattle.std.specs.List.{All}
use Rattle.std.proofs.lemmas.List.Elements.{All-nil, All-cons}
use Rattle.cf_model.specs.declared.stage.Stage.{Stage}
use Rattle.cf_model.specs.declared.stage.Stage.TheVariants.{Pending, Ready, Claimed, Linked, Settled}
use Rattle.cf_model.specs.States.{State, stage_at, is_ready}
use Rattle.cf_model.proofs.ClaimedStages.{at, is_claimed}
use Rattle.cf_expr.specs.Histories.{IsQuiet, is_at_rest}

at_rest : (x : Stage) → is_ready x ≡ false → is_claimed x ≡ false → is_at_rest x ≡ true
at_rest Pending e h = refl
at_rest (Ready args) e h = cc
at_rest Claimed e h = cc
at_rest (Linked j) e h = refl
at_rest (Settled o) e h = refl

all_at_rest : (xs : List Stage) → ((i : ℕ) → is_ready (at xs i) ≡ false) → ((i : ℕ) → is_claimed (at xs i) ≡ false) → All (λ x. is_at_rest x ≡ true) xs
all_at_rest [] r c = All-nil (λ x. is_at_rest x ≡ true)
all_at_rest (x ∷ xs) r c = All-cons (λ x. is_at_rest x ≡ true) x xs (at_rest x (r 0) (c 0)) (all_at_rest xs (λ i. r (suc i)) (λ i. c (suc i)))

pub is_quiet : (s : State) → ((i : ℕ) → is_ready (stage_at s i) ≡ false) → ((i : ℕ) → is_claimed (stage_at s i) ≡ false) → IsQuiet s
is_quiet s r c = all_at_rest s.stages r c
