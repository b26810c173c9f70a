-- One turn more, and stages below the ready ones.
use Rattle.std.proofs.Common.{◌≡◌, ℕ, ◌+◌, ◌≤◌, ◌∷◌, ◌++◌, [], List, Bool, true, Some, length-append, suc, zero, arith, ap, sym, ◌∙◌, refl, map, inl, inr}
use Rattle.std.specs.Prelude.{slice_get}
use Rattle.std.proofs.lemmas.List.Elements.{All-nil, All-push}
use Rattle.std.proofs.lemmas.Bool.{cases_lt}
use Rattle.cf_forms.specs.Plans.{PlannedStage}
use Rattle.cf_model.specs.States.{is_ready}
use Rattle.cf_core.specs.declared.kept.KeptStage.{KeptStage}
use Rattle.cf_core.specs.declared.stages.Stages.{Stages}
use Rattle.cf_core.specs.Keeping.Sound.{AreTreated, kept_at}
use Rattle.cf_core.specs.Keeping.Turns.{AreBelowReady, IsBelowReady, TurnsBelowReady, TurnsUpTo, turned, turned_each}

turned_each-push : (plan : List PlannedStage) (kept : List KeptStage) (stages : List ℕ) (m : ℕ) → turned_each plan kept (stages ++ m ∷ []) ≡ turned plan (turned_each plan kept stages) m
turned_each-push plan kept [] m = refl
turned_each-push plan kept (n ∷ stages) m = turned_each-push plan (turned plan kept n) stages m

AreBelowReady-push : (plan : List PlannedStage) (kept : List KeptStage) (stages : List ℕ) (m : ℕ) → AreBelowReady plan kept stages → IsBelowReady (turned_each plan kept stages) m → AreBelowReady plan kept (stages ++ m ∷ [])
AreBelowReady-push plan kept [] m all one = (one, tt)
AreBelowReady-push plan kept (n ∷ stages) m all one = (all.0, AreBelowReady-push plan (turned plan kept n) stages m all.1 one)

-- ---- up to a stage

pub no_turn : (plan : List PlannedStage) (d : ℕ) (s : Stages) → TurnsUpTo plan d s s
no_turn plan d s = record { treated = []; within = All-nil (λ m. m ≤ d); kept = refl; turns = omega arith }

pub one_turn_more : (plan : List PlannedStage) (d m : ℕ) (old s new : Stages) → TurnsUpTo plan d old s → m ≤ d → new.kept.items ≡ turned plan s.kept.items m → new.turns ≡ s.turns + 1 → TurnsUpTo plan d old new
one_turn_more plan d m old s new h l kept turns = record {
  treated = h.treated ++ m ∷ [];
  within = All-push (λ n. n ≤ d) h.treated m h.within l;
  kept = kept ∙ ap (λ k. turned plan k m) h.kept ∙ sym (turned_each-push plan old.kept.items h.treated m);
  turns = (let t = h.turns in omega (arith, length-append h.treated (m ∷ [])));
}

-- ---- below the ready ones

pub no_turn_below : (plan : List PlannedStage) (s : Stages) → TurnsBelowReady plan s s
no_turn_below plan s = record { treated = []; below = tt; kept = refl; turns = omega arith }

pub one_turn_more_below : (plan : List PlannedStage) (m : ℕ) (old s new : Stages) → TurnsBelowReady plan old s → IsBelowReady s.kept.items m → new.kept.items ≡ turned plan s.kept.items m → new.turns ≡ s.turns + 1 → TurnsBelowReady plan old new
one_turn_more_below plan m old s new h below kept turns = record {
  treated = h.treated ++ m ∷ [];
  below = AreBelowReady-push plan old.kept.items h.treated m h.below (rw h.kept at below);
  kept = kept ∙ ap (λ k. turned plan k m) h.kept ∙ sym (turned_each-push plan old.kept.items h.treated m);
  turns = (let t = h.turns in omega (arith, length-append h.treated (m ∷ [])));
}

-- the flag of a ready stage
ready_flag : (kept : List KeptStage) (r : ℕ) → is_ready ((kept_at kept r).stage) ≡ true → slice_get (map (λ (k : KeptStage). is_ready k.stage) kept) r ≡ Some true
ready_flag [] r e = cc
ready_flag (k ∷ kept) zero e = ap (λ b. Some b) e
ready_flag (k ∷ kept) (suc r) e = ready_flag kept r e

-- where none of the flags up to a stage is set, the stage is below all ready ones
pub below_ready : (kept : List KeptStage) (ready : List Bool) (m : ℕ) → ready ≡ map (λ (k : KeptStage). is_ready k.stage) kept → AreTreated (m + 1) ready → IsBelowReady kept m
below_ready kept ready m is none r e = elim (cases_lt m r) [
  | inl l ↦ l
  | inr l ↦ (let flag : slice_get ready r ≡ Some true = ap (λ b. slice_get b r) is ∙ ready_flag kept r e in
      let no = none r (omega arith) in cc)
]
