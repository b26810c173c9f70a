-- Which stages an event changed, and the row of these lists.
use Rattle.std.specs.Prelude.{◌≡◌, ℕ, zero, suc, ◌-◌, ◌≤◌, List, [], ◌∷◌, ◌++◌, drop, take}
use Rattle.cf_model.specs.declared.events.Event.{Event}
use Rattle.cf_model.specs.declared.stage.Stage.{Stage}
use Rattle.cf_model.specs.Events.{answered}
use Rattle.cf_model.specs.Graphs.{AreNews}
use Rattle.cf_model.specs.States.{State}

-- there is such a list for each event
abbrev pub AreNoted : State → List Event → List (List ℕ) → Type 0
AreNoted s [] [] = Unit {0}
AreNoted s (e ∷ events) (news ∷ lists) = AreNews s.stages ((answered s e).1).stages news × AreNoted ((answered s e).1) events lists
AreNoted s events lists = ⊥

-- ---- the row

pub record News : Type 0 where
  pub lists : List (List ℕ)
  pub free : ℕ
  pub more : ℕ

-- the lists of one row, from a place on, each of which ends at one of these places
abbrev pub parts : ℕ → List ℕ → List ℕ → List (List ℕ)
parts from all [] = []
parts from all (end ∷ ends) = take (end - from) (drop from all) ∷ parts end all ends

-- where the list at a place begins
abbrev pub begin_of : ℕ → List ℕ → ℕ → ℕ
begin_of from ends zero = from
begin_of from [] (suc place) = from
begin_of from (end ∷ ends) (suc place) = begin_of end ends place

-- these places rise from one to the end of the row
abbrev pub AreEnds : ℕ → ℕ → List ℕ → Type 0
AreEnds from end [] = from ≡ end
AreEnds from end (e ∷ ends) = (from ≤ e) × AreEnds e end ends

-- the stages that differ are written behind others, as the last list
pub record WritesList (old new : List Stage) (lists lists' : List (List ℕ)) : Type 0 where
  pub xs : List ℕ
  pub written : lists' ≡ lists ++ xs ∷ []
  pub news : AreNews old new xs
