-- Which stages are marked: those that a stage marks when it settles are above it.
use Rattle.std.proofs.Common.{◌≡◌, ℕ, ◌+◌, ◌<◌, ◌≤◌, ◌∷◌, ◌∙◌, [], List, Bool, true, false, cond, Option, Some, None, All, Contains, ◌++◌, get_or, length, suc, zero, arith, sym, subst, refl, set, inl, inr}
use Rattle.std.specs.Prelude.{position}
use Rattle.std.proofs.lemmas.Bool.{cases_lt}
use Rattle.std.proofs.lemmas.Bool.Decides.{eqb_tells}
use Rattle.std.proofs.lemmas.List.Elements.{All-head, All-tail}
use Rattle.cf_forms.specs.Plans.{HasLowerSources, PlannedStage, dependents_of}
use Rattle.cf_model.specs.declared.stage.Stage.{Stage}
use Rattle.cf_model.specs.declared.stage.Stage.TheVariants.{Pending, Ready, Claimed, Linked, Settled}
use Rattle.cf_model.specs.Graphs.{NoneLeftUpTo}
use Rattle.cf_model.proofs.StateLemmas.{slice_get-set_other}
use Rattle.cf_plan.proofs.DependentLemmas.{dependents_above}
use Rattle.cf_core.specs.declared.kept.KeptStage.{KeptStage}
use Rattle.cf_core.specs.Keeping.Links.{list_at}
use Rattle.cf_core.specs.Keeping.Sound.{AreAbove, AreTreated, is_waiting, kept_at, mark_all, mark_one, marks_after, marks_settled}
use Rattle.cf_core.proofs.Keeping.Marking.{get-set_same}
use Rattle.cf_bits.proofs.Positions.{position_is_none}
use Rattle.cf_core.proofs.Keeping.Lowest.{none_marked}
use Rattle.cf_core.proofs.Keeping.Places.{lowest_below, lowest_marked, lowest_within}

-- what is true of all is true of each
pub all_contained : (P : ℕ → Type 0) (xs : List ℕ) (i : ℕ) → All P xs → Contains xs i → P i
all_contained P [] i h c = absurd (omega (arith, c.1))
all_contained P (x ∷ xs) i h (zero, l, e) = let same : x ≡ i = e in subst P same (All-head P x xs h)
all_contained P (x ∷ xs) i h (suc k, l, e) = all_contained P xs i (All-tail P x xs h) (k, omega (arith, l), e)

contains_behind : (x : ℕ) (xs : List ℕ) (i : ℕ) → Contains xs i → Contains (x ∷ xs) i
contains_behind x xs i (k, l, e) = (suc k, omega (arith, l), e)

-- where none of the stages up to one is marked, the lowest marked is above it
pub leaves_above : (marks : List Bool) (d : ℕ) → AreTreated (d + 1) marks → NoneLeftUpTo d (position (λ b. b) marks)
leaves_above marks d treated = by_lowest (position (λ b. b) marks) refl
  where
    by_lowest : (x : Option ℕ) → position (λ b. b) marks ≡ x → NoneLeftUpTo d x
    by_lowest None e = tt
    by_lowest (Some m) e = elim (cases_lt d m) [
      | inl l ↦ l
      | inr l ↦ (let no = treated m (omega (arith, l)) in let wrong : Some true ≡ Some false = sym (lowest_marked marks m e) ∙ no in cc)
    ]

pub leaves_none : (d : ℕ) (left : Option ℕ) → left ≡ None → NoneLeftUpTo d left
leaves_none d left none = subst (NoneLeftUpTo d) (sym none) tt

-- the lowest mark is taken out
pub lowest_out : (marks : List Bool) (m : ℕ) → position (λ b. b) marks ≡ Some m → AreTreated (m + 1) (set marks m false)
lowest_out marks m lowest i l = elim (eqb_tells i m) [
  | inl s ↦ (let same = s.1 in rw same (get-set_same marks m false (lowest_within marks m lowest)))
  | inr s ↦ slice_get-set_other marks m i false s.1 ∙ lowest_below marks m lowest i (omega (arith, l, s.1))
]

mark_one-treated : (b : Bool) (marks : List Bool) (i n : ℕ) → n ≤ i → AreTreated n marks → AreTreated n (cond b (set marks i true) marks)
mark_one-treated false marks i n l h j below = h j below
mark_one-treated true marks i n l h j below = slice_get-set_other marks i j true (λ same. absurd (omega (arith, l, below, same))) ∙ h j below

mark_all-treated : (kept : List KeptStage) (stages : List ℕ) (marks : List Bool) (n : ℕ) → ((i : ℕ) → Contains stages i → n ≤ i) → AreTreated n marks → AreTreated n (mark_all kept stages marks)
mark_all-treated kept [] marks n above h = h
mark_all-treated kept (i ∷ stages) marks n above h =
    mark_all-treated kept stages (mark_one kept i marks) n (λ j c. above j (contains_behind i stages j c))
    (mark_one-treated (is_waiting ((kept_at kept i).stage)) marks i n (above i (zero, omega arith, refl)) h)

-- what a stage marks when it settles is above it
pub settled_above : (plan : List PlannedStage) (kept : List KeptStage) (links : List (List ℕ)) (marks : List Bool) (d : ℕ) → HasLowerSources 0 plan → AreAbove links → AreTreated (d + 1) marks →
    AreTreated (d + 1) (marks_settled plan kept links marks d)
settled_above plan kept links marks d lower above h =
    mark_all-treated kept (list_at links d) (mark_all kept (dependents_of plan d) marks) (d + 1) (λ i c. let l = above d i c in omega (arith, l))
    (mark_all-treated kept (dependents_of plan d) marks (d + 1)
    (λ i c. let l = all_contained (λ x. d < x) (dependents_of plan d) i (dependents_above 0 plan d lower) c in omega (arith, l)) h)

pub written_above : (plan : List PlannedStage) (kept : List KeptStage) (links : List (List ℕ)) (marks : List Bool) (d : ℕ) (stage : Stage) → HasLowerSources 0 plan → AreAbove links → AreTreated (d + 1) marks →
    AreTreated (d + 1) (marks_after plan kept links marks d stage)
written_above plan kept links marks d (Settled o) lower above h = settled_above plan kept links marks d lower above h
written_above plan kept links marks d Pending lower above h = h
written_above plan kept links marks d (Ready args) lower above h = h
written_above plan kept links marks d Claimed lower above h = h
written_above plan kept links marks d (Linked j) lower above h = h

-- ---- where none is marked

pub none_treated : (marks : List Bool) (n : ℕ) → length marks ≡ n → AreTreated n marks → position (λ b. b) marks ≡ None
none_treated marks n all h = by_lowest (position (λ b. b) marks) refl
  where
    by_lowest : (x : Option ℕ) → position (λ b. b) marks ≡ x → x ≡ None
    by_lowest None e = refl
    by_lowest (Some m) e = (let no = h m (let l = lowest_within marks m e in omega (arith, l, all)) in let wrong : Some true ≡ Some false = sym (lowest_marked marks m e) ∙ no in cc)

-- a stage more that isn't marked
pub none_more : (marks : List Bool) → position (λ b. b) marks ≡ None → position (λ b. b) (marks ++ false ∷ []) ≡ None
none_more marks none = position_is_none (λ b. b) (marks ++ false ∷ []) false (λ i l. more marks i l (none_below marks none))
  where
    none_below : (marks : List Bool) → position (λ b. b) marks ≡ None → AreTreated (length marks) marks
    none_below marks none = none_marked marks (length marks) none (omega arith)

    more : (marks : List Bool) (i : ℕ) → i < length (marks ++ false ∷ []) → AreTreated (length marks) marks → get_or (marks ++ false ∷ []) i false ≡ false
    more [] zero l h = refl
    more [] (suc i) l h = absurd (omega (arith, l))
    more (b ∷ marks) zero l h = (let is = h 0 (omega arith) in let same : b ≡ false = cc in same)
    more (b ∷ marks) (suc i) l h = more marks i (omega (arith, l)) (λ j m. h (suc j) (omega (arith, m)))
