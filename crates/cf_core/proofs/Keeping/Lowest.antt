-- The lowest mark, and the lowest ready stage.
use Rattle.std.proofs.Common.{◌≡◌, ℕ, ◌+◌, ◌<◌, ◌≤◌, ◌∷◌, ◌++◌, [], List, Bool, true, false, cond, Option, Some, None, length, suc, zero, arith, ap, sym, ◌∙◌, subst, refl, get_or, set, take, inl, inr}
use Rattle.std.specs.Prelude.{slice_get, position, nat_lt, MatchOption}
use Rattle.std.specs.List.{position_or_len}
use Rattle.std.specs.Option.{option_map}
use Rattle.std.proofs.lemmas.Bool.Decides.{eqb_tells, nat_tests}
use Rattle.std.proofs.Math.Seq.{take-length}
use Rattle.std.proofs.lemmas.List.{length-map}
use Rattle.std.proofs.lemmas.List.Quantifiers.{position-Some}
use Rattle.cf_bits.proofs.Positions.{position_is, position_is_none}
use Rattle.cf_forms.specs.Plans.{PlannedStage}
use Rattle.cf_model.specs.declared.stage.Stage.{Stage}
use Rattle.cf_model.specs.declared.stage.Stage.TheVariants.{Pending, Ready, Claimed, Linked, Settled}
use Rattle.cf_model.specs.States.{is_ready}
use Rattle.cf_core.specs.declared.kept.KeptStage.{KeptStage}
use Rattle.cf_core.specs.Keeping.Treatment.{IsSteady, all_treated, treated}
use Rattle.cf_core.specs.Keeping.Sound.{AreTreated, IsSound, ReadyIsTreated, is_waiting, kept_at, settled_view}
use Rattle.cf_core.proofs.Keeping.Sums.{kept_is, kept_there}
use Rattle.cf_core.proofs.Keeping.Waiting.{sources_below, stays, treated-take}
use Rattle.cf_core.proofs.Keeping.Marks.{steady_by_stage}
use Rattle.cf_core.proofs.Keeping.Moves.{get-map, is_steady, settled_view_at}
use Rattle.cf_core.proofs.Keeping.Places.{lowest_below, lowest_within, out_already}

-- ---- where no flag is set

none_set : (flags : List Bool) (i : ℕ) → length flags ≤ position_or_len (λ b. b) flags → i < length flags → slice_get flags i ≡ Some false
none_set [] i h l = absurd (omega arith)
none_set (true ∷ flags) i h l = absurd (omega arith)
none_set (false ∷ flags) zero h l = refl
none_set (false ∷ flags) (suc i) h l = none_set flags i (omega arith) (omega arith)

past_end : (b : Bool) (n m : ℕ) → nat_lt n m ≡ b → cond b (Some n) None ≡ None → m ≤ n
past_end true n m t e = cc
past_end false n m t e = grind (arith, nat_tests)

pub none_marked : (marks : List Bool) (n : ℕ) → position (λ b. b) marks ≡ None → n ≤ length marks → AreTreated n marks
none_marked marks n e l i below =
    none_set marks i (past_end (nat_lt (position_or_len (λ b. b) marks) (length marks)) (position_or_len (λ b. b) marks) (length marks) refl e) (omega arith)

-- the lowest mark is above a stage
pub lowest_above : (marks : List Bool) (m d : ℕ) → position (λ b. b) marks ≡ Some m → d < m → AreTreated (d + 1) marks
lowest_above marks m d e l i below = lowest_below marks m e i (omega arith)

-- the stages below the lowest ready one

pub ready_unmarked : (marks ready : List Bool) → position (λ b. b) marks ≡ None → length marks ≡ length ready → ReadyIsTreated marks ready
ready_unmarked marks ready e l = by_ready (position (λ b. b) ready) refl
  where
    by_ready : (x : Option ℕ) → position (λ b. b) ready ≡ x → MatchOption x (position (λ b. b) marks ≡ None) (λ r. AreTreated r marks)
    by_ready None f = e
    by_ready (Some r) f = let w = lowest_within ready r f in none_marked marks r e (omega (arith, l, w))

pub ready_above : (marks ready : List Bool) (m r : ℕ) → position (λ b. b) marks ≡ Some m → position (λ b. b) ready ≡ Some r → r ≤ m → ReadyIsTreated marks ready
ready_above marks ready m r e f l =
    subst (λ x. MatchOption x (position (λ b. b) marks ≡ None) (λ n. AreTreated n marks)) (sym f) (λ i below. lowest_below marks m e i (omega arith))

pub get_is : {X : Type 0} (xs : List X) (i : ℕ) (x d : X) → slice_get xs i ≡ Some x → get_or xs i d ≡ x
get_is [] i x d e = cc
get_is (y ∷ xs) zero x d e = cc
get_is (y ∷ xs) (suc i) x d e = get_is xs i x d e

length-all_treated : (below : List KeptStage) (plan : List PlannedStage) (kept : List KeptStage) → length (all_treated below plan kept) ≡ length kept
length-all_treated below [] kept = refl
length-all_treated below (p ∷ plan) [] = refl
length-all_treated below (p ∷ plan) (k ∷ kept) = ap suc (length-all_treated (below ++ treated below p k ∷ []) plan kept)

pub length-settled_view : (plan : List PlannedStage) (kept : List KeptStage) → length (settled_view plan kept) ≡ length kept
length-settled_view plan kept = length-map (all_treated [] plan kept) (λ (k : KeptStage). k.stage) ∙ length-all_treated [] plan kept

-- ---- the lowest ready stage

ready_idle : (stage : Stage) → is_ready stage ≡ true → is_waiting stage ≡ false
ready_idle (Ready args) e = refl
ready_idle Pending e = cc
ready_idle Claimed e = cc
ready_idle (Linked j) e = cc
ready_idle (Settled o) e = cc

module _ (plan : List PlannedStage) (kept : List KeptStage) (marks ready : List Bool) (links : List (List ℕ)) (steps turns : ℕ) (h : IsSound plan kept marks ready links steps turns) where
  pub flag_at : (i : ℕ) → i < length kept → slice_get ready i ≡ Some (is_ready ((kept_at kept i).stage))
  flag_at i l = ap (λ xs. slice_get xs i) h.ready_are ∙ get-map (λ (k : KeptStage). is_ready k.stage) kept i ∙ ap (option_map (λ (k : KeptStage). is_ready k.stage)) (kept_there kept i l)

  -- the stages up to a ready one are steady where none below it is marked
  steady_to : (r : ℕ) → AreTreated r marks → is_ready ((kept_at kept r).stage) ≡ true → IsSteady [] plan kept (r + 1)
  steady_to r treated is = steady_by_stage plan kept (r + 1) (λ i p k l ep ek. elim (eqb_tells i r) [
    | inl s ↦ (let same = s.1 in
        let at : k ≡ kept_at kept r = sym (kept_is kept i k ek) ∙ ap (kept_at kept) same in
        stays (take i kept) p k.stage k.step (ready_idle k.stage (ap (λ (x : KeptStage). is_ready x.stage) at ∙ is)))
    | inr s ↦ (let ne = s.1 in
        treated-take kept i p k.stage k.step (sources_below plan i p h.sources_lower ep) (λ j e. (let b = h.listed i j k ek e in b.lower))
        ∙ h.waits i p k ep ek (treated i (omega arith)))
  ])

  stage_at : (i n : ℕ) → i < length plan → IsSteady [] plan kept n → i < n → is_ready (get_or (settled_view plan kept) i Pending) ≡ is_ready ((kept_at kept i).stage)
  stage_at i n l steady below = ap is_ready (get_is (settled_view plan kept) i ((kept_at kept i).stage) Pending (settled_view_at plan kept marks ready links steps turns h i n l steady below))

  flag_is : (i : ℕ) → i < length kept → is_ready ((kept_at kept i).stage) ≡ get_or ready i false
  flag_is i l = sym (get_is ready i (is_ready ((kept_at kept i).stage)) false (flag_at i l))

  pub all_flags : length ready ≡ length kept
  all_flags = ap length h.ready_are ∙ length-map kept (λ (k : KeptStage). is_ready k.stage)

  -- to take out one that isn't ready changes nothing
  pub unready_out : (d : ℕ) → d < length plan → is_ready ((kept_at kept d).stage) ≡ false → ready ≡ set ready d false
  unready_out d l e = out_already ready d (flag_at d (omega (arith, h.all_kept, l)) ∙ ap (λ b. Some b) e)

  pub ready_first : (r : ℕ) → position (λ b. b) ready ≡ Some r → AreTreated r marks → position is_ready (settled_view plan kept) ≡ Some r
  ready_first r lowest treated =
      let first = position-Some (λ b. b) ready r false lowest in
      let all = all_flags in
      let in_kept : r < length kept = omega (arith, first.0, all) in
      let in_plan : r < length plan = omega (arith, h.all_kept) in
      let is = flag_is r in_kept ∙ first.1 in
      let steady = steady_to r treated is in
      let count = length-settled_view plan kept in
      position_is is_ready (settled_view plan kept) r Pending (omega (arith, count))
      (λ j l. stage_at j (r + 1) (omega arith) steady (omega arith) ∙ flag_is j (omega arith) ∙ first.2 j l)
      (stage_at r (r + 1) in_plan steady (omega arith) ∙ is)

  pub ready_none : position (λ b. b) ready ≡ None → position (λ b. b) marks ≡ None → position is_ready (settled_view plan kept) ≡ None
  ready_none lowest unmarked =
      let all = all_flags in
      let count = length-settled_view plan kept in
      let steady = is_steady plan kept marks ready links steps turns h (length plan) (none_marked marks (length plan) unmarked (omega (arith, h.all_marks))) in
      let flags = none_marked ready (length ready) lowest (omega arith) in
      position_is_none is_ready (settled_view plan kept) Pending
      (λ j l. (let in_kept : j < length kept = omega (arith, count) in
      let in_plan : j < length plan = omega (arith, h.all_kept) in
      stage_at j (length plan) in_plan steady in_plan ∙ flag_is j in_kept ∙ get_is ready j false false (flags j (omega (arith, all)))))

  pub lowest_ready_is : (x : Option ℕ) → position (λ b. b) ready ≡ x → MatchOption x (position (λ b. b) marks ≡ None) (λ r. AreTreated r marks) → position is_ready (settled_view plan kept) ≡ x
  lowest_ready_is None e h = ready_none e h
  lowest_ready_is (Some r) e h = ready_first r e h

-- where no stage is marked, all stay as they are when they are treated
pub all_steady : (plan : List PlannedStage) (kept : List KeptStage) (marks ready : List Bool) (links : List (List ℕ)) (steps turns : ℕ) → IsSound plan kept marks ready links steps turns →
    AreTreated (length plan) marks → all_treated [] plan kept ≡ kept
all_steady plan kept marks ready links steps turns h treated =
    let all = all_treated [] plan kept in
    let same : length all ≡ length plan = length-all_treated [] plan kept ∙ h.all_kept in
    sym (take-length all) ∙ ap (λ n. take n all) same ∙ is_steady plan kept marks ready links steps turns h (length plan) treated
    ∙ ap (λ n. take n kept) (sym h.all_kept) ∙ take-length kept
