-- Stages, their plans and their marks at a place.
use Rattle.std.proofs.Common.{◌≡◌, ℕ, ◌+◌, ◌<◌, ◌∷◌, [], List, Bool, true, false, Some, None, length, suc, zero, arith, ap, sym, ◌∙◌, refl, set, get_or, inl, inr}
use Rattle.std.specs.Prelude.{slice_get, position, unwrap_or, option_and_then}
use Rattle.std.specs.Option.{option_map}
use Rattle.cf_forms.specs.declared.forms.Args.{Args}
use Rattle.std.proofs.lemmas.Bool.Decides.{eqb_tells}
use Rattle.std.proofs.lemmas.List.Quantifiers.{position-Some}
use Rattle.std.proofs.lemmas.Option.{slice_get-get_or}
use Rattle.cf_forms.specs.Plans.{PlannedStage}
use Rattle.cf_model.specs.declared.stage.Stage.{Stage}
use Rattle.cf_model.specs.declared.stage.Stage.TheVariants.{Pending, Ready, Claimed, Linked, Settled}
use Rattle.cf_model.specs.States.{is_ready, outcome_of}
use Rattle.cf_model.proofs.StateLemmas.{slice_get-set_other}
use Rattle.cf_core.specs.declared.kept.KeptStage.{KeptStage}
use Rattle.cf_core.specs.declared.kept.Treated.TheVariants as made
use Rattle.cf_core.specs.Keeping.Treatment.{became, dated_in, dated_of, treated, treated_by}
use Rattle.cf_core.specs.Keeping.Turns.{planned_at, turned}
use Rattle.std.proofs.lemmas.List.{length-set, set-get_or}
use Rattle.cf_bits.proofs.Positions.{position_is}
use Rattle.cf_core.specs.Keeping.Sound.{AreTreated, IsSound, StayTaken, StayTakenBut, is_taken, is_waiting, kept_at, links_after, marks_after, marks_settled, settled_view}
use Rattle.cf_core.proofs.Keeping.Marking.{get-set_same}
use Rattle.cf_core.proofs.Keeping.Sums.{kept_is, kept_there}
use Rattle.cf_core.proofs.Keeping.Soundness.{idle_sound, turn_sound}
use Rattle.cf_core.proofs.Keeping.Moves.{is_steady, turn_same}

pub planned_there : (plan : List PlannedStage) (i : ℕ) → i < length plan → slice_get plan i ≡ Some (planned_at plan i)
planned_there [] i l = absurd (omega arith)
planned_there (p ∷ plan) zero l = refl
planned_there (p ∷ plan) (suc i) l = planned_there plan i (omega arith)

kept_as_read : (kept : List KeptStage) (i : ℕ) → i < length kept → kept_at kept i ≡ get_or kept i (kept_at kept i)
kept_as_read kept i l = kept_is kept i (get_or kept i (kept_at kept i)) (slice_get-get_or kept i (kept_at kept i) l)

-- to write what is there changes nothing
pub same_put : (kept : List KeptStage) (i : ℕ) (k : KeptStage) → i < length kept → kept_at kept i ≡ k → set kept i k ≡ kept
same_put kept i k l e = ap (set kept i) (sym e ∙ kept_as_read kept i l) ∙ set-get_or kept i (kept_at kept i)

pub treated_idle : (below : List KeptStage) (p : PlannedStage) (k : KeptStage) → is_waiting k.stage ≡ false → treated below p k ≡ k
treated_idle below p k idle = by_stage k.stage k.step idle
  where
    by_stage : (stage : Stage) (step : ℕ) → is_waiting stage ≡ false → treated_by below p stage step ≡ record { stage = stage; step = step }
    by_stage Pending step e = cc
    by_stage (Linked j) step e = cc
    by_stage (Ready args) step e = refl
    by_stage Claimed step e = refl
    by_stage (Settled o) step e = refl

-- a stage that is neither pending nor linked doesn't wait
pub idle_stage : (stage : Stage) → (stage ≡ Pending → ⊥) → ((j : ℕ) → stage ≡ Linked j → ⊥) → is_waiting stage ≡ false
idle_stage Pending e f = absurd (e refl)
idle_stage (Linked j) e f = absurd (f j refl)
idle_stage (Ready args) e f = refl
idle_stage Claimed e f = refl
idle_stage (Settled o) e f = refl

-- a stage that was written is there
pub kept_put : (kept : List KeptStage) (d : ℕ) (new : KeptStage) → d < length kept → kept_at (set kept d new) d ≡ new
kept_put kept d new l = kept_is (set kept d new) d new (get-set_same kept d new l)

-- ---- the lowest mark

pub lowest_within : (marks : List Bool) (m : ℕ) → position (λ b. b) marks ≡ Some m → m < length marks
lowest_within marks m e = let h = position-Some (λ b. b) marks m false e in h.0

pub lowest_marked : (marks : List Bool) (m : ℕ) → position (λ b. b) marks ≡ Some m → slice_get marks m ≡ Some true
lowest_marked marks m e = let h = position-Some (λ b. b) marks m false e in slice_get-get_or marks m false h.0 ∙ ap (λ x. Some x) h.1

pub lowest_below : (marks : List Bool) (m : ℕ) → position (λ b. b) marks ≡ Some m → AreTreated m marks
lowest_below marks m e i l =
    let h = position-Some (λ b. b) marks m false e in
    slice_get-get_or marks i false (omega (arith, h.0)) ∙ ap (λ x. Some x) (h.2 i l)

-- ---- stages that are taken

pub StayTaken-set : (kept : List KeptStage) (d : ℕ) (new : KeptStage) → d < length kept → (is_taken ((kept_at kept d).stage) ≡ true → is_taken new.stage ≡ true) → StayTaken kept (set kept d new)
StayTaken-set kept d new l h i b = elim (eqb_tells i d) [
  | inl s ↦ (let same = s.1 in
      let is : kept_at (set kept d new) i ≡ new = kept_is (set kept d new) i new (ap (slice_get (set kept d new)) same ∙ get-set_same kept d new l) in
      ap (λ (k : KeptStage). is_taken k.stage) is ∙ h (ap (λ n. is_taken ((kept_at kept n).stage)) (sym same) ∙ b))
  | inr s ↦ (let is : kept_at (set kept d new) i ≡ kept_at kept i = ap (λ x. unwrap_or x (record { stage = Pending; step = 0 })) (slice_get-set_other kept d i new s.1) in
      ap (λ (k : KeptStage). is_taken k.stage) is ∙ b)
]

pub waiting_untaken : (stage : Stage) → is_waiting stage ≡ true → is_taken stage ≡ true → ⊥
waiting_untaken Pending e f = cc
waiting_untaken (Linked j) e f = cc
waiting_untaken (Ready args) e f = cc
waiting_untaken Claimed e f = cc
waiting_untaken (Settled o) e f = cc

-- ---- what is true, under other names

pub IsSound-same : (plan : List PlannedStage) (k1 k2 : List KeptStage) (m1 m2 r1 r2 : List Bool) (l1 l2 : List (List ℕ)) (s1 s2 t1 t2 : ℕ) →
    k1 ≡ k2 → m1 ≡ m2 → r1 ≡ r2 → l1 ≡ l2 → s1 ≡ s2 → t1 ≡ t2 → IsSound plan k2 m2 r2 l2 s2 t2 → IsSound plan k1 m1 r1 l1 s1 t1
IsSound-same plan k1 k2 m1 m2 r1 r2 l1 l2 s1 s2 t1 t2 a b c d e f h = rw (a, b, c, d, e, f) h

-- ---- a turn, of the lowest mark

module _ (plan : List PlannedStage) (kept : List KeptStage) (marks ready : List Bool) (links : List (List ℕ)) (steps turns : ℕ) (h : IsSound plan kept marks ready links steps turns)
    (m : ℕ) (lowest : position (λ b. b) marks ≡ Some m) where
  pub turn_within : m < length plan
  turn_within = let l = lowest_within marks m lowest in omega (arith, h.all_marks, l)

  pub turn_idle : is_waiting ((kept_at kept m).stage) ≡ false → IsSound plan kept (set marks m false) ready links steps (turns + 1)
  turn_idle idle = idle_sound plan kept marks ready links steps turns h m (planned_at plan m) (planned_there plan m turn_within) (lowest_marked marks m lowest) idle

  -- a stage that doesn't wait is its own treatment
  pub turn_idly : is_waiting ((kept_at kept m).stage) ≡ false → kept ≡ turned plan kept m
  turn_idly idle =
      let there : m < length kept = let l = turn_within in omega (arith, h.all_kept) in
      sym (ap (set kept m) (treated_idle kept (planned_at plan m) (kept_at kept m) idle ∙ kept_as_read kept m there) ∙ set-get_or kept m (kept_at kept m))

  pub turn_kept : (new : KeptStage) → new ≡ treated kept (planned_at plan m) (kept_at kept m) → is_waiting ((kept_at kept m).stage) ≡ true →
      IsSound plan (set kept m new) (marks_after plan (set kept m new) links (set marks m false) m new.stage) (set ready m (is_ready new.stage)) (links_after links m new.stage) steps (turns + 1)
  turn_kept new is waiting =
      rw is (turn_sound plan kept marks ready links steps turns h m (planned_at plan m) (planned_there plan m turn_within) (lowest_marked marks m lowest) waiting)

  pub turn_settled_view : (new : KeptStage) → new ≡ treated kept (planned_at plan m) (kept_at kept m) → settled_view plan (set kept m new) ≡ settled_view plan kept
  turn_settled_view new is =
      ap (λ k. settled_view plan (set kept m k)) is
      ∙ turn_same plan kept marks ready links steps turns h m (planned_at plan m) (planned_there plan m turn_within) (is_steady plan kept marks ready links steps turns h m (lowest_below marks m lowest))

  pub turn_taken : (new : KeptStage) → is_waiting ((kept_at kept m).stage) ≡ true → StayTaken kept (set kept m new)
  turn_taken new waiting = StayTaken-set kept m new (let l = turn_within in omega (arith, h.all_kept, l)) (λ taken. absurd (waiting_untaken ((kept_at kept m).stage) waiting taken))

-- ---- a stage that is ready, and one that isn't settled

pub ready_args : (stage : Stage) → is_ready stage ≡ true → (args : Args) × (stage ≡ Ready args)
ready_args (Ready args) e = (args, refl)
ready_args Pending e = cc
ready_args Claimed e = cc
ready_args (Linked j) e = cc
ready_args (Settled o) e = cc

pub undated : (kept : List KeptStage) (j : ℕ) → j < length kept → outcome_of ((kept_at kept j).stage) ≡ None → dated_in kept j ≡ None
undated kept j l e = ap (option_and_then dated_of) (kept_there kept j l) ∙ ap (option_map (λ o. (o, (kept_at kept j).step))) e

pub StayTakenBut-set : (kept : List KeptStage) (d : ℕ) (new : KeptStage) → StayTakenBut d kept (set kept d new)
StayTakenBut-set kept d new i ne b =
    let is : kept_at (set kept d new) i ≡ kept_at kept i = ap (λ x. unwrap_or x (record { stage = Pending; step = 0 })) (slice_get-set_other kept d i new ne) in
    ap (λ (k : KeptStage). is_taken k.stage) is ∙ b

-- ---- what a treatment made of a stage that waited

-- one that waits isn't ready
pub waiting_unready : (stage : Stage) → is_waiting stage ≡ true → is_ready stage ≡ false
waiting_unready Pending e = refl
waiting_unready (Linked j) e = refl
waiting_unready (Ready args) e = cc
waiting_unready Claimed e = cc
waiting_unready (Settled o) e = cc

pub made_ready : (stage : Stage) → became stage ≡ made.Ready → is_ready stage ≡ true
made_ready (Ready args) e = refl
made_ready Pending e = cc
made_ready Claimed e = cc
made_ready (Linked j) e = cc
made_ready (Settled o) e = cc

-- to take out one that isn't in changes nothing
pub out_already : (ready : List Bool) (d : ℕ) → slice_get ready d ≡ Some false → ready ≡ set ready d false
out_already [] d e = refl
out_already (b ∷ ready) zero e = let is : b ≡ false = cc in ap (λ x. x ∷ ready) is
out_already (b ∷ ready) (suc d) e = ap (λ xs. b ∷ xs) (out_already ready d e)

-- the marks, the ready stages and the lists of linked stages once that is noted
pub record Noted (plan : List PlannedStage) (kept : List KeptStage) (links : List (List ℕ)) (marks ready : List Bool) (d : ℕ) (stage : Stage) (marks' ready' : List Bool) (links' : List (List ℕ)) : Type 0 where
  pub marks_are : marks' ≡ marks_after plan kept links marks d stage
  pub ready_are : ready' ≡ set ready d (is_ready stage)
  pub links_are : links' ≡ links_after links d stage

module _ (plan : List PlannedStage) (kept : List KeptStage) (links : List (List ℕ)) (marks ready : List Bool) (d : ℕ) where
  pub noted_same : (stage : Stage) → made.Same ≡ became stage → slice_get ready d ≡ Some false → Noted plan kept links marks ready d stage marks ready links
  noted_same Pending e out = record { marks_are = refl; ready_are = out_already ready d out; links_are = refl }
  noted_same Claimed e out = record { marks_are = refl; ready_are = out_already ready d out; links_are = refl }
  noted_same (Linked j) e out = record { marks_are = refl; ready_are = out_already ready d out; links_are = refl }
  noted_same (Ready args) e out = cc
  noted_same (Settled o) e out = cc

  pub noted_ready : (stage : Stage) → made.Ready ≡ became stage → Noted plan kept links marks ready d stage marks (set ready d true) links
  noted_ready (Ready args) e = record { marks_are = refl; ready_are = refl; links_are = refl }
  noted_ready Pending e = cc
  noted_ready Claimed e = cc
  noted_ready (Linked j) e = cc
  noted_ready (Settled o) e = cc

  pub noted_settled : (stage : Stage) → made.Settled ≡ became stage → slice_get ready d ≡ Some false → Noted plan kept links marks ready d stage (marks_settled plan kept links marks d) ready (set links d [])
  noted_settled (Settled o) e out = record { marks_are = refl; ready_are = out_already ready d out; links_are = refl }
  noted_settled Pending e out = cc
  noted_settled (Ready args) e out = cc
  noted_settled Claimed e out = cc
  noted_settled (Linked j) e out = cc

-- ---- a stage that a turn has made ready

pub ready_marks : (plan : List PlannedStage) (kept : List KeptStage) (links : List (List ℕ)) (marks : List Bool) (d : ℕ) (stage : Stage) → is_ready stage ≡ true → marks_after plan kept links marks d stage ≡ marks
ready_marks plan kept links marks d (Ready args) e = refl
ready_marks plan kept links marks d Pending e = cc
ready_marks plan kept links marks d Claimed e = cc
ready_marks plan kept links marks d (Linked j) e = cc
ready_marks plan kept links marks d (Settled o) e = cc

read_as : (xs : List Bool) (i : ℕ) (b : Bool) → i < length xs → slice_get xs i ≡ Some b → get_or xs i false ≡ b
read_as xs i b l e = let is : Some (get_or xs i false) ≡ Some b = sym (slice_get-get_or xs i false l) ∙ e in cc

-- where none below a place is in, the one that is put in there is the first
pub first_put : (ready : List Bool) (m : ℕ) → m < length ready → AreTreated m ready → position (λ b. b) (set ready m true) ≡ Some m
first_put ready m l h =
    let same = length-set ready m true in
    position_is (λ b. b) (set ready m true) m false (omega (arith, l, same))
    (λ j b. read_as (set ready m true) j false (omega (arith, l, same, b)) (slice_get-set_other ready m j true (λ e. absurd (omega (arith, e, b))) ∙ h j b))
    (read_as (set ready m true) m true (omega (arith, l, same)) (get-set_same ready m true l))

-- to take one out leaves those below it
pub treated_out : (marks : List Bool) (m : ℕ) → AreTreated m marks → AreTreated m (set marks m false)
treated_out marks m h i l = slice_get-set_other marks m i false (λ e. absurd (omega (arith, e, l))) ∙ h i l
