-- What is known of each stage stays known as stages are settled, claimed, linked and finished.
use Rattle.std.proofs.Common.{◌≡◌, ◌≢◌, ℕ, ◌<◌, ◌==◌, ◌∷◌, [], List, Bool, true, false, cond, Option, Some, None, suc, zero, arith, ap, sym, ◌∙◌, subst, refl, map, set, ◌⊎◌, inl, inr}
use mathlib.Core.Path.{fun_ext}
use Rattle.std.specs.Prelude.{slice_get, option_and_then, unwrap_or, ◌&&◌}
use Rattle.std.specs.Option.{option_map}
use Rattle.std.proofs.lemmas.Bool.{and_from, and_right}
use Rattle.std.proofs.lemmas.Bool.Decides.{nat_tests}
use Rattle.cf_outcome.specs.declared.outcome.Outcome.{Outcome}
use Rattle.cf_outcome.specs.Outcomes.{wrap}
use Rattle.cf_forms.specs.declared.forms.Args.{Args}
use Rattle.cf_forms.specs.declared.forms.Landing.{Landing}
use Rattle.cf_forms.specs.declared.forms.Landing.TheVariants.{Settles as Lands, Links}
use Rattle.cf_forms.specs.Forms.{follows}
use Rattle.cf_forms.specs.Plans.{PlannedStage}
use Rattle.cf_model.specs.declared.stage.Stage.{Stage}
use Rattle.cf_model.specs.declared.stage.Stage.TheVariants.{Pending, Ready, Claimed, Linked, Settled}
use Rattle.cf_model.specs.States.{State, outcome_of, outcome_in, outcome_at, claim_at, after}
use Rattle.cf_model.specs.Events.{settled_by, landed, linked_to}
use Rattle.cf_model.proofs.StateLemmas.{after-unsettled, slice_get-set_other}
use Rattle.cf_model.proofs.Moves.{new_states-settled, set-settled}
use Rattle.cf_forms.specs.Meanings.{Meanings}
use Rattle.cf_expr.specs.Expressions.{landing_expr}
use Rattle.cf_expr.specs.Histories.{Grants}
use Rattle.cf_expr.proofs.Settles.{IsSet, Owes, Waiting, Fair, Sound, sound_settled, below_there, all_sound}

-- ---- a write to one stage

-- what stands at k after a write at i
pub Written : {X : Type 0} → List X → ℕ → X → ℕ → X → Type 0
Written xs i y k x = ((k ≡ i) × (slice_get (set xs i y) k ≡ Some y)) ⊎ ((k ≢ i) × (slice_get (set xs i y) k ≡ Some x))

next_written : {X : Type 0} (xs : List X) (i : ℕ) (y : X) (k : ℕ) (x z : X) → Written xs i y k x → Written (z ∷ xs) (suc i) y (suc k) x
unfolding Written
next_written xs i y k x z (inl h) = inl (ap suc h.0, h.1)
next_written xs i y k x z (inr h) = inr ((λ e. h.0 (omega arith)), h.1)

pub written : {X : Type 0} (xs : List X) (i : ℕ) (y : X) (k : ℕ) (x : X) → slice_get xs k ≡ Some x → Written xs i y k x
unfolding Written
written [] i y k x e = cc
written (z ∷ xs) zero y zero x e = inl (refl, refl)
written (z ∷ xs) zero y (suc k) x e = inr ((λ h. let l : 0 ≡ suc k = sym h in absurd (omega arith)), e)
written (z ∷ xs) (suc i) y zero x e = inr ((λ h. absurd (omega arith)), e)
written (z ∷ xs) (suc i) y (suc k) x e = next_written xs i y k x z (written xs i y k x e)

-- a write of a stage that isn't settled, where none was, leaves all outcomes
same_at : (xs : List Stage) (i : ℕ) (y : Stage) (k : ℕ) → outcome_in xs i ≡ None → outcome_of y ≡ None → outcome_in (set xs i y) k ≡ outcome_in xs k
same_at [] i y k e f = refl
same_at (x ∷ xs) zero y zero e f = f ∙ sym e
same_at (x ∷ xs) zero y (suc k) e f = refl
same_at (x ∷ xs) (suc i) y zero e f = refl
same_at (x ∷ xs) (suc i) y (suc k) e f = same_at xs i y k e f

pub same_outcomes : (xs : List Stage) (i : ℕ) (y : Stage) → outcome_in xs i ≡ None → outcome_of y ≡ None → outcome_in (set xs i y) ≡ outcome_in xs
same_outcomes xs i y e f = fun_ext λ k. same_at xs i y k e f

-- open claims
pub claim_other : (xs : List (Option ℕ)) (i : ℕ) (y : Option ℕ) (k : ℕ) → k ≢ i → unwrap_or (slice_get (set xs i y) k) None ≡ unwrap_or (slice_get xs k) None
claim_other xs i y k ne = ap (λ c. unwrap_or c None) (slice_get-set_other xs i k y ne)

pub claim_closed : (xs : List (Option ℕ)) (i : ℕ) → unwrap_or (slice_get (set xs i None) i) None ≡ None
claim_closed [] i = refl
claim_closed (x ∷ xs) zero = refl
claim_closed (x ∷ xs) (suc i) = claim_closed xs i

pub closed_cases : (xs : List (Option ℕ)) (i k : ℕ) → (unwrap_or (slice_get (set xs i None) k) None ≡ None) ⊎ (unwrap_or (slice_get (set xs i None) k) None ≡ unwrap_or (slice_get xs k) None)
closed_cases [] i k = inr refl
closed_cases (x ∷ xs) zero zero = inl refl
closed_cases (x ∷ xs) zero (suc k) = inr refl
closed_cases (x ∷ xs) (suc i) zero = inr refl
closed_cases (x ∷ xs) (suc i) (suc k) = closed_cases xs i k

-- what is granted by a claim
claim_own : (xs : List (Option ℕ)) (i : ℕ) (who w : ℕ) → unwrap_or (slice_get (set xs i (Some who)) i) None ≡ Some w → w ≡ who
claim_own [] i who w e = cc
claim_own (x ∷ xs) zero who w e = cc
claim_own (x ∷ xs) (suc i) who w e = claim_own xs i who w e

own_grant : (granted : Grants) (claims : List (Option ℕ)) (who i k w : ℕ) (args : Args) → k ≡ i → unwrap_or (slice_get (set claims i (Some who)) k) None ≡ Some w →
    cond (w == who && k == i) (Some args) (granted w k) ≡ Some args
own_grant granted claims who i k w args e c =
    let is : w ≡ who = claim_own claims i who w (ap (λ n. unwrap_or (slice_get (set claims i (Some who)) n) None) (sym e) ∙ c) in
    let a : (w == who) ≡ true = grind (arith, nat_tests) in
    let b : (k == i) ≡ true = grind (arith, nat_tests) in
    ap (λ t. cond t (Some args) (granted w k)) (and_from (w == who) (k == i) a b)

other_grant : (granted : Grants) (who i k w : ℕ) (args : Args) → k ≢ i → cond (w == who && k == i) (Some args) (granted w k) ≡ granted w k
other_grant granted who i k w args ne =
    let b : (k == i) ≡ false = grind (arith, nat_tests) in
    ap (λ t. cond t (Some args) (granted w k)) (and_right (w == who) (k == i) b)

-- ---- the same by other names

owes_moved : (exprs outs new : ℕ → Option Outcome) (g h : ℕ → Option Args) (c d : Option ℕ) (i : ℕ) (p : PlannedStage) (x : Stage) → new ≡ outs → h ≡ g → d ≡ c →
    Owes exprs outs g c i p x → Owes exprs new h d i p x
owes_moved exprs outs new g h c d i p x eo eg ec owes =
    let a : Owes exprs new g c i p x = subst (λ f. Owes exprs f g c i p x) (sym eo) owes in
    let b : Owes exprs new h c i p x = subst (λ k. Owes exprs new k c i p x) (sym eg) a in
    subst (λ k. Owes exprs new h k i p x) (sym ec) b

waiting_moved : (outs new : ℕ → Option Outcome) (p : PlannedStage) (x : Stage) → new ≡ outs → Waiting outs p x → Waiting new p x
waiting_moved outs new p x eo w = subst (λ f. Waiting f p x) (sym eo) w

sound_moved : (exprs : ℕ → Option Outcome) (g h : ℕ → Option Args) (c d : Option ℕ) (xs ys : List Stage) (i : ℕ) (p : PlannedStage) → (s : Sound exprs g c xs i p) →
    outcome_in ys ≡ outcome_in xs → h ≡ g → d ≡ c → slice_get ys i ≡ Some s.stage → Sound exprs h d ys i p
sound_moved exprs g h c d xs ys i p s eo eg ec there = record {
  stage = s.stage;
  there = there;
  owes = owes_moved exprs (outcome_in xs) (outcome_in ys) g h c d i p s.stage eo eg ec s.owes;
  waits = waiting_moved (outcome_in xs) (outcome_in ys) p s.stage eo s.waits;
}

-- a claim that is closed is owed nothing
owes_closed : (exprs outs : ℕ → Option Outcome) (g : ℕ → Option Args) (c : Option ℕ) (i : ℕ) (p : PlannedStage) (x : Stage) → Owes exprs outs g c i p x → Owes exprs outs g None i p x
owes_closed exprs outs g c i p Pending h = refl
owes_closed exprs outs g c i p (Ready args) h = (refl, h.1)
owes_closed exprs outs g c i p Claimed h = (h.0, (λ w e. cc), h.2)
owes_closed exprs outs g c i p (Linked j) h = (refl, h.1, h.2)
owes_closed exprs outs g c i p (Settled o) h = h

-- ---- the state

pub record Stands (meanings : Meanings) (named exprs : ℕ → Option Outcome) (granted : Grants) (s : State) : Type 0 where
  pub known : IsSet meanings named exprs s.plan.stages
  pub sound : (i : ℕ) (p : PlannedStage) → slice_get s.plan.stages i ≡ Some p → Sound exprs (λ w. granted w i) (claim_at s i) s.stages i p

module _ (meanings : Meanings) (named exprs : ℕ → Option Outcome) where
  -- a stage is settled with its expression's outcome
  settled_fair : (granted : Grants) (s : State) (i : ℕ) (o : Outcome) → Stands meanings named exprs granted s → ((p : PlannedStage) → slice_get s.plan.stages i ≡ Some p → exprs i ≡ Some o) →
      (k : ℕ) (p : PlannedStage) → slice_get s.plan.stages k ≡ Some p → Fair exprs (outcome_at s) (λ w. granted w k) (claim_at s k) (set s.stages i (Settled o)) k p
  unfolding Written
  settled_fair granted s i o h is k p e =
      let f = h.sound k p e in
      elim (written s.stages i (Settled o) k f.stage f.there) [
        | inl w ↦ record { stage = Settled o; there = w.1; owes = ap exprs w.0 ∙ is p (ap (slice_get s.plan.stages) (sym w.0) ∙ e) }
        | inr w ↦ record { stage = f.stage; there = w.1; owes = f.owes }
      ]

  pub after_stands : (granted : Grants) (s : State) (i : ℕ) (o : Outcome) → Stands meanings named exprs granted s → outcome_at s i ≡ None →
      ((p : PlannedStage) → slice_get s.plan.stages i ≡ Some p → exprs i ≡ Some o) → Stands meanings named exprs granted (after s i o)
  after_stands granted s i o h unsettled is = subst (Stands meanings named exprs granted) (sym (after-unsettled s i o unsettled)) (record {
    known = h.known;
    sound = all_sound meanings named exprs s.plan.stages h.known (outcome_at s) granted (claim_at s) (set s.stages i (Settled o))
        (settled_fair granted s i o h is)
        (λ j q e. new_states-settled [] s.plan.stages (set s.stages i (Settled o)) j q (set-settled s.stages i j (Settled o) q unsettled e));
  })

  pub settled_by_stands : (granted : Grants) (x : Option Outcome) (s : State) (i : ℕ) (o : Outcome) → outcome_at s i ≡ x → Stands meanings named exprs granted s →
      (outcome_at s i ≡ None → (p : PlannedStage) → slice_get s.plan.stages i ≡ Some p → exprs i ≡ Some o) → Stands meanings named exprs granted ((settled_by x s i o).1)
  settled_by_stands granted (Some old) s i o e h is = h
  settled_by_stands granted None s i o e h is = after_stands granted s i o h e (is e)

  -- a claim is closed
  owes_less : (outs : ℕ → Option Outcome) (g : ℕ → Option Args) (c d : Option ℕ) (i : ℕ) (p : PlannedStage) (x : Stage) → (d ≡ None) ⊎ (d ≡ c) → Owes exprs outs g c i p x → Owes exprs outs g d i p x
  owes_less outs g c d i p x (inl e) owes = subst (λ k. Owes exprs outs g k i p x) (sym e) (owes_closed exprs outs g c i p x owes)
  owes_less outs g c d i p x (inr e) owes = subst (λ k. Owes exprs outs g k i p x) (sym e) owes

  pub closed_stands : (granted : Grants) (s : State) (i : ℕ) → Stands meanings named exprs granted s → Stands meanings named exprs granted (record s { claims = set s.claims i None })
  closed_stands granted s i h = record {
    known = h.known;
    sound = λ k p e. let f = h.sound k p e in record {
      stage = f.stage;
      there = f.there;
      owes = owes_less (outcome_at s) (λ w. granted w k) (claim_at s k) (unwrap_or (slice_get (set s.claims i None) k) None) k p f.stage (closed_cases s.claims i k) f.owes;
      waits = f.waits;
    };
  }

  -- a claimed stage is linked to a lower one that isn't settled
  link_sound : (granted : Grants) (s : State) (i j : ℕ) → Stands meanings named exprs granted s → outcome_at s i ≡ None → outcome_at s j ≡ None → claim_at s i ≡ None → j < i →
      ((p : PlannedStage) → slice_get s.plan.stages i ≡ Some p → exprs i ≡ option_map wrap (exprs j)) →
      (k : ℕ) (p : PlannedStage) → slice_get s.plan.stages k ≡ Some p → Sound exprs (λ w. granted w k) (claim_at s k) (set s.stages i (Linked j)) k p
  unfolding Written
  link_sound granted s i j h unsettled target free l is k p e =
      let f = h.sound k p e in
      let same = same_outcomes s.stages i (Linked j) unsettled refl in
      elim (written s.stages i (Linked j) k f.stage f.there) [
        | inl w ↦ record {
          stage = Linked j;
          there = w.1;
          owes = (ap (claim_at s) w.0 ∙ free, omega (arith, w.0), ap exprs w.0 ∙ is p (ap (slice_get s.plan.stages) (sym w.0) ∙ e));
          waits = ap (λ f. f j) same ∙ target;
        }
        | inr w ↦ sound_moved exprs (λ w. granted w k) (λ w. granted w k) (claim_at s k) (claim_at s k) s.stages (set s.stages i (Linked j)) k p f same refl refl w.1
      ]

  pub linked_to_stands : (granted : Grants) (x : Option Outcome) (s : State) (i j : ℕ) → outcome_at s j ≡ x → Stands meanings named exprs granted s → outcome_at s i ≡ None → claim_at s i ≡ None → j < i →
      ((p : PlannedStage) → slice_get s.plan.stages i ≡ Some p → exprs i ≡ option_map wrap (exprs j)) → Stands meanings named exprs granted (linked_to x s i j)
  linked_to_stands granted None s i j e h unsettled free l is = record { known = h.known; sound = link_sound granted s i j h unsettled e free l is }
  linked_to_stands granted (Some o) s i j e h unsettled free l is =
      after_stands granted s i (wrap o) h unsettled (λ p there.
      let q = below_there s.plan.stages i j p there l in
      is p there ∙ ap (option_map wrap) (sound_settled exprs (λ w. granted w j) (claim_at s j) s.stages j q.0 o (h.sound j q.0 q.1) e))

  -- a stage lands where its expression does
  pub landed_stands : (granted : Grants) (at : Landing) (s : State) (i : ℕ) → Stands meanings named exprs granted s → outcome_at s i ≡ None → claim_at s i ≡ None →
      ((j : ℕ) → at ≡ Links j → j < i) → ((p : PlannedStage) → slice_get s.plan.stages i ≡ Some p → exprs i ≡ landing_expr exprs at) → Stands meanings named exprs granted (landed s i at)
  landed_stands granted (Lands o) s i h unsettled free l is = after_stands granted s i o h unsettled is
  landed_stands granted (Links j) s i h unsettled free l is = linked_to_stands granted (outcome_at s j) s i j refl h unsettled free (l j refl) is

  -- a ready stage is claimed
  claim_sound : (granted : Grants) (s : State) (who i : ℕ) (args : Args) → Stands meanings named exprs granted s → slice_get s.stages i ≡ Some (Ready args) →
      (k : ℕ) (p : PlannedStage) → slice_get s.plan.stages k ≡ Some p →
      Sound exprs (λ w. cond (w == who && k == i) (Some args) (granted w k)) (unwrap_or (slice_get (set s.claims i (Some who)) k) None) (set s.stages i Claimed) k p
  unfolding Written
  claim_sound granted s who i args h ready k p e =
      let f = h.sound k p e in
      let unsettled : outcome_in s.stages i ≡ None = ap (option_and_then outcome_of) ready in
      let same = same_outcomes s.stages i Claimed unsettled refl in
      elim (written s.stages i Claimed k f.stage f.there) [
        | inl w ↦
            let is : f.stage ≡ Ready args = let a = ap (slice_get s.stages) w.0 in let b = f.there in cc in
            let owes : Owes exprs (outcome_in s.stages) (λ w. granted w k) (claim_at s k) k p (Ready args) = subst (Owes exprs (outcome_in s.stages) (λ w. granted w k) (claim_at s k) k p) is f.owes in
            record {
              stage = Claimed;
              there = w.1;
              owes = (args, (λ v e. own_grant granted s.claims who i k v args w.0 e), ap (λ f. follows p.form (map f p.sources)) same ∙ owes.1);
              waits = tt;
            }
        | inr w ↦
            sound_moved exprs (λ w. granted w k) (λ w. cond (w == who && k == i) (Some args) (granted w k)) (claim_at s k) (unwrap_or (slice_get (set s.claims i (Some who)) k) None) s.stages (set s.stages i Claimed) k p f same
            (fun_ext λ v. other_grant granted who i k v args w.0) (claim_other s.claims i (Some who) k w.0) w.1
      ]

  pub claim_stands : (granted : Grants) (s : State) (who i : ℕ) (args : Args) → Stands meanings named exprs granted s → slice_get s.stages i ≡ Some (Ready args) →
      Stands meanings named exprs (λ w k. cond (w == who && k == i) (Some args) (granted w k)) (record s { stages = set s.stages i Claimed; claims = set s.claims i (Some who) })
  claim_stands granted s who i args h ready = record { known = h.known; sound = claim_sound granted s who i args h ready }
