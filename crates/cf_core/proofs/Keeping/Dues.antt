-- What a form does by outcomes, once more of them are there.
use Rattle.std.proofs.Common.{◌≡◌, ◌≢◌, ℕ, ◌+◌, ◌≤◌, ◌∷◌, [], List, Bool, true, false, cond, Option, Some, None, arith, ap, sym, ◌∙◌, subst, refl, map, is_some, inl, inr, ◌⊎◌}
use Rattle.std.specs.Prelude.{nat_le}
use Rattle.std.specs.List.{list_all}
use Rattle.std.proofs.lemmas.Bool.Decides.{nat_tests}
use Rattle.cf_outcome.specs.declared.outcome.Outcome.{Outcome}
use Rattle.cf_outcome.specs.declared.outcome.Outcome.TheVariants.{Value as Gives, Fault}
use Rattle.cf_forms.specs.declared.forms.Form.{Form}
use Rattle.cf_forms.specs.declared.forms.Form.TheVariants.{Source, Supply, RunAsync, Apply, Accept, ThenRun, Combine, AcceptBoth, RunBoth, ApplyEither, AcceptEither, RunEither, Compose, Handle, WhenComplete, Exceptionally, AllOf, AnyOf, ExceptionallyCompose}
use Rattle.cf_forms.specs.declared.forms.Due.{Due}
use Rattle.cf_forms.specs.declared.forms.Due.TheVariants.{Waits, Settles}
use Rattle.cf_forms.specs.Forms.{follows, due_of_first, due_of_both, due_two, first_there, first_fault}
use Rattle.cf_model.proofs.StateLemmas.{due_one-decides}
use Rattle.cf_core.specs.Keeping.Treatment.{earlier, earliest, latest, late_due, outcome_part, step_part}

-- what was there stays, and what is new is of the next step
abbrev pub Grows : ℕ → Option (Outcome × ℕ) → Option (Outcome × ℕ) → Type 0
Grows step (Some x) y = (y ≡ Some x) × (x.1 ≤ step)
Grows step None None = Unit {0}
Grows step None (Some y) = y.1 ≡ step + 1

abbrev pub ListGrows : ℕ → List (Option (Outcome × ℕ)) → List (Option (Outcome × ℕ)) → Type 0
ListGrows step [] [] = Unit {0}
ListGrows step (x ∷ q) (y ∷ r) = Grows step x y × ListGrows step q r
ListGrows step [] (y ∷ r) = ⊥
ListGrows step (x ∷ q) [] = ⊥

-- what was due is still due, by the same step
pub record Stays (step : ℕ) (old new : Due × ℕ) : Type 0 where
  pub same : new.0 ≡ old.0
  pub decided : old.0 ≢ Waits
  pub step_same : (o : Outcome) → old.0 ≡ Settles o → (new.1 ≡ old.1) × (old.1 ≤ step)

-- nothing was due, and now what follows is, by the next step
pub record Moves (step : ℕ) (old new : Due × ℕ) (now : Due) : Type 0 where
  pub waited : old.0 ≡ Waits
  pub is_now : new.0 ≡ now
  pub step_next : (o : Outcome) → new.0 ≡ Settles o → new.1 ≡ step + 1

abbrev pub DueGrows : ℕ → Due × ℕ → Due × ℕ → Due → Type 0
DueGrows step old new now = Stays step old new ⊎ Moves step old new now

-- ---- tables always decide
due_two-decides : (form : Form) (a b : Outcome) → due_two form a b ≢ Waits
due_two-decides form (Fault cause wrapped) b e = cc
due_two-decides form (Gives v) (Fault cause wrapped) e = cc
due_two-decides RunBoth (Gives v) (Gives w) e = cc
due_two-decides form (Gives v) (Gives w) e = cc

-- ---- the first to settle
earlier_tie : (step : ℕ) (z : Outcome × ℕ) (r : Option (Outcome × ℕ)) → z.1 ≤ step → ((w : Outcome × ℕ) → r ≡ Some w → step ≤ w.1) → earlier (Some z) r ≡ Some z
earlier_tie step z None l h = refl
earlier_tie step z (Some w) l h =
    let m = h w refl in
    let yes : nat_le (z.1) (w.1) ≡ true = grind (arith, nat_tests) in rw yes refl

earlier_new : (step : ℕ) (z y : Outcome × ℕ) → z.1 ≡ step + 1 → y.1 ≤ step → earlier (Some z) (Some y) ≡ Some y
earlier_new step z y l m =
    let no : nat_le (z.1) (y.1) ≡ false = grind (arith, nat_tests) in rw no refl

pub earlier_some : (u : Outcome × ℕ) (z : Option (Outcome × ℕ)) → earlier (Some u) z ≢ None
earlier_some u None e = cc
earlier_some u (Some v) e = chosen (nat_le (u.1) (v.1)) e
  where
    chosen : (b : Bool) → cond b (Some u) (Some v) ≢ None
    chosen true e = cc
    chosen false e = cc

earlier_few : (step : ℕ) (u : Outcome × ℕ) (v y : Outcome × ℕ) → u.1 ≤ step → v.1 ≤ step → earlier (Some u) (Some v) ≡ Some y → y.1 ≤ step
earlier_few step u v y l m e = chosen (nat_le (u.1) (v.1)) e
  where
    chosen : (b : Bool) → cond b (Some u) (Some v) ≡ Some y → y.1 ≤ step
    chosen true e = let same : u ≡ y = cc in let P : Outcome × ℕ → Type 0 = λ x. x.1 ≤ step in subst P same l
    chosen false e = let same : v ≡ y = cc in let P : Outcome × ℕ → Type 0 = λ x. x.1 ≤ step in subst P same m

record IsNew (step : ℕ) (r : List (Option (Outcome × ℕ))) : Type 0 where
  part : outcome_part (earliest r) ≡ first_there (map outcome_part r)
  next : (w : Outcome × ℕ) → earliest r ≡ Some w → w.1 ≡ step + 1

earliest_new : (step : ℕ) (q r : List (Option (Outcome × ℕ))) → ListGrows step q r → earliest q ≡ None → IsNew step r
earliest_new step [] [] g e = record { part = refl; next = λ w e. cc }
earliest_new step [] (y ∷ r) g e = absurd g
earliest_new step (x ∷ q) [] g e = absurd g
earliest_new step (Some u ∷ q) (y ∷ r) g e = absurd (earlier_some u (earliest q) e)
earliest_new step (None ∷ q) (None ∷ r) g e = let h = earliest_new step q r g.1 e in record { part = h.part; next = h.next }
earliest_new step (None ∷ q) (Some z ∷ r) g e =
    let h = earliest_new step q r g.1 e in
    let first : earlier (Some z) (earliest r) ≡ Some z = earlier_tie (step + 1) z (earliest r) (omega (arith, g.0)) (λ w s. let n = h.next w s in omega arith) in
    record {
      part = ap outcome_part first;
      next = λ w s. (let same : z ≡ w = cc in let P : Outcome × ℕ → Type 0 = λ x. x.1 ≡ step + 1 in subst P same (g.0));
    }

record IsOld (step : ℕ) (r : List (Option (Outcome × ℕ))) (y : Outcome × ℕ) : Type 0 where
  still : earliest r ≡ Some y
  few : y.1 ≤ step

earliest_old : (step : ℕ) (q r : List (Option (Outcome × ℕ))) (y : Outcome × ℕ) → ListGrows step q r → earliest q ≡ Some y → IsOld step r y
earliest_old step [] [] y g e = cc
earliest_old step [] (z ∷ r) y g e = absurd g
earliest_old step (x ∷ q) [] y g e = absurd g
earliest_old step (None ∷ q) (None ∷ r) y g e = let h = earliest_old step q r y g.1 e in record { still = h.still; few = h.few }
earliest_old step (None ∷ q) (Some z ∷ r) y g e =
    let h = earliest_old step q r y g.1 e in
    record { still = ap (earlier (Some z)) h.still ∙ earlier_new step z y g.0 h.few; few = h.few }
earliest_old step (Some u ∷ q) (z ∷ r) y g e = with_rest (λ v s. earliest_old step q r v g.1 s) (earliest q) refl
  where
    with_rest : ((v : Outcome × ℕ) → earliest q ≡ Some v → IsOld step r v) → (x : Option (Outcome × ℕ)) → earliest q ≡ x → IsOld step (z ∷ r) y
    with_rest rec None s =
        let h = earliest_new step q r g.1 s in
        let first : earlier (Some u) (earliest r) ≡ Some u = earlier_tie step u (earliest r) (g.0.1) (λ w t. let n = h.next w t in omega arith) in
        let was : earlier (Some u) (earliest q) ≡ Some u = ap (earlier (Some u)) s in
        let same : u ≡ y = cc in
        let P : Outcome × ℕ → Type 0 = λ x. x.1 ≤ step in
        record { still = ap (λ x. earlier x (earliest r)) (g.0.0) ∙ first ∙ ap (λ x. Some x) same; few = subst P same (g.0.1) }
    with_rest rec (Some v) s =
        let h = rec v s in
        let e' : earlier (Some u) (Some v) ≡ Some y = ap (earlier (Some u)) (sym s) ∙ e in
        record { still = ap (λ x. earlier x (earliest r)) (g.0.0) ∙ ap (earlier (Some u)) h.still ∙ e'; few = earlier_few step u v y (g.0.1) h.few e' }

first_grows : (step : ℕ) (form : Form) (q r : List (Option (Outcome × ℕ))) → ListGrows step q r →
    DueGrows step (due_of_first form (outcome_part (earliest q)), step_part (earliest q)) (due_of_first form (outcome_part (earliest r)), step_part (earliest r)) (due_of_first form (first_there (map outcome_part r)))
first_grows step form q r g = with_first (earliest q) refl
  where
    with_first : (x : Option (Outcome × ℕ)) → earliest q ≡ x →
        DueGrows step (due_of_first form (outcome_part (earliest q)), step_part (earliest q)) (due_of_first form (outcome_part (earliest r)), step_part (earliest r)) (due_of_first form (first_there (map outcome_part r)))
    with_first (Some y) s =
        let h = earliest_old step q r y g s in
        rw (s, h.still) (inl (record { same = refl; decided = due_one-decides form (y.0); step_same = λ o e. (refl, h.few) }))
    with_first None s =
        let h = earliest_new step q r g s in
        inr (record {
          waited = ap (λ x. due_of_first form (outcome_part x)) s;
          is_now = ap (due_of_first form) h.part;
          step_next = λ o e. next_step h (earliest r) refl o e;
        })
      where
        next_step : IsNew step r → (x : Option (Outcome × ℕ)) → earliest r ≡ x → (o : Outcome) → due_of_first form (outcome_part (earliest r)) ≡ Settles o → step_part (earliest r) ≡ step + 1
        next_step h None t o e = let w : due_of_first form (outcome_part (earliest r)) ≡ Waits = ap (λ x. due_of_first form (outcome_part x)) t in cc
        next_step h (Some w) t o e = ap step_part t ∙ h.next w t

-- ---- all of them
record IsWhole (step : ℕ) (q r : List (Option (Outcome × ℕ))) : Type 0 where
  same : r ≡ q
  few : latest q ≤ step

all_old : (step : ℕ) (q r : List (Option (Outcome × ℕ))) → ListGrows step q r → list_all is_some (map outcome_part q) ≡ true → IsWhole step q r
all_old step [] [] g e = record { same = refl; few = omega arith }
all_old step [] (y ∷ r) g e = absurd g
all_old step (x ∷ q) [] g e = absurd g
all_old step (None ∷ q) (y ∷ r) g e = cc
all_old step (Some x ∷ q) (y ∷ r) g e =
    let h = all_old step q r g.1 e in
    let same = g.0.0 in
    let rest = h.same in
    record { same = cc; few = omega (arith, g.0.1, h.few) }

latest_few : (step : ℕ) (q r : List (Option (Outcome × ℕ))) → ListGrows step q r → latest r ≤ step + 1
latest_few step [] [] g = omega arith
latest_few step [] (y ∷ r) g = absurd g
latest_few step (x ∷ q) [] g = absurd g
latest_few step (None ∷ q) (None ∷ r) g = let h = latest_few step q r g.1 in omega arith
latest_few step (None ∷ q) (Some y ∷ r) g = let h = latest_few step q r g.1 in omega (arith, g.0)
latest_few step (Some x ∷ q) (y ∷ r) g = let h = latest_few step q r g.1 in rw (g.0.0) (omega (arith, g.0.1))

latest_new : (step : ℕ) (q r : List (Option (Outcome × ℕ))) → ListGrows step q r → list_all is_some (map outcome_part q) ≡ false → list_all is_some (map outcome_part r) ≡ true → latest r ≡ step + 1
latest_new step [] [] g e f = cc
latest_new step [] (y ∷ r) g e f = absurd g
latest_new step (x ∷ q) [] g e f = absurd g
latest_new step (None ∷ q) (None ∷ r) g e f = cc
latest_new step (None ∷ q) (Some y ∷ r) g e f = let h = latest_few step q r g.1 in omega (arith, g.0)
latest_new step (Some x ∷ q) (None ∷ r) g e f = cc
latest_new step (Some x ∷ q) (Some y ∷ r) g e f =
    let h = latest_new step q r g.1 e f in
    let same : y ≡ x = (let k = g.0.0 in cc) in
    rw same (omega (arith, g.0.1))

all_grows : (step : ℕ) (q r : List (Option (Outcome × ℕ))) → ListGrows step q r →
    DueGrows step (follows AllOf (map outcome_part q), latest q) (follows AllOf (map outcome_part r), latest r) (follows AllOf (map outcome_part r))
all_grows step q r g = with_all (list_all is_some (map outcome_part q)) refl
  where
    settled_all : (b : Bool) → list_all is_some (map outcome_part r) ≡ b → list_all is_some (map outcome_part q) ≡ false → (o : Outcome) → cond b (Settles (first_fault (map outcome_part r))) Waits ≡ Settles o → latest r ≡ step + 1
    settled_all true t s o e = latest_new step q r g s t
    settled_all false t s o e = cc

    with_all : (b : Bool) → list_all is_some (map outcome_part q) ≡ b →
        DueGrows step (follows AllOf (map outcome_part q), latest q) (follows AllOf (map outcome_part r), latest r) (follows AllOf (map outcome_part r))
    with_all true s =
        let h = all_old step q r g s in
        let whole = h.same in
        rw (whole, s) (inl (record { same = refl; decided = λ e. cc; step_same = λ o e. (refl, h.few) }))
    with_all false s =
        inr (record {
          waited = ap (λ b. cond b (Settles (first_fault (map outcome_part q))) Waits) s;
          is_now = refl;
          step_next = λ o e. settled_all (list_all is_some (map outcome_part r)) refl s o e;
        })

-- a form that waits for both waits, or has both
both_or_waits : (form : Form) (q : List (Option Outcome)) → (due_of_both form q ≡ Waits) ⊎ ((list_all is_some q ≡ true) × (due_of_both form q ≢ Waits))
both_or_waits form [] = inl refl
both_or_waits form (None ∷ q) = inl refl
both_or_waits form (Some a ∷ []) = inl refl
both_or_waits form (Some a ∷ None ∷ q) = inl refl
both_or_waits form (Some a ∷ Some b ∷ []) = inr (refl, due_two-decides form a b)
both_or_waits form (Some a ∷ Some b ∷ c ∷ q) = inl refl

both_grows : (step : ℕ) (form : Form) (q r : List (Option (Outcome × ℕ))) → ListGrows step q r →
    DueGrows step (due_of_both form (map outcome_part q), latest q) (due_of_both form (map outcome_part r), latest r) (due_of_both form (map outcome_part r))
both_grows step form q r g = elim (both_or_waits form (map outcome_part q)) [
  | inl w ↦ inr (record { waited = w; is_now = refl; step_next = λ o e. new_both w (list_all is_some (map outcome_part q)) refl o e })
  | inr h ↦ (let k = all_old step q r g h.0 in
      let whole = k.same in
      rw whole (inl (record { same = refl; decided = h.1; step_same = λ o e. (refl, k.few) })))
]
  where
    new_both : due_of_both form (map outcome_part q) ≡ Waits → (b : Bool) → list_all is_some (map outcome_part q) ≡ b → (o : Outcome) → due_of_both form (map outcome_part r) ≡ Settles o → latest r ≡ step + 1
    new_both w true s o e = let k = all_old step q r g s in let whole = ap (λ x. due_of_both form (map outcome_part x)) k.same in cc
    new_both w false s o e = elim (both_or_waits form (map outcome_part r)) [ inl v ↦ cc | inr h ↦ latest_new step q r g s h.0 ]

never_grows : (step n m : ℕ) (due : Due) → due ≡ Waits → DueGrows step (due, n) (due, m) due
never_grows step n m due e = inr (record { waited = e; is_now = refl; step_next = λ o f. cc })

always_grows : (step n m : ℕ) (due : Due) → due ≢ Waits → ((o : Outcome) → due ≢ Settles o) → DueGrows step (due, n) (due, m) due
always_grows step n m due ne never = inl (record { same = refl; decided = ne; step_same = λ o e. absurd (never o e) })

pub due_grows : (step : ℕ) (form : Form) (q r : List (Option (Outcome × ℕ))) → ListGrows step q r → DueGrows step (late_due form q) (late_due form r) (follows form (map outcome_part r))
due_grows step Source q r g = never_grows step (latest q) (latest r) Waits refl
due_grows step Supply q r g = always_grows step (latest q) (latest r) (follows Supply []) (λ e. cc) (λ o e. cc)
due_grows step RunAsync q r g = always_grows step (latest q) (latest r) (follows RunAsync []) (λ e. cc) (λ o e. cc)
due_grows step Combine q r g = both_grows step Combine q r g
due_grows step AcceptBoth q r g = both_grows step AcceptBoth q r g
due_grows step RunBoth q r g = both_grows step RunBoth q r g
due_grows step AllOf q r g = all_grows step q r g
due_grows step Apply q r g = first_grows step Apply q r g
due_grows step Accept q r g = first_grows step Accept q r g
due_grows step ThenRun q r g = first_grows step ThenRun q r g
due_grows step ApplyEither q r g = first_grows step ApplyEither q r g
due_grows step AcceptEither q r g = first_grows step AcceptEither q r g
due_grows step RunEither q r g = first_grows step RunEither q r g
due_grows step Compose q r g = first_grows step Compose q r g
due_grows step Handle q r g = first_grows step Handle q r g
due_grows step WhenComplete q r g = first_grows step WhenComplete q r g
due_grows step Exceptionally q r g = first_grows step Exceptionally q r g
due_grows step AnyOf q r g = first_grows step AnyOf q r g
due_grows step ExceptionallyCompose q r g = first_grows step ExceptionallyCompose q r g
