-- Which stages the settling of one may settle.
use Rattle.std.proofs.Common.{◌≡◌, ◌≢◌, ℕ, zero, suc, ◌+◌, ◌<◌, ◌≤◌, Bool, true, false, cond, set, take, length, map, Option, Some, None, List, [], ◌∷◌, Contains, refl, ap, sym, ◌∙◌, arith, subst, inl, inr, ◌⊎◌}
use Rattle.std.specs.Option.{option_map_or}
use Rattle.std.specs.Prelude.{is_some, option_and_then, slice_get}
use Rattle.std.proofs.lemmas.Bool.{cases_eq, ltb-false, ltb-true}
use Rattle.std.proofs.lemmas.List.{length-set}
use Rattle.std.proofs.Math.Dec.{ltb}
use Rattle.cf_outcome.specs.declared.outcome.Outcome.{Outcome}
use Rattle.cf_forms.specs.declared.forms.Due.{Due as DueBy}
use Rattle.cf_forms.specs.declared.forms.Due.TheVariants.{Waits, Settles as SettlesBy, Needs}
use Rattle.cf_forms.specs.declared.forms.Form.{Form}
use Rattle.cf_forms.specs.Forms.{follows}
use Rattle.cf_forms.specs.Plans.{PlannedStage, sources_at}
use Rattle.cf_model.specs.declared.stage.Stage.{Stage}
use Rattle.cf_model.specs.declared.stage.Stage.TheVariants.{Pending, Ready, Claimed, Linked, Settled}
use Rattle.cf_model.specs.States.{State, due_state, linked_state, new_states, next_of, outcome_in, outcome_of}
use Rattle.cf_model.proofs.Moves.{new_states-settled, set-settled}
use Rattle.cf_model.proofs.Shape.{length-new_states}
use Rattle.cf_model.proofs.StateLemmas.{new_states-at, outcome_in-take, slice_get-set_other}
use Rattle.cf_request.specs.Endings.{IsReached}
use Rattle.cf_request.specs.Endings.IsReached.{by_source, by_link}
use Rattle.cf_request.specs.Joins.{IsUndecided, failures_by, has_failed, has_value, sources_of, values_by}
use Rattle.cf_request.specs.Telling.{is_settled_in}
use Rattle.cf_request.specs.declared.joins.Join.{Join}
use Rattle.cf_request.proofs.Behind.{tests}
use Rattle.cf_request.proofs.Decided.{count_cons, none_is}
use Rattle.cf_request.proofs.Linked.{get_some, get_there}
use Rattle.cf_request.proofs.Lists.{contains_head, contains_tail}
use Rattle.cf_request.proofs.Telling.{settled_within}

-- ---- one more outcome

-- what has an outcome keeps it, and either nothing has come or one is new
one_or : (x y : Option Outcome) → ((o : Outcome) → x ≡ Some o → y ≡ Some o) → (y ≡ x) ⊎ ((x ≡ None) × (is_some y ≡ true))
one_or (Some o) y stays = inl (stays o refl)
one_or None None stays = inl refl
one_or None (Some o) stays = inr (refl, refl)

-- one of these stages has an outcome that it hadn't
pub record IsNew (f g : ℕ → Option Outcome) (xs : List ℕ) : Type 0 where
  pub stage : ℕ
  pub among : Contains xs stage
  pub was : f stage ≡ None
  pub is : is_some (g stage) ≡ true

new_tail : (f g : ℕ → Option Outcome) (x : ℕ) (xs : List ℕ) → IsNew f g xs → IsNew f g (x ∷ xs)
new_tail f g x xs h = record { stage = h.stage; among = contains_tail x h.stage xs h.among; was = h.was; is = h.is }

same_or : (f g : ℕ → Option Outcome) (xs : List ℕ) → ((i : ℕ) (o : Outcome) → f i ≡ Some o → g i ≡ Some o) → (map g xs ≡ map f xs) ⊎ IsNew f g xs
same_or f g [] stays = inl refl
same_or f g (x ∷ xs) stays = elim (one_or (f x) (g x) (stays x)) [
  | inr new ↦ inr (record { stage = x; among = contains_head x xs; was = new.0; is = new.1 })
  | inl same ↦ elim (same_or f g xs stays) [
    | inl rest ↦ inl (ap (λ (y : Option Outcome). y ∷ map g xs) same ∙ ap (λ (l : List (Option Outcome)). f x ∷ l) rest)
    | inr new ↦ inr (new_tail f g x xs new)
  ]
]

-- ---- which stages are settled with one

-- a stage is open before, and settled behind
pub record IsNews (xs ys : List Stage) (i : ℕ) : Type 0 where
  pub was : outcome_in xs i ≡ None
  pub is : is_some (outcome_in ys i) ≡ true

-- it took the outcome of a lower stage that was settled, too
pub record TakesFrom (plan : List PlannedStage) (xs ys : List Stage) (i : ℕ) : Type 0 where
  pub from : ℕ
  pub lower : from < i
  pub news : IsNews xs ys from
  pub how : Contains (sources_at plan i) from ⊎ (slice_get xs i ≡ Some (Linked from))

none_past : (xs : List Stage) (i k : ℕ) → i ≤ k → outcome_in (take i xs) k ≡ None
none_past xs zero k l = refl
none_past [] (suc i) k l = refl
none_past (x ∷ xs) (suc i) zero l = absurd (omega (arith, l))
none_past (x ∷ xs) (suc i) (suc k) l = none_past xs i k (omega (arith, l))

below_by : (b : Bool) (xs : List Stage) (i k : ℕ) → ltb k i ≡ b → is_some (outcome_in (take i xs) k) ≡ true → (k < i) × (outcome_in (take i xs) k ≡ outcome_in xs k)
below_by true xs i k l h = let lower = ltb-true k i l in (lower, outcome_in-take xs i k lower)
below_by false xs i k l h = let none = none_past xs i k (ltb-false k i l) in (let no : ⊥ = cc in absurd no)

below : (xs : List Stage) (i k : ℕ) → is_some (outcome_in (take i xs) k) ≡ true → (k < i) × (outcome_in (take i xs) k ≡ outcome_in xs k)
below xs i k h = below_by (ltb k i) xs i k refl h

some_is : (o : Option Outcome) (x : Outcome) → o ≡ Some x → is_some o ≡ true
some_is o x e = ap is_some e

takes_source : (plan : List PlannedStage) (xs ys : List Stage) (i : ℕ) (p : PlannedStage) → slice_get plan i ≡ Some p → IsNew (outcome_in (take i xs)) (outcome_in (take i ys)) p.sources → TakesFrom plan xs ys i
takes_source plan xs ys i p at h =
    let low = below ys i h.stage h.is in
    record {
      from = h.stage;
      lower = low.0;
      news = record { was = sym (outcome_in-take xs i h.stage low.0) ∙ h.was; is = ap is_some (sym low.1) ∙ h.is };
      how = inl (subst (λ (l : List ℕ). Contains l h.stage) (sym (ap (λ (x : Option PlannedStage). option_map_or (λ (s : PlannedStage). s.sources) x []) at)) h.among);
    }

takes_link : (plan : List PlannedStage) (xs ys : List Stage) (i j : ℕ) (x y : Option Outcome) → slice_get xs i ≡ Some (Linked j) → outcome_in (take i xs) j ≡ x → outcome_in (take i ys) j ≡ y → linked_state j x ≡ Linked j → is_some (outcome_of (linked_state j y)) ≡ true → TakesFrom plan xs ys i
takes_link plan xs ys i j None (Some o) at was is closed settled =
    let low = below ys i j (ap is_some is) in
    record { from = j; lower = low.0; news = record { was = sym (outcome_in-take xs i j low.0) ∙ was; is = ap is_some (sym low.1 ∙ is) }; how = inr at }
takes_link plan xs ys i j None None at was is closed settled = (let no : ⊥ = cc in absurd no)
takes_link plan xs ys i j (Some o) y at was is closed settled = (let no : ⊥ = cc in absurd no)

-- by what it was
takes_by : (plan : List PlannedStage) (xs ys : List Stage) (i : ℕ) (p : PlannedStage) (x : Stage) → slice_get plan i ≡ Some p → slice_get xs i ≡ Some x → outcome_of x ≡ None → next_of (take i xs) p.form p.sources x ≡ x →
    is_some (outcome_of (next_of (take i ys) p.form p.sources x)) ≡ true → ((k : ℕ) (o : Outcome) → outcome_in xs k ≡ Some o → outcome_in ys k ≡ Some o) → TakesFrom plan xs ys i
takes_by plan xs ys i p Pending at here none closed settled stays =
    let f = outcome_in (take i xs) in
    let g = outcome_in (take i ys) in
    let on : (k : ℕ) (o : Outcome) → f k ≡ Some o → g k ≡ Some o = (λ k o e. let low = below xs i k (some_is (f k) o e) in outcome_in-take ys i k low.0 ∙ stays k o (sym low.1 ∙ e)) in
    elim (same_or f g p.sources on) [
      | inr new ↦ takes_source plan xs ys i p at new
      | inl same ↦ (let still : due_state (follows p.form (map g p.sources)) ≡ Pending = ap (λ (l : List (Option Outcome)). due_state (follows p.form l)) same ∙ closed in
          let no : is_some (outcome_of Pending) ≡ true = ap (λ (y : Stage). is_some (outcome_of y)) (sym still) ∙ settled in
          (let never : ⊥ = cc in absurd never))
    ]
takes_by plan xs ys i p (Linked j) at here none closed settled stays = takes_link plan xs ys i j (outcome_in (take i xs) j) (outcome_in (take i ys) j) here refl refl closed settled
takes_by plan xs ys i p (Ready args) at here none closed settled stays = (let no : ⊥ = cc in absurd no)
takes_by plan xs ys i p Claimed at here none closed settled stays = (let no : ⊥ = cc in absurd no)
takes_by plan xs ys i p (Settled o) at here none closed settled stays = (let no : ⊥ = cc in absurd no)

heads : (x y : Stage) → (let a : Option Stage = Some x in a) ≡ Some y → x ≡ y
heads x y e = cc

-- another stage that is settled with one took it from a lower one
takes_at : (plan : List PlannedStage) (xs : List Stage) (d i : ℕ) (o : Outcome) (p : PlannedStage) (x : Stage) → slice_get plan i ≡ Some p → slice_get xs i ≡ Some x → new_states [] plan xs ≡ xs → outcome_in xs d ≡ None → i ≢ d →
    IsNews xs (new_states [] plan (set xs d (Settled o))) i → TakesFrom plan xs (new_states [] plan (set xs d (Settled o))) i
takes_at plan xs d i o p x at here closed none other h =
    let zs = set xs d (Settled o) in
    let now = new_states-at [] plan zs i p x at (slice_get-set_other xs d i (Settled o) other ∙ here) in
    let same = heads (next_of (take i (new_states [] plan xs)) p.form p.sources x) x (sym (new_states-at [] plan xs i p x at here) ∙ ap (λ (l : List Stage). slice_get l i) closed ∙ here) in
    takes_by plan xs (new_states [] plan zs) i p x at here (ap (option_and_then outcome_of) (sym here) ∙ h.was) (subst (λ (l : List Stage). next_of (take i l) p.form p.sources x ≡ x) closed same)
    (ap (λ (y : Option Stage). is_some (option_and_then outcome_of y)) (sym now) ∙ h.is) (λ k q e. new_states-settled [] plan zs k q (set-settled xs d k (Settled o) q none e))

takes_from : (plan : List PlannedStage) (xs : List Stage) (d i : ℕ) (o : Outcome) → length xs ≡ length plan → new_states [] plan xs ≡ xs → outcome_in xs d ≡ None → i ≢ d → IsNews xs (new_states [] plan (set xs d (Settled o))) i →
    TakesFrom plan xs (new_states [] plan (set xs d (Settled o))) i
takes_from plan xs d i o size closed none other h =
    let in_ys = settled_within (new_states [] plan (set xs d (Settled o))) i h.is in
    let len = length-new_states [] plan (set xs d (Settled o)) in
    let len_set = length-set xs d (Settled o) in
    let x = get_some xs i (omega (arith, in_ys, len, len_set)) in
    let p = get_some plan i (omega (arith, in_ys, len, len_set, size)) in
    takes_at plan xs d i o p.0 x.0 p.1 x.1 closed none other h

-- ---- what is reached

-- of the states since: the plan is the same, no stage was linked, and what was settled since is reached
pub record Reaches (follows : List Join) (scope : ℕ) (old now : State) : Type 0 where
  pub plan : now.plan.stages ≡ old.plan.stages
  pub links : (i k : ℕ) → slice_get now.stages i ≡ Some (Linked k) → slice_get old.stages i ≡ Some (Linked k)
  pub news : (i : ℕ) → is_settled_in old.stages i ≡ false → is_settled_in now.stages i ≡ true → IsReached follows old scope i

pub reaches_first : (follows : List Join) (scope : ℕ) (s : State) → Reaches follows scope s s
reaches_first follows scope s = record { plan = refl; links = λ i k e. e; news = λ i no is. (let wrong : false ≡ true = sym no ∙ is in let never : ⊥ = cc in absurd never) }

reached_from : (follows : List Join) (scope : ℕ) (old now : State) (ys : List Stage) (i : ℕ) → Reaches follows scope old now → (t : TakesFrom now.plan.stages now.stages ys i) → IsReached follows old scope t.from → IsReached follows old scope i
reached_from follows scope old now ys i h t from = elim t.how [
  | inl source ↦ by_source t.from i from (subst (λ (l : List PlannedStage). Contains (sources_at l i) t.from) h.plan source)
  | inr link ↦ by_link t.from i from (h.links i t.from link)
]

-- all that is settled with a stage that is reached
reached_all : (n : ℕ) (follows : List Join) (scope : ℕ) (old now : State) (d i : ℕ) (o : Outcome) → Reaches follows scope old now → length now.stages ≡ length now.plan.stages → new_states [] now.plan.stages now.stages ≡ now.stages → outcome_in now.stages d ≡ None →
    IsReached follows old scope d → i < n → IsNews now.stages (new_states [] now.plan.stages (set now.stages d (Settled o))) i → IsReached follows old scope i
reached_all zero follows scope old now d i o h size closed none from l news = absurd (omega (arith, l))
reached_all (suc n) follows scope old now d i o h size closed none from l news = elim (cases_eq i d) [
  | inl same ↦ subst (IsReached follows old scope) (sym same) from
  | inr other ↦ (let t = takes_from now.plan.stages now.stages d i o size closed none other news in
      let lower = t.lower in
      reached_from follows scope old now (new_states [] now.plan.stages (set now.stages d (Settled o))) i h t (reached_all n follows scope old now d t.from o h size closed none from (omega (arith, l, lower)) t.news))
]

due_unlinked : (due : DueBy) (k : ℕ) → due_state due ≡ Linked k → ⊥
due_unlinked Waits k e = cc
due_unlinked (SettlesBy o) k e = cc
due_unlinked (Needs args) k e = cc

link_unlinked : (j k : ℕ) (x : Option Outcome) → linked_state j x ≡ Linked k → (let a : Stage = Linked j in a) ≡ Linked k
link_unlinked j k None e = e
link_unlinked j k (Some o) e = (let no : ⊥ = cc in absurd no)

-- no stage is linked by what others end as
next_linked : (below : List Stage) (form : Form) (sources : List ℕ) (x : Stage) (k : ℕ) → next_of below form sources x ≡ Linked k → x ≡ Linked k
next_linked below form sources Pending k e = absurd (due_unlinked (follows form (map (outcome_in below) sources)) k e)
next_linked below form sources (Linked j) k e = link_unlinked j k (outcome_in below j) e
next_linked below form sources (Ready args) k e = e
next_linked below form sources Claimed k e = e
next_linked below form sources (Settled o) k e = e

set_linked : (xs : List Stage) (d i k : ℕ) (o : Outcome) → slice_get (set xs d (Settled o)) i ≡ Some (Linked k) → slice_get xs i ≡ Some (Linked k)
set_linked [] d i k o e = e
set_linked (x ∷ xs) zero zero k o e = cc
set_linked (x ∷ xs) zero (suc i) k o e = e
set_linked (x ∷ xs) (suc d) zero k o e = e
set_linked (x ∷ xs) (suc d) (suc i) k o e = set_linked xs d i k o e

new_linked_at : (plan : List PlannedStage) (xs : List Stage) (i k : ℕ) (p : PlannedStage) (x : Stage) → slice_get plan i ≡ Some p → slice_get xs i ≡ Some x → slice_get (new_states [] plan xs) i ≡ Some (Linked k) → slice_get xs i ≡ Some (Linked k)
new_linked_at plan xs i k p x at here e =
    let below = take i (new_states [] plan xs) in
    let is = heads (next_of below p.form p.sources x) (Linked k) (sym (new_states-at [] plan xs i p x at here) ∙ e) in
    here ∙ ap (λ (y : Stage). Some y) (next_linked below p.form p.sources x k is)

new_linked : (plan : List PlannedStage) (xs : List Stage) (i k : ℕ) → length xs ≡ length plan → slice_get (new_states [] plan xs) i ≡ Some (Linked k) → slice_get xs i ≡ Some (Linked k)
new_linked plan xs i k size e =
    let len = length-new_states [] plan xs in
    let there = get_there (new_states [] plan xs) i (Linked k) e in
    let x = get_some xs i (omega (arith, there, len)) in
    let p = get_some plan i (omega (arith, there, len, size)) in
    new_linked_at plan xs i k p.0 x.0 p.1 x.1 e

-- one more stage that is reached is settled
pub reaches_more : (follows : List Join) (scope : ℕ) (old now next : State) (d : ℕ) (o : Outcome) → Reaches follows scope old now → length now.stages ≡ length now.plan.stages → new_states [] now.plan.stages now.stages ≡ now.stages → outcome_in now.stages d ≡ None →
    IsReached follows old scope d → next.plan ≡ now.plan → next.stages ≡ new_states [] now.plan.stages (set now.stages d (Settled o)) → Reaches follows scope old next
reaches_more follows scope old now next d o h size closed none from plan is =
    let zs = set now.stages d (Settled o) in
    let len = length-set now.stages d (Settled o) in
    record {
      plan = ap (λ p. p.stages) plan ∙ h.plan;
      links = λ i k e. h.links i k (set_linked now.stages d i k o (new_linked now.plan.stages zs i k (len ∙ size) (ap (λ (l : List Stage). slice_get l i) (sym is) ∙ e)));
      news = λ i no yes. elim (tests (is_settled_in now.stages i)) [
        | inl was ↦ h.news i no was
        | inr still ↦ reached_all (i + 1) follows scope old now d i o h size closed none from (omega arith)
            (record { was = none_is (outcome_in now.stages i) still; is = ap (λ (l : List Stage). is_settled_in l i) (sym is) ∙ yes })
      ];
    }

-- ---- joins

-- fewer have outcomes
pub record IsFewer (f g : ℕ → Option Outcome) (xs : List ℕ) : Type 0 where
  pub values : values_by g xs ≤ values_by f xs
  pub failures : failures_by g xs ≤ failures_by f xs

abbrev one_if : Bool → ℕ
one_if b = cond b 1 0

fewer_one : (f g : ℕ → Option Outcome) (x : ℕ) (xs : List ℕ) → one_if (has_value (g x)) ≤ one_if (has_value (f x)) → one_if (has_failed (g x)) ≤ one_if (has_failed (f x)) → IsFewer f g xs → IsFewer f g (x ∷ xs)
fewer_one f g x xs v w h =
    let a = count_cons (λ i. has_value (f i)) x xs in
    let b = count_cons (λ i. has_value (g i)) x xs in
    let c = count_cons (λ i. has_failed (f i)) x xs in
    let d = count_cons (λ i. has_failed (g i)) x xs in
    let m = h.values in
    let n = h.failures in
    record { values = omega (arith, a, b, v, m); failures = omega (arith, c, d, w, n) }

fewer_same : (f g : ℕ → Option Outcome) (x : ℕ) (xs : List ℕ) → g x ≡ f x → IsFewer f g xs → IsFewer f g (x ∷ xs)
fewer_same f g x xs same h =
    let v = ap (λ (y : Option Outcome). one_if (has_value y)) same in
    let w = ap (λ (y : Option Outcome). one_if (has_failed y)) same in
    fewer_one f g x xs (omega (arith, v)) (omega (arith, w)) h

fewer_none : (f g : ℕ → Option Outcome) (x : ℕ) (xs : List ℕ) → g x ≡ None → IsFewer f g xs → IsFewer f g (x ∷ xs)
fewer_none f g x xs none h =
    let v = ap (λ (y : Option Outcome). one_if (has_value y)) none in
    let w = ap (λ (y : Option Outcome). one_if (has_failed y)) none in
    fewer_one f g x xs (omega (arith, v)) (omega (arith, w)) h

-- where some of the outcomes are told, that aren't all new
pub fewer_or : (f h g : ℕ → Option Outcome) (xs : List ℕ) → ((i : ℕ) (o : Outcome) → f i ≡ Some o → h i ≡ Some o) → ((i : ℕ) → (g i ≡ h i) ⊎ (g i ≡ None)) → IsFewer f g xs ⊎ IsNew f h xs
fewer_or f h g [] stays part = inl (record { values = omega arith; failures = omega arith })
fewer_or f h g (x ∷ xs) stays part = elim (fewer_or f h g xs stays part) [
  | inr new ↦ inr (new_tail f h x xs new)
  | inl rest ↦ elim (part x) [
    | inr none ↦ inl (fewer_none f g x xs none rest)
    | inl same ↦ elim (one_or (f x) (h x) (stays x)) [
      | inl was ↦ inl (fewer_same f g x xs (same ∙ was) rest)
      | inr new ↦ inr (record { stage = x; among = contains_head x xs; was = new.0; is = new.1 })
    ]
  ]
]

pub undecided_fewer : (f g : ℕ → Option Outcome) (j : Join) → IsFewer f g (sources_of j) → IsUndecided f j → IsUndecided g j
undecided_fewer f g j h u =
    let a = h.values in
    let b = h.failures in
    let c = u.values in
    let d = u.failures in
    record { values = omega (arith, a, c); failures = omega (arith, b, d) }
