-- Flags that are taken down from the lowest on, and the numbers that are written.
use Rattle.std.proofs.Common.{◌≡◌, ◌≢◌, ℕ, zero, suc, ◌<◌, ◌≤◌, Bool, true, false, Option, Some, None, List, [], ◌∷◌, ◌++◌, All, Contains, length, set, refl, ap, sym, ◌∙◌, arith, subst, inl, inr, ◌⊎◌, append-nil, append_assoc}
use Rattle.std.specs.Prelude.{slice_get, position}
use Rattle.std.proofs.lemmas.Bool.Decides.{eqb_tells}
use Rattle.std.proofs.lemmas.Bool.{cases_lt}
use Rattle.std.proofs.lemmas.List.Elements.{All-head, All-nil, All-push, All-tail, Contains-push, Contains-append_left}
use Rattle.std.proofs.lemmas.Option.{slice_get_within}
use Rattle.cf_model.specs.declared.stage.Stage.{Stage}
use Rattle.cf_model.specs.declared.stage.Stage.TheVariants.{Pending}
use Rattle.cf_model.specs.Graphs.{AreChanges, AreNews, IsClimbing, WritesNews, stage_in}
use Rattle.cf_model.proofs.StateLemmas.{slice_get-set_other}
use Rattle.cf_core.proofs.Keeping.Lowest.{none_marked}
use Rattle.cf_core.proofs.Keeping.Marking.{get-set_same}
use Rattle.cf_core.proofs.Keeping.Places.{lowest_below, lowest_marked, lowest_within}
use Rattle.cf_core.proofs.Keeping.Soundness.{All-more}
use Rattle.cf_core.specs.Keeping.Changes.{AreFlagged, Drains}

pub past_flags : (flags : List Bool) (i : ℕ) → slice_get flags i ≡ None → length flags ≤ i
past_flags [] i e = omega arith
past_flags (x ∷ flags) zero e = cc
past_flags (x ∷ flags) (suc i) e = let h = past_flags flags i e in omega (arith, h)

-- behind all stages one is pending
pub none_there : (stages : List Stage) (i : ℕ) → length stages ≤ i → stage_in stages i ≡ Pending
none_there [] i l = refl
none_there (x ∷ stages) zero l = absurd (omega (arith, l))
none_there (x ∷ stages) (suc i) l = none_there stages i (omega (arith, l))

above : (flags : List Bool) (m : ℕ) → position (λ b. b) flags ≡ Some m → (i : ℕ) → i ≢ m → slice_get flags i ≡ Some true → m < i
above flags m lowest i ne is = elim (cases_lt m i) [
  | inl l ↦ l
  | inr l ↦ (let no = lowest_below flags m lowest i (omega (arith, l, ne)) in let wrong : Some true ≡ Some false = sym is ∙ no in cc)
]

-- how far flags were taken down: what is written, and what is still set
pub record Taken (flags now : List Bool) (old all : List ℕ) : Type 0 where
  pub xs : List ℕ
  pub written : all ≡ old ++ xs
  pub rising : IsClimbing xs
  pub set : All (λ i. slice_get flags i ≡ Some true) xs
  pub below : All (λ x. (i : ℕ) → slice_get now i ≡ Some true → x < i) xs
  pub all_set : (i : ℕ) → slice_get flags i ≡ Some true → Contains xs i ⊎ (slice_get now i ≡ Some true)
  pub only : (i : ℕ) → slice_get now i ≡ Some true → slice_get flags i ≡ Some true

pub climbing_push : (xs : List ℕ) (m : ℕ) → IsClimbing xs → All (λ x. x < m) xs → IsClimbing (xs ++ m ∷ [])
climbing_push [] m h below = (All-nil (λ later. m < later), tt)
climbing_push (x ∷ xs) m h below = (All-push (λ later. x < later) xs m h.0 (All-head (λ y. y < m) x xs below), climbing_push xs m h.1 (All-tail (λ y. y < m) x xs below))

pub taken_none : (flags : List Bool) (old : List ℕ) → Taken flags flags old old
taken_none flags old = record {
  xs = [];
  written = sym (append-nil old);
  rising = tt;
  set = All-nil (λ i. slice_get flags i ≡ Some true);
  below = All-nil (λ x. (i : ℕ) → slice_get flags i ≡ Some true → x < i);
  all_set = λ i e. inr e;
  only = λ i e. e;
}

-- the lowest that is still set is taken down, and written
pub taken_more : (flags now : List Bool) (old all : List ℕ) (m : ℕ) → position (λ b. b) now ≡ Some m → Taken flags now old all → Taken flags (set now m false) old (all ++ m ∷ [])
taken_more flags now old all m lowest h =
    let here = lowest_marked now m lowest in
    let within = lowest_within now m lowest in
    let left : (i : ℕ) → slice_get (set now m false) i ≡ Some true → (i ≢ m) × (slice_get now i ≡ Some true) = λ i e. elim (eqb_tells i m) [
      | inl s ↦ (let same = s.1 in let is : Some false ≡ Some true = sym (get-set_same now m false within) ∙ ap (slice_get (set now m false)) (sym same) ∙ e in cc)
      | inr s ↦ (s.1, sym (slice_get-set_other now m i false s.1) ∙ e)
    ] in
    record {
      xs = h.xs ++ m ∷ [];
      written = ap (λ ys. ys ++ m ∷ []) h.written ∙ append_assoc old h.xs (m ∷ []);
      rising = climbing_push h.xs m h.rising (All-more (λ x. (i : ℕ) → slice_get now i ≡ Some true → x < i) (λ x. x < m) h.xs (λ x less. less m here) h.below);
      set = All-push (λ i. slice_get flags i ≡ Some true) h.xs m h.set (h.only m here);
      below = All-push (λ x. (i : ℕ) → slice_get (set now m false) i ≡ Some true → x < i) h.xs m
          (All-more (λ x. (i : ℕ) → slice_get now i ≡ Some true → x < i) (λ x. (i : ℕ) → slice_get (set now m false) i ≡ Some true → x < i) h.xs (λ x less i e. less i (left i e).1) h.below)
          (λ i e. above now m lowest i (left i e).0 (left i e).1);
      all_set = λ i e. elim (h.all_set i e) [
        | inl there ↦ inl (Contains-append_left h.xs (m ∷ []) i there)
        | inr is ↦ elim (eqb_tells i m) [
          | inl s ↦ inl (subst (Contains (h.xs ++ m ∷ [])) (sym s.1) (Contains-push h.xs m))
          | inr s ↦ inr (slice_get-set_other now m i false s.1 ∙ is)
        ]
      ];
      only = λ i e. h.only i (left i e).1;
    }

-- at the end none is set, and all are written
pub taken_all : (flags now : List Bool) (old all : List ℕ) → position (λ b. b) now ≡ None → Taken flags now old all → Drains flags old all
taken_all flags now old all none h = record {
  xs = h.xs;
  written = h.written;
  flagged = record {
    rising = h.rising;
    set = h.set;
    all = λ i e. elim (h.all_set i e) [
      | inl there ↦ there
      | inr is ↦ (let no = none_marked now (length now) none (omega arith) i (slice_get_within now i true is) in let wrong : Some true ≡ Some false = sym is ∙ no in cc)
    ];
  };
}

-- ---- flags of stages that differ

pub flagged_news : (old new : List Stage) (flags : List Bool) (xs : List ℕ) → length old ≤ length flags → length new ≤ length flags → AreChanges old new flags → AreFlagged flags xs → AreNews old new xs
flagged_news old new flags xs few_old few_new h f = record {
  rising = f.rising;
  differ = All-more (λ i. slice_get flags i ≡ Some true) (λ i. stage_in new i ≢ stage_in old i) xs (λ i e. h.differs i e) f.set;
  all = λ i other. by_flag i other (slice_get flags i) refl;
}
  where
    by_flag : (i : ℕ) → stage_in new i ≢ stage_in old i → (x : Option Bool) → slice_get flags i ≡ x → Contains xs i
    by_flag i other None e = absurd (other (let l = past_flags flags i e in none_there new i (omega (arith, l, few_new)) ∙ sym (none_there old i (omega (arith, l, few_old)))))
    by_flag i other (Some false) e = absurd (other (h.same i e))
    by_flag i other (Some true) e = f.all i e

pub drained_news : (old new : List Stage) (flags : List Bool) (row row' : List ℕ) → length old ≤ length flags → length new ≤ length flags → AreChanges old new flags → Drains flags row row' → WritesNews old new row row'
drained_news old new flags row row' few_old few_new h d = record {
  xs = d.xs;
  written = d.written;
  news = flagged_news old new flags d.xs few_old few_new h d.flagged;
}
