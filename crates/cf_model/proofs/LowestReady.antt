-- The lowest ready stage is ready, and where there is none no stage is.
use Rattle.std.proofs.Common.{◌≡◌, ℕ, ◌<◌, Bool, true, false, cond, Some, None, length, arith, ap, sym, ◌∙◌, refl, subst, get_or, inl, inr}
use Rattle.std.specs.Prelude.{nat_lt, not, unwrap_or}
use Rattle.std.specs.List.{position_or_len}
use Rattle.std.proofs.lemmas.Bool.{cases_lt, lt-ltb}
use Rattle.std.proofs.lemmas.List.Sums.{prefix_len_passes, prefix_len_stops, prefix_len-le-length}
use Rattle.std.proofs.lemmas.Option.{slice_get-get_or, slice_get_past}
use borrow.Author.Tests.{ltb-true}
use Rattle.cf_model.specs.declared.stage.Stage.TheVariants.{Pending}
use Rattle.cf_model.specs.States.{State, stage_at, is_ready, lowest_ready_of}

not-false : (b : Bool) → not b ≡ false → b ≡ true
not-false true e = refl
not-false false e = cc

not-true : (b : Bool) → not b ≡ true → b ≡ false
not-true true e = cc
not-true false e = refl

found : (i len n : ℕ) (b : Bool) → nat_lt n len ≡ b → cond b (Some n) None ≡ Some i → (n ≡ i) × (n < len)
found i len n true t e = (cc, ltb-true n len t)
found i len n false t e = let no : ⊥ = cc in absurd no

not_found : (len n : ℕ) (b : Bool) → nat_lt n len ≡ b → cond b (Some n) None ≡ None → n < len → ⊥
not_found len n true t e l = cc
not_found len n false t e l = let yes = lt-ltb n len l in cc

-- the stage at a place of the list
stage_at-within : (s : State) (i : ℕ) → i < length s.stages → stage_at s i ≡ get_or s.stages i Pending
stage_at-within s i l = ap (λ x. unwrap_or x Pending) (slice_get-get_or s.stages i Pending l)

pub lowest_ready-within : (s : State) (i : ℕ) → lowest_ready_of s ≡ Some i → i < length s.stages
lowest_ready-within s i e =
    let n = position_or_len is_ready s.stages in
    let h = found i (length s.stages) n (nat_lt n (length s.stages)) refl e in
    subst (λ k. k < length s.stages) h.0 h.1

pub lowest_ready-is_ready : (s : State) (i : ℕ) → lowest_ready_of s ≡ Some i → is_ready (stage_at s i) ≡ true
lowest_ready-is_ready s i e =
    let n = position_or_len is_ready s.stages in
    let h = found i (length s.stages) n (nat_lt n (length s.stages)) refl e in
    let there = not-false (is_ready (get_or s.stages n Pending)) (prefix_len_stops (λ x. not (is_ready x)) s.stages Pending h.1) in
    ap is_ready (stage_at-within s i (lowest_ready-within s i e)) ∙ ap (λ k. is_ready (get_or s.stages k Pending)) (sym h.0) ∙ there

pub lowest_ready-none : (s : State) → lowest_ready_of s ≡ None → (i : ℕ) → is_ready (stage_at s i) ≡ false
lowest_ready-none s e i =
    let n = position_or_len is_ready s.stages in
    let none = not_found (length s.stages) n (nat_lt n (length s.stages)) refl e in
    let few = prefix_len-le-length (λ x. not (is_ready x)) s.stages in
    elim (cases_lt i (length s.stages)) [
      | inl l ↦ (let all : i < n = elim (cases_lt i n) [ inl h ↦ h | inr h ↦ absurd (none (omega arith)) ] in
          ap is_ready (stage_at-within s i l)
          ∙ not-true (is_ready (get_or s.stages i Pending)) (prefix_len_passes (λ x. not (is_ready x)) s.stages i Pending all))
      | inr l ↦ ap (λ x. is_ready (unwrap_or x Pending)) (slice_get_past s.stages i l)
    ]
