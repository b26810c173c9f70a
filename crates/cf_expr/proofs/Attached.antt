-- Plans that grow: what is known of each stage stays known as one is attached.
use Rattle.std.proofs.Common.{◌≡◌, ℕ, ◌+◌, ◌∷◌, ◌++◌, [], List, Option, None, Some, length, suc, zero, arith, ap, sym, ◌∙◌, subst, inl, inr}
use Rattle.std.specs.Prelude.{slice_get, unwrap_or}
use Rattle.std.proofs.lemmas.Option.{slice_get_within}
use Rattle.cf_outcome.specs.declared.outcome.Outcome.{Outcome}
use Rattle.cf_forms.specs.Meanings.{Meanings}
use Rattle.cf_forms.specs.Plans.{PlannedStage, HasLowerSources}
use Rattle.cf_forms.proofs.ListLemmas.{slice_get-front, slice_get-longer, slice_get-push, slice_get-seam}
use Rattle.cf_model.specs.declared.stage.Stage.TheVariants.{Pending}
use Rattle.cf_model.specs.declared.events.Event.{Event}
use Rattle.cf_model.specs.States.{State, outcome_at}
use Rattle.cf_model.specs.Events.{attached_by, state_after}
use Rattle.cf_model.proofs.Moves.{new_states-settled, push-settled}
use Rattle.cf_model.proofs.Shape.{state_after-grows}
use Rattle.cf_expr.specs.Histories.{Grants}
use Rattle.cf_expr.proofs.Settles.{IsSet, Owes, all_sound}
use Rattle.cf_expr.proofs.Writes.{Stands}

-- ---- the front of a list

lower_front : (k : ℕ) (xs ys : List PlannedStage) → HasLowerSources k (xs ++ ys) → HasLowerSources k xs
lower_front k [] ys h = tt
lower_front k (x ∷ xs) ys h = (h.0, lower_front (k + 1) xs ys h.1)

set_front : (meanings : Meanings) (named exprs : ℕ → Option Outcome) (xs ys : List PlannedStage) → IsSet meanings named exprs (xs ++ ys) → IsSet meanings named exprs xs
set_front meanings named exprs xs ys h = record {
  lower = lower_front 0 xs ys h.lower;
  counted = λ i p e. h.counted i p (slice_get-longer xs ys i p e);
  plain = λ i p e. h.plain i p (slice_get-longer xs ys i p e);
  by_stage = λ i p e. h.by_stage i p (slice_get-longer xs ys i p e);
}

-- a stage of the plan so far is one of the last plan
pub in_last : (s : State) (events : List Event) (last : List PlannedStage) (i : ℕ) (p : PlannedStage) → (state_after s events).plan.stages ≡ last → slice_get s.plan.stages i ≡ Some p → slice_get last i ≡ Some p
in_last s events last i p is e =
    let g = state_after-grows s events in
    ap (λ xs. slice_get xs i) (sym is ∙ g.stages) ∙ slice_get-longer s.plan.stages g.more i p e

module _ (meanings : Meanings) (named exprs : ℕ → Option Outcome) where
  -- the plan so far is set where the last one is
  pub set_so_far : (s : State) (events : List Event) (last : List PlannedStage) → (state_after s events).plan.stages ≡ last → IsSet meanings named exprs last → IsSet meanings named exprs s.plan.stages
  set_so_far s events last is known =
      let g = state_after-grows s events in
      set_front meanings named exprs s.plan.stages g.more (subst (IsSet meanings named exprs) (sym is ∙ g.stages) known)

  -- ---- a stage is attached
  pub attached_stands : (granted : Grants) (x : ℕ) (s : State) (new : PlannedStage) → s.plan.room ≡ x → Stands meanings named exprs granted s →
      length s.stages ≡ length s.plan.stages → length s.claims ≡ length s.plan.stages → IsSet meanings named exprs ((attached_by x s new).1.plan.stages) →
      Stands meanings named exprs granted ((attached_by x s new).1)
  attached_stands granted zero s new e h all claims known = h
  attached_stands granted (suc room) s new e h all claims known = record {
    known = known;
    sound = all_sound meanings named exprs (s.plan.stages ++ new ∷ []) known (outcome_at s) granted (λ i. unwrap_or (slice_get (s.claims ++ None ∷ []) i) None) (s.stages ++ Pending ∷ [])
        (λ i p is. elim (slice_get-push s.plan.stages new i p is) [
          | inl old ↦ (let f = h.sound i p old in
              let l = slice_get_within s.plan.stages i p old in
              record {
                stage = f.stage;
                there = slice_get-front s.stages (Pending ∷ []) i (omega (arith, l, all)) ∙ f.there;
                owes = subst (λ c. Owes exprs (outcome_at s) (λ w. granted w i) c i p f.stage) (ap (λ c. unwrap_or c None) (sym (slice_get-front s.claims (None ∷ []) i (omega (arith, l, claims))))) f.owes;
              })
          | inr last ↦ (let at : i ≡ length s.stages = omega (arith, last.0, all) in
              let at_claims : i ≡ length s.claims = omega (arith, last.0, claims) in
              record {
                stage = Pending;
                there = ap (slice_get (s.stages ++ Pending ∷ [])) at ∙ slice_get-seam s.stages Pending [];
                owes = ap (λ n. unwrap_or (slice_get (s.claims ++ None ∷ []) n) None) at_claims ∙ ap (λ c. unwrap_or c None) (slice_get-seam s.claims None []);
              })
        ])
        (λ j o out. new_states-settled [] (s.plan.stages ++ new ∷ []) (s.stages ++ Pending ∷ []) j o (push-settled s.stages j o out));
  }
