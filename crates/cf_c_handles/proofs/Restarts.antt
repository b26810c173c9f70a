-- Stages that are completed one after another.
use Rattle.std.proofs.Common.{◌≡◌, ℕ, ◌+◌, ◌<◌, ◌≤◌, List, [], ◌∷◌, ◌++◌, Bool, get_or, length, length-append, map, take, refl, ap, sym, ◌∙◌, arith}
use Rattle.std.proofs.lemmas.List.{take_more}
use Rattle.cf_outcome.specs.declared.outcome.Value.{Value}
use Rattle.cf_outcome.specs.declared.outcome.Outcome.TheVariants.{Value as Gives}
use Rattle.cf_forms.specs.Plans.{PlannedStage}
use Rattle.cf_model.specs.declared.events.Event.{Event}
use Rattle.cf_model.specs.Events.{answered, settling, state_after}
use Rattle.cf_model.specs.States.{State}
use Rattle.cf_model.proofs.Histories.{state_after-append}
use Rattle.cf_model.proofs.Shape.{answered-grows}
use Rattle.cf_c_handles.specs.Restarts.{completing}
use Rattle.cf_c_handles.specs.Values.{value_of}
use Rattle.cf_c_handles.specs.declared.values.CfGiven.{CfGiven}

map_push : (xs : List CfGiven) (x : CfGiven) → map completing (xs ++ x ∷ []) ≡ map completing xs ++ completing x ∷ []
map_push [] x = refl
map_push (y ∷ xs) x = ap (λ (es : List Event). completing y ∷ es) (map_push xs x)

-- what a completion leaves
left_by : (was now : State) (flag : Bool) (v : Value) (x : CfGiven) → v ≡ value_of x.value → (flag, now) ≡ settling was x.stage (Gives v) → now ≡ (answered was (completing x)).1
left_by was now flag v x is told = ap (λ (p : Bool × State). p.1) told ∙ ap (λ (w : Value). (settling was x.stage (Gives w)).1) is

pub given_more : (s : State) (xs : List CfGiven) (k : ℕ) (d : CfGiven) (was now : State) (flag : Bool) (v : Value) → k < length xs → was ≡ state_after s (map completing (take k xs)) →
    v ≡ value_of (get_or xs k d).value → (flag, now) ≡ settling was (get_or xs k d).stage (Gives v) → now ≡ state_after s (map completing (take (k + 1) xs))
given_more s xs k d was now flag v l left is told =
    left_by was now flag v (get_or xs k d) is told
    ∙ ap (λ (y : State). (answered y (completing (get_or xs k d))).1) left
    ∙ sym (state_after-append s (map completing (take k xs)) (completing (get_or xs k d) ∷ []))
    ∙ ap (state_after s) (sym (map_push (take k xs) (get_or xs k d)))
    ∙ ap (λ (ys : List CfGiven). state_after s (map completing ys)) (sym (take_more xs k d l))

pub still_there : (n : ℕ) (was now : State) (flag : Bool) (v : Value) (x : CfGiven) → n ≤ length was.plan.stages → v ≡ value_of x.value → (flag, now) ≡ settling was x.stage (Gives v) → n ≤ length now.plan.stages
still_there n was now flag v x few is told =
    let grows = answered-grows was (completing x) in
    let same = ap (λ (y : State). length y.plan.stages) (left_by was now flag v x is told) in
    let more = ap (λ (l : List PlannedStage). length l) grows.stages ∙ length-append was.plan.stages grows.more in
    omega (arith, few, same, more)
