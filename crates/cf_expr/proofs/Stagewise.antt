-- The new states, stage by stage.
use Rattle.std.proofs.Common.{◌≡◌, ℕ, ◌<◌, ◌∷◌, [], List, All, Some, arith, ap, ◌∙◌, refl, take, map}
use Rattle.std.proofs.lemmas.List.Elements.{All-head, All-tail}
use Rattle.cf_forms.specs.declared.forms.Form.{Form}
use Rattle.cf_forms.proofs.PlanLemmas.{lower_at}
use Rattle.cf_model.specs.declared.stage.Stage.{Stage}
use Rattle.cf_model.specs.declared.stage.Stage.TheVariants.{Pending, Ready, Claimed, Linked, Settled}
use Rattle.cf_model.specs.States.{outcome_in, due_state, linked_state, next_of, new_states}
use Rattle.cf_forms.specs.Forms.{follows}
use Rattle.cf_model.proofs.StateLemmas.{new_states-at, outcome_in-take}
use Rattle.cf_expr.specs.Stagewise.{NewStatesByStage}

map-take : (xs : List Stage) (i : ℕ) (sources : List ℕ) → All (λ j. j < i) sources → map (outcome_in (take i xs)) sources ≡ map (outcome_in xs) sources
map-take xs i [] h = refl
map-take xs i (j ∷ sources) h =
    let here = outcome_in-take xs i j (All-head (λ k. k < i) j sources h) in
    let rest = map-take xs i sources (All-tail (λ k. k < i) j sources h) in cc

next_of-take : (xs : List Stage) (i : ℕ) (form : Form) (sources : List ℕ) (s : Stage) → All (λ j. j < i) sources → ((j : ℕ) → s ≡ Linked j → j < i) →
    next_of (take i xs) form sources s ≡ next_of xs form sources s
next_of-take xs i form sources Pending h l = ap (λ q. due_state (follows form q)) (map-take xs i sources h)
next_of-take xs i form sources (Linked j) h l = ap (linked_state j) (outcome_in-take xs i j (l j refl))
next_of-take xs i form sources (Ready args) h l = refl
next_of-take xs i form sources Claimed h l = refl
next_of-take xs i form sources (Settled o) h l = refl

pub new_states_by_stage : NewStatesByStage
new_states_by_stage plan stages i p s lower ep es linked =
    let h = lower_at 0 plan i p lower ep in
    new_states-at [] plan stages i p s ep es
    ∙ ap (λ x. Some x) (next_of-take (new_states [] plan stages) i p.form p.sources s (λ k d l. let b = h k d l in omega arith) linked)
