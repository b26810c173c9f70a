-- What is known of each stage while events come, and how the settling of a stage keeps it.
use Rattle.std.proofs.Common.{◌≡◌, ◌≢◌, ℕ, ◌<◌, ◌∷◌, [], List, true, Option, Some, None, All, length, suc, zero, arith, ap, sym, ◌∙◌, refl, map}
use Rattle.std.specs.Prelude.{slice_get, option_and_then}
use Rattle.std.specs.Option.{option_map}
use Rattle.std.proofs.lemmas.List.{length-map}
use Rattle.cf_outcome.specs.declared.outcome.Outcome.{Outcome}
use Rattle.cf_outcome.specs.Outcomes.{wrap}
use Rattle.cf_forms.specs.declared.forms.Args.{Args}
use Rattle.cf_forms.specs.declared.forms.Due.{Due}
use Rattle.cf_forms.specs.declared.forms.Due.TheVariants.{Waits, Settles, Needs}
use Rattle.cf_forms.specs.Forms.{follows}
use Rattle.cf_forms.specs.Plans.{PlannedStage, HasLowerSources, fits_count}
use Rattle.cf_forms.proofs.PlanLemmas.{lower_at}
use Rattle.cf_model.specs.declared.stage.Stage.{Stage}
use Rattle.cf_model.specs.declared.stage.Stage.TheVariants.{Pending, Ready, Claimed, Linked, Settled}
use Rattle.cf_model.specs.States.{outcome_of, outcome_in, due_state, linked_state, next_of, new_states}
use Rattle.cf_expr.proofs.Stagewise.{new_states_by_stage}
use Rattle.cf_forms.specs.Meanings.{Meanings}
use Rattle.cf_expr.specs.Expressions.{stage_expr, due_expr}
use Rattle.cf_expr.specs.Histories.{is_plain_form}
use Rattle.cf_expr.proofs.Forms.{all_there, sources_same, no_source}

-- what stands throughout: the plan, and what each stage's expression is by those of the others
pub record IsSet (meanings : Meanings) (named exprs : ℕ → Option Outcome) (plan : List PlannedStage) : Type 0 where
  pub lower : HasLowerSources 0 plan
  pub counted : (i : ℕ) (p : PlannedStage) → slice_get plan i ≡ Some p → fits_count p.form (length p.sources) ≡ true
  pub plain : (i : ℕ) (p : PlannedStage) → slice_get plan i ≡ Some p → is_plain_form p.form ≡ true
  pub by_stage : (i : ℕ) (p : PlannedStage) → slice_get plan i ≡ Some p → exprs i ≡ stage_expr meanings named exprs i p

-- what a stage in this state owes: `outs` are the outcomes that the stages have, `granted` what its claim was granted to each caller, `claim` who has it open
abbrev pub Owes : (exprs outs : ℕ → Option Outcome) → (ℕ → Option Args) → Option ℕ → ℕ → PlannedStage → Stage → Type 0
Owes exprs outs granted claim i p Pending = claim ≡ None
Owes exprs outs granted claim i p (Ready args) = (claim ≡ None) × (follows p.form (map outs p.sources) ≡ Needs args)
Owes exprs outs granted claim i p Claimed = (args : Args) × ((w : ℕ) → claim ≡ Some w → granted w ≡ Some args) × (follows p.form (map outs p.sources) ≡ Needs args)
Owes exprs outs granted claim i p (Linked j) = (claim ≡ None) × (j < i) × (exprs i ≡ option_map wrap (exprs j))
Owes exprs outs granted claim i p (Settled o) = exprs i ≡ Some o

-- a stage that waits has nothing to take
abbrev pub Waiting : (ℕ → Option Outcome) → PlannedStage → Stage → Type 0
Waiting outs p Pending = follows p.form (map outs p.sources) ≡ Waits
Waiting outs p (Linked j) = outs j ≡ None
Waiting outs p stage = Unit {0}

-- a stage that is there and owes nothing
pub record Fair (exprs outs : ℕ → Option Outcome) (granted : ℕ → Option Args) (claim : Option ℕ) (stages : List Stage) (i : ℕ) (p : PlannedStage) : Type 0 where
  pub stage : Stage
  pub there : slice_get stages i ≡ Some stage
  pub owes : Owes exprs outs granted claim i p stage

pub record Sound (exprs : ℕ → Option Outcome) (granted : ℕ → Option Args) (claim : Option ℕ) (stages : List Stage) (i : ℕ) (p : PlannedStage) : Type 0 where
  pub stage : Stage
  pub there : slice_get stages i ≡ Some stage
  pub owes : Owes exprs (outcome_in stages) granted claim i p stage
  pub waits : Waiting (outcome_in stages) p stage

-- a settled stage has the outcome of its expression
settled_owes : (exprs outs : ℕ → Option Outcome) (granted : ℕ → Option Args) (claim : Option ℕ) (i : ℕ) (p : PlannedStage) (x : Stage) (o : Outcome) →
    Owes exprs outs granted claim i p x → outcome_of x ≡ Some o → exprs i ≡ Some o
settled_owes exprs outs granted claim i p Pending o h e = cc
settled_owes exprs outs granted claim i p (Ready args) o h e = cc
settled_owes exprs outs granted claim i p Claimed o h e = cc
settled_owes exprs outs granted claim i p (Linked j) o h e = cc
settled_owes exprs outs granted claim i p (Settled q) o h e = h ∙ e

pub sound_settled : (exprs : ℕ → Option Outcome) (granted : ℕ → Option Args) (claim : Option ℕ) (stages : List Stage) (i : ℕ) (p : PlannedStage) (o : Outcome) →
    Sound exprs granted claim stages i p → outcome_in stages i ≡ Some o → exprs i ≡ Some o
sound_settled exprs granted claim stages i p o s e =
    settled_owes exprs (outcome_in stages) granted claim i p s.stage o s.owes (ap (option_and_then outcome_of) (sym s.there) ∙ e)

-- a stage below one of the plan is one too
pub below_there : (plan : List PlannedStage) (i j : ℕ) (p : PlannedStage) → slice_get plan i ≡ Some p → j < i → (q : PlannedStage) × (slice_get plan j ≡ Some q)
below_there [] i j p e l = cc
below_there (x ∷ plan) zero j p e l = absurd (omega arith)
below_there (x ∷ plan) (suc i) zero p e l = (x, refl)
below_there (x ∷ plan) (suc i) (suc j) p e l = below_there plan i j p e (omega arith)

module _ (meanings : Meanings) (named exprs : ℕ → Option Outcome) (plan : List PlannedStage) (known : IsSet meanings named exprs plan) where
  pub sources_lower : (i : ℕ) (p : PlannedStage) → slice_get plan i ≡ Some p → All (λ j. j < i) p.sources
  sources_lower i p e = let h = lower_at 0 plan i p known.lower e in λ k d l. let b = h k d l in omega arith

  -- what follows of some outcomes follows of more
  pub more_same : (f g : ℕ → Option Outcome) (i : ℕ) (p : PlannedStage) → slice_get plan i ≡ Some p → follows p.form (map f p.sources) ≢ Waits →
      ((j : ℕ) (o : Outcome) → j < i → f j ≡ Some o → g j ≡ Some o) → map g p.sources ≡ map f p.sources
  more_same f g i p e decided more =
      let count : fits_count p.form (length (map f p.sources)) ≡ true = simp length-map (known.counted i p e) in
      sources_same f g i p.sources (sources_lower i p e) (all_there p.form (map f p.sources) (known.plain i p e) count decided) more

  -- the expression of a stage by what is due of the outcomes that its sources have
  pub expr_due : (outs : ℕ → Option Outcome) (i : ℕ) (p : PlannedStage) (due : Due) → slice_get plan i ≡ Some p → follows p.form (map outs p.sources) ≡ due → due ≢ Waits →
      ((j : ℕ) (o : Outcome) → j < i → outs j ≡ Some o → exprs j ≡ Some o) → exprs i ≡ due_expr meanings exprs i p due
  expr_due outs i p due e is decided right =
      let ne : follows p.form (map outs p.sources) ≢ Waits = λ w. decided (sym is ∙ w) in
      let same = more_same outs exprs i p e ne right in
      let unsourced = no_source p.form (map outs p.sources) ne in
      known.by_stage i p e ∙ rw (unsourced, same, is) refl

  -- what was owed is still owed once more stages are settled
  owes_more : (old new : ℕ → Option Outcome) (granted : ℕ → Option Args) (claim : Option ℕ) (i : ℕ) (p : PlannedStage) (args : Args) → slice_get plan i ≡ Some p →
      ((j : ℕ) (o : Outcome) → old j ≡ Some o → new j ≡ Some o) → follows p.form (map old p.sources) ≡ Needs args → follows p.form (map new p.sources) ≡ Needs args
  owes_more old new granted claim i p args e more is =
      let ne : follows p.form (map old p.sources) ≢ Waits = λ w. cc in
      ap (follows p.form) (more_same old new i p e ne (λ j o l h. more j o h)) ∙ is

  module _ (old : ℕ → Option Outcome) (granted : ℕ → ℕ → Option Args) (claims : ℕ → Option ℕ) (stages : List Stage)
      (fair : (i : ℕ) (p : PlannedStage) → slice_get plan i ≡ Some p → Fair exprs old (λ w. granted w i) (claims i) stages i p)
      (more : (j : ℕ) (o : Outcome) → old j ≡ Some o → outcome_in (new_states [] plan stages) j ≡ Some o) where
    pending_sound : (i : ℕ) (p : PlannedStage) (due : Due) → slice_get plan i ≡ Some p → claims i ≡ None →
        ((j : ℕ) (o : Outcome) → j < i → outcome_in (new_states [] plan stages) j ≡ Some o → exprs j ≡ Some o) →
        slice_get (new_states [] plan stages) i ≡ Some (due_state due) → follows p.form (map (outcome_in (new_states [] plan stages)) p.sources) ≡ due →
        Sound exprs (λ w. granted w i) (claims i) (new_states [] plan stages) i p
    pending_sound i p Waits e free right is follow = record { stage = Pending; there = is; owes = free; waits = follow }
    pending_sound i p (Settles o) e free right is follow =
        record { stage = Settled o; there = is; owes = expr_due (outcome_in (new_states [] plan stages)) i p (Settles o) e follow (λ w. cc) right; waits = tt }
    pending_sound i p (Needs args) e free right is follow = record { stage = Ready args; there = is; owes = (free, follow); waits = tt }

    linked_sound : (i j : ℕ) (p : PlannedStage) (x : Option Outcome) → claims i ≡ None → j < i → exprs i ≡ option_map wrap (exprs j) →
        ((k : ℕ) (o : Outcome) → k < i → outcome_in (new_states [] plan stages) k ≡ Some o → exprs k ≡ Some o) →
        slice_get (new_states [] plan stages) i ≡ Some (linked_state j x) → outcome_in (new_states [] plan stages) j ≡ x →
        Sound exprs (λ w. granted w i) (claims i) (new_states [] plan stages) i p
    linked_sound i j p None free l h right is out = record { stage = Linked j; there = is; owes = (free, l, h); waits = out }
    linked_sound i j p (Some o) free l h right is out =
        record { stage = Settled (wrap o); there = is; owes = h ∙ ap (option_map wrap) (right j o l out); waits = tt }

    stage_sound : (i : ℕ) (p : PlannedStage) (x : Stage) → slice_get plan i ≡ Some p → Owes exprs old (λ w. granted w i) (claims i) i p x →
        ((j : ℕ) (o : Outcome) → j < i → outcome_in (new_states [] plan stages) j ≡ Some o → exprs j ≡ Some o) →
        slice_get (new_states [] plan stages) i ≡ Some (next_of (new_states [] plan stages) p.form p.sources x) →
        Sound exprs (λ w. granted w i) (claims i) (new_states [] plan stages) i p
    stage_sound i p Pending e h right is =
        pending_sound i p (follows p.form (map (outcome_in (new_states [] plan stages)) p.sources)) e h right is refl
    stage_sound i p (Ready args) e h right is =
        record { stage = Ready args; there = is; owes = (h.0, owes_more old (outcome_in (new_states [] plan stages)) (λ w. granted w i) (claims i) i p args e more h.1); waits = tt }
    stage_sound i p Claimed e h right is =
        record { stage = Claimed; there = is; owes = (h.0, h.1, owes_more old (outcome_in (new_states [] plan stages)) (λ w. granted w i) (claims i) i p h.0 e more h.2); waits = tt }
    stage_sound i p (Linked j) e h right is = linked_sound i j p (outcome_in (new_states [] plan stages) j) h.0 h.1 h.2 right is refl
    stage_sound i p (Settled o) e h right is = record { stage = Settled o; there = is; owes = h; waits = tt }

    -- a stage is linked to a lower one
    linked_lower : (i : ℕ) (p : PlannedStage) (x : Stage) → Owes exprs old (λ w. granted w i) (claims i) i p x → (j : ℕ) → x ≡ Linked j → j < i
    linked_lower i p Pending h j e = cc
    linked_lower i p (Ready args) h j e = cc
    linked_lower i p Claimed h j e = cc
    linked_lower i p (Linked k) h j e = let same : k ≡ j = cc in omega (arith, h.1)
    linked_lower i p (Settled o) h j e = cc

    sound_below : (n i : ℕ) (p : PlannedStage) → i < n → slice_get plan i ≡ Some p → Sound exprs (λ w. granted w i) (claims i) (new_states [] plan stages) i p
    sound_below zero i p l e = absurd (omega arith)
    sound_below (suc n) i p l e =
        let f = fair i p e in
        stage_sound i p f.stage e f.owes
        (λ j o m out. let q = below_there plan i j p e m in sound_settled exprs (λ w. granted w j) (claims j) (new_states [] plan stages) j q.0 o (sound_below n j q.0 (omega arith) q.1) out)
        (new_states_by_stage plan stages i p f.stage known.lower e f.there (linked_lower i p f.stage f.owes))

    -- once all stages have taken what their sources give, each is sound
    pub all_sound : (i : ℕ) (p : PlannedStage) → slice_get plan i ≡ Some p → Sound exprs (λ w. granted w i) (claims i) (new_states [] plan stages) i p
    all_sound i p e = sound_below (suc i) i p (omega arith) e
