-- What is offered is what is due, and what a form keeps of its function's answer.
use Rattle.std.proofs.Common.{◌≡◌, ◌∙◌, ℕ, List, [], ◌∷◌, Bool, true, false, Option, Some, None, ap, cond, refl, map}
use Rattle.std.specs.Prelude.{nat_lt, ◌&&◌}
use Rattle.cf_outcome.specs.declared.outcome.Outcome.{Outcome}
use Rattle.cf_outcome.specs.declared.outcome.Outcome.TheVariants.{Value as Gives, Fault}
use Rattle.cf_outcome.specs.declared.outcome.Value.{Value}
use Rattle.cf_forms.specs.declared.forms.Form.{Form}
use Rattle.cf_forms.specs.declared.forms.Form.TheVariants as forms
use Rattle.cf_forms.specs.declared.forms.Args.{Args}
use Rattle.cf_forms.specs.declared.forms.Args.TheVariants.{Two}
use Rattle.cf_forms.specs.declared.forms.Answer.{Answer}
use Rattle.cf_forms.specs.declared.forms.Answer.TheVariants.{Give, Throw, Link}
use Rattle.cf_forms.specs.declared.forms.Due.TheVariants.{Needs}
use Rattle.cf_forms.specs.declared.forms.Landing.TheVariants.{Settles as Lands, Links}
use Rattle.cf_forms.specs.Forms.{bad_answer, composes, kept_value, landing}
use Rattle.cf_model.specs.declared.stage.Stage.{Stage}
use Rattle.cf_model.specs.declared.stage.Stage.TheVariants.{Pending, Ready, Claimed, Linked, Settled}
use Rattle.cf_model.specs.States.{is_ready}
use Rattle.cf_core.specs.Keeping.Treatment.{late_due, outcome_part}
use Rattle.cf_core.specs.Keeping.Offers.{args_of, keeps_value, takes_values, two_values}

both_values : (form : Form) (v w : Value) (step last : ℕ) → takes_values form ≡ true → (late_due form (Some (Gives v, step) ∷ Some (Gives w, last) ∷ [])).0 ≡ Needs (Two v w)
both_values forms.Source v w step last t = cc
both_values forms.Supply v w step last t = cc
both_values forms.RunAsync v w step last t = cc
both_values forms.Apply v w step last t = cc
both_values forms.Accept v w step last t = cc
both_values forms.ThenRun v w step last t = cc
both_values forms.Combine v w step last t = refl
both_values forms.AcceptBoth v w step last t = refl
both_values forms.RunBoth v w step last t = cc
both_values forms.ApplyEither v w step last t = cc
both_values forms.AcceptEither v w step last t = cc
both_values forms.RunEither v w step last t = cc
both_values forms.Compose v w step last t = cc
both_values forms.Handle v w step last t = cc
both_values forms.WhenComplete v w step last t = cc
both_values forms.Exceptionally v w step last t = cc
both_values forms.AllOf v w step last t = cc
both_values forms.AnyOf v w step last t = cc
both_values forms.ExceptionallyCompose v w step last t = cc

pub two_due : (form : Form) (q : List (Option (Outcome × ℕ))) (args : Args) → takes_values form ≡ true → two_values (map outcome_part q) ≡ Some args → (late_due form q).0 ≡ Needs args
two_due form [] args t e = cc
two_due form (None ∷ q) args t e = cc
two_due form (Some (Fault cause wrapped, step) ∷ q) args t e = cc
two_due form (Some (Gives v, step) ∷ []) args t e = cc
two_due form (Some (Gives v, step) ∷ None ∷ q) args t e = cc
two_due form (Some (Gives v, step) ∷ Some (Fault cause wrapped, last) ∷ q) args t e = cc
two_due form (Some (Gives v, step) ∷ Some (Gives w, last) ∷ x ∷ q) args t e = cc
two_due form (Some (Gives v, step) ∷ Some (Gives w, last) ∷ []) args t e = let is : Two v w ≡ args = cc in both_values form v w step last t ∙ ap (λ y. Needs y) is

pub kept_lands : (form : Form) (i : ℕ) (source : Option Outcome) (v : Value) → keeps_value form ≡ true → landing form i source (Give v) ≡ Lands (Gives v)
kept_lands forms.Supply i source v e = refl
kept_lands forms.Apply i source v e = refl
kept_lands forms.Combine i source v e = refl
kept_lands forms.ApplyEither i source v e = refl
kept_lands forms.Handle i source v e = refl
kept_lands forms.Exceptionally i source v e = refl
kept_lands forms.Source i source v e = cc
kept_lands forms.RunAsync i source v e = cc
kept_lands forms.Accept i source v e = cc
kept_lands forms.ThenRun i source v e = cc
kept_lands forms.AcceptBoth i source v e = cc
kept_lands forms.RunBoth i source v e = cc
kept_lands forms.AcceptEither i source v e = cc
kept_lands forms.RunEither i source v e = cc
kept_lands forms.Compose i source v e = cc
kept_lands forms.WhenComplete i source v e = cc
kept_lands forms.AllOf i source v e = cc
kept_lands forms.AnyOf i source v e = cc
kept_lands forms.ExceptionallyCompose i source v e = cc

-- a form that links is one that composes
link_composes : (b c : Bool) (j k : ℕ) → cond (b && c) (Links j) bad_answer ≡ Links k → b ≡ true
link_composes true c j k e = refl
link_composes false c j k e = cc

value_composes : (b : Bool) (o : Outcome) (k : ℕ) → cond b bad_answer (Lands o) ≡ Links k → b ≡ true
value_composes true o k e = refl
value_composes false o k e = cc

pub landing-composes : (form : Form) (i : ℕ) (source : Option Outcome) (answer : Answer) (k : ℕ) → landing form i source answer ≡ Links k → composes form ≡ true
landing-composes forms.WhenComplete i (Some (Fault cause wrapped)) answer k e = cc
landing-composes forms.WhenComplete i (Some (Gives v)) (Throw code) k e = cc
landing-composes forms.WhenComplete i (Some (Gives v)) (Link j) k e = cc
landing-composes forms.WhenComplete i (Some (Gives v)) (Give w) k e = cc
landing-composes form i source (Throw code) k e = cc
landing-composes form i source (Link j) k e = link_composes (composes form) (nat_lt j i) j k e
landing-composes form i source (Give v) k e = value_composes (composes form) (Gives (kept_value form v)) k e

pub unready_args : (stage : Stage) → is_ready stage ≡ false → None ≡ args_of stage
unready_args (Ready args) e = cc
unready_args Pending e = refl
unready_args Claimed e = refl
unready_args (Linked j) e = refl
unready_args (Settled o) e = refl
