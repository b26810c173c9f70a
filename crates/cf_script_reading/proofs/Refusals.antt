-- What a call of the builder of plans tells of its refusal.
use Rattle.std.proofs.Common.{◌≡◌, ℕ, Option, Some, None, refl, sym, subst, Result, Ok, Err}
use Rattle.std.specs.Prelude.{IfSome, IfNone, IsOkUnless}
use Rattle.cf_plan.specs.declared.faults.PlanFault.{PlanFault}
use Rattle.cf_plan.specs.declared.faults.PlanFault.TheVariants as plans
use Rattle.cf_forms.specs.Plans.{Planned}
use Rattle.cf_script_reading.specs.declared.fault.ReadingFault.TheVariants as faults
use Rattle.cf_script_reading.specs.Checks.{Fails, planned_unless, refusal_told}

-- a refusal is told as it is, or as want of memory
told_as_it_is : (refusal : PlanFault) (k : ℕ) → Fails {Y = Planned} (refusal_told refusal k) (Err (faults.Plan refusal k))
told_as_it_is plans.TooManyStages k = refl
told_as_it_is plans.SourceNotLower k = refl
told_as_it_is plans.WrongSourceCount k = refl
told_as_it_is plans.FunctionMissing k = refl
told_as_it_is plans.FunctionUnwanted k = refl
told_as_it_is plans.TooManyEdges k = refl
told_as_it_is plans.NoSuchStage k = refl
told_as_it_is plans.NoMemory k = tt
told_as_it_is plans.TooManyLimits k = refl

module _ {A : Type 0} (answer : Result A PlanFault) where
  -- a call that was refused
  pub refused : (cause : Option PlanFault) (k : ℕ) (plan : Planned) (e : PlanFault) → answer ≡ Err e
      → IfSome cause (λ fault. answer ≡ Err fault) → IfNone cause (IsOkUnless answer plans.NoMemory) → Fails (refusal_told e k) (planned_unless cause k plan)
  refused (Some fault) k plan e is given other =
      let same : fault ≡ e = cc in
      subst (λ x. Fails (refusal_told x k) (planned_unless (Some fault) k plan)) same (told_as_it_is fault k)
  refused None k plan e is given other =
      let memory : e ≡ plans.NoMemory = subst (λ r. IsOkUnless r plans.NoMemory) is other in
      subst (λ x. Fails (refusal_told x k) (planned_unless None k plan)) (sym memory) tt

  -- a call that was accepted
  pub accepted : (cause : Option PlanFault) (k : ℕ) (plan : Planned) (x : A) → answer ≡ Ok x
      → IfSome cause (λ fault. answer ≡ Err fault) → planned_unless cause k plan ≡ Ok plan
  accepted (Some fault) k plan x is given = absurd cc
  accepted None k plan x is given = refl
