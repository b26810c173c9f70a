-- What a stage or a limit is that no fault is found of.
use Rattle.std.proofs.Common.{◌≡◌, ℕ, ◌+◌, Option, Some, None, length, refl, Bool, true, false}
use Rattle.std.specs.Prelude.{nat_lt, nat_le, is_some, is_none, not, ◌||◌}
use Rattle.std.specs.List.{list_all}
use Rattle.std.proofs.lemmas.List.Sums.{AllPass-from_list_all}
use Rattle.std.proofs.lemmas.Bool.{ltb-true, leb-true}
use Rattle.cf_plan.specs.declared.faults.PlanFault.{PlanFault}
use Rattle.cf_plan.specs.declared.faults.PlanFault.TheVariants.{TooManyStages, SourceNotLower, WrongSourceCount, FunctionMissing, FunctionUnwanted, TooManyEdges, NoSuchStage, TooManyLimits}
use Rattle.cf_forms.specs.Plans.{Planned, PlannedStage, fits_count, calls_function}
use Rattle.cf_plan.specs.Faults.{unless, stage_fault, limit_fault}
use Rattle.cf_forms.proofs.PlanLemmas.{MayAdd, MayLimit}

-- where no fault is found the tests have passed
unless-none : (b : Bool) (fault : PlanFault) (next : Option PlanFault) → unless b fault next ≡ None → (b ≡ true) × (next ≡ None)
unless-none true fault next h = (refl, h)
unless-none false fault next h = cc

-- a function that is neither missing nor unwanted is there exactly where it is called
called_where_fit : (function : Option ℕ) (called : Bool) → (is_some function || not called) ≡ true → (is_none function || called) ≡ true → is_some function ≡ called
called_where_fit None true missing unwanted = cc
called_where_fit None false missing unwanted = refl
called_where_fit (Some f) true missing unwanted = refl
called_where_fit (Some f) false missing unwanted = cc

pub may_add : (stages edges : ℕ) (new : PlannedStage) → stage_fault stages edges new ≡ None → MayAdd stages edges new
may_add stages edges new h =
    let calls = calls_function new.form in
    let few = unless (nat_le (edges + length new.sources) 16384) TooManyEdges None in
    let unwanted = unless (is_none new.function || calls) FunctionUnwanted few in
    let function = unless (is_some new.function || not calls) FunctionMissing unwanted in
    let lower = unless (list_all (λ j. nat_lt j stages) new.sources) SourceNotLower function in
    let count = unless (fits_count new.form (length new.sources)) WrongSourceCount lower in
    let a = unless-none (nat_lt stages 4096) TooManyStages count h in
    let b = unless-none (fits_count new.form (length new.sources)) WrongSourceCount lower a.1 in
    let d = unless-none (list_all (λ j. nat_lt j stages) new.sources) SourceNotLower function b.1 in
    let e = unless-none (is_some new.function || not calls) FunctionMissing unwanted d.1 in
    let f = unless-none (is_none new.function || calls) FunctionUnwanted few e.1 in
    let g = unless-none (nat_le (edges + length new.sources) 16384) TooManyEdges None f.1 in
    record {
      room = ltb-true _ _ a.0;
      lower = λ k x l. ltb-true _ _ (AllPass-from_list_all (λ j. nat_lt j stages) new.sources d.0 k x l);
      few = leb-true _ _ g.0;
      fitting = b.0;
      called = called_where_fit new.function calls e.0 f.0;
    }

pub may_limit : (plan : Planned) (stage : ℕ) → limit_fault plan stage ≡ None → MayLimit plan stage
may_limit plan stage h =
    let few = unless (nat_lt (length plan.limits) 4096) TooManyLimits None in
    let a = unless-none (nat_lt stage (length plan.stages)) NoSuchStage few h in
    let b = unless-none (nat_lt (length plan.limits) 4096) TooManyLimits None a.1 in
    record { there = ltb-true _ _ a.0; room = ltb-true _ _ b.0 }
