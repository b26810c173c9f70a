-- What is true of every plan that is built or grows, kept by one more stage and by one more limit.
use Rattle.std.proofs.Common.{◌≡◌, ℕ, ◌+◌, ◌-◌, ◌*◌, ◌<◌, ◌≤◌, ◌∷◌, ◌++◌, [], List, All, Bool, true, false, Option, length, suc, zero, arith, subst, refl, length-append, Some}
use Rattle.std.specs.Prelude.{is_some, not, ◌||◌, ◌&&◌, slice_get, nat_le}
use Rattle.std.proofs.lemmas.List.Elements.{All-push}
use Rattle.std.specs.List.{sum_by}
use Rattle.std.proofs.lemmas.List.Sums.{sum_by-append, sum_by-cons}
use Rattle.cf_forms.specs.declared.forms.Form.{Form}
use Rattle.cf_forms.specs.declared.forms.Of.{Of}
use Rattle.cf_forms.specs.declared.forms.Of.TheVariants.{None as NoSource, One, Two}
use Rattle.std.proofs.lemmas.Bool.{le-leb, leb-true, and_from, and_parts}
use Rattle.cf_forms.specs.declared.limits.Limit.{Limit}
use Rattle.cf_forms.specs.Plans.{Planned, PlannedStage, HasLowerSources, IsBuilt, fits_count, calls_function, edges_of, has_place, with_stage, with_limit, plan_of, fits_form, IsGrowing, sources_of, and_stage, attached_stage}
use Rattle.cf_forms.proofs.LimitLemmas.{All-with_limit_in_order, IsInFiringOrder-with_limit_in_order, length-with_limit_in_order}

-- the sources of the stage at k
pub lower_at : (i : ℕ) (stages : List PlannedStage) (k : ℕ) (s : PlannedStage) → HasLowerSources i stages → slice_get stages k ≡ Some s → All (λ j. j < i + k) s.sources
lower_at i [] k s h e = cc
lower_at i (x ∷ xs) zero s h e =
    let same : x ≡ s = cc in
    let P : PlannedStage → Type 0 = λ y. All (λ j. j < i + 0) y.sources in
    subst P same (λ m d l. let b = h.0 m d l in omega arith)
lower_at i (x ∷ xs) (suc k) s h e =
    λ m d l. let b = lower_at (i + 1) xs k s h.1 e m d l in omega arith

-- one more stage
pub HasLowerSources-push : (i : ℕ) (stages : List PlannedStage) (s : PlannedStage) → HasLowerSources i stages → All (λ j. j < i + length stages) s.sources → HasLowerSources i (stages ++ s ∷ [])
HasLowerSources-push i [] s h new = (λ m d l. let b = new m d l in omega arith, tt)
HasLowerSources-push i (x ∷ xs) s h new = (h.0, HasLowerSources-push (i + 1) xs s h.1 (λ m d l. let b = new m d l in omega arith))

-- a stage that may be added
pub record MayAdd (stages edges : ℕ) (new : PlannedStage) : Type 0 where
  pub room : stages < 4096
  pub lower : All (λ j. j < stages) new.sources
  pub few : edges + length new.sources ≤ 16384
  pub fitting : fits_count new.form (length new.sources) ≡ true
  pub called : is_some new.function ≡ calls_function new.form

-- a plan with one more stage, which may be added
pub IsBuilt-with_stage : (plan : Planned) (new : PlannedStage) → IsBuilt plan → MayAdd (length plan.stages) (edges_of plan.stages) new → IsBuilt (with_stage plan new)
IsBuilt-with_stage plan new h may =
    let longer = length-append plan.stages (new ∷ []) in
    let Counts : PlannedStage → Type 0 = λ y. fits_count y.form (length y.sources) ≡ true in
    let Calls : PlannedStage → Type 0 = λ y. is_some y.function ≡ calls_function y.form in
    record {
      few_stages = omega (arith, longer, may.room);
      few_edges = omega (arith, sum_by-append (λ (y : PlannedStage). length y.sources) plan.stages (new ∷ []), may.few);
      few_limits = h.few_limits;
      lower = HasLowerSources-push 0 plan.stages new h.lower (λ k d l. let b = may.lower k d l in omega arith);
      fitting = All-push Counts plan.stages new h.fitting may.fitting;
      called = All-push Calls plan.stages new h.called may.called;
      named = λ k d l. let b = h.named k d l in omega (arith, longer);
      in_order = h.in_order;
    }

-- a limit that may be added
pub record MayLimit (plan : Planned) (stage : ℕ) : Type 0 where
  pub there : stage < length plan.stages
  pub room : length plan.limits < 4096

-- a plan with one more limit, which may be added
pub IsBuilt-with_limit : (plan : Planned) (new : Limit) → IsBuilt plan → MayLimit plan new.stage → IsBuilt (with_limit plan new)
IsBuilt-with_limit plan new h may =
    let Names : Limit → Type 0 = λ limit. limit.stage < length plan.stages in
    record {
      few_stages = h.few_stages;
      few_edges = h.few_edges;
      few_limits = omega (arith, length-with_limit_in_order plan.limits new, may.room);
      lower = h.lower;
      fitting = h.fitting;
      called = h.called;
      named = All-with_limit_in_order Names plan.limits new h.named may.there;
      in_order = IsInFiringOrder-with_limit_in_order plan.limits new h.in_order;
    }

-- what it is that there is place
pub place_is : (stages : List PlannedStage) (room : ℕ) → has_place stages room ≡ true → (length stages + room ≤ 4096) × (edges_of stages + 2 * room ≤ 16384)
place_is stages room e =
    let parts = and_parts (nat_le (length stages + room) 4096) (nat_le (edges_of stages + 2 * room) 16384) e in
    (leb-true (length stages + room) 4096 parts.0, leb-true (edges_of stages + 2 * room) 16384 parts.1)

-- where there is
pub place_of : (stages : List PlannedStage) (room : ℕ) → length stages + room ≤ 4096 → edges_of stages + 2 * room ≤ 16384 → has_place stages room ≡ true
place_of stages room few edges = and_from (nat_le (length stages + room) 4096) (nat_le (edges_of stages + 2 * room) 16384) (le-leb (length stages + room) 4096 few) (le-leb (edges_of stages + 2 * room) 16384 edges)

-- for no room there is, in a plan that was built
pub place_for_none : (plan : Planned) → IsBuilt plan → has_place plan.stages 0 ≡ true
place_for_none plan h = place_of plan.stages 0 (let few = h.few_stages in omega (arith, few)) (let few = h.few_edges in omega (arith, few))

-- what is built depends on the stages and limits alone
pub IsBuilt-as : (p q : Planned) → p.stages ≡ q.stages → p.limits ≡ q.limits → IsBuilt p → IsBuilt q
IsBuilt-as p q stages limits h =
    let whole : IsBuilt (plan_of p.stages p.limits) =
    record { few_stages = h.few_stages; few_edges = h.few_edges; few_limits = h.few_limits; lower = h.lower; fitting = h.fitting; called = h.called; named = h.named; in_order = h.in_order } in
    let is : IsBuilt (plan_of q.stages q.limits) =
    subst (λ xs. IsBuilt (plan_of xs q.limits)) stages (subst (λ ls. IsBuilt (plan_of p.stages ls)) limits whole) in
    record { few_stages = is.few_stages; few_edges = is.few_edges; few_limits = is.few_limits; lower = is.lower; fitting = is.fitting; called = is.called; named = is.named; in_order = is.in_order }

-- a stage that fits its form
pub fits_form-count : (form : Form) (n : ℕ) (b : Bool) → fits_form form n b ≡ true → fits_count form n ≡ true
fits_form-count form n b h = first (fits_count form n) (b || not (calls_function form)) (not b || calls_function form) h
  where
    first : (x y z : Bool) → (x && y && z) ≡ true → x ≡ true
    first true y z e = refl
    first false y z e = cc

pub fits_form-called : (form : Form) (n : ℕ) (b : Bool) → fits_form form n b ≡ true → b ≡ calls_function form
fits_form-called form n b h = both (fits_count form n) b (calls_function form) h
  where
    both : (x b called : Bool) → (x && (b || not called) && (not b || called)) ≡ true → b ≡ called
    both true true true e = refl
    both true false false e = refl
    both true true false e = cc
    both true false true e = cc
    both false b called e = cc

-- a stage of at most two sources, for which there is room, may be added
pub may_attach : (plan : Planned) (new : PlannedStage) → IsGrowing plan → 0 < plan.room → length new.sources ≤ 2 → fits_form new.form (length new.sources) (is_some new.function) ≡ true →
    All (λ j. j < length plan.stages) new.sources → MayAdd (length plan.stages) (edges_of plan.stages) new
may_attach plan new h room short fits lower =
    let stages = h.few_stages in
    let edges = h.few_edges in
    record {
      room = omega arith;
      lower = lower;
      few = omega arith;
      fitting = fits_form-count new.form (length new.sources) (is_some new.function) fits;
      called = fits_form-called new.form (length new.sources) (is_some new.function) fits;
    }

-- an attached stage has at most two sources
pub few_sources : (of : Of) → length (sources_of of) ≤ 2
few_sources NoSource = omega arith
few_sources (One a) = omega arith
few_sources (Two a b) = omega arith

-- a plan that grows still does with the stage
pub growing-and_stage : (plan : Planned) (form : Form) (of : Of) (function : Option ℕ) → IsGrowing plan → 0 < plan.room → fits_form form (length (sources_of of)) (is_some function) ≡ true →
    All (λ j. j < length plan.stages) (sources_of of) → IsGrowing (and_stage plan (attached_stage form of function))
growing-and_stage plan form of function h room fits lower =
    let new = attached_stage form of function in
    let few = few_sources of in
    let may = may_attach plan new h room few fits lower in
    let longer = length-append plan.stages (new ∷ []) in
    let one : length (new ∷ []) ≡ 1 = refl in
    let edges = sum_by-append (λ (s : PlannedStage). length s.sources) plan.stages (new ∷ []) in
    let one_edge = sum_by-cons (λ (s : PlannedStage). length s.sources) new [] in
    let no_edge : sum_by (λ (s : PlannedStage). length s.sources) [] ≡ 0 = refl in
    let opened = h.opened in
    let stages = h.few_stages in
    let all_edges = h.few_edges in
    record {
      built = IsBuilt-as (with_stage plan new) (and_stage plan new) refl refl (IsBuilt-with_stage plan new h.built may);
      opened = omega (arith, longer, one, opened);
      few_stages = omega (arith, longer, one, stages);
      few_edges = omega (arith, edges, one_edge, no_edge, few, all_edges);
    }
