-- Tasks that are finished, and then get stages, one after another.
use Rattle.std.proofs.Common.{◌≡◌, ◌≢◌, ◌==◌, inl, inr, ℕ, ◌+◌, ◌<◌, ◌≤◌, Bool, true, false, cond, All, List, [], ◌∷◌, ◌++◌, Option, Some, None, Result, Err, get_or, length, set, slice_get, take, sym, refl, ap, ◌∙◌, subst, arith}
use Rattle.std.specs.Prelude.{nat_lt, unwrap_or}
use Rattle.std.specs.Option.{option_map, option_map_or}
use Rattle.std.proofs.lemmas.Bool.{cases_lt}
use Rattle.std.proofs.lemmas.List.{take_all, take_more}
use Rattle.std.proofs.lemmas.List.Elements.{All-get_or, All-more}
use Rattle.std.proofs.lemmas.Option.{slice_get-get_or, slice_get_past}
use borrow.Author.Tests.{ltb-true}
use Rattle.cf_model.specs.declared.events.Event.TheVariants.{Finish as Finishes}
use Rattle.cf_model.specs.Graphs.{Graph as Graph'}
use Rattle.cf_model.specs.States.{State, claim_at}
use Rattle.cf_core.proofs.Keeping.Marking.{get-set_same}
use Rattle.cf_model.proofs.Shape.{answered-frame}
use Rattle.cf_model.proofs.StateLemmas.{slice_get-set_other}
use Rattle.cf_forms.specs.Plans.{Planned}
use Rattle.cf_ledger.specs.declared.step.Held.{Held}
use Rattle.cf_c_handles.specs.Rounds.{AreClaimed, AreFinished, IsFirstFault, IsThere, MayFinish, Rounds, claimed_times, fault_of, finish_left, finished_all, finished_task, round_told}
use Rattle.cf_c_handles.specs.Tasks.{held_by}
use Rattle.cf_c_handles.specs.declared.code.Code.{Code}
use Rattle.cf_c_handles.specs.declared.code.Code.TheVariants.{NoStage, NotHeld}
use Rattle.cf_c_handles.specs.declared.handle.object.Object.{Object}
use Rattle.cf_c_handles.specs.declared.handle.object.Object.TheVariants.{Graph}
use Rattle.cf_c_handles.specs.declared.values.task.CfTask.{CfTask}

finished_push : (who : ℕ) (s : State) (xs : List CfTask) (x : CfTask) → finished_all who s (xs ++ x ∷ []) ≡ finish_left who (finished_all who s xs) (held_by x)
finished_push who s [] x = refl
finished_push who s (y ∷ ys) x = finished_push who (finish_left who s (held_by y)) ys x

pub finished_more : (who : ℕ) (s : State) (xs : List CfTask) (k : ℕ) (d : CfTask) → k < length xs → finished_all who s (take (k + 1) xs) ≡ finish_left who (finished_all who s (take k xs)) (held_by (get_or xs k d))
finished_more who s xs k d l = ap (finished_all who s) (take_more xs k d l) ∙ finished_push who s (take k xs) (get_or xs k d)

-- a finish leaves the plan
pub same_plan : (who : ℕ) (s : State) (held : Option Held) → (finish_left who s held).plan ≡ s.plan
same_plan who s None = refl
same_plan who s (Some h) = (answered-frame s (Finishes who h.stage h.answer) refl).plan

-- the tasks so far may be finished, and one more may, or may not
pub may_more : (who : ℕ) (s : State) (tasks : List CfTask) (k : ℕ) (d : CfTask) → k < length tasks → All (MayFinish who s) (take k tasks) → fault_of who s (held_by (get_or tasks k d)) ≡ None
    → All (MayFinish who s) (take (k + 1) tasks)
may_more who s tasks k d l h may = All-more (MayFinish who s) tasks k d l h may

pub first_fault : (who : ℕ) (s : State) (tasks : List CfTask) (k : ℕ) (d : CfTask) (code : Code) → k < length tasks → All (MayFinish who s) (take k tasks) → fault_of who s (held_by (get_or tasks k d)) ≡ Some code
    → IsFirstFault who s tasks code
first_fault who s tasks k d code l h fault = record { place = k; task = get_or tasks k d; there = slice_get-get_or tasks k d l; why = fault; before = h }

pub may_all : (who : ℕ) (s : State) (tasks : List CfTask) (k : ℕ) → length tasks ≤ k → All (MayFinish who s) (take k tasks) → All (MayFinish who s) tasks
may_all who s tasks k past h = subst (All (MayFinish who s)) (take_all k tasks past) h

-- what may be finished is there
there_by : (who n : ℕ) (b : Bool) (x : Option Code) (i : ℕ) → nat_lt i n ≡ b → cond b x (Some NoStage) ≡ None → i < n
there_by who n true x i t e = ltb-true i n t
there_by who n false x i t e = (let no : ⊥ = cc in absurd no)

pub is_there : (who : ℕ) (s : State) (held : Option Held) → fault_of who s held ≡ None → IsThere (length s.plan.stages) held
is_there who s None e = tt
is_there who s (Some h) e = there_by who (length s.plan.stages) (nat_lt h.stage (length s.plan.stages)) (cond (option_map_or (λ w. w == who) (claim_at s h.stage) false) None (Some NotHeld)) h.stage refl e

pub may_at : (who : ℕ) (s : State) (tasks : List CfTask) (k : ℕ) (d : CfTask) → k < length tasks → All (MayFinish who s) tasks → fault_of who s (held_by (get_or tasks k d)) ≡ None
may_at who s tasks k d l h = All-get_or (MayFinish who s) tasks k d l h

-- ---- the loops

none_of : (x : Option Code) → ((code : Code) → x ≢ Some code) → x ≡ None
none_of None h = refl
none_of (Some code) h = absurd (h code refl)

-- no fault was found of this task
pub no_fault : (who : ℕ) (s : State) (held by : Option Held) (x : Option Code) → by ≡ held → x ≡ fault_of who s by → ((code : Code) → x ≢ Some code) → fault_of who s held ≡ None
no_fault who s held by x is told none = ap (fault_of who s) (sym is) ∙ sym told ∙ none_of x none

same_at : (xs ys : List CfTask) (k : ℕ) (d : CfTask) → k < length xs → length ys ≡ length xs → slice_get ys k ≡ slice_get xs k → get_or ys k d ≡ get_or xs k d
same_at xs ys k d l long e = ap (λ (o : Option CfTask). unwrap_or o d) (sym (slice_get-get_or ys k d (omega arith)) ∙ e ∙ slice_get-get_or xs k d l)

pub finished_next : (who : ℕ) (start s t : State) (xs ys : List CfTask) (k : ℕ) (d : CfTask) (held : Option Held) → k < length xs → length ys ≡ length xs → slice_get ys k ≡ slice_get xs k → s ≡ finished_all who start (take k xs)
    → held ≡ held_by (get_or ys k d) → t ≡ finish_left who s held → t ≡ finished_all who start (take (k + 1) xs)
finished_next who start s t xs ys k d held l long kept state is left =
    left ∙ ap (λ (h : Option Held). finish_left who s h) (is ∙ ap held_by (same_at xs ys k d l long kept)) ∙ ap (λ (u : State). finish_left who u (held_by (get_or xs k d))) state ∙ sym (finished_more who start xs k d l)

pub plan_next : (who : ℕ) (s t : State) (held : Option Held) (plan : Planned) → s.plan ≡ plan → t ≡ finish_left who s held → t.plan ≡ plan
plan_next who s t held plan same left = ap (λ (u : State). u.plan) left ∙ same_plan who s held ∙ same

pub there_at : (who : ℕ) (start s : State) (xs ys : List CfTask) (k : ℕ) (d : CfTask) → k < length xs → length ys ≡ length xs → slice_get ys k ≡ slice_get xs k → s.plan ≡ start.plan → All (MayFinish who start) xs
    → IsThere (length s.plan.stages) (held_by (get_or ys k d))
there_at who start s xs ys k d l long kept plan may =
    subst (λ (t : CfTask). IsThere (length s.plan.stages) (held_by t)) (sym (same_at xs ys k d l long kept))
    (subst (λ (p : Planned). IsThere (length p.stages) (held_by (get_or xs k d))) (sym plan) (is_there who start (held_by (get_or xs k d)) (may_at who start xs k d l may)))

-- the task that is written is finished, and the others stay
pub given_next : (who : ℕ) (start s : State) (xs ys : List CfTask) (k : ℕ) (y d : CfTask) → k < length xs → length ys ≡ length xs → slice_get ys k ≡ slice_get xs k → s ≡ finished_all who start (take k xs) → y ≡ finished_task who s (get_or ys k d)
    → ((j : ℕ) → j < k → slice_get ys j ≡ option_map (λ (t : CfTask). finished_task who (finished_all who start (take j xs)) t) (slice_get xs j))
    → (j : ℕ) → j < k + 1 → slice_get (set ys k y) j ≡ option_map (λ (t : CfTask). finished_task who (finished_all who start (take j xs)) t) (slice_get xs j)
given_next who start s xs ys k y d l long kept state is given j below = elim (cases_lt j k) [
  | inl m ↦ slice_get-set_other ys k j y (λ e. let no : ⊥ = omega arith in no) ∙ given j m
  | inr m ↦
      let same : j ≡ k = omega arith in
      let wanted : CfTask = finished_task who (finished_all who start (take k xs)) (get_or xs k d) in
      let written : y ≡ wanted = is ∙ ap (finished_task who s) (same_at xs ys k d l long kept) ∙ ap (λ (u : State). finished_task who u (get_or xs k d)) state in
      let at_k : slice_get (set ys k y) k ≡ option_map (λ (t : CfTask). finished_task who (finished_all who start (take k xs)) t) (slice_get xs k) =
      get-set_same ys k y (omega arith) ∙ ap (λ (t : CfTask). Some t) written ∙ sym (ap (option_map (λ (t : CfTask). finished_task who (finished_all who start (take k xs)) t)) (slice_get-get_or xs k d l)) in
      subst (λ (n : ℕ). slice_get (set ys k y) n ≡ option_map (λ (t : CfTask). finished_task who (finished_all who start (take n xs)) t) (slice_get xs n)) (sym same) at_k
]

pub kept_next : (xs ys : List CfTask) (k : ℕ) (y : CfTask) → ((j : ℕ) → k ≤ j → slice_get ys j ≡ slice_get xs j) → (j : ℕ) → k + 1 ≤ j → slice_get (set ys k y) j ≡ slice_get xs j
kept_next xs ys k y kept j l = slice_get-set_other ys k j y (λ e. let no : ⊥ = omega arith in no) ∙ kept j (omega arith)

pub each_task : (f : ℕ → CfTask → CfTask) (n : ℕ) (xs ys : List CfTask) → length ys ≡ length xs → length xs ≤ n → ((k : ℕ) → k < n → slice_get ys k ≡ option_map (f k) (slice_get xs k))
    → (k : ℕ) → slice_get ys k ≡ option_map (f k) (slice_get xs k)
each_task f n xs ys long past given k = elim (cases_lt k (length xs)) [
  | inl l ↦ given k (omega arith)
  | inr m ↦ slice_get_past ys k (omega arith) ∙ sym (ap (option_map (f k)) (slice_get_past xs k (omega arith)))
]

-- ---- behind the handle

pub round_done : (h : Object) (g mid now : Graph') (who : ℕ) (had between has : List CfTask) (r : Result (Unit {0}) Code) → h ≡ Graph g → All (MayFinish who g.state) had → mid.state ≡ finished_all who g.state had → AreFinished who g.state had between
    → now.state ≡ claimed_times who mid.state (length between) → AreClaimed who mid.state between has → r ≡ round_told (slice_get has 0) → Rounds who h had r (Graph now) has
round_done h g mid now who had between has r is may left finished state claimed told = rw is (inl (record {
  may = may;
  between = between;
  finished = finished;
  claimed = subst (λ (s : State). AreClaimed who s between has) left claimed;
  now = now;
  is = refl;
  state = state ∙ ap (λ (n : ℕ). claimed_times who mid.state n) finished.all ∙ ap (λ (s : State). claimed_times who s (length had)) left;
  told = told;
}))

pub round_refused : (h : Object) (g : Graph') (who : ℕ) (had : List CfTask) (code : Code) → h ≡ Graph g → IsFirstFault who g.state had code → Rounds who h had (Err code) (Graph g) had
round_refused h g who had code is fault = rw is (inr (record { code = code; told = refl; why = fault; is = refl; tasks = refl }))
