-- Rows of calls as data, one call behind another.
use Rattle.std.proofs.Common.{◌≡◌, ℕ, ◌⊎◌, inl, inr, Bool, true, false, List, [], ◌∷◌, ◌++◌, Contains, refl, sym, subst}
use Rattle.std.specs.Prelude.{Err, IfOk, Ok, OnErr, OnOk, Result, is_ok}
use Rattle.std.specs.Bool.{OnTrue}
use Rattle.std.proofs.lemmas.List.Elements.{Contains-append_cases, Contains-append_right}
use Rattle.cf_model.specs.Laws.{KeepsOutcomes}
use Rattle.cf_model.specs.declared.stage.Stage.{Stage}
use Rattle.cf_request.specs.Deadlines.{Sets}
use Rattle.cf_request.specs.Machines.{Machine, OnlyFinds, Passes, SetsDeadline, state_in}
use Rattle.cf_request.specs.Rows.{AddsBehind, AreCalls, IsCall, Out, nothing}
use Rattle.cf_request.specs.Rows.IsCall.{is_refused}
use Rattle.cf_request.specs.declared.deadlines.Deadline.{Deadline}
use Rattle.cf_example.specs.declared.calls.MachineCall.{MachineCall}
use Rattle.cf_example.specs.declared.calls.MachineCall.TheVariants.{SetDeadline}
use Rattle.cf_example.specs.Calls.{HasSet, IsKept, IsRow, MakesAll, PassesAfter}
use Rattle.cf_example.proofs.OverCalls.{cases, first, met, none, safe}

-- ---- one call

pub one_call : (old new : Machine) (out : Out) → IsCall old out new → IsRow old new
one_call old new out call = record { outs = out ∷ []; are = (new, call, refl) }

pub refused_call : (old new : Machine) → OnlyFinds old new → IsRow old new
refused_call old new finds = one_call old new nothing (is_refused refl finds)

-- whether it is done or refused
pub either_call : {A E : Type 0} (old new : Machine) (r : Result A E) (P : A → Type 0) → IfOk r P → OnErr r (OnlyFinds old new) → ((a : A) → P a → IsRow old new) → IsRow old new
either_call old new (Ok a) P done finds call = call a done
either_call old new (Err e) P done finds call = refused_call old new finds

pub either_done : {A E : Type 0} (old new : Machine) (r : Result A E) (P : Type 0) → OnOk r P → OnErr r (OnlyFinds old new) → (P → IsRow old new) → IsRow old new
either_done old new (Ok a) P done finds call = call done
either_done old new (Err e) P done finds call = refused_call old new finds

pub either_kept : {A E : Type 0} (old new : Machine) (r : Result A E) (P : Type 0) → OnOk r P → OnErr r (new ≡ old) → (P → IsRow old new) → IsRow old new
either_kept old new (Ok a) P done same call = call done
either_kept old new (Err e) P done same call = record { outs = []; are = same }

pub deadline_set : (stages : List Stage) (d : Deadline) (old new : List Deadline) → Sets stages d old new → Contains new d
deadline_set stages d old new s = subst (λ (l : List Deadline). Contains l d) (sym s.put.is) (Contains-append_right s.put.front (d ∷ s.put.back) d (first d s.put.back))

pub set_told : {A E : Type 0} (told : Bool) (r : Result A E) (d : Deadline) (call : MachineCall) (old new : Machine) → told ≡ is_ok r → call ≡ SetDeadline d → OnOk r (SetsDeadline d old new) → OnTrue told (HasSet call new)
set_told true (Ok a) d call old new told same h = subst (λ (x : MachineCall). HasSet x new) (sym same) (deadline_set (state_in old).stages d old.deadlines new.deadlines h.sets)
set_told true (Err e) d call old new told same h = (let no : ⊥ = cc in absurd no)
set_told false r d call old new told same h = tt

-- ---- rows

rows_join : (a b c : Machine) (xs ys : List Out) → AreCalls a xs b → AreCalls b ys c → AreCalls a (xs ++ ys) c
rows_join a b c [] ys same h = subst (λ (m : Machine). AreCalls m ys c) same h
rows_join a b c (x ∷ xs) ys (m, call, rest) h = (m, call, rows_join m b c xs ys rest h)

pub one_more : KeepsOutcomes → AddsBehind → (calls : List MachineCall) (call : MachineCall) (a b c : Machine) → MakesAll calls a b → IsRow b c → HasSet call c → MakesAll (calls ++ call ∷ []) a c
one_more keeps behind calls call a b c made row set = record {
  row = record { outs = made.row.outs ++ row.outs; are = rows_join a b c made.row.outs row.outs made.row.are row.are };
  kept = λ d h. by_place d (Contains-append_cases calls (call ∷ []) (SetDeadline d) h);
}
  where
    last : (d : Deadline) → (call ≡ SetDeadline d) ⊎ Contains [] (SetDeadline d) → IsKept d c
    last d (inl same) = inl (subst (λ (x : MachineCall). HasSet x c) same set)
    last d (inr h) = absurd (none (SetDeadline d) h)

    by_place : (d : Deadline) → Contains calls (SetDeadline d) ⊎ Contains (call ∷ []) (SetDeadline d) → IsKept d c
    by_place d (inl h) = safe keeps behind b c row.outs d row.are (made.kept d h)
    by_place d (inr h) = last d (cases call (SetDeadline d) [] h)

-- ---- and time that passes behind them

pub passed : KeepsOutcomes → AddsBehind → (calls : List MachineCall) (moment : ℕ) (old mid new : Machine) → MakesAll calls old mid → Passes moment mid new → PassesAfter calls moment old new
passed keeps behind calls moment old mid new made p = record {
  between = mid;
  row = made.row;
  passes = p;
  none_open = λ d h le. met keeps behind mid new d moment p le (by_case d h);
}
  where
    by_case : (d : Deadline) → Contains old.deadlines d ⊎ Contains calls (SetDeadline d) → IsKept d mid
    by_case d (inl h) = safe keeps behind old mid made.row.outs d made.row.are (inl h)
    by_case d (inr h) = made.kept d h
