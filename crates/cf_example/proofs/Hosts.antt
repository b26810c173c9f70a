-- What a host did, one step behind another.
use Rattle.std.proofs.Common.{◌<◌, ◌≤◌, true, All, arith, inl, inr, ◌≡◌, ℕ, Option, Some, None, List, [], ◌∷◌, ◌++◌, drop, length, map, max, take, refl, ap, sym, ◌∙◌, subst}
use Rattle.std.specs.Prelude.{IfNone}
use Rattle.std.proofs.Math.Nat.{le-max_left}
use Rattle.std.proofs.lemmas.Bool.{cases_lt}
use Rattle.std.proofs.lemmas.List.Elements.{All-cons, All-head, All-tail}
use Rattle.cf_model.specs.declared.stage.Stage.{Stage}
use Rattle.cf_model.specs.Calling.{CallsOf}
use Rattle.cf_ledger.specs.declared.faults.StepFault.{StepFault}
use Rattle.cf_ledger.specs.declared.step.Held.{Held}
use Rattle.cf_ledger.specs.declared.step.Taken.{Taken}
use Rattle.cf_request.specs.Deadlines.{Forgets, IsNextDue, IsNextOpen, NoneOverdue}
use Rattle.cf_request.specs.Lanes.{NothingIsReady}
use Rattle.cf_request.specs.Machines.{IsNoNext, Machine, OnlyFinds, Passes, state_in}
use Rattle.cf_request.specs.Rows.{AddsBehind, AreCalls, IsCall, Out, RunsOnce, all_jobs, all_told, job_of, stage_of}
use Rattle.cf_request.specs.Rows.IsCall.{goes_on, took}
use Rattle.cf_request.specs.Telling.{IsApart, Teller, is_settled_in}
use Rattle.cf_request.specs.declared.deadlines.Deadline.{Deadline}
use Rattle.cf_example.specs.Hosting.{AreTurns, AreWoken, HandsOut, IsHandedOut, IsTurn, Now, RunsOn, RunsOut, RunsUntil, Turns, WakesOf, stage_taken}

-- ---- those that wait

pub woken_push : {W : Type 0} (wakes : WakesOf W) (v between w : W) (xs : List ℕ) (i : ℕ) → AreWoken wakes v xs between → wakes between i w → AreWoken wakes v (xs ++ i ∷ []) w
woken_push wakes v between w [] i same h = (w, subst (λ u. wakes u i w) same h, refl)
woken_push wakes v between w (x ∷ xs) i (next, first, rest) h = (next, first, woken_push wakes next between w xs i rest h)

woken_append : {W : Type 0} (wakes : WakesOf W) (v between w : W) (xs ys : List ℕ) → AreWoken wakes v xs between → AreWoken wakes between ys w → AreWoken wakes v (xs ++ ys) w
woken_append wakes v between w [] ys same h = subst (λ u. AreWoken wakes u ys w) same h
woken_append wakes v between w (x ∷ xs) ys (next, first, rest) h = (next, first, woken_append wakes next between w xs ys rest h)

take_all : (xs : List ℕ) → take (length xs) xs ≡ xs
take_all [] = refl
take_all (x ∷ xs) = ap (λ (l : List ℕ). x ∷ l) (take_all xs)

drop_all : (xs : List ℕ) → drop (length xs) xs ≡ []
drop_all [] = refl
drop_all (x ∷ xs) = drop_all xs

-- ---- turns

pub turns_push : {F W : Type 0} (calls : CallsOf F) (wakes : WakesOf W) (who lane : ℕ) (a b c : Now F W) (ts : List Taken) (t : Taken) → AreTurns calls wakes who lane a ts b → IsTurn calls wakes who lane b t c → AreTurns calls wakes who lane a (ts ++ t ∷ []) c
turns_push calls wakes who lane a b c [] t same h = (c, subst (λ x. IsTurn calls wakes who lane x t c) same h, refl)
turns_push calls wakes who lane a b c (x ∷ ts) t (between, first, rest) h = (between, first, turns_push calls wakes who lane between b c ts t rest h)

-- a turn is two calls of the machine
record TurnCalls {F W : Type 0} (wakes : WakesOf W) (a : Now F W) (ts : List Taken) (b : Now F W) : Type 0 where
  outs : List Out
  are : AreCalls a.machine outs b.machine
  stages : map stage_of (all_jobs outs) ≡ map stage_taken ts
  woken : AreWoken wakes a.waiters (all_told outs) b.waiters

taking : {W : Type 0} (wakes : WakesOf W) (old new : Machine) (v w : W) → HandsOut wakes old v new w → IsCall old (record { jobs = []; told = take (length old.teller.told) old.teller.told }) new
taking wakes old new v w h =
    took (length old.teller.told) refl (record {
      ledger = ap (λ (m : Machine). m.teller.ledger) h.taken;
      taken = ap (λ (m : Machine). m.teller.taken) h.taken ∙ ap (λ (l : List ℕ). old.teller.taken ++ l) (sym (take_all old.teller.told));
      told = ap (λ (m : Machine). m.teller.told) h.taken ∙ sym (drop_all old.teller.told);
      lanes = ap (λ (m : Machine). m.teller.lanes) h.taken;
      rest = h.taken ∙ ap (λ (t : Teller). let m : Machine = record old { teller = t } in m) (sym (ap (λ (m : Machine). m.teller) h.taken));
    })

turn_calls : {F W : Type 0} (calls : CallsOf F) (wakes : WakesOf W) (who lane : ℕ) (ts : List Taken) (a b : Now F W) → AreTurns calls wakes who lane a ts b → TurnCalls wakes a ts b
turn_calls calls wakes who lane [] a b same = record { outs = []; are = ap (λ x. x.machine) same; stages = refl; woken = ap (λ x. x.waiters) same }
turn_calls calls wakes who lane (t ∷ ts) a b (next, turn, rest) =
    let more = turn_calls calls wakes who lane ts next b rest in
    let told = turn.between.teller.told in
    record {
      outs = job_of who (Some t) ∷ (record { jobs = []; told = take (length told) told }) ∷ more.outs;
      are = (turn.between, goes_on who lane a.held turn.next (ap (job_of who) (sym turn.told)) turn.goes_on, (next.machine, taking wakes turn.between next.machine a.waiters next.waiters turn.hands_out, more.are));
      stages = ap (λ (l : List ℕ). t.stage ∷ l) more.stages;
      woken = woken_append wakes a.waiters next.waiters b.waiters (take (length told) told) (all_told more.outs)
          (subst (λ (l : List ℕ). AreWoken wakes a.waiters l next.waiters) (sym (take_all told)) turn.hands_out.woken) more.woken;
    }

-- so by the laws of machines no stage is claimed twice, and all that was told is taken
pub runs_on : {F W : Type 0} → RunsOnce → AddsBehind → (calls : CallsOf F) (wakes : WakesOf W) (who lane : ℕ) (ts : List Taken) (a b : Now F W) → AreTurns calls wakes who lane a ts b → RunsOn calls wakes who lane a b
runs_on once behind calls wakes who lane ts a b turns =
    let row = turn_calls calls wakes who lane ts a b turns in
    record {
      claims = ts;
      turns = turns;
      no_stage_twice = subst IsApart row.stages (once a.machine b.machine row.outs row.are).apart;
      told = all_told row.outs;
      woken = row.woken;
      taken = (behind a.machine b.machine row.outs row.are).taken;
    }

-- and there are as many lanes
pub same_lanes : {F W : Type 0} → AddsBehind → (calls : CallsOf F) (wakes : WakesOf W) (who lane : ℕ) (ts : List Taken) (a b : Now F W) → AreTurns calls wakes who lane a ts b → b.machine.teller.lanes.count ≡ a.machine.teller.lanes.count
same_lanes behind calls wakes who lane ts a b turns = let row = turn_calls calls wakes who lane ts a b turns in (behind a.machine b.machine row.outs row.are).lanes

-- ---- how the turns go on, and how they end

-- one more is taken
pub more_turns : {F W : Type 0} (calls : CallsOf F) (wakes : WakesOf W) (who lane : ℕ) (a b : Now F W) (m : Machine) (f : F) (w : W) (x y : Option Held) (h : Held) (ts : List Taken) → AreTurns calls wakes who lane a ts b → x ≡ Some h → y ≡ Some h →
    Turns calls wakes who lane b (record { machine = m; functions = f; waiters = w; held = x }) x → (more : List Taken) × AreTurns calls wakes who lane a more (record { machine = m; functions = f; waiters = w; held = y })
more_turns calls wakes who lane a b m f w None y h ts turns is same turn = cc
more_turns {F} {W} calls wakes who lane a b m f w (Some g) y h ts turns is same (t, turn) =
    let now : Now F W = record { machine = m; functions = f; waiters = w; held = Some g } in
    (ts ++ t ∷ [], subst (λ (x : Option Held). AreTurns calls wakes who lane a (ts ++ t ∷ []) (record { machine = m; functions = f; waiters = w; held = x })) (is ∙ sym same) (turns_push calls wakes who lane a b now ts t turns turn))

-- the last one is taken
pub last_turn : {F W : Type 0} → RunsOnce → AddsBehind → (calls : CallsOf F) (wakes : WakesOf W) (who lane : ℕ) (a b : Now F W) (m : Machine) (f : F) (w : W) (x : Option Held) (ts : List Taken) → AreTurns calls wakes who lane a ts b → x ≡ None →
    Turns calls wakes who lane b (record { machine = m; functions = f; waiters = w; held = x }) x → IfNone x (NothingIsReady m.teller lane) → IsHandedOut m →
    RunsOut calls wakes who lane a (record { machine = m; functions = f; waiters = w; held = None })
last_turn once behind calls wakes who lane a b m f w (Some g) ts turns is turn none out = cc
last_turn once behind calls wakes who lane a b m f w None ts turns is turn none out =
    record { before = b; runs = runs_on once behind calls wakes who lane ts a b turns; last = turn; none = none; handed_out = out }

-- one is refused
pub refused_turn : {F W : Type 0} → RunsOnce → AddsBehind → (calls : CallsOf F) (wakes : WakesOf W) (who lane : ℕ) (a b : Now F W) (m : Machine) (f : F) (w : W) (fault : StepFault) (ts : List Taken) → AreTurns calls wakes who lane a ts b →
    OnlyFinds b.machine m → f ≡ b.functions → w ≡ b.waiters → IsNoNext who lane b.held b.machine fault → RunsUntil calls wakes who lane a fault (record { machine = m; functions = f; waiters = w; held = b.held })
refused_turn {F} {W} once behind calls wakes who lane a b m f w fault ts turns finds same_f same_w why = record {
  before = b;
  runs = runs_on once behind calls wakes who lane ts a b turns;
  refused = finds;
  same = ap (λ (g : F). let n : Now F W = record { machine = m; functions = g; waiters = w; held = b.held } in n) same_f
      ∙ ap (λ (u : W). let n : Now F W = record { machine = m; functions = b.functions; waiters = u; held = b.held } in n) same_w;
  why = why;
}

-- ---- the next deadline

overdue_left : (moment : ℕ) (stages : List Stage) (old new : List Deadline) → Forgets stages old new → NoneOverdue moment old stages → NoneOverdue moment new stages
overdue_left moment stages [] new same none = subst (λ (l : List Deadline). NoneOverdue moment l stages) (sym same) none
overdue_left moment stages (d ∷ old) new (inl (rest, is, h)) none =
    let P = λ (e : Deadline). e.moment ≤ moment → is_settled_in stages e.stage ≡ true in
    subst (All P) (sym is) (All-cons P d rest (All-head P d old none) (overdue_left moment stages old rest h (All-tail P d old none)))
overdue_left moment stages (d ∷ old) new (inr (on, h)) none =
    overdue_left moment stages old new h (All-tail (λ (e : Deadline). e.moment ≤ moment → is_settled_in stages e.stage ≡ true) d old none)

all_middle : (P : Deadline → Type 0) (xs : List Deadline) (y : Deadline) (ys : List Deadline) → All P (xs ++ y ∷ ys) → P y
all_middle P [] y ys h = All-head P y ys h
all_middle P (x ∷ xs) y ys h = all_middle P xs y ys (All-tail P x (xs ++ y ∷ ys) h)

lt_max : (k m n : ℕ) → k < m → k < max m n
lt_max k m n l = let more = le-max_left m n in omega (arith, l, more)

-- once time has passed up to a moment, it is later
pub later_next : {W : Type 0} (wakes : WakesOf W) (moment : ℕ) (old between told : Machine) (v w : W) (d : Deadline) → Passes moment old between → HandsOut wakes between v told w → IsNextDue told.moment told.deadlines (state_in told).stages d → moment < d.moment
later_next wakes moment old between told v w d passes out due =
    let next = due.next in
    let e = due.deadline in
    let here = subst (λ (m : Machine). IsNextOpen m.deadlines (state_in m).stages e) out.taken next in
    let P = λ (e : Deadline). e.moment ≤ moment → is_settled_in (state_in between).stages e.stage ≡ true in
    let none = overdue_left moment (state_in between).stages old.deadlines between.deadlines passes.forgets passes.none.1 in
    let its = all_middle P here.front e here.back (subst (All P) here.is none) in
    let is = ap (λ (f : Deadline). f.moment) due.is in
    let first : moment < e.moment = elim (cases_lt moment e.moment) [
      | inl less ↦ less
      | inr more ↦ (let on = its (omega (arith, more)) in let off = here.waits in cc)
    ] in
    subst (λ (n : ℕ). moment < n) (sym is) (lt_max moment e.moment told.moment first)
