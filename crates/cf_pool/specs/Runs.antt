-- What a run of workers is told by each of them.
use Rattle.std.specs.Prelude.{◌≡◌, ℕ, ◌<◌, nat_lt, Bool, true, false, Option, Some, None, MatchOption, MatchResult, Result, List, ◌∷◌, map}
use Rattle.std.specs.List.{All, AllZip, Contains, list_any}
use Rattle.cf_pool.specs.Answering.{Answers}
use Rattle.cf_desk.specs.declared.faults.DeskFault.{DeskFault}
use Rattle.cf_desk.specs.Log.{Catches}
use Rattle.cf_desk.specs.Views.{Pass, IsSamePass, Desk, state_of}
use Rattle.cf_model.specs.Calling.{CallsOf}
use Rattle.cf_pool.specs.Calling.{CallsOnce, TellsOf}
use Rattle.cf_pool.specs.declared.pool.Met.{Met}
use Rattle.cf_pool.specs.declared.pool.WorkOf.{WorkOf}
use Rattle.cf_pool.specs.declared.pool.Worked.{Worked}
use Rattle.cf_pool.specs.Stops.{Stops}
use Rattle.cf_pool.specs.Waits.{Ends}
use Rattle.cf_pool.specs.Works.{Works}

-- a worker has worked, and has ended with this patience or stopped with this fault
pub record HasWorked (answers : Answers) (d : Desk) (patience : ℕ) (p q : Pass) (fault : Option DeskFault) : Type 0 where
  pub works : Works answers p q
  pub met : MatchOption fault (Ends answers d patience p q) (Stops answers d p q)

abbrev pub IsWorkedFrom : {M : Type 0} → Answers → Desk → ℕ → Pass → Worked M → Type 0
IsWorkedFrom answers d patience p w = HasWorked answers d patience p w.pass w.fault

-- and it has called its functions for what its pass has more
pub record IsWorkedBy {M : Type 0} (tells : TellsOf M) (calls : CallsOf M) (answers : M → Answers) (d : Desk) (patience : ℕ) (h : Pass × M) (w : Worked M) : Type 0 where
  pub from : IsWorkedFrom (answers h.1) d patience h.0 w
  pub called : CallsOnce tells calls (state_of w.pass.known).plan.stages h.0.known.caller h.0.records w.pass.records h.1 w.worker

-- A worker was started: its thread promises the work of this worker with this pass at this desk, or its thread was refused, and it has
-- done that work alone.
abbrev pub IsStarted : {H M : Type 0} → (H → WorkOf M) → TellsOf M → CallsOf M → (M → Answers) → Desk → Pass × M → Result H (Worked M) → Type 0
IsStarted promise tells calls answers d one started =
    MatchResult started (λ h. ((promise h).was.value ≡ one) × ((promise h).desk.value ≡ d)) (λ w. IsWorkedBy tells calls answers d 1000 one w × (w.alone ≡ true))

-- what a worker that was started so comes to: what its thread promised, or what it came to alone
abbrev pub EndsAs : {H M : Type 0} → (H → WorkOf M) → TellsOf M → CallsOf M → (M → Answers) → Result H (Worked M) → Worked M → Type 0
EndsAs promise tells calls answers started w =
    MatchResult started (λ h. IsWorkedBy tells calls answers (promise h).desk.value 1000 (promise h).was.value w × (w.alone ≡ false)) (λ x. w ≡ x)

-- the passes, and the workers, of these pairs
abbrev pub passes_of : {M : Type 0} → List (Pass × M) → List Pass
passes_of {M} pairs = map (λ (w : Pass × M). w.0) pairs

abbrev pub workers_of : {M : Type 0} → List (Pass × M) → List M
workers_of {M} pairs = map (λ (w : Pass × M). w.1) pairs

-- whether the thread of one of them was refused, so that it worked alone on the caller's
abbrev pub is_any_alone : {M : Type 0} → List (Worked M) → Bool
is_any_alone {M} ws = list_any (λ (w : Worked M). w.alone) ws

-- the same pass, which has only seen more events of others, and looked for none
pub record SeesMore (p q : Pass) : Type 0 where
  pub same : IsSamePass p q
  pub caught : Catches p.known.caller p.known.seen q.known.seen
  pub records : q.records ≡ p.records
  pub looks : q.known.looks ≡ p.known.looks

-- a worker's pass, which has seen more since
abbrev pub SeesOn : {M : Type 0} → Worked M → Pass → Type 0
SeesOn w q = SeesMore w.pass q

-- a worker ended, and its pass has seen more since
pub record HasEnded (answers : Answers) (d : Desk) (patience : ℕ) (p q : Pass) : Type 0 where
  pub ended : Pass
  pub ends : Ends answers d patience p ended
  pub since : SeesMore ended q

-- a worker was stopped by this fault, and its pass has seen more since
pub record WasStopped (answers : Answers) (d : Desk) (fault : DeskFault) (p q : Pass) : Type 0 where
  pub stopped : Pass
  pub stops : Stops answers d p stopped fault
  pub since : SeesMore stopped q

-- a worker has come to its end, or to this fault, which stopped it
abbrev pub HasCome : Answers → Desk → ℕ → Pass → Pass → Type 0
HasCome answers d patience p q = (stop : Option DeskFault) × MatchOption stop (HasEnded answers d patience p q) (λ fault. WasStopped answers d fault p q)

-- The same of each pass, by how often it looks before it ends: the caller's own, which comes first, once, and each worker's 1,000
-- times.
abbrev pub OfEach : (ℕ → Pass → Pass → Type 0) → List Pass → List Pass → Type 0
OfEach R (p ∷ ps) (q ∷ qs) = R 1 p q × AllZip (R 1000) ps qs
OfEach R ps qs = ⊥

-- the number of the caller, and the fault that stopped it, if one did
abbrev pub Stop : Type 0
Stop = ℕ × Option DeskFault

abbrev pub stop_of : {M : Type 0} → Worked M → Stop
stop_of w = (w.pass.known.caller, w.fault)

abbrev pub EndsIf : ℕ → Stop → Type 0
EndsIf caller stop = stop.0 < caller → stop.1 ≡ None

-- no caller was stopped, or this is the lowest one that was
abbrev pub IsFirst : List Stop → Option Met → Type 0
IsFirst stops None = All (λ (stop : Stop). stop.1 ≡ None) stops
IsFirst stops (Some met) = Contains stops (met.caller, Some met.fault) × All (EndsIf met.caller) stops

-- the lowest of those, with one more
abbrev pub lower_of : Bool → Met → Met → Met
lower_of true met new = new
lower_of false met new = met

abbrev pub first_with : Option Met → ℕ → Option DeskFault → Option Met
first_with met caller None = met
first_with None caller (Some fault) = Some (record { caller = caller; fault = fault })
first_with (Some met) caller (Some fault) = Some (lower_of (nat_lt caller met.caller) met (record { caller = caller; fault = fault }))

-- the worker ended, if its caller's number is below this one
abbrev pub EndsBelow : Answers → Desk → ℕ → ℕ → Pass → Pass → Type 0
EndsBelow answers d caller patience p q = q.known.caller < caller → HasEnded answers d patience p q

-- this caller's worker was stopped by this fault, and that of each lower one ended
pub record IsLowest (answers : Answers) (d : Desk) (ps qs : List Pass) (caller : ℕ) (fault : DeskFault) : Type 0 where
  pub before : Pass
  pub was_there : Contains ps before
  pub after : Pass
  pub there : Contains qs after
  pub is : before.known.caller ≡ caller
  pub stopped : WasStopped answers d fault before after
  pub below : OfEach (EndsBelow answers d caller) ps qs

-- all workers ended, or this is the fault of the lowest that stopped
abbrev pub IsMet : Answers → Desk → List Pass → List Pass → Option Met → Type 0
IsMet answers d ps qs met = MatchOption met (OfEach (HasEnded answers d) ps qs) (λ x. IsLowest answers d ps qs x.caller x.fault)
