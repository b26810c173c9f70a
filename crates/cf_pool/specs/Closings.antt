-- What a run of workers leaves, and what it tells.
use Rattle.std.specs.Prelude.{◌≡◌, ◌+◌, ◌<◌, ◌≤◌, ◌⊎◌, ℕ, Bool, true, false, eqb, Option, Some, None, Result, Ok, Err, List, [], ◌∷◌, drop, length, map}
use Rattle.std.specs.List.{AllZip, Contains}
use Rattle.cf_model.specs.declared.events.Event.{Event}
use Rattle.cf_model.specs.States.{State, lowest_ready_of}
use Rattle.cf_pool.specs.Answering.{Answers}
use Rattle.cf_forms.specs.Plans.{Planned}
use Rattle.cf_desk.specs.declared.calls.Closed.{Closed}
use Rattle.cf_desk.specs.declared.calls.Kept.{Kept}
use Rattle.cf_desk.specs.declared.calls.Rec.{Rec}
use Rattle.cf_desk.specs.declared.faults.DeskFault.{DeskFault}
use Rattle.cf_desk.specs.declared.faults.DeskFault.TheVariants.{BadAttach, LogFull, NoStage, PassFull}
use Rattle.cf_desk.specs.Keepings.{AllFit, AreKept, caller_kept, pass_kept}
use Rattle.cf_desk.specs.Log.{state_from}
use Rattle.cf_desk.specs.Rule.{weight}
use Rattle.cf_desk.specs.Views.{Closes, Desk, Pass}
use Rattle.cf_event.specs.Histories.{IsOneHistory}
use Rattle.cf_pool.specs.declared.faults.PoolFault.{PoolFault}
use Rattle.cf_pool.specs.declared.faults.PoolFault.TheVariants.{Desk as ToldDesk, NoMemory, NoThread}
use Rattle.cf_pool.specs.declared.pool.Left.{Left}
use Rattle.cf_pool.specs.declared.pool.Met.{Met}
use Rattle.cf_pool.specs.declared.pool.Unbegun.{Unbegun}
use Rattle.cf_pool.specs.declared.pool.Worked.{Worked}
use Rattle.cf_model.specs.Calling.{CallsOf}
use Rattle.cf_pool.specs.Calling.{EachCalls, TellsOf, calls_of_all, first_answers}
use Rattle.cf_pool.specs.Claims.{WereOpen}
use Rattle.cf_pool.specs.Runs.{HasCome, HasEnded, IsLowest, IsWorkedFrom, OfEach, is_any_alone, passes_of, workers_of}
use Rattle.cf_pool.specs.Works.{Works}

-- the function of each stage is called at most once for the records of all these passes
abbrev pub AreCalledOnce : List Kept → Type 0
AreCalledOnce kept = (i : ℕ) → calls_of_all i (map pass_kept kept) ≤ 1

-- how often this caller stands among these
abbrev pub times_kept : ℕ → List (ℕ × List Rec) → ℕ
times_kept c [] = 0
times_kept c (k ∷ ks) = weight (eqb k.0 c) + times_kept c ks

-- each of so many callers stands once among these passes
abbrev pub IsEachOnce : ℕ → List Kept → Type 0
IsEachOnce callers kept = (c : ℕ) → c < callers → times_kept c (map pass_kept kept) ≡ 1

-- what a run leaves: the closed desk with the passes as they are then, whose records are one history, and the graph as it leaves it
pub record Ran (answers : Answers) (d : Desk) (ps : List Pass) (history : List Event) (kept : List Kept) (graph : State) : Type 0 where
  pub qs : List Pass
  pub closes : Closes d qs history
  pub kept_are : AreKept kept qs
  pub works : AllZip (Works answers) ps qs
  pub each : OfEach (HasCome answers d) ps qs
  pub fit : AllFit d.setting.plan history (map pass_kept kept)
  pub once : AreCalledOnce kept
  pub one : IsOneHistory d.setting.plan d.setting.functions history (map caller_kept kept)
  pub graph_is : graph ≡ state_from d.setting.plan history

-- what a closed desk of this plan tells is one history, which leaves its graph
abbrev pub IsHistoryOf : Planned → ℕ → Closed → Type 0
IsHistoryOf plan functions closed =
    IsOneHistory plan functions closed.history.items (map caller_kept closed.passes.items) × (closed.graph.state ≡ state_from plan closed.history.items)

-- and each worker has ended, nothing is ready, and no claim is open that wasn't before
pub record RanOut (answers : Answers) (d : Desk) (ps : List Pass) (history : List Event) (kept : List Kept) (graph : State) : Type 0 where
  pub ran : Ran answers d ps history kept graph
  pub ended : OfEach (HasEnded answers d) ps ran.qs
  pub none : lowest_ready_of graph ≡ None
  pub claims : WereOpen ps graph

-- why a run tells a fault with the closed desk: the history fills the log, or one of the passes is full
abbrev pub IsDueToTell : ℕ → List Pass → List Event → DeskFault → Type 0
IsDueToTell words qs history LogFull = length history ≡ words
IsDueToTell words qs history PassFull = (q : Pass) × Contains qs q × (length q.records ≡ q.calls)
IsDueToTell words qs history NoStage = ⊥
IsDueToTell words qs history BadAttach = ⊥

-- the closed desk after a fault: why it is told, and that it is the fault of the lowest caller that met one
pub record RunTells (answers : Answers) (d : Desk) (ps : List Pass) (fault : DeskFault) (closed : Closed) : Type 0 where
  pub ran : Ran answers d ps closed.history.items closed.passes.items closed.graph.state
  pub due : IsDueToTell d.words ran.qs closed.history.items fault
  pub caller : ℕ
  pub lowest : IsLowest answers d ps ran.qs caller fault

-- what a run leaves, as it is told where no thread was refused
abbrev pub IsLeft : {M : Type 0} → Answers → Desk → List Pass → Left M → Type 0
IsLeft answers d ps left =
    RanOut answers d ps left.closed.history.items left.closed.passes.items left.closed.graph.state ⊎ ((fault : DeskFault) × RunTells answers d ps fault left.closed)

-- each worker has called its functions for the claims that its pass was granted
abbrev pub HaveCalled : {M : Type 0} → TellsOf M → CallsOf M → List Pass → List M → Left M → Type 0
HaveCalled tells calls ps ms left =
    EachCalls tells calls left.closed.graph.state.plan.stages ps (map (λ (k : Kept). k.records.items) left.closed.passes.items) ms left.workers.items

-- what each worker but the caller's own came to, and whether the thread of one of them was refused
pub record HadThreads {M : Type 0} (answers : Answers) (d : Desk) (ps : List Pass) (left : Left M) (refused : Bool) : Type 0 where
  pub worked : List (Worked M)
  pub from : AllZip (IsWorkedFrom answers d 1000) (drop 1 ps) worked
  pub workers : drop 1 left.workers.items ≡ map (λ (w : Worked M). w.worker) worked
  pub alone : is_any_alone worked ≡ refused

-- what is told: a thread that was refused, before the fault of the lowest caller that met one, and else what the run leaves
abbrev pub told : {M : Type 0} → Bool → Option Met → Left M → Result (Left M) (PoolFault M)
told true first left = Err (NoThread left)
told false None left = Ok left
told false (Some met) left = Err (ToldDesk met.fault left)

-- all of a run is as it was handed in
abbrev pub IsAsBefore : {M : Type 0} → Desk → List Pass → List M → Unbegun M → Type 0
IsAsBefore d ps ms unbegun = (unbegun.desk ≡ d) × (unbegun.passes.items ≡ ps) × (unbegun.workers.items ≡ ms)

-- memory or a thread was refused: no desk's fault
abbrev pub IsForRoom : {M : Type 0} → PoolFault M → Type 0
IsForRoom (NoMemory unbegun) = Unit {0}
IsForRoom (NoThread left) = Unit {0}
IsForRoom (ToldDesk fault left) = ⊥

-- Why a run tells a fault, and what it leaves then: memory was refused, and nothing has begun; a thread was refused, and all have worked; or none was, and it is
-- the desk's.
abbrev pub RunRefuses : {M : Type 0} → TellsOf M → CallsOf M → Answers → Desk → List Pass → List M → PoolFault M → Type 0
RunRefuses tells calls answers d ps ms (NoMemory unbegun) = IsAsBefore d ps ms unbegun
RunRefuses tells calls answers d ps ms (NoThread left) =
    IsLeft answers d ps left × HaveCalled tells calls ps ms left × HadThreads answers d ps left true
RunRefuses tells calls answers d ps ms (ToldDesk fault left) =
    RunTells answers d ps fault left.closed × HaveCalled tells calls ps ms left × HadThreads answers d ps left false

-- the same of a run whose workers all answer as the first one does: what it leaves, that no thread was refused, and why it tells a fault
abbrev pub HasRunOut : {M : Type 0} → (M → Answers) → Desk → List Pass → List M → Left M → Type 0
HasRunOut answers d ps ms left =
    RanOut (first_answers answers ms) d ps left.closed.history.items left.closed.passes.items left.closed.graph.state

abbrev pub HadEachThread : {M : Type 0} → (M → Answers) → Desk → List Pass → List M → Left M → Type 0
HadEachThread answers d ps ms left = HadThreads (first_answers answers ms) d ps left false

abbrev pub RefusesRun : {M : Type 0} → TellsOf M → CallsOf M → (M → Answers) → Desk → List Pass → List M → PoolFault M → Type 0
RefusesRun tells calls answers d ps ms fault = RunRefuses tells calls (first_answers answers ms) d ps ms fault

abbrev pub RefusesPairs : {M : Type 0} → TellsOf M → CallsOf M → (M → Answers) → Desk → List (Pass × M) → PoolFault M → Type 0
RefusesPairs tells calls answers d pairs fault = RefusesRun tells calls answers d (passes_of pairs) (workers_of pairs) fault
