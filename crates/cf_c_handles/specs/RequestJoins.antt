-- Joins of a request behind a handle.
use Rattle.std.specs.Prelude.{◌≡◌, ◌≢◌, ◌↔◌, ◌⊎◌, IsTrue, ℕ, ◌<◌, ◌≤◌, Result, Ok, Err, List, length}
use Rattle.cf_request.specs.Joins.{sources_of}
use Rattle.cf_request.specs.Machines.{IsNoJoin, Machine, SetsJoin}
use Rattle.cf_request.specs.declared.faults.JoinFault.{JoinFault}
use Rattle.cf_request.specs.declared.faults.JoinFault.TheVariants as faults
use Rattle.cf_request.specs.declared.joins.Join.{Join}
use Rattle.cf_c_handles.specs.RequestCalls.{DoesAndTells, IsDueAs, StaysButFinds}
use Rattle.cf_c_handles.specs.declared.code.Code.{Code}
use Rattle.cf_c_handles.specs.declared.code.Code.TheVariants.{NoMemory, NoQuorum, NoStage, WrongKind}
use Rattle.cf_c_handles.specs.declared.handle.object.Object.{Object}
use Rattle.cf_c_handles.specs.declared.handle.object.Object.TheVariants.{Request}
use Rattle.cf_c_handles.specs.declared.values.request.CfRequestJoining.{CfRequestJoining}
use Rattle.cf_c_handles.specs.declared.values.request.CfTodo.{CfTodo}
use Rattle.cf_c_handles.specs.declared.values.request.CfTold.{CfTold}

abbrev pub join_code : JoinFault → Code
join_code faults.NoMemory = NoMemory
join_code faults.NoStage = NoStage
join_code faults.NoQuorum = NoQuorum

-- it is of the stage, by the number and the sources that C says, and cancels if C says so
pub record IsJoinOf (asked : CfRequestJoining) (sources : List ℕ) (join : Join) : Type 0 where
  pub same_stage : join.stage ≡ asked.stage
  pub same_number : join.wanted ≡ asked.wanted
  pub same_sources : sources_of join ≡ sources
  pub cancels : IsTrue join.cancels ↔ (asked.cancels ≢ 0)

-- such a join is set
pub record SetsJoinOf (asked : CfRequestJoining) (sources : List ℕ) (old new : Machine) : Type 0 where
  pub join : Join
  pub is : IsJoinOf asked sources join
  pub sets : SetsJoin join old new

-- a fault for which the machine sets no such join
pub record IsNoJoinOf (asked : CfRequestJoining) (sources : List ℕ) (m : Machine) (fault : JoinFault) : Type 0 where
  pub join : Join
  pub is : IsJoinOf asked sources join
  pub why : IsNoJoin join m fault

-- it is set, or refused for a fault that is due
abbrev pub JoinsOrNot : CfRequestJoining → List ℕ → Machine → List CfTold × CfTodo → Result (Unit {0}) Code → Object → List CfTold × CfTodo → Type 0
JoinsOrNot asked sources m had (Ok done) new has = DoesAndTells (SetsJoinOf asked sources) m new had has
JoinsOrNot asked sources m had (Err code) new has = IsDueAs join_code (IsNoJoinOf asked sources m) code × StaysButFinds m new × (has ≡ had)

-- there is no memory for the list of the sources behind the first one, if there are any
pub record HasNoList (sources : List ℕ) (m : Machine) (had : List CfTold × CfTodo) (r : Result (Unit {0}) Code) (new : Object) (has : List CfTold × CfTodo) : Type 0 where
  pub some : 1 < length sources
  pub code : r ≡ Err NoMemory
  pub same : new ≡ Request m
  pub untold : has ≡ had

-- one of the sources at least is wanted, and all at most
abbrev pub AreEnough : CfRequestJoining → List ℕ → Type 0
AreEnough asked sources = (0 < asked.wanted) × (asked.wanted ≤ length sources)

-- exactly where none is wanted, or more than there are, C is told that, and nothing changes
abbrev pub JoinsIfEnough : CfRequestJoining → List ℕ → Machine → List CfTold × CfTodo → Result (Unit {0}) Code → Object → List CfTold × CfTodo → Type 0
JoinsIfEnough asked sources m had r new has =
    ((¬ AreEnough asked sources) × (r ≡ Err NoQuorum) × (new ≡ Request m) × (has ≡ had))
    ⊎ (AreEnough asked sources × (HasNoList sources m had r new has ⊎ JoinsOrNot asked sources m had r new has))

abbrev pub JoinsIn : CfRequestJoining → List ℕ → Object → List CfTold × CfTodo → Result (Unit {0}) Code → Object → List CfTold × CfTodo → Type 0
JoinsIn asked sources (Request m) had r new has = JoinsIfEnough asked sources m had r new has
JoinsIn asked sources held had r new has = (r ≡ Err WrongKind) × (new ≡ held) × (has ≡ had)
