-- What a request behind a handle gathers.
use Rattle.std.specs.Prelude.{◌≡◌, ℕ, ◌==◌, Option, Some, None, Result, Ok, Err, List, if◌then◌else◌}
use Rattle.cf_request.specs.Gathering.{Gathers, IsNoGather}
use Rattle.cf_request.specs.Machines.{Machine}
use Rattle.cf_request.specs.declared.gathering.Gathering.{Gathering}
use Rattle.cf_request.specs.declared.gathering.Gathering.TheVariants.{AllOf, AnyOf}
use Rattle.cf_c_handles.specs.Ledgers.{word_code}
use Rattle.cf_c_handles.specs.RequestCalls.{IsDueAs}
use Rattle.cf_c_handles.specs.Todos.{TellsInto}
use Rattle.cf_c_handles.specs.declared.code.Code.{Code}
use Rattle.cf_c_handles.specs.declared.code.Code.TheVariants.{NoSuchNumber, WrongKind}
use Rattle.cf_c_handles.specs.declared.handle.object.Object.{Object}
use Rattle.cf_c_handles.specs.declared.handle.object.Object.TheVariants.{Request}
use Rattle.cf_c_handles.specs.declared.values.request.CfRequestGathering.{CfRequestGathering}
use Rattle.cf_c_handles.specs.declared.values.request.CfTodo.{CfTodo}
use Rattle.cf_c_handles.specs.declared.values.request.CfTold.{CfTold}

-- the form of a number, if it takes any number of sources
abbrev pub gathering_of : ℕ → Option Gathering
gathering_of number =
    if number == 16 then Some AllOf
    else (if number == 17 then Some AnyOf
    else None)

-- the sources are gathered, and C has the root and what is told
pub record HasGathered (how : Gathering) (sources : List ℕ) (old : Machine) (new : Object) (had has : CfRequestGathering × List CfTold × CfTodo) : Type 0 where
  pub between : Machine
  pub now : Machine
  pub gathers : Gathers had.0.who how sources old has.0.root between
  pub tells : TellsInto between (had.1, had.2) (has.1, has.2) now
  pub rest : has.0 ≡ record had.0 { root = has.0.root }
  pub is : new ≡ Request now

-- or nothing is, for a fault that is due
abbrev pub GathersOrNot : Gathering → List ℕ → Machine → CfRequestGathering × List CfTold × CfTodo → Result (Unit {0}) Code → Object → CfRequestGathering × List CfTold × CfTodo → Type 0
GathersOrNot how sources m had (Ok done) new has = HasGathered how sources m new had has
GathersOrNot how sources m had (Err code) new has = IsDueAs word_code (IsNoGather had.0.who sources m) code × (new ≡ Request m) × (has ≡ had)

-- exactly where the form takes no number of sources, C is told that, and nothing changes
abbrev pub GathersBy : Option Gathering → List ℕ → Machine → CfRequestGathering × List CfTold × CfTodo → Result (Unit {0}) Code → Object → CfRequestGathering × List CfTold × CfTodo → Type 0
GathersBy None sources m had r new has = (r ≡ Err NoSuchNumber) × (new ≡ Request m) × (has ≡ had)
GathersBy (Some how) sources m had r new has = GathersOrNot how sources m had r new has

abbrev pub GathersIn : List ℕ → Object → CfRequestGathering × List CfTold × CfTodo → Result (Unit {0}) Code → Object → CfRequestGathering × List CfTold × CfTodo → Type 0
GathersIn sources (Request m) had r new has = GathersBy (gathering_of had.0.form) sources m had r new has
GathersIn sources held had r new has = (r ≡ Err WrongKind) × (new ≡ held) × (has ≡ had)
