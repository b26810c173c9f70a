-- How desks are opened.
use Rattle.std.specs.Prelude.{◌≡◌, ℕ, ◌≤◌, true, Option, Some, None, Result, Ok, Err, List, [], ◌∷◌, All, length}
use Rattle.std.specs.Arc.{arc_value}
use Rattle.std.specs.Global.{Box}
use Rattle.cf_forms.specs.Plans.{Planned, has_place, with_room}
use Rattle.cf_desk.specs.declared.faults.OpenFault.{OpenFault}
use Rattle.cf_desk.specs.declared.row.DeskConfig.{DeskConfig}
use Rattle.cf_desk.specs.declared.sizes.DeskSizes.{DeskSizes}
use Rattle.cf_desk.specs.Faults.{AreCounts, IsDueToGrow, IsDueToOpen}
use Rattle.cf_desk.specs.Functions.{function_bound}
use Rattle.cf_desk.specs.Views.{Desk, Pass, opened}
use Rattle.cf_c_handles.specs.Answers.{Codes}
use Rattle.cf_c_handles.specs.Codes.{number_of, open_code}
use Rattle.cf_c_handles.specs.declared.handle.object.Caller.{Caller as Caller'}
use Rattle.cf_c_handles.specs.declared.code.Code.{Code}
use Rattle.cf_c_handles.specs.declared.code.Code.TheVariants.{Empty, Full, WrongKind}
use Rattle.cf_c_handles.specs.declared.desk.opening.CfDeskSizes.{CfDeskSizes}
use Rattle.cf_c_handles.specs.declared.handle.CfHandle.{CfHandle}
use Rattle.cf_c_handles.specs.declared.handle.object.Object.{Object}
use Rattle.cf_c_handles.specs.declared.handle.object.Object.TheVariants.{Caller, Plan}

-- the caller of a desk with this pass
pub record IsCallerOf (d : Desk) (p : Pass) (held : Object) : Type 0 where
  pub caller : Caller'
  pub is : held ≡ Caller caller
  pub desk : arc_value caller.desk ≡ d
  pub pass : caller.pass ≡ p

abbrev pub IsBehind : Desk → Pass → Option Object → Type 0
IsBehind d p None = ⊥
IsBehind d p (Some held) = IsCallerOf d p held

-- behind these handles stand the callers of a desk with these passes, in this order
abbrev pub AreBehind : Desk → List Pass → List CfHandle → Type 0
AreBehind d [] [] = Unit {0}
AreBehind d (p ∷ ps) (h ∷ hs) = IsBehind d p h.inner.held × AreBehind d ps hs
AreBehind d ps hs = ⊥

-- the same of boxes, and of these behind handles
abbrev pub AreBoxed : Desk → List Pass → List (Box Object) → Type 0
AreBoxed d [] [] = Unit {0}
AreBoxed d (p ∷ ps) (b ∷ bs) = IsCallerOf d p b.value × AreBoxed d ps bs
AreBoxed d ps bs = ⊥

abbrev pub ArePut : List (Box Object) → List CfHandle → Type 0
ArePut [] [] = Unit {0}
ArePut (b ∷ bs) (h ∷ hs) = (h.inner.held ≡ Some b.value) × ArePut bs hs
ArePut bs hs = ⊥

abbrev pub AreEmpty : List CfHandle → Type 0
AreEmpty hs = All (λ (h : CfHandle). h.inner.held ≡ None) hs

-- the desk has this setting and is new, and these are the passes of its callers
abbrev pub IsNewDesk : DeskConfig → ℕ → ℕ → Desk → List Pass → Type 0
IsNewDesk setting log calls desk passes =
    (desk.setting ≡ setting) × (desk.words ≡ log) × (passes ≡ opened desk.table desk.setting calls)

-- the sizes of a desk with so many callers
abbrev pub sizes_of : ℕ → ℕ → ℕ → DeskSizes
sizes_of callers log calls = record { callers = callers; log = log; calls = calls }

-- these are counts with which a growing desk may be opened
abbrev pub AreGrowingCounts : Planned → ℕ → ℕ → ℕ → ℕ → ℕ → Type 0
AreGrowingCounts p callers log calls room functions =
    AreCounts (sizes_of callers log calls) × (has_place p.stages room ≡ true) × (function_bound p.stages ≤ functions)

-- behind these handles stand the callers of a new desk, none of whom has seen or recorded anything
pub record IsOpenedDesk (setting : DeskConfig) (log calls : ℕ) (hs : List CfHandle) : Type 0 where
  pub desk : Desk
  pub setting_is : desk.setting ≡ setting
  pub words : desk.words ≡ log
  pub behind : AreBehind desk (opened desk.table setting calls) hs

-- no desk is opened, for a fault that is due
pub record IsNotOpened (IsDue : OpenFault → Type 0) (code : Code) : Type 0 where
  pub why : OpenFault
  pub due : IsDue why
  pub is : code ≡ open_code why

-- Of a plan a desk with so many callers as there are handles is opened, if they are all empty. Where it isn't, they stay.
abbrev pub DeskOf : (Planned → ℕ → DeskConfig) → (Planned → ℕ → OpenFault → Type 0) → ℕ → ℕ → Object → List CfHandle → Result (Unit {0}) Code → List CfHandle → Type 0
DeskOf setting IsDue log calls (Plan p) old (Ok done) new = AreEmpty old × AreCounts (sizes_of (length old) log calls) × IsOpenedDesk (setting p (length old)) log calls new
DeskOf setting IsDue log calls (Plan p) old (Err Full) new = (¬ AreEmpty old) × (new ≡ old)
DeskOf setting IsDue log calls (Plan p) old (Err code) new = AreEmpty old × IsNotOpened (IsDue p (length old)) code × (new ≡ old)
DeskOf setting IsDue log calls held old r new = (r ≡ Err WrongKind) × (new ≡ old)

-- without room, and with the functions of the plan
abbrev pub setting_of : Planned → ℕ → DeskConfig
setting_of p callers = record { plan = p; callers = callers; functions = function_bound p.stages }

abbrev pub is_due : ℕ → ℕ → Planned → ℕ → OpenFault → Type 0
is_due log calls p callers = IsDueToOpen (sizes_of callers log calls)

-- the same with the sizes of the log and of the records that C gives
abbrev pub FixedDeskOf : ℕ → ℕ → Object → List CfHandle → Result (Unit {0}) Code → List CfHandle → Type 0
FixedDeskOf log calls = DeskOf setting_of (is_due log calls) log calls

-- with room, and so many functions
abbrev pub growing_of : ℕ → ℕ → Planned → ℕ → DeskConfig
growing_of room functions p callers = record { plan = with_room p room; callers = callers; functions = functions }

abbrev pub is_due_to_grow : ℕ → ℕ → ℕ → ℕ → Planned → ℕ → OpenFault → Type 0
is_due_to_grow log calls room functions p callers = IsDueToGrow p.stages (sizes_of callers log calls) (record { room = room; functions = functions })

-- the same with room, by the sizes that C gives
abbrev pub GrowingDeskOf : CfDeskSizes → Object → List CfHandle → Result (Unit {0}) Code → List CfHandle → Type 0
GrowingDeskOf n = DeskOf (growing_of n.room n.functions) (is_due_to_grow n.log n.calls n.room n.functions) n.log n.calls

-- the plan stays behind its handle, and C gets the code
pub record IsAskedFor (Opens : Object → List CfHandle → Result (Unit {0}) Code → List CfHandle → Type 0) (plan : Object) (kept : Option Object) (code : ℕ) (old new : List CfHandle) : Type 0 where
  pub result : Result (Unit {0}) Code
  pub opens : Opens plan old result new
  pub stays : kept ≡ Some plan
  pub codes : Codes result code

abbrev pub OpensDesk : (Object → List CfHandle → Result (Unit {0}) Code → List CfHandle → Type 0) → Option Object → Option Object → ℕ → List CfHandle → List CfHandle → Type 0
OpensDesk Opens None kept code old new = (code ≡ number_of Empty) × (kept ≡ None) × (new ≡ old)
OpensDesk Opens (Some plan) kept code old new = IsAskedFor Opens plan kept code old new
