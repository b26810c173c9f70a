-- The numbers of codes, and the codes of faults.
use Rattle.std.specs.Prelude.{ℕ}
use Rattle.cf_plan.specs.declared.faults.PlanFault.{PlanFault}
use Rattle.cf_plan.specs.declared.faults.PlanFault.TheVariants as plan
use Rattle.cf_desk.specs.declared.faults.DeskFault.{DeskFault}
use Rattle.cf_desk.specs.declared.faults.DeskFault.TheVariants as desk
use Rattle.cf_desk.specs.declared.faults.OpenFault.{OpenFault}
use Rattle.cf_desk.specs.declared.faults.OpenFault.TheVariants as opening
use Rattle.cf_c_handles.specs.declared.code.Code.{Code}
use Rattle.cf_c_handles.specs.declared.code.Code.TheVariants.{TooManyStages, SourceNotLower, WrongSourceCount, FunctionMissing, FunctionUnwanted, TooManyEdges, NoSuchStage, NoMemory, TooManyLimits, Empty, Full, WrongKind, NoSuchNumber, NoStage, BadAttach, Room, Nothing, Callers, Log, Calls, Functions, PassFull, LogFull, OtherDesk, NotAll, NoWord, BadScript, StillShared, NotHeld, NoRoom, Lost, NotOver, Lanes, NoLane, PastMoment, BadText, TooMany, UnderWay, NoTokens, NoQuorum, NoTicket, Unfit, NoNote, NotOpen}

-- the number that C sees
abbrev pub number_of : Code → ℕ
number_of TooManyStages = 1
number_of SourceNotLower = 2
number_of WrongSourceCount = 3
number_of FunctionMissing = 4
number_of FunctionUnwanted = 5
number_of TooManyEdges = 6
number_of NoSuchStage = 7
number_of NoMemory = 8
number_of TooManyLimits = 9
number_of Empty = 10
number_of Full = 11
number_of WrongKind = 12
number_of NoSuchNumber = 13
number_of NoStage = 14
number_of BadAttach = 15
number_of Room = 16
number_of Nothing = 17
number_of Callers = 18
number_of Log = 19
number_of Calls = 20
number_of Functions = 21
number_of PassFull = 22
number_of LogFull = 23
number_of OtherDesk = 24
number_of NotAll = 25
number_of NoWord = 26
number_of BadScript = 27
number_of StillShared = 28
number_of NotHeld = 29
number_of NoRoom = 30
number_of Lost = 31
number_of NotOver = 32
number_of Lanes = 33
number_of NoLane = 34
number_of PastMoment = 35
number_of BadText = 36
number_of TooMany = 37
number_of UnderWay = 38
number_of NoTokens = 39
number_of NoQuorum = 40
number_of NoTicket = 41
number_of Unfit = 42
number_of NoNote = 43
number_of NotOpen = 44

-- the code of a plan's fault
abbrev pub plan_code : PlanFault → Code
plan_code plan.TooManyStages = TooManyStages
plan_code plan.SourceNotLower = SourceNotLower
plan_code plan.WrongSourceCount = WrongSourceCount
plan_code plan.FunctionMissing = FunctionMissing
plan_code plan.FunctionUnwanted = FunctionUnwanted
plan_code plan.TooManyEdges = TooManyEdges
plan_code plan.NoSuchStage = NoSuchStage
plan_code plan.NoMemory = NoMemory
plan_code plan.TooManyLimits = TooManyLimits

-- the code of a fault for which a desk isn't opened
abbrev pub open_code : OpenFault → Code
open_code opening.NoMemory = NoMemory
open_code opening.Callers = Callers
open_code opening.Log = Log
open_code opening.Calls = Calls
open_code opening.Room = Room
open_code opening.Functions = Functions

-- the code of a fault for which a desk's call is refused
abbrev pub desk_code : DeskFault → Code
desk_code desk.NoStage = NoStage
desk_code desk.BadAttach = BadAttach
desk_code desk.LogFull = LogFull
desk_code desk.PassFull = PassFull
