-- Texts as C has them.
use Rattle.std.specs.Prelude.{◌≡◌, ℕ, List, [], ◌∷◌, ◌++◌, ◌-◌, ◌==◌, Option, Some, None, codes, drop, length, slice_get, take, if◌then◌else◌}
use Rattle.std.specs.Option.{option_map}
use Rattle.cf_c_handles.specs.Codes.{number_of}
use Rattle.cf_c_handles.specs.declared.code.Code.{Code}
use Rattle.cf_c_handles.specs.declared.code.Code.TheVariants.{TooManyStages, SourceNotLower, WrongSourceCount, FunctionMissing, FunctionUnwanted, TooManyEdges, NoSuchStage, NoMemory, TooManyLimits, Empty, Full, WrongKind, NoSuchNumber, NoStage, BadAttach, Room, Nothing, Callers, Log, Calls, Functions, PassFull, LogFull, OtherDesk, NotAll, NoWord, BadScript, StillShared, NotHeld, NoRoom, Lost, NotOver, Lanes, NoLane, PastMoment, BadText, TooMany, UnderWay, NoTokens, NoQuorum, NoTicket, Unfit, NoNote, NotOpen}

-- a buffer with a text in it as far as it reaches, and behind the text's end what was there
abbrev pub filled : List ℕ → List ℕ → List ℕ
filled text buffer = take (length buffer) text ++ drop (length text) buffer

-- C gets a text as far as its buffer reaches, and the length of the whole
pub record GivesText (text old new : List ℕ) (whole : ℕ) : Type 0 where
  pub bytes : new ≡ filled text old
  pub whole_length : whole ≡ length text

-- all codes, by their numbers from 1 on
abbrev pub all_codes : List Code
all_codes = TooManyStages ∷ SourceNotLower ∷ WrongSourceCount ∷ FunctionMissing ∷ FunctionUnwanted ∷ TooManyEdges ∷ NoSuchStage ∷ NoMemory ∷ TooManyLimits ∷ Empty ∷ Full ∷ WrongKind ∷ NoSuchNumber ∷ NoStage ∷ BadAttach ∷ Room ∷ Nothing ∷ Callers ∷ Log ∷ Calls ∷ Functions ∷ PassFull ∷ LogFull ∷ OtherDesk ∷ NotAll ∷ NoWord ∷ BadScript ∷ StillShared ∷ NotHeld ∷ NoRoom ∷ Lost ∷ NotOver ∷ Lanes ∷ NoLane ∷ PastMoment ∷ BadText ∷ TooMany ∷ UnderWay ∷ NoTokens ∷ NoQuorum ∷ NoTicket ∷ Unfit ∷ NoNote ∷ NotOpen ∷ []

-- the name of a code
abbrev pub name_of : Code → List ℕ
name_of TooManyStages = codes "TooManyStages"
name_of SourceNotLower = codes "SourceNotLower"
name_of WrongSourceCount = codes "WrongSourceCount"
name_of FunctionMissing = codes "FunctionMissing"
name_of FunctionUnwanted = codes "FunctionUnwanted"
name_of TooManyEdges = codes "TooManyEdges"
name_of NoSuchStage = codes "NoSuchStage"
name_of NoMemory = codes "NoMemory"
name_of TooManyLimits = codes "TooManyLimits"
name_of Empty = codes "Empty"
name_of Full = codes "Full"
name_of WrongKind = codes "WrongKind"
name_of NoSuchNumber = codes "NoSuchNumber"
name_of NoStage = codes "NoStage"
name_of BadAttach = codes "BadAttach"
name_of Room = codes "Room"
name_of Nothing = codes "Nothing"
name_of Callers = codes "Callers"
name_of Log = codes "Log"
name_of Calls = codes "Calls"
name_of Functions = codes "Functions"
name_of PassFull = codes "PassFull"
name_of LogFull = codes "LogFull"
name_of OtherDesk = codes "OtherDesk"
name_of NotAll = codes "NotAll"
name_of NoWord = codes "NoWord"
name_of BadScript = codes "BadScript"
name_of StillShared = codes "StillShared"
name_of NotHeld = codes "NotHeld"
name_of NoRoom = codes "NoRoom"
name_of Lost = codes "Lost"
name_of NotOver = codes "NotOver"
name_of Lanes = codes "Lanes"
name_of NoLane = codes "NoLane"
name_of PastMoment = codes "PastMoment"
name_of BadText = codes "BadText"
name_of TooMany = codes "TooMany"
name_of UnderWay = codes "UnderWay"
name_of NoTokens = codes "NoTokens"
name_of NoQuorum = codes "NoQuorum"
name_of NoTicket = codes "NoTicket"
name_of Unfit = codes "Unfit"
name_of NoNote = codes "NoNote"
name_of NotOpen = codes "NotOpen"

-- the text of a number that a call may answer: "Ok", the name of a code, or that a pointer was null
abbrev pub code_text : ℕ → Option (List ℕ)
code_text number =
    if number == 0 then Some (codes "Ok")
    else (if number == 255 then Some (codes "Null")
    else option_map name_of (slice_get all_codes (number - 1)))

-- C gets a text, if there is one, and else what C had stays
abbrev pub TellsText : Option (List ℕ) → ℕ → List ℕ → List ℕ → ℕ → ℕ → Type 0
TellsText (Some text) code old new had has = (code ≡ 0) × GivesText text old new has
TellsText None code old new had has = (code ≡ number_of NoSuchNumber) × (new ≡ old) × (has ≡ had)
