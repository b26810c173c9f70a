-- Each code's number has the text of its name.
use Rattle.std.proofs.Common.{◌≡◌, ◌≢◌, ◌<◌, ◌-◌, ◌∙◌, ap, ℕ, Some, None, refl, arith}
use Rattle.std.specs.Option.{option_map}
use Rattle.std.proofs.lemmas.Bool.{ne_eqb}
use Rattle.std.proofs.lemmas.Option.{slice_get_past}
use Rattle.cf_c_handles.specs.Codes.{number_of}
use Rattle.cf_c_handles.specs.Texts.{all_codes, code_text, name_of}
use Rattle.cf_c_handles.specs.declared.code.Code.{Code}
use Rattle.cf_c_handles.specs.declared.code.Code.TheVariants.{TooManyStages, SourceNotLower, WrongSourceCount, FunctionMissing, FunctionUnwanted, TooManyEdges, NoSuchStage, NoMemory, TooManyLimits, Empty, Full, WrongKind, NoSuchNumber, NoStage, BadAttach, Room, Nothing, Callers, Log, Calls, Functions, PassFull, LogFull, OtherDesk, NotAll, NoWord, BadScript, StillShared, NotHeld, NoRoom, Lost, NotOver, Lanes, NoLane, PastMoment, BadText, TooMany, UnderWay, NoTokens, NoQuorum, NoTicket, Unfit, NoNote, NotOpen}

text_of_number : (c : Code) → code_text (number_of c) ≡ Some (name_of c)
text_of_number TooManyStages = refl
text_of_number SourceNotLower = refl
text_of_number WrongSourceCount = refl
text_of_number FunctionMissing = refl
text_of_number FunctionUnwanted = refl
text_of_number TooManyEdges = refl
text_of_number NoSuchStage = refl
text_of_number NoMemory = refl
text_of_number TooManyLimits = refl
text_of_number Empty = refl
text_of_number Full = refl
text_of_number WrongKind = refl
text_of_number NoSuchNumber = refl
text_of_number NoStage = refl
text_of_number BadAttach = refl
text_of_number Room = refl
text_of_number Nothing = refl
text_of_number Callers = refl
text_of_number Log = refl
text_of_number Calls = refl
text_of_number Functions = refl
text_of_number PassFull = refl
text_of_number LogFull = refl
text_of_number OtherDesk = refl
text_of_number NotAll = refl
text_of_number NoWord = refl
text_of_number BadScript = refl
text_of_number StillShared = refl
text_of_number NotHeld = refl
text_of_number NoRoom = refl
text_of_number Lost = refl
text_of_number NotOver = refl
text_of_number Lanes = refl
text_of_number NoLane = refl
text_of_number PastMoment = refl
text_of_number BadText = refl
text_of_number TooMany = refl
text_of_number UnderWay = refl
text_of_number NoTokens = refl
text_of_number NoQuorum = refl
text_of_number NoTicket = refl
text_of_number Unfit = refl
text_of_number NoNote = refl
text_of_number NotOpen = refl

pub code_named : (number : ℕ) (c : Code) → number ≡ number_of c → code_text number ≡ Some (name_of c)
code_named number c is = ap code_text is ∙ text_of_number c

-- no number above those of the codes has a text, but that of a null pointer
pub no_text : (number : ℕ) → 44 < number → number ≢ 255 → code_text number ≡ None
no_text n above other = rw (ne_eqb n 0 (λ e. absurd (omega arith)), ne_eqb n 255 other) (ap (option_map name_of) (slice_get_past all_codes (n - 1) (omega arith)))
