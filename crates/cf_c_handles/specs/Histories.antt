-- Histories behind handles: what happened to a request, and what is said of it for people.
use Rattle.std.specs.Prelude.{◌≡◌, ℕ, ◌-◌, ◌<◌, ◌≤◌, ◌⊎◌, ◌==◌, Bool, true, false, Option, Some, None, Result, Ok, Err, List, [], ◌∷◌, String, drop, length, map, nat_lt, string_bytes, take, if◌then◌else◌}
use Rattle.std.specs.Global.{Box, Global, Vec}
use Rattle.std.specs.Str.{IsUtf8}
use Rattle.cf_forms.specs.Plans.{has_place, with_room}
use Rattle.cf_model.specs.States.{State, start}
use Rattle.cf_ledger.specs.declared.faults.LedgerFault.{LedgerFault}
use Rattle.cf_telling.specs.Tales.{AreToldOf}
use Rattle.cf_telling.specs.declared.kinds.Kind.{Kind}
use Rattle.cf_telling.specs.declared.kinds.Kind.TheVariants.{Lines, Line, Account, Script, Report}
use Rattle.cf_telling.specs.declared.people.People.{People}
use Rattle.cf_telling.specs.declared.tale.Entry.{Entry}
use Rattle.cf_telling.specs.declared.tale.Tale.{Tale}
use Rattle.cf_c_handles.specs.Ledgers.{word_code}
use Rattle.cf_c_handles.specs.Texts.{GivesText}
use Rattle.cf_c_handles.specs.declared.code.Code.{Code}
use Rattle.cf_c_handles.specs.declared.code.Code.TheVariants.{BadText, NoMemory, NoSuchNumber, Room, TooMany, WrongKind}
use Rattle.cf_c_handles.specs.declared.handle.object.History.{History as History'}
use Rattle.cf_c_handles.specs.declared.handle.object.Object.{Object}
use Rattle.cf_c_handles.specs.declared.handle.object.Object.TheVariants.{History, Plan}
use Rattle.cf_c_handles.specs.declared.history.Said.{Said}
use Rattle.cf_c_handles.specs.declared.history.Said.TheVariants.{Name, Stages, Callers, Values, Errors}

-- ---- it is made

-- nothing is said of this history yet
pub record IsUnspoken (people : People) : Type 0 where
  pub name : string_bytes people.name ≡ []
  pub names : people.names.items ≡ []
  pub times : people.times.items ≡ []
  pub lanes : people.lanes.items ≡ []
  pub values : people.values.items ≡ []
  pub errors : people.errors.items ≡ []

-- the history of a tale
pub record IsNewHistory (tale : Tale) (made : History') : Type 0 where
  pub is : made.tale ≡ tale
  pub unspoken : IsUnspoken made.people

-- the history of these words, done from a state on, of which nothing is said yet
pub record IsHistoryOf (s : State) (words : List ℕ) (made : Object) : Type 0 where
  pub now : Box History'
  pub is : made ≡ History now
  pub told : AreToldOf s words now.value.tale.entries.items None
  pub unspoken : IsUnspoken now.value.people

-- a word can't be done, and C is told why
pub record IsStopped (s : State) (words : List ℕ) (code : Code) : Type 0 where
  pub entries : List Entry
  pub why : LedgerFault
  pub told : AreToldOf s words entries (Some why)
  pub is : code ≡ word_code why

abbrev pub HistoryOf : ℕ → List ℕ → Object → Result Object Code → Type 0
HistoryOf room words (Plan p) (Ok made) = (has_place p.stages room ≡ true) × IsHistoryOf (start (with_room p room)) words made
HistoryOf room words (Plan p) (Err code) =
    ((code ≡ Room) × (has_place p.stages room ≡ false)) ⊎
    ((has_place p.stages room ≡ true) × ((code ≡ NoMemory) ⊎ IsStopped (start (with_room p room)) words code))
HistoryOf room words held r = r ≡ Err WrongKind

-- ---- texts in a row of bytes

-- the bytes from a place up to an end
abbrev pub text_at : List ℕ → ℕ → ℕ → List ℕ
text_at bytes from end = take (end - from) (drop from bytes)

-- a text stands there: it ends where it begins or behind that, within the bytes, and is UTF-8
pub record IsTextAt (bytes : List ℕ) (from end : ℕ) : Type 0 where
  pub behind : from ≤ end
  pub within : end ≤ length bytes
  pub utf8 : IsUtf8 (text_at bytes from end)

-- texts stand one behind the other from a place on, each up to its end
abbrev pub AreTexts : List ℕ → ℕ → List ℕ → Type 0
AreTexts bytes from [] = Unit {0}
AreTexts bytes from (end ∷ ends) = IsTextAt bytes from end × AreTexts bytes end ends

abbrev pub texts_at : List ℕ → ℕ → List ℕ → List (List ℕ)
texts_at bytes from [] = []
texts_at bytes from (end ∷ ends) = text_at bytes from end ∷ texts_at bytes end ends

abbrev pub ReadsText : List ℕ → ℕ → ℕ → Result (String Global) Code → Type 0
ReadsText bytes from end (Ok text) = IsTextAt bytes from end × (string_bytes text ≡ text_at bytes from end)
ReadsText bytes from end (Err code) = ((code ≡ BadText) × ¬ IsTextAt bytes from end) ⊎ ((code ≡ NoMemory) × IsTextAt bytes from end)

-- one of the texts doesn't stand there, or memory is refused
abbrev pub AreUnread : List ℕ → List ℕ → Code → Type 0
AreUnread bytes ends code = ((code ≡ BadText) × ¬ AreTexts bytes 0 ends) ⊎ (code ≡ NoMemory)

abbrev pub ReadsTexts : List ℕ → List ℕ → Result (Vec (String Global)) Code → Type 0
ReadsTexts bytes ends (Ok texts) = AreTexts bytes 0 ends × (map string_bytes texts.items ≡ texts_at bytes 0 ends)
ReadsTexts bytes ends (Err code) = AreUnread bytes ends code

-- ---- what is said of it

-- what texts of a number are said of
abbrev pub said_numbered : ℕ → Option Said
said_numbered number =
    if number == 0 then Some Name
    else (if number == 1 then Some Stages
    else (if number == 2 then Some Callers
    else (if number == 3 then Some Values
    else (if number == 4 then Some Errors
    else None))))

-- more than one name of the whole, than stages or than callers
abbrev pub is_too_many : Said → ℕ → Bool
is_too_many Name count = nat_lt 1 count
is_too_many Stages count = nat_lt 4096 count
is_too_many Callers count = nat_lt 64 count
is_too_many Values count = false
is_too_many Errors count = false

-- the last of these texts, or an empty one where there is none
abbrev pub IsLast : List (String Global) → String Global → Type 0
IsLast [] name = string_bytes name ≡ []
IsLast (text ∷ []) name = name ≡ text
IsLast (text ∷ (next ∷ texts)) name = IsLast (next ∷ texts) name

-- only this is said anew
abbrev pub IsSaid : Said → List (String Global) → People → People → Type 0
IsSaid Name texts old new = (new ≡ record old { name = new.name }) × IsLast texts new.name
IsSaid Stages texts old new = (new ≡ record old { names = new.names }) × (new.names.items ≡ texts)
IsSaid Callers texts old new = (new ≡ record old { lanes = new.lanes }) × (new.lanes.items ≡ texts)
IsSaid Values texts old new = (new ≡ record old { values = new.values }) × (new.values.items ≡ texts)
IsSaid Errors texts old new = (new ≡ record old { errors = new.errors }) × (new.errors.items ≡ texts)

-- people are said this, and what happened stays
pub record HasSaid (Said' : People → People → Type 0) (old new : History') : Type 0 where
  pub said : Said' old.people new.people
  pub stays : new.tale ≡ old.tale

-- a history is asked this, and stays behind the handle
pub record AsksHistory (Asks : History' → Result (Unit {0}) Code → History' → Type 0) (old : Box History') (r : Result (Unit {0}) Code) (new : Object) : Type 0 where
  pub now : Box History'
  pub is : new ≡ History now
  pub asked : Asks old.value r now.value

abbrev pub OfHistory : (History' → Result (Unit {0}) Code → History' → Type 0) → Object → Result (Unit {0}) Code → Object → Type 0
OfHistory Asks (History h) r new = AsksHistory Asks h r new
OfHistory Asks held r new = (r ≡ Err WrongKind) × (new ≡ held)

-- these texts are said
pub record SaysTexts (what : Said) (bytes ends : List ℕ) (old new : People) : Type 0 where
  pub texts : List (String Global)
  pub stand : AreTexts bytes 0 ends
  pub are : map string_bytes texts ≡ texts_at bytes 0 ends
  pub said : IsSaid what texts old new

-- why no texts are said
abbrev pub IsUnsaid : Said → List ℕ → List ℕ → Code → Type 0
IsUnsaid what bytes ends code =
    ((code ≡ TooMany) × (is_too_many what (length ends) ≡ true)) ⊎
    ((is_too_many what (length ends) ≡ false) × AreUnread bytes ends code)

abbrev pub Says : Option Said → List ℕ → List ℕ → History' → Result (Unit {0}) Code → History' → Type 0
Says (Some what) bytes ends h (Ok done) new = (is_too_many what (length ends) ≡ false) × HasSaid (SaysTexts what bytes ends) h new
Says (Some what) bytes ends h (Err code) new = IsUnsaid what bytes ends code × (new ≡ h)
Says None bytes ends h r new = (r ≡ Err NoSuchNumber) × (new ≡ h)

abbrev pub SaysIn : ℕ → List ℕ → List ℕ → Object → Result (Unit {0}) Code → Object → Type 0
SaysIn number bytes ends held r new = OfHistory (Says (said_numbered number) bytes ends) held r new

abbrev pub AreTimes : List ℕ → People → People → Type 0
AreTimes times old new = (new ≡ record old { times = new.times }) × (new.times.items ≡ times)

-- events get times, if there aren't more times than events
abbrev pub SetsTimes : List ℕ → History' → Result (Unit {0}) Code → History' → Type 0
SetsTimes times h (Ok done) new = (length times ≤ length h.tale.entries.items) × HasSaid (AreTimes times) h new
SetsTimes times h (Err TooMany) new = (length h.tale.entries.items < length times) × (new ≡ h)
SetsTimes times h (Err code) new = (code ≡ NoMemory) × (length times ≤ length h.tale.entries.items) × (new ≡ h)

abbrev pub SetsTimesIn : List ℕ → Object → Result (Unit {0}) Code → Object → Type 0
SetsTimesIn times held r new = OfHistory (SetsTimes times) held r new

-- ---- it is told

-- the kind of text of a number
abbrev pub kind_numbered : ℕ → Option Kind
kind_numbered number =
    if number == 0 then Some Lines
    else (if number == 1 then Some Line
    else (if number == 2 then Some Account
    else (if number == 3 then Some Script
    else (if number == 4 then Some Report
    else None))))

-- C gets some text as far as its buffer reaches, with the length of the whole
pub record GivesSome (old new : List ℕ) (whole : ℕ) : Type 0 where
  pub text : List ℕ
  pub gives : GivesText text old new whole

-- a text of a kind is told, or memory is refused
abbrev pub Tells : Option Kind → List ℕ × ℕ → Result (Unit {0}) Code → List ℕ × ℕ → Type 0
Tells (Some kind) had (Ok done) has = GivesSome had.0 has.0 has.1
Tells (Some kind) had (Err code) has = (code ≡ NoMemory) × (has ≡ had)
Tells None had r has = (r ≡ Err NoSuchNumber) × (has ≡ had)

abbrev pub TellsIn : ℕ → Object → List ℕ × ℕ → Result (Unit {0}) Code → Object → List ℕ × ℕ → Type 0
TellsIn number (History h) had r new has = Tells (kind_numbered number) had r has × (new ≡ History h)
TellsIn number held had r new has = (r ≡ Err WrongKind) × (new ≡ held) × (has ≡ had)
