-- The answers of a store to a host behind a handle, and the ends of functions.
use Rattle.std.specs.Prelude.{◌≡◌, ◌≢◌, ◌⊎◌, ℕ, ◌==◌, true, false, Option, Some, None, Result, Ok, Err, List, length, map, if◌then◌else◌}
use Rattle.cf_forms.specs.Plans.{Planned, has_place}
use Rattle.cf_host.specs.Answering.{Closing, Landing, Refusing}
use Rattle.cf_host.specs.Fitting.{Asks, AsksBeats, AsksClose, AsksNews, AsksPlan, AsksPut, AwaitsEnd, IsOpenFor, MayLack, MayLose, TakesEntries, UnfitOnlyIf}
use Rattle.cf_host.specs.Hosts.{Answers, AnswersRow, EndsCall, HearsBeats, HearsNews, HearsRow, Host as Host', IsOpened, IsRefused, LosesRequest, StaysUnanswered}
use Rattle.cf_host.specs.declared.order.NoAnswer.{NoAnswer}
use Rattle.cf_host.specs.declared.order.NoAnswer.TheVariants as answers
use Rattle.cf_host.specs.declared.ticket.Asked.TheVariants.{Open as OfOpen, Row as OfRow}
use Rattle.cf_notes.specs.declared.note.Note.{Note}
use Rattle.cf_notes.specs.declared.wants.EndsWith.{EndsWith}
use Rattle.cf_c_handles.specs.HostValues.{AreNotes, AreUnread, beat_at, entry_at, flag, length_at, note_in}
use Rattle.cf_c_handles.specs.Hosts.{OfHost, answer_code}
use Rattle.cf_c_handles.specs.RequestCalls.{IsDueAs}
use Rattle.cf_c_handles.specs.declared.code.Code.{Code}
use Rattle.cf_c_handles.specs.declared.code.Code.TheVariants.{Empty, NoMemory, NoSuchNumber, Room, WrongKind}
use Rattle.cf_c_handles.specs.declared.handle.object.Object.{Object}
use Rattle.cf_c_handles.specs.declared.handle.object.Object.TheVariants.{Plan}
use Rattle.cf_c_handles.specs.declared.host.answering.Plain.{Plain}
use Rattle.cf_c_handles.specs.declared.host.answering.Plain.TheVariants.{Stands, Closed, NotClosed, Unknown, Refused, Dropped}
use Rattle.cf_c_handles.specs.declared.values.host.rows.CfHostBeat.{CfHostBeat}
use Rattle.cf_c_handles.specs.declared.values.host.rows.CfHostLength.{CfHostLength}
use Rattle.cf_c_handles.specs.declared.values.host.rows.CfNote.{CfNote}
use Rattle.cf_c_handles.specs.declared.values.host.rows.CfNoted.{CfNoted}

-- whether an answer was taken, or the code of why it wasn't
abbrev pub taken_as : Result (Unit {0}) NoAnswer → Result (Unit {0}) Code
taken_as (Ok done) = Ok done
taken_as (Err why) = Err (answer_code why)

-- why an answer to this ticket is refused: as unfit only where it doesn't fit
pub record IsNoAnswer (Fits : Host' → ℕ → Type 0) (h : Host') (ticket : ℕ) (why : NoAnswer) : Type 0 where
  pub refused : IsRefused h ticket why
  pub unfit : UnfitOnlyIf (¬ Fits h ticket) why

-- the reason has this code
abbrev pub IsAnswerCode : (Host' → ℕ → Type 0) → Host' → ℕ → Code → Type 0
IsAnswerCode Fits h ticket code = IsDueAs answer_code (IsNoAnswer Fits h ticket) code

-- why one that takes no memory is refused
pub record IsPlainNo (Fits : Host' → ℕ → Type 0) (h : Host') (ticket : ℕ) (why : NoAnswer) : Type 0 where
  pub due : IsNoAnswer Fits h ticket why
  pub memory : why ≢ answers.NoMemory

abbrev pub IsPlainCode : (Host' → ℕ → Type 0) → Host' → ℕ → Code → Type 0
IsPlainCode Fits h ticket code = IsDueAs answer_code (IsPlainNo Fits h ticket) code

-- one that takes no memory does this, or is refused and changes nothing
abbrev pub Takes : (Host' → ℕ → Host' → Type 0) → (Host' → ℕ → Type 0) → ℕ → Host' → Result (Unit {0}) Code → Host' → Type 0
Takes Does Fits ticket h (Ok done) new = Does h ticket new
Takes Does Fits ticket h (Err code) new = IsPlainCode Fits h ticket code × (new ≡ h)

-- ---- without a list

-- the answer of a number
abbrev pub plain_numbered : ℕ → Option Plain
plain_numbered number =
    if number == 0 then Some Stands
    else (if number == 1 then Some Closed
    else (if number == 2 then Some NotClosed
    else (if number == 3 then Some Unknown
    else (if number == 4 then Some Refused
    else (if number == 5 then Some Dropped
    else None)))))

-- what it does
abbrev pub DoesPlain : Plain → ℕ → Host' → ℕ → Host' → Type 0
DoesPlain Stands now h ticket new = AnswersRow Landing h ticket new
DoesPlain Closed now h ticket new = AnswersRow (Closing true) h ticket new
DoesPlain NotClosed now h ticket new = AnswersRow (Closing false) h ticket new
DoesPlain Unknown now h ticket new = StaysUnanswered h now ticket new
DoesPlain Refused now h ticket new = AnswersRow (Refusing now) h ticket new
DoesPlain Dropped now h ticket new = LosesRequest h ticket new

-- which tickets it fits
abbrev pub FitsPlain : Plain → Host' → ℕ → Type 0
FitsPlain Stands h ticket = AsksPut h ticket
FitsPlain Closed h ticket = AsksClose h ticket
FitsPlain NotClosed h ticket = AsksClose h ticket
FitsPlain Unknown h ticket = IsOpenFor MayLack h ticket
FitsPlain Refused h ticket = AsksPut h ticket
FitsPlain Dropped h ticket = IsOpenFor MayLose h ticket

abbrev pub TakesPlain : Option Plain → ℕ → ℕ → Host' → Result (Unit {0}) Code → Host' → Type 0
TakesPlain (Some plain) now ticket h r new = Takes (DoesPlain plain now) (FitsPlain plain) ticket h r new
TakesPlain None now ticket h r new = (r ≡ Err NoSuchNumber) × (new ≡ h)

-- the function of a call has ended
abbrev pub TakesEnd : Result EndsWith Code → ℕ → Host' → Result (Unit {0}) Code → Host' → Type 0
TakesEnd (Ok answer) ticket h r new = Takes (EndsCall answer) AwaitsEnd ticket h r new
TakesEnd (Err why) ticket h r new = (r ≡ Err why) × (new ≡ h)

-- ---- with a list

-- the entries and the notes of these rows stand there
pub record HearsRows (now : ℕ) (rows : List CfNoted) (h : Host') (ticket : ℕ) (new : Host') : Type 0 where
  pub notes : List Note
  pub are : AreNotes (map note_in rows) notes
  pub hears : HearsRow now (map entry_at rows) notes h ticket new

-- the ticket is of a question that these are the answer to
abbrev pub FitsRows : List CfNoted → Host' → ℕ → Type 0
FitsRows rows h ticket = Asks OfRow (TakesEntries (map entry_at rows)) h ticket

abbrev pub TakesRows : ℕ → ℕ → List CfNoted → Host' → Result (Unit {0}) Code → Host' → Type 0
TakesRows now ticket rows h (Ok done) new = HearsRows now rows h ticket new
TakesRows now ticket rows h (Err code) new = (AreUnread (map note_in rows) code ⊎ IsPlainCode (FitsRows rows) h ticket code) × (new ≡ h)

-- these sessions have beaten so often
abbrev pub TakesBeats : ℕ → ℕ → ℕ → List CfHostBeat → Host' → Result (Unit {0}) Code → Host' → Type 0
TakesBeats now ticket clock beats h (Ok done) new = HearsBeats h now ticket (map beat_at beats) clock new
TakesBeats now ticket clock beats h (Err code) new = ((code ≡ NoMemory) ⊎ IsAnswerCode AsksBeats h ticket code) × (new ≡ h)

-- these requests have so many words
abbrev pub TakesNews : ℕ → ℕ → ℕ → List CfHostLength → Host' → Result (Unit {0}) Code → Host' → Type 0
TakesNews now ticket mark lengths h (Ok done) new = HearsNews h now ticket (map length_at lengths) mark new
TakesNews now ticket mark lengths h (Err code) new = ((code ≡ NoMemory) ⊎ IsAnswerCode AsksNews h ticket code) × (new ≡ h)

-- ---- with a plan

-- a request is opened with the notes of these numbers
pub record OpensWith (p : Planned) (ticket room is_flow : ℕ) (numbers : List CfNote) (h new : Host') : Type 0 where
  pub notes : List Note
  pub are : AreNotes numbers notes
  pub opens : Answers OfOpen (IsOpened h.session p notes room (flag is_flow)) h ticket new

-- the ticket is of a request that isn't opened, and there is a note for each stage
pub record FitsNotes (p : Planned) (numbers : List CfNote) (h : Host') (ticket : ℕ) : Type 0 where
  pub asks : AsksPlan h ticket
  pub noted : length numbers ≡ length p.stages

-- why it isn't
abbrev pub IsNotOpened : Planned → ℕ → ℕ → List CfNote → Host' → Code → Type 0
IsNotOpened p ticket room numbers h code =
    ((code ≡ Room) × (has_place p.stages room ≡ false)) ⊎
    ((has_place p.stages room ≡ true) × (AreUnread numbers code ⊎ IsAnswerCode (FitsNotes p numbers) h ticket code))

abbrev pub OpensPlan : Planned → ℕ → ℕ → ℕ → List CfNote → Host' → Result (Unit {0}) Code → Host' → Type 0
OpensPlan p ticket room is_flow numbers h (Ok done) new = OpensWith p ticket room is_flow numbers h new
OpensPlan p ticket room is_flow numbers h (Err code) new = IsNotOpened p ticket room numbers h code × (new ≡ h)

-- with what stands behind another handle, if that is a plan
abbrev pub OpensOf : Object → ℕ → ℕ → ℕ → List CfNote → Object → Result (Unit {0}) Code → Object → Type 0
OpensOf (Plan p) ticket room is_flow numbers held r new = OfHost (OpensPlan p ticket room is_flow numbers) held r new
OpensOf given ticket room is_flow numbers held r new = (r ≡ Err WrongKind) × (new ≡ held)

-- it stays there
abbrev pub OpensBehind : Option Object → Option Object → ℕ → ℕ → ℕ → List CfNote → Object → Result (Unit {0}) Code → Object → Type 0
OpensBehind (Some given) kept ticket room is_flow numbers held r new =
    (kept ≡ Some given) × OpensOf given ticket room is_flow numbers held r new
OpensBehind None kept ticket room is_flow numbers held r new = (r ≡ Err Empty) × (new ≡ held) × (kept ≡ None)
