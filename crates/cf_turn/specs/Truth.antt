-- What a work tells and asks is so.
use Rattle.std.specs.Prelude.{◌≡◌, ◌⊎◌, ℕ, ◌<◌, IsTrue, Option, Some, List, [], ◌∷◌, Contains, length}
use Rattle.cf_row.specs.declared.entry.Entry.{Entry}
use Rattle.cf_row.specs.Rows.{BeginsWith, Replica, StandsAt, stages_of, words_in}
use Rattle.cf_row.specs.Puts.{IsOnceOrNever, stamped}
use Rattle.cf_notes.specs.declared.noted.Noted.{Noted}
use Rattle.cf_due.specs.declared.acts.Act.{Act}
use Rattle.cf_due.specs.declared.acts.Acting.{Acting}
use Rattle.cf_due.specs.Acts.{IsActing, IsNoAct}
use Rattle.cf_due.specs.Due.{FitBehind, NothingIsDue}
use Rattle.cf_part.specs.declared.question.Question.TheVariants.{Close, Put}
use Rattle.cf_part.specs.Parts.{Part, seen_by, words_wanted}
use Rattle.cf_turn.specs.declared.turn.Turn.{Turn}
use Rattle.cf_turn.specs.declared.turn.Turn.TheVariants.{Tell, Ask}
use Rattle.cf_turn.specs.declared.wish.Told.{Told}
use Rattle.cf_turn.specs.declared.wish.Told.TheVariants.{Stands, Not, Refused, Unknown, Closed, Ended}
use Rattle.cf_turn.specs.declared.wish.Wish.{Wish}
use Rattle.cf_turn.specs.Works.{Work, is_closed_in, new_work, stage_of}
use Rattle.cf_turn.specs.Closing.{IsOver}
use Rattle.cf_turn.specs.Turns.{Moment, Turns, known_at, wants_with}
use Rattle.cf_turn.specs.Rows.{IsCall}

-- ---- closes

-- a close is asked for only where nothing is due, and the request is over
pub record MayClose (w : Work) (at : Moment) (seen : ℕ) : Type 0 where
  pub none : NothingIsDue (known_at w.part at)
  pub over : IsOver w at.watch
  pub all : seen ≡ seen_by w.part

abbrev pub OnlyOverIsClosed : Type 0
OnlyOverIsClosed = (old new : Work) (at : Moment) (seen : ℕ) → Turns old at (Ask (Close seen)) new → MayClose old at seen

-- ---- puts

-- the put that was under way is asked for as it is
pub record IsPutAgain (old new : Work) : Type 0 where
  pub some : 0 < length old.part.row.put
  pub same : new.part.row ≡ old.part.row

-- what is asked to be put was under way; or else the graph takes its words behind all that was seen, and their caller's number is the session's
abbrev pub PutsFit : Type 0
PutsFit =
    (old new : Work) (at : Moment) (seen : ℕ) → Turns old at (Ask (Put seen)) new →
    IsPutAgain old new ⊎ FitBehind old.part.row.replica (words_in new.part.row.put)

-- ---- acts

-- words that do what was asked stand in the row, behind entries of which the session knew
pub record StandsIn (row : List Entry) (act : Act) (i : ℕ) : Type 0 where
  pub view : Replica
  pub notes : List Noted
  pub acting : Acting
  pub token : ℕ
  pub begins : BeginsWith row view.seen
  pub does : IsActing view notes act acting
  pub stand : StandsAt row (length view.seen) (stamped token (words_wanted (wants_with acting.first acting.second)))
  pub stage : i ≡ stage_of (stages_of view) act

-- this is so of an act
abbrev pub IsSo : List Entry → Work → Act → Told → Type 0
IsSo row w act (Stands i) = StandsIn row act i
IsSo row w act (Not why) = IsNoAct w.part.row.replica w.part.notes.stages act why
IsSo row w act Refused = Unit {0}
IsSo row w act Unknown = Unit {0}
IsSo row w act Closed = ⊥
IsSo row w act (Ended fault) = w.part.fault ≡ Some fault

-- what is told of an act for which a user waits
pub record IsSoOfWish (row : List Entry) (w : Work) (number : ℕ) (told : Told) : Type 0 where
  pub wish : Wish
  pub waits : Contains w.wishes wish
  pub named : wish.number ≡ number
  pub so : IsSo row w wish.act told

-- or of an end
abbrev pub IsSoOfEnd : Work → Told → Type 0
IsSoOfEnd w Closed = IsTrue (is_closed_in w)
IsSoOfEnd w told = Unit {0}

-- the put that is under way stands once in the row, at its place, or never
abbrev pub KeepsPut : List Entry → Work → Type 0
KeepsPut row w = 0 < length w.part.row.put → IsOnceOrNever row (seen_by w.part) w.part.row.put

-- calls, behind each of which this is so
abbrev pub AreCallsWhile : (Work → Type 0) → Work → List (Option Turn) → Work → Type 0
AreCallsWhile holds old [] new = new ≡ old
AreCallsWhile holds old (out ∷ outs) new = (between : Work) × IsCall old out between × holds between × AreCallsWhile holds between outs new

-- WHAT AN ACT IS TOLD IS SO: whatever the row is, if what the session was told of it is true, and each of its puts stands once or never.
abbrev pub ActsAreToldTruly : Type 0
ActsAreToldTruly =
    (part : Part) (row : List Entry) (outs : List (Option Turn)) (old new : Work) (at : Moment) (number : ℕ) (told : Told) →
    AreCallsWhile (KeepsPut row) (new_work part) outs old → BeginsWith row old.part.row.replica.seen → Turns old at (Tell number told) new →
    IsSoOfWish row old number told ⊎ IsSoOfEnd old told
