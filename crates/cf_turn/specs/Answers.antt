-- What answers of the store do to a work.
use Rattle.std.specs.Prelude.{◌≡◌, ℕ, ◌<◌, ◌&&◌, ◌||◌, Bool, true, false, cond, Option, Some, None, List, [], ◌∷◌, length, nat_lt}
use Rattle.cf_ledger.specs.declared.faults.Misfit.{Misfit}
use Rattle.cf_notes.specs.declared.note.Note.{Note}
use Rattle.cf_row.specs.declared.entry.Entry.{Entry}
use Rattle.cf_row.specs.Rows.{stages_of}
use Rattle.cf_part.specs.declared.question.Question.{Question}
use Rattle.cf_part.specs.declared.question.Question.TheVariants.{Read, Put, Close}
use Rattle.cf_part.specs.Parts.{Part, seen_by}
use Rattle.cf_part.specs.Answers.{Closes, Lands, Meets, Mismeets, Refuses, Waits}
use Rattle.cf_turn.specs.declared.wish.Told.TheVariants.{Stands, Refused}
use Rattle.cf_turn.specs.declared.wish.Wish.{Wish}
use Rattle.cf_turn.specs.Works.{Work, answered_first, stage_of}

-- the acts where the put of the first one stands behind so many stages: its user is to be told so
abbrev pub wishes_standing : ℕ → List Wish → List Wish
wishes_standing stages [] = []
wishes_standing stages (w ∷ wishes) = answered_first (Stands (stage_of stages w.act)) (w ∷ wishes)

-- what becomes of the put is known: it landed behind so many stages, or it didn't, and then its act is decided again
abbrev pub Settles : Work → Bool → ℕ → Work → Type 0
Settles old landed stages new =
    new ≡ record old { wishes = cond (landed && old.is_acting) (wishes_standing stages old.wishes) old.wishes; is_acting = false }

-- that, with this part
abbrev pub settled : Work → Part → Bool → Work
settled old part landed =
    record old {
      part = part;
      wishes = cond (landed && old.is_acting) (wishes_standing (stages_of old.part.row.replica) old.wishes) old.wishes;
      is_acting = false;
    }

-- the put stands
pub record LandsWork (old new : Work) : Type 0 where
  pub part : Lands old.part new.part
  pub rest : new ≡ settled old new.part true

-- these entries stand at its place
pub record MeetsWork (old : Work) (entries : List Entry) (notes : List Note) (landed : Bool) (new : Work) : Type 0 where
  pub some : 0 < length entries
  pub part : Meets old.part entries notes landed new.part
  pub rest : new ≡ settled old new.part landed

-- not all of them fit
pub record MismeetsWork (old : Work) (now : ℕ) (entries : List Entry) (notes : List Note) (m : Misfit) (new : Work) : Type 0 where
  pub part : Mismeets old.part now entries notes m new.part
  pub rest : new ≡ record old { part = new.part; is_acting = old.is_acting && nat_lt 0 (length new.part.row.put) }

-- a put is asked for
abbrev pub is_put : Option Question → Bool
is_put None = false
is_put (Some (Read at)) = false
is_put (Some (Put at)) = true
is_put (Some (Close at)) = false

-- no answer came: what was asked is asked again later
pub record WaitsWork (old : Work) (now : ℕ) (new : Work) : Type 0 where
  pub part : Waits old.part now new.part
  pub rest : new ≡ record old { part = new.part; is_doubtful = old.is_doubtful || is_put old.part.asked }

-- A put is refused: nothing of it stands, and the user of its act is to be told so. But behind a missing answer the act may stand: while its
-- user waits the put is asked for again, as it is.
abbrev pub RefusesPart : Bool → Part → ℕ → Part → Type 0
RefusesPart true old now new = Waits old now new
RefusesPart false old now new = Refuses old now new

abbrev pub refused : Bool → Bool → Work → Part → Work
refused true true old part = record old { part = part }
refused true false old part = record old { part = part; wishes = answered_first Refused old.wishes; is_acting = false }
refused false doubtful old part = record old { part = part; is_acting = false }

pub record RefusesWork (old : Work) (now : ℕ) (new : Work) : Type 0 where
  pub part : RefusesPart (old.is_acting && old.is_doubtful) old.part now new.part
  pub rest : new ≡ refused old.is_acting old.is_doubtful old new.part

-- the request is closed with what was seen, or more stands there
pub record ClosesWork (old : Work) (is_closed : Bool) (new : Work) : Type 0 where
  pub part : Closes old.part is_closed new.part
  pub rest : new ≡ record old { part = new.part; closed_at = cond is_closed (Some (seen_by old.part)) old.closed_at }
