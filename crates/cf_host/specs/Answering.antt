-- What answers of a store do to the work of a request.
use Rattle.std.specs.Prelude.{◌≡◌, ◌⊎◌, ℕ, Bool, false, List}
use Rattle.cf_ledger.specs.declared.faults.Misfit.{Misfit}
use Rattle.cf_notes.specs.declared.note.Note.{Note}
use Rattle.cf_row.specs.declared.entry.Entry.{Entry}
use Rattle.cf_part.specs.declared.question.Fault.TheVariants.{Dropped}
use Rattle.cf_part.specs.Parts.{IsPut, IsRead}
use Rattle.cf_part.specs.Answers.{Breaks, Misreads, Reads}
use Rattle.cf_turn.specs.Answers.{ClosesWork, LandsWork, MeetsWork, MismeetsWork, RefusesWork, WaitsWork}
use Rattle.cf_turn.specs.Works.{Work}

-- these entries stand behind all that was seen: they are seen, up to the first that doesn't fit, or none for want of memory
pub record Reading (now : ℕ) (entries : List Entry) (notes : List Note) (old new : Work) : Type 0 where
  pub part : Reads old.part entries notes new.part ⊎ ((m : Misfit) × Misreads old.part now entries notes m new.part)
  pub rest : new ≡ record old { part = new.part; is_acting = false }

-- the put stands
abbrev pub Landing : Work → Work → Type 0
Landing old new = LandsWork old new

-- these entries stand at its place
abbrev pub Meeting : ℕ → List Entry → List Note → Work → Work → Type 0
Meeting now entries notes old new =
    ((landed : Bool) × MeetsWork old entries notes landed new) ⊎ ((m : Misfit) × MismeetsWork old now entries notes m new)

-- The answer to a read, or to a put whose place is taken.
pub data Hearing (now : ℕ) (entries : List Entry) (notes : List Note) (old new : Work) : Type 0 where
  read : IsRead old.part.asked → Reading now entries notes old new → Hearing now entries notes old new
  put : IsPut old.part.asked → Meeting now entries notes old new → Hearing now entries notes old new

-- it is refused
abbrev pub Refusing : ℕ → Work → Work → Type 0
Refusing now old new = RefusesWork old now new

-- the request is closed, or more stands there
abbrev pub Closing : Bool → Work → Work → Type 0
Closing is_closed old new = ClosesWork old is_closed new

-- no answer came
abbrev pub Waiting : ℕ → Work → Work → Type 0
Waiting now old new = WaitsWork old now new

-- the store has it no more
pub record Breaking (old new : Work) : Type 0 where
  pub part : Breaks old.part Dropped new.part
  pub rest : new ≡ record old { part = new.part; is_acting = false }
