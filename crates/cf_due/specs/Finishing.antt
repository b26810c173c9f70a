-- The finish of a stage whose function has ended, and the claim that goes with it.
use Rattle.std.specs.Prelude.{◌≡◌, ℕ, ◌<◌, ◌==◌, ◌&&◌, Bool, true, false, not, nat_lt, Option, Some, None, List, if◌then◌else◌, option_and_then, slice_get}
use Rattle.std.specs.Int.{w32, cast_signed}
use Rattle.cf_outcome.specs.declared.outcome.Value.TheVariants.{Nil, Int}
use Rattle.cf_forms.specs.declared.forms.Answer.{Answer}
use Rattle.cf_forms.specs.declared.forms.Answer.TheVariants.{Give, Throw, Link}
use Rattle.cf_ledger.specs.declared.step.Held.{Held}
use Rattle.cf_row.specs.Rows.{Replica, stages_of}
use Rattle.cf_row.specs.Next.{Finishes, HasNoClaim}
use Rattle.cf_notes.specs.declared.note.Note.{Note}
use Rattle.cf_notes.specs.declared.note.Note.TheVariants.{Nothing, Gives as NotesGiven}
use Rattle.cf_notes.specs.declared.noted.Noted.{Noted}
use Rattle.cf_due.specs.Claiming.{ClaimsBehind, NoneToCall}
use Rattle.cf_notes.specs.Noting.{promise_of}
use Rattle.cf_due.specs.Settling.{place_of}
use Rattle.cf_due.specs.declared.finishing.Finishing.{Finishing}
use Rattle.cf_notes.specs.declared.wants.EndsWith.{EndsWith}
use Rattle.cf_notes.specs.declared.wants.EndsWith.TheVariants.{Gives, NoValue, Throws, Passes, Links}
use Rattle.cf_notes.specs.declared.wants.Owed.{Owed}
use Rattle.cf_notes.specs.declared.wants.Source.{Source}
use Rattle.cf_notes.specs.declared.wants.Source.TheVariants.{Nothing as NoPayload, Ended, Error}
use Rattle.cf_notes.specs.declared.wants.Want.{Want}

-- ---- what is put of what a function came to

-- what a stage's function came to, if that is still to be put
abbrev pub owed_at : List (Option Owed) → ℕ → Option Owed
owed_at owed i = option_and_then (λ (o : Option Owed). o) (slice_get owed i)

-- A stage that was given is there, and isn't the promise itself: then the promise can be settled as that one is.
abbrev pub settled_as : ℕ → ℕ → Option ℕ → Option ℕ
settled_as stages given None = None
settled_as stages given (Some promise) = if nat_lt given stages && not (given == promise) then Some promise else None

-- the promise of stage i that is settled as the stage that its function gave, where it gave such a one
abbrev pub promise_by : Replica → List Noted → ℕ → EndsWith → Option ℕ
promise_by r notes i (Links given) = settled_as (stages_of r) given (promise_of notes i)
promise_by r notes i ends = None

-- What the words say of it. A value and an error stand at the place of the finish. A stage that was given links to the promise. Where no
-- promise can be settled as that one, or what it came to was refused, an error stands there.
abbrev pub answer_by : Bool → Option ℕ → ℕ → EndsWith → Answer
answer_by true promise place ends = Throw place
answer_by false promise place Gives = Give (Int (cast_signed w32 place))
answer_by false promise place NoValue = Give Nil
answer_by false promise place Throws = Throw place
answer_by false promise place (Passes code) = Throw code
answer_by false (Some p) place (Links given) = Link p
answer_by false None place (Links given) = Throw place

-- the note beside them: which stage the promise was given
abbrev pub note_by : Bool → Option ℕ → EndsWith → Note
note_by true promise ends = Nothing
note_by false (Some p) (Links given) = NotesGiven given
note_by false promise ends = Nothing

-- whose payload stands there
abbrev pub source_by : Bool → Option ℕ → ℕ → EndsWith → Source
source_by true promise i ends = Error i
source_by false promise i Gives = Ended i
source_by false promise i NoValue = NoPayload
source_by false promise i Throws = Ended i
source_by false promise i (Passes code) = NoPayload
source_by false (Some p) i (Links given) = NoPayload
source_by false None i (Links given) = Error i

-- what finishes stage i then
abbrev pub held_by : Replica → List Noted → ℕ → Owed → Held
held_by r notes i owed =
    record { stage = i; answer = answer_by owed.is_error (promise_by r notes i owed.answer) (place_of r) owed.answer }

-- the finish says what the function came to
pub record FinishesOwed (r : Replica) (notes : List Noted) (i : ℕ) (owed : Owed) (want : Want) : Type 0 where
  pub word : Finishes r (held_by r notes i owed) want.word
  pub note : want.note ≡ note_by owed.is_error (promise_by r notes i owed.answer) owed.answer
  pub source : want.source ≡ source_by owed.is_error (promise_by r notes i owed.answer) i owed.answer

-- ---- with the claim

-- nothing that is owed of the stages below this one can be put: their claims aren't this session's
abbrev pub NoneToFinish : Replica → List (Option Owed) → ℕ → Type 0
NoneToFinish r owed to = (k : ℕ) → k < to → (o : Owed) → owed_at owed k ≡ Some o → HasNoClaim r k

-- the claim behind a finish, where there is one; there is none only if this process may claim nothing, or could claim nothing
abbrev pub ClaimsIfMay : Replica → List Noted → Bool → Held → ℕ → Option Want → Type 0
ClaimsIfMay r notes may held finish (Some want) = (may ≡ true) × ClaimsBehind r notes held finish want
ClaimsIfMay r notes may held finish None = may ≡ true → NoneToCall r notes (Some held) (stages_of r)

-- the finish of the lowest stage of which something is owed that can be put, and the claim behind it
pub record IsFinishDue (r : Replica) (notes : List Noted) (owed : List (Option Owed)) (may : Bool) (f : Finishing) : Type 0 where
  pub answer : Owed
  pub is : owed_at owed f.stage ≡ Some answer
  pub finish : FinishesOwed r notes f.stage answer f.finish
  pub claim : ClaimsIfMay r notes may (held_by r notes f.stage answer) f.finish.word f.claim
  pub lowest : NoneToFinish r owed f.stage
