-- The claim of a stage whose function the process knows.
use Rattle.std.specs.Prelude.{◌≡◌, ℕ, ◌<◌, Bool, true, false, nat_lt, Option, Some, None, List, [], ◌∷◌}
use Rattle.cf_model.specs.declared.events.Event.TheVariants.{Claim as Claims, Finish as FinishesAs}
use Rattle.cf_model.specs.Events.{answered}
use Rattle.cf_event.specs.Words.{word_of}
use Rattle.cf_ledger.specs.declared.step.Held.{Held}
use Rattle.cf_row.specs.Rows.{Replica, state_of}
use Rattle.cf_row.specs.Numbers.{FollowsRule}
use Rattle.cf_row.specs.Puts.{AreWordsBehind, pairs_of}
use Rattle.cf_row.specs.Next.{CanClaim, Finishes, IsGrant}
use Rattle.cf_notes.specs.declared.note.Note.TheVariants.{Nothing}
use Rattle.cf_notes.specs.declared.noted.Noted.{Noted}
use Rattle.cf_notes.specs.Noting.{function_of}
use Rattle.cf_notes.specs.declared.wants.Source.TheVariants.{Nothing as NoPayload}
use Rattle.cf_notes.specs.declared.wants.Want.{Want}

-- 0 stands for a function that the process doesn't know
abbrev pub is_known : Option ℕ → Bool
is_known None = false
is_known (Some function) = nat_lt 0 function

-- a stage that this session could claim, as it is or behind a finish, and whose function the process knows
pub record CanCall (r : Replica) (notes : List Noted) (ended : Option Held) (i : ℕ) : Type 0 where
  pub claim : CanClaim r ended i
  pub known : is_known (function_of notes i) ≡ true

-- no stage below this one is such a one
abbrev pub NoneToCall : Replica → List Noted → Option Held → ℕ → Type 0
NoneToCall r notes ended to = (k : ℕ) → k < to → ¬ CanCall r notes ended k

-- the lowest of them
pub record IsNextCall (r : Replica) (notes : List Noted) (ended : Option Held) (i : ℕ) : Type 0 where
  pub can : CanCall r notes ended i
  pub lowest : NoneToCall r notes ended i

-- it has no note, and no payload stands beside it
pub record IsPlain (want : Want) : Type 0 where
  pub note : want.note ≡ Nothing
  pub source : want.source ≡ NoPayload

-- the word by which this view's session claims that stage: the graph takes it behind all that was seen, and grants it there
pub record ClaimsNext (r : Replica) (notes : List Noted) (want : Want) : Type 0 where
  pub who : ℕ
  pub stage : ℕ
  pub rule : FollowsRule (pairs_of r.seen) (r.session, who)
  pub next : IsNextCall r notes None stage
  pub is : want.word ≡ word_of (Claims who stage)
  pub fits : AreWordsBehind r who (want.word ∷ [])
  pub granted : IsGrant ((answered (state_of r) (Claims who stage)).0)
  pub plain : IsPlain want

-- the same of a word that stands right behind a finish: the graph takes both, and grants it behind that
pub record ClaimsBehind (r : Replica) (notes : List Noted) (held : Held) (finish : ℕ) (want : Want) : Type 0 where
  pub finishes : Finishes r held finish
  pub stage : ℕ
  pub next : IsNextCall r notes (Some held) stage
  pub is : want.word ≡ word_of (Claims finishes.who stage)
  pub fits : AreWordsBehind r finishes.who (finish ∷ want.word ∷ [])
  pub granted : IsGrant ((answered ((answered (state_of r) (FinishesAs finishes.who held.stage held.answer)).1) (Claims finishes.who stage)).0)
  pub plain : IsPlain want
