-- What is due.
use Rattle.std.specs.Prelude.{◌≡◌, ℕ, Bool, true, Option, Some, None, List, [], ◌∷◌}
use Rattle.cf_row.specs.Rows.{Replica, stages_of}
use Rattle.cf_row.specs.Numbers.{FollowsRule}
use Rattle.cf_row.specs.Puts.{AreWordsBehind, pairs_of}
use Rattle.cf_notes.specs.declared.noted.Noted.{Noted}
use Rattle.cf_watch.specs.Watches.{Watch}
use Rattle.cf_due.specs.Abandoning.{IsAbandonDue, NoneToAbandon}
use Rattle.cf_due.specs.Claiming.{ClaimsNext, NoneToCall}
use Rattle.cf_due.specs.Finishing.{IsFinishDue, NoneToFinish}
use Rattle.cf_due.specs.Promises.{IsCancelDue, IsLinkDue, NoneToCancel, NoneToLink}
use Rattle.cf_due.specs.Timers.{IsTimerDue, NoneToTime}
use Rattle.cf_due.specs.declared.due.Due.{Due}
use Rattle.cf_due.specs.declared.due.Due.TheVariants.{Finish, Abandon, Link, Cancel, Timer, Claim}
use Rattle.cf_notes.specs.declared.wants.Owed.{Owed}
use Rattle.cf_notes.specs.declared.wants.Want.{Want}

-- what is known of a request: the session's view of its row, the notes, what is owed of each stage, which sessions are gone, the
-- store's clock, and whether this process may claim a stage
pub record Known : Type 0 where
  pub view : Replica
  pub notes : List Noted
  pub owed : List (Option Owed)
  pub watch : Watch
  pub clock : ℕ
  pub may_claim : Bool

abbrev pub known_of : Replica → List Noted → List (Option Owed) → Watch → ℕ → Bool → Known
known_of view notes owed watch clock may_claim =
    record { view = view; notes = notes; owed = owed; watch = watch; clock = clock; may_claim = may_claim }

-- ---- that nothing of a kind is due

abbrev pub NoFinish : Known → Type 0
NoFinish k = NoneToFinish k.view k.owed (stages_of k.view)

abbrev pub NoAbandon : Known → Type 0
NoAbandon k = NoneToAbandon k.view k.watch (stages_of k.view)

abbrev pub NoLink : Known → Type 0
NoLink k = NoneToLink k.view k.notes (stages_of k.view)

abbrev pub NoCancel : Known → Type 0
NoCancel k = NoneToCancel k.view k.notes (stages_of k.view)

abbrev pub NoTimer : Known → Type 0
NoTimer k = NoneToTime k.view k.notes k.clock (stages_of k.view)

abbrev pub NoClaim : Known → Type 0
NoClaim k = k.may_claim ≡ true → NoneToCall k.view k.notes None (stages_of k.view)

pub record NothingIsDue (k : Known) : Type 0 where
  pub finish : NoFinish k
  pub abandon : NoAbandon k
  pub link : NoLink k
  pub cancel : NoCancel k
  pub timer : NoTimer k
  pub claim : NoClaim k

-- ---- what is due

-- it is due, and nothing is that goes before it
abbrev pub IsDue : Known → Due → Type 0
IsDue k (Finish f) = IsFinishDue k.view k.notes k.owed k.may_claim f
IsDue k (Abandon want) = NoFinish k × IsAbandonDue k.view k.watch want
IsDue k (Link want) = NoFinish k × NoAbandon k × IsLinkDue k.view k.notes want
IsDue k (Cancel want) = NoFinish k × NoAbandon k × NoLink k × IsCancelDue k.view k.notes want
IsDue k (Timer want) = NoFinish k × NoAbandon k × NoLink k × NoCancel k × IsTimerDue k.view k.notes k.clock want
IsDue k (Claim want) = NoFinish k × NoAbandon k × NoLink k × NoCancel k × NoTimer k × (k.may_claim ≡ true) × ClaimsNext k.view k.notes want

-- ---- its words

abbrev pub word_in : Option Want → List ℕ
word_in None = []
word_in (Some want) = want.word ∷ []

abbrev pub words_of : Due → List ℕ
words_of (Finish f) = f.finish.word ∷ word_in f.claim
words_of (Abandon want) = want.word ∷ []
words_of (Link want) = want.word ∷ []
words_of (Cancel want) = want.word ∷ []
words_of (Timer want) = want.word ∷ []
words_of (Claim want) = want.word ∷ []

-- the graph takes these words behind all that was seen, and their caller's number is the session's
pub record FitBehind (r : Replica) (words : List ℕ) : Type 0 where
  pub who : ℕ
  pub rule : FollowsRule (pairs_of r.seen) (r.session, who)
  pub each : AreWordsBehind r who words
