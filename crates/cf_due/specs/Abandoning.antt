-- What is put for a session that is gone.
use Rattle.std.specs.Prelude.{◌≡◌, ◌≢◌, ℕ}
use Rattle.cf_row.specs.Rows.{Replica}
use Rattle.cf_row.specs.Abandoning.{Abandons}
use Rattle.cf_row.specs.Grants.{NoneHeldBy}
use Rattle.cf_watch.specs.Watches.{IsGone, Watch}
use Rattle.cf_notes.specs.declared.note.Note.TheVariants.{Abandons as NotesAbandon}
use Rattle.cf_notes.specs.declared.wants.Source.TheVariants.{Gone}
use Rattle.cf_notes.specs.declared.wants.Want.{Want}
use Rattle.cf_due.specs.Settling.{place_of}

-- another session than this view's, which is gone
pub record IsOtherGone (r : Replica) (watch : Watch) (session : ℕ) : Type 0 where
  pub other : session ≢ r.session
  pub gone : IsGone watch session

-- no such session has a stage below this one
abbrev pub NoneToAbandon : Replica → Watch → ℕ → Type 0
NoneToAbandon r watch to = (session : ℕ) → IsOtherGone r watch session → NoneHeldBy r session 0 to

-- The word by which this view's session fails the lowest stage that such a session has, with the place at which the error stands that
-- says so.
pub record IsAbandonDue (r : Replica) (watch : Watch) (want : Want) : Type 0 where
  pub session : ℕ
  pub is_gone : IsOtherGone r watch session
  pub fails : Abandons r session 0 (place_of r) want.word
  pub lowest : NoneToAbandon r watch fails.stage
  pub note : want.note ≡ NotesAbandon
  pub source : want.source ≡ Gone fails.stage
