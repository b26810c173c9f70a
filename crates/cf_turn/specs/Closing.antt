-- Whether nothing is left to do in a request.
use Rattle.std.specs.Prelude.{◌≡◌, ◌≢◌, ◌⊎◌, ℕ, ◌<◌, true, false, None, length}
use Rattle.cf_model.specs.States.{claim_at, outcome_at}
use Rattle.cf_row.specs.Rows.{Replica, stages_of, state_of}
use Rattle.cf_row.specs.Grants.{IsGrantedTo}
use Rattle.cf_due.specs.Abandoning.{IsOtherGone}
use Rattle.cf_part.specs.Parts.{Part}
use Rattle.cf_watch.specs.Watches.{Watch}
use Rattle.cf_turn.specs.Works.{Work, is_closed_in}

-- each of the first so many stages is settled
abbrev pub AllSettled : Replica → ℕ → Type 0
AllSettled r to = (i : ℕ) → i < to → outcome_at (state_of r) i ≢ None

-- the claim of a stage is open, and its session isn't another one that is gone
pub record IsAtWork (r : Replica) (watch : Watch) (i : ℕ) : Type 0 where
  pub session : ℕ
  pub granted : IsGrantedTo r session i
  pub claimed : claim_at (state_of r) i ≢ None
  pub stays : ¬ IsOtherGone r watch session

-- none of the first so many stages is such a one
abbrev pub NobodyAtWork : Replica → Watch → ℕ → Type 0
NobodyAtWork r watch to = (i : ℕ) → i < to → ¬ IsAtWork r watch i

-- nothing is left to do in a request of a flow: all its stages are settled, and no claim is open but of other sessions that are gone
pub record IsDone (p : Part) (watch : Watch) : Type 0 where
  pub flow : p.is_flow ≡ true
  pub settled : AllSettled p.row.replica (stages_of p.row.replica)
  pub idle : NobodyAtWork p.row.replica watch (stages_of p.row.replica)

-- it isn't closed with what was seen, and a user ends it, or it is done
pub record IsOver (w : Work) (watch : Watch) : Type 0 where
  pub unclosed : is_closed_in w ≡ false
  pub why : (0 < length w.ends) ⊎ IsDone w.part watch
