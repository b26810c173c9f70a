-- How long nothing is to be done.
use Rattle.std.specs.Prelude.{◌≡◌, ◌≢◌, ◌⊎◌, ℕ, ◌<◌, ◌≤◌, true, Option, Some, None, List, [], slice_get}
use Rattle.cf_model.specs.States.{claim_at}
use Rattle.cf_row.specs.Rows.{Replica, state_of}
use Rattle.cf_row.specs.Grants.{IsGrantedTo}
use Rattle.cf_part.specs.Parts.{MayPlan, question_of, wanted_in}
use Rattle.cf_part.specs.Steps.{NothingToTell}
use Rattle.cf_turn.specs.declared.quiet.Quiet.{Quiet}
use Rattle.cf_turn.specs.declared.wish.End.{End}
use Rattle.cf_turn.specs.declared.wish.Wish.{Wish}
use Rattle.cf_turn.specs.Busy.{Takes}
use Rattle.cf_turn.specs.Timers.{first_timer}
use Rattle.cf_turn.specs.Turns.{IsIdle, Moment, Rests}
use Rattle.cf_turn.specs.Works.{NobodyIsTold, Work}

-- ---- what is known

-- a moment before both clocks come so far, at which a stage may be claimed only if one might have been
pub record IsWithin (q : Quiet) (at : Moment) : Type 0 where
  pub now : at.now < q.until
  pub clock : at.clock < q.clock
  pub claims : at.may_claim ≡ true → q.claims ≡ true

-- Nothing is to be done at any such moment, whichever sessions are gone. The clock's moment is that of the first timer; and so many threads
-- are taken.
pub record IsQuiet (w : Work) (q : Quiet) : Type 0 where
  pub rests : (at : Moment) → IsWithin q at → Rests w at w
  pub timer : (clock : ℕ) → clock < q.clock → first_timer clock w.part ≡ q.clock
  pub busy : Takes w.part q.busy

-- ---- what is found

-- nothing is to be done, and nothing waits for memory or tokens
pub record IsAtRest (w : Work) (at : Moment) : Type 0 where
  pub told : NobodyIsTold w at.now
  pub steps : NothingToTell w.part at.now
  pub why : (MayPlan w.part at.now × (w.wishes ≡ []) × IsIdle w at) ⊎ ((¬ MayPlan w.part at.now) × (question_of w.part at.now ≡ None))

-- each open claim of the first so many stages is that of the view's session
abbrev pub OnlyOwn : Replica → ℕ → Type 0
OnlyOwn r to = (i session : ℕ) → i < to → IsGrantedTo r session i → claim_at (state_of r) i ≢ None → session ≡ r.session

-- a moment, if it is there, has come or isn't before this one
abbrev pub IsAfter : Option ℕ → ℕ → ℕ → Type 0
IsAfter from now until = (moment : ℕ) → from ≡ Some moment → (moment ≤ now) ⊎ (until ≤ moment)

-- so those from which the first so many stages are shown
abbrev pub IsTillShown : List (Option ℕ) → ℕ → ℕ → ℕ → Type 0
IsTillShown wanted now until to = (i : ℕ) → i < to → IsAfter (wanted_in wanted i) now until

-- the first so many users wait till then
abbrev pub ActsWait : List Wish → ℕ → ℕ → Type 0
ActsWait wishes until to = (k : ℕ) (w : Wish) → k < to → slice_get wishes k ≡ Some w → until ≤ w.until

abbrev pub EndsWait : List End → ℕ → ℕ → Type 0
EndsWait ends until to = (k : ℕ) (e : End) → k < to → slice_get ends k ≡ Some e → until ≤ e.until
