-- To which session each claim was granted.
use Rattle.std.specs.Prelude.{◌≡◌, ◌≢◌, ℕ, ◌+◌, ◌<◌, ◌≤◌, Option, Some, None, List, [], ◌∷◌, ◌++◌, Contains, length}
use Rattle.std.specs.declared.vec.Vec.{Vec}
use Rattle.std.specs.Vec.{vec_capacity}
use Rattle.cf_forms.specs.Plans.{Planned}
use Rattle.cf_model.specs.declared.replies.Claimed.TheVariants.{Granted}
use Rattle.cf_model.specs.declared.events.Event.{Event}
use Rattle.cf_model.specs.declared.events.Event.TheVariants.{Claim as Claims}
use Rattle.cf_model.specs.declared.events.Reply.{Reply}
use Rattle.cf_model.specs.declared.events.Reply.TheVariants.{Claim as ToldClaim}
use Rattle.cf_model.specs.States.{State, claim_at, outcome_at, start}
use Rattle.cf_model.specs.Events.{answered}
use Rattle.cf_row.specs.declared.entry.Entry.{Entry}
use Rattle.cf_row.specs.declared.grants.Claim.{Claim}
use Rattle.cf_row.specs.Rows.{Replica, history_of, session_of, state_of}

-- the stage whose claim this reply to this event grants
abbrev pub granted_by : Event → Reply → Option ℕ
granted_by (Claims who i) (ToldClaim (Granted args)) = Some i
granted_by event reply = None

abbrev pub claim_of : Option ℕ → ℕ → List Claim
claim_of None session = []
claim_of (Some i) session = (record { stage = i; session = session }) ∷ []

-- the claims that these entries were granted, in order, each with the session that put it
abbrev pub granted_from : State → List Entry → List Event → List Claim
granted_from s [] events = []
granted_from s (x ∷ row) [] = []
granted_from s (x ∷ row) (e ∷ events) =
    let reply = answered s e in claim_of (granted_by e reply.0) (session_of x.token) ++ granted_from reply.1 row events

-- those of a row
abbrev pub granted_in : Planned → List Entry → List Claim
granted_in plan row = granted_from (start plan) row (history_of row)

-- a session's claim of a stage was granted
abbrev pub IsGrantedTo : Replica → ℕ → ℕ → Type 0
IsGrantedTo r session i = Contains (granted_in r.plan r.seen) (record { stage = i; session = session })

-- of a stage's claims one at most is granted, so it is one session's
abbrev pub ClaimsAreOnes : Type 0
ClaimsAreOnes =
    (plan : Planned) (row : List Entry) (i s t : ℕ) → Contains (granted_in plan row) (record { stage = i; session = s }) →
    Contains (granted_in plan row) (record { stage = i; session = t }) → s ≡ t

-- of a list of claims that were granted, a stage's is this session's and open, and the stage isn't settled
pub record IsHeldIn (claims : List Claim) (s : State) (session i : ℕ) : Type 0 where
  pub granted : Contains claims (record { stage = i; session = session })
  pub claimed : claim_at s i ≢ None
  pub unsettled : outcome_at s i ≡ None

-- no stage from a number up to another is such a one
abbrev pub NoneHeldIn : List Claim → State → ℕ → ℕ → ℕ → Type 0
NoneHeldIn claims s session from to = (k : ℕ) → from ≤ k → k < to → ¬ IsHeldIn claims s session k

-- the same of a view: its session or another has the stage, whose function is to run, or runs, there
abbrev pub IsHeldBy : Replica → ℕ → ℕ → Type 0
IsHeldBy r session i = IsHeldIn (granted_in r.plan r.seen) (state_of r) session i

abbrev pub NoneHeldBy : Replica → ℕ → ℕ → ℕ → Type 0
NoneHeldBy r session from to = NoneHeldIn (granted_in r.plan r.seen) (state_of r) session from to

-- no stage from a number up to another has an open claim
abbrev pub NoneOpen : ℕ → ℕ → State → Type 0
NoneOpen from to s = (k : ℕ) → from ≤ k → k < to → claim_at s k ≡ None

-- what is kept: the claims that were granted, with places for so many more
pub record HasClaims {Z : Type 0} (plan : Planned) (seen : List Entry) (free : ℕ) (claims : Vec Claim Z) : Type 0 where
  pub are : claims.items ≡ granted_in plan seen
  pub places : length claims.items + free ≤ vec_capacity claims
