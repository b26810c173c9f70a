-- What a session puts next: the finish of what it has, and the claim of another stage.
use Rattle.std.specs.Prelude.{◌≡◌, ◌⊎◌, ℕ, ◌<◌, ◌≤◌, Bool, true, false, Option, Some, None, List, [], ◌∷◌}
use Rattle.std.specs.Option.{option_map}
use Rattle.cf_outcome.specs.declared.outcome.Outcome.{Outcome}
use Rattle.cf_outcome.specs.Outcomes.{wrap}
use Rattle.cf_forms.specs.declared.forms.Due.{Due}
use Rattle.cf_forms.specs.declared.forms.Due.TheVariants.{Needs}
use Rattle.cf_forms.specs.declared.forms.Landing.{Landing}
use Rattle.cf_forms.specs.declared.forms.Landing.TheVariants.{Settles as Lands, Links}
use Rattle.cf_forms.specs.Forms.{due_one, is_decided_by_first, landing}
use Rattle.cf_forms.specs.Plans.{Planned, form_at, sources_at}
use Rattle.cf_model.specs.declared.events.Event.TheVariants.{Claim as Claims, Finish as FinishesAs}
use Rattle.cf_model.specs.declared.events.Reply.{Reply}
use Rattle.cf_model.specs.declared.events.Reply.TheVariants.{Claim as ToldClaim}
use Rattle.cf_model.specs.declared.replies.Claimed.TheVariants.{Granted}
use Rattle.cf_model.specs.declared.stage.Stage.TheVariants.{Pending}
use Rattle.cf_model.specs.States.{State, claim_at, is_ready, outcome_at, stage_at}
use Rattle.cf_model.specs.Events.{answered, source_outcome}
use Rattle.cf_event.specs.Words.{word_of}
use Rattle.cf_ledger.specs.declared.step.Held.{Held}
use Rattle.cf_row.specs.declared.grants.Claim.{Claim}
use Rattle.cf_row.specs.declared.next.Settling.{Settling}
use Rattle.cf_row.specs.Rows.{Replica, state_of}
use Rattle.cf_row.specs.Grants.{IsGrantedTo, IsHeldIn, granted_in}
use Rattle.cf_row.specs.Numbers.{FollowsRule}
use Rattle.cf_row.specs.Puts.{AreWordsBehind, pairs_of}

-- ---- the finish

-- the word by which this view's session finishes a stage that was granted to it: its claim is open, under the session's number, and the graph takes the word behind all that was seen
pub record Finishes (r : Replica) (held : Held) (word : ℕ) : Type 0 where
  pub who : ℕ
  pub rule : FollowsRule (pairs_of r.seen) (r.session, who)
  pub granted : IsGrantedTo r r.session held.stage
  pub claimed : claim_at (state_of r) held.stage ≡ Some who
  pub is : word ≡ word_of (FinishesAs who held.stage held.answer)
  pub fits : AreWordsBehind r who (word ∷ [])

-- the stage wasn't granted to the session, or no claim of it is open under the session's number
pub record HasNoClaim (r : Replica) (stage : ℕ) : Type 0 where
  pub who : ℕ
  pub rule : FollowsRule (pairs_of r.seen) (r.session, who)
  pub none : IsGrantedTo r r.session stage → ¬ (claim_at (state_of r) stage ≡ Some who)

-- ---- what a finish makes ready

-- the outcome that a stage has where its answer lands so: a link waits for the other stage, unless that is settled
abbrev pub landed_with : State → Landing → Option Outcome
landed_with s (Lands o) = Some o
landed_with s (Links j) = option_map wrap (outcome_at s j)

-- the outcome with which a finish settles its stage, if it does so at once
abbrev pub settles_with : State → Held → Option Outcome
settles_with s held = landed_with s (landing (form_at s.plan.stages held.stage) held.stage (source_outcome s held.stage) held.answer)

abbrev pub is_needed : Due → Bool
is_needed (Needs args) = true
is_needed due = false

-- a stage of a plan whose only source is stage d, and whose function is called where that is settled with o
pub record Follows (plan : Planned) (d : ℕ) (o : Outcome) (i : ℕ) : Type 0 where
  pub only : sources_at plan.stages i ≡ d ∷ []
  pub lower : d < i
  pub first : is_decided_by_first (form_at plan.stages i) ≡ true
  pub needed : is_needed (due_one (form_at plan.stages i) o) ≡ true

-- it is ready once stage d is settled with o: it is pending till then
pub record GoesOn (s : State) (d : ℕ) (o : Outcome) (i : ℕ) : Type 0 where
  pub pending : stage_at s i ≡ Pending
  pub follows : Follows s.plan d o i

-- it does so behind the finish of a stage that the session has, by these claims
pub record IsMadeReady (claims : List Claim) (s : State) (session : ℕ) (held : Held) (i : ℕ) : Type 0 where
  pub has : IsHeldIn claims s session held.stage
  pub outcome : Outcome
  pub settles : settles_with s held ≡ Some outcome
  pub next : GoesOn s held.stage outcome i

abbrev pub IsMadeReadyBy : List Claim → State → ℕ → Option Held → ℕ → Type 0
IsMadeReadyBy claims s session None i = ⊥
IsMadeReadyBy claims s session (Some held) i = IsMadeReady claims s session held i

-- ---- the claim

-- a stage that a session could claim: it is ready, or the finish makes it so
abbrev pub CanClaimIn : List Claim → State → ℕ → Option Held → ℕ → Type 0
CanClaimIn claims s session held i = (is_ready (stage_at s i) ≡ true) ⊎ IsMadeReadyBy claims s session held i

-- no stage from a number up to another is such a one
abbrev pub NoneToClaimIn : List Claim → State → ℕ → Option Held → ℕ → ℕ → Type 0
NoneToClaimIn claims s session held from to = (k : ℕ) → from ≤ k → k < to → ¬ CanClaimIn claims s session held k

-- the same of a view
abbrev pub CanClaim : Replica → Option Held → ℕ → Type 0
CanClaim r held i = CanClaimIn (granted_in r.plan r.seen) (state_of r) r.session held i

abbrev pub NoneToClaim : Replica → Option Held → ℕ → ℕ → Type 0
NoneToClaim r held from to = NoneToClaimIn (granted_in r.plan r.seen) (state_of r) r.session held from to

-- ---- how it is found

-- what the finish settles, and with what, where it does so at once
abbrev pub Settles : List Claim → State → ℕ → Option Held → Option Settling → Type 0
Settles claims s session None after = after ≡ None
Settles claims s session (Some held) (Some after) =
    IsHeldIn claims s session held.stage × (after.stage ≡ held.stage) × (settles_with s held ≡ Some after.outcome)
Settles claims s session (Some held) None = IsHeldIn claims s session held.stage → settles_with s held ≡ None

abbrev pub GoesOnAfter : State → Option Settling → ℕ → Type 0
GoesOnAfter s None i = ⊥
GoesOnAfter s (Some after) i = GoesOn s after.stage after.outcome i

-- ---- the law

abbrev pub IsGrant : Reply → Type 0
IsGrant (ToldClaim (Granted args)) = Unit {0}
IsGrant reply = ⊥

-- The claim of a ready stage is granted. So is that of a stage that a session could claim, if it stands next behind the finish.
pub record NextClaimsAreGranted : Type 0 where
  pub alone : (r : Replica) (who i : ℕ) → CanClaim r None i → IsGrant ((answered (state_of r) (Claims who i)).0)
  pub behind : (r : Replica) (held : Held) (word i : ℕ) → (f : Finishes r held word) → CanClaim r (Some held) i →
      IsGrant ((answered ((answered (state_of r) (FinishesAs f.who held.stage held.answer)).1) (Claims f.who i)).0)
