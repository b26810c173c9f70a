-- Laws of whole runs.
use Rattle.std.specs.Prelude.{◌≡◌, ℕ, ◌+◌, ◌<◌, ◌≤◌, ◌==◌, Bool, true, false, length, None, Some, List, [], ◌∷◌, if◌then◌else◌, All, slice_get}
use Rattle.cf_outcome.specs.declared.outcome.Outcome.{Outcome}
use Rattle.cf_model.specs.declared.replies.Claimed.TheVariants.{Granted}
use Rattle.cf_forms.specs.declared.forms.Args.{Args}
use Rattle.cf_forms.specs.Forms.{is_decided_by_first}
use Rattle.cf_forms.specs.Plans.{Planned, IsBuilt, form_at, sources_at}
use Rattle.cf_model.specs.declared.stage.Stage.{Stage}
use Rattle.cf_model.specs.declared.stage.Stage.TheVariants.{Linked, Pending}
use Rattle.cf_model.specs.States.{State, is_ready, new_states, outcome_at, stage_at, start}
use Rattle.cf_model.specs.Claims.{is_claimable, claimable_count}
use Rattle.cf_model.specs.declared.events.Event.{Event}
use Rattle.cf_model.specs.declared.events.Event.TheVariants.{Claim as Claims}
use Rattle.cf_model.specs.declared.events.Reply.{Reply}
use Rattle.cf_model.specs.declared.events.Reply.TheVariants.{Claim as ToldClaim}
use Rattle.cf_model.specs.Events.{answered, claiming, state_after}

-- a settled stage keeps its outcome, whatever comes
abbrev pub KeepsOutcomes : Type 0
KeepsOutcomes =
    (s : State) (events : List Event) (i : ℕ) (o : Outcome) →
    outcome_at s i ≡ Some o → outcome_at (state_after s events) i ≡ Some o

-- whether this reply to this event grants a claim of stage i
abbrev pub is_grant : ℕ → Event → Reply → Bool
is_grant i (Claims who j) (ToldClaim (Granted args)) = i == j
is_grant i event reply = false

-- how many claims of stage i are granted among these events
abbrev pub grants_of : ℕ → State → List Event → ℕ
grants_of i s [] = 0
grants_of i s (e ∷ events) =
    let reply = answered s e in
    (if is_grant i e reply.0 then 1 else 0) + grants_of i reply.1 events

-- at most one claim of a stage is granted
abbrev pub GrantsOnce : Type 0
GrantsOnce = (s : State) (events : List Event) (i : ℕ) → grants_of i s events ≤ 1

-- no event makes more stages claimable, if those that there is room for are counted too
abbrev pub NeverMoreClaimable : Type 0
NeverMoreClaimable =
    (s : State) (e : Event) → let r = (answered s e).1 in
    claimable_count r + r.plan.room ≤ claimable_count s + s.plan.room

-- a granted claim leaves fewer
abbrev pub GrantsLeaveFewer : Type 0
GrantsLeaveFewer =
    (s : State) (who i : ℕ) (args : Args) → (claiming s who i).0 ≡ Granted args → claimable_count ((claiming s who i).1) < claimable_count s

-- a stage that has been claimed, linked or settled is never ready again
abbrev pub NeverReadyAgain : Type 0
NeverReadyAgain =
    (s : State) (events : List Event) (i : ℕ) →
    is_claimable (stage_at s i) ≡ false → is_ready (stage_at (state_after s events) i) ≡ false

-- each stage has taken what its sources give: treated once more, each stays as it is
abbrev pub IsClosed : State → Type 0
IsClosed s = new_states [] s.plan.stages s.stages ≡ s.stages

-- a closed state stays closed, whatever events come
abbrev pub KeepsClosed : Type 0
KeepsClosed = (s : State) (events : List Event) → IsClosed s → IsClosed (state_after s events)

-- each state that events reach from the opening is closed
abbrev pub ReachedAreClosed : Type 0
ReachedAreClosed = (plan : Planned) (events : List Event) → IsClosed (state_after (start plan) events)

-- each linked stage is linked to a lower one
abbrev pub AreLinkedLower : List Stage → Type 0
AreLinkedLower stages = (i j : ℕ) → slice_get stages i ≡ Some (Linked j) → j < i

-- so it is in each state that events reach from the opening
abbrev pub ReachedLinkLower : Type 0
ReachedLinkLower = (plan : Planned) (events : List Event) → AreLinkedLower ((state_after (start plan) events).stages)

-- While a stage whose first settled source decides it is pending, none of its sources has settled.
abbrev pub PendingHasNoneSettled : Type 0
PendingHasNoneSettled =
    (plan : Planned) (events : List Event) (i : ℕ) → let s = state_after (start plan) events in
    IsBuilt s.plan → i < length s.plan.stages → is_decided_by_first (form_at s.plan.stages i) ≡ true → stage_at s i ≡ Pending →
    All (λ j. outcome_at s j ≡ None) (sources_at s.plan.stages i)
