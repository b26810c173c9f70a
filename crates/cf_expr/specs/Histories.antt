-- Plain histories, whose outcomes the expressions tell, and quiet states.
use Rattle.std.specs.Prelude.{◌≡◌, ℕ, length, ◌<◌, ◌==◌, ◌&&◌, Bool, true, false, Option, Some, None, List, [], ◌∷◌, if◌then◌else◌, All}
use Rattle.cf_forms.specs.declared.forms.Form.{Form}
use Rattle.cf_forms.specs.declared.forms.Form.TheVariants.{Source, ApplyEither, AcceptEither, RunEither, AnyOf}
use Rattle.cf_forms.specs.declared.forms.Args.{Args}
use Rattle.cf_forms.specs.declared.limits.Limit.{Limit}
use Rattle.cf_forms.specs.Meanings.{Meanings, stage_answer}
use Rattle.cf_forms.specs.Plans.{Planned, PlannedStage, form_at}
use Rattle.cf_model.specs.declared.stage.Stage.{Stage}
use Rattle.cf_model.specs.declared.stage.Stage.TheVariants.{Ready, Claimed}
use Rattle.cf_model.specs.declared.replies.Claimed.TheVariants.{Granted}
use Rattle.cf_model.specs.declared.replies.Finished.TheVariants.{Won}
use Rattle.cf_model.specs.declared.events.Event.{Event}
use Rattle.cf_model.specs.declared.events.Event.TheVariants.{Complete as Completes, Fail as Fails, FailAs as FailsAs, Cancel as Cancels, Claim as Claims, Finish as Finishes, Tick as Ticks, Attach as Attaches}
use Rattle.cf_model.specs.declared.events.Reply.{Reply}
use Rattle.cf_model.specs.declared.events.Reply.TheVariants.{Claim as ToldClaim}
use Rattle.cf_model.specs.States.{State}
use Rattle.cf_model.specs.Events.{answered, finishing}

-- whether a form waits for all of its sources
abbrev pub is_plain_form : Form → Bool
is_plain_form ApplyEither = false
is_plain_form AcceptEither = false
is_plain_form RunEither = false
is_plain_form AnyOf = false
is_plain_form form = true

-- no stage is an either form or an anyOf
abbrev pub IsPlainPlan : Planned → Type 0
IsPlainPlan plan = All (λ (p : PlannedStage). is_plain_form p.form ≡ true) plan.stages

-- the arguments that were last granted to each caller for each stage
abbrev pub Grants : Type 0
Grants = ℕ → ℕ → Option Args

abbrev pub nothing_granted : Grants
nothing_granted who i = None

-- the same once this event has this reply
abbrev pub granted_with : Grants → Event → Reply → Grants
granted_with granted (Claims who i) (ToldClaim (Granted args)) w k = if w == who && k == i then Some args else granted w k
granted_with granted event reply w k = granted w k

-- what was granted after these events
abbrev pub grants_after : Grants → State → List Event → Grants
grants_after granted s [] = granted
grants_after granted s (e ∷ events) = grants_after (granted_with granted e ((answered s e).0)) ((answered s e).1) events

-- stage i is there, and is a source
abbrev pub IsSource : List PlannedStage → ℕ → Type 0
IsSource stages i = (i < length stages) × (form_at stages i ≡ Source)

-- Sources alone are settled from outside, once they are there, no limit comes due, and a finish that wins has the answer that the stage's function
-- means for the arguments that its claim was granted.
abbrev pub IsPlainEvent : Meanings → Grants → State → Event → Type 0
IsPlainEvent meanings granted s (Completes who i v) = IsSource s.plan.stages i
IsPlainEvent meanings granted s (Fails who i code) = IsSource s.plan.stages i
IsPlainEvent meanings granted s (FailsAs who i failure) = IsSource s.plan.stages i
IsPlainEvent meanings granted s (Cancels who i) = IsSource s.plan.stages i
IsPlainEvent meanings granted s (Claims who i) = Unit {0}
IsPlainEvent meanings granted s (Finishes who i answer) =
    (finishing s who i answer).0 ≡ Won → (args : Args) → granted who i ≡ Some args →
    answer ≡ stage_answer meanings s.plan.stages i args
IsPlainEvent meanings granted s (Ticks who now) = All (λ (l : Limit). now < l.at) s.plan.limits
IsPlainEvent meanings granted s (Attaches who form of function) = Unit {0}

-- each of these events is plain where it stands
abbrev pub IsPlain : Meanings → Grants → State → List Event → Type 0
IsPlain meanings granted s [] = Unit {0}
IsPlain meanings granted s (e ∷ events) =
    IsPlainEvent meanings granted s e × IsPlain meanings (granted_with granted e ((answered s e).0)) ((answered s e).1) events

-- whether a stage is neither ready nor claimed
abbrev pub is_at_rest : Stage → Bool
is_at_rest (Ready args) = false
is_at_rest Claimed = false
is_at_rest stage = true

-- no stage is ready and none is claimed
abbrev pub IsQuiet : State → Type 0
IsQuiet s = All (λ x. is_at_rest x ≡ true) s.stages

-- whether it is work: a claim or a finish
abbrev pub is_work : Event → Bool
is_work (Claims who i) = true
is_work (Finishes who i answer) = true
is_work event = false

-- these events without the claims and finishes among them
abbrev pub without_work : List Event → List Event
without_work [] = []
without_work (e ∷ events) = if is_work e then without_work events else e ∷ without_work events
