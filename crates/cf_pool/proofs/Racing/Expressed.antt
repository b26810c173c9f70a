-- A race of a plain plan with plain steps ends as the expressions say.
use Rattle.std.proofs.Common.{◌≡◌, ◌<◌, ◌++◌, length, List, [], ◌∷◌, true, Some, All, sym, refl, ap, ◌∙◌, subst}
use Rattle.std.proofs.lemmas.List.Elements.{All-nil, All-cons}
use Rattle.cf_model.specs.declared.events.Event.{Event}
use Rattle.cf_model.specs.declared.events.Event.TheVariants.{Complete as Completes, Fail as Fails, FailAs as FailsAs, Cancel as Cancels, Claim as Claims, Finish as Finishes, Tick as Ticks, Attach as Attaches}
use Rattle.cf_model.specs.States.{State, start, outcome_at}
use Rattle.cf_model.specs.Events.{answered, state_after}
use Rattle.cf_forms.specs.Meanings.{Meanings, stage_answer}
use Rattle.cf_forms.specs.Plans.{IsBuilt, Planned}
use Rattle.cf_expr.specs.Expressions.{expr}
use Rattle.cf_expr.specs.Histories.{Grants, IsPlain, IsPlainEvent, IsPlainPlan, IsQuiet, grants_after, granted_with, is_work, nothing_granted}
use Rattle.cf_expr.proofs.Parts.{plain_append, without_work-append, work_keeps_expressions}
use Rattle.cf_expr.proofs.Runs.{quiet_is_expression}
use Rattle.cf_pool.specs.Answering.{as_meant}
use Rattle.cf_pool.specs.Races.{IsWorkHistory, IsWorkEvent, RacedIsExpression, RacesEndAlike, plan_after}

plain_event : (meanings : Meanings) (granted : Grants) (s : State) (e : Event) → IsWorkEvent (as_meant meanings) granted s e → IsPlainEvent meanings granted s e
plain_event meanings granted s (Completes who i v) h = absurd h
plain_event meanings granted s (Fails who i code) h = absurd h
plain_event meanings granted s (FailsAs who i failure) h = absurd h
plain_event meanings granted s (Cancels who i) h = absurd h
plain_event meanings granted s (Claims who i) h = tt
plain_event meanings granted s (Finishes who i answer) h = λ won given there.
    let both : Some h.0 ≡ Some given = sym h.1 ∙ there in
    let same : h.0 ≡ given = cc in
    h.2 ∙ ap (stage_answer meanings s.plan.stages i) same
plain_event meanings granted s (Ticks who now) h = absurd h
plain_event meanings granted s (Attaches who form of function) h = absurd h

work_is_plain : (meanings : Meanings) (granted : Grants) (s : State) (events : List Event) → IsWorkHistory (as_meant meanings) granted s events → IsPlain meanings granted s events
work_is_plain meanings granted s [] h = tt
work_is_plain meanings granted s (e ∷ events) h =
    (plain_event meanings granted s e h.0, work_is_plain meanings (granted_with granted e ((answered s e).0)) ((answered s e).1) events h.1)

event_is_work : (meanings : Meanings) (granted : Grants) (s : State) (e : Event) → IsWorkEvent (as_meant meanings) granted s e → is_work e ≡ true
event_is_work meanings granted s (Completes who i v) h = absurd h
event_is_work meanings granted s (Fails who i code) h = absurd h
event_is_work meanings granted s (FailsAs who i failure) h = absurd h
event_is_work meanings granted s (Cancels who i) h = absurd h
event_is_work meanings granted s (Claims who i) h = refl
event_is_work meanings granted s (Finishes who i answer) h = refl
event_is_work meanings granted s (Ticks who now) h = absurd h
event_is_work meanings granted s (Attaches who form of function) h = absurd h

all_work : (meanings : Meanings) (granted : Grants) (s : State) (events : List Event) → IsWorkHistory (as_meant meanings) granted s events → All (λ e. is_work e ≡ true) events
all_work meanings granted s [] h = All-nil (λ e. is_work e ≡ true)
all_work meanings granted s (e ∷ events) h =
    All-cons (λ e. is_work e ≡ true) e events (event_is_work meanings granted s e h.0) (all_work meanings (granted_with granted e ((answered s e).0)) ((answered s e).1) events h.1)

pub raced_is_expression : RacedIsExpression
raced_is_expression plan steps meanings workers s i plain_plan plain raced l =
    let granted = grants_after nothing_granted (start plan) steps in
    let then = state_after (start plan) steps in
    let all = plain_append meanings nothing_granted (start plan) steps raced.work plain (work_is_plain meanings granted then raced.work raced.done) in
    let grown = plan_after plan steps in
    let last = state_after (start plan) (steps ++ raced.work) in
    let same : last.plan ≡ grown = ap (λ (t : State). t.plan) (sym raced.state) ∙ raced.of_plan in
    let holds = λ (p : Planned). IsBuilt p → IsPlainPlan p → IsPlain meanings nothing_granted (start plan) (steps ++ raced.work) → IsQuiet last → i < length p.stages → outcome_at last i ≡ expr p (steps ++ raced.work) meanings i in
    ap (λ (t : State). outcome_at t i) raced.state
    ∙ subst holds same (quiet_is_expression plan (steps ++ raced.work) meanings i) (subst IsBuilt raced.of_plan raced.built) plain_plan all (subst IsQuiet raced.state raced.quiet) l
    ∙ work_keeps_expressions grown (steps ++ raced.work) steps meanings i (without_work-append steps raced.work (all_work meanings granted then raced.work raced.done))

pub races_end_alike : RacesEndAlike
races_end_alike plan steps meanings few many s r i plain_plan plain first second l =
    raced_is_expression plan steps meanings few s i plain_plan plain first l ∙ sym (raced_is_expression plan steps meanings many r i plain_plan plain second l)
