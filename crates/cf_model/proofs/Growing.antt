-- Plans that have grown are within their bounds.
use Rattle.std.proofs.Common.{◌≡◌, ℕ, ◌+◌, ◌-◌, ◌<◌, ◌∷◌, ◌++◌, [], List, Bool, true, false, Option, length, length-append, zero, suc, take, arith, ap, refl, sym, ◌∙◌, subst}
use Rattle.std.specs.Prelude.{All, is_some}
use Rattle.std.proofs.Math.Seq.{take-append_seam}
use Rattle.cf_forms.specs.declared.forms.Form.{Form}
use Rattle.cf_forms.specs.declared.forms.Of.{Of}
use Rattle.cf_forms.specs.declared.limits.Limit.{Limit}
use Rattle.cf_forms.specs.Plans.{IsGrowing, Planned, PlannedStage, attached_stage, fits_form, reopened, sources_of, with_room}
use Rattle.cf_model.specs.declared.events.Event.{Event}
use Rattle.cf_model.specs.declared.events.Event.TheVariants.{Complete as Completes, Fail as Fails, FailAs as FailsAs, Cancel as Cancels, Claim as Claims, Finish as Finishes, Tick as Ticks, Attach as Attaches}
use Rattle.cf_model.specs.States.{State, start}
use Rattle.cf_model.specs.Calls.{is_attach}
use Rattle.cf_model.specs.Events.{answered, attached_by, state_after}
use Rattle.cf_model.specs.Ranges.{EventFits}
use Rattle.cf_model.specs.Growth.{GrownAreGrowing, GrownReopenAsTheyWere}
use Rattle.cf_model.proofs.Shape.{answered-frame, state_after-grows}
use Rattle.cf_forms.proofs.PlanLemmas.{growing-and_stage}

attached-growing : (room : ℕ) (s : State) (form : Form) (of : Of) (function : Option ℕ) → s.plan.room ≡ room → IsGrowing s.plan → fits_form form (length (sources_of of)) (is_some function) ≡ true →
    All (λ j. j < length s.plan.stages) (sources_of of) → IsGrowing ((attached_by room s (attached_stage form of function)).1.plan)
attached-growing zero s form of function e h fits there = h
attached-growing (suc room) s form of function e h fits there = growing-and_stage s.plan form of function h (omega (arith, e)) fits there

event-growing : (b : Bool) (s : State) (e : Event) → is_attach e ≡ b → IsGrowing s.plan → EventFits (length s.plan.stages) e → IsGrowing ((answered s e).1.plan)
event-growing false s e other h fits = subst IsGrowing (sym ((answered-frame s e other).plan)) h
event-growing true s (Attaches who form of function) is h fits = attached-growing s.plan.room s form of function refl h fits.0 fits.1
event-growing true s (Completes who i v) is h fits = cc
event-growing true s (Fails who i code) is h fits = cc
event-growing true s (FailsAs who i failure) is h fits = cc
event-growing true s (Cancels who i) is h fits = cc
event-growing true s (Claims who i) is h fits = cc
event-growing true s (Finishes who i answer) is h fits = cc
event-growing true s (Ticks who now) is h fits = cc

pub answered-growing : (s : State) (e : Event) → IsGrowing s.plan → EventFits (length s.plan.stages) e → IsGrowing ((answered s e).1.plan)
answered-growing s e h fits = event-growing (is_attach e) s e refl h fits

pub grown_growing : GrownAreGrowing
grown_growing s [] h fits = h
grown_growing s (e ∷ events) h fits = grown_growing ((answered s e).1) events (answered-growing s e h fits.0) fits.1

-- a plan that has more stages behind those of the opening
reopened_grown : (plan grown : Planned) (more : List PlannedStage) → plan.opened ≡ length plan.stages → grown.stages ≡ plan.stages ++ more → grown.limits ≡ plan.limits → grown.opened ≡ plan.opened →
    grown.room + length more ≡ plan.room → reopened grown ≡ plan
reopened_grown plan grown more whole stages limits opened room =
    let front : take grown.opened grown.stages ≡ plan.stages =
    ap (λ n. take n grown.stages) (opened ∙ whole) ∙ ap (take (length plan.stages)) stages ∙ take-append_seam plan.stages more in
    let again : grown.room + (length grown.stages - grown.opened) ≡ plan.room =
    omega (arith, whole, opened, room, ap length stages, length-append plan.stages more) in
    let made : List PlannedStage → List Limit → ℕ → ℕ → Planned = λ xs ls n r. record { stages = xs; limits = ls; opened = n; room = r } in
    ap (λ xs. made xs grown.limits grown.opened (grown.room + (length grown.stages - grown.opened))) front
    ∙ ap (λ ls. made plan.stages ls grown.opened (grown.room + (length grown.stages - grown.opened))) limits
    ∙ ap (λ n. made plan.stages plan.limits n (grown.room + (length grown.stages - grown.opened))) opened
    ∙ ap (made plan.stages plan.limits plan.opened) again

pub grown_reopens : GrownReopenAsTheyWere
grown_reopens plan room events whole =
    let opening = with_room plan room in
    let grows = state_after-grows (start opening) events in
    reopened_grown opening ((state_after (start opening) events).plan) grows.more whole grows.stages grows.limits grows.opened grows.room
