-- Which stages events and questions may name.
use Rattle.std.specs.Prelude.{◌≡◌, ℕ, ◌<◌, Bool, true, ◌&&◌, is_some, length, nat_lt, List, [], ◌∷◌, All}
use Rattle.std.specs.List.{list_all}
use Rattle.cf_forms.specs.Plans.{fits_form, sources_of}
use Rattle.cf_model.specs.declared.asks.Ask.{Ask}
use Rattle.cf_model.specs.declared.asks.Ask.TheVariants.{Now as AsksNow, Outcome as AsksOutcome}
use Rattle.cf_model.specs.declared.events.Event.{Event}
use Rattle.cf_model.specs.declared.events.Event.TheVariants.{Complete as Completes, Fail as Fails, FailAs as FailsAs, Cancel as Cancels, Claim as Claims, Finish as Finishes, Tick as Ticks, Attach as Attaches}
use Rattle.cf_model.specs.States.{State}
use Rattle.cf_model.specs.Events.{answered}

-- the stages that an event names are among n, and a stage that it attaches fits its form
abbrev pub EventFits : ℕ → Event → Type 0
EventFits n (Completes who i v) = i < n
EventFits n (Fails who i code) = i < n
EventFits n (FailsAs who i failure) = i < n
EventFits n (Cancels who i) = i < n
EventFits n (Claims who i) = i < n
EventFits n (Finishes who i answer) = i < n
EventFits n (Ticks who now) = Unit {0}
EventFits n (Attaches who form of function) = (fits_form form (length (sources_of of)) (is_some function) ≡ true) × All (λ j. j < n) (sources_of of)

-- the same as a Bool, which `fits-decides` proves
abbrev pub fits : ℕ → Event → Bool
fits n (Completes who i v) = nat_lt i n
fits n (Fails who i code) = nat_lt i n
fits n (FailsAs who i failure) = nat_lt i n
fits n (Cancels who i) = nat_lt i n
fits n (Claims who i) = nat_lt i n
fits n (Finishes who i answer) = nat_lt i n
fits n (Ticks who now) = true
fits n (Attaches who form of function) = fits_form form (length (sources_of of)) (is_some function) && list_all (λ j. nat_lt j n) (sources_of of)

-- each event fits the graph as those before it leave it
abbrev pub EventsFit : State → List Event → Type 0
EventsFit s [] = Unit {0}
EventsFit s (e ∷ events) = EventFits (length s.plan.stages) e × EventsFit ((answered s e).1) events

-- the stage that is asked about is one of n
abbrev pub AskFits : ℕ → Ask → Type 0
AskFits n (AsksNow i absent) = i < n
AskFits n (AsksOutcome i) = i < n
