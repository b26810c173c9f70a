-- Why a step of this kind may never do anything.
use Rattle.std.specs.Prelude.{◌≡◌, ℕ, Option, Some, None, nat_le, if◌then◌else◌}
use Rattle.cf_model.specs.declared.events.Event.{Event}
use Rattle.cf_model.specs.declared.events.Event.TheVariants.{Complete as Completes, Fail as Fails, FailAs as FailsAs, Cancel as Cancels, Claim as Claims, Finish as Finishes, Tick as Ticks, Attach as Attaches}
use Rattle.cf_script_reading.specs.declared.script.Step.{Step}
use Rattle.cf_script_reading.specs.declared.script.Step.TheVariants.{Does, Work, Nudge}
use Rattle.cf_explain.specs.declared.remark.Idle.{Idle}
use Rattle.cf_explain.specs.declared.remark.Idle.TheVariants.{NoFunction, Settled, NotClaimed, NotLater, NoWork, NoRoom, NoTurn}

-- an event: its stage has been settled, calls no function or isn't claimed; its moment isn't later; there is no room
abbrev pub IsOfEvent : Event → Idle → Type 0
IsOfEvent (Completes who i v) (Settled k) = Unit {0}
IsOfEvent (Fails who i code) (Settled k) = Unit {0}
IsOfEvent (FailsAs who i failure) (Settled k) = Unit {0}
IsOfEvent (Cancels who i) (Settled k) = Unit {0}
IsOfEvent (Claims who i) (Settled k) = Unit {0}
IsOfEvent (Claims who i) NoFunction = Unit {0}
IsOfEvent (Finishes who i answer) NotClaimed = Unit {0}
IsOfEvent (Ticks who moment) (NotLater k) = Unit {0}
IsOfEvent (Attaches who form of function) NoRoom = Unit {0}
IsOfEvent event why = ⊥

-- a step: its event is so, no stage calls a function, or no turn is asked for
abbrev pub IsOfStep : Step → Idle → Type 0
IsOfStep (Does event) why = IsOfEvent event why
IsOfStep Work NoWork = Unit {0}
IsOfStep (Nudge turns) NoTurn = turns ≡ 0
IsOfStep step why = ⊥

-- why a tick to this moment does nothing, where the last one that wasn't past was that of a step, to a moment
abbrev pub not_later : Option (ℕ × ℕ) → ℕ → Option Idle
not_later None now = None
not_later (Some last) now = if nat_le now last.1 then Some (NotLater last.0) else None
