-- Whose calls events are, and which.
use Rattle.std.specs.Prelude.{ℕ, ◌==◌, Bool, true, false}
use Rattle.cf_model.specs.declared.events.Event.{Event}
use Rattle.cf_model.specs.declared.events.Event.TheVariants.{Complete as Completes, Fail as Fails, FailAs as FailsAs, Cancel as Cancels, Claim as Claims, Finish as Finishes, Tick as Ticks, Attach as Attaches}
use Rattle.cf_model.specs.declared.calls.Call.{Call}
use Rattle.cf_model.specs.declared.calls.Call.TheVariants.{Complete, Fail, FailAs, Cancel, Claim, Finish, Tick, Attach}

-- whether it comes from outside, and is no work: what caller 0 completes, fails, cancels and attaches, and its ticks
abbrev pub is_from_outside : Event → Bool
is_from_outside (Completes who i v) = who == 0
is_from_outside (Fails who i code) = who == 0
is_from_outside (FailsAs who i failure) = who == 0
is_from_outside (Cancels who i) = who == 0
is_from_outside (Ticks who now) = who == 0
is_from_outside (Attaches who form of function) = who == 0
is_from_outside event = false

-- whether it attaches a stage
abbrev pub is_attach : Event → Bool
is_attach (Attaches who form of function) = true
is_attach event = false

-- the caller of an event
abbrev pub who_of : Event → ℕ
who_of (Completes who i v) = who
who_of (Fails who i code) = who
who_of (FailsAs who i failure) = who
who_of (Cancels who i) = who
who_of (Claims who i) = who
who_of (Finishes who i answer) = who
who_of (Ticks who now) = who
who_of (Attaches who form of function) = who

-- the event of a caller's call
abbrev pub event_by : ℕ → Call → Event
event_by who (Complete i v) = Completes who i v
event_by who (Fail i code) = Fails who i code
event_by who (FailAs i failure) = FailsAs who i failure
event_by who (Cancel i) = Cancels who i
event_by who (Claim i) = Claims who i
event_by who (Finish i answer) = Finishes who i answer
event_by who (Tick now) = Ticks who now
event_by who (Attach form of function) = Attaches who form of function

-- the call that an event is, whoever's it is
abbrev pub as_call : Event → Call
as_call (Completes who i v) = Complete i v
as_call (Fails who i code) = Fail i code
as_call (FailsAs who i failure) = FailAs i failure
as_call (Cancels who i) = Cancel i
as_call (Claims who i) = Claim i
as_call (Finishes who i answer) = Finish i answer
as_call (Ticks who now) = Tick now
as_call (Attaches who form of function) = Attach form of function
