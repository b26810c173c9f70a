-- Events as C has them, and their words.
use Rattle.std.specs.Prelude.{◌≡◌, ℕ, ◌<◌, Option, Some, None, Result, Ok, Err, ◌==◌, if◌then◌else◌}
use Rattle.cf_outcome.specs.declared.outcome.Value.TheVariants.{Nil}
use Rattle.cf_forms.specs.declared.forms.Answer.TheVariants.{Give}
use Rattle.cf_forms.specs.declared.forms.Of.{Of}
use Rattle.cf_model.specs.declared.events.Event.{Event}
use Rattle.cf_model.specs.declared.events.Event.TheVariants.{Complete as Completes, Fail as Fails, FailAs as FailsAs, Cancel as Cancels, Claim as Claims, Finish as Finishes, Tick as Ticks, Attach as Attaches}
use Rattle.cf_model.specs.declared.events.Failure.{Failure}
use Rattle.cf_model.specs.declared.events.Failure.TheVariants.{TimedOut, BadAnswer}
use Rattle.cf_model.specs.declared.calls.Call.{Call}
use Rattle.cf_model.specs.declared.calls.Call.TheVariants.{FailAs}
use Rattle.cf_event.specs.Decoding.{event_of as event_of_word}
use Rattle.cf_forms.specs.Naming.{form_number}
use Rattle.cf_event.specs.Words.{IsEvent, count_of, first_of, second_of, word_of}
use Rattle.cf_c_handles.specs.Answers.{HandleGives}
use Rattle.cf_c_handles.specs.Plans.{as_function, event_with, form_of, parts_with, sources_with}
use Rattle.cf_c_handles.specs.Values.{answer_of, as_answer, as_value, value_of}
use Rattle.cf_c_handles.specs.declared.code.Code.{Code}
use Rattle.cf_c_handles.specs.declared.code.Code.TheVariants.{NoSuchNumber, NoWord}
use Rattle.cf_c_handles.specs.declared.values.event.CfEvent.{CfEvent}

-- the failure with a code that C means by the kind of an outcome, if there is one
abbrev pub failure_of : ℕ → ℕ → Option Failure
failure_of kind code = if kind == 4 then Some (TimedOut code) else (if kind == 5 then Some (BadAnswer code) else None)

-- the failing of a stage so by a caller, as an event and as a call, or that no failure has the number
abbrev pub failing : ℕ → ℕ → Option Failure → Result Event Code
failing who i None = Err NoSuchNumber
failing who i (Some failure) = Ok (FailsAs who i failure)

abbrev pub failing_call : ℕ → Option Failure → Result Call Code
failing_call i None = Err NoSuchNumber
failing_call i (Some failure) = Ok (FailAs i failure)

-- the event that C means, or why there is none
abbrev pub event_of : CfEvent → Result Event Code
event_of e =
    if e.call == 0 then Ok (Completes e.who e.stage (value_of e.value))
    else (if e.call == 1 then Ok (Fails e.who e.stage e.code)
    else (if e.call == 2 then Ok (Cancels e.who e.stage)
    else (if e.call == 3 then Ok (Claims e.who e.stage)
    else (if e.call == 4 then Ok (Finishes e.who e.stage (answer_of e.answer))
    else (if e.call == 5 then Ok (Ticks e.who e.now)
    else (if e.call == 6 then event_with e.who (parts_with (form_of e.form) (sources_with e.sources e.first e.second) e.function)
    else (if e.call == 7 then failing e.who e.stage (failure_of e.kind e.code)
    else Err NoSuchNumber)))))))

-- an event of this call by this caller, on this stage, with nothing else
abbrev pub bare : ℕ → ℕ → ℕ → CfEvent
bare call who stage = record { call = call; kind = 0; who = who; stage = stage; value = as_value Nil; code = 0; answer = as_answer (Give Nil); now = 0; form = 0; sources = 0; first = 0; second = 0; function = 0 }

-- the same with what an attach has besides
abbrev pub attaching : ℕ → Of → ℕ → CfEvent → CfEvent
attaching form of function bare =
    record bare { form = form; sources = count_of of; first = first_of of; second = second_of of; function = function }

-- the same with what a failure has besides
abbrev pub with_failure : Failure → CfEvent → CfEvent
with_failure (TimedOut code) bare = record bare { kind = 4; code = code }
with_failure (BadAnswer code) bare = record bare { kind = 5; code = code }

-- an event for C: what its call doesn't have is 0
abbrev pub as_event : Event → CfEvent
as_event (Completes who i v) = record (bare 0 who i) { value = as_value v }
as_event (Fails who i code) = record (bare 1 who i) { code = code }
as_event (FailsAs who i failure) = with_failure failure (bare 7 who i)
as_event (Cancels who i) = bare 2 who i
as_event (Claims who i) = bare 3 who i
as_event (Finishes who i answer) = record (bare 4 who i) { answer = as_answer answer }
as_event (Ticks who now) = record (bare 5 who 0) { now = now }
as_event (Attaches who form of function) = attaching (form_number form) of (as_function function) (bare 6 who 0)

-- an event has this word
pub record HasWord (e : Event) (word : ℕ) : Type 0 where
  pub has_room : IsEvent e
  pub is : word ≡ word_of e

-- the word of an event, which is never 0, and which is this event's; or why there is none
abbrev pub IsWordOf : Result Event Code → Result ℕ Code → Type 0
IsWordOf (Ok e) (Ok word) = HasWord e word × (0 < word) × (event_of_word word ≡ Some e)
IsWordOf (Ok e) (Err fault) = (fault ≡ NoWord) × (¬ IsEvent e)
IsWordOf (Err why) r = r ≡ Err why

-- C gets the word of an event, or why there is none
pub record GivesWord (event : Result Event Code) (code had has : ℕ) : Type 0 where
  pub told : Result ℕ Code
  pub is : IsWordOf event told
  pub gives : HandleGives told code had has

-- the event that was found, or that the word is no event's
abbrev pub event_or : Option Event → Result Event Code
event_or None = Err NoWord
event_or (Some e) = Ok e

abbrev pub event_at : ℕ → Result Event Code
event_at word = event_or (event_of_word word)

-- the same for C
abbrev pub told_event : Result Event Code → Result CfEvent Code
told_event (Ok e) = Ok (as_event e)
told_event (Err why) = Err why
