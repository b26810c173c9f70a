-- Words as events.
use Rattle.std.specs.Prelude.{ℕ, ℤ, ◌^◌, ◌/◌, ◌%◌, ◌==◌, ◌&&◌, nat_lt, true, false, Option, Some, None, List, [], ◌∷◌, slice_get, option_and_then, if◌then◌else◌}
use Rattle.std.specs.Int.{w32, cast_signed}
use Rattle.std.specs.Option.{option_map}
use Rattle.cf_outcome.specs.declared.outcome.Value.{Value}
use Rattle.cf_outcome.specs.declared.outcome.Value.TheVariants.{Nil, Int}
use Rattle.cf_forms.specs.declared.forms.Answer.{Answer}
use Rattle.cf_forms.specs.declared.forms.Answer.TheVariants.{Give, Throw, Link}
use Rattle.cf_forms.specs.declared.forms.Form.{Form}
use Rattle.cf_forms.specs.declared.forms.Of.{Of}
use Rattle.cf_forms.specs.declared.forms.Of.TheVariants.{None as NoSource, One, Two}
use Rattle.cf_forms.specs.Naming.{forms}
use Rattle.cf_forms.specs.Plans.{fits_form}
use Rattle.cf_model.specs.declared.events.Event.{Event}
use Rattle.cf_model.specs.declared.events.Event.TheVariants.{Complete as Completes, Fail as Fails, FailAs as FailsAs, Cancel as Cancels, Claim as Claims, Finish as Finishes, Tick as Ticks, Attach as Attaches}
use Rattle.cf_model.specs.declared.events.Failure.{Failure}
use Rattle.cf_model.specs.declared.events.Failure.TheVariants.{TimedOut, BadAnswer}
use Rattle.cf_event.specs.Words.{count_of}

-- the value with this tag and low half, if there is one
abbrev pub value_with : ℕ → ℕ → Option Value
value_with tag low =
    if tag == 0 && low == 0 then Some Nil
    else (if tag == 1 then Some (Int (cast_signed w32 low))
    else None)

-- the answer with this tag and low half, if there is one
abbrev pub answer_with : ℕ → ℕ → Option Answer
answer_with tag low =
    if tag == 2 then Some (Throw low)
    else (if tag == 3 then (if nat_lt low (2 ^ 16) then Some (Link low) else None)
    else option_map Give (value_with tag low))

-- the failure with this tag and low half, if there is one
abbrev pub failure_with : ℕ → ℕ → Option Failure
failure_with tag low =
    if tag == 0 then Some (TimedOut low)
    else (if tag == 1 then Some (BadAnswer low)
    else None)

-- so many sources with these numbers, if that can be
abbrev pub of_with : ℕ → ℕ → ℕ → Option Of
of_with count first second =
    if count == 0 && first == 0 && second == 0 then Some NoSource
    else (if count == 1 && second == 0 then Some (One first)
    else (if count == 2 then Some (Two first second)
    else None))

-- the attaching of a stage with its function's number, or with 0 where it has no function, if that fits its form
abbrev pub attach_of : ℕ → Form → Of → ℕ → Option Event
attach_of who form of function =
    if fits_form form (count_of of) true then Some (Attaches who form of (Some function))
    else (if fits_form form (count_of of) false && function == 0 then Some (Attaches who form of None)
    else None)

-- the attaching with these fields, if there is one
abbrev pub attach_with : ℕ → ℕ → ℕ → ℕ → Option Event
attach_with who first count low =
    option_and_then (λ form. option_and_then (λ of. attach_of who form of (low % 2 ^ 12)) (of_with count first (low / 2 ^ 12 % 2 ^ 12))) (slice_get forms (low / 2 ^ 24))

-- the event with these fields, if there is one
abbrev pub event_with : ℕ → ℕ → ℕ → ℕ → ℕ → Option Event
event_with kind who i tag low =
    if nat_lt 63 who then None
    else (if kind == 1 then option_map (Completes who i) (value_with tag low)
    else (if kind == 2 && tag == 0 then Some (Fails who i low)
    else (if kind == 3 && tag == 0 && low == 0 then Some (Cancels who i)
    else (if kind == 4 && tag == 0 && low == 0 then Some (Claims who i)
    else (if kind == 5 then option_map (Finishes who i) (answer_with tag low)
    else (if kind == 6 && tag == 0 && i == 0 then Some (Ticks who low)
    else (if kind == 7 then attach_with who i tag low
    else (if kind == 8 then option_map (FailsAs who i) (failure_with tag low)
    else None))))))))

-- the event of a word, if it is the word of one
unfoldable pub event_of : ℕ → Option Event
event_of w = event_with (w / 2 ^ 56) (w / 2 ^ 48 % 2 ^ 8) (w / 2 ^ 36 % 2 ^ 12) (w / 2 ^ 32 % 2 ^ 4) (w % 2 ^ 32)

-- the caller and the stage of a claim
abbrev pub claim_of : Event → Option (ℕ × ℕ)
claim_of (Claims who i) = Some (who, i)
claim_of e = None

-- the caller, the stage and the value of a finish whose function gave one
abbrev pub giving_of : Event → Option (ℕ × ℕ × Value)
giving_of (Finishes who i (Give v)) = Some (who, i, v)
giving_of e = None

-- the caller, the stage and the number of a completion with a number
abbrev pub completing_of : Event → Option (ℕ × ℕ × ℤ)
completing_of (Completes who i (Int z)) = Some (who, i, z)
completing_of e = None

-- the event of a word, and those of the words behind it: none where the word is no event's
abbrev pub decoded_with : Option Event → List Event → List Event
decoded_with None events = []
decoded_with (Some e) events = e ∷ events

-- the events of these words, up to the first that is no event's
abbrev pub decoded : List ℕ → List Event
decoded [] = []
decoded (w ∷ words) = decoded_with (event_of w) (decoded words)
