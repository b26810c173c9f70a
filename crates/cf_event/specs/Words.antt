-- Events as words: `kind * 2^56 + who * 2^48 + stage * 2^36 + tag * 2^32 + low`.
use Rattle.std.specs.Prelude.{◌≡◌, ℕ, ◌+◌, ◌*◌, ◌^◌, ◌<◌, ◌≤◌, FitsSigned, ⊤, true, Option, is_some, length, unwrap_or}
use Rattle.std.specs.Int.{w32, cast_unsigned}
use Rattle.cf_outcome.specs.declared.outcome.Value.{Value}
use Rattle.cf_outcome.specs.declared.outcome.Value.TheVariants.{Nil, Int}
use Rattle.cf_forms.specs.declared.forms.Answer.{Answer}
use Rattle.cf_forms.specs.declared.forms.Answer.TheVariants.{Give, Throw, Link}
use Rattle.cf_forms.specs.declared.forms.Form.{Form}
use Rattle.cf_forms.specs.declared.forms.Of.{Of}
use Rattle.cf_forms.specs.declared.forms.Of.TheVariants.{None as NoSource, One, Two}
use Rattle.cf_forms.specs.Naming.{form_number}
use Rattle.cf_forms.specs.Plans.{fits_form, sources_of}
use Rattle.cf_model.specs.declared.events.Event.{Event}
use Rattle.cf_model.specs.declared.events.Event.TheVariants.{Complete as Completes, Fail as Fails, FailAs as FailsAs, Cancel as Cancels, Claim as Claims, Finish as Finishes, Tick as Ticks, Attach as Attaches}
use Rattle.cf_model.specs.declared.events.Failure.{Failure}
use Rattle.cf_model.specs.declared.events.Failure.TheVariants.{TimedOut, BadAnswer}

-- the word of these fields
abbrev pub word_with : ℕ → ℕ → ℕ → ℕ → ℕ → ℕ
word_with kind who stage tag low = kind * 2 ^ 56 + who * 2 ^ 48 + stage * 2 ^ 36 + tag * 2 ^ 32 + low

-- the tag and the low half of a value: an integer stands there in two's complement
abbrev pub value_tag : Value → ℕ
value_tag Nil = 0
value_tag (Int z) = 1

abbrev pub value_low : Value → ℕ
value_low Nil = 0
value_low (Int z) = cast_unsigned w32 z

-- the tag and the low half of a failure
abbrev pub failure_tag : Failure → ℕ
failure_tag (TimedOut code) = 0
failure_tag (BadAnswer code) = 1

abbrev pub failure_low : Failure → ℕ
failure_low (TimedOut code) = code
failure_low (BadAnswer code) = code

-- the tag and the low half of a function's answer
abbrev pub answer_tag : Answer → ℕ
answer_tag (Give v) = value_tag v
answer_tag (Throw code) = 2
answer_tag (Link j) = 3

abbrev pub answer_low : Answer → ℕ
answer_low (Give v) = value_low v
answer_low (Throw code) = code
answer_low (Link j) = j

-- how many sources an attached stage has, the first of them, and the second; 0 for one that isn't there
abbrev pub count_of : Of → ℕ
count_of of = length (sources_of of)

abbrev pub first_of : Of → ℕ
first_of NoSource = 0
first_of (One a) = a
first_of (Two a b) = a

abbrev pub second_of : Of → ℕ
second_of NoSource = 0
second_of (One a) = 0
second_of (Two a b) = b

-- the low half of an attached stage: its form, its second source and its function, each 0 if it isn't there
abbrev pub attach_low : Form → Of → Option ℕ → ℕ
attach_low form of function = form_number form * 2 ^ 24 + second_of of * 2 ^ 12 + unwrap_or function 0

-- the word of an event; the stage and the tag of one that attaches are its first source and the number of its sources
abbrev pub word_of : Event → ℕ
word_of (Completes who i v) = word_with 1 who i (value_tag v) (value_low v)
word_of (Fails who i code) = word_with 2 who i 0 code
word_of (FailsAs who i failure) = word_with 8 who i (failure_tag failure) (failure_low failure)
word_of (Cancels who i) = word_with 3 who i 0 0
word_of (Claims who i) = word_with 4 who i 0 0
word_of (Finishes who i answer) = word_with 5 who i (answer_tag answer) (answer_low answer)
word_of (Ticks who now) = word_with 6 who 0 0 now
word_of (Attaches who form of function) = word_with 7 who (first_of of) (count_of of) (attach_low form of function)

-- a value, and an answer, whose numbers lie in their types' ranges
abbrev pub IsValue : Value → Type 0
IsValue Nil = ⊤
IsValue (Int z) = FitsSigned w32 z

abbrev pub IsAnswer : Answer → Type 0
IsAnswer (Give v) = IsValue v
IsAnswer (Throw code) = code < 2 ^ 32
IsAnswer (Link j) = j < 2 ^ 16

-- an attached stage that has a word: its function's number is at most 4,095, and it fits its form
abbrev pub IsStage : Form → Of → Option ℕ → Type 0
IsStage form of function = (unwrap_or function 0 ≤ 4095) × (fits_form form (count_of of) (is_some function) ≡ true)

-- an event that has a word: its caller is at most 63, each stage and function that it names at most 4,095, each other number
-- lies in its type's range, and a stage that it attaches fits its form
abbrev pub IsEvent : Event → Type 0
IsEvent (Completes who i v) = (who ≤ 63) × (i ≤ 4095) × IsValue v
IsEvent (Fails who i code) = (who ≤ 63) × (i ≤ 4095) × (code < 2 ^ 32)
IsEvent (FailsAs who i failure) = (who ≤ 63) × (i ≤ 4095) × (failure_low failure < 2 ^ 32)
IsEvent (Cancels who i) = (who ≤ 63) × (i ≤ 4095)
IsEvent (Claims who i) = (who ≤ 63) × (i ≤ 4095)
IsEvent (Finishes who i answer) = (who ≤ 63) × (i ≤ 4095) × IsAnswer answer
IsEvent (Ticks who now) = (who ≤ 63) × (now < 2 ^ 32)
IsEvent (Attaches who form of function) =
    (who ≤ 63) × (first_of of ≤ 4095) × (second_of of ≤ 4095) × (unwrap_or function 0 ≤ 4095) × (fits_form form (count_of of) (is_some function) ≡ true)
