-- An event that C was told means that event.
use Rattle.std.proofs.Common.{◌≡◌, ◌∙◌, ap, ℕ, ◌≤◌, Option, Some, None, Result, Ok, Err, arith, refl}
use Rattle.std.specs.Prelude.{IfOk, unwrap_or}
use Rattle.std.proofs.lemmas.Bool.{lt-ltb}
use Rattle.cf_outcome.specs.declared.outcome.Value.{Value}
use Rattle.cf_outcome.specs.declared.outcome.Value.TheVariants.{Nil, Int}
use Rattle.cf_forms.specs.declared.forms.Answer.{Answer}
use Rattle.cf_forms.specs.declared.forms.Answer.TheVariants.{Give, Throw, Link}
use Rattle.cf_forms.specs.declared.forms.Form.{Form}
use Rattle.cf_forms.specs.declared.forms.Of.{Of}
use Rattle.cf_forms.specs.declared.forms.Of.TheVariants.{None as NoSource, One, Two}
use Rattle.cf_model.specs.declared.events.Event.{Event}
use Rattle.cf_model.specs.declared.events.Event.TheVariants.{Complete as Completes, Fail as Fails, FailAs as FailsAs, Cancel as Cancels, Claim as Claims, Finish as Finishes, Tick as Ticks, Attach as Attaches}
use Rattle.cf_model.specs.declared.events.Failure.TheVariants.{TimedOut, BadAnswer}
use Rattle.cf_event.specs.Words.{IsEvent, count_of, first_of, second_of}
use Rattle.cf_forms.proofs.NamingLemmas.{form_back}
use Rattle.cf_c_handles.specs.Answers.{HandleGives}
use Rattle.cf_c_handles.specs.Plans.{as_function, event_with, function_of, parts_with, sources_with}
use Rattle.cf_c_handles.specs.Values.{answer_of, as_answer, as_value, value_of}
use Rattle.cf_c_handles.specs.EventWords.{HasWord, as_event, event_of, told_event}
use Rattle.cf_c_handles.specs.declared.code.Code.{Code}
use Rattle.cf_c_handles.specs.declared.values.event.CfEvent.{CfEvent}

value_back : (v : Value) → value_of (as_value v) ≡ v
value_back Nil = refl
value_back (Int z) = refl

answer_back : (a : Answer) → answer_of (as_answer a) ≡ a
answer_back (Give v) = ap Give (value_back v)
answer_back (Throw code) = refl
answer_back (Link stage) = refl

sources_back : (of : Of) → sources_with (count_of of) (first_of of) (second_of of) ≡ Some of
sources_back NoSource = refl
sources_back (One a) = refl
sources_back (Two a b) = refl

function_back : (function : Option ℕ) → unwrap_or function 0 ≤ 4095 → function_of (as_function function) ≡ function
function_back None few = refl
function_back (Some n) few = rw (lt-ltb n 65536 (omega arith)) refl

attach_back : (who : ℕ) (form : Form) (of : Of) (function : Option ℕ) (f : Option Form) (s : Option Of) (number : ℕ) → f ≡ Some form → s ≡ Some of → function_of number ≡ function → event_with who (parts_with f s number) ≡ Ok (Attaches who form of function)
attach_back who form of function f s number a b c = rw a (rw b (ap (λ (x : Option ℕ). Ok (Attaches who form of x)) c))

told_back : (e : Event) → IsEvent e → event_of (as_event e) ≡ Ok e
told_back (Completes who i v) is = ap (λ (x : Value). Ok (Completes who i x)) (value_back v)
told_back (Fails who i code) is = refl
told_back (FailsAs who i (TimedOut code)) is = refl
told_back (FailsAs who i (BadAnswer code)) is = refl
told_back (Cancels who i) is = refl
told_back (Claims who i) is = refl
told_back (Finishes who i answer) is = ap (λ (x : Answer). Ok (Finishes who i x)) (answer_back answer)
told_back (Ticks who now) is = refl
told_back (Attaches who form of function) is = attach_back who form of function _ _ (as_function function) (form_back form) (sources_back of) (function_back function is.3)

-- what C gets of an event that has a word means that event
pub back_given : (event : Result Event Code) (word code : ℕ) (had has : CfEvent) → IfOk event (λ (e : Event). HasWord e word) → HandleGives (told_event event) code had has →
    IfOk event (λ (e : Event). (event_of has ≡ Ok e) × HasWord e word)
back_given (Ok e) word code had has is h = (ap event_of h.1 ∙ told_back e is.has_room, is)
back_given (Err why) word code had has is h = tt
