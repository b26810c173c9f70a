-- Forms, sources and functions as C has them.
use Rattle.std.specs.Prelude.{ℕ, Option, Some, None, Result, Ok, Err, List, [], ◌∷◌, ◌==◌, nat_lt, slice_get, if◌then◌else◌}
use Rattle.cf_forms.specs.declared.forms.Form.{Form}
use Rattle.cf_forms.specs.declared.forms.Of.{Of}
use Rattle.cf_forms.specs.declared.forms.Of.TheVariants.{None as NoSource, One, Two}
use Rattle.cf_model.specs.declared.events.Event.{Event}
use Rattle.cf_model.specs.declared.events.Event.TheVariants.{Attach as Attaches}
use Rattle.cf_forms.specs.Naming.{forms}
use Rattle.cf_c_handles.specs.declared.values.attaching.AttachParts.{AttachParts}
use Rattle.cf_c_handles.specs.declared.code.Code.{Code}
use Rattle.cf_c_handles.specs.declared.code.Code.TheVariants.{NoSuchNumber, WrongSourceCount}

-- the form of a number
abbrev pub form_of : ℕ → Option Form
form_of form = slice_get forms form

-- a function's number, or none where it is above 65,535
abbrev pub function_of : ℕ → Option ℕ
function_of function = if nat_lt function 65536 then Some function else None

-- a function's number for C, or one that is none
abbrev pub as_function : Option ℕ → ℕ
as_function None = 4294967295
as_function (Some function) = function

-- the sources of an attached stage
abbrev pub sources_as : List ℕ → Option Of
sources_as [] = Some NoSource
sources_as (a ∷ []) = Some (One a)
sources_as (a ∷ b ∷ []) = Some (Two a b)
sources_as (a ∷ b ∷ c ∷ more) = None

-- so many sources of these two
abbrev pub sources_with : ℕ → ℕ → ℕ → Option Of
sources_with count first second =
    if count == 0 then Some NoSource
    else (if count == 1 then Some (One first)
    else (if count == 2 then Some (Two first second)
    else None))

-- the stage that is to be attached, or why there is none
abbrev pub parts_with : Option Form → Option Of → ℕ → Result AttachParts Code
parts_with None of function = Err NoSuchNumber
parts_with (Some form) None function = Err WrongSourceCount
parts_with (Some form) (Some of) function = Ok (record { form = form; of = of; function = function_of function })

abbrev pub parts_of : ℕ → List ℕ → ℕ → Result AttachParts Code
parts_of form of function = parts_with (form_of form) (sources_as of) function

-- the event by which a caller attaches these
abbrev pub event_with : ℕ → Result AttachParts Code → Result Event Code
event_with who (Ok parts) = Ok (Attaches who parts.form parts.of parts.function)
event_with who (Err fault) = Err fault

abbrev pub attach_event : ℕ → List ℕ → ℕ → Result Event Code
attach_event form of function = event_with 0 (parts_of form of function)
