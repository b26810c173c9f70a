-- The numbers and the names of forms.
use Rattle.std.specs.Prelude.{ℕ, List, [], ◌∷◌, Option, Some, None, codes, if◌then◌else◌}
use Rattle.std.specs.Option.{option_or}
use Rattle.std.specs.Str.{bytes_eq}
use Rattle.cf_forms.specs.declared.forms.Form.{Form}
use Rattle.cf_forms.specs.declared.forms.Form.TheVariants.{Source, Supply, RunAsync, Apply, Accept, ThenRun, Combine, AcceptBoth, RunBoth, ApplyEither, AcceptEither, RunEither, Compose, Handle, WhenComplete, Exceptionally, AllOf, AnyOf, ExceptionallyCompose}

-- the number of a form, in the order in which they are declared
abbrev pub form_number : Form → ℕ
form_number Source = 0
form_number Supply = 1
form_number RunAsync = 2
form_number Apply = 3
form_number Accept = 4
form_number ThenRun = 5
form_number Combine = 6
form_number AcceptBoth = 7
form_number RunBoth = 8
form_number ApplyEither = 9
form_number AcceptEither = 10
form_number RunEither = 11
form_number Compose = 12
form_number Handle = 13
form_number WhenComplete = 14
form_number Exceptionally = 15
form_number AllOf = 16
form_number AnyOf = 17
form_number ExceptionallyCompose = 18

-- all forms, by their numbers
abbrev pub forms : List Form
forms = Source ∷ Supply ∷ RunAsync ∷ Apply ∷ Accept ∷ ThenRun ∷ Combine ∷ AcceptBoth ∷ RunBoth ∷ ApplyEither ∷ AcceptEither ∷ RunEither ∷ Compose ∷ Handle ∷ WhenComplete ∷ Exceptionally ∷ AllOf ∷ AnyOf ∷ ExceptionallyCompose ∷ []

-- the name of a form, as scripts have it
abbrev pub form_name : Form → List ℕ
form_name Source = codes "source"
form_name Supply = codes "supply"
form_name RunAsync = codes "runAsync"
form_name Apply = codes "apply"
form_name Accept = codes "accept"
form_name ThenRun = codes "thenRun"
form_name Combine = codes "combine"
form_name AcceptBoth = codes "acceptBoth"
form_name RunBoth = codes "runBoth"
form_name ApplyEither = codes "applyEither"
form_name AcceptEither = codes "acceptEither"
form_name RunEither = codes "runEither"
form_name Compose = codes "compose"
form_name Handle = codes "handle"
form_name WhenComplete = codes "whenComplete"
form_name Exceptionally = codes "exceptionally"
form_name AllOf = codes "allOf"
form_name AnyOf = codes "anyOf"
form_name ExceptionallyCompose = codes "exceptionallyCompose"

-- the forms of no source, or of any number
unfoldable pub free_form : List ℕ → Option Form
free_form name =
    if bytes_eq name (codes "source") then Some Source
    else (if bytes_eq name (codes "supply") then Some Supply
    else (if bytes_eq name (codes "runAsync") then Some RunAsync
    else (if bytes_eq name (codes "allOf") then Some AllOf
    else (if bytes_eq name (codes "anyOf") then Some AnyOf
    else None))))

-- the forms of one source that pass its fault on
unfoldable pub single_form : List ℕ → Option Form
single_form name =
    if bytes_eq name (codes "apply") then Some Apply
    else (if bytes_eq name (codes "accept") then Some Accept
    else (if bytes_eq name (codes "thenRun") then Some ThenRun
    else (if bytes_eq name (codes "compose") then Some Compose
    else None)))

-- the forms of one source whose functions are told its fault
unfoldable pub handling_form : List ℕ → Option Form
handling_form name =
    if bytes_eq name (codes "handle") then Some Handle
    else (if bytes_eq name (codes "whenComplete") then Some WhenComplete
    else (if bytes_eq name (codes "exceptionally") then Some Exceptionally
    else (if bytes_eq name (codes "exceptionallyCompose") then Some ExceptionallyCompose
    else None)))

-- the forms of two sources
unfoldable pub pair_form : List ℕ → Option Form
pair_form name =
    if bytes_eq name (codes "combine") then Some Combine
    else (if bytes_eq name (codes "acceptBoth") then Some AcceptBoth
    else (if bytes_eq name (codes "runBoth") then Some RunBoth
    else (if bytes_eq name (codes "applyEither") then Some ApplyEither
    else (if bytes_eq name (codes "acceptEither") then Some AcceptEither
    else (if bytes_eq name (codes "runEither") then Some RunEither
    else None)))))

-- the form of a name
unfoldable pub form_named : List ℕ → Option Form
form_named name = option_or (free_form name) (option_or (single_form name) (option_or (handling_form name) (pair_form name)))
