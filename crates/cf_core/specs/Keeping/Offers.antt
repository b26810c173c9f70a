-- What the function of a stage is to be called with, where its sources gave values.
use Rattle.std.specs.Prelude.{Bool, true, false, Option, Some, None, List, [], ◌∷◌}
use Rattle.cf_outcome.specs.declared.outcome.Outcome.{Outcome}
use Rattle.cf_outcome.specs.declared.outcome.Outcome.TheVariants.{Value as Gives}
use Rattle.cf_forms.specs.declared.forms.Form.{Form}
use Rattle.cf_forms.specs.declared.forms.Form.TheVariants.{Supply, Apply, Combine, AcceptBoth, ApplyEither, Handle, Exceptionally}
use Rattle.cf_forms.specs.declared.forms.Args.{Args}
use Rattle.cf_forms.specs.declared.forms.Args.TheVariants.{Two}
use Rattle.cf_model.specs.declared.stage.Stage.{Stage}
use Rattle.cf_model.specs.declared.stage.Stage.TheVariants.{Ready}

-- with what the function of a ready stage is to be called
abbrev pub args_of : Stage → Option Args
args_of (Ready args) = Some args
args_of stage = None

-- the forms whose function is called with the values of both sources
abbrev pub takes_values : Form → Bool
takes_values Combine = true
takes_values AcceptBoth = true
takes_values form = false

abbrev pub two_values : List (Option Outcome) → Option Args
two_values (Some (Gives v) ∷ Some (Gives w) ∷ []) = Some (Two v w)
two_values q = None

-- the forms that settle with the value that their function gives
abbrev pub keeps_value : Form → Bool
keeps_value Supply = true
keeps_value Apply = true
keeps_value Combine = true
keeps_value ApplyEither = true
keeps_value Handle = true
keeps_value Exceptionally = true
keeps_value form = false
