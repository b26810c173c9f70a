-- The work of a script: caller 63 works by the functions that the script gives its stages.
use Rattle.std.specs.Prelude.{ℕ, List}
use Rattle.cf_forms.specs.Meanings.{meanings_of}
use Rattle.cf_model.specs.States.{State}
use Rattle.cf_model.specs.Working.{worked as worked_by}
use Rattle.cf_script_reading.specs.declared.func.Func.{Func}
use Rattle.cf_script_reading.specs.Functions.{func_answer}

-- Work until nothing is ready. Each turn claims a stage, and none is claimed twice, so as many turns as there are stages
-- are enough.
abbrev pub worked : List Func → State → ℕ × State
worked functions s = worked_by 63 (meanings_of func_answer functions) s
