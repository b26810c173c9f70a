-- Work ends with nothing ready, and keeps the plan.
use Rattle.std.proofs.Common.{List}
use Rattle.cf_forms.specs.Meanings.{meanings_of}
use Rattle.cf_model.specs.States.{State}
use Rattle.cf_model.specs.Growth.{SameShape}
use Rattle.cf_model.proofs.Working as core
use Rattle.cf_script_reading.specs.declared.func.Func.{Func}
use Rattle.cf_script_reading.specs.Functions.{func_answer}
use Rattle.cf_script.specs.Laws.{WorkLeavesNothingReady}
use Rattle.cf_script.specs.Working.{worked}

pub worked-shape : (functions : List Func) (s : State) → SameShape s ((worked functions s).1)
worked-shape functions s = core.worked-shape 63 (meanings_of func_answer functions) s

-- nothing is ready after work
pub worked-ends : WorkLeavesNothingReady
worked-ends functions s same = core.worked-ends 63 (meanings_of func_answer functions) s same
