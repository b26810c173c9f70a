-- Laws of work and of whole reports.
use Rattle.std.specs.Prelude.{◌≡◌, List, None, length}
use Rattle.cf_model.specs.States.{State, lowest_ready_of}
use Rattle.cf_script_reading.specs.declared.func.Func.{Func}
use Rattle.cf_script.specs.Working.{worked}

-- work goes on until nothing is ready, so the bound on its turns cuts nothing off
abbrev pub WorkLeavesNothingReady : Type 0
WorkLeavesNothingReady =
    (functions : List Func) (s : State) → length s.stages ≡ length s.plan.stages → lowest_ready_of ((worked functions s).1) ≡ None
