-- Faults, and the lines that tell them.
use Rattle.std.specs.Prelude.{ℕ, List, ◌++◌, codes}
use Rattle.std.specs.Fmt.{decimal}
use Rattle.cf_plan.specs.declared.faults.PlanFault.{PlanFault}
use Rattle.cf_plan.specs.declared.faults.PlanFault.TheVariants as plans
use Rattle.cf_script_reading.specs.Faults.{part_text}
use Rattle.cf_script_reading.specs.declared.fault.ReadingFault.{ReadingFault}
use Rattle.cf_script_reading.specs.declared.fault.ReadingFault.TheVariants as readings
use Rattle.cf_text.specs.declared.fault.ScriptFault.{ScriptFault}
use Rattle.cf_text.specs.declared.fault.ScriptFault.TheVariants as faults
use Rattle.cf_text.specs.Texts.{line}

-- a fault of reading, as the fault of a script
abbrev pub fault_of_reading : ReadingFault → ScriptFault
fault_of_reading readings.TooLong = faults.TooLong
fault_of_reading readings.NotJson = faults.NotJson
fault_of_reading (readings.Shape p) = faults.Shape p
fault_of_reading (readings.Plan e k) = faults.Plan e k
fault_of_reading (readings.Function k) = faults.Function k
fault_of_reading (readings.Step k) = faults.Step k
fault_of_reading readings.Read = faults.Read
fault_of_reading readings.NoMemory = faults.NoMemory

-- the number of a refusal
abbrev pub plan_number : PlanFault → ℕ
plan_number plans.TooManyStages = 1
plan_number plans.SourceNotLower = 2
plan_number plans.WrongSourceCount = 3
plan_number plans.FunctionMissing = 4
plan_number plans.FunctionUnwanted = 5
plan_number plans.TooManyEdges = 6
plan_number plans.NoSuchStage = 7
plan_number plans.NoMemory = 8
plan_number plans.TooManyLimits = 9

-- the line of a fault, without its line feed
abbrev pub fault_text : ScriptFault → List ℕ
fault_text faults.TooLong = codes "fault 1 too long"
fault_text faults.NotJson = codes "fault 2 not json"
fault_text (faults.Shape p) = codes "fault 3 shape " ++ part_text p
fault_text (faults.Plan e k) = codes "fault 4 plan " ++ decimal (plan_number e) ++ codes " at " ++ decimal k
fault_text (faults.Function k) = codes "fault 5 function " ++ decimal k
fault_text (faults.Step k) = codes "fault 6 step " ++ decimal k
fault_text faults.Read = codes "fault 7 read"
fault_text faults.Write = codes "fault 8 write"
fault_text faults.NoMemory = codes "fault 9 memory"
fault_text faults.RaceSize = codes "fault 10 race size"

abbrev pub fault_line : ScriptFault → List ℕ
fault_line fault = line (fault_text fault)
