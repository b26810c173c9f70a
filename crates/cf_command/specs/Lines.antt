-- What is printed in place of a command.
use Rattle.std.specs.Prelude.{ℕ, List, codes}
use Rattle.cf_command.specs.declared.fault.CommandFault.{CommandFault}
use Rattle.cf_command.specs.declared.fault.CommandFault.TheVariants as faults

-- the line that tells the fault, without its line feed
abbrev pub fault_text : CommandFault → List ℕ
fault_text faults.Usage = codes "usage: cf run | cf race [--workers N]"
fault_text faults.NoMemory = codes "fault 9 memory"
