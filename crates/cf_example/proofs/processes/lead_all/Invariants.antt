use Rattle.cf_example.specs.Processes.{AreLed, Grows}
use Rattle.cf_example.proofs.processes.lead_all.Given as goal

-- the row has only grown, and all are led
abbrev pub invariant-loop-step : goal.invariant-loop-step
invariant-loop-step l = Grows l.initial.stored l.stored × AreLed l.stored l.sessions l.workers.items
