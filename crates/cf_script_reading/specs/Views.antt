-- What is drafted so far and which steps were read, without where it lies in memory.
use Rattle.cf_script_reading.specs.Stages.{Drafted}
use Rattle.cf_script_reading.specs.declared.draft.Draft.{Draft}
use Rattle.cf_script_reading.specs.ReadingProgress.{Progress}
use Rattle.cf_script_reading.specs.declared.progress.Progress.{Progress as Reads}

abbrev pub drafted : Draft → Drafted
drafted d = record { plan = d.plan.plan; functions = d.functions.items }

abbrev pub progressed : Reads → Progress
progressed c = record { extent = record { stages = c.stages; room = c.room }; functions = c.functions.items; steps = c.steps.items }
