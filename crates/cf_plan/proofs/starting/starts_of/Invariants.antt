use Rattle.std.proofs.Common.{◌≡◌, take}
use Rattle.cf_forms.specs.Plans.{starts_of}
use Rattle.cf_plan.specs.Rows.{stages_of}
use Rattle.cf_plan.proofs.starting.starts_of.Given as goal

-- those of the rows so far are found
abbrev pub invariant-rows : goal.invariant-rows
invariant-rows l = l.found.items ≡ starts_of (take l.k (stages_of l.sources l.rows))
