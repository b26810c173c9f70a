use Rattle.std.proofs.Common.{◌+◌, ◌∙◌, arith, sym}
use Rattle.cf_core.proofs.Keeping.Lowest.{lowest_above, none_marked}
use Rattle.cf_core.proofs.stages.Stages.marked_up_to.Goals as goal

pub returns-in_default-clause-none : goal.returns-in_default-clause-none
returns-in_default-clause-none c = lowest_above c.args.self.now.marks c.in-Some.m c.args.d (sym c.lowest.ensures ∙ c.in-Some.is) c.if-m-d.false

pub returns-in_default-2-clause-none : goal.returns-in_default-2-clause-none
returns-in_default-2-clause-none c = none_marked c.args.self.now.marks (c.args.d + 1) (sym c.lowest.ensures ∙ c.in_default.is) (omega (arith, c.requires))
