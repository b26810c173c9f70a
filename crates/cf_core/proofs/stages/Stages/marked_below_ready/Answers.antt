use Rattle.std.proofs.Common.{◌+◌, ◌∙◌, arith, sym}
use Rattle.cf_core.proofs.Keeping.Lowest.{lowest_above, none_marked, ready_above, ready_unmarked}
use Rattle.cf_core.proofs.Keeping.Places.{lowest_within}
use Rattle.cf_core.proofs.stages.Stages.marked_below_ready.Goals as goal

pub returns-in-None-clause-none : goal.returns-in-None-clause-none
returns-in-None-clause-none c = ready_unmarked c.args.self.now.marks c.args.self.now.ready (sym c.lowest.ensures ∙ c.in-None.is) c.requires

pub returns-in-Some-lowest-clause-none : goal.returns-in-Some-lowest-clause-none
returns-in-Some-lowest-clause-none c =
    ready_above c.args.self.now.marks c.args.self.now.ready c.in-Some.m c.in-Some-lowest.r (sym c.lowest.ensures ∙ c.in-Some.is) (sym c.lowest-in-Some.ensures ∙ c.in-Some-lowest.is) c.if-r-m.true

pub returns-in_default-clause-below : goal.returns-in_default-clause-below
returns-in_default-clause-below c = lowest_above c.args.self.now.ready c.in-Some-lowest.r c.in-Some.m (sym c.lowest-in-Some.ensures ∙ c.in-Some-lowest.is) c.if-r-m.false

pub returns-in_default-2-clause-below : goal.returns-in_default-2-clause-below
returns-in_default-2-clause-below c =
    let m = lowest_within c.args.self.now.marks c.in-Some.m (sym c.lowest.ensures ∙ c.in-Some.is) in
    none_marked c.args.self.now.ready (c.in-Some.m + 1) (sym c.lowest-in-Some.ensures ∙ c.in_default.is) (omega (arith, c.requires))
