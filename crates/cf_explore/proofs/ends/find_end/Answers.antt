use Rattle.std.proofs.Common.{arith, refl}
use Rattle.std.proofs.lemmas.Bool.{false≢true}
use Rattle.std.proofs.lemmas.Option.{slice_get_within}
use Rattle.cf_explore.proofs.Apart.{none-more}
use Rattle.cf_explore.proofs.ends.find_end.Goals as goal

pub returns-then-has_outcomes-clause-there : goal.returns-then-has_outcomes-clause-there
returns-then-has_outcomes-clause-there c = c.if-has_outcomes.ensures.there refl

pub loop-i-preserved : goal.loop-i-preserved
loop-i-preserved c =
    none-more c.args.ends.now c.args.outcomes.now c.loop-i.i c.loop-i.invariant (λ h. false≢true (c.if-has_outcomes.ensures.other h))

pub returns-clause-others : goal.returns-clause-others
returns-clause-others c = λ i h.
    let within = slice_get_within c.args.ends.now i h.0 h.1 in
    c.loop-i.invariant i (omega (arith, within)) h
