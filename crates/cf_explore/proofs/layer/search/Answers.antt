use Rattle.std.proofs.Common.{arith, refl}
use Rattle.std.proofs.lemmas.Bool.{false≢true}
use Rattle.std.proofs.lemmas.Option.{slice_get_within}
use Rattle.cf_explore.proofs.Adding.{nowhere-more}
use Rattle.cf_explore.proofs.layer.search.Goals as goal

pub returns-then-stands_at-clause-there : goal.returns-then-stands_at-clause-there
returns-then-stands_at-clause-there c = c.if-stands_at.ensures.there refl

pub loop-i-preserved : goal.loop-i-preserved
loop-i-preserved c =
    nowhere-more c.args.entries.now c.args.situation.now c.loop-i.i c.loop-i.invariant (λ h. false≢true (c.if-stands_at.ensures.other h))

pub returns-clause-nowhere : goal.returns-clause-nowhere
returns-clause-nowhere c = λ i h.
    let within = slice_get_within c.args.entries.now i h.0 h.1 in
    c.loop-i.invariant i (omega (arith, within)) h
