use Rattle.std.proofs.Common.{◌∙◌, ap, length, sym}
use Rattle.cf_bits.proofs.BitLemmas.{length-flags}
use Rattle.cf_bits.proofs.set.BitSet.bound.Goals as goal

pub returns-clause-bound : goal.returns-clause-bound
returns-clause-bound c = sym (ap length (sym c.self.view_is) ∙ length-flags c.self.inside.len c.self.inside.words.items)
