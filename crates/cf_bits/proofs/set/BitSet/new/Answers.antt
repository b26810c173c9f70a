use Rattle.std.proofs.Common.{refl}
use Rattle.cf_bits.proofs.BitLemmas.{flags-empty, AreBits-empty}
use Rattle.cf_bits.proofs.set.BitSet.new.Goals as goal

pub returns : goal.returns
returns c = rw c.in_ok-zeros.ensures (flags-empty 64 c.args.len)

pub invariant_of-result : goal.invariant_of-result
invariant_of-result c = rw c.in_ok-zeros.ensures (AreBits-empty 64 c.args.len refl c.requires)
