use Rattle.std.proofs.Common.{w64, arith}
use Rattle.std.proofs.lemmas.Nat.Bits.{bit_at-trailing_zeros}
use Rattle.cf_bits.proofs.word.lowest_bit.Goals as goal

pub returns : goal.returns
returns c =
    let h = bit_at-trailing_zeros w64 c.args.word c.requires (omega arith) in
    record { within = h.0; here = h.1; below = h.2 }
