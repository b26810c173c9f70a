use Rattle.std.proofs.Common.{arith, subst, ℕ}
use Rattle.cf_bits.specs.Bits.{AreBits}
use Rattle.cf_bits.proofs.BitLemmas.{flags-empty, AreBits-empty, words_zero}
use Rattle.cf_bits.proofs.set.BitSet.reset.Goals as goal

pub invariant_of-self : goal.invariant_of-self
invariant_of-self c =
    let words = c.self.inside.words in
    rw (c.fill.ensures.items (λ y e. e)) (AreBits-empty _ c.args.bound (omega (arith, words.ok.0, c.self.invariant.count)) c.requires)

pub returns-then-self-ne0 : goal.returns-then-self-ne0
returns-then-self-ne0 c = rw (c.fill.ensures.items (λ y e. e)) (flags-empty _ c.args.bound)

pub returns-else-self-ne0 : goal.returns-else-self-ne0
returns-else-self-ne0 c =
    let words = c.self.inside.words.items in
    let P : ℕ → Type 0 = λ top. AreBits c.self.inside.len top words in
    rw (words_zero c.self.inside.len words (subst P c.if-self-ne0.false c.self.invariant)) (flags-empty 64 c.args.bound)
