use Rattle.std.proofs.Common.{◌∙◌, arith, sym, subst, ℕ}
use Rattle.std.proofs.lemmas.Grind.{get_or_default_zero}
use Rattle.cf_bits.specs.Bits.{AreBits, IsLowestBit}
use Rattle.cf_bits.proofs.BitLemmas.{flags-lowest, flags-none}
use Rattle.cf_bits.proofs.set.BitSet.lowest.Goals as goal

pub returns-then-self-eq0 : goal.returns-then-self-eq0
returns-then-self-eq0 c =
    let P : ℕ → Type 0 = λ top. AreBits c.self.inside.len top c.self.inside.words.items in
    let none = flags-none c.self.inside.len c.self.inside.words.items (subst P c.if-self-eq0.true c.self.invariant) in
    rw (← c.self.view_is) (sym none)

pub returns : goal.returns
returns c =
    let words = c.self.inside.words in
    let bits = c.self.invariant in
    let within = c.lowest_bit-w.ensures.within in
    let at = get_or_default_zero words.items c.lowest_bit-w.result c.index-word.result.now (omega (arith, bits.count)) in
    let P : ℕ → Type 0 = λ word. IsLowestBit word c.lowest_bit.result in
    rw (← c.self.view_is)
    (sym (flags-lowest c.self.inside.len c.self.inside.top words.items c.lowest_bit-w.result c.lowest_bit.result bits c.lowest_bit-w.ensures
    (subst P (c.index-word.ensures ∙ at) c.lowest_bit.ensures)))
