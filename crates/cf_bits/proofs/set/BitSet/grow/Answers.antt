use Rattle.std.proofs.Common.{◌<◌, ◌∙◌, ◌++◌, ◌∷◌, [], ap, arith, false, length}
use Rattle.cf_bits.proofs.BitLemmas.{AreBits-grow, flags-grow, length-flags}
use Rattle.cf_bits.proofs.set.BitSet.grow.Goals as goal

pub invariant_of-self : goal.invariant_of-self
invariant_of-self c =
    let small : c.self.inside.len < 4096 = omega (arith, c.requires, ap length c.self.view_is, length-flags c.self.inside.len c.self.inside.words.items) in
    AreBits-grow c.self.inside.len c.self.inside.top c.self.inside.words.items c.self.invariant small

pub returns : goal.returns
returns c =
    let small : c.self.inside.len < 4096 = omega (arith, c.requires, ap length c.self.view_is, length-flags c.self.inside.len c.self.inside.words.items) in
    flags-grow c.self.inside.len c.self.inside.top c.self.inside.words.items c.self.invariant small ∙ ap (λ xs. xs ++ false ∷ []) c.self.view_is
