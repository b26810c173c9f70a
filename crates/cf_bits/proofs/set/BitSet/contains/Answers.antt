use Rattle.std.proofs.Common.{◌∙◌, ◌%◌, ap, arith, sym, Some, eqb}
use Rattle.std.specs.Int.{bit_at}
use Rattle.cf_bits.proofs.BitLemmas.{in_words, word_within, word_found, flag_get}
use Rattle.cf_bits.proofs.set.BitSet.contains.Goals as goal

pub index-requires : goal.index-requires
index-requires c = let there = word_within c.self.inside.len c.self.inside.top c.self.inside.words.items c.args.self.now c.args.i c.self.invariant c.self.view_is c.requires in omega (arith, c.self.inside.words.ok.0, there)

pub returns : goal.returns
returns c =
    let low = in_words c.self.inside.len c.self.inside.top c.self.inside.words.items c.args.self.now c.args.i c.self.invariant c.self.view_is c.requires in
    let found = word_found c.self.inside.len c.self.inside.top c.self.inside.words.items c.args.self.now c.args.i c.index.result.now c.self.invariant c.self.view_is c.requires c.index.ensures in
    let bit = ap (λ x. Some (eqb (bit_at x (c.args.i % 64)) 1)) found in
    rw (← c.self.view_is) (flag_get c.self.inside.len c.self.inside.words.items c.args.i low ∙ sym (ap (λ x. Some x) c.has_bit.ensures ∙ bit))
