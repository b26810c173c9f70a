use Rattle.std.proofs.Common.{arith, refl, true}
use Rattle.cf_bits.proofs.BitLemmas.{in_words, word_within, word_written, flags-written, AreBits-insert}
use Rattle.cf_bits.proofs.set.BitSet.insert.Goals as goal

pub index-requires : goal.index-requires
index-requires c = let there = word_within c.self.inside.len c.self.inside.top c.self.inside.words.items c.args.self.now c.args.i c.self.invariant c.self.view_is c.requires in omega (arith, c.self.inside.words.ok.0, there)

pub index_mut-requires : goal.index_mut-requires
index_mut-requires c = let there = word_within c.self.inside.len c.self.inside.top c.self.inside.words.items c.args.self.now c.args.i c.self.invariant c.self.view_is c.requires in omega (arith, c.self.inside.words.ok.0, there)

pub with_bit-self-inside-requires : goal.with_bit-self-inside-requires
with_bit-self-inside-requires c = let there = word_within c.self.inside.len c.self.inside.top c.self.inside.words.items c.args.self.now c.args.i c.self.invariant c.self.view_is c.requires in omega (arith, c.self.inside.words.ok.0, there)

pub invariant_of-self : goal.invariant_of-self
invariant_of-self c =
    let low = in_words c.self.inside.len c.self.inside.top c.self.inside.words.items c.args.self.now c.args.i c.self.invariant c.self.view_is c.requires in
    let word = word_written c.self.inside.len c.self.inside.top c.self.inside.words.items c.args.self.now c.args.i c.index.result.now c.with_bit-word.result 1 c.self.invariant c.self.view_is c.requires c.index.ensures c.with_bit-word.ensures in
    AreBits-insert c.self.inside.len c.self.inside.top c.self.inside.words.items c.args.i c.with_bit-word.result c.with_bit-self-inside.result c.self.invariant low word c.with_bit-self-inside.ensures

pub returns : goal.returns
returns c =
    flags-written c.self.inside.len c.self.inside.top c.self.inside.words.items c.args.self.now c.args.i c.index.result.now c.with_bit-word.result 1 true c.self.invariant c.self.view_is c.requires c.index.ensures c.with_bit-word.ensures refl
