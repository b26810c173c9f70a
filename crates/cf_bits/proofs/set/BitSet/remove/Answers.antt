use Rattle.std.proofs.Common.{◌<◌, ◌∙◌, ◌/◌, ◌%◌, arith, refl, false, get_or}
use Rattle.cf_bits.proofs.BitLemmas.{in_words, word_within, word_written, flags-written, AreBits-remove, cleared_positive}
use Rattle.cf_bits.proofs.set.BitSet.remove.Goals as goal

pub index-requires : goal.index-requires
index-requires c = let there = word_within c.self.inside.len c.self.inside.top c.self.inside.words.items c.args.self.now c.args.i c.self.invariant c.self.view_is c.requires in omega (arith, c.self.inside.words.ok.0, there)

pub index_mut-requires : goal.index_mut-requires
index_mut-requires c = let there = word_within c.self.inside.len c.self.inside.top c.self.inside.words.items c.args.self.now c.args.i c.self.invariant c.self.view_is c.requires in omega (arith, c.self.inside.words.ok.0, there)

pub without_bit-self-inside-requires : goal.without_bit-self-inside-requires
without_bit-self-inside-requires c = let there = word_within c.self.inside.len c.self.inside.top c.self.inside.words.items c.args.self.now c.args.i c.self.invariant c.self.view_is c.requires in omega (arith, c.self.inside.words.ok.0, there)

pub invariant_of-self-else-word-eq0 : goal.invariant_of-self-else-word-eq0
invariant_of-self-else-word-eq0 c =
    let words = c.self.inside.words in
    let bits = c.self.invariant in
    let low = in_words c.self.inside.len c.self.inside.top c.self.inside.words.items c.args.self.now c.args.i c.self.invariant c.self.view_is c.requires in
    let word = word_written c.self.inside.len c.self.inside.top c.self.inside.words.items c.args.self.now c.args.i c.index.result.now c.without_bit-word.result 0 c.self.invariant c.self.view_is c.requires c.index.ensures c.without_bit-word.ensures in
    let old = get_or words.items (c.args.i / 64) 0 in
    let some : 0 < old = cleared_positive old c.without_bit-word.result (c.args.i % 64) c.without_bit-word.type_inv word c.if-word-eq0.false in
    let tops = bits.tops (c.args.i / 64) (omega (arith, bits.few)) in
    let not_zero = c.if-word-eq0.false in
    AreBits-remove c.self.inside.len c.self.inside.top words.items c.args.i c.without_bit-word.result c.self.inside.top bits low word
    (tops ∙ omega (arith, some, not_zero)) (λ w l ne. refl)

pub returns-then-word-eq0 : goal.returns-then-word-eq0
returns-then-word-eq0 c =
    flags-written c.self.inside.len c.self.inside.top c.self.inside.words.items c.args.self.now c.args.i c.index.result.now c.without_bit-word.result 0 false c.self.invariant c.self.view_is c.requires c.index.ensures c.without_bit-word.ensures refl

pub returns-else-word-eq0 : goal.returns-else-word-eq0
returns-else-word-eq0 c =
    flags-written c.self.inside.len c.self.inside.top c.self.inside.words.items c.args.self.now c.args.i c.index.result.now c.without_bit-word.result 0 false c.self.invariant c.self.view_is c.requires c.index.ensures c.without_bit-word.ensures refl
