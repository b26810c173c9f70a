use Rattle.std.proofs.Common.{◌∙◌, arith}
use Rattle.std.proofs.lemmas.List.{take-replicate}
use Rattle.cf_desk.proofs.Closing.{begins}
use Rattle.cf_desk.proofs.desk.empty_row.Goals as goal

pub of_words-requires : goal.of_words-requires
of_words-requires c = begins _ _ (take-replicate c.args.terms.now.words 128 0 (let few = c.if-words-le128.true in omega arith))

pub of_words-requires-2 : goal.of_words-requires-2
of_words-requires-2 c = begins _ _ (c.as_slice.ensures.value ∙ c.in_ok-zeros.ensures.items_if_clones_equal (λ y e. e))
