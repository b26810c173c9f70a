use Rattle.std.proofs.Common.{◌≡◌, ◌+◌, ◌++◌, ◌∷◌, [], ℕ, List, get_or, length, take, ap, sym, ◌∙◌, arith}
use Rattle.std.proofs.lemmas.List.{length-take-le, length_push, take_more}
use Rattle.cf_row.specs.declared.entry.Entry.{Entry}
use Rattle.cf_row.specs.Puts.{stamped}
use Rattle.cf_row.proofs.Tokens.{entry_of, stamped_push}
use Rattle.cf_row.proofs.row.stamp.Goals as goal

pub loop-word-preserved : goal.loop-word-preserved
loop-word-preserved c =
    let words = c.args.words.now in
    let k = c.loop-word.word-index in
    let first = c.args.first in
    let w = get_or words k 0 in
    let token = c.loop-word.token in
    let items = c.push_reserved.ensures.items in
    let inv = c.loop-word.invariant in
    let more = take_more words k 0 (omega arith) in
    let size = length-take-le k words (omega arith) in
    let is : token ≡ first + length (take k words) = omega arith in
    record {
      written = items ∙ ap (λ (l : List Entry). l ++ entry_of w token ∷ []) inv.written ∙ ap (λ (n : ℕ). stamped first (take k words) ++ entry_of w n ∷ []) is ∙ sym (stamped_push first (take k words) w) ∙ ap (stamped first) (sym more);
      count = ap length items ∙ length_push c.loop-word.put.items (entry_of w token) ∙ ap (λ (n : ℕ). n + 1) inv.count;
      room = omega (arith, c.push_reserved.ensures.capacity);
      kept = c.push_reserved.ensures.capacity ∙ inv.kept;
      token = omega arith;
    }
