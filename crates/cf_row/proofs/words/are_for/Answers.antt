use Rattle.std.proofs.Common.{◌+◌, ◌-◌, refl, sym, subst, arith}
use Rattle.std.proofs.lemmas.List.{drop_all}
use Rattle.cf_row.specs.Puts.{AreWordsFor}
use Rattle.cf_row.proofs.Fitting.{all_more, rest_more}
use Rattle.cf_row.proofs.words.are_for.Goals as goal

pub loop-word-preserved : goal.loop-word-preserved
loop-word-preserved c =
    let words = c.args.words.now in
    let k = c.loop-word.word-index in
    let there = c.loop-word.there in
    let left = c.loop-word.left in
    let more = c.in-Some.more in
    let one = c.in-Some.ensures.is in
    let count = c.in-Some.ensures.count in
    let inv = c.loop-word.invariant in
    let few = inv.few in
    let enough = one.left in
    record {
      few = omega (arith, few, enough, count);
      all = λ h. inv.all (all_more c.args.who there left (there + more) (left - more) k more words (omega arith) one count refl refl h);
      rest = λ h. rest_more c.args.who there left (there + more) (left - more) k more words (omega arith) count refl refl (inv.rest h);
    }

pub returns-clause-are : goal.returns-clause-are
returns-clause-are c =
    c.loop-word.invariant.all (subst (AreWordsFor c.args.who c.loop-word.there c.loop-word.left) (sym (drop_all c.loop-word.word-index c.args.words.now (omega arith))) tt)
