use Rattle.std.proofs.Common.{◌≡◌, ◌-◌, ap, arith, get_or, length, subst, sym, take}
use Rattle.std.proofs.lemmas.List.{length-take-le, take_more}
use Rattle.cf_ledger.specs.Ledgers.{DoesAll, IsShort, Ledger}
use Rattle.cf_ledger.proofs.Words.{all_more}
use Rattle.cf_ledger.proofs.ledger.Ledger.apply_all.Goals as goal

pub loop-place-preserved : goal.loop-place-preserved
loop-place-preserved c =
    let words = c.args.words.now in
    let k = c.loop-place.place in
    subst (λ ws. DoesAll c.args.self.now ws c.apply.new.self) (sym (take_more words k 0 (omega arith)))
    (all_more c.args.self.now c.loop-place.self c.apply.new.self (take k words) (get_or words k 0) c.in-Ok.field-0 c.loop-place.invariant c.in-Ok.ensures.done)

pub returns-in-Err-clause-short : goal.returns-in-Err-clause-short
returns-in-Err-clause-short c =
    let k = c.loop-place.place in
    let words = c.args.words.now in
    let taken : c.loop-place.self.free ≡ c.args.self.now.free - length (take k words) = ap (λ (l : Ledger). l.free) c.loop-place.invariant.written in
    let count = length-take-le k words (omega arith) in
    subst (λ n. IsShort n c.in-Err.why) (let less : c.loop-place.self.free ≡ c.args.self.now.free - k = omega (arith, taken, count) in less) c.in-Err.ensures.short
