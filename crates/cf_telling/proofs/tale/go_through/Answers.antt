use Rattle.std.proofs.Common.{Some, arith, get_or, subst, sym, take}
use Rattle.std.proofs.lemmas.List.{take_more}
use Rattle.cf_ledger.specs.Ledgers.{state_of}
use Rattle.cf_telling.specs.Tales.{AreToldOf, TellsWord}
use Rattle.cf_telling.proofs.Tales.{HasTold, told_first, told_one}
use Rattle.cf_telling.proofs.tale.go_through.Goals as goal

pub returns-in-Some : goal.returns-in-Some
returns-in-Some c =
    let words = c.args.words.now in
    let k = c.loop-place.place in
    let old = c.loop-place.entries.items in
    let now = state_of c.loop-place.ledger in
    let s = state_of c.args.ledger.now in
    let stop = subst (λ o. TellsWord (get_or words k 0) now old o (state_of c.tell_word.new.ledger) c.tell_word.new.entries.items) c.in-Some.is c.in_ok-why.ensures in
    subst (λ es. AreToldOf s words es (Some c.in-Some.why)) (sym stop.0) (told_first s words k old now c.in-Some.why (omega arith) c.loop-place.invariant stop.1)

pub loop-place-preserved : goal.loop-place-preserved
loop-place-preserved c =
    let words = c.args.words.now in
    let k = c.loop-place.place in
    let old = c.loop-place.entries.items in
    let now = state_of c.loop-place.ledger in
    let s = state_of c.args.ledger.now in
    let one = subst (λ o. TellsWord (get_or words k 0) now old o (state_of c.tell_word.new.ledger) c.tell_word.new.entries.items) c.in_default.is c.in_ok-why.ensures in
    subst (λ ws. HasTold s ws c.tell_word.new.entries.items (state_of c.tell_word.new.ledger)) (sym (take_more words k 0 (omega arith)))
    (told_one s (take k words) (get_or words k 0) old now (state_of c.tell_word.new.ledger) c.tell_word.new.entries.items c.loop-place.invariant one)
