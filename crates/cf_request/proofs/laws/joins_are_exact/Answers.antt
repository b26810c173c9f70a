use Rattle.std.proofs.Common.{set, List, [], ◌∷◌, Contains, refl, sym, arith, subst}
use Rattle.std.proofs.lemmas.List.Elements.{Contains-append_left, Contains-append_right}
use Rattle.cf_request.specs.Endings.{JoinsAreExact}
use Rattle.cf_request.specs.declared.joins.Join.{Join}
use Rattle.cf_request.proofs.Endings.{Walk, called_set, exact_by, row, sound_first, sound_row, walk_more, walk_then}
use Rattle.cf_request.proofs.laws.joins_are_exact.Goals as goal

joins_are_exact : JoinsAreExact
joins_are_exact first old set new before after j opened none calls o sets rest =
    let sound = sound_row first old before (sound_first first none) calls j in
    let one = called_set (Unit {0}) j j old set sound sets in
    let among : Contains set.follows j = subst (λ (l : List Join). Contains l j) (sym sets.set) (Contains-append_right old.follows (j ∷ []) j (0, omega arith, refl)) in
    let on = row (Unit {0}) j set new after (λ k. among) one.sound rest in
    let front = subst (λ (l : List Join). Walk (Unit {0}) l j old.teller set.teller) (sym on.follows) (walk_more (Unit {0}) set.follows on.more j old.teller set.teller one.walk) in
    let all = walk_then (Unit {0}) new.follows j old.teller set.teller new.teller front on.walk in
    exact_by new.follows j old.teller new.teller (subst (λ (l : List Join). Contains l j) (sym on.follows) (Contains-append_left set.follows on.more j among)) on.sound.none (all.fate tt o)

pub returns : goal.returns
returns c = joins_are_exact
