use Rattle.std.proofs.Common.{◌≡◌, List, Option, ◌++◌, Some, ap, sym, ◌∙◌, refl, subst, length, take, drop, arith}
use Rattle.std.specs.Prelude.{slice_get, slice_set}
use Rattle.std.proofs.Math.Seq.{take-append_seam}
use Rattle.std.proofs.lemmas.List.{length-set}
use Rattle.cf_explore.specs.declared.found.End.{End}
use Rattle.cf_outcome.specs.declared.outcome.Outcome.{Outcome}
use Rattle.cf_explore.specs.Found.{AreApart, AreOthers, more_ended}
use Rattle.cf_explore.proofs.Apart.{apart-pushed, apart-set}
use Rattle.cf_explore.proofs.ends.add_end.Goals as goal

pub returns-in-Some-clause-ended : goal.returns-in-Some-clause-ended
returns-in-Some-clause-ended c =
    let ends = c.args.ends.now.items in
    let h = c.in-Some.ensures.there in
    let e = h.0 in
    let new = c.more_orders.new.ends in
    let there : slice_get ends c.in-Some.i ≡ Some e = subst (λ (xs : List End). slice_get xs c.in-Some.i ≡ Some e) c.deref.ensures.value h.1 in
    let same : e.outcomes.items ≡ c.args.outcomes.items = h.2 ∙ c.deref-2.ensures.value in
    let value : c.deref_mut.result.now ≡ ends = c.deref_mut.ensures.value in
    let lent : slice_get c.deref_mut.result.now c.in-Some.i ≡ Some e = subst (λ (xs : List End). slice_get xs c.in-Some.i ≡ Some e) (sym value) there in
    let made : new ≡ slice_set ends c.in-Some.i (more_ended e c.args.orders) = c.more_orders.ensures e lent ∙ ap (λ (xs : List End). slice_set xs c.in-Some.i (more_ended e c.args.orders)) value in
    let size : length new ≡ length ends = ap length made ∙ length-set ends c.in-Some.i (more_ended e c.args.orders) in
    let len : c.args.ends.now.len ≡ length new = omega (arith, c.args.ends.now.ok.0) in
    let front : take c.args.ends.now.len (new ++ drop (length new) ends) ≡ new = rw len (take-append_seam new (drop (length new) ends)) in
    (c.in-Some.i, e, there, same, front ∙ made)

pub returns-in-Some-clause-apart : goal.returns-in-Some-clause-apart
returns-in-Some-clause-apart c = λ apart.
    let is = returns-in-Some-clause-ended c in
    subst AreApart (sym is.4) (apart-set c.args.ends.now.items is.0 is.1 (more_ended is.1 c.args.orders) is.2 refl apart)

pub returns-in_ok-push-in-None-clause-apart : goal.returns-in_ok-push-in-None-clause-apart
returns-in_ok-push-in-None-clause-apart c = λ apart.
    let ends = c.args.ends.now.items in
    let new : End = record { outcomes = c.args.outcomes; orders = c.args.orders; witness = c.args.witness } in
    let asked : AreOthers ends c.deref-2.result.now = subst (λ (xs : List End). AreOthers xs c.deref-2.result.now) c.deref.ensures.value c.in-None.ensures.others in
    let others : AreOthers ends c.args.outcomes.items = subst (λ (os : List (Option Outcome)). AreOthers ends os) c.deref-2.ensures.value asked in
    subst AreApart (sym c.in_ok-push-in-None.ensures.items) (apart-pushed ends new c.args.outcomes.items refl others apart)
