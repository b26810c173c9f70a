use Rattle.std.proofs.Common.{◌≡◌, ◌∙◌, List, None, Some, ap, refl, subst}
use Rattle.std.specs.Prelude.{slice_get}
use Rattle.cf_explore.specs.declared.layer.Entry.{Entry}
use Rattle.cf_explore.specs.Layers.{IsNowhere}
use Rattle.cf_explore.proofs.layer.Layer.add.Goals as goal

pub returns-in-Some : goal.returns-in-Some
returns-in-Some c =
    let i = c.in-Some.i in
    let h = c.in-Some.ensures.there in
    let there = subst (λ (xs : List Entry). slice_get xs i ≡ Some h.0) c.deref.ensures.value h.1 in
    (i, h.0, there, h.2, c.more_orders.ensures h.0 there)

pub returns-in_ok-note-in-Some-number : goal.returns-in_ok-note-in-Some-number
returns-in_ok-note-in-Some-number c =
    let new : Entry = record { situation = c.args.situation; orders = c.args.orders; number = c.in-Some-number.number; hash = c.hash_of-hash.result } in
    (new, refl, refl, c.in-Some-number.is, ap (λ entries. entries.items) c.in_ok-note-in-Some-number.ensures ∙ c.in_ok-push-in-Some-number.ensures.items)

pub returns-in-None-number : goal.returns-in-None-number
returns-in-None-number c =
    let none : c.args.number ≡ None = c.in-None-number.is in
    (refl, none, subst (λ (xs : List Entry). IsNowhere xs c.args.situation) c.deref.ensures.value (c.in-None.ensures.nowhere none))
