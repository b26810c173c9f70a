use Rattle.std.proofs.Common.{◌++◌, ◌∷◌, [], length, map, ap, ◌∙◌, subst}
use mathlib.Core.List.{map-append}
use Rattle.cf_desk.specs.Views.{Pass, state_of}
use Rattle.cf_desk.specs.Keepings.{IsCallers, IsFit, pass_kept}
use Rattle.cf_desk.proofs.Meets.{joins}
use Rattle.cf_desk.proofs.desk.closing.take_apart.Goals as goal

pub join_seat-requires : goal.join_seat-requires
join_seat-requires c = (c.requires.table.1, ap (λ (h : Pass). h.table) c.pass.view_is ∙ c.requires.table.0, ap (λ m. m.1) c.pass.invariant.one, c.requires.words, joins _ _ _ _ _)

pub returns-clause-seat : goal.returns-clause-seat
returns-clause-seat c =
    let v = c.pass.view_is in
    let old = c.args.seat.now.me in
    c.join_seat.ensures.2 ∙ (λ i. (old.0 ++ (c.pass.invariant.one i).0, old.1)) ∙ (λ i. (old.0 ++ (v i).known ∷ [], old.1))

pub returns-clause-kept : goal.returns-clause-kept
returns-clause-kept c =
    let v = c.pass.view_is in
    let a = c.pass.invariant.agrees in
    let old = c.args.kept.now.items in
    ap (map pass_kept) c.push_reserved.ensures.items ∙ map-append pass_kept old _ ∙ (λ i. map pass_kept old ++ ((a.caller ∙ ap (λ (h : Pass). h.known.caller) v) i, (v i).records) ∷ [])

pub returns-clause-replica : goal.returns-clause-replica
returns-clause-replica c =
    let v = c.pass.view_is in
    let a = c.pass.invariant.agrees in
    (a.state ∙ ap (λ (h : Pass). state_of h.known) v, a.count ∙ ap (λ (h : Pass). length h.known.seen) v)

pub returns-clause-caller : goal.returns-clause-caller
returns-clause-caller c = subst IsCallers c.pass.view_is c.pass.invariant.agrees.one_of

pub returns-clause-fit : goal.returns-clause-fit
returns-clause-fit c = subst IsFit c.pass.view_is c.pass.invariant.agrees.fits
