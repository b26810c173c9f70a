use Rattle.std.proofs.Common.{◌≡◌, ◌++◌, ◌∷◌, [], All, List, ap, sym, subst, ◌∙◌, append_assoc, append-nil, arith}
use Rattle.std.proofs.lemmas.List.{nil_from_length}
use Rattle.std.specs.Global.{Box}
use Rattle.std.specs.Vec.Iter.{into_iter_items}
use Rattle.cf_desk.specs.Views.{Desk, Pass}
use Rattle.cf_desk.proofs.Gathers.{all_at}
use Rattle.cf_c_handles.specs.Opening.{AreBoxed, IsCallerOf}
use Rattle.cf_c_handles.specs.declared.handle.object.Object.{Object}
use Rattle.cf_c_handles.proofs.Seats.{boxed_push}
use Rattle.cf_c_handles.proofs.desk.opening.boxed.Goals as goal
use Rattle.cf_c_handles.proofs.desk.opening.boxed.Goals.{In-Some}

parts : (c : In-Some) → c.args.passes.items ≡ c.next.invariant.done ++ c.in-Some.pass ∷ into_iter_items c.next-in-next.new.self
parts c = c.next.invariant.parts ∙ ap (λ l. c.next.invariant.done ++ l) c.in-Some.ensures.cases.0

pub seat-requires : goal.seat-requires
seat-requires c =
    all_at (λ (p : Pass). p.table ≡ c.args.desk.table) c.next.invariant.done c.in-Some.pass (into_iter_items c.next-in-next.new.self)
    (subst (All (λ (p : Pass). p.table ≡ c.args.desk.table)) (parts (goal.at.seat-requires c).In-Some) c.requires)
    ∙ sym (ap (λ (d : Desk). d.table) c.next.invariant.desk)

pub next-preserved : goal.next-preserved
next-preserved c =
    let i = c.next.invariant in
    let made = subst (λ d. IsCallerOf d c.in-Some.pass c.in_ok-caller.caller.value) i.desk c.in_ok-caller.ensures in record {
      done = i.done ++ c.in-Some.pass ∷ [];
      parts = parts (goal.at.next-preserved c).In-Some ∙ sym (append_assoc i.done (c.in-Some.pass ∷ []) (into_iter_items c.next-in-next.new.self));
      left = (let l = i.left in let r = c.in-Some.ensures.cases.1 in let n = c.push_reserved.ensures.len in omega (arith, c.push_reserved.ensures.capacity));
      desk = i.desk;
      boxed = subst (AreBoxed c.args.desk (i.done ++ c.in-Some.pass ∷ [])) (sym c.push_reserved.ensures.items) (boxed_push c.args.desk i.done c.next.held.items c.in-Some.pass c.in_ok-caller.caller i.boxed made);
    }

pub next-init : goal.next-init
next-init c = record {
  done = [];
  parts = sym c.into_iter-rest.ensures.rest;
  left = (let l = c.into_iter-rest.ensures.len in let n = c.in_ok-held.ensures.len in let m = c.len.ensures in omega (arith, c.in_ok-held.ensures.capacity));
  desk = c.in_ok-shared.ensures.ok;
  boxed = subst (λ (bs : List (Box Object)). AreBoxed c.args.desk [] bs) (sym c.in_ok-held.ensures.items) tt;
}

pub push_reserved-requires : goal.push_reserved-requires
push_reserved-requires c = (let l = c.next.invariant.left in let r = c.in-Some.ensures.cases.1 in omega arith)

pub returns : goal.returns
returns c =
    let i = c.next.invariant in
    let none = c.in_default.ensures.cases.0 in
    let ok = c.next.rest.rest.ok.0 in
    let empty : into_iter_items c.next.rest ≡ [] = nil_from_length (into_iter_items c.next.rest) (omega arith) in
    subst (λ (ps : List Pass). AreBoxed c.args.desk ps c.next.held.items) (sym (i.parts ∙ ap (λ l. i.done ++ l) empty ∙ append-nil i.done)) i.boxed
