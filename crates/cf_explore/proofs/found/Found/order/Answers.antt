use Rattle.std.proofs.Common.{◌≡◌, ◌-◌, ◌≤◌, ℕ, List, Some, None, arith, suc, ap, sym, ◌∙◌, subst, length, length-append, ◌∷◌, []}
use Rattle.std.specs.Prelude.{slice_get}
use Rattle.std.proofs.lemmas.Bool.{ltb-false}
use Rattle.std.proofs.lemmas.Option.{slice_get-get_or, slice_get_past}
use Rattle.std.proofs.lemmas.List.{length-reverse}
use Rattle.cf_explore.specs.declared.trail.Trace.{Trace}
use Rattle.cf_explore.proofs.Tracing.{read-begin, read-done, read-none, read-on}
use Rattle.cf_explore.proofs.found.Found.order.Goals as goal

pub loop-step-init : goal.loop-step-init
loop-step-init c = record {
  read = λ left is m p s h. read-begin m p c.args.self.now.trail.items s left c.args.witness.moves c.args.witness.number c.new-order.result.items is c.new-order.ensures.items h;
  so_many = ap length c.new-order.ensures.items;
}

pub loop-step-preserved : goal.loop-step-preserved
loop-step-preserved c =
    let trail = c.args.self.now.trail.items in
    let list = c.deref.result.now in
    let trace = c.in-Some.trace.now in
    let at = c.in-Some.ensures.lookup in
    let here : slice_get list c.loop-step.number ≡ Some trace = slice_get-get_or list c.loop-step.number trace at.3.0 ∙ ap (λ x. Some x) (sym at.1) in
    let there : slice_get trail c.loop-step.number ≡ Some trace = subst (λ (xs : List Trace). slice_get xs c.loop-step.number ≡ Some trace) c.deref.ensures.value here in
    record {
      read = λ left is m p s h.
          let before = c.loop-step.invariant.read (suc left) (omega arith) m p s h in
          read-on m p trail s left c.loop-step.number c.loop-step.order.items c.push.new.self.items trace before there c.in_ok-push-in-Some.ensures.items;
      so_many = ap length c.in_ok-push-in-Some.ensures.items ∙ omega (arith, c.loop-step.invariant.so_many, length-append c.loop-step.order.items (trace.by ∷ []));
    }

pub returns-in-None : goal.returns-in-None
returns-in-None c = λ m p s h.
    let trail = c.args.self.now.trail.items in
    let list = c.deref.result.now in
    let past : length list ≤ c.loop-step.number = ltb-false c.loop-step.number (length list) (sym c.in-None.ensures.lookup.0) in
    let here : slice_get list c.loop-step.number ≡ None = slice_get_past list c.loop-step.number past in
    let none : slice_get trail c.loop-step.number ≡ None = subst (λ (xs : List Trace). slice_get xs c.loop-step.number ≡ None) c.deref.ensures.value here in
    let left : ℕ = c.args.witness.moves - c.loop-step.step - 1 in
    absurd (read-none m p trail s left c.loop-step.number c.loop-step.order.items (c.loop-step.invariant.read (suc left) (omega (arith, c.loop-step-test.true)) m p s h) none)

pub returns : goal.returns
returns c = λ m p s h.
    let order = c.loop-step.order.items in
    let all : c.loop-step.step ≡ c.args.witness.moves = omega arith in
    read-done m p c.args.self.now.trail.items s c.args.witness.moves c.loop-step.number order c.reverse.new.self.items (c.loop-step.invariant.read 0 (omega arith) m p s h)
    c.reverse.ensures.items (c.loop-step.invariant.so_many ∙ all) (ap length c.reverse.ensures.items ∙ length-reverse order)
