-- An order that is read back from its end.
use Rattle.std.proofs.Common.{◌≡◌, ℕ, ◌+◌, List, [], ◌∷◌, ◌++◌, Some, None, length, ap, arith, refl, sym, ◌∙◌, suc, subst}
use Rattle.std.specs.Prelude.{Contains, reverse, slice_get}
use Rattle.std.proofs.lemmas.List.{reverse-append}
use Rattle.cf_forms.specs.Meanings.{Meanings}
use Rattle.cf_explore.specs.declared.step.Move.{Move}
use Rattle.cf_explore.specs.declared.trail.Trace.{Trace}
use Rattle.cf_explore.specs.Programs.{Programmed, Situated}
use Rattle.cf_explore.specs.Moves.{moved, moves}
use Rattle.cf_explore.specs.Orders.{AreMoves, IsOrder, led}
use Rattle.cf_explore.specs.Layers.{LeadsTo}

-- an order of so many moves leads to a number, and the moves that were read from there to the situation
pub record ReadUpTo (m : Meanings) (p : Programmed) (trail : List Trace) (s : Situated) (left number : ℕ) (order : List Move) : Type 0 where
  pub at : Situated
  pub leads : LeadsTo m p trail left number at
  pub can_be : AreMoves m p at (reverse order)
  pub ends : led m p at (reverse order) ≡ s

pub read-start : (m : Meanings) (p : Programmed) (trail : List Trace) (s : Situated) (k n : ℕ) → LeadsTo m p trail k n s → ReadUpTo m p trail s k n []
read-start m p trail s k n h = record { at = s; leads = h; can_be = tt; ends = refl }

pub read-more : (m : Meanings) (p : Programmed) (trail : List Trace) (s : Situated) (left number : ℕ) (order : List Move) (trace : Trace) →
    ReadUpTo m p trail s (suc left) number order → slice_get trail number ≡ Some trace → ReadUpTo m p trail s left trace.before (order ++ trace.by ∷ [])
read-more m p trail s left number order trace h there =
    let found = h.leads.0 in
    let before = h.leads.1 in
    let some : Some found ≡ Some trace = sym h.leads.2 ∙ there in
    let same : found ≡ trace = cc in
    let is : h.at ≡ moved m p before trace.by = h.leads.5 ∙ ap (λ (t : Trace). moved m p before t.by) same in
    let turned : reverse (order ++ trace.by ∷ []) ≡ trace.by ∷ reverse order = reverse-append order (trace.by ∷ []) in
    let can : Contains (moves p before) trace.by = subst (λ (t : Trace). Contains (moves p before) t.by) same h.leads.4 in
    let rest : AreMoves m p (moved m p before trace.by) (reverse order) = subst (λ (t : Situated). AreMoves m p t (reverse order)) is h.can_be in
    let end : led m p (moved m p before trace.by) (reverse order) ≡ s = subst (λ (t : Situated). led m p t (reverse order) ≡ s) is h.ends in
    let all : AreMoves m p before (trace.by ∷ reverse order) = (can, rest) in
    let to : led m p before (trace.by ∷ reverse order) ≡ s = end in
    record {
      at = before;
      leads = subst (λ (t : Trace). LeadsTo m p trail left t.before before) same h.leads.3;
      can_be = subst (AreMoves m p before) (sym turned) all;
      ends = subst (λ (o : List Move). led m p before o ≡ s) (sym turned) to;
    }

pub read-none : (m : Meanings) (p : Programmed) (trail : List Trace) (s : Situated) (left number : ℕ) (order : List Move) →
    ReadUpTo m p trail s (suc left) number order → slice_get trail number ≡ None → ⊥
read-none m p trail s left number order h none =
    let impossible : None ≡ Some h.leads.0 = sym none ∙ h.leads.2 in
    cc

pub read-done : (m : Meanings) (p : Programmed) (trail : List Trace) (s : Situated) (k number : ℕ) (order turned : List Move) →
    ReadUpTo m p trail s 0 number order → turned ≡ reverse order → length order ≡ k → length turned ≡ length order → IsOrder m p k turned s
read-done m p trail s k number order turned h is size same = record {
  can_be = subst (λ (t : Situated). AreMoves m p t turned) h.leads.1 (subst (AreMoves m p h.at) (sym is) h.can_be);
  leads = subst (λ (t : Situated). led m p t turned ≡ s) h.leads.1 (subst (λ (o : List Move). led m p h.at o ≡ s) (sym is) h.ends);
  size = same ∙ size;
}

pub read-begin : (m : Meanings) (p : Programmed) (trail : List Trace) (s : Situated) (left k n : ℕ) (order : List Move) → left + 0 ≡ k → order ≡ [] → LeadsTo m p trail k n s →
    ReadUpTo m p trail s left n order
read-begin m p trail s left k n order is none h =
    let same : k ≡ left = omega arith in
    subst (ReadUpTo m p trail s left n) (sym none) (read-start m p trail s left n (subst (λ (j : ℕ). LeadsTo m p trail j n s) same h))

pub read-on : (m : Meanings) (p : Programmed) (trail : List Trace) (s : Situated) (left number : ℕ) (order longer : List Move) (trace : Trace) →
    ReadUpTo m p trail s (suc left) number order → slice_get trail number ≡ Some trace → longer ≡ order ++ trace.by ∷ [] → ReadUpTo m p trail s left trace.before longer
read-on m p trail s left number order longer trace h there is =
    subst (ReadUpTo m p trail s left trace.before) (sym is) (read-more m p trail s left number order trace h there)
