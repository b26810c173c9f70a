use Rattle.std.proofs.Common.{◌≡◌, ℕ, List, [], ◌∷◌, Option, Some, true, length, refl, inl, inr, sym, ◌∙◌, subst, arith}
use Rattle.std.specs.Prelude.{◌==◌, ◌<◌, IfNone, IfSome}
use Rattle.std.proofs.lemmas.Bool.{eq-eqb, eqb-true, false≢true, not-false, not-true}
use Rattle.cf_forms.specs.Meanings.{meanings_of}
use Rattle.cf_explore.specs.declared.layer.Entry.{Entry}
use Rattle.cf_explore.specs.declared.layer.Layer.{Layer}
use Rattle.cf_explore.specs.Layers.{AreNumbered, IsNext, LeadsOn, LeadsPast}
use Rattle.cf_explore.proofs.program.Program.advance.Goals as goal

none-there : (n : ℕ) → (n == 0) ≡ true → n ≡ 0
none-there n h = eqb-true n 0 h

no-entries : (entries : List Entry) → length entries ≡ 0 → entries ≡ []
no-entries [] h = refl
no-entries (e ∷ entries) h = absurd (omega arith)

some-there : (entries : List Entry) → (length entries ≡ 0 → ⊥) → 0 < length entries
some-there [] h = absurd (h refl)
some-there (e ∷ entries) h = omega arith

some-of : (P : Layer → Type 0) (made : Option Layer) (layer : Layer) → made ≡ Some layer → IfSome made P → P layer
some-of P made layer is h = (let there : IfSome (Some layer) P = subst (λ (x : Option Layer). IfSome x P) is h in there)

pub returns-in-None-clause-advance : goal.returns-in-None-clause-advance
returns-in-None-clause-advance g c = record {
  ends = refl;
  decisions = refl;
  moves = refl;
  longer = c.in_ok-next.ensures.longer;
  next = λ wrong. absurd (false≢true wrong);
  led = λ wrong. absurd (false≢true wrong);
  whole = λ w. inl w;
  numbered = λ wrong. absurd (false≢true wrong);
  some = λ wrong. absurd (false≢true wrong);
  on = λ wrong. absurd (false≢true wrong);
  over = λ off.
      let m = meanings_of g.F.StageFn.meaning c.args.functions.now in
      let old = c.args.search.now in
      let past : LeadsPast m c.args.self.now old.found.trail.items c.next_layer.new.trail.items c.deref.result.now =
      subst (λ (x : Option Layer). IfNone x (LeadsPast m c.args.self.now old.found.trail.items c.next_layer.new.trail.items c.deref.result.now)) c.in-None.is c.in_ok-next.ensures.past in
      inr (subst (λ (es : List Entry). LeadsPast m c.args.self.now old.found.trail.items c.next_layer.new.trail.items es) c.deref.ensures.value past);
}

pub returns-in-Some-clause-advance : goal.returns-in-Some-clause-advance
returns-in-Some-clause-advance g c =
    let m = meanings_of g.F.StageFn.meaning c.args.functions.now in
    let p = c.args.self.now in
    let old = c.args.search.now in
    let layer = c.in-Some.layer in
    let here : IsNext m p c.deref.result.now layer.entries.items =
    some-of (λ (l : Layer). IsNext m p c.deref.result.now l.entries.items) c.in_ok-next.next layer c.in-Some.is c.in_ok-next.ensures.next in
    let next : IsNext m p old.layer.entries.items layer.entries.items =
    subst (λ (es : List Entry). IsNext m p es layer.entries.items) c.deref.ensures.value here in
    let led_here : LeadsOn m p old.found.trail.items c.next_layer.new.trail.items c.deref.result.now layer.entries.items =
    some-of (λ (l : Layer). LeadsOn m p old.found.trail.items c.next_layer.new.trail.items c.deref.result.now l.entries.items) c.in_ok-next.next layer c.in-Some.is c.in_ok-next.ensures.led in
    let led : LeadsOn m p old.found.trail.items c.next_layer.new.trail.items old.layer.entries.items layer.entries.items =
    subst (λ (es : List Entry). LeadsOn m p old.found.trail.items c.next_layer.new.trail.items es layer.entries.items) c.deref.ensures.value led_here in
    record {
      ends = refl;
      decisions = refl;
      moves = refl;
      longer = c.in_ok-next.ensures.longer;
      next = λ on. next;
      led = λ on. led;
      whole = λ w.
          let none = none-there layer.entries.len (sym c.is_empty-whole.ensures ∙ w) in
          let nothing : layer.entries.items ≡ [] = no-entries layer.entries.items (omega (arith, layer.entries.ok.0)) in
          inr (subst (λ (es : List Entry). IsNext m p old.layer.entries.items es) nothing next);
      numbered = λ on. some-of (λ (l : Layer). AreNumbered (length old.found.trail.items) c.next_layer.new.trail.items l.entries.items) c.in_ok-next.next layer c.in-Some.is c.in_ok-next.ensures.numbered;
      some = λ on. some-there layer.entries.items (λ none. false≢true (sym (not-true _ on) ∙ (c.is_empty-whole.ensures ∙ eq-eqb layer.entries.len 0 (omega (arith, layer.entries.ok.0, none)))));
      on = λ on. not-true _ on;
      over = λ off. inl (not-false _ off);
    }
