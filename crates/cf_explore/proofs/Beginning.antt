-- A search that begins.
use Rattle.std.proofs.Common.{◌≡◌, ℕ, ◌<◌, true, false, List, [], ◌∷◌, Option, Some, None, All, length, ap, arith, refl, sym, ◌∙◌, zero, suc, subst}
use Rattle.std.specs.Prelude.{slice_get, sum_by, replicate}
use Rattle.std.proofs.lemmas.Bool.{false≢true}
use Rattle.std.proofs.lemmas.List.{get_or-replicate, length-replicate}
use Rattle.std.proofs.lemmas.List.Sums.{sum_by-cons}
use Rattle.std.proofs.lemmas.Option.{get_or_from_slice_get, none-some, same_Some, slice_get_within}
use Rattle.cf_forms.specs.Meanings.{Meanings}
use Rattle.cf_explore.specs.declared.condition.Condition.{Condition}
use Rattle.cf_explore.specs.declared.found.Witness.{Witness}
use Rattle.cf_explore.specs.declared.layer.Added.{Added}
use Rattle.cf_explore.specs.declared.layer.Added.TheVariants as added
use Rattle.cf_explore.specs.declared.layer.Entry.{Entry}
use Rattle.cf_explore.specs.declared.search.Search.{Search}
use Rattle.cf_explore.specs.declared.trail.Trace.{Trace}
use Rattle.cf_explore.specs.Programs.{Programmed, Situated, start_of}
use Rattle.cf_explore.specs.Layers.{IsAdded, IsLayer, IsLed, counted, weigh, weight}
use Rattle.cf_explore.specs.Found.{IsDecision, IsSearch}

first-led : (m : Meanings) (p : Programmed) (trail : List Trace) (e : Entry) → 0 < length trail → e.situation ≡ start_of p → e.number ≡ 0 → All (IsLed m p trail 0) (e ∷ [])
first-led m p trail e some start first zero d l = (first, start, some)
first-led m p trail e some start first (suc i) d l = absurd (omega arith)

-- one entry, to which one order leads
first-layer : (m : Meanings) (p : Programmed) (trail : List Trace) (e : Entry) → length trail ≡ 1 → e.situation ≡ start_of p → e.orders ≡ 1 → e.number ≡ 0 → IsLayer m p trail 0 (e ∷ [])
first-layer m p trail e alone start one first = record {
  stand = λ f.
      let same : weight f e ≡ f (start_of p) = (let to : f e.situation ≡ f (start_of p) = ap f start in rw (one, to) (omega arith)) in
      let total : weigh f (e ∷ []) ≡ sum_by f (start_of p ∷ []) = omega (arith, same, sum_by-cons (weight f) e [], sum_by-cons f (start_of p) []) in
      ap counted total;
  led = first-led m p trail e (omega arith) start first;
  seen = λ n less. (0, start_of p, omega arith, (let is : n ≡ 0 = omega arith in (is, refl, omega arith)));
}

layer-begun : (m : Meanings) (p : Programmed) (trail : List Trace) (entries : List Entry) (s : Situated) (is : Added) → length trail ≡ 1 → IsAdded [] entries s 1 (Some 0) is → s ≡ start_of p →
    IsLayer m p trail 0 entries × (0 < length entries)
layer-begun m p trail entries s added.New alone h start =
    let first : h.0.number ≡ 0 = same_Some h.0.number 0 (sym h.3) in
    (subst (IsLayer m p trail 0) (sym h.4) (first-layer m p trail h.0 alone (h.1 ∙ start) h.2 first), omega (arith, ap length h.4))
layer-begun m p trail entries s added.There alone h start = absurd (let impossible : None ≡ Some h.1 = h.2 in (let never : ⊥ = cc in never))
layer-begun m p trail entries s added.NoRoom alone h start = absurd (none-some 0 (sym h.1))

undecided-all : (n i : ℕ) (x d : Option Witness) → slice_get (replicate n x) i ≡ Some d → d ≡ x
undecided-all n i x d e =
    let within : i < length (replicate n x) = slice_get_within (replicate n x) i d e in
    let so_many : length (replicate n x) ≡ n = length-replicate n x in
    let is : i < n = omega arith in
    sym (get_or_from_slice_get (replicate n x) i d x e) ∙ get_or-replicate n i x x is

undecided : (m : Meanings) (p : Programmed) (trail : List Trace) (c : Condition) (d : Option Witness) → d ≡ None → IsDecision m p trail 0 c d
undecided m p trail c d e = subst (IsDecision m p trail 0 c) (sym e) (λ j l. absurd (omega arith))

pub begun : (m : Meanings) (p : Programmed) (conditions : List Condition) (search : Search) (s : Situated) (is : Added) →
    length search.found.trail.items ≡ 1 → search.is_on ≡ true → IsAdded [] search.layer.entries.items s 1 (Some 0) is → s ≡ start_of p → search.found.ends.items ≡ [] →
    search.found.decisions.items ≡ replicate (length conditions) None → length search.found.decisions.items ≡ length conditions →
    search.found.moves ≡ 0 → search.found.whole ≡ false → IsSearch m p conditions search
begun m p conditions search s is alone on added start ends decisions so_many moves whole = record {
  found = record {
    ends = rw (ends, moves) (λ f. refl);
    shown = rw ends (λ i d l. absurd (omega arith));
    apart = rw ends (λ i j e g first other same. absurd (let never : i < 0 = slice_get_within [] i e first in omega arith));
    all_decisions = so_many;
    decisions = λ i c d ec ed.
        let there : slice_get (replicate (length conditions) None) i ≡ Some d = subst (λ (ds : List (Option Witness)). slice_get ds i ≡ Some d) decisions ed in
        subst (λ (k : ℕ). IsDecision m p search.found.trail.items k c d) (sym moves) (undecided m p search.found.trail.items c d (undecided-all (length conditions) i None d there));
    whole = λ right k le. absurd (false≢true (sym whole ∙ right));
  };
  layer = λ on. subst (λ (k : ℕ). IsLayer m p search.found.trail.items k search.layer.entries.items) (sym moves) (layer-begun m p search.found.trail.items search.layer.entries.items s is alone added start).0;
  some = λ on. (layer-begun m p search.found.trail.items search.layer.entries.items s is alone added start).1;
  over = λ off. absurd (false≢true (sym off ∙ on));
  on = λ on. whole;
}
