-- Ends that come to others.
use Rattle.std.proofs.Common.{◌≡◌, ℕ, ◌+◌, ◌*◌, ◌-◌, ◌^◌, ◌<◌, ◌≤◌, Bool, true, false, List, [], ◌∷◌, ◌++◌, Option, All, length, get_or, set, ap, arith, refl, sym, ◌∙◌, zero, suc, subst, take, add-one}
use Rattle.std.specs.Prelude.{min}
use Rattle.std.proofs.Math.Seq.{take-suc}
use Rattle.std.proofs.lemmas.Option.{get_or_from_slice_get, slice_get_within}
use Rattle.std.proofs.lemmas.List.Elements.{All-append, All-set}
use Rattle.std.proofs.lemmas.List.Sums.{sum_by_push, sum_by-set, get_or-le-sum_by}
use Rattle.cf_outcome.specs.declared.outcome.Outcome.{Outcome}
use Rattle.cf_forms.specs.Meanings.{Meanings}
use Rattle.cf_explore.specs.declared.found.End.{End}
use Rattle.cf_explore.specs.declared.found.Witness.{Witness}
use Rattle.cf_explore.specs.declared.layer.Entry.{Entry}
use Rattle.cf_explore.specs.declared.trail.Trace.{Trace}
use Rattle.cf_explore.specs.Programs.{Programmed, Situated}
use Rattle.cf_explore.specs.Moves.{is_end}
use Rattle.cf_explore.specs.Layers.{IsLed, LeadsTo, counted, weigh, weight}
use Rattle.cf_explore.specs.Situations.{outcomes_of}
use Rattle.cf_explore.specs.Found.{AreApart, AreMoreEnds, IsEnded, IsShown, end_weight, more_ended, over_end, weigh_ends}
use Rattle.cf_explore.proofs.Counting.{counted-add, counted-merge}
use Rattle.cf_explore.proofs.Spreading.{all-front, all-last}

all-alone : {A : Type 0} (P : A → Type 0) (x : A) → P x → All P (x ∷ [])
all-alone P x h zero d l = h
all-alone P x h (suc i) d l = absurd (omega arith)

pub ends-start : (p : Programmed) (k : ℕ) (old : List End) → AreMoreEnds p k [] old old
ends-start p k old = record {
  weighs = λ f. ap counted (let same : weigh_ends f old ≡ weigh_ends f old + 0 = omega arith in same);
  shown = λ m trail led all. all;
  apart = λ h. h;
}

pub ends-on : (p : Programmed) (k : ℕ) (entries : List Entry) (e : Entry) (old new newer : List End) → AreMoreEnds p k entries old new → AreMoreEnds p k (e ∷ []) new newer →
    AreMoreEnds p k (entries ++ e ∷ []) old newer
ends-on p k entries e old new newer h one = record {
  weighs = λ f.
      let pushed = sum_by_push (weight (over_end p f)) entries e in
      let more = counted-add (2 ^ 128 - 1) (weigh_ends f new) (weigh_ends f old + weigh (over_end p f) entries) (weigh (over_end p f) (e ∷ [])) (h.weighs f) in
      let total : weigh_ends f old + weigh (over_end p f) entries + weigh (over_end p f) (e ∷ []) ≡ weigh_ends f old + weigh (over_end p f) (entries ++ e ∷ []) = omega (arith, pushed) in
      one.weighs f ∙ more ∙ ap counted total;
  shown = λ m trail led all.
      one.shown m trail (all-alone (IsLed m p trail k) e (all-last (IsLed m p trail k) entries e led)) (h.shown m trail (all-front (IsLed m p trail k) entries e led) all);
  apart = λ a. one.apart (h.apart a);
}

-- one that isn't an end
pub ends-none : (p : Programmed) (k : ℕ) (e : Entry) (old : List End) → is_end p e.situation ≡ false → AreMoreEnds p k (e ∷ []) old old
ends-none p k e old is = record {
  weighs = λ f.
      let none : over_end p f e.situation ≡ 0 = rw is refl in
      let weightless : weight (over_end p f) e ≡ 0 = rw none (omega arith) in
      ap counted (let same : weigh_ends f old ≡ weigh_ends f old + weigh (over_end p f) (e ∷ []) = omega (arith, weightless) in same);
  shown = λ m trail led all. all;
  apart = λ a. a;
}

ended-weighs : (f : List (Option Outcome) → ℕ) (old new : List End) (outcomes : List (Option Outcome)) (orders : ℕ) (w : Witness) (is : Bool) →
    IsEnded old new outcomes orders w is → counted (weigh_ends f new) ≡ counted (weigh_ends f old + orders * f outcomes)
ended-weighs f old new outcomes orders w true h =
    let e = h.0 in
    let same : end_weight f e ≡ orders * f outcomes = cc (h.1, h.2) in
    ap counted (ap (weigh_ends f) h.4 ∙ sum_by_push (end_weight f) old e ∙ ap (λ x. weigh_ends f old + x) same)
ended-weighs f old new outcomes orders w false h =
    let e = h.1 in
    let within : h.0 < length old = slice_get_within old h.0 e h.2 in
    let is : get_or old h.0 e ≡ e = get_or_from_slice_get old h.0 e e h.2 in
    let old_one : end_weight f (get_or old h.0 e) ≡ e.orders * f outcomes = ap (end_weight f) is ∙ ap (λ x. e.orders * f x) h.3 in
    let new_one : end_weight f (more_ended e orders) ≡ min (e.orders + orders) (2 ^ 128 - 1) * f outcomes = ap (λ x. min (e.orders + orders) (2 ^ 128 - 1) * f x) h.3 in
    let changed = sum_by-set (end_weight f) old h.0 (more_ended e orders) e within in
    let news : weigh_ends f new ≡ weigh_ends f (set old h.0 (more_ended e orders)) = ap (weigh_ends f) h.4 in
    let below = get_or-le-sum_by (end_weight f) old h.0 e within in
    let total : weigh_ends f new + e.orders * f outcomes ≡ weigh_ends f old + min (e.orders + orders) (2 ^ 128 - 1) * f outcomes =
    rw (news, ← old_one, ← new_one) changed in
    let part : e.orders * f outcomes ≤ weigh_ends f old = rw (← old_one) below in
    counted-merge (2 ^ 128 - 1) (weigh_ends f old) (weigh_ends f new) e.orders orders (f outcomes) total part

ended-shown : (m : Meanings) (p : Programmed) (trail : List Trace) (old new : List End) (s : Situated) (outcomes : List (Option Outcome)) (orders : ℕ) (w : Witness) (is : Bool) →
    IsEnded old new outcomes orders w is → LeadsTo m p trail w.moves w.number s → is_end p s ≡ true → outcomes ≡ outcomes_of s →
    All (IsShown m p trail) old → All (IsShown m p trail) new
ended-shown m p trail old new s outcomes orders w true h leads ends same all =
    let e = h.0 in
    let led : LeadsTo m p trail e.witness.moves e.witness.number s = subst (λ (v : Witness). LeadsTo m p trail v.moves v.number s) (sym h.3) leads in
    let one : IsShown m p trail e = (s, led, ends, sym (h.1 ∙ same)) in
    subst (All (IsShown m p trail)) (sym h.4) (All-append (IsShown m p trail) old (e ∷ []) all (all-alone (IsShown m p trail) e one))
ended-shown m p trail old new s outcomes orders w false h leads ends same all =
    let e = h.1 in
    let within : h.0 < length old = slice_get_within old h.0 e h.2 in
    let one : IsShown m p trail (get_or old h.0 e) = all h.0 e within in
    let is : get_or old h.0 e ≡ e = get_or_from_slice_get old h.0 e e h.2 in
    let shown : IsShown m p trail e = subst (IsShown m p trail) is one in
    subst (All (IsShown m p trail)) (sym h.4) (All-set (IsShown m p trail) old h.0 (more_ended e orders) shown all)

-- one that is an end
pub ends-one : (p : Programmed) (k : ℕ) (e : Entry) (old new : List End) (outcomes : List (Option Outcome)) (w : Witness) (is : Bool) → is_end p e.situation ≡ true →
    outcomes ≡ outcomes_of e.situation → w.moves ≡ k → w.number ≡ e.number → IsEnded old new outcomes e.orders w is →
    (AreApart old → AreApart new) → AreMoreEnds p k (e ∷ []) old new
ends-one p k e old new outcomes w is ends same at number h apart = record {
  weighs = λ f.
      let weighed = ended-weighs f old new outcomes e.orders w is h in
      let one : over_end p f e.situation ≡ f outcomes = rw ends (ap f (sym same)) in
      let all : e.orders * f outcomes ≡ weigh (over_end p f) (e ∷ []) = rw (← one) (omega arith) in
      weighed ∙ ap counted (ap (λ x. weigh_ends f old + x) all);
  shown = λ m trail led all.
      let here : IsLed m p trail k e = all-last (IsLed m p trail k) [] e led in
      let leads : LeadsTo m p trail w.moves w.number e.situation = rw (at, number) here in
      ended-shown m p trail old new e.situation outcomes e.orders w is h leads ends same all;
  apart = apart;
}

-- one entry more of a layer
pub ends-step : (p : Programmed) (k : ℕ) (entries : List Entry) (i : ℕ) (e : Entry) (old new newer : List End) → i < length entries → e ≡ get_or entries i e →
    AreMoreEnds p k (take i entries) old new → AreMoreEnds p k (e ∷ []) new newer → AreMoreEnds p k (take (i + 1) entries) old newer
ends-step p k entries i e old new newer within is h one =
    let front : take (suc i) entries ≡ take i entries ++ get_or entries i e ∷ [] = take-suc entries i e within in
    let same : take (i + 1) entries ≡ take i entries ++ e ∷ [] = rw add-one (front ∙ ap (λ (x : Entry). take i entries ++ x ∷ []) (sym is)) in
    subst (λ (es : List Entry). AreMoreEnds p k es old newer) (sym same) (ends-on p k (take i entries) e old new newer h one)
