-- A layer that is made from another, entry by entry and move by move.
use Rattle.std.proofs.Common.{◌≡◌, ℕ, ◌+◌, ◌*◌, ◌-◌, ◌^◌, ◌<◌, ◌≤◌, List, [], ◌∷◌, ◌++◌, All, length, Some, ap, arith, inl, inr, refl, sym, ◌∙◌, zero, suc, subst, append_assoc, add-one, get_or, take}
use Rattle.std.specs.Prelude.{◌⊎◌, Contains, slice_get, sum_by}
use Rattle.std.proofs.Math.Seq.{take-suc}
use Rattle.std.proofs.lemmas.List.{take_all}
use Rattle.std.proofs.lemmas.Bool.{cases_lt}
use Rattle.std.proofs.lemmas.Option.{get_or_from_slice_get, none-some, slice_get_within}
use Rattle.std.proofs.lemmas.List.Elements.{All-take, Contains-get_or}
use Rattle.std.proofs.lemmas.List.Sums.{sum_by_push}
use Rattle.cf_forms.specs.Meanings.{Meanings}
use Rattle.cf_explore.specs.declared.layer.Entry.{Entry}
use Rattle.cf_explore.specs.declared.step.Move.{Move}
use Rattle.cf_explore.specs.declared.trail.Trace.{Trace}
use Rattle.cf_explore.specs.Programs.{Programmed, Situated}
use Rattle.cf_explore.specs.Moves.{moved, moves}
use Rattle.cf_explore.specs.Layers.{AreNumbered, AreSeen, IsLed, IsLonger, IsNext, IsNowhere, IsSpread, KeepsLed, LeadsOn, LeadsPast, LeadsTo, MissesOne, counted, over_next, weigh, weight}
use Rattle.cf_explore.proofs.Adding.{longer-none}
use Rattle.cf_explore.proofs.Counting.{counted-add, counted-more}
use Rattle.cf_explore.proofs.Sums.{sum_by-mapped}
use Rattle.cf_explore.proofs.Trails.{leads-later, leads-longer, leads-one, leads-within}

-- a list's first elements, and its last one
pub all-cons : {A : Type 0} (P : A → Type 0) (x : A) (xs : List A) → P x → All P xs → All P (x ∷ xs)
all-cons P x xs h all zero d l = h
all-cons P x xs h all (suc i) d l = all i d (omega arith)

pub rest-all : {A : Type 0} (P : A → Type 0) (x : A) (xs : List A) → All P (x ∷ xs) → All P xs
rest-all P x xs h = λ i d l. h (suc i) d (omega arith)

pub all-front : {A : Type 0} (P : A → Type 0) (xs : List A) (y : A) → All P (xs ++ y ∷ []) → All P xs
all-front P [] y h = λ i d l. absurd (omega arith)
all-front P (x ∷ xs) y h = all-cons P x xs (h 0 x (omega arith)) (all-front P xs y (rest-all P x (xs ++ y ∷ []) h))

pub all-last : {A : Type 0} (P : A → Type 0) (xs : List A) (y : A) → All P (xs ++ y ∷ []) → P y
all-last P [] y h = h 0 y (omega arith)
all-last P (x ∷ xs) y h = all-last P xs y (rest-all P x (xs ++ y ∷ []) h)

pub longer-both : (a b c : List Trace) → IsLonger a b → IsLonger b c → IsLonger a c
longer-both a b c h k = (h.0 ++ k.0, k.1 ∙ ap (λ t. t ++ k.0) h.1 ∙ append_assoc a h.0 k.0)

pub led-longer : (m : Meanings) (p : Programmed) (a b : List Trace) (k : ℕ) (e : Entry) → IsLonger a b → IsLed m p a k e → IsLed m p b k e
led-longer m p a b k e h led = subst (λ (t : List Trace). IsLed m p t k e) (sym h.1) (leads-longer m p a h.0 k e.number e.situation led)

-- the situations to which these moves lead from one entry came to the others
pub record SpreadUpTo (m : Meanings) (p : Programmed) (e : Entry) (old : List Entry) (trail : List Trace) (new : List Entry) (longer : List Trace) (made : List Move) : Type 0 where
  pub weighs : (f : Situated → ℕ) → counted (weigh f new) ≡ counted (weigh f old + e.orders * sum_by (λ by. f (moved m p e.situation by)) made)
  pub led : KeepsLed m p trail longer old new e
  pub grows : IsLonger trail longer

pub spread-start : (m : Meanings) (p : Programmed) (e : Entry) (old : List Entry) (trail : List Trace) → SpreadUpTo m p e old trail old trail []
spread-start m p e old trail = record {
  weighs = λ f. ap counted (let same : weigh f old ≡ weigh f old + e.orders * 0 = omega arith in same);
  led = λ k one all. all;
  grows = longer-none trail;
}

pub spread-more : (m : Meanings) (p : Programmed) (e : Entry) (old : List Entry) (trail : List Trace) (new : List Entry) (longer : List Trace) (made : List Move) (by : Move) (newer : List Entry) (longest : List Trace) →
    SpreadUpTo m p e old trail new longer made → Contains (moves p e.situation) by →
    ((f : Situated → ℕ) → counted (weigh f newer) ≡ counted (weigh f new + e.orders * f (moved m p e.situation by))) →
    (Contains (moves p e.situation) by → KeepsLed m p longer longest new newer e) → IsLonger longer longest →
    SpreadUpTo m p e old trail newer longest (made ++ by ∷ [])
spread-more m p e old trail new longer made by newer longest h can weighs led more = record {
  weighs = λ f.
      rw (sum_by_push (λ by. f (moved m p e.situation by)) made by)
      (counted-more (2 ^ 128 - 1) (weigh f old) (weigh f new) (weigh f newer) e.orders (sum_by (λ by. f (moved m p e.situation by)) made) (f (moved m p e.situation by)) (weighs f) (h.weighs f));
  led = λ k one all. led can k (led-longer m p trail longer k e h.grows one) (h.led k one all);
  grows = longer-both trail longer longest h.grows more;
}

pub spread-done : (m : Meanings) (p : Programmed) (e : Entry) (old : List Entry) (trail : List Trace) (new : List Entry) (longer : List Trace) →
    SpreadUpTo m p e old trail new longer (moves p e.situation) → IsSpread m p e old new
spread-done m p e old trail new longer h = record {
  weighs = λ f. rw (sum_by-mapped f (moved m p e.situation) (moves p e.situation)) (h.weighs f);
}

-- so it was done for these entries of a layer
pub record NextUpTo (m : Meanings) (p : Programmed) (entries : List Entry) (trail : List Trace) (new : List Entry) (longer : List Trace) : Type 0 where
  pub next : IsNext m p entries new
  pub led : LeadsOn m p trail longer entries new
  pub grows : IsLonger trail longer

pub next-start : (m : Meanings) (p : Programmed) (trail : List Trace) → NextUpTo m p [] trail [] trail
next-start m p trail = record {
  next = record { weighs = λ f. refl };
  led = λ k all. λ i d l. absurd (omega arith);
  grows = longer-none trail;
}

pub next-more : (m : Meanings) (p : Programmed) (entries : List Entry) (trail : List Trace) (new : List Entry) (longer : List Trace) (e : Entry) (newer : List Entry) (longest : List Trace) →
    NextUpTo m p entries trail new longer → IsSpread m p e new newer → KeepsLed m p longer longest new newer e → IsLonger longer longest →
    NextUpTo m p (entries ++ e ∷ []) trail newer longest
next-more m p entries trail new longer e newer longest h spread led more = record {
  next = record {
    weighs = λ f.
        rw (sum_by_push (weight (over_next m p f)) entries e)
        (spread.weighs f ∙ counted-add (2 ^ 128 - 1) (weigh f new) (weigh (over_next m p f) entries) (e.orders * over_next m p f e.situation) (h.next.weighs f));
  };
  led = λ k all.
      led k (led-longer m p trail longer k e h.grows (all-last (IsLed m p trail k) entries e all)) (h.led k (all-front (IsLed m p trail k) entries e all));
  grows = longer-both trail longer longest h.grows more;
}

pub can-move : (p : Programmed) (e : Entry) (list : List Move) (i : ℕ) (d : Move) → i < length list → list ≡ moves p e.situation → Contains (moves p e.situation) (get_or list i d)
can-move p e list i d within all = (let there : Contains list (get_or list i d) = Contains-get_or list i d within in subst (λ (l : List Move). Contains l (get_or list i d)) all there)

-- orders lead to all that a move adds, also where it is the last
pub spread-led : (m : Meanings) (p : Programmed) (e : Entry) (old : List Entry) (trail : List Trace) (new : List Entry) (longer : List Trace) (list : List Move) (i : ℕ) (d : Move) (newer : List Entry) (longest : List Trace) →
    i < length list → list ≡ moves p e.situation → SpreadUpTo m p e old trail new longer (take i list) →
    (Contains (moves p e.situation) (get_or list i d) → KeepsLed m p longer longest new newer e) → KeepsLed m p trail longest old newer e
spread-led m p e old trail new longer list i d newer longest within all h led = λ k one before.
    led (can-move p e list i d within all) k (led-longer m p trail longer k e h.grows one) (h.led k one before)

-- one move more of a list, and all of it
pub spread-step : (m : Meanings) (p : Programmed) (e : Entry) (old : List Entry) (trail : List Trace) (new : List Entry) (longer : List Trace) (list : List Move) (i : ℕ) (d : Move) (newer : List Entry) (longest : List Trace) →
    i < length list → list ≡ moves p e.situation → SpreadUpTo m p e old trail new longer (take i list) →
    ((f : Situated → ℕ) → counted (weigh f newer) ≡ counted (weigh f new + e.orders * f (moved m p e.situation (get_or list i d)))) →
    (Contains (moves p e.situation) (get_or list i d) → KeepsLed m p longer longest new newer e) → IsLonger longer longest →
    SpreadUpTo m p e old trail newer longest (take (i + 1) list)
spread-step m p e old trail new longer list i d newer longest within all h weighs led more =
    let by = get_or list i d in
    let can : Contains (moves p e.situation) by = can-move p e list i d within all in
    let front : take (suc i) list ≡ take i list ++ by ∷ [] = take-suc list i d within in
    let same : take (i + 1) list ≡ take i list ++ by ∷ [] = rw add-one front in
    subst (SpreadUpTo m p e old trail newer longest) (sym same) (spread-more m p e old trail new longer (take i list) by newer longest h can weighs led more)

pub spread-end : (m : Meanings) (p : Programmed) (e : Entry) (old : List Entry) (trail : List Trace) (new : List Entry) (longer : List Trace) (list : List Move) (i : ℕ) →
    length list ≤ i → list ≡ moves p e.situation → SpreadUpTo m p e old trail new longer (take i list) → IsSpread m p e old new
spread-end m p e old trail new longer list i past all h =
    let same : take i list ≡ moves p e.situation = take_all i list past ∙ all in
    spread-done m p e old trail new longer (subst (SpreadUpTo m p e old trail new longer) same h)

-- one entry more of a layer, and all of it
pub next-step : (m : Meanings) (p : Programmed) (entries : List Entry) (i : ℕ) (trail : List Trace) (new : List Entry) (longer : List Trace) (e : Entry) (newer : List Entry) (longest : List Trace) →
    i < length entries → e ≡ get_or entries i e → NextUpTo m p (take i entries) trail new longer → IsSpread m p e new newer → KeepsLed m p longer longest new newer e → IsLonger longer longest →
    NextUpTo m p (take (i + 1) entries) trail newer longest
next-step m p entries i trail new longer e newer longest within is h spread led more =
    let front : take (suc i) entries ≡ take i entries ++ get_or entries i e ∷ [] = take-suc entries i e within in
    let same : take (i + 1) entries ≡ take i entries ++ e ∷ [] = rw add-one (front ∙ ap (λ (x : Entry). take i entries ++ x ∷ []) (sym is)) in
    subst (λ (es : List Entry). NextUpTo m p es trail newer longest) (sym same) (next-more m p (take i entries) trail new longer e newer longest h spread led more)

pub next-end : (m : Meanings) (p : Programmed) (entries : List Entry) (i : ℕ) (trail : List Trace) (new : List Entry) (longer : List Trace) →
    length entries ≤ i → NextUpTo m p (take i entries) trail new longer → NextUpTo m p entries trail new longer
next-end m p entries i trail new longer past h = subst (λ (es : List Entry). NextUpTo m p es trail new longer) (take_all i entries past) h

-- a layer without entries has taken no number
pub numbered-none : (trail : List Trace) → AreNumbered (length trail) trail []
numbered-none trail = record { all = omega arith; each = λ i e at. absurd (none-some e at) }

there : (entries : List Entry) (i : ℕ) → i < length entries → (e : Entry) × (slice_get entries i ≡ Some e)
there [] i less = absurd (omega arith)
there (e ∷ entries) zero less = (e, refl)
there (e ∷ entries) (suc i) less = there entries i (omega arith)

-- the entry that has a number
numbered-one : (trail : List Trace) (entries : List Entry) (base n : ℕ) → AreNumbered base trail entries → n < length trail → base ≤ n →
    (e : Entry) × (i : ℕ) × (slice_get entries i ≡ Some e) × (e.number ≡ n)
numbered-one trail entries base n numbered within behind =
    let at = there entries (n - base) (omega (arith, within, numbered.all)) in
    (at.0, n - base, at.1, omega (arith, numbered.each (n - base) at.0 at.1))

led-at : (m : Meanings) (p : Programmed) (trail : List Trace) (k : ℕ) (entries : List Entry) (i : ℕ) (e : Entry) → All (IsLed m p trail k) entries → slice_get entries i ≡ Some e → IsLed m p trail k e
led-at m p trail k entries i e all at =
    subst (IsLed m p trail k) (get_or_from_slice_get entries i e e at) (all i e (slice_get_within entries i e at))

-- Where a new situation stands at no place of the next layer, no number stands for it: one of an earlier layer is of a shorter order.
none-by : (m : Meanings) (p : Programmed) (trail longer : List Trace) (k : ℕ) (newer : List Entry) (s : Situated) → IsLonger trail longer → AreSeen m p trail k →
    AreNumbered (length trail) longer newer → All (IsLed m p longer (suc k)) newer → IsNowhere newer s → (n : ℕ) → LeadsTo m p longer (suc k) n s → (n < length trail) ⊎ (length trail ≤ n) → ⊥
none-by m p trail longer k newer s grows seen numbered led nowhere n leads (inl before) =
    let old = seen n before in
    let same = leads-one m p longer old.0 (suc k) n old.1 s (leads-later m p trail longer old.0 n old.1 grows old.3) leads in
    absurd (omega (arith, old.2, same.0))
none-by m p trail longer k newer s grows seen numbered led nowhere n leads (inr behind) =
    let within = leads-within m p longer (suc k) n s leads in
    let at = numbered-one longer newer (length trail) n numbered within behind in
    let led_there : LeadsTo m p longer (suc k) n at.0.situation = subst (λ (x : ℕ). LeadsTo m p longer (suc k) x at.0.situation) at.3 (led-at m p longer (suc k) newer at.1 at.0 led at.2) in
    let same = leads-one m p longer (suc k) (suc k) n at.0.situation s led_there leads in
    nowhere at.1 (at.0, at.2, same.1)

-- a layer that is left at a move to such a situation
pub leads-past : (m : Meanings) (p : Programmed) (trail : List Trace) (entries : List Entry) (i : ℕ) (new : List Entry) (longer : List Trace) (e : Entry) (newer : List Entry) (longest : List Trace) →
    i < length entries → e ≡ get_or entries i e → NextUpTo m p (take i entries) trail new longer → KeepsLed m p longer longest new newer e → IsLonger longer longest →
    AreNumbered (length trail) longest newer → MissesOne m p e newer → LeadsPast m p trail longest entries
leads-past m p trail entries i new longer e newer longest within is h keeps more numbered misses = λ k all seen.
    let one : IsLed m p trail k e = subst (IsLed m p trail k) (sym is) (all i e within) in
    let front : All (IsLed m p trail k) (take i entries) = All-take (IsLed m p trail k) i entries all in
    let grows : IsLonger trail longest = longer-both trail longer longest h.grows more in
    let led : All (IsLed m p longest (suc k)) newer = keeps k (led-longer m p trail longer k e h.grows one) (h.led k front) in
    record {
      made = k;
      number = e.number;
      before = e.situation;
      by = misses.0;
      leads = led-longer m p trail longest k e grows one;
      can = misses.1;
      none = λ n leads. none-by m p trail longest k newer (moved m p e.situation misses.0) grows seen numbered led misses.2 n leads (cases_lt n (length trail));
    }

-- no order of more moves leads to a number than to those of the next layer
seen-by : (m : Meanings) (p : Programmed) (trail longer : List Trace) (k : ℕ) (newer : List Entry) → IsLonger trail longer → AreSeen m p trail k →
    AreNumbered (length trail) longer newer → All (IsLed m p longer (suc k)) newer → (n : ℕ) → n < length longer → (n < length trail) ⊎ (length trail ≤ n) →
    (j : ℕ) × (s : Situated) × (j ≤ suc k) × LeadsTo m p longer j n s
seen-by m p trail longer k newer grows seen numbered led n within (inl before) =
    let old = seen n before in
    (old.0, old.1, omega (arith, old.2), leads-later m p trail longer old.0 n old.1 grows old.3)
seen-by m p trail longer k newer grows seen numbered led n within (inr behind) =
    let at = numbered-one longer newer (length trail) n numbered within behind in
    (suc k, at.0.situation, omega arith, subst (λ (x : ℕ). LeadsTo m p longer (suc k) x at.0.situation) at.3 (led-at m p longer (suc k) newer at.1 at.0 led at.2))

pub seen-more : (m : Meanings) (p : Programmed) (trail longer : List Trace) (k : ℕ) (newer : List Entry) → IsLonger trail longer → AreSeen m p trail k →
    AreNumbered (length trail) longer newer → All (IsLed m p longer (suc k)) newer → AreSeen m p longer (suc k)
seen-more m p trail longer k newer grows seen numbered led = λ n within. seen-by m p trail longer k newer grows seen numbered led n within (cases_lt n (length trail))
