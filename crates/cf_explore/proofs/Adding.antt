-- What a layer gains.
use Rattle.std.proofs.Common.{◌≡◌, ℕ, ◌+◌, ◌*◌, ◌-◌, ◌^◌, ◌<◌, ◌≤◌, List, [], ◌∷◌, ◌++◌, Option, Some, All, length, length-append, length-set, get_or, set, ap, arith, inl, inr, refl, sym, ◌∙◌, zero, suc, subst}
use Rattle.std.specs.Prelude.{◌⊎◌, slice_get, Contains, IfNone, IfSome, min}
use Rattle.std.proofs.Math.Nat.{eq-or-lt_of_le}
use Rattle.std.proofs.lemmas.Option.{get_or_from_slice_get, none-some, same_Some, slice_get_within}
use Rattle.std.proofs.lemmas.List.Elements.{All-append, All-set}
use Rattle.std.proofs.lemmas.List.Sums.{sum_by_push, sum_by-set, get_or-le-sum_by}
use Rattle.cf_explore.specs.declared.layer.Added.{Added}
use Rattle.cf_explore.specs.declared.layer.Added.TheVariants as added
use Rattle.cf_explore.specs.declared.layer.Entry.{Entry}
use Rattle.cf_explore.specs.declared.trail.Trace.{Trace}
use Rattle.cf_explore.specs.declared.step.Move.{Move}
use Rattle.cf_forms.specs.Meanings.{Meanings}
use Rattle.cf_explore.specs.Programs.{Programmed, Situated}
use Rattle.cf_explore.specs.Moves.{moved, moves}
use Rattle.cf_explore.specs.Layers.{AreNumbered, IsAdded, IsAt, IsLed, IsLonger, IsNowhere, KeepsLed, LeadsTo, counted, more, weigh, weight}
use Rattle.cf_explore.proofs.Counting.{counted-merge}
use Rattle.cf_forms.proofs.ListLemmas.{slice_get-push, slice_get-seam}
use Rattle.cf_explore.proofs.Trails.{all_led-longer, leads-longer, leads-within}

pub added-weighs : (f : Situated → ℕ) (old new : List Entry) (s : Situated) (orders : ℕ) (number : Option ℕ) (is : Added) →
    IsAdded old new s orders number is → (is ≡ added.NoRoom → ⊥) → counted (weigh f new) ≡ counted (weigh f old + orders * f s)
added-weighs f old new s orders number added.NoRoom h more = absurd (more refl)
added-weighs f old new s orders number added.New h more =
    let e = h.0 in
    let same : weight f e ≡ orders * f s = cc (h.1, h.2) in
    let pushed = sum_by_push (weight f) old e in
    ap counted (ap (weigh f) h.4 ∙ pushed ∙ ap (λ x. weigh f old + x) same)
added-weighs f old new s orders number added.There h more_there =
    let e = h.1 in
    let within : h.0 < length old = slice_get_within old h.0 e h.2 in
    let is : get_or old h.0 e ≡ e = get_or_from_slice_get old h.0 e e h.2 in
    let old_one : weight f (get_or old h.0 e) ≡ e.orders * f s = ap (weight f) is ∙ ap (λ x. e.orders * f x) h.3 in
    let new_one : weight f (more e orders) ≡ min (e.orders + orders) (2 ^ 128 - 1) * f s = ap (λ x. min (e.orders + orders) (2 ^ 128 - 1) * f x) h.3 in
    let changed = sum_by-set (weight f) old h.0 (more e orders) e within in
    let news : weigh f new ≡ weigh f (set old h.0 (more e orders)) = ap (weigh f) h.4 in
    let below = get_or-le-sum_by (weight f) old h.0 e within in
    let total : weigh f new + e.orders * f s ≡ weigh f old + min (e.orders + orders) (2 ^ 128 - 1) * f s =
    rw (news, ← old_one, ← new_one) changed in
    let part : e.orders * f s ≤ weigh f old = rw (← old_one) below in
    counted-merge (2 ^ 128 - 1) (weigh f old) (weigh f new) e.orders orders (f s) total part

pub move-weighs : (f : Situated → ℕ) (old new : List Entry) (s to : Situated) (orders : ℕ) (number : Option ℕ) (is : Added) → s ≡ to →
    IsAdded old new s orders number is → (is ≡ added.NoRoom → ⊥) → counted (weigh f new) ≡ counted (weigh f old + orders * f to)
move-weighs f old new s to orders number is same h more =
    added-weighs f old new s orders number is h more ∙ ap (λ (t : Situated). counted (weigh f old + orders * f t)) same

all-alone : {A : Type 0} (P : A → Type 0) (x : A) → P x → All P (x ∷ [])
all-alone P x h zero d l = h
all-alone P x h (suc i) d l = absurd (omega arith)

-- where a situation is there, nothing else changes
pub added-led-old : (m : Meanings) (p : Programmed) (trail : List Trace) (k : ℕ) (old new : List Entry) (s : Situated) (orders : ℕ) (number : Option ℕ) →
    IsAdded old new s orders number added.There → All (IsLed m p trail k) old → All (IsLed m p trail k) new
added-led-old m p trail k old new s orders number h all =
    let e = h.1 in
    let within : h.0 < length old = slice_get_within old h.0 e h.2 in
    let one : IsLed m p trail k (get_or old h.0 e) = all h.0 e within in
    let is : get_or old h.0 e ≡ e = get_or_from_slice_get old h.0 e e h.2 in
    let same : IsLed m p trail k e = subst (IsLed m p trail k) is one in
    subst (All (IsLed m p trail k)) (sym h.4) (All-set (IsLed m p trail k) old h.0 (more e orders) same all)

-- where a situation is new, the trail grows by the move to it
pub added-led-new : (m : Meanings) (p : Programmed) (trail : List Trace) (k : ℕ) (old new : List Entry) (before : Situated) (orders number at : ℕ) (by : Move) →
    IsAdded old new (moved m p before by) orders (Some number) added.New → LeadsTo m p trail k at before → Contains (moves p before) by → number ≡ length trail →
    All (IsLed m p trail (suc k)) old → All (IsLed m p (trail ++ record { before = at; by = by } ∷ []) (suc k)) new
added-led-new m p trail k old new before orders number at by h led can numbered all =
    let trace : Trace = record { before = at; by = by } in
    let longer = trail ++ trace ∷ [] in
    let its : h.0.number ≡ length trail = same_Some h.0.number number (sym h.3) ∙ numbered in
    let there : slice_get longer h.0.number ≡ Some trace = rw its (slice_get-seam trail trace []) in
    let lower : at < h.0.number = omega (arith, its, leads-within m p trail k at before led) in
    let one : IsLed m p longer (suc k) h.0 = (trace, before, there, leads-longer m p trail (trace ∷ []) k at before led, can, h.1, lower) in
    let all_old = all_led-longer m p trail (trace ∷ []) (suc k) old all in
    let both = All-append (IsLed m p longer (suc k)) old (h.0 ∷ []) all_old (all-alone (IsLed m p longer (suc k)) h.0 one) in
    subst (All (IsLed m p longer (suc k))) (sym h.4) both

pub move-led-new : (m : Meanings) (p : Programmed) (trail longer : List Trace) (e : Entry) (old new : List Entry) (s : Situated) (orders number : ℕ) (by : Move) →
    s ≡ moved m p e.situation by → number ≡ length trail → longer ≡ trail ++ record { before = e.number; by = by } ∷ [] →
    IsAdded old new s orders (Some number) added.New → Contains (moves p e.situation) by → KeepsLed m p trail longer old new e
move-led-new m p trail longer e old new s orders number by same numbered grown h can = λ k led all.
    let there : IsAdded old new (moved m p e.situation by) orders (Some number) added.New = subst (λ (t : Situated). IsAdded old new t orders (Some number) added.New) same h in
    subst (λ (t : List Trace). All (IsLed m p t (suc k)) new) (sym grown)
    (added-led-new m p trail k old new e.situation orders number e.number by there led can numbered all)

-- one is changed, and keeps its number
number-back : (entries : List Entry) (k : ℕ) (w : Entry) (orders i : ℕ) (e : Entry) → slice_get entries k ≡ Some w →
    slice_get (set entries k (more w orders)) i ≡ Some e → (b : Entry) × (slice_get entries i ≡ Some b) × (b.number ≡ e.number)
number-back [] k w orders i e at h = absurd (none-some w at)
number-back (x ∷ entries) zero w orders zero e at h = (w, at, ap (λ (y : Entry). y.number) (same_Some (more w orders) e h))
number-back (x ∷ entries) zero w orders (suc i) e at h = (e, h, refl)
number-back (x ∷ entries) (suc k) w orders zero e at h = (e, h, refl)
number-back (x ∷ entries) (suc k) w orders (suc i) e at h = number-back entries k w orders i e at h

numbered-push-by : (base : ℕ) (old : List Entry) (new : Entry) → ((i : ℕ) (e : Entry) → slice_get old i ≡ Some e → e.number ≡ base + i) → new.number ≡ base + length old →
    (i : ℕ) (e : Entry) → (slice_get old i ≡ Some e) ⊎ ((i ≡ length old) × (new ≡ e)) → e.number ≡ base + i
numbered-push-by base old new each its i e (inl before) = each i e before
numbered-push-by base old new each its i e (inr last) = omega (arith, its, last.0, ap (λ (x : Entry). x.number) last.1)

numbered-push : (base : ℕ) (old : List Entry) (new : Entry) → ((i : ℕ) (e : Entry) → slice_get old i ≡ Some e → e.number ≡ base + i) → new.number ≡ base + length old →
    (i : ℕ) (e : Entry) → slice_get (old ++ new ∷ []) i ≡ Some e → e.number ≡ base + i
numbered-push base old new each its i e at = numbered-push-by base old new each its i e (slice_get-push old new i e at)

numbered-set : (base : ℕ) (old : List Entry) (k : ℕ) (w : Entry) (orders : ℕ) → ((i : ℕ) (e : Entry) → slice_get old i ≡ Some e → e.number ≡ base + i) → slice_get old k ≡ Some w →
    (i : ℕ) (e : Entry) → slice_get (set old k (more w orders)) i ≡ Some e → e.number ≡ base + i
numbered-set base old k w orders each at i e there =
    let back = number-back old k w orders i e at there in
    (let its = each i back.0 back.1 in omega (arith, its, back.2))

-- the numbers go on with those of the trail
pub numbered-new : (base : ℕ) (trail longer : List Trace) (old new : List Entry) (s : Situated) (orders number : ℕ) (trace : Trace) →
    number ≡ length trail → longer ≡ trail ++ trace ∷ [] → IsAdded old new s orders (Some number) added.New → AreNumbered base trail old → AreNumbered base longer new
numbered-new base trail longer old new s orders number trace numbered grown h all = record {
  all = omega (arith, all.all, ap length grown, length-append trail (trace ∷ []), ap length h.4, length-append old (h.0 ∷ []));
  each = λ i e at.
      let its : h.0.number ≡ length trail = same_Some h.0.number number (sym h.3) ∙ numbered in
      numbered-push base old h.0 all.each (omega (arith, its, all.all)) i e (subst (λ (es : List Entry). slice_get es i ≡ Some e) h.4 at);
}

pub numbered-old : (base : ℕ) (trail : List Trace) (old new : List Entry) (s : Situated) (orders : ℕ) (number : Option ℕ) →
    IsAdded old new s orders number added.There → AreNumbered base trail old → AreNumbered base trail new
numbered-old base trail old new s orders number h all = record {
  all = omega (arith, all.all, ap length h.4, length-set old h.0 (more h.1 orders));
  each = λ i e at. numbered-set base old h.0 h.1 orders all.each h.2 i e (subst (λ (es : List Entry). slice_get es i ≡ Some e) h.4 at);
}

-- it stands at none of the first i places, nor at the next
nowhere-more-by : (entries : List Entry) (s : Situated) (i j : ℕ) → (j ≡ i) ⊎ (j < i) → ((k : ℕ) → k < i → IsAt entries k s → ⊥) → (IsAt entries i s → ⊥) → IsAt entries j s → ⊥
nowhere-more-by entries s i j (inl is) before here h = here (subst (λ (k : ℕ). IsAt entries k s) is h)
nowhere-more-by entries s i j (inr less) before here h = before j less h

pub nowhere-more : (entries : List Entry) (s : Situated) (i : ℕ) → ((k : ℕ) → k < i → IsAt entries k s → ⊥) → (IsAt entries i s → ⊥) → (j : ℕ) → j < i + 1 → IsAt entries j s → ⊥
nowhere-more entries s i before here = λ j less h. nowhere-more-by entries s i j (eq-or-lt_of_le (omega arith)) before here h

new-room : added.New ≡ added.NoRoom → ⊥
new-room h = cc

there-room : added.There ≡ added.NoRoom → ⊥
there-room h = cc

append-none : (trail : List Trace) → trail ≡ trail ++ []
append-none [] = refl
append-none (x ∷ trail) = ap (λ t. x ∷ t) (append-none trail)

pub longer-none : (trail : List Trace) → IsLonger trail trail
longer-none trail = ([], append-none trail)

-- What a move brings, that leads to a new situation or to one that is there.
pub record IsMade (m : Meanings) (p : Programmed) (trail longer : List Trace) (old new : List Entry) (e : Entry) (by : Move) : Type 0 where
  pub weighs : (f : Situated → ℕ) → counted (weigh f new) ≡ counted (weigh f old + e.orders * f (moved m p e.situation by))
  pub led : Contains (moves p e.situation) by → KeepsLed m p trail longer old new e
  pub grows : IsLonger trail longer
  pub numbered : (base : ℕ) → AreNumbered base trail old → AreNumbered base longer new

one-more : (number : Option ℕ) (P : ℕ → Type 0) (n : ℕ) → number ≡ Some n → IfSome number P → P n
one-more number P n is h = (let there : IfSome (Some n) P = subst (λ (x : Option ℕ). IfSome x P) is h in there)

made-new-by : (m : Meanings) (p : Programmed) (trail longer : List Trace) (old new : List Entry) (e : Entry) (by : Move) (s : Situated) (number : ℕ) →
    s ≡ moved m p e.situation by → number ≡ length trail → longer ≡ trail ++ record { before = e.number; by = by } ∷ [] →
    IsAdded old new s e.orders (Some number) added.New → IsMade m p trail longer old new e by
made-new-by m p trail longer old new e by s number is numbered grown h =
    let one : Trace = record { before = e.number; by = by } in
    record {
      weighs = λ f. move-weighs f old new s (moved m p e.situation by) e.orders (Some number) added.New is h new-room;
      led = λ can. move-led-new m p trail longer e old new s e.orders number by is numbered grown h can;
      grows = (one ∷ [], grown);
      numbered = λ base all. numbered-new base trail longer old new s e.orders number one numbered grown h all;
    }

pub made-new : (m : Meanings) (p : Programmed) (trail longer : List Trace) (old new : List Entry) (e : Entry) (by : Move) (s : Situated) (taken : ℕ) (number : Option ℕ) (is_added : Added) →
    is_added ≡ added.New → s ≡ moved m p e.situation by → taken ≡ length trail → IfSome number (λ n. n ≡ taken) → longer ≡ trail ++ record { before = e.number; by = by } ∷ [] →
    IsAdded old new s e.orders number is_added → IsMade m p trail longer old new e by
made-new m p trail longer old new e by s taken number is_added new_one is all numbered grown h =
    let here : IsAdded old new s e.orders number added.New = subst (IsAdded old new s e.orders number) new_one h in
    let some : number ≡ Some here.0.number = here.3 in
    let there : IsAdded old new s e.orders (Some here.0.number) added.New = subst (λ (n : Option ℕ). IsAdded old new s e.orders n added.New) some here in
    made-new-by m p trail longer old new e by s here.0.number is (one-more number (λ n. n ≡ taken) here.0.number some numbered ∙ all) grown there

pub new-within : (old new : List Entry) (s : Situated) (orders : ℕ) (taken bound : ℕ) (number : Option ℕ) (is_added : Added) → is_added ≡ added.New → IfSome number (λ n. taken < bound) →
    IsAdded old new s orders number is_added → taken < bound
new-within old new s orders taken bound number is_added new_one room h =
    let here : IsAdded old new s orders number added.New = subst (IsAdded old new s orders number) new_one h in
    one-more number (λ n. taken < bound) here.0.number here.3 room

pub made-there : (m : Meanings) (p : Programmed) (trail : List Trace) (old new : List Entry) (e : Entry) (by : Move) (s : Situated) (number : Option ℕ) (is_added : Added) →
    is_added ≡ added.There → s ≡ moved m p e.situation by → IsAdded old new s e.orders number is_added → IsMade m p trail trail old new e by
made-there m p trail old new e by s number is_added old_one is h =
    let here : IsAdded old new s e.orders number added.There = subst (IsAdded old new s e.orders number) old_one h in
    record {
      weighs = λ f. move-weighs f old new s (moved m p e.situation by) e.orders number added.There is here there-room;
      led = λ can k led all. added-led-old m p trail (suc k) old new s e.orders number here all;
      grows = longer-none trail;
      numbered = λ base all. numbered-old base trail old new s e.orders number here all;
    }

-- where there is no room, all is as it was, and the situation is at no place
pub record IsLeft (trail : List Trace) (bound : ℕ) (old new : List Entry) (s : Situated) : Type 0 where
  pub same : new ≡ old
  pub full : bound ≤ length trail
  pub nowhere : IsNowhere old s

pub left : (trail : List Trace) (bound : ℕ) (old new : List Entry) (s to : Situated) (orders taken : ℕ) (number : Option ℕ) (is_added : Added) →
    is_added ≡ added.NoRoom → s ≡ to → taken ≡ length trail → IfNone number (bound ≤ taken) → IsAdded old new s orders number is_added → IsLeft trail bound old new to
left trail bound old new s to orders taken number is_added none is all full h =
    let here : IsAdded old new s orders number added.NoRoom = subst (IsAdded old new s orders number) none h in
    record {
      same = here.0;
      full = (let there : bound ≤ taken = subst (λ (n : Option ℕ). IfNone n (bound ≤ taken)) here.1 full in omega (arith, all, there));
      nowhere = subst (IsNowhere old) is here.2;
    }
