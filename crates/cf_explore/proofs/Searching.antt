-- What a look and an advance keep.
use Rattle.std.proofs.Common.{◌≡◌, ℕ, ◌+◌, ◌-◌, ◌^◌, ◌<◌, ◌≤◌, Bool, true, false, List, [], ◌∷◌, ◌++◌, Option, Some, None, All, length, get_or, inl, inr, ap, arith, refl, sym, ◌∙◌, zero, suc, subst, add-one, lit<}
use Rattle.std.specs.Prelude.{sum_by, flat_map, ◌⊎◌, if◌then◌else◌}
use Rattle.std.specs.List.{filter}
use Rattle.std.proofs.Math.Nat.{eq-or-lt_of_le}
use Rattle.std.proofs.lemmas.Bool.{false≢true}
use Rattle.std.proofs.lemmas.Option.{get_or_from_slice_get, slice_get-get_or, slice_get_within}
use Rattle.std.proofs.lemmas.List.Sums.{sum_by-append, sum_by-cons}
use Rattle.cf_forms.specs.Meanings.{Meanings}
use Rattle.cf_explore.specs.declared.condition.Condition.{Condition}
use Rattle.cf_explore.specs.declared.found.End.{End}
use Rattle.cf_explore.specs.declared.found.Witness.{Witness}
use Rattle.cf_explore.specs.declared.layer.Entry.{Entry}
use Rattle.cf_explore.specs.declared.search.Search.{Search}
use Rattle.cf_explore.specs.declared.trail.Trace.{Trace}
use Rattle.cf_explore.specs.Programs.{Programmed, Situated}
use Rattle.cf_explore.specs.Moves.{is_end}
use Rattle.cf_explore.specs.Orders.{after, ends_before, next}
use Rattle.cf_explore.specs.Conditions.{decides}
use Rattle.cf_explore.specs.Layers.{HasMore, IsLayer, IsLed, IsNext, LeadsPast, LeadsTo, StandFor, counted, over_next, weigh, weight}
use Rattle.cf_explore.specs.Situations.{outcomes_of}
use Rattle.cf_explore.specs.Found.{AreDecisions, AreMoreEnds, AreUpdates, EndsStandFor, IsAdvance, IsAsked, IsDecision, IsFound, IsLook, IsOver, IsSearch, IsShown, IsUndecided, IsUpdate, IsWithin, over_end, weigh_ends}
use Rattle.cf_explore.proofs.Counting.{counted-both, counted-none}
use Rattle.cf_explore.proofs.Sums.{sum_by-filtered, sum_by-joined}
use Rattle.cf_explore.proofs.Spreading.{all-cons, rest-all, seen-more}
use Rattle.cf_explore.proofs.Trails.{leads-below, leads-longer, leads-within}

-- the next layer stands for the situations after one more move
pub next-stands : (m : Meanings) (p : Programmed) (k : ℕ) (entries new : List Entry) → StandFor entries (after m p k) → IsNext m p entries new → StandFor new (after m p (suc k))
next-stands m p k entries new stand h = λ f.
    h.weighs f ∙ stand (over_next m p f) ∙ ap counted (sym (sum_by-joined f (next m p) (after m p k)))

-- a layer without entries stands for no situation
pub stand-for-none : (situations : List Situated) → StandFor [] situations → situations ≡ []
stand-for-none [] h = refl
stand-for-none (s ∷ situations) h =
    absurd (let none = counted-none (2 ^ 128 - 1) (sum_by (λ (s : Situated). 1) (s ∷ situations)) (lit< tt) (h (λ (s : Situated). 1)) in
    omega (arith, sum_by-cons (λ (s : Situated). 1) s situations))

-- where no order has k moves, none has more
none-later_by : (m : Meanings) (p : Programmed) (k n : ℕ) → (k ≡ suc n) ⊎ (k < suc n) → after m p k ≡ [] → (k ≤ n → after m p k ≡ [] → after m p n ≡ []) → after m p (suc n) ≡ []
none-later_by m p k n (inl is) none before = subst (λ (j : ℕ). after m p j ≡ []) is none
none-later_by m p k n (inr less) none before = ap (flat_map (next m p)) (before (omega arith) none)

pub none-later : (m : Meanings) (p : Programmed) (k n : ℕ) → k ≤ n → after m p k ≡ [] → after m p n ≡ []
none-later m p k zero le none = (let is : k ≡ 0 = omega arith in subst (λ (j : ℕ). after m p j ≡ []) is none)
none-later m p k (suc n) le none = none-later_by m p k n (eq-or-lt_of_le le) none (none-later m p k n)

-- the ends of one layer more
pub ends-more : (m : Meanings) (p : Programmed) (k : ℕ) (entries : List Entry) (old new : List End) → EndsStandFor old (ends_before m p k) →
    StandFor entries (after m p k) → AreMoreEnds p k entries old new → EndsStandFor new (ends_before m p (suc k))
ends-more m p k entries old new ends stand h = λ f.
    let g : Situated → ℕ = λ s. f (outcomes_of s) in
    let both = counted-both (2 ^ 128 - 1) (weigh_ends f old) (weigh (over_end p f) entries) (sum_by g (ends_before m p k)) (sum_by (over_end p f) (after m p k)) (ends f) (stand (over_end p f)) in
    let apart = sum_by-append g (ends_before m p k) (filter (is_end p) (after m p k)) in
    let filtered = sum_by-filtered (is_end p) g (after m p k) in
    h.weighs f ∙ both ∙ ap counted (sym (apart ∙ ap (λ x. sum_by g (ends_before m p k) + x) filtered))

-- what no entry does, no situation does for which they stand
one_where : (Situated → Bool) → Situated → ℕ
one_where d s = if d s then 1 else 0

weigh-none : (d : Situated → Bool) (entries : List Entry) → All (λ (e : Entry). d e.situation ≡ false) entries → weigh (one_where d) entries ≡ 0
unfolding one_where
weigh-none d [] h = refl
weigh-none d (e ∷ entries) h =
    let first : d e.situation ≡ false = h 0 e (omega arith) in
    let rest = weigh-none d entries (rest-all (λ (e : Entry). d e.situation ≡ false) e entries h) in
    let one : weight (one_where d) e ≡ 0 = rw first (omega arith) in
    sum_by-cons (weight (one_where d)) e entries ∙ omega arith

none-one : (d : Situated → Bool) (s : Situated) (b : Bool) → d s ≡ b → one_where d s ≡ 0 → d s ≡ false
unfolding one_where
none-one d s true e h = absurd (let one : one_where d s ≡ 1 = rw e refl in omega arith)
none-one d s false e h = e

none-sum : (d : Situated → Bool) (situations : List Situated) → sum_by (one_where d) situations ≡ 0 → All (λ s. d s ≡ false) situations
none-sum d [] h = λ i x l. absurd (omega arith)
none-sum d (s ∷ situations) h =
    let apart = sum_by-cons (one_where d) s situations in
    let one : one_where d s ≡ 0 = omega arith in
    let rest : sum_by (one_where d) situations ≡ 0 = omega arith in
    all-cons (λ s. d s ≡ false) s situations (none-one d s (d s) refl one) (none-sum d situations rest)

pub none-stands : (d : Situated → Bool) (entries : List Entry) (situations : List Situated) → StandFor entries situations →
    All (λ (e : Entry). d e.situation ≡ false) entries → All (λ s. d s ≡ false) situations
none-stands d entries situations stand h =
    let weighed = weigh-none d entries h in
    let same = stand (one_where d) in
    none-sum d situations (counted-none (2 ^ 128 - 1) (sum_by (one_where d) situations) (lit< tt) (ap counted (sym weighed) ∙ same))

-- what is decided stays decided, and what isn't is decided by the layer
undecided-more_by : (m : Meanings) (p : Programmed) (k : ℕ) (c : Condition) → IsUndecided m p k c → All (λ s. decides p c s ≡ false) (after m p k) → (j : ℕ) → (j ≡ k) ⊎ (j < k) → All (λ s. decides p c s ≡ false) (after m p j)
undecided-more_by m p k c before now j (inl is) = subst (λ (i : ℕ). All (λ s. decides p c s ≡ false) (after m p i)) (sym is) now
undecided-more_by m p k c before now j (inr less) = before j less

undecided-more : (m : Meanings) (p : Programmed) (k : ℕ) (c : Condition) → IsUndecided m p k c → All (λ s. decides p c s ≡ false) (after m p k) → IsUndecided m p (k + 1) c
undecided-more m p k c before now = λ j l. undecided-more_by m p k c before now j (eq-or-lt_of_le (omega arith))

decision-more : (m : Meanings) (p : Programmed) (trail : List Trace) (k : ℕ) (entries : List Entry) (c : Condition) (a b : Option Witness) →
    IsLayer m p trail k entries → IsDecision m p trail k c a → IsUpdate p entries k c a b → IsDecision m p trail (k + 1) c b
decision-more m p trail k entries c (Some w) b layer h is =
    subst (IsDecision m p trail (k + 1) c) (sym is) (h.0, h.1, h.2, omega (arith, h.3), h.4)
decision-more m p trail k entries c None None layer h first = undecided-more m p k c h (none-stands (decides p c) entries (after m p k) layer.stand first)
decision-more m p trail k entries c None (Some w) layer h first =
    let e = first.1 in
    let within = slice_get_within entries first.0 e first.2 in
    let one : IsLed m p trail k e = subst (IsLed m p trail k) (get_or_from_slice_get entries first.0 e e first.2) (layer.led first.0 e within) in
    let leads : LeadsTo m p trail w.moves w.number e.situation = rw (first.4, first.3) one in
    (e.situation, leads, first.5, omega (arith, first.4), subst (λ (n : ℕ). IsUndecided m p n c) (sym first.4) h)

pub decisions-more : (m : Meanings) (p : Programmed) (trail : List Trace) (k : ℕ) (entries : List Entry) (conditions : List Condition) (old new : List (Option Witness)) →
    IsLayer m p trail k entries → AreDecisions m p trail k conditions old → AreUpdates p entries k conditions old new (length conditions) → AreDecisions m p trail (k + 1) conditions new
decisions-more m p trail k entries conditions old new layer h updates = λ i c d ec ed.
    let in_conditions = slice_get_within conditions i c ec in
    let in_new = slice_get_within new i d ed in
    let in_old : i < length old = omega (arith, updates.so_many) in
    let a = get_or old i d in
    let ea = slice_get-get_or old i d in_old in
    decision-more m p trail k entries c a d layer (h i c a ec ea) (updates.done i c a d in_conditions ec ea ed)

-- the trail may grow
shown-longer : (m : Meanings) (p : Programmed) (trail later : List Trace) (ends : List End) → All (IsShown m p trail) ends → All (IsShown m p (trail ++ later)) ends
shown-longer m p trail later ends h = λ i d l. let one = h i d l in (one.0, leads-longer m p trail later _ _ one.0 one.1, one.2, one.3)

decision-longer : (m : Meanings) (p : Programmed) (trail later : List Trace) (k : ℕ) (c : Condition) (d : Option Witness) → IsDecision m p trail k c d → IsDecision m p (trail ++ later) k c d
decision-longer m p trail later k c None h = h
decision-longer m p trail later k c (Some w) h = (h.0, leads-longer m p trail later w.moves w.number h.0 h.1, h.2, h.3, h.4)

pub look-keeps : (m : Meanings) (p : Programmed) (conditions : List Condition) (old new : Search) → IsFound m p conditions old.found →
    IsLayer m p old.found.trail.items old.found.moves old.layer.entries.items → IsLook p conditions old new → IsFound m p conditions new.found
look-keeps m p conditions old new found layer look =
    let k = old.found.moves in
    let trail = old.found.trail.items in
    let later : new.found.moves ≡ suc k = look.moves ∙ add-one k in
    let same : new.found.trail.items ≡ trail = ap (λ t. t.items) look.trail in
    let ends = ends-more m p k old.layer.entries.items old.found.ends.items new.found.ends.items found.ends layer.stand look.ends in
    let shown = look.ends.shown m trail layer.led found.shown in
    let decisions = decisions-more m p trail k old.layer.entries.items conditions old.found.decisions.items new.found.decisions.items layer found.decisions look.decisions in
    record {
      ends = subst (λ (n : ℕ). EndsStandFor new.found.ends.items (ends_before m p n)) (sym later) ends;
      shown = subst (λ (t : List Trace). All (IsShown m p t) new.found.ends.items) (sym same) shown;
      apart = look.ends.apart found.apart;
      all_decisions = look.decisions.so_many ∙ found.all_decisions;
      decisions = subst (λ (n : ℕ). AreDecisions m p new.found.trail.items n conditions new.found.decisions.items) (sym look.moves) (subst (λ (t : List Trace). AreDecisions m p t (k + 1) conditions new.found.decisions.items) (sym same) decisions);
      whole = λ is n le. found.whole (sym look.whole ∙ is) n (omega (arith, look.moves));
    }

ended : (m : Meanings) (p : Programmed) (k : ℕ) (entries : List Entry) → StandFor entries (after m p k) → (old_whole : Bool) →
    (old_whole ≡ true → (n : ℕ) → suc k ≤ n → after m p n ≡ []) → (old_whole ≡ true) ⊎ IsNext m p entries [] → (n : ℕ) → suc k ≤ n → after m p n ≡ []
ended m p k entries stand old_whole before (inl is) n le = before is n le
ended m p k entries stand old_whole before (inr h) n le =
    none-later m p (suc k) n le (stand-for-none (after m p (suc k)) (next-stands m p k entries [] stand h))

over-by : (m : Meanings) (p : Programmed) (trail longer : List Trace) (k : ℕ) (entries : List Entry) (whole : Bool) → IsLayer m p trail k entries →
    (whole ≡ true) ⊎ LeadsPast m p trail longer entries → (whole ≡ true) ⊎ HasMore m p longer
over-by m p trail longer k entries whole layer (inl all) = inl all
over-by m p trail longer k entries whole layer (inr past) = inr (past k layer.led layer.seen)

pub advance-keeps : (m : Meanings) (p : Programmed) (conditions : List Condition) (k : ℕ) (old new : Search) → IsFound m p conditions old.found →
    old.found.moves ≡ suc k → IsLayer m p old.found.trail.items k old.layer.entries.items → IsAdvance m p old new → IsSearch m p conditions new
advance-keeps m p conditions k old new found at layer h =
    let trail = old.found.trail.items in
    let later = h.longer.0 in
    let longer : new.found.trail.items ≡ trail ++ later = h.longer.1 in
    let ends : new.found.ends.items ≡ old.found.ends.items = ap (λ v. v.items) h.ends in
    let decisions : new.found.decisions.items ≡ old.found.decisions.items = ap (λ v. v.items) h.decisions in
    let moves : new.found.moves ≡ suc k = h.moves ∙ at in
    record {
      found = record {
        ends = rw (ends, h.moves) found.ends;
        shown = rw (ends, longer) (shown-longer m p trail later old.found.ends.items found.shown);
        apart = rw ends found.apart;
        all_decisions = ap length decisions ∙ found.all_decisions;
        decisions = rw (decisions, longer, h.moves) (λ i c d ec ed. decision-longer m p trail later old.found.moves c d (found.decisions i c d ec ed));
        whole = λ is n le.
            ended m p k old.layer.entries.items layer.stand old.found.whole (λ w j l. found.whole w j (omega (arith, at))) (h.whole is) n (omega (arith, moves));
      };
      layer = λ on.
          subst (λ (n : ℕ). IsLayer m p new.found.trail.items n new.layer.entries.items) (sym moves) (record {
            stand = next-stands m p k old.layer.entries.items new.layer.entries.items layer.stand (h.next on);
            led = h.led on k layer.led;
            seen = seen-more m p trail new.found.trail.items k new.layer.entries.items h.longer layer.seen (h.numbered on) (h.led on k layer.led);
          });
      some = h.some;
      on = h.on;
      over = λ off. over-by m p trail new.found.trail.items k old.layer.entries.items new.found.whole layer (h.over off);
    }

pub go-on-keeps : (m : Meanings) (p : Programmed) (conditions : List Condition) (old mid new : Search) → old.is_on ≡ true → IsSearch m p conditions old →
    IsLook p conditions old mid → IsAdvance m p mid new → IsSearch m p conditions new
go-on-keeps m p conditions old mid new on h look advance =
    let k = old.found.moves in
    let layer : IsLayer m p old.found.trail.items k old.layer.entries.items = h.layer on in
    let found : IsFound m p conditions mid.found = look-keeps m p conditions old mid h.found layer look in
    let at : mid.found.moves ≡ suc k = look.moves ∙ add-one k in
    let trails : mid.found.trail.items ≡ old.found.trail.items = ap (λ t. t.items) look.trail in
    let layers : mid.layer.entries.items ≡ old.layer.entries.items = ap (λ l. l.entries.items) look.layer in
    let one : IsLayer m p mid.found.trail.items k old.layer.entries.items = subst (λ (t : List Trace). IsLayer m p t k old.layer.entries.items) (sym trails) layer in
    let both : IsLayer m p mid.found.trail.items k mid.layer.entries.items = subst (λ (es : List Entry). IsLayer m p mid.found.trail.items k es) (sym layers) one in
    advance-keeps m p conditions k mid new found at both advance

within-by : (m : Meanings) (p : Programmed) (trail : List Trace) (k : ℕ) (entries : List Entry) → All (IsLed m p trail k) entries → 0 < length entries → k < length trail
within-by m p trail k [] led some = absurd (omega arith)
within-by m p trail k (e ∷ entries) led some =
    let one : IsLed m p trail k e = led 0 e (omega arith) in
    omega (arith, leads-below m p trail k e.number e.situation one, leads-within m p trail k e.number e.situation one)

not-whole : (whole : Bool) (P : Type 0) → whole ≡ false → (whole ≡ true) ⊎ P → P
not-whole whole P part (inl all) = absurd (false≢true (sym part ∙ all))
not-whole whole P part (inr h) = h

-- a search that is on has given numbers to more situations than it made moves: its layer has an entry, with a number as high as its moves
pub on-within : (m : Meanings) (p : Programmed) (conditions : List Condition) (search : Search) → IsSearch m p conditions search → search.is_on ≡ true →
    search.found.moves < length search.found.trail.items
on-within m p conditions search h on = within-by m p search.found.trail.items search.found.moves search.layer.entries.items (h.layer on).led (h.some on)

-- where a bound is given, a search that isn't whole at the end has met one situation more
full-by : (m : Meanings) (p : Programmed) (conditions : List Condition) (bound : ℕ) (search : Search) (on : Bool) → search.is_on ≡ on → IsSearch m p conditions search → IsOver bound search → IsWithin bound search →
    (search.is_on ≡ true → bound ≤ search.found.moves) → 0 < bound → search.found.whole ≡ false → (bound ≤ length search.found.trail.items) × HasMore m p search.found.trail.items
full-by m p conditions bound search true is h over within goes some part =
    absurd (let more = on-within m p conditions search h is in omega (arith, more, goes is, within some))
full-by m p conditions bound search false is h over within goes some part =
    (not-whole search.found.whole _ part (over is), not-whole search.found.whole _ part (h.over is))

pub asked : (m : Meanings) (p : Programmed) (conditions : List Condition) (bound : ℕ) (search : Search) → IsSearch m p conditions search → IsOver bound search → IsWithin bound search →
    (search.is_on ≡ true → bound ≤ search.found.moves) → IsAsked m p bound search.found
asked m p conditions bound search h over within goes = record {
  within = within;
  full = λ some part. (full-by m p conditions bound search search.is_on refl h over within goes some part).0;
  more = λ some part. (full-by m p conditions bound search search.is_on refl h over within goes some part).1;
}
