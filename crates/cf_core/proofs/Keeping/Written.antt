-- Which stages have come further, as a row that is written while they do.
use Rattle.std.proofs.Common.{◌≡◌, ◌≢◌, ℕ, ◌+◌, ◌<◌, ◌≤◌, ◌∷◌, ◌++◌, ◌∙◌, [], List, Option, Some, None, All, Contains, length, length-append, suc, zero, arith, ap, sym, subst, refl, inl, inr, append-nil, append_assoc, set}
use Rattle.std.specs.Prelude.{slice_get, unwrap_or}
use Rattle.std.proofs.lemmas.Bool.{cases_lt}
use Rattle.std.proofs.lemmas.Bool.Decides.{eqb_tells}
use Rattle.std.proofs.lemmas.List.Elements.{All-cons, All-head, All-nil, All-push, All-tail, Contains-push, Contains-append_left}
use Rattle.std.proofs.lemmas.Option.{slice_get_within}
use Rattle.cf_forms.specs.declared.forms.Args.{Args}
use Rattle.cf_model.specs.declared.stage.Stage.{Stage}
use Rattle.cf_model.specs.declared.stage.Stage.TheVariants.{Pending, Ready, Claimed}
use Rattle.cf_model.proofs.StateLemmas.{slice_get-set_other}
use Rattle.cf_model.specs.Graphs.{AreNews, IsClimbing, NoneLeftUpTo, MovesAlone, WritesNews, rank, stage_in}
use Rattle.cf_core.specs.Keeping.Changes.{AreWritten, HasPlaces}
use Rattle.cf_core.proofs.Keeping.Above.{all_contained}
use Rattle.cf_core.proofs.Keeping.Flags.{climbing_push, none_there}
use Rattle.cf_core.proofs.Keeping.Marking.{get-set_same}
use Rattle.cf_core.proofs.Keeping.Soundness.{All-more}

all_both : (P Q R : ℕ → Type 0) (xs : List ℕ) → ((i : ℕ) → P i → Q i → R i) → All P xs → All Q xs → All R xs
all_both P Q R [] f p q = All-nil R
all_both P Q R (x ∷ xs) f p q =
    All-cons R x xs (f x (All-head P x xs p) (All-head Q x xs q)) (all_both P Q R xs f (All-tail P x xs p) (All-tail Q x xs q))

up_to : (i m : ℕ) (left : Option ℕ) → i < m → NoneLeftUpTo m left → NoneLeftUpTo i left
up_to i m None l above = tt
up_to i m (Some n) l above = omega (arith, l, above)

-- at the beginning none has
pub written_none : (stages : List Stage) (left : Option ℕ) (row : List ℕ) → AreWritten stages stages left row row
written_none stages left row = record {
  xs = [];
  written = sym (append-nil row);
  rising = tt;
  further = All-nil (λ i. rank (stage_in stages i) < rank (stage_in stages i));
  same = λ i. inr refl;
  below = All-nil (λ i. NoneLeftUpTo i left);
}

-- the lowest stage that is left comes further, and is written
pub written_on : (old mid new : List Stage) (m : ℕ) (left : Option ℕ) (before row : List ℕ) → AreWritten old mid (Some m) before row → MovesAlone m mid new → rank (stage_in mid m) < rank (stage_in new m) →
    NoneLeftUpTo m left → AreWritten old new left before (row ++ m ∷ [])
written_on old mid new m left before row h alone less above =
    let xs = h.xs in
    let below = All-more (λ i. NoneLeftUpTo i (Some m)) (λ x. x < m) xs (λ x a. a) h.below in
    record {
      xs = xs ++ m ∷ [];
      written = ap (λ ys. ys ++ m ∷ []) h.written ∙ append_assoc before xs (m ∷ []);
      rising = climbing_push xs m h.rising below;
      further = All-push (λ i. rank (stage_in old i) < rank (stage_in new i)) xs m
          (all_both (λ i. rank (stage_in old i) < rank (stage_in mid i)) (λ x. x < m) (λ i. rank (stage_in old i) < rank (stage_in new i)) xs
          (λ i more l. subst (λ x. rank (stage_in old i) < rank x) (sym (alone.others i (λ same. absurd (omega (arith, l, same))))) more) h.further below)
          (elim (h.same m) [
            | inl c ↦ (let l = all_contained (λ x. x < m) xs m below c in absurd (omega (arith, l)))
            | inr e ↦ (let is = ap rank e in omega (arith, is, less))
          ]);
      same = λ i. elim (eqb_tells i m) [
        | inl s ↦ inl (subst (Contains (xs ++ m ∷ [])) (sym s.1) (Contains-push xs m))
        | inr s ↦ elim (h.same i) [
          | inl c ↦ inl (Contains-append_left xs (m ∷ []) i c)
          | inr e ↦ inr (alone.others i s.1 ∙ e)
        ]
      ];
      below = All-push (λ i. NoneLeftUpTo i left) xs m (All-more (λ x. x < m) (λ i. NoneLeftUpTo i left) xs (λ x l. up_to x m left l above) below) above;
    }

-- or it doesn't
pub written_not : (old mid new : List Stage) (m : ℕ) (left : Option ℕ) (before row : List ℕ) → AreWritten old mid (Some m) before row → MovesAlone m mid new → rank (stage_in new m) ≤ rank (stage_in mid m) →
    NoneLeftUpTo m left → AreWritten old new left before row
written_not old mid new m left before row h alone least above =
    let xs = h.xs in
    let below = All-more (λ i. NoneLeftUpTo i (Some m)) (λ x. x < m) xs (λ x a. a) h.below in
    record {
      xs = xs;
      written = h.written;
      rising = h.rising;
      further = All-more (λ i. rank (stage_in old i) < rank (stage_in mid i)) (λ i. rank (stage_in old i) < rank (stage_in new i)) xs
          (λ i more. subst (λ x. rank (stage_in old i) < rank x) (sym (all_same i)) more) h.further;
      same = λ i. elim (h.same i) [
        | inl c ↦ inl c
        | inr e ↦ inr (all_same i ∙ e)
      ];
      below = All-more (λ x. x < m) (λ i. NoneLeftUpTo i left) xs (λ x l. up_to x m left l above) below;
    }
  where
    all_same : (i : ℕ) → stage_in new i ≡ stage_in mid i
    all_same i = elim (eqb_tells i m) [
      | inl s ↦ ap (stage_in new) s.1 ∙ alone.stays (let on = alone.onward in omega (arith, on, least)) ∙ ap (stage_in mid) (sym s.1)
      | inr s ↦ alone.others i s.1
    ]

-- they are the stages that differ
pub written_news : (old new : List Stage) (left : Option ℕ) (row row' : List ℕ) → AreWritten old new left row row' → WritesNews old new row row'
written_news old new left row row' h = record {
  xs = h.xs;
  written = h.written;
  news = record {
    rising = h.rising;
    differ = All-more (λ i. rank (stage_in old i) < rank (stage_in new i)) (λ i. stage_in new i ≢ stage_in old i) h.xs (λ i less same. (let is = ap rank same in absurd (omega (arith, less, is)))) h.further;
    all = λ i other. elim (h.same i) [
      | inl c ↦ c
      | inr e ↦ absurd (other e)
    ];
  };
}

-- ---- places

climbing_span : (xs : List ℕ) (k n : ℕ) → IsClimbing xs → All (λ x. k ≤ x) xs → All (λ x. x < n) xs → k ≤ n → length xs + k ≤ n
climbing_span [] k n h least below l = omega (arith, l)
climbing_span (x ∷ xs) k n h least below l =
    let here = All-head (λ y. k ≤ y) x xs least in
    let last = All-head (λ y. y < n) x xs below in
    let rest = climbing_span xs (suc x) n h.1 (All-more (λ y. x < y) (λ y. suc x ≤ y) xs (λ y m. omega (arith, m)) h.0) (All-tail (λ y. y < n) x xs below) (omega (arith, last)) in
    omega (arith, here, rest)

-- no more stages differ than there are
pub news_few : (old new : List Stage) (xs : List ℕ) (n : ℕ) → length old ≤ n → length new ≤ n → AreNews old new xs → length xs ≤ n
news_few old new xs n few_old few_new h =
    let within = All-more (λ i. stage_in new i ≢ stage_in old i) (λ i. i < n) xs (λ i differs. elim (cases_lt i n) [
      | inl l ↦ l
      | inr l ↦ absurd (differs (none_there new i (omega (arith, l, few_new)) ∙ sym (none_there old i (omega (arith, l, few_old)))))
    ]) h.differ in
    let span = climbing_span xs 0 n h.rising (All-more (λ i. i < n) (λ i. 0 ≤ i) xs (λ i l. omega arith) within) within (omega arith) in
    omega (arith, span)

pub written_few : (old new : List Stage) (row row' : List ℕ) (n : ℕ) → length old ≤ n → length new ≤ n → WritesNews old new row row' → length row' ≤ length row + n
written_few old new row row' n few_old few_new h =
    let few = news_few old new h.xs n few_old few_new h.news in
    let all = ap length h.written ∙ length-append row h.xs in
    omega (arith, few, all)

-- the next stage is above, so it needs no more places
pub places_on : (count m written places : ℕ) (left : Option ℕ) → m < count → HasPlaces count (Some m) written places → NoneLeftUpTo m left → HasPlaces count left (written + 1) places
places_on count m written places None within room above = tt
places_on count m written places (Some n) within room above = omega (arith, above, room, within)

pub places_not : (count m written places : ℕ) (left : Option ℕ) → m < count → HasPlaces count (Some m) written places → NoneLeftUpTo m left → HasPlaces count left written places
places_not count m written places None within room above = tt
places_not count m written places (Some n) within room above = omega (arith, above, room, within)

-- a row with a place for each stage has places for those that are left
pub places_for : (count written places : ℕ) (left : Option ℕ) → written + count ≤ places → HasPlaces count left written places
places_for count written places None room = tt
places_for count written places (Some m) room = omega (arith, room)

-- and one more where they are above stage d
pub places_after : (count d written places : ℕ) (left : Option ℕ) → d < count → written + count ≤ places → NoneLeftUpTo d left → HasPlaces count left (written + 1) places
places_after count d written places None within room above = tt
places_after count d written places (Some m) within room above = omega (arith, within, room, above)

-- ---- a claim

-- where nothing changes, nothing is written
pub same_news : (stages : List Stage) (row : List ℕ) → WritesNews stages stages row row
same_news stages row = record {
  xs = [];
  written = sym (append-nil row);
  news = record {
    rising = tt;
    differ = All-nil (λ i. stage_in stages i ≢ stage_in stages i);
    all = λ i other. absurd (other refl);
  };
}

-- and a claim changes its stage alone
pub claimed_news : (seen new : List Stage) (i : ℕ) (args : Args) (row : List ℕ) → slice_get seen i ≡ Some (Ready args) → new ≡ set seen i Claimed → WritesNews seen new row (row ++ i ∷ [])
claimed_news seen new i args row is written =
    let was : stage_in seen i ≡ Ready args = ap (λ x. unwrap_or x Pending) is in
    let now : stage_in new i ≡ Claimed = ap (λ stages. stage_in stages i) written ∙ ap (λ x. unwrap_or x Pending) (get-set_same seen i Claimed (slice_get_within seen i (Ready args) is)) in
    record {
      xs = i ∷ [];
      written = refl;
      news = record {
        rising = (All-nil (λ later. i < later), tt);
        differ = All-cons (λ j. stage_in new j ≢ stage_in seen j) i [] (λ same. let wrong : Claimed ≡ Ready args = sym now ∙ same ∙ was in cc) (All-nil (λ j. stage_in new j ≢ stage_in seen j));
        all = λ j other. elim (eqb_tells j i) [
          | inl s ↦ (zero, omega arith, sym s.1)
          | inr s ↦ absurd (other (ap (λ stages. stage_in stages j) written ∙ ap (λ x. unwrap_or x Pending) (slice_get-set_other seen i j Claimed s.1)))
        ];
      };
    }
