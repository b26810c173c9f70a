-- Each step of a slip keeps what all slips share.
use Rattle.std.proofs.Common.{◌≡◌, ◌≢◌, ◌⊎◌, ℕ, zero, suc, ◌+◌, ◌≤◌, ◌<◌, List, [], ◌∷◌, ◌++◌, set, true, false, true≢false, refl, sym, ap, ◌∙◌, subst, ⊎_elim, arith}
use mathlib.Core.Option.{some, some-ne-none, some-injective}
use lib.ListN.{get_elem?}
use Rattle.crossbeam_utils.specs.Register.{Turns, Forks, Merges}
use Rattle.atomic_table.proofs.Lists.{at_set, at_snoc, set_again}
use Rattle.cf_threads.specs.declared.slips.View.{View}
use Rattle.cf_threads.specs.declared.turn.Turn.{Turn}
use Rattle.cf_threads.specs.Slips.{IsCompared, IsFair, IsIn, IsShared, TakesTurn, all_parts, keeper, slip, spent, with_slip, without_slip}
use Rattle.cf_threads.specs.Turns.{begun, ended, one, weigh}
use Rattle.cf_threads.proofs.Sums.{gap_in_sum, less_in_sum, one_of_sum, weigh_append, weigh_both, weigh_push, weigh_set}

-- ---- who has every part

-- where nobody has a part, nothing is there
none_in_sum : (f : View → ℕ) (views : List View) → ((j : ℕ) (u : View) → get_elem? views j ≡ some u → u.parts ≡ 0 → f u ≡ 0) → weigh (λ (v : View). v.parts) views ≡ 0 → weigh f views ≡ 0
none_in_sum f [] idle none = refl
none_in_sum f (x ∷ xs) idle none =
    let more = none_in_sum f xs (λ j u e. idle (suc j) u e) (omega (arith, none)) in
    let first = idle 0 x refl (omega (arith, none)) in
    omega (arith, more, first)

-- who has every part has all that is there
alone_in_sum : (f : View → ℕ) (views : List View) (by : ℕ) (v : View) → get_elem? views by ≡ some v → ((j : ℕ) (u : View) → get_elem? views j ≡ some u → u.parts ≡ 0 → f u ≡ 0)
    → weigh (λ (u : View). u.parts) views ≡ v.parts → weigh f views ≡ f v
alone_in_sum f [] by v e idle whole = absurd (some-ne-none v (sym e))
alone_in_sum f (x ∷ xs) zero v e idle whole =
    let is = some-injective x v e in
    let same = ap (λ (u : View). u.parts) is in
    let rest = none_in_sum f xs (λ j u at. idle (suc j) u at) (omega (arith, whole, same)) in
    let there = ap f is in
    omega (arith, rest, there)
alone_in_sum f (x ∷ xs) (suc by) v e idle whole =
    let within = one_of_sum (λ (u : View). u.parts) xs by v e in
    let none = idle 0 x refl (omega (arith, whole, within)) in
    let more = alone_in_sum f xs by v e (λ j u at. idle (suc j) u at) (omega (arith, whole, within)) in
    omega (arith, none, more)

-- ---- what is fair

pub fair_none : (parts : ℕ) → IsFair parts []
fair_none parts = record { some = λ weight. omega arith; few = omega arith }

fair_both : (p q : ℕ) (xs ys : List Turn) → IsFair p xs → IsFair q ys → IsFair (p + q) (xs ++ ys)
fair_both p q xs ys h k = record {
  some = λ weight.
      (let a = h.some weight in
      let b = k.some weight in
      let c = weigh_append (begun weight) xs ys in
      let d = weigh_append (ended weight) xs ys in
      omega (arith, a, b, c, d));
  few =
      (let a = h.few in
      let b = k.few in
      let c = weigh_append (begun one) xs ys in
      let d = weigh_append (ended one) xs ys in
      omega (arith, a, b, c, d));
}

-- with all slips together no more is held than there are parts
few_in_all : (words : List ℕ) (views : List View) → (h : IsShared words views) → weigh (begun one) h.log ≤ weigh (ended one) h.log + all_parts
few_in_all words views h =
    let least = less_in_sum (λ (v : View). weigh (ended one) v.mine + v.parts) (λ (v : View). weigh (begun one) v.mine) views (λ j u e. (h.fits j u e).fair.few) in
    let both = weigh_both (λ (v : View). weigh (ended one) v.mine) (λ (v : View). v.parts) views in
    let a = h.taken (begun one) in
    let b = h.taken (ended one) in
    let p = h.parts in
    omega (arith, least, both, a, b, p)

-- what is held with one is among what is held with all
some_among : (words : List ℕ) (views : List View) (h : IsShared words views) (by : ℕ) (v : View) → get_elem? views by ≡ some v → (weight : ℕ → ℕ) → weigh (begun weight) v.mine + weigh (ended weight) h.log ≤ weigh (ended weight) v.mine + weigh (begun weight) h.log
some_among words views h by v at weight =
    let gap = gap_in_sum (λ (u : View). weigh (begun weight) u.mine) (λ (u : View). weigh (ended weight) u.mine) views by v at (λ j u e. (h.fits j u e).fair.some weight) in
    let a = h.taken (begun weight) in
    let b = h.taken (ended weight) in
    omega (arith, gap, a, b)

-- ---- steps

off : false ≡ true → ⊥
off e = true≢false (sym e)

in_set : (seat : ℕ) (log : List Turn) (views : List View) (by : ℕ) (w : View) → ((j : ℕ) (u : View) → j ≢ by → get_elem? views j ≡ some u → IsIn seat log j u) → IsIn seat log by w
    → (j : ℕ) (u : View) → get_elem? (set views by w) j ≡ some u → IsIn seat log j u
in_set seat log views by w others mine j u e =
    ⊎_elim
    (λ (x : (j ≡ by) × (w ≡ u)). subst (λ (y : ℕ × View). IsIn seat log y.0 y.1) (λ i. (sym x.0 i, x.1 i)) mine)
    (λ (x : (j ≢ by) × (get_elem? views j ≡ some u)). others j u x.0 x.1)
    (at_set views by j w u e)

pub begins : (words : List ℕ) → IsShared words (keeper all_parts [] ∷ [])
begins words = record { seat = 0; log = []; parts = refl; taken = λ weight. refl; fits = first }
  where
    first : (by : ℕ) (v : View) → get_elem? (keeper all_parts [] ∷ []) by ≡ some v → IsIn 0 [] by v
    first zero v e = subst (IsIn 0 [] 0) (some-injective _ _ e) (record { idle = λ none. refl; keeps = λ _. (refl, refl); fair = fair_none all_parts })
    first (suc by) v e = absurd (some-ne-none v (sym e))

-- once the keeper has taken a turn
abbrev taken_view : View → Turn → View
taken_view v turn = record v { all = v.all ++ turn ∷ []; mine = v.mine ++ turn ∷ [] }

keeps_taken : (by : ℕ) (v : View) (turn : Turn) (words : List ℕ) (views : List View) → v.keeps ≡ true → 0 < v.parts → IsFair v.parts (v.mine ++ turn ∷ []) → IsShared words views → get_elem? views by ≡ some v
    → (h : IsShared words (set views by (taken_view v turn))) × (h.log ≡ v.all ++ turn ∷ [])
keeps_taken by v turn words views keeps some_part fair h at =
    let w = taken_view v turn in
    let known = (h.fits by v at).keeps keeps in (
      (record {
        seat = h.seat;
        log = h.log ++ turn ∷ [];
        parts = (let s = weigh_set (λ (u : View). u.parts) views by v w at in let p = h.parts in omega (arith, s, p));
        taken = λ weight.
            (let s = weigh_set (λ (u : View). weigh weight u.mine) views by v w at in
            let t = h.taken weight in
            let a = weigh_push weight v.mine turn in
            let b = weigh_push weight h.log turn in
            omega (arith, s, t, a, b));
        fits = in_set h.seat (h.log ++ turn ∷ []) views by w
            (λ j u apart e. record {
              idle = (h.fits j u e).idle;
              keeps = λ k. absurd (apart (((h.fits j u e).keeps k).0 ∙ sym known.0));
              fair = (h.fits j u e).fair;
            })
            (record {
              idle = λ none. absurd (omega (arith, none, some_part));
              keeps = λ _. (known.0, ap (λ (l : List Turn). l ++ turn ∷ []) known.1);
              fair = fair;
            });
      }),
      ap (λ (l : List Turn). l ++ turn ∷ []) (sym known.1),
    )

-- the keeper takes a turn
pub takes : (by : ℕ) (v : View) (turn : Turn) → v.keeps ≡ true → 0 < v.parts → IsFair v.parts (v.mine ++ turn ∷ []) → Turns IsShared by v (λ x. x) (TakesTurn turn)
takes by v turn keeps some_part fair words views h at =
    let w = taken_view v turn in
    let next = keeps_taken by v turn words views keeps some_part fair h at in
    let known = ((h.fits by v at).keeps keeps).1 in (
      w,
      next.0,
      record {
        is = refl;
        among = record {
          some = λ weight.
              (let gap = some_among words views h by v at weight in
              let a = weigh_push (begun weight) v.mine turn in
              let b = weigh_push (ended weight) v.mine turn in
              let c = weigh_push (begun weight) v.all turn in
              let d = weigh_push (ended weight) v.all turn in
              let e = ap (weigh (begun weight)) known in
              let f = ap (weigh (ended weight)) known in
              omega (arith, gap, a, b, c, d, e, f));
          few =
              (let all = few_in_all words (set views by w) next.0 in
              let a = ap (weigh (begun one)) next.1 in
              let b = ap (weigh (ended one)) next.1 in
              omega (arith, all, a, b));
        };
      },
    )

-- a part goes to a new slip
pub cuts : (by : ℕ) (v : View) → 0 < v.parts → IsFair 1 v.mine → Forks IsShared by v (without_slip v) (slip v.mine)
cuts by v some_part fair words views h at =
    let l = without_slip v in
    let r = slip v.mine in
    record {
      seat = h.seat;
      log = h.log;
      parts =
          (let s = weigh_set (λ (u : View). u.parts) views by v l at in
          let t = weigh_append (λ (u : View). u.parts) (set views by l) (r ∷ []) in
          let p = h.parts in
          omega (arith, s, t, p, some_part));
      taken = λ weight.
          (let s = weigh_set (λ (u : View). weigh weight u.mine) views by v l at in
          let t = weigh_append (λ (u : View). weigh weight u.mine) (set views by l) (r ∷ []) in
          let p = h.taken weight in
          omega (arith, s, t, p));
      fits = λ j u e. ⊎_elim
          (λ was. in_set h.seat h.log views by l (λ k y apart at'. h.fits k y at') (record { idle = λ _. refl; keeps = (h.fits by v at).keeps; fair = fair_none _ }) j u was)
          (λ (same : r ≡ u). subst (IsIn h.seat h.log j) same (record { idle = λ none. absurd (omega (arith, none)); keeps = λ k. absurd (off k); fair = fair }))
          (at_snoc (set views by l) r u j e);
    }

none_left : (v w : View) → (v.parts ≡ 0 → v.mine ≡ []) → (w.parts ≡ 0 → w.mine ≡ []) → v.parts + w.parts ≡ 0 → v.mine ++ w.mine ≡ []
none_left v w first second none =
    let a = first (omega (arith, none)) in
    let b = second (omega (arith, none)) in
    ap (λ (l : List Turn). l ++ w.mine) a ∙ b

-- a slip comes back
pub joins : (by : ℕ) (v : View) (other : ℕ) (w : View) → Merges IsShared by v other w (with_slip v w) spent
joins by v other w words views h at apart there =
    let both = with_slip v w in
    let was : get_elem? views other ≡ some w = ⊎_elim (λ (t : (other ≡ by) × (both ≡ w)). absurd (apart t.0)) (λ (t : (other ≢ by) × (get_elem? views other ≡ some w)). t.1) (at_set views by other both w there) in
    let vs = set views by both in
    let mine = h.fits by v at in
    let its = h.fits other w was in
    record {
      seat = h.seat;
      log = h.log;
      parts =
          (let s = weigh_set (λ (u : View). u.parts) views by v both at in
          let t = weigh_set (λ (u : View). u.parts) vs other w spent there in
          let p = h.parts in
          omega (arith, s, t, p));
      taken = λ weight.
          (let s = weigh_set (λ (u : View). weigh weight u.mine) views by v both at in
          let t = weigh_set (λ (u : View). weigh weight u.mine) vs other w spent there in
          let a = weigh_append weight v.mine w.mine in
          let p = h.taken weight in
          omega (arith, s, t, a, p));
      fits = in_set h.seat h.log vs other spent
          (λ j u _ e. in_set h.seat h.log views by both (λ k y _ at'. h.fits k y at')
          (record { idle = none_left v w mine.idle its.idle; keeps = mine.keeps; fair = fair_both v.parts w.parts v.mine w.mine mine.fair its.fair }) j u e)
          (record { idle = λ _. refl; keeps = λ k. absurd (off k); fair = fair_none 0 });
    }

-- who has every part compares
pub compares : (by : ℕ) (v : View) → v.keeps ≡ true → v.parts ≡ all_parts → Turns IsShared by v (λ x. x) IsCompared
compares by v keeps whole words views h at =
    let known = (h.fits by v at).keeps keeps in
    let alone : (weight : Turn → ℕ) → weigh weight v.mine ≡ weigh weight v.all =
    λ weight. sym (alone_in_sum (λ (u : View). weigh weight u.mine) views by v at (λ j u e none. ap (weigh weight) ((h.fits j u e).idle none)) (h.parts ∙ sym whole)) ∙ h.taken weight ∙ ap (weigh weight) (sym known.1) in
    (v, subst (IsShared words) (sym (set_again views by v at)) h, (refl, alone))
