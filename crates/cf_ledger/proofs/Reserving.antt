-- Places for words to come, as words are written and rows grow.
use Rattle.std.proofs.Common.{◌≡◌, ℕ, zero, suc, ◌+◌, ◌-◌, ◌*◌, ◌^◌, ◌<◌, ◌≤◌, ◌∙◌, List, length, max, arith, ap, sym, subst, inl, inr}
use Rattle.std.proofs.Math.Nat.{max-eq_left, max-eq_right, mul-le-mul_right, suc-mul, zero-mul}
use Rattle.std.proofs.lemmas.Bool.{cases_lt}
use Rattle.std.proofs.lemmas.Nat.{mul-le}
use Rattle.std.specs.declared.vec.Vec.{Vec}
use Rattle.std.specs.Vec.{vec_capacity}
use Rattle.cf_forms.specs.Plans.{Planned}
use Rattle.cf_model.specs.declared.events.Event.{Event}
use Rattle.cf_event.specs.Decoding.{decoded}
use Rattle.cf_ledger.specs.Ledgers.{HavePlaces, Ledger, ledger_of}
use Rattle.cf_ledger.specs.News.{News}

pub no_places : {Z : Type 0} (most : ℕ) (u : Vec ℕ Z) (x : News) → HavePlaces 0 most u x
no_places most u x = record {
  of_words = omega arith;
  of_lists = omega arith;
  of_stages = (let none = zero-mul most in omega (arith, none));
}

-- no place is lost
pub places_stay : {Z : Type 0} (n most all : ℕ) (u v : Vec ℕ Z) (x y : News) → HavePlaces n most u x → most ≡ all → vec_capacity u - length u.items ≤ vec_capacity v - length v.items → x.more ≤ y.more → x.free ≤ y.free →
    HavePlaces n all v y
places_stay n most all u v x y h same words lists stages =
    let a = h.of_words in
    let b = h.of_lists in
    let c = h.of_stages in
    let of_stages : n * most ≤ y.free = omega (arith, c, stages) in
    record {
      of_words = omega (arith, a, words);
      of_lists = omega (arith, b, lists);
      of_stages = subst (λ k. n * k ≤ y.free) same of_stages;
    }

less_stages : (n most x y : ℕ) → n * most ≤ x → x ≤ y + most → (n - 1) * most ≤ y
less_stages zero most x y h l =
    let none : zero - 1 ≡ zero = omega arith in
    subst (λ k. k * most ≤ y) (sym none) (let z = zero-mul most in omega (arith, z))
less_stages (suc n) most x y h l =
    let less : suc n - 1 ≡ n = omega arith in
    subst (λ k. k * most ≤ y) (sym less) (let one = suc-mul n most in omega (arith, one, h, l))

-- those of one word are taken
pub places_less : {Z : Type 0} (n m most : ℕ) (u v : Vec ℕ Z) (x y : News) → HavePlaces n most u x → m ≡ n - 1 → vec_capacity u - length u.items ≤ vec_capacity v - length v.items + 1 → x.more ≤ y.more + 1 → x.free ≤ y.free + most →
    HavePlaces m most v y
places_less n m most u v x y h is words lists stages =
    let a = h.of_words in
    let b = h.of_lists in
    record {
      of_words = omega (arith, a, is, words);
      of_lists = omega (arith, b, is, lists);
      of_stages = subst (λ k. k * most ≤ y.free) (sym is) (less_stages n most x.free y.free h.of_stages stages);
    }

-- where there are places for two words, there is one for one
pub one_of_two : {Z : Type 0} (most : ℕ) (u : Vec ℕ Z) (x : News) → HavePlaces 2 most u x → HavePlaces 1 most u x
one_of_two most u x h =
    let a = h.of_words in
    let b = h.of_lists in
    let c = h.of_stages in
    record { of_words = omega (arith, a); of_lists = omega (arith, b); of_stages = omega (arith, c) }

-- and so there is where there are places for some
pub one_of_some : {Z : Type 0} (n most : ℕ) (u : Vec ℕ Z) (x : News) → 0 < n → HavePlaces n most u x → HavePlaces 1 most u x
one_of_some n most u x some h =
    let a = h.of_words in
    let b = h.of_lists in
    let c = h.of_stages in
    let up = mul-le-mul_right most (let le : 1 ≤ n = omega (arith, some) in le) in
    record { of_words = omega (arith, a, some); of_lists = omega (arith, b, some); of_stages = omega (arith, c, up) }

-- where there are places for so many, more are asked for if some are missing
pub places_short : {Z : Type 0} (n count most : ℕ) (u : Vec ℕ Z) (x : News) → HavePlaces n most u x → (count ≤ x.more → x.free < count * most) → n < count
places_short n count most u x h missing = elim (cases_lt n count) [
  | inl l ↦ l
  | inr le ↦ absurd (
      let lists = h.of_lists in
      let stages = h.of_stages in
      let up = mul-le-mul_right most le in
      let few = missing (omega (arith, le, lists)) in
      omega (arith, up, stages, few))
]

pub few_places : (count most : ℕ) → count ≤ 2 ^ 51 → most ≤ 4096 → count * most < 2 ^ 64
few_places count most l m = let all = mul-le count most (2 ^ 51) 4096 l m in omega (arith, all)

-- ---- a ledger for which memory is found

pub found_before : (l : Ledger) (more : ℕ) → more ≤ l.free → l ≡ record l { free = max l.free more }
found_before l more le = ap (λ (n : ℕ). let now : Ledger = record l { free = n } in now) (sym (max-eq_left le))

pub found_now : (l : Ledger) (more : ℕ) → l.free < more → (let now : Ledger = record l { free = more } in now) ≡ record l { free = max l.free more }
found_now l more short = ap (λ (n : ℕ). let now : Ledger = record l { free = n } in now) (sym (max-eq_right (let le : l.free ≤ more = omega (arith, short) in le)))

pub found_first : (l : Ledger) (plan : Planned) (words : List ℕ) (free : ℕ) → l.plan ≡ plan → l.events ≡ decoded words → l.free ≡ 0 → (let now : Ledger = record l { free = max l.free free } in now) ≡ ledger_of plan words free
found_first l plan words free planned done none =
    ap (λ (p : Planned). let now : Ledger = record { plan = p; events = l.events; free = max l.free free } in now) planned
    ∙ ap (λ (es : List Event). let now : Ledger = record { plan = plan; events = es; free = max l.free free } in now) done
    ∙ ap (λ (n : ℕ). let now : Ledger = record { plan = plan; events = decoded words; free = n } in now)
    (ap (λ n. max n free) none ∙ max-eq_right (let le : 0 ≤ free = omega arith in le))
