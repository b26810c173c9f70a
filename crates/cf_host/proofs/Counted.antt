-- What is counted.
use Rattle.std.proofs.Common.{◌≡◌, ℕ, suc, ◌+◌, ◌-◌, ◌<◌, Bool, true, false, List, ◌∙◌, arith, drop, get_or, length, refl, subst, sym, inl, inr}
use Rattle.std.specs.Prelude.{nat_lt}
use Rattle.std.proofs.lemmas.Bool.{cases_lt}
use Rattle.std.proofs.lemmas.Bool.Decides.{nat_tests}
use Rattle.std.proofs.Math.Seq.{drop-cons}
use Rattle.cf_host.specs.declared.request.Request.{Request}
use Rattle.cf_host.specs.Busy.{AreBusy, TakesIn}

-- what the rest takes behind a request that takes so much
pub busy_more : (requests : List Request) (i n rest : ℕ) (d : Request) → i < length requests → TakesIn (get_or requests i d).work n →
    AreBusy (drop (i + 1) requests) rest → AreBusy (drop i requests) (n + rest)
busy_more requests i n rest d there takes are =
    subst (λ (rs : List Request). AreBusy rs (n + rest)) (sym (drop-cons requests i d there)) (n, rest, takes, (let next : i + 1 ≡ suc i = omega arith in subst (λ (k : ℕ). AreBusy (drop k requests) rest) next are), refl)

-- a thread is free
pub free_tells : (threads busy free : ℕ) → free ≡ threads - busy → nat_lt 0 free ≡ nat_lt busy threads
free_tells threads busy free is = elim (cases_lt busy threads) [
  | inl low ↦
      let here : nat_lt 0 free ≡ true = grind (arith, nat_tests) in
      let there : nat_lt busy threads ≡ true = grind (arith, nat_tests) in
      here ∙ sym there
  | inr high ↦
      let here : nat_lt 0 free ≡ false = grind (arith, nat_tests) in
      let there : nat_lt busy threads ≡ false = grind (arith, nat_tests) in
      here ∙ sym there
]
