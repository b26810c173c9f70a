-- What a request tells, and what is taken then.
use Rattle.std.proofs.Common.{◌≡◌, ℕ, ◌<◌, ◌++◌, ◌∙◌, Bool, true, cond, None, List, [], ◌∷◌, All, length, ap, append-nil, sym, subst, arith}
use Rattle.std.specs.Prelude.{Contains, drop, take}
use Rattle.std.proofs.lemmas.List.Elements.{All-contains, All-contains_itself, All-weaker, Contains-append_right}
use Rattle.std.proofs.Math.Seq.{drop-nil, take-nil}
use Rattle.cf_model.specs.States.{State, claim_at, outcome_at}
use Rattle.cf_ledger.specs.Ledgers.{Ledger, stages_of, state_of}
use Rattle.cf_ledger.proofs.Words.{all_states}
use Rattle.cf_request.specs.Machines.{Machine, state_in}
use Rattle.cf_request.specs.Telling.{IsOnce, Teller, is_settled_in}
use Rattle.cf_request.proofs.Telling.{settled_within}
use Rattle.cf_c_handles.specs.Requests.{told_as, told_in}
use Rattle.cf_c_handles.specs.Todos.{taking}

-- what is told is settled
pub told_settled : (m : Machine) (l : Ledger) (told : List ℕ) → l ≡ m.teller.ledger → told ≡ m.teller.told → IsOnce (state_in m) (m.teller.taken ++ m.teller.told) → All (λ i. is_settled_in (state_of l).stages i ≡ true) told
told_settled m l told same is once =
    let P : ℕ → Type 0 = λ i. is_settled_in (state_in m).stages i ≡ true in
    let all = m.teller.taken ++ m.teller.told in
    let now : All P m.teller.told = All-weaker (Contains m.teller.told) P (λ i h. All-contains P all i once.settled (Contains-append_right m.teller.taken m.teller.told i h)) m.teller.told (All-contains_itself m.teller.told) in
    subst (λ (x : Ledger). All (λ i. is_settled_in (state_of x).stages i ≡ true) told) (sym same) (subst (All P) (sym is) now)

-- so it is there
pub settled_there : (l : Ledger) (i : ℕ) → is_settled_in (state_of l).stages i ≡ true → i < stages_of l
settled_there l i h =
    let all = all_states l.plan l.events in
    let within = settled_within (state_of l).stages i h in
    omega (arith, all, within)

-- and its claim is open for nothing
pub stop_told : (s : State) (i : ℕ) → is_settled_in s.stages i ≡ true → told_as i (claim_at s i) (outcome_at s i) ≡ told_in s i
stop_told s i h = ap (λ (b : Bool). told_as i (cond b (claim_at s i) None) (outcome_at s i)) (sym h)

-- what the machine says of a taking is all that has changed
pub takes_so_many : (count : ℕ) (old new : Machine) → new.teller.ledger ≡ old.teller.ledger → new.teller.taken ≡ old.teller.taken ++ take count old.teller.told →
    new.teller.told ≡ drop count old.teller.told → new.teller.lanes ≡ old.teller.lanes → new ≡ record old { teller = new.teller } → new ≡ taking count old
takes_so_many count old new ledger taken told lanes rest =
    let teller : new.teller ≡ record old.teller { taken = old.teller.taken ++ take count old.teller.told; told = drop count old.teller.told } =
    λ j. record { ledger = ledger j; taken = taken j; told = told j; lanes = lanes j } in
    rest ∙ ap (λ (t : Teller). record old { teller = t }) teller

-- where nothing is told, nothing is taken
pub takes_none : (count : ℕ) (m : Machine) → m.teller.told ≡ [] → m ≡ taking count m
takes_none count m none =
    let taken : m.teller.taken ≡ m.teller.taken ++ take count m.teller.told = sym (ap (λ (l : List ℕ). m.teller.taken ++ l) (ap (take count) none ∙ take-nil count) ∙ append-nil m.teller.taken) in
    let told : m.teller.told ≡ drop count m.teller.told = none ∙ sym (ap (drop count) none ∙ drop-nil count) in
    let teller : m.teller ≡ record m.teller { taken = m.teller.taken ++ take count m.teller.told; told = drop count m.teller.told } = λ j. record m.teller { taken = taken j; told = told j } in
    ap (λ (t : Teller). record m { teller = t }) teller

-- a row of one is its first, and nothing
pub one_alone : (xs ys : List ℕ) → length xs ≡ 1 → ys ≡ [] → (x : ℕ) × (xs ≡ x ∷ ys)
one_alone [] ys one none = absurd (omega (arith, one))
one_alone (x ∷ []) ys one none = (x, sym (ap (λ (l : List ℕ). x ∷ l) none))
one_alone (x ∷ y ∷ rest) ys one none = absurd (omega (arith, one))
