-- What joins have to spare, and what a machine keeps.
use Rattle.std.proofs.Common.{◌≡◌, ℕ, zero, suc, ◌+◌, ◌≤◌, Bool, false, Option, Some, None, List, [], ◌++◌, append_assoc, drop, get_or, refl, replicate, take, take-append-drop, ap, sym, ◌∙◌, arith, subst, length, length-append}
use Rattle.std.specs.Prelude.{Err, Ok, OnErr, OnOk, Result}
use Rattle.cf_model.specs.States.{outcome_in}
use Rattle.cf_ledger.specs.Ledgers.{Ledger, state_of}
use Rattle.cf_ledger.specs.declared.step.Finish.{Finish}
use Rattle.cf_ledger.specs.declared.step.Held.{Held}
use Rattle.cf_request.specs.Lanes.{FinishesHeld}
use Rattle.cf_request.specs.Tallies.{TalliesFit}
use Rattle.cf_request.specs.Telling.{Teller, order_in, with_memory}
use Rattle.cf_request.specs.declared.joins.Join.{Join}
use Rattle.cf_request.specs.declared.tallies.Tallies.{Tallies}
use Rattle.cf_request.specs.Deadlines.{AreSet}
use Rattle.cf_request.specs.Machines.{IsMachine}
use Rattle.cf_request.specs.Relays.{AreRelays, AreThere, NoneBehind}
use Rattle.cf_request.specs.declared.deadlines.Deadline.{Deadline}
use Rattle.cf_request.specs.declared.relays.Relays.{Relays}
use Rattle.cf_request.proofs.Machines.{kept_found}
use Rattle.cf_request.proofs.Tallied.{stays_as, stays_memory, tallied_first, tallied_later}

pub four : {A B C D : Type 0} → A × B × C → D → A × B × C × D
four h d = (h.0, h.1, h.2, d)

pub three : {A B C D : Type 0} → A × B × C × D → A × B × C
three h = (h.0, h.1, h.2)

-- memory, or none
pub fit_reserved : {A E : Type 0} (result : Result A E) (words : ℕ) (a r : Teller) (follows : List Join) (flags : List Bool) (x : Tallies) → OnOk result (r ≡ with_memory words a) → OnErr result (r ≡ a) → TalliesFit follows flags x a → TalliesFit follows flags x r
fit_reserved (Ok v) words a r follows flags x found refused h = tallied_later follows flags x a r (stays_memory words a r found) h
fit_reserved (Err e) words a r follows flags x found refused h = subst (λ (t : Teller). TalliesFit follows flags x t) (sym refused) h

pub fit_found : (words : ℕ) (a r : Teller) (follows : List Join) (flags : List Bool) (x : Tallies) → r ≡ with_memory words a → TalliesFit follows flags x a → TalliesFit follows flags x r
fit_found words a r follows flags x found h = tallied_later follows flags x a r (stays_memory words a r found) h

pub fit_rows : (a : Teller) (follows now : List Join) (flags : List Bool) (x : Tallies) → now ≡ follows → TalliesFit follows flags x a → TalliesFit now flags x a
fit_rows a follows now flags x same h = subst (λ (l : List Join). TalliesFit l flags x a) (sym same) h

-- what is noted was settled before a word
pub noted_before : (words : ℕ) (a r b : Teller) (noted seen : ℕ) → r ≡ with_memory words a → b.taken ≡ r.taken → seen ≡ length r.told → noted ≤ length (order_in a) → noted ≤ length b.taken + seen
noted_before words a r b noted seen found taken at few =
    let size = length-append a.taken a.told in
    let told = ap (λ (t : Teller). length t.told) found in
    let had = ap (λ (t : Teller). length t.taken) found in
    let has = ap (λ (l : List ℕ). length l) taken in
    omega (arith, few, size, told, had, has, at)

pub noted_same : (a b : Teller) (noted seen : ℕ) → b.taken ≡ a.taken → seen ≡ length a.told → noted ≤ length (order_in a) → noted ≤ length b.taken + seen
noted_same a b noted seen taken at few =
    let size = length-append a.taken a.told in
    let has = ap (λ (l : List ℕ). length l) taken in
    omega (arith, few, size, has, at)

pub taken_held : (who : ℕ) (held : Option Held) (old : Teller) (finish : Option Finish) (new : Teller) → FinishesHeld who held old finish new → new.taken ≡ old.taken
taken_held who None old None new h = ap (λ (t : Teller). t.taken) h
taken_held who (Some g) old (Some f) new h = h.done.tells.tells.taken
taken_held who None old (Some f) new h = absurd h
taken_held who (Some g) old None new h = absurd h

-- ---- at first

clear_at : (n i : ℕ) → get_or (replicate n false) i false ≡ false
clear_at zero i = refl
clear_at (suc n) zero = refl
clear_at (suc n) (suc i) = clear_at n i

pub fit_first : (follows : List Join) (flags : List Bool) (x : Tallies) (t : Teller) → follows ≡ [] → flags ≡ replicate 4096 false → x.noted ≡ 0 → TalliesFit follows flags x t
fit_first follows flags x t none clear first =
    fit_rows t [] follows flags x none (tallied_first flags x t first (λ i. ap (λ (l : List Bool). get_or l i false) clear ∙ clear_at 4096 i))

-- ---- what is taken

pub fit_took : (count : ℕ) (a b : Teller) (follows : List Join) (flags : List Bool) (x : Tallies) → b.ledger ≡ a.ledger → b.taken ≡ a.taken ++ take count a.told → b.told ≡ drop count a.told → TalliesFit follows flags x a → TalliesFit follows flags x b
fit_took count a b follows flags x ledger taken told h =
    let order : order_in b ≡ order_in a = ap (λ (l : List ℕ). l ++ b.told) taken ∙ ap (λ (l : List ℕ). (a.taken ++ take count a.told) ++ l) told ∙ append_assoc a.taken (take count a.told) (drop count a.told)
    ∙ ap (λ (l : List ℕ). a.taken ++ l) (take-append-drop count a.told) in
    tallied_later follows flags x a b (stays_as a b order (λ i. ap (λ (l : Ledger). outcome_in (state_of l).stages i) ledger)) h

-- ---- what a machine keeps

abbrev pub Kept : Teller → Relays → Tallies → List Deadline → ℕ → Type 0
Kept t w x deadlines own =
    IsMachine t w.follows.items deadlines own × NoneBehind w.follows.items (state_of t.ledger).stages × AreRelays (state_of t.ledger).stages w.follows.items w.followed w.waiting × TalliesFit w.follows.items w.followed x t

-- where nothing changes
pub kept_same : (a r : Teller) (w : Relays) (x : Tallies) (deadlines : List Deadline) (own : ℕ) → r ≡ a → Kept a w x deadlines own → Kept r w x deadlines own
kept_same a r w x deadlines own same h = subst (λ (t : Teller). Kept t w x deadlines own) (sym same) h

-- where memory is found
pub kept_memory_found : (words : ℕ) (a r : Teller) (w : Relays) (x : Tallies) (deadlines : List Deadline) (own : ℕ) → r ≡ with_memory words a → Kept a w x deadlines own → Kept r w x deadlines own
kept_memory_found words a r w x deadlines own found h =
    four (kept_found words a r w deadlines own found (three h)) (fit_found words a r w.follows.items w.followed x found h.3)

pub kept_took : (count : ℕ) (a b : Teller) (w : Relays) (x : Tallies) (deadlines : List Deadline) (own : ℕ) → b.ledger ≡ a.ledger → b.taken ≡ a.taken ++ take count a.told → b.told ≡ drop count a.told → Kept a w x deadlines own → Kept b w x deadlines own
kept_took count a b w x deadlines own ledger taken told h = (
  record {
    relays = subst (λ (l : Ledger). AreThere (state_of l) w.follows.items) (sym ledger) h.0.relays;
    limits = subst (λ (l : Ledger). AreSet (state_of l) deadlines) (sym ledger) h.0.limits;
    caller = h.0.caller;
  },
  subst (λ (l : Ledger). NoneBehind w.follows.items (state_of l).stages) (sym ledger) h.1,
  subst (λ (l : Ledger). AreRelays (state_of l).stages w.follows.items w.followed w.waiting) (sym ledger) h.2,
  fit_took count a b w.follows.items w.followed x ledger taken told h.3,
)
