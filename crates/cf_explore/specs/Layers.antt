-- A layer: situations with the number of orders that lead to each, and how each was come to.
use Rattle.std.specs.Prelude.{◌≡◌, ℕ, ◌+◌, ◌-◌, ◌*◌, ◌^◌, ◌<◌, ◌≤◌, ◌++◌, ◌∷◌, [], Option, Some, None, List, All, Contains, length, min, slice_get, slice_set, sum_by}
use Rattle.std.proofs.Common.{zero, suc}
use Rattle.cf_explore.specs.declared.layer.Added.{Added}
use Rattle.cf_explore.specs.declared.layer.Added.TheVariants as added
use Rattle.cf_explore.specs.declared.layer.Entry.{Entry}
use Rattle.cf_explore.specs.declared.step.Move.{Move}
use Rattle.cf_explore.specs.declared.trail.Trace.{Trace}
use Rattle.cf_forms.specs.Meanings.{Meanings}
use Rattle.cf_explore.specs.Programs.{Programmed, Situated, start_of}
use Rattle.cf_explore.specs.Moves.{moved, moves}
use Rattle.cf_explore.specs.Orders.{after, next}

-- Numbers of orders are counted up to 2 ^ 128 - 1, which stands for itself and all above.
abbrev pub counted : ℕ → ℕ
counted n = min n (2 ^ 128 - 1)

-- what f adds up to over the entries, for each as often as orders lead to it
abbrev pub weight : (Situated → ℕ) → Entry → ℕ
weight f e = e.orders * f e.situation

abbrev pub weigh : (Situated → ℕ) → List Entry → ℕ
weigh f entries = sum_by (weight f) entries

-- The entries stand for these situations, each as often as it is there: whatever is added up over both comes to the same, as far as
-- it is counted.
abbrev pub StandFor : List Entry → List Situated → Type 0
StandFor entries situations = (f : Situated → ℕ) → counted (weigh f entries) ≡ counted (sum_by f situations)

-- An order of k moves leads to number n, which stands for situation s: each number has a lower one
-- before it, and the move between them.
abbrev pub LeadsTo : Meanings → Programmed → List Trace → ℕ → ℕ → Situated → Type 0
LeadsTo m p trail zero n s = (n ≡ 0) × (s ≡ start_of p) × (0 < length trail)
LeadsTo m p trail (suc k) n s =
    (trace : Trace) × (before : Situated) × (slice_get trail n ≡ Some trace) × LeadsTo m p trail k trace.before before
    × Contains (moves p before) trace.by × (s ≡ moved m p before trace.by) × (trace.before < n)

-- situation s stands at place i
abbrev pub IsAt : List Entry → ℕ → Situated → Type 0
IsAt entries i s = (e : Entry) × (slice_get entries i ≡ Some e) × (e.situation ≡ s)

-- an entry to which so many orders more lead
abbrev pub more : Entry → ℕ → Entry
more e orders = record e { orders = counted (e.orders + orders) }

-- so many orders more lead to the entry at place i
abbrev pub HasMoreOrders : List Entry → List Entry → ℕ → ℕ → Type 0
HasMoreOrders old new i orders = (e : Entry) → slice_get old i ≡ Some e → new ≡ slice_set old i (more e orders)

-- situation s stands at no place
abbrev pub IsNowhere : List Entry → Situated → Type 0
IsNowhere entries s = (i : ℕ) → IsAt entries i s → ⊥

-- So many orders more lead to a situation: it is new, gets the number and stands behind the others, or more lead to one that is there,
-- or it would be new and there is no number.
abbrev pub IsAdded : List Entry → List Entry → Situated → ℕ → Option ℕ → Added → Type 0
IsAdded old new s orders number added.New =
    (e : Entry) × (e.situation ≡ s) × (e.orders ≡ orders) × (number ≡ Some e.number) × (new ≡ old ++ e ∷ [])
IsAdded old new s orders number added.There =
    (i : ℕ) × (e : Entry) × (slice_get old i ≡ Some e) × (e.situation ≡ s) × (new ≡ slice_set old i (more e orders))
IsAdded old new s orders number added.NoRoom = (new ≡ old) × (number ≡ None) × IsNowhere old s

-- an order of k moves leads to an entry
abbrev pub IsLed : Meanings → Programmed → List Trace → ℕ → Entry → Type 0
IsLed m p trail k e = LeadsTo m p trail k e.number e.situation

-- orders of at most k moves lead to all numbers that there are
abbrev pub AreSeen : Meanings → Programmed → List Trace → ℕ → Type 0
AreSeen m p trail k = (n : ℕ) → n < length trail → (j : ℕ) × (s : Situated) × (j ≤ k) × LeadsTo m p trail j n s

-- The entries stand for the situations after k moves, an order of k moves leads to each, and no number is of a longer one.
pub record IsLayer (m : Meanings) (p : Programmed) (trail : List Trace) (k : ℕ) (entries : List Entry) : Type 0 where
  pub stand : StandFor entries (after m p k)
  pub led : All (IsLed m p trail k) entries
  pub seen : AreSeen m p trail k

-- what f adds up to over the situations after one more move
abbrev pub over_next : Meanings → Programmed → (Situated → ℕ) → Situated → ℕ
over_next m p f s = sum_by f (next m p s)

-- one trail goes on where the other ends
abbrev pub IsLonger : List Trace → List Trace → Type 0
IsLonger old new = (later : List Trace) × (new ≡ old ++ later)

-- What was made of one entry: the situations after one more move from it came to the others.
pub record IsSpread (m : Meanings) (p : Programmed) (e : Entry) (old new : List Entry) : Type 0 where
  pub weighs : (f : Situated → ℕ) → counted (weigh f new) ≡ counted (weigh f old + e.orders * over_next m p f e.situation)

-- What was made of a layer: the situations after one more move.
pub record IsNext (m : Meanings) (p : Programmed) (entries new : List Entry) : Type 0 where
  pub weighs : (f : Situated → ℕ) → counted (weigh f new) ≡ counted (weigh (over_next m p f) entries)

-- orders still lead to all entries, where they led to those before
abbrev pub KeepsLed : Meanings → Programmed → List Trace → List Trace → List Entry → List Entry → Entry → Type 0
KeepsLed m p trail longer old new e =
    (k : ℕ) → IsLed m p trail k e → All (IsLed m p trail (suc k)) old → All (IsLed m p longer (suc k)) new

abbrev pub LeadsOn : Meanings → Programmed → List Trace → List Trace → List Entry → List Entry → Type 0
LeadsOn m p trail longer entries new = (k : ℕ) → All (IsLed m p trail k) entries → All (IsLed m p longer (suc k)) new

-- the entries have the numbers from the base on, in their order, up to the last that there is
pub record AreNumbered (base : ℕ) (trail : List Trace) (entries : List Entry) : Type 0 where
  pub all : length trail ≡ base + length entries
  pub each : (i : ℕ) (e : Entry) → slice_get entries i ≡ Some e → e.number ≡ base + i

-- There is one situation more than those that have a number: a move leads to it from one that has, and no number stands for it.
pub record HasMore (m : Meanings) (p : Programmed) (trail : List Trace) : Type 0 where
  pub made : ℕ
  pub number : ℕ
  pub before : Situated
  pub by : Move
  pub leads : LeadsTo m p trail made number before
  pub can : Contains (moves p before) by
  pub none : (n : ℕ) → LeadsTo m p trail (suc made) n (moved m p before by) → ⊥

-- so it is where a layer was left before its end
abbrev pub LeadsPast : Meanings → Programmed → List Trace → List Trace → List Entry → Type 0
LeadsPast m p trail longer entries = (k : ℕ) → All (IsLed m p trail k) entries → AreSeen m p trail k → HasMore m p longer

-- a move leads from this entry to a situation that isn't among these
abbrev pub MissesOne : Meanings → Programmed → Entry → List Entry → Type 0
MissesOne m p e entries = (by : Move) × Contains (moves p e.situation) by × IsNowhere entries (moved m p e.situation by)
