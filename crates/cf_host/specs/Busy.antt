-- How many threads a process has left.
use Rattle.std.specs.Prelude.{◌≡◌, ℕ, ◌+◌, ◌-◌, Option, Some, None, List, [], ◌∷◌}
use Rattle.cf_turn.specs.Busy.{Takes}
use Rattle.cf_turn.specs.Works.{Work}
use Rattle.cf_host.specs.declared.request.Request.{Request}

-- ---- of one request

abbrev pub TakesIn : Option Work → ℕ → Type 0
TakesIn None n = n ≡ 0
TakesIn (Some w) n = Takes w.part n

-- so many are left of these threads
abbrev pub LeavesIn : ℕ → Option Work → ℕ → Type 0
LeavesIn threads w free = (n : ℕ) × TakesIn w n × (free ≡ threads - n)

-- ---- of all

-- so many threads are busy
abbrev pub AreBusy : List Request → ℕ → Type 0
AreBusy [] n = n ≡ 0
AreBusy (r ∷ requests) n = (here : ℕ) × (rest : ℕ) × TakesIn r.work here × AreBusy requests rest × (n ≡ here + rest)

-- so many are left of these
pub record Leaves (threads : ℕ) (requests : List Request) (free : ℕ) : Type 0 where
  pub busy : ℕ
  pub are : AreBusy requests busy
  pub is : free ≡ threads - busy
