-- The store's clock, as this process knows it. Its own clock and the store's may be far apart.
use Rattle.std.specs.Prelude.{◌≡◌, ℕ, ◌+◌, ◌-◌, ◌≤◌}
use Rattle.cf_host.specs.declared.clock.Reading.{Reading}

-- a moment of the store's clock that is so much later than what it shows by now at most
abbrev pub moment_after : Reading → ℕ → ℕ → ℕ
moment_after r now span = r.shown + (now - r.asked) + span

-- a moment of this process's clock by which the store's has come to a moment of its own
abbrev pub due_at : Reading → ℕ → ℕ
due_at r moment = r.now + (moment - r.shown)

-- what the store's clock shows at each moment of this process's
abbrev pub StoreClock : Type 0
StoreClock = ℕ → ℕ

-- the answer is true: the clock showed this at a moment between the question and the answer
pub record IsReadingOf (clock : StoreClock) (r : Reading) : Type 0 where
  pub at : ℕ
  pub from : r.asked ≤ at
  pub to : at ≤ r.now
  pub shows : clock at ≡ r.shown

-- the store's clock goes no faster than this process's, or no slower
abbrev pub IsNoFaster : StoreClock → Type 0
IsNoFaster clock = (from to : ℕ) → from ≤ to → clock to ≤ clock from + (to - from)

abbrev pub IsNoSlower : StoreClock → Type 0
IsNoSlower clock = (from to : ℕ) → from ≤ to → clock from + (to - from) ≤ clock to

-- ---- laws

-- where a limit is set by now, its moment is no earlier than the store's clock has gone on so far
abbrev pub LimitsComeInTime : Type 0
LimitsComeInTime = (clock : StoreClock) (r : Reading) (now span : ℕ) → IsReadingOf clock r → IsNoFaster clock → r.now ≤ now → clock now + span ≤ moment_after r now span

-- from then on the store's clock shows the moment or a later one
abbrev pub TimersComeByThen : Type 0
TimersComeByThen = (clock : StoreClock) (r : Reading) (moment now : ℕ) → IsReadingOf clock r → IsNoSlower clock → due_at r moment ≤ now → moment ≤ clock now

-- what has come by an answer has come
abbrev pub WhatComesHasCome : Type 0
WhatComesHasCome = (clock : StoreClock) (r : Reading) (moment now : ℕ) → IsReadingOf clock r → IsNoSlower clock → r.now ≤ now → moment ≤ r.shown → moment ≤ clock now
