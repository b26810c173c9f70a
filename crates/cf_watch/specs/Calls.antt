-- Which sessions are silent, by the calls of a watch alone.
use Rattle.std.specs.Prelude.{◌≡◌, ◌≢◌, ◌⊎◌, ℕ, ◌+◌, ◌-◌, ◌/◌, ◌<◌, Option, Some, None, List, [], ◌∷◌, ◌++◌, cond, eqb, min}
use Rattle.cf_watch.specs.declared.beat.Beat.{Beat}

-- an answer of the store: when it was asked for, when it came, and which sessions' beats it tells
pub record Answer : Type 0 where
  pub asked : ℕ
  pub now : ℕ
  pub beats : List Beat

-- a call: an answer comes, a question stays without one, or a session is noticed. Lists of calls have the last one first.
pub data Call : Type 0 where
  answers : Answer → Call
  silences : Call
  notices : ℕ → Call

-- the count that an answer tells of a session, if it tells one
abbrev pub count_in : ℕ → List Beat → Option ℕ
count_in s [] = None
count_in s (b ∷ bs) = cond (eqb b.session s) (Some b.count) (count_in s bs)

-- what counts of the time between an answer and the next question: half a lease at most, and nothing where a clock went back
abbrev pub span : ℕ → ℕ → ℕ → ℕ
span lease answer question = min (question - answer) (lease / 2)

-- the last answer since a first one
abbrev pub last_since : Answer → List Call → Answer
last_since first [] = first
last_since first (answers a ∷ calls) = a
last_since first (silences ∷ calls) = last_since first calls
last_since first (notices t ∷ calls) = last_since first calls

-- the time since then: what counts between each answer and the next question
abbrev pub time_since : ℕ → Answer → List Call → ℕ
time_since lease first [] = 0
time_since lease first (answers a ∷ calls) = span lease (last_since first calls).now a.asked + time_since lease first calls
time_since lease first (silences ∷ calls) = time_since lease first calls
time_since lease first (notices t ∷ calls) = time_since lease first calls

-- the store was never silent, and each answer told this count of a session, or none
abbrev pub IsSameIn : ℕ → Option ℕ → List Call → Type 0
IsSameIn s count [] = Unit {0}
IsSameIn s count (answers a ∷ calls) = ((count_in s a.beats ≡ None) ⊎ (count_in s a.beats ≡ count)) × IsSameIn s count calls
IsSameIn s count (silences ∷ calls) = ⊥
IsSameIn s count (notices t ∷ calls) = IsSameIn s count calls

-- since the store was silent last, a session was noticed, or an answer told of it
abbrev pub IsKnownBy : ℕ → List Call → Type 0
IsKnownBy s [] = ⊥
IsKnownBy s (answers a ∷ calls) = (count_in s a.beats ≢ None) ⊎ IsKnownBy s calls
IsKnownBy s (silences ∷ calls) = ⊥
IsKnownBy s (notices t ∷ calls) = (t ≡ s) ⊎ IsKnownBy s calls

-- a session was silent for more than a lease: since an answer by which it was known the store always answered, with one count for it
pub record IsSilent (lease : ℕ) (calls : List Call) (s : ℕ) : Type 0 where
  pub since : List Call
  pub first : Answer
  pub before : List Call
  pub are : calls ≡ since ++ answers first ∷ before
  pub known : IsKnownBy s (answers first ∷ before)
  pub same : IsSameIn s (count_in s first.beats) since
  pub long : lease < time_since lease first since

-- ---- beats

abbrev pub told_or : Option ℕ → Option ℕ → Option ℕ
told_or None before = before
told_or (Some count) before = Some count

-- the count that was told of a session last, since the store was silent
abbrev pub last_count : ℕ → List Call → Option ℕ
last_count s [] = None
last_count s (answers a ∷ calls) = told_or (count_in s a.beats) (last_count s calls)
last_count s (silences ∷ calls) = None
last_count s (notices t ∷ calls) = last_count s calls

-- behind these calls an answer tells another count of a session than was told last, or the first one
pub record TellsBeat (s : ℕ) (a : Answer) (calls : List Call) : Type 0 where
  pub some : count_in s a.beats ≢ None
  pub other : count_in s a.beats ≢ last_count s calls
