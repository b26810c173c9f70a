-- How a worker waits before it ends.
use Rattle.std.specs.Prelude.{◌≡◌, ℕ, ◌<◌, ◌≤◌, ◌⊎◌, None, List, [], ◌∷◌, ◌++◌, length}
use Rattle.std.specs.List.{All}
use Rattle.cf_model.specs.States.{lowest_ready_of}
use Rattle.cf_model.specs.Events.{state_at}
use Rattle.cf_pool.specs.Answering.{Answers}
use Rattle.cf_desk.specs.declared.calls.Rec.{Rec}
use Rattle.cf_desk.specs.declared.calls.Rec.TheVariants.{Did, Saw}
use Rattle.cf_desk.specs.Views.{Desk, Pass, state_of}
use Rattle.cf_pool.specs.Works.{WorksOut}

-- the place of the last of these records, or this one where there is none
abbrev pub last_place : ℕ → List Rec → ℕ
last_place n [] = n
last_place n (Did place call reply ∷ rs) = last_place place rs
last_place n (Saw place ask answer ∷ rs) = last_place place rs

-- a look came from this place on, and before that one
abbrev pub IsEarlier : ℕ → ℕ → ℕ → Type 0
IsEarlier first last look = (first ≤ look) × (look < last)

-- the looks go on, and each further one came from this place on, and before that one
pub record LooksBefore (first last : ℕ) (looks now : List ℕ) : Type 0 where
  pub busy : List ℕ
  pub is : now ≡ looks ++ busy
  pub earlier : All (IsEarlier first last) busy

-- nothing was ready at this place of what the pass has seen
abbrev pub IsIdleAt : Pass → ℕ → Type 0
IsIdleAt p place = (place ≤ length p.known.seen) × (lowest_ready_of (state_at p.known.setting.plan p.known.seen place) ≡ None)

-- From this place on the pass looked so many times more, and found nothing ready each time. Where what it has seen fills the log, it
-- may have looked less often.
pub record Idles (d : Desk) (patience from : ℕ) (looks : List ℕ) (q : Pass) : Type 0 where
  pub idle : List ℕ
  pub is : q.known.looks ≡ looks ++ idle
  pub since : All (λ look. from ≤ look) idle
  pub vain : All (IsIdleAt q) idle
  pub patient : (length idle ≡ patience) ⊎ ((d.words ≤ length q.known.seen) × (length idle ≤ patience))

-- Since its last record, or since it began where it added none, the worker waited for its patience, and just so long.
pub record Waits (d : Desk) (patience : ℕ) (p q : Pass) : Type 0 where
  pub more : List Rec
  pub records : q.records ≡ p.records ++ more
  pub looks : List ℕ
  pub before : LooksBefore (length p.known.seen) (last_place (length p.known.seen) more) p.known.looks looks
  pub idles : Idles d patience (last_place (length p.known.seen) more) looks q

-- a worker that ended: it owes nothing, found nothing ready at last, and had waited for its patience
pub record Ends (answers : Answers) (d : Desk) (patience : ℕ) (p q : Pass) : Type 0 where
  pub out : WorksOut answers p q
  pub none : lowest_ready_of (state_of q.known) ≡ None
  pub waits : Waits d patience p q
