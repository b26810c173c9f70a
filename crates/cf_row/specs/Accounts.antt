-- What sessions say that they were told.
use Rattle.std.specs.Prelude.{◌≡◌, ◌≢◌, ℕ, zero, suc, Bool, true, false, cond, eqb, ltb, max, drop, ◌≤◌, List, [], ◌∷◌, ◌++◌, All, Contains, length, map}
use Rattle.std.specs.List.{filter}
use Rattle.cf_forms.specs.Plans.{Planned, with_room}
use Rattle.cf_model.specs.declared.events.Event.{Event}
use Rattle.cf_model.specs.Laws.{grants_of}
use Rattle.cf_model.specs.States.{State, start}
use Rattle.cf_model.specs.Events.{answered, state_after}
use Rattle.cf_event.specs.declared.record.Record.{Record}
use Rattle.cf_event.specs.declared.record.Record.TheVariants.{Did}
use Rattle.cf_event.specs.Histories.{IsOneHistory, place_of}
use Rattle.cf_row.specs.declared.entry.Entry.{Entry}
use Rattle.cf_row.specs.Rows.{BeginsWith, FitsUpTo, history_of, is_call, session_of}
use Rattle.cf_row.specs.Puts.{pairs_of}

-- what a session says: the room that its graph has had in all, the front of the row that it has seen, its caller's number, and its records
pub record Account : Type 0 where
  pub room : ℕ
  pub seen : List Entry
  pub number : ℕ
  pub session : ℕ
  pub records : List Record

-- a session that has put something, and whose records fit what it has seen of the row, by a graph with some room
pub record GivesAccount (plan : Planned) (row : List Entry) (a : Account) : Type 0 where
  pub number : Contains (pairs_of row) (a.session, a.number)
  pub room : a.room ≤ plan.room
  pub begins : BeginsWith row a.seen
  pub fits : FitsUpTo (with_room plan a.room) a.session (length a.seen) a.seen a.records

-- each session that put something gives account
abbrev pub AllGiveAccount : Planned → List Entry → List Account → Type 0
AllGiveAccount plan row accounts =
    All (GivesAccount plan row) accounts
    × All (λ (x : Entry). Contains (map (λ (a : Account). a.session) accounts) (session_of x.token)) row

-- The records of a session's entries behind what it has seen, with the graph's replies: nobody was there for them, since the session died, say.
abbrev pub unread : ℕ → ℕ → State → List Entry → List Event → List Record
unread s n state [] events = []
unread s n state (x ∷ row) [] = []
unread s n state (x ∷ row) (e ∷ events) =
    cond (eqb (session_of x.token) s) (Did (suc n) e ((answered state e).0) ∷ []) [] ++ unread s (suc n) ((answered state e).1) row events

-- an account with those
abbrev pub completed : Planned → List Entry → Account → Account
completed plan row a =
    let rest = drop (length a.seen) row in
    record a { seen = row; records = a.records ++ unread a.session (length a.seen) (state_after (start plan) (history_of a.seen)) rest (history_of rest) }

abbrev pub all_completed : Planned → List Entry → List Account → List Account
all_completed plan row accounts = map (completed plan row) accounts

-- ---- several sessions under one number

-- of two sessions' next records the one of the lower place goes first, and at one place a call goes before a question
abbrev pub goes_first : Record → Record → Bool
goes_first x y = cond (eqb (place_of x) (place_of y)) (cond (is_call x) true (cond (is_call y) false true)) (ltb (place_of x) (place_of y))

-- a record among another session's, and behind it what `more` makes of those of the other that are left
abbrev pub put_among : Record → (List Record → List Record) → List Record → List Record
put_among x more [] = x ∷ more []
put_among x more (y ∷ ys) = cond (goes_first x y) (x ∷ more (y ∷ ys)) (y ∷ put_among x more ys)

-- the records of two sessions, by their places, each session's in its own order
abbrev pub merged : List Record → List Record → List Record
merged [] ys = ys
merged (x ∷ xs) ys = put_among x (merged xs) ys

-- the same of records and the accounts that are still to come
abbrev pub merged_all : List Record → List Account → List Record
merged_all records [] = records
merged_all records (a ∷ accounts) = merged_all (merged records a.records) accounts

-- the accounts of the sessions that have this number
abbrev pub accounts_of : ℕ → List Account → List Account
accounts_of c accounts = filter (λ (a : Account). eqb a.number c) accounts

-- a caller: its number, and the records of all its sessions
abbrev pub caller_of : List Account → ℕ → ℕ × List Record
caller_of accounts c = (c, merged_all [] (accounts_of c accounts))

abbrev pub callers_below : ℕ → List Account → List (ℕ × List Record)
callers_below zero accounts = []
callers_below (suc n) accounts = callers_below n accounts ++ caller_of accounts n ∷ []

-- so many numbers are there: those up to the greatest
abbrev pub count_of : List Account → ℕ
count_of [] = 0
count_of (a ∷ accounts) = max (suc a.number) (count_of accounts)

-- all callers of these accounts
abbrev pub callers_of : List Account → List (ℕ × List Record)
callers_of accounts = callers_below (count_of accounts) accounts

-- no two accounts are one session's
abbrev pub AreOfOneEach : List Account → Type 0
AreOfOneEach [] = Unit {0}
AreOfOneEach (a ∷ accounts) = All (λ (b : Account). b.session ≢ a.session) accounts × AreOfOneEach accounts

-- Each account, completed, fits the row. Where each session gives one, the callers that they make and the row are one history of one
-- graph. And of all claims of a stage one at most is granted, over all sessions.
pub record AreOneHistory (plan : Planned) (row : List Entry) (accounts : List Account) : Type 0 where
  pub each : All (λ (a : Account). FitsUpTo plan a.session (length row) row a.records) (all_completed plan row accounts)
  pub one : AreOfOneEach accounts → IsOneHistory plan 4096 (history_of row) (callers_of (all_completed plan row accounts))
  pub granted_once : (i : ℕ) → grants_of i (start plan) (history_of row) ≤ 1
