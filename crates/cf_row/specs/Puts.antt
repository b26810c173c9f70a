-- Puts of a session: what it wants to stand behind the end that it has seen.
use Rattle.std.specs.Prelude.{◌≡◌, ◌≢◌, ◌⊎◌, ℕ, ◌+◌, ◌-◌, ◌*◌, ◌<◌, ◌≤◌, Bool, true, false, Option, Some, None, List, [], ◌∷◌, ◌++◌, All, length, map}
use Rattle.cf_model.specs.declared.events.Event.{Event}
use Rattle.cf_model.specs.declared.events.Event.TheVariants.{Attach as Attaches}
use Rattle.cf_model.specs.Calls.{who_of}
use Rattle.cf_model.specs.States.{start}
use Rattle.cf_model.specs.Ranges.{EventFits}
use Rattle.cf_event.specs.Words.{IsEvent, word_of}
use Rattle.cf_event.specs.Decoding.{event_of}
use Rattle.cf_ledger.specs.Ledgers.{AreTaken}
use Rattle.cf_row.specs.declared.entry.Entry.{Entry}
use Rattle.cf_row.specs.declared.faults.PutFault.{PutFault}
use Rattle.cf_row.specs.declared.faults.PutFault.TheVariants.{NoMemory, NoTokens, NoWord}
use Rattle.cf_row.specs.Rows.{BeginsWith, Replica, history_of, session_of, stages_of, state_of, with_memory, words_in}
use Rattle.cf_row.specs.Numbers.{FollowsRule}

-- what a contract sees: what was replayed, the put that is under way, if there is one, and the token that comes next
pub record Row : Type 0 where
  pub replica : Replica
  pub put : List Entry
  pub next : ℕ

-- ---- words

-- the caller of a word, or 0 where it is no event's
abbrev pub who_by : Option Event → ℕ
who_by None = 0
who_by (Some e) = who_of e

abbrev pub who_at : ℕ → ℕ
who_at w = who_by (event_of w)

-- the session and the caller's number of each entry
abbrev pub pair_of : Entry → ℕ × ℕ
pair_of x = (session_of x.token, who_at x.word)

abbrev pub pairs_of : List Entry → List (ℕ × ℕ)
pairs_of row = map pair_of row

-- how many stages a word attaches
abbrev pub attached_by : Option Event → ℕ
attached_by (Some (Attaches who form of function)) = 1
attached_by o = 0

-- a word of an event of this caller, for a graph of so many stages, with room for so many more
pub record IsWordFor (who stages room word : ℕ) : Type 0 where
  pub event : Event
  pub read : event_of word ≡ Some event
  pub named : word_of event ≡ word
  pub is : IsEvent event
  pub mine : who_of event ≡ who
  pub fits : EventFits stages event
  pub left : attached_by (event_of word) ≤ room

-- each of these is such a word, once those before it are done: a stage that a word attaches may be named behind it
abbrev pub AreWordsFor : ℕ → ℕ → ℕ → List ℕ → Type 0
AreWordsFor who stages room [] = Unit {0}
AreWordsFor who stages room (w ∷ words) =
    IsWordFor who stages room w × AreWordsFor who (stages + attached_by (event_of w)) (room - attached_by (event_of w)) words

abbrev pub AreWordsBehind : Replica → ℕ → List ℕ → Type 0
AreWordsBehind r who words = AreWordsFor who (stages_of r) (state_of r).plan.room words

-- ---- tokens

-- these words with tokens that count from one on
abbrev pub stamped : ℕ → List ℕ → List Entry
stamped token [] = []
stamped token (w ∷ words) = (record { word = w; token = token }) ∷ stamped (token + 1) words

-- behind the last token of a session
abbrev pub end_of_tokens : ℕ → ℕ
end_of_tokens session = session * 8388608 + 8388608

-- the tokens are the session's, and below the next one
pub record HasTokens (session : ℕ) (put : List Entry) (next : ℕ) : Type 0 where
  pub small : session < 549755813888
  pub first : session * 8388608 ≤ next
  pub last : next ≤ end_of_tokens session
  pub each : All (λ (x : Entry). (session_of x.token ≡ session) × (x.token < next)) put

-- ---- a put

-- tokens are left for these words, from the next one on
abbrev pub HasTokensFor : Replica → ℕ → List ℕ → Type 0
HasTokensFor r next words = next + length words ≤ end_of_tokens r.session

-- words that a session may put behind all that it has seen, with tokens from the next one on
pub record MayPut (r : Replica) (next : ℕ) (words : List ℕ) : Type 0 where
  pub tokens : HasTokensFor r next words
  pub number : ℕ
  pub rule : FollowsRule (pairs_of r.seen) (r.session, number)
  pub each : AreWordsBehind r number words
  pub taken : AreTaken (start r.plan) (history_of r.seen)

-- why nothing is put: the first of these, want of memory being the last
abbrev pub IsNoPut : Replica → ℕ → List ℕ → PutFault → Type 0
IsNoPut r next words NoTokens = ¬ HasTokensFor r next words
IsNoPut r next words NoWord = HasTokensFor r next words × ((who : ℕ) × FollowsRule (pairs_of r.seen) (r.session, who) × ¬ AreWordsBehind r who words)
IsNoPut r next words NoMemory = MayPut r next words × (r.free < length words)

-- a put of a session, for the place behind all that it has seen: the graph takes its words there, and their caller's number is the session's
pub record IsPutOf (r : Replica) (put : List Entry) : Type 0 where
  pub number : ℕ
  pub own : All (λ (x : Entry). session_of x.token ≡ r.session) put
  pub each : AreWordsBehind r number (words_in put)
  pub rule : FollowsRule (pairs_of r.seen) (r.session, number)
  pub taken : AreTaken (start r.plan) (history_of r.seen)

abbrev pub IsPutOrNone : Replica → List Entry → Type 0
IsPutOrNone r put = 0 < length put → IsPutOf r put

-- a put of these words is planned, with tokens that were never given before, and memory is found for it
pub record Plans (old : Row) (words : List ℕ) (new : Row) : Type 0 where
  pub replica : new.replica ≡ with_memory old.replica (length words)
  pub put : new.put ≡ stamped old.next words
  pub next : new.next ≡ old.next + length words

-- nothing is done but that memory may be found
pub record OnlyFinds (old new : Row) : Type 0 where
  pub found : old.replica.free ≤ new.replica.free
  pub same : new ≡ record old { replica = record old.replica { free = new.replica.free } }

-- ---- what became of it

-- no entry of this put stands anywhere in a row
abbrev pub NoneStands : List Entry → List Entry → Type 0
NoneStands row put = All (λ (x : Entry). All (λ (y : Entry). x.token ≢ y.token) put) row

-- all of it stands at a place, and nothing of it anywhere else
pub record StandsOnce (row : List Entry) (place : ℕ) (put : List Entry) : Type 0 where
  pub front : List Entry
  pub rest : List Entry
  pub is : row ≡ front ++ (put ++ rest)
  pub count : length front ≡ place
  pub before : NoneStands front put
  pub behind : NoneStands rest put

abbrev pub IsOnceOrNever : List Entry → ℕ → List Entry → Type 0
IsOnceOrNever row place put = StandsOnce row place put ⊎ NoneStands row put

-- What is told of a put that met this entry at its place is true of each row of which all is true that the session was told, in which
-- that entry stands there, and in which the put stands once or never.
pub record TellsOf (r : Replica) (put : List Entry) (first : Entry) (landed : Bool) : Type 0 where
  pub stands : (row : List Entry) → BeginsWith row (r.seen ++ first ∷ []) → IsOnceOrNever row (length r.seen) put → landed ≡ true → StandsOnce row (length r.seen) put
  pub lost : (row : List Entry) → BeginsWith row (r.seen ++ first ∷ []) → IsOnceOrNever row (length r.seen) put → landed ≡ false → NoneStands row put
