-- When a history fits whose callers' numbers several sessions had, and of which not each reply is known.
use Rattle.std.specs.Prelude.{◌≡◌, ◌↔◌, ℕ, Bool, true, false, cond, eqb, ltb, List, [], ◌∷◌, length, map, get_or, option_map}
use Rattle.std.specs.List.{AllZip}
use Rattle.cf_forms.specs.Plans.{Planned}
use Rattle.cf_model.specs.declared.events.Event.{Event}
use Rattle.cf_model.specs.declared.events.Reply.{Reply}
use Rattle.cf_model.specs.declared.events.Reply.TheVariants.{Flag}
use Rattle.cf_model.specs.States.{State, start}
use Rattle.cf_model.specs.Events.{answered}
use Rattle.cf_event.specs.Decoding.{decoded}
use Rattle.cf_event.specs.Events.{AreEventsOf}
use Rattle.cf_event.specs.Histories.{place_of}
use Rattle.cf_event.specs.declared.record.Record.{Record}
use Rattle.cf_event.specs.declared.record.Record.TheVariants.{Did, Saw}
use Rattle.cf_history.specs.declared.history.Caller.{Caller}
use Rattle.cf_history.specs.declared.history.History.{History}
use Rattle.cf_history.specs.declared.shared.Entry.{Entry}
use Rattle.cf_history.specs.declared.shared.Entry.TheVariants.{Known, Unanswered}
use Rattle.cf_history.specs.declared.shared.Session.{Session}
use Rattle.cf_history.specs.declared.shared.SharedCaller.{SharedCaller}
use Rattle.cf_history.specs.declared.shared.SharedHistory.{SharedHistory}
use Rattle.cf_history.specs.declared.verdict.Verdict.{Verdict}
use Rattle.cf_history.specs.Histories.{FitsOneGraph, said}
use Rattle.cf_history.specs.Verdicts.{IsVerdict}

-- ---- the sessions under one number, as one caller

abbrev pub place_in : Entry → ℕ
place_in (Known r) = place_of r
place_in (Unanswered place e) = place

abbrev pub is_call : Entry → Bool
is_call (Known (Did place e reply)) = true
is_call (Known (Saw place ask answer)) = false
is_call (Unanswered place e) = true

-- of two sessions' next entries the one of the lower place goes first, and at one place a call goes before a question
abbrev pub goes_first : Entry → Entry → Bool
goes_first x y = cond (eqb (place_in x) (place_in y)) (cond (is_call x) true (cond (is_call y) false true)) (ltb (place_in x) (place_in y))

-- an entry among another session's, and behind it what `more` makes of those of the other that are left
abbrev pub put_among : Entry → (List Entry → List Entry) → List Entry → List Entry
put_among x more [] = x ∷ more []
put_among x more (y ∷ ys) = cond (goes_first x y) (x ∷ more (y ∷ ys)) (y ∷ put_among x more ys)

-- the entries of two sessions, by their places, each session's in its own order
abbrev pub merged : List Entry → List Entry → List Entry
merged [] ys = ys
merged (x ∷ xs) ys = put_among x (merged xs) ys

-- whether the next of the merged entries is the first session's
abbrev pub is_first_next : List Entry → List Entry → Bool
is_first_next [] ys = false
is_first_next (x ∷ xs) [] = true
is_first_next (x ∷ xs) (y ∷ ys) = goes_first x y

-- the same of entries and the sessions that are still to come
abbrev pub merged_all : List Entry → List Session → List Entry
merged_all entries [] = entries
merged_all entries (s ∷ sessions) = merged_all (merged entries s.entries.items) sessions

-- the entries of each caller, those of its sessions together
abbrev pub entries_of : List SharedCaller → List (List Entry)
entries_of callers = map (λ (k : SharedCaller). merged_all [] k.sessions.items) callers

abbrev pub records_of : List Caller → List (List Record)
records_of callers = map (λ (k : Caller). k.records.items) callers

-- ---- some replies in the place of those that aren't known

abbrev pub IsFilled : Entry → Record → Type 0
IsFilled (Known k) r = r ≡ k
IsFilled (Unanswered place e) r = (reply : Reply) × (r ≡ Did place e reply)

-- each of these lists of entries with some replies is the list of records beside it
abbrev pub AreAllFilled : List (List Entry) → List (List Record) → Type 0
AreAllFilled entries records = AllZip (AllZip IsFilled) entries records

-- these callers have the records of the sessions, with some reply where none is known
abbrev pub AreFilledBy : SharedHistory → List Caller → Type 0
AreFilledBy shared callers = AreAllFilled (entries_of shared.callers.items) (records_of callers)

-- The history says what the sessions say, with some reply where none is known: each caller's records are those of its sessions, by
-- their places.
pub record Fills (shared : SharedHistory) (h : History) : Type 0 where
  pub functions : h.functions ≡ shared.functions
  pub words : h.words.items ≡ shared.words.items
  pub callers : AreAllFilled (entries_of shared.callers.items) (records_of h.callers.items)
  pub outcomes : said h ≡ option_map (λ o. o.items) shared.outcomes

-- There are replies with which the history fits, from this plan on.
pub record FitsWithSomeReplies (plan : Planned) (shared : SharedHistory) : Type 0 where
  pub history : History
  pub fills : Fills shared history
  pub fits : FitsOneGraph plan history

-- the history fits just where there are replies with which what the sessions tell does
abbrev pub FitsJustAs : Planned → SharedHistory → History → Type 0
FitsJustAs plan shared h = FitsOneGraph plan h ↔ FitsWithSomeReplies plan shared

-- ---- the sequential graph's replies

-- what the graph replies to each of these events
abbrev pub replies_from : State → List Event → List Reply
replies_from s [] = []
replies_from s (e ∷ events) = (answered s e).0 ∷ replies_from ((answered s e).1) events

-- the same by their places, which count from 1
abbrev pub replies_at : State → List Event → List Reply
replies_at s events = Flag false ∷ replies_from s events

-- an entry with the reply at its place
abbrev pub filled : List Reply → Entry → Record
filled replies (Known r) = r
filled replies (Unanswered place e) = Did place e (get_or replies place (Flag false))

abbrev pub all_filled : List Reply → List (List Entry) → List (List Record)
all_filled replies entries = map (map (filled replies)) entries

-- the graph of a plan takes these events
abbrev pub AreTaken : ℕ → ℕ → Planned → List Event → Type 0
AreTaken callers functions plan events = AreEventsOf callers functions (start plan) events

-- where it takes them, these are its replies, by their places
abbrev pub AreReplies : ℕ → ℕ → Planned → List Event → List Reply → Type 0
AreReplies callers functions plan events replies = AreTaken callers functions plan events → replies ≡ replies_at (start plan) events

-- where the words are those of events that the graph takes, each reply that isn't known is the one that the graph gives at its place
abbrev pub HaveGraphsReplies : Planned → SharedHistory → List Caller → Type 0
HaveGraphsReplies plan shared callers =
    AreTaken (length shared.callers.items) shared.functions plan (decoded shared.words.items)
    → records_of callers ≡ all_filled (replies_at (start plan) (decoded shared.words.items)) (entries_of shared.callers.items)

abbrev pub HasGraphsReplies : Planned → SharedHistory → History → Type 0
HasGraphsReplies plan shared h = HaveGraphsReplies plan shared h.callers.items

-- What the verdict tells on what sessions tell: it is the one on a history that says the same, with the graph's replies.
pub record IsSharedVerdict (plan : Planned) (shared : SharedHistory) (verdict : Verdict) : Type 0 where
  pub history : History
  pub fills : Fills shared history
  pub replies : HasGraphsReplies plan shared history
  pub tells : IsVerdict plan history verdict
