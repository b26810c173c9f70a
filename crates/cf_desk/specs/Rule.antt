-- The rule of the row.
use Rattle.std.specs.Prelude.{◌≡◌, ℕ, zero, suc, ◌+◌, ◌<◌, ◌≤◌, eqb, leb, Some, None, List, [], ◌∷◌, ◌++◌, map, length, replicate, slice_get, Bool, true, false}
use mathlib.Core.Option.{some}
use lib.ListN.{get_elem?}
use Rattle.atomic_table.specs.Table.{State, Step, Me}
use Rattle.cf_model.specs.declared.events.Event.{Event}
use Rattle.cf_event.specs.Words.{word_of}
use Rattle.cf_event.specs.Decoding.{event_of}
use Rattle.cf_desk.specs.declared.row.DeskConfig.{DeskConfig}
use Rattle.cf_desk.specs.declared.row.LogConfig.{LogConfig}
use Rattle.cf_desk.specs.declared.row.CallerView.{CallerView}
use Rattle.cf_event.specs.Events.{own}
use Rattle.std.specs.List.{All}
use Rattle.cf_desk.specs.Log.{IsDeskEvent, AreLogged, state_from, Catches}

-- a look at a word that wasn't filled by then, and that lies no further than behind what was seen
abbrev pub IsLookOf : ℕ → List Event → ℕ → Type 0
IsLookOf filled seen n = (filled ≤ n) × (n ≤ length seen)

-- The looks since so many words were filled. As their number may be any that the log has reached, a step that adds a look keeps this
-- only while the log ends behind what was seen.
pub record LooksKept (log : List Event) (k : CallerView) : Type 0 where
  pub filled : k.filled ≤ length log
  pub since : List ℕ
  pub are : k.looks ≡ k.before ++ since
  pub looks : All (IsLookOf k.filled k.seen) since

-- The log begins with what was seen, and after it has no event of the caller, whose looks are kept. A notice is no caller's: its
-- number is one past the last.
pub record Stands (setting : DeskConfig) (log : List Event) (k : CallerView) : Type 0 where
  pub terms : k.setting ≡ setting
  pub caller : k.caller ≤ setting.callers
  pub rest : List Event
  pub split : log ≡ k.seen ++ rest
  pub none : own k.caller rest ≡ []
  pub looks : LooksKept log k

-- the filled words are those of the log's events, and the others are 0
pub record IsRow (t : LogConfig) (log : List Event) (words : List ℕ) : Type 0 where
  pub free : ℕ
  pub words_are : words ≡ map word_of log ++ replicate free 0
  pub room : length words ≡ t.words
  pub events : AreLogged t.setting log

-- the same of each pass that a seat stands for
abbrev pub AllStand : DeskConfig → List Event → List CallerView → Type 0
AllStand setting log [] = Unit {0}
AllStand setting log (k ∷ ks) = Stands setting log k × AllStand setting log ks

abbrev pub weight : Bool → ℕ
weight true = 1
weight false = 0

-- how many passes of a caller a seat stands for, and how many all seats
abbrev pub count_in : ℕ → List CallerView → ℕ
count_in c [] = 0
count_in c (k ∷ ks) = weight (eqb k.caller c) + count_in c ks

abbrev pub count_all : ℕ → List (List CallerView) → ℕ
count_all c [] = 0
count_all c (v ∷ vs) = count_in c v + count_all c vs

-- the rule: the row has a log, which each pass's list begins, and no caller has two passes
pub record RowKept (t : LogConfig) (words : List ℕ) (views : List (List CallerView)) : Type 0 where
  pub log : List Event
  pub row : IsRow t log words
  pub known : (id : ℕ) (v : List CallerView) → get_elem? views id ≡ some v → AllStand t.setting log v
  pub apart : (c : ℕ) → c < t.setting.callers → count_all c views ≤ 1

abbrev pub holds : {S : Type 0} → LogConfig → State S (List CallerView) → Type 0
holds t s = RowKept t s.words s.views

abbrev pub blank : DeskConfig → ℕ → CallerView
blank setting c = record { setting = setting; caller = c; seen = []; looks = []; filled = 0; before = [] }

-- the callers from c on, n of them
abbrev pub fresh : DeskConfig → ℕ → ℕ → List CallerView
fresh setting c zero = []
fresh setting c (suc n) = blank setting c ∷ fresh setting (suc c) n

abbrev pub first : LogConfig → List CallerView
first t = fresh t.setting 0 t.setting.callers

-- one event more was seen, and one look more met an empty next word behind what was seen
abbrev pub saw : CallerView → Event → CallerView
saw k e = record k { seen = k.seen ++ e ∷ [] }

abbrev pub looked : CallerView → CallerView
looked k = record k { looks = k.looks ++ length k.seen ∷ [] }

-- the word found at the next place is that of another caller's event, which was not seen before
abbrev pub SeesOther : CallerView → Event → List CallerView → Type 0
SeesOther k e w = (w ≡ saw k e ∷ []) × IsDeskEvent k.setting (state_from k.setting.plan k.seen) e × (own k.caller (e ∷ []) ≡ [])

-- a load of the next word: it held no event, or one of another caller
pub record LooksNext (k : CallerView) (found : ℕ) (w : List CallerView) : Type 0 where
  pub empty : event_of found ≡ None → w ≡ looked k ∷ []
  pub taken : (e : Event) → event_of found ≡ Some e → SeesOther k e w

-- an exchange of the next word for an event's: it was won, or lost to another caller
pub record AddsNext (k : CallerView) (word found : ℕ) (w : List CallerView) : Type 0 where
  pub won : (e : Event) → event_of word ≡ Some e → event_of found ≡ None → w ≡ saw k e ∷ []
  pub lost : (e : Event) → event_of found ≡ Some e → SeesOther k e w

abbrev pub looks_next : {S : Type 0} → Step S → Me S (List CallerView) → ℕ → Me S (List CallerView) → Type 0
looks_next s v found w = (w.1 ≡ v.1) × ((k : CallerView) → v.0 ≡ k ∷ [] → LooksNext k found w.0)

abbrev pub adds_next : {S : Type 0} → Step S → Me S (List CallerView) → ℕ → Me S (List CallerView) → Type 0
adds_next s v found w = (w.1 ≡ v.1) × ((k : CallerView) → v.0 ≡ k ∷ [] → AddsNext k s.second found w.0)

-- of two lists the longer
abbrev pub longer_if : Bool → List Event → List Event → List Event
longer_if true xs ys = ys
longer_if false xs ys = xs

abbrev pub longer : List Event → List Event → List Event
longer xs ys = longer_if (leb (length xs) (length ys)) xs ys

-- the longest list that a pass of these has seen
abbrev pub longest : List CallerView → List Event
longest [] = []
longest (k ∷ ks) = longer k.seen (longest ks)

abbrev pub with_seen : List Event → CallerView → CallerView
with_seen seen k = record k { seen = seen }

-- each has seen the longest list
abbrev pub level : List CallerView → List CallerView
level v = map (with_seen (longest v)) v

-- each list begins this one, which goes on with events of other callers
abbrev pub AllCatch : List Event → List CallerView → Type 0
AllCatch now [] = Unit {0}
AllCatch now (k ∷ ks) = Catches k.caller k.seen now × AllCatch now ks

-- these events can be a log of each pass's desk
abbrev pub AllLogged : List Event → List CallerView → Type 0
AllLogged now [] = Unit {0}
AllLogged now (k ∷ ks) = AreLogged k.setting now × AllLogged now ks

-- no list is longer than n
abbrev pub AllShort : ℕ → List CallerView → Type 0
AllShort n [] = Unit {0}
AllShort n (k ∷ ks) = (length k.seen ≤ n) × AllShort n ks

-- a load that levels what the passes of one seat have seen
abbrev pub levels : {S : Type 0} → Step S → Me S (List CallerView) → ℕ → Me S (List CallerView) → Type 0
levels s v found w = (w.1 ≡ v.1) × (w.0 ≡ level v.0) × AllCatch (longest v.0) v.0 × AllLogged (longest v.0) v.0

-- a load of a place that was seen: it holds the word of the event there
pub record FindsSeen (k : CallerView) (place found : ℕ) : Type 0 where
  pub event : Event
  pub there : slice_get k.seen place ≡ Some event
  pub is : event_of found ≡ Some event

abbrev pub finds : {S : Type 0} → Step S → Me S (List CallerView) → ℕ → Me S (List CallerView) → Type 0
finds s v found w = (w ≡ v) × ((k : CallerView) → v.0 ≡ k ∷ [] → FindsSeen k s.word found)

-- a load with a new seat, which stands for no pass
abbrev pub sits : {S : Type 0} → Step S → Me S (List CallerView) → ℕ → Me S (List CallerView) → Type 0
sits s v found w = w ≡ ([], [])

abbrev pub head_of : List CallerView → List CallerView
head_of [] = []
head_of (k ∷ ks) = k ∷ []

abbrev pub rest_of : List CallerView → List CallerView
rest_of [] = []
rest_of (k ∷ ks) = ks

-- what a pass has seen, as no caller's
abbrev pub noted : CallerView → CallerView
noted k = record { setting = k.setting; caller = k.setting.callers; seen = k.seen; looks = []; filled = 0; before = [] }

abbrev pub note_of : List CallerView → List CallerView
note_of [] = []
note_of (k ∷ ks) = noted k ∷ []
