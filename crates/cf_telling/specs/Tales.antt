-- What a tale tells of words: each event with the sequential graph's reply.
use Rattle.std.specs.Prelude.{◌≡◌, ℕ, Option, Some, None, List, [], ◌∷◌, ◌++◌, IfSome, get_or, length, map, take}
use Rattle.cf_model.specs.Events.{answered, state_after}
use Rattle.cf_model.specs.Ranges.{EventFits}
use Rattle.cf_model.specs.States.{State}
use Rattle.cf_model.specs.declared.events.Event.{Event}
use Rattle.cf_model.specs.declared.events.Reply.{Reply}
use Rattle.cf_event.specs.Decoding.{event_of}
use Rattle.cf_ledger.specs.Ledgers.{LedgerRefuses}
use Rattle.cf_ledger.specs.declared.faults.LedgerFault.{LedgerFault}
use Rattle.cf_ledger.specs.declared.faults.LedgerFault.TheVariants.{NoMemory, NoRoom}
use Rattle.cf_telling.specs.declared.tale.Entry.{Entry}

-- an entry has the event of its word, which names stages that are there, and the sequential graph's reply
pub record IsTold (s : State) (entry : Entry) : Type 0 where
  pub read : event_of entry.word ≡ Some entry.event
  pub fits : EventFits (length s.plan.stages) entry.event
  pub reply : entry.reply ≡ (answered s entry.event).0

-- so do these, one after another from a state on
abbrev pub AreTold : State → List Entry → Type 0
AreTold s [] = Unit {0}
AreTold s (entry ∷ entries) = IsTold s entry × AreTold ((answered s entry.event).1) entries

abbrev pub words_in : List Entry → List ℕ
words_in entries = map (λ (entry : Entry). entry.word) entries

abbrev pub events_in : List Entry → List Event
events_in entries = map (λ (entry : Entry). entry.event) entries

-- no graph does a word: it is no event's, or its event names a stage that isn't there. So want of memory stops no tale, and want of room doesn't.
abbrev pub NoGraphDoes : State → ℕ → LedgerFault → Type 0
NoGraphDoes s word NoMemory = ⊥
NoGraphDoes s word NoRoom = ⊥
NoGraphDoes s word why = LedgerRefuses s word why

-- these are told of the words from a state on, in their order: all of them, or those before the first that no graph does
pub record AreToldOf (s : State) (words : List ℕ) (entries : List Entry) (stop : Option LedgerFault) : Type 0 where
  pub told : AreTold s entries
  pub first : words_in entries ≡ take (length entries) words
  pub all : stop ≡ None → words_in entries ≡ words
  pub stopped : IfSome stop (λ why. NoGraphDoes (state_after s (events_in entries)) (get_or words (length entries) 0) why)

-- one entry more, of this word and this event with this reply
pub record IsAdded (word : ℕ) (event : Event) (reply : Reply) (old new : List Entry) : Type 0 where
  pub entry : Entry
  pub is : new ≡ old ++ entry ∷ []
  pub word_is : entry.word ≡ word
  pub event_is : entry.event ≡ event
  pub reply_is : entry.reply ≡ reply

-- one entry more is told of a word, and the graph goes on
pub record TellsOne (word : ℕ) (s : State) (old : List Entry) (now : State) (new : List Entry) : Type 0 where
  pub entry : Entry
  pub is : new ≡ old ++ entry ∷ []
  pub word_is : entry.word ≡ word
  pub told : IsTold s entry
  pub left : now ≡ (answered s entry.event).1

-- a word is told, or no graph does it
abbrev pub TellsWord : ℕ → State → List Entry → Option LedgerFault → State → List Entry → Type 0
TellsWord word s old None now new = TellsOne word s old now new
TellsWord word s old (Some why) now new = (new ≡ old) × NoGraphDoes s word why
