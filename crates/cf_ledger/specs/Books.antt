-- The book of a ledger, and places in it for words to come.
use Rattle.std.specs.Prelude.{◌≡◌, ℕ, length}
use Rattle.cf_forms.specs.Plans.{plan_of, with_room}
use Rattle.cf_ledger.specs.Ledgers.{HavePlaces, IsKept, Ledger, opened_with}
use Rattle.cf_ledger.specs.declared.writing.Book.{Book}

-- the ledger of a book
abbrev pub ledger_in : Book → Ledger
ledger_in b = opened_with b.plan b.room b.words.items b.free

-- it has places for so many words more, and for all stages that each of them may change
abbrev pub HasPlaces : ℕ → Book → Type 0
HasPlaces count b = HavePlaces count (length b.changed) b.words b.news

-- its plan was opened with all its stages, its graph is in the state that its words leave, what each word changed is noted, and where
-- memory was found for words there are places
pub record IsBook (b : Book) : Type 0 where
  pub whole : b.plan ≡ plan_of b.plan.stages b.plan.limits
  pub kept : IsKept (with_room b.plan b.room) b.words.items b.graph b.changed b.news.lists
  pub places : HasPlaces b.free b
