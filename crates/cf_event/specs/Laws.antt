-- Laws of events and their words.
use Rattle.std.specs.Prelude.{◌≡◌}
use Rattle.cf_model.specs.declared.events.Event.{Event}
use Rattle.cf_event.specs.Words.{IsEvent, word_of}

-- two events with one word are one event
abbrev pub WordsAreOneToOne : Type 0
WordsAreOneToOne = (d e : Event) → IsEvent d → IsEvent e → word_of d ≡ word_of e → d ≡ e
