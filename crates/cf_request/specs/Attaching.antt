-- Stages that are attached by words of a caller.
use Rattle.std.specs.Prelude.{◌≡◌, ℕ, Some, List, [], ◌∷◌}
use Rattle.cf_model.specs.declared.events.Event.{Event}
use Rattle.cf_model.specs.declared.events.Reply.TheVariants.{Attach as ToldAttach}
use Rattle.cf_model.specs.declared.replies.Attached.TheVariants.{At}
use Rattle.cf_event.specs.Decoding.{event_of}
use Rattle.cf_event.specs.Words.{word_of}
use Rattle.cf_ledger.specs.Ledgers.{stages_of}
use Rattle.cf_request.specs.Telling.{Teller, TellsWord}

-- an event is done by its word, which is read as this event, and attaches the next stage, in a lane
pub record TellsAttach (lane : ℕ) (event : Event) (old new : Teller) : Type 0 where
  pub read : event_of (word_of event) ≡ Some event
  pub tells : TellsWord lane (word_of event) old (ToldAttach (At (stages_of old.ledger))) new

-- these are done so, one after another
abbrev pub TellsAttaches : ℕ → List Event → Teller → Teller → Type 0
TellsAttaches lane [] old new = new ≡ old
TellsAttaches lane (event ∷ events) old new = (between : Teller) × TellsAttach lane event old between × TellsAttaches lane events between new
