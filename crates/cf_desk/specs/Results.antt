-- What a call does: the pass first catches up, where it doesn't know a stage that the call names, and is then answered or refused.
use Rattle.std.specs.Prelude.{◌≡◌, ◌⊎◌, ℕ, ◌<◌, ◌≤◌, [], ◌∷◌, ◌++◌}
use Rattle.cf_model.specs.declared.asks.Ask.{Ask}
use Rattle.cf_model.specs.declared.asks.Ask.TheVariants.{Outcome as AsksOutcome}
use Rattle.cf_model.specs.declared.asks.Told.{Told}
use Rattle.cf_model.specs.declared.events.Reply.{Reply}
use Rattle.cf_model.specs.declared.calls.Call.{Call}
use Rattle.cf_desk.specs.declared.calls.Joined.{Joined}
use Rattle.cf_desk.specs.declared.calls.Rec.TheVariants.{Did}
use Rattle.cf_desk.specs.declared.faults.DeskFault.{DeskFault}
use Rattle.cf_desk.specs.declared.faults.DeskFault.TheVariants.{LogFull}
use Rattle.cf_desk.specs.Faults.{AsksStage, HasRoom, IsDue, IsDueToRead, IsFitting, IsOnStage, KnowsStages}
use Rattle.cf_desk.specs.Views.{Acts, Desk, Follows, Joins, LooksFor, LooksOnce, Pass, Reads, looks_by, own_event, place_in}

-- the pass as it was, where it knows the stages, and else as it is once it has looked
abbrev pub CaughtUp : Desk → Type 0 → Pass → Pass → Type 0
CaughtUp d knows p q = (knows × (q ≡ p)) ⊎ ((¬ knows) × Follows p q × LooksOnce d p q)

-- a changing call is answered
pub record DeskAnswers (d : Desk) (p : Pass) (call : Call) (reply : Reply) (q : Pass) : Type 0 where
  pub found : Pass
  pub caught : CaughtUp d (KnowsStages p call) p found
  pub there : IsOnStage found (own_event p call)
  pub fits : IsFitting found (own_event p call)
  pub room : HasRoom found
  pub acts : Acts found call reply q

-- the call and its reply stand behind what the pass recorded before, at a place behind all that it had seen
pub record IsRecorded (p : Pass) (call : Call) (reply : Reply) (q : Pass) : Type 0 where
  pub place : ℕ
  pub after : place_in p < place
  pub within : place ≤ place_in q
  pub records : q.records ≡ p.records ++ Did place call reply ∷ []

-- a changing call is refused: it adds nothing, and only where the log is full it has seen more
pub record Refuses (d : Desk) (p : Pass) (call : Call) (q : Pass) (fault : DeskFault) : Type 0 where
  pub found : Pass
  pub caught : CaughtUp d (KnowsStages p call) p found
  pub left : Follows found q
  pub looks : looks_by q ≡ looks_by found
  pub unseen : (fault ≡ LogFull) ⊎ (q ≡ found)
  pub due : IsDue q d (own_event p call) fault

-- a question is answered, after one look
pub record DeskTells (d : Desk) (p : Pass) (ask : Ask) (answer : Told) (q : Pass) : Type 0 where
  pub found : Pass
  pub caught : CaughtUp d (AsksStage p ask) p found
  pub there : AsksStage found ask
  pub room : HasRoom found
  pub reads : Reads found ask answer q
  pub looks : LooksOnce d found q

-- a join is answered, after at most so many looks
pub record TellsJoined (d : Desk) (stage most : ℕ) (p : Pass) (answer : Joined) (q : Pass) : Type 0 where
  pub found : Pass
  pub caught : CaughtUp d (AsksStage p (AsksOutcome stage)) p found
  pub there : AsksStage found (AsksOutcome stage)
  pub room : HasRoom found
  pub joins : Joins found stage answer q
  pub looks : LooksFor d stage most found q

-- a question is refused
abbrev pub RefusesToTell : Desk → Pass → Ask → Pass → DeskFault → Type 0
RefusesToTell d p ask q fault = CaughtUp d (AsksStage p ask) p q × IsDueToRead q ask fault
