-- Events done one after another, with turns taken between them.
use Rattle.std.specs.Prelude.{◌≡◌, ◌<◌, ◌≤◌, ◌+◌, ℕ, None, List, [], ◌∷◌, drop, slice_get, unwrap_or}
use Rattle.cf_model.specs.declared.events.Event.{Event}
use Rattle.cf_model.specs.declared.events.Reply.{Reply}
use Rattle.cf_model.specs.Events.{answered}
use Rattle.cf_model.specs.Graphs.{Graph, Rests}

-- a graph takes k turns, or as many as are left, and does nothing else
pub record Nudges (k : ℕ) (old new : Graph) : Type 0 where
  pub state : new.state ≡ old.state
  pub counted : old.turns ≤ new.turns
  pub few : new.turns ≤ old.turns + k
  pub all : new.turns < old.turns + k → new.left ≡ None

-- a graph does an event, with no turn that it doesn't need
pub record EventAnswers (e : Event) (old new : Graph) : Type 0 where
  pub reply : Reply
  pub told : (reply, new.state) ≡ answered old.state e
  pub counted : old.turns ≤ new.turns
  pub rests : Rests e old new

-- events are done in order, and before each as many turns are taken as stand at its place, or as are left
abbrev pub Replays : List ℕ → List Event → Graph → Graph → Type 0
Replays nudges [] old new = new ≡ old
Replays nudges (e ∷ events) old new =
    (nudged : Graph) × (done : Graph) × Nudges (unwrap_or (slice_get nudges 0) 0) old nudged × EventAnswers e nudged done × Replays (drop 1 nudges) events done new
