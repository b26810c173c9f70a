-- What the passes of a race hold before its workers begin.
use Rattle.std.specs.Prelude.{◌≡◌, ℕ, ◌<◌, ◌≤◌, ◌⊎◌, false, List, [], ◌∷◌, get_or, length, map, take}
use Rattle.std.specs.List.{All}
use Rattle.cf_model.specs.declared.events.Event.{Event}
use Rattle.cf_desk.specs.declared.faults.DeskFault.{DeskFault}
use Rattle.cf_desk.specs.Faults.{IsDue}
use Rattle.cf_desk.specs.Keepings.{IsFit}
use Rattle.cf_desk.specs.Laws.{call_of}
use Rattle.cf_event.specs.Events.{own}
use Rattle.cf_desk.specs.Records.{dids}
use Rattle.cf_desk.specs.Views.{Desk, IsOf, Pass}
use Rattle.cf_pool.specs.declared.pool.Left.{Left}
use Rattle.cf_pool.specs.Answering.{Answers}
use Rattle.cf_model.specs.Calling.{CallsOf}
use Rattle.cf_pool.specs.declared.races.RaceTerms.{RaceTerms}
use Rattle.cf_pool.specs.Calling.{TellsOf, first_answers}
use Rattle.cf_pool.specs.Closings.{HadThreads, HaveCalled, RanOut}
use Rattle.cf_pool.specs.Races.{IsRaced, race_plan}

-- caller 0 has done the first of the steps in order, so many of them
pub record HasTaken (d : Desk) (steps : List Event) (taken : ℕ) (p : Pass) : Type 0 where
  pub of : IsOf d p
  pub caller : p.known.caller ≡ 0
  pub fit : IsFit p
  pub held : length p.records ≡ taken
  pub did : map call_of (dids 0 p.records) ≡ take taken steps

-- it was refused the next step, for this cause
pub record IsHeldUp (d : Desk) (steps : List Event) (taken : ℕ) (p : Pass) : Type 0 where
  pub few : taken < length steps
  pub fault : DeskFault
  -- any event will do here, since the step is there
  pub default : Event
  pub due : IsDue p d (get_or steps taken default) fault

-- it has done them all, or was refused one
pub record HasDoneSteps (d : Desk) (steps : List Event) (p : Pass) : Type 0 where
  pub taken : ℕ
  pub few : taken ≤ length steps
  pub done : HasTaken d steps taken p
  pub all : (taken ≡ length steps) ⊎ IsHeldUp d steps taken p

-- a pass of the desk with room for so many records that has seen and recorded nothing
pub record IsIdle (d : Desk) (calls : ℕ) (p : Pass) : Type 0 where
  pub of : IsOf d p
  pub idle : p.records ≡ []
  pub unseeing : p.known.seen ≡ []
  pub room : p.calls ≡ calls

-- another caller has done nothing, and stands nowhere in what caller 0 has seen
pub record IsApart (d : Desk) (calls : ℕ) (seen : List Event) (p : Pass) : Type 0 where
  pub of : IsOf d p
  pub idle : p.records ≡ []
  pub none : own p.known.caller seen ≡ []
  pub room : p.calls ≡ calls

-- the passes, caller 0's first, each with room for so many records
pub record HaveBegun (d : Desk) (steps : List Event) (calls : ℕ) (ps : List Pass) : Type 0 where
  pub first : Pass
  pub others : List Pass
  pub are : ps ≡ first ∷ others
  pub took : HasDoneSteps d steps first
  pub room : first.calls ≡ calls
  pub apart : All (IsApart d calls first.known.seen) others

-- the passes began so, and then each worker had a thread of its own, and has called its functions for the claims that its pass was granted
pub record HaveCalledInRace {M : Type 0} (tells : TellsOf M) (calls : CallsOf M) (answers : Answers) (steps : List Event) (ms : List M) (left : Left M) : Type 0 where
  pub desk : Desk
  pub room : ℕ
  pub passes : List Pass
  pub begun : HaveBegun desk steps room passes
  pub ran : RanOut answers desk passes left.closed.history.items left.closed.passes.items left.closed.graph.state
  pub called : HaveCalled tells calls passes ms left
  pub threads : HadThreads answers desk passes left false

-- each worker of a race has called its functions so, where all workers' functions answer as the first one's do
abbrev pub HaveCalledRacing : {M : Type 0} → TellsOf M → CallsOf M → (M → Answers) → RaceTerms → List M → Left M → Type 0
HaveCalledRacing tells calls answers terms ms left = HaveCalledInRace tells calls (first_answers answers ms) terms.steps.now ms left

-- the graph that is left is as such a race leaves it
abbrev pub HasRaced : {M : Type 0} → (M → Answers) → RaceTerms → List M → Left M → Type 0
HasRaced answers terms ms left = IsRaced (first_answers answers ms) (race_plan terms) terms.steps.now terms.workers left.closed.graph.state
