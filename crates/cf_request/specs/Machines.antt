-- A request as a machine, and what its calls do.
use Rattle.std.specs.Prelude.{◌≡◌, ℕ, ◌+◌, ◌<◌, ◌≤◌, Bool, false, Option, List, [], ◌∷◌, ◌++◌, length, max, take, ◌⊎◌}
use Rattle.cf_model.specs.declared.events.Reply.{Reply}
use Rattle.cf_model.specs.States.{State, start}
use Rattle.cf_ledger.specs.Ledgers.{LedgerRefuses, stages_of, state_of}
use Rattle.cf_ledger.specs.Steps.{IsNoStep}
use Rattle.cf_ledger.specs.declared.faults.LedgerFault.{LedgerFault}
use Rattle.cf_ledger.specs.declared.faults.LedgerFault.TheVariants.{NoMemory as NoMemoryForIt}
use Rattle.cf_ledger.specs.declared.faults.StepFault.{StepFault}
use Rattle.cf_ledger.specs.declared.faults.StepFault.TheVariants.{NoMemory as NoMemoryForStep, NoCaller, NoStage as NoStageForStep, NotHeld}
use Rattle.cf_ledger.specs.declared.step.Held.{Held}
use Rattle.cf_request.specs.Deadlines.{AllOpen, AreCome, AreSet, Forgets, IsOverdue, NoneLeft, Sets, open_of}
use Rattle.cf_request.specs.Joins.{IsJoin, IsOfOne, MayNotJoin}
use Rattle.cf_request.specs.Lanes.{FinishesHeld, IsIdle, TakesIn}
use Rattle.cf_request.specs.Refusals.{AllSettled, IsCancelled, IsRefused, NoneToRefuse, open_below}
use Rattle.cf_request.specs.Relays.{AreThere, IsRelayDue, IsRelayOr, NoneBehind, waiting_of}
use Rattle.cf_request.specs.Settling.{SettlesDue}
use Rattle.cf_request.specs.Telling.{AreFresh, Teller, TellsWord, with_memory}
use Rattle.cf_request.specs.declared.deadlines.Deadline.{Deadline}
use Rattle.cf_request.specs.declared.faults.JoinFault.{JoinFault}
use Rattle.cf_request.specs.declared.faults.JoinFault.TheVariants.{NoMemory as NoMemoryForJoin}
use Rattle.cf_request.specs.declared.faults.MachineFault.{MachineFault}
use Rattle.cf_request.specs.declared.faults.MachineFault.TheVariants.{NoMemory, NoStage, Past, Full}
use Rattle.cf_request.specs.declared.machine.Next.{Next}
use Rattle.cf_request.specs.declared.joins.Join.{Join}

-- What is told of a ledger and who runs its stages, which stages follow which, the deadlines, the last moment, and the machine's own caller.
-- Then for how many relays and for how many deadlines memory was found.
pub record Machine : Type 0 where
  pub teller : Teller
  pub follows : List Join
  pub deadlines : List Deadline
  pub moment : ℕ
  pub own : ℕ
  pub relay_places : ℕ
  pub deadline_places : ℕ

-- the graph's state
abbrev pub state_in : Machine → State
state_in m = state_of m.teller.ledger

-- how many stages it has
abbrev pub stages_in : Machine → ℕ
stages_in m = stages_of m.teller.ledger

-- for how many words memory was found
abbrev pub free_in : Machine → ℕ
free_in m = m.teller.ledger.free

-- all stages that are named are there
pub record IsMachine (teller : Teller) (follows : List Join) (deadlines : List Deadline) (own : ℕ) : Type 0 where
  pub relays : AreThere (state_of teller.ledger) follows
  pub limits : AreSet (state_of teller.ledger) deadlines
  pub caller : own ≤ 63

-- how many stages are open
abbrev pub open_in : Machine → ℕ
open_in m = open_below (state_in m).stages (stages_in m)

-- no call finds memory for more words: one for each relay, each deadline, each open stage and each that may be attached, and two more
abbrev pub most_words : Machine → ℕ
most_words m = 2 + length m.follows + length m.deadlines + open_in m + (state_in m).plan.room

-- memory may have been found for words to come, and nothing else has changed
pub record OnlyFinds (old new : Machine) : Type 0 where
  pub found : free_in old ≤ free_in new
  pub few : free_in new ≤ max (free_in old) (most_words old)
  pub same : new ≡ record old { teller = record old.teller { ledger = record old.teller.ledger { free = free_in new } } }

-- how many relays are open
abbrev pub waiting_in : Machine → ℕ
waiting_in m = length (waiting_of (state_in m).stages m.follows)

-- memory is found for so many words: for those that may follow at least, and for no more than are named
pub record Finds (least most : ℕ) (old found : Teller) : Type 0 where
  pub words : ℕ
  pub enough : least ≤ words
  pub few : words ≤ most
  pub is : found ≡ with_memory words old

-- all relays are settled whose stages are
pub record CatchesUp (own : ℕ) (follows : List Join) (old new : Teller) : Type 0 where
  pub settles : SettlesDue (IsRelayDue follows) own old new
  pub none : NoneBehind follows (state_of new.ledger).stages

-- the teller changes, and nothing else
abbrev pub OnlyTeller : Machine → Machine → Type 0
OnlyTeller old new = new ≡ record old { teller = new.teller }

-- the deadlines change, and nothing else
abbrev pub OnlyDeadlines : Machine → Machine → Type 0
OnlyDeadlines old new = new ≡ record old { deadlines = new.deadlines }

-- ---- for how many words a call finds memory

-- for so many, and for one of each relay that is open, but for no more relays than were set
abbrev pub FindsFor : ℕ → Machine → Teller → Type 0
FindsFor count m found = Finds (count + waiting_in m) (count + length m.follows) m.teller found

-- for one of each relay that is open; where none can be open, the word finds its own
abbrev pub FindsForWord : Machine → Teller → Type 0
FindsForWord m found = Finds (waiting_in m) (1 + length m.follows) m.teller found

-- for two, but for none where nothing is held and no stage of the lane is ready
abbrev pub FindsForStep : ℕ → Option Held → Machine → Teller → Type 0
FindsForStep lane held m found = (IsIdle lane held m.teller × (found ≡ m.teller)) ⊎ ((¬ IsIdle lane held m.teller) × FindsFor 2 m found)

-- for one of each relay that is open, and of each of so many deadlines whose stage is open
abbrev pub words_to_pass : ℕ → Machine → ℕ
words_to_pass come m = waiting_in m + length (open_of (state_in m).stages (take come m.deadlines))

abbrev pub FindsForMoment : ℕ → Machine → Teller → Type 0
FindsForMoment come m found = Finds (words_to_pass come m) (length m.follows + come) m.teller found

-- too little was found before for so many words and one of each relay
abbrev pub IsShortFor : ℕ → Machine → Type 0
IsShortFor count m = free_in m < count + length m.follows

-- ---- words

-- memory is found, a word is done, whose stage has the lane if it attaches one, and relays are settled
pub record AppliesWord (word lane : ℕ) (old : Machine) (reply : Reply) (new : Machine) : Type 0 where
  pub found : Teller
  pub finds : FindsForWord old found
  pub between : Teller
  pub tells : TellsWord lane word found reply between
  pub catches_up : CatchesUp old.own old.follows between new.teller
  pub same : OnlyTeller old new

-- why a word isn't done: too little memory was found before, or else the first of a ledger's reasons
abbrev pub IsNoWord : ℕ → Machine → LedgerFault → Type 0
IsNoWord word m NoMemoryForIt = IsShortFor 1 m
IsNoWord word m fault = LedgerRefuses (state_in m) word fault

-- ---- a caller's step

-- memory is found, what is held is finished, relays are settled, and the next stage of the lane is claimed
pub record GoesOn (who lane : ℕ) (held : Option Held) (old : Machine) (next : Next) (new : Machine) : Type 0 where
  pub found : Teller
  pub finds : FindsForStep lane held old found
  pub finished : Teller
  pub finishes : FinishesHeld who held found next.finish finished
  pub between : Teller
  pub catches_up : CatchesUp old.own old.follows finished between
  pub takes : TakesIn who lane between next.taken new.teller
  pub same : OnlyTeller old new

-- why nothing is done: something is held or ready and too little memory was found before, or else the first of a step's reasons
abbrev pub IsNoNext : ℕ → ℕ → Option Held → Machine → StepFault → Type 0
IsNoNext who lane held m NoMemoryForStep = (¬ IsIdle lane held m.teller) × IsShortFor 2 m
IsNoNext who lane held m fault = IsNoStep who held (state_in m) fault

-- ---- relays

-- a relay and the stage that it is to follow are there
abbrev pub AreBothThere : ℕ → ℕ → Machine → Type 0
AreBothThere relay stage m = (relay < stages_in m) × (stage < stages_in m)

-- memory is found, the stage is a join from now on, behind those that were set before, and joins are settled
pub record SetsJoin (join : Join) (old new : Machine) : Type 0 where
  pub there : IsJoin (stages_in old) join
  pub set : new.follows ≡ old.follows ++ join ∷ []
  pub fits : length new.follows ≤ new.relay_places
  pub places : old.relay_places ≤ new.relay_places
  pub found : Teller
  pub finds : FindsFor 1 old found
  pub catches_up : CatchesUp old.own new.follows found new.teller
  pub same : new ≡ record old { teller = new.teller; follows = new.follows; relay_places = new.relay_places }

-- so is a join of one
pub record SetsOne (stage source : ℕ) (cancels : Bool) (old new : Machine) : Type 0 where
  pub join : Join
  pub is : IsOfOne stage source cancels join
  pub sets : SetsJoin join old new

-- as a relay that follows a stage
abbrev pub SetsFollow : ℕ → ℕ → Machine → Machine → Type 0
SetsFollow relay stage old new = SetsOne relay stage false old new

-- there is a place for no relay more
abbrev pub NoRelayFits : Machine → Type 0
NoRelayFits m = m.relay_places ≤ length m.follows

-- why no stage follows another: too little memory was found for the words, a stage isn't there, or there is no place for the relay
abbrev pub IsNoFollow : ℕ → ℕ → Machine → MachineFault → Type 0
IsNoFollow relay stage m NoMemory =
    IsShortFor 1 m ⊎ ((relay < stages_in m) × (stage < stages_in m) × NoRelayFits m)
IsNoFollow relay stage m NoStage = ¬ AreBothThere relay stage m
IsNoFollow relay stage m Past = ⊥
IsNoFollow relay stage m Full = ⊥

-- why no stage is a join: too little memory was found for the words, or there is no place for it, or else the first of its reasons
abbrev pub IsNoJoin : Join → Machine → JoinFault → Type 0
IsNoJoin join m NoMemoryForJoin = IsShortFor 1 m ⊎ (IsJoin (stages_in m) join × NoRelayFits m)
IsNoJoin join m fault = MayNotJoin (stages_in m) join fault

-- ---- deadlines

-- a deadline is set in its place
pub record SetsDeadline (d : Deadline) (old new : Machine) : Type 0 where
  pub there : d.stage < stages_in old
  pub sets : Sets (state_in old).stages d old.deadlines new.deadlines
  pub fits : length new.deadlines ≤ new.deadline_places
  pub places : old.deadline_places ≤ new.deadline_places
  pub same : new ≡ record old { deadlines = new.deadlines; deadline_places = new.deadline_places }

-- there is a place for no deadline more, and none may be forgotten
abbrev pub NoDeadlineFits : Machine → Type 0
NoDeadlineFits m = (m.deadline_places ≤ length m.deadlines) × AllOpen m.deadlines (state_in m).stages

-- why no deadline is set: its stage isn't there, or else there is no place for it
abbrev pub IsNoDeadline : Deadline → Machine → MachineFault → Type 0
IsNoDeadline d m NoMemory = (d.stage < stages_in m) × NoDeadlineFits m
IsNoDeadline d m NoStage = stages_in m ≤ d.stage
IsNoDeadline d m Past = ⊥
IsNoDeadline d m Full = ⊥

-- memory is found, stages whose moment had come are settled, and relays before them, until none is left
pub record Passes (moment : ℕ) (old new : Machine) : Type 0 where
  pub onward : old.moment ≤ moment
  pub come : ℕ
  pub are_come : AreCome moment old.deadlines come
  pub found : Teller
  pub finds : FindsForMoment come old found
  pub settles : SettlesDue (IsRelayOr old.follows (IsOverdue moment old.deadlines)) old.own found new.teller
  pub none : NoneLeft old.follows moment old.deadlines (state_in new).stages
  pub forgets : Forgets (state_in new).stages old.deadlines new.deadlines
  pub same : new ≡ record old { teller = new.teller; deadlines = new.deadlines; moment = moment }

-- memory is found for each relay that is open, and for each deadline of an open stage that has come
pub record FindsToPass (moment : ℕ) (old new : Machine) : Type 0 where
  pub come : ℕ
  pub are_come : AreCome moment old.deadlines come
  pub enough : words_to_pass come old ≤ free_in new

-- why time doesn't pass: too little memory was found before, or else the moment is before the last one
abbrev pub IsNoPass : ℕ → Machine → MachineFault → Type 0
IsNoPass moment m NoMemory = (come : ℕ) × AreCome moment m.deadlines come × (free_in m < length m.follows + come)
IsNoPass moment m NoStage = ⊥
IsNoPass moment m Full = ⊥
IsNoPass moment m Past = moment < m.moment

-- ---- stages that end at once

-- ready stages of the lane fail, and relays before them are settled, until none is left
pub record Refuses (lane code : ℕ) (old new : Machine) : Type 0 where
  pub settles : SettlesDue (IsRelayOr old.follows (IsRefused old.teller.lanes.of lane code)) old.own (with_memory (open_in old) old.teller) new.teller
  pub none : NoneToRefuse old.follows old.teller.lanes.of lane (state_in new)
  pub same : OnlyTeller old new

-- all open stages are cancelled by a caller, and relays before them are settled in its name
pub record CancelsAll (who : ℕ) (old new : Machine) : Type 0 where
  pub caller : who ≤ 63
  pub settles : SettlesDue (IsRelayOr old.follows IsCancelled) who (with_memory (open_in old) old.teller) new.teller
  pub none : AllSettled (state_in new)
  pub same : OnlyTeller old new

-- why nothing is cancelled: too little memory was found before, or else there is no such caller
abbrev pub IsNoCancel : ℕ → Machine → StepFault → Type 0
IsNoCancel who m NoMemoryForStep = free_in m < open_in m
IsNoCancel who m NoCaller = 63 < who
IsNoCancel who m NoStageForStep = ⊥
IsNoCancel who m NotHeld = ⊥

-- ---- starting again

-- It is as it was opened: nothing is done, follows or is due, and told is what is settled from the start. The plan with its room, the lanes of
-- the plan's stages, its own caller, and the memory that was found for words, relays and deadlines stay.
pub record Restarts (old new : Machine) : Type 0 where
  pub ledger : new.teller.ledger ≡ record old.teller.ledger { events = [] }
  pub taken : new.teller.taken ≡ []
  pub told : AreFresh [] (start old.teller.ledger.plan).stages new.teller.told
  pub lanes : new.teller.lanes ≡ record old.teller.lanes { of = take (length old.teller.ledger.plan.stages) old.teller.lanes.of }
  pub follows : new.follows ≡ []
  pub deadlines : new.deadlines ≡ []
  pub moment : new.moment ≡ 0
  pub own : new.own ≡ old.own
  pub relay_places : new.relay_places ≡ old.relay_places
  pub deadline_places : new.deadline_places ≡ old.deadline_places
