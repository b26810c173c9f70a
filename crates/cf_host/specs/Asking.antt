-- What users call.
use Rattle.std.specs.Prelude.{◌≡◌, ℕ, ◌-◌, ◌<◌, Option, None, Some, List, [], ◌∷◌, ◌++◌, length, slice_set}
use Rattle.cf_due.specs.Acts.{IsFitting}
use Rattle.cf_due.specs.declared.acts.Act.{Act}
use Rattle.cf_notes.specs.declared.wants.EndsWith.{EndsWith}
use Rattle.cf_part.specs.Answers.{Ends, Grows, IsRunning}
use Rattle.cf_turn.specs.Works.{Work, wish_of}
use Rattle.cf_host.specs.Requests.{HasPlacesIn, IsAt, IsOpenIn, LacksPlaces, LacksStage}
use Rattle.cf_host.specs.Tickets.{IsReady, Tickets}
use Rattle.cf_host.specs.declared.order.NoCall.{NoCall}
use Rattle.cf_host.specs.declared.order.NoCall.TheVariants.{NotOpen, Unfit, NoMemory}
use Rattle.cf_host.specs.declared.request.Request.{Request}

-- a user asks for an act, and waits until a moment
abbrev pub Asking : ℕ → Act → ℕ → Work → Work → Type 0
Asking number act until old new = new ≡ record old { wishes = old.wishes ++ wish_of number act until ∷ []; free = old.free - 1 }

-- one ends the request
abbrev pub Ending : ℕ → ℕ → Work → Work → Type 0
Ending number until old new = new ≡ record old { ends = old.ends ++ (record { number = number; until = until }) ∷ []; free = old.free - 1 }

-- somebody waits for a stage that is there, which is shown from a moment on; or nobody does any more
pub record Wanting (stage : ℕ) (from : Option ℕ) (old new : Work) : Type 0 where
  pub there : stage < length old.part.wanted
  pub rest : new ≡ record old { part = record old.part { wanted = slice_set old.part.wanted stage from } }

-- there is room for so many stages more
pub record Growing (more : ℕ) (old new : Work) : Type 0 where
  pub part : Grows old.part more new.part
  pub rest : new ≡ record old { part = new.part }

-- the function of a stage, which runs, has ended
pub record CallEnding (stage : ℕ) (answer : EndsWith) (old new : Work) : Type 0 where
  pub runs : IsRunning old.part stage
  pub part : Ends old.part stage answer new.part
  pub rest : new ≡ record old { part = new.part }

-- ---- why a call is refused

-- memory was found for no further user of it
abbrev pub IsFull : Option Work → Type 0
IsFull None = ⊥
IsFull (Some w) = w.free ≡ 0

-- memory was found for no further ticket, or for no further user of this request
pub data IsShort (request : ℕ) (tickets : Tickets) (requests : List Request) : Type 0 where
  of_tickets : ¬ IsReady tickets → IsShort request tickets requests
  of_users : (place : ℕ) (at : IsAt request place requests) → IsFull at.request.work → IsShort request tickets requests

-- an act: whether it fits is seen first
abbrev pub IsNoAsking : Act → ℕ → List Request → NoCall → Type 0
IsNoAsking act request requests Unfit = ¬ IsFitting act
IsNoAsking act request requests NotOpen = IsFitting act × (¬ IsOpenIn request requests)
IsNoAsking act request requests NoMemory = IsFitting act × IsOpenIn request requests

-- the end of a request
abbrev pub IsNoEnding : ℕ → List Request → NoCall → Type 0
IsNoEnding request requests NotOpen = ¬ IsOpenIn request requests
IsNoEnding request requests NoMemory = IsOpenIn request requests
IsNoEnding request requests Unfit = ⊥

-- somebody's waiting for a stage, which takes no memory
abbrev pub IsNoWanting : ℕ → ℕ → List Request → NoCall → Type 0
IsNoWanting stage request requests NotOpen = ¬ IsOpenIn request requests
IsNoWanting stage request requests Unfit = LacksStage request stage requests
IsNoWanting stage request requests NoMemory = ⊥

-- room for stages: whether its plan has place for so many is seen first
abbrev pub IsNoGrowing : ℕ → ℕ → List Request → NoCall → Type 0
IsNoGrowing more request requests NotOpen = ¬ IsOpenIn request requests
IsNoGrowing more request requests Unfit = LacksPlaces request more requests
IsNoGrowing more request requests NoMemory = HasPlacesIn request more requests
