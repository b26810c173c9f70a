-- Which stages were settled, and told once.
use Rattle.std.specs.Prelude.{◌≡◌, ◌≢◌, ℕ, ◌+◌, ◌<◌, ◌≤◌, Bool, true, false, Some, List, [], ◌∷◌, ◌++◌, All, Contains, is_some, length, max}
use Rattle.cf_model.specs.declared.events.Event.{Event}
use Rattle.cf_model.specs.declared.events.Reply.{Reply}
use Rattle.cf_model.specs.declared.events.Reply.TheVariants.{Attach as ToldAttach}
use Rattle.cf_model.specs.declared.stage.Stage.{Stage}
use Rattle.cf_model.specs.Events.{answered}
use Rattle.cf_model.specs.Graphs.{IsClimbing}
use Rattle.cf_model.specs.States.{State, outcome_in, start}
use Rattle.cf_event.specs.Decoding.{event_of}
use Rattle.cf_event.specs.Words.{word_of}
use Rattle.cf_ledger.specs.Ledgers.{Does, Ledger, stages_of, state_of}
use Rattle.cf_request.specs.Ready.{Lanes, with_lane}

-- whether a stage is settled
abbrev pub is_settled_in : List Stage → ℕ → Bool
is_settled_in stages i = is_some (outcome_in stages i)

-- these are the stages that are settled now and weren't before, rising
pub record AreFresh (old new : List Stage) (xs : List ℕ) : Type 0 where
  pub rising : IsClimbing xs
  pub before : All (λ i. is_settled_in old i ≡ false) xs
  pub settled : All (λ i. is_settled_in new i ≡ true) xs
  pub all : (i : ℕ) → is_settled_in old i ≡ false → is_settled_in new i ≡ true → Contains xs i

-- these are, one behind the other, what each of these events settled
abbrev pub AreSettledBy : State → List Event → List ℕ → Type 0
AreSettledBy s [] xs = xs ≡ []
AreSettledBy s (e ∷ events) xs =
    (front : List ℕ) × (rest : List ℕ) × (xs ≡ front ++ rest) × AreFresh s.stages ((answered s e).1.stages) front × AreSettledBy ((answered s e).1) events rest

-- and these what the opening settled, and then the events of a ledger
pub record AreSettled (ledger : Ledger) (xs : List ℕ) : Type 0 where
  pub opening : List ℕ
  pub later : List ℕ
  pub is : xs ≡ opening ++ later
  pub first : AreFresh [] (start ledger.plan).stages opening
  pub rest : AreSettledBy (start ledger.plan) ledger.events later

-- the ledger, what the host has taken, what is told and wasn't taken yet, and who runs the stages
pub record Teller : Type 0 where
  pub ledger : Ledger
  pub taken : List ℕ
  pub told : List ℕ
  pub lanes : Lanes

-- the settled stages, in the order in which they were settled
abbrev pub order_in : Teller → List ℕ
order_in t = t.taken ++ t.told

-- the same, with memory for so many words at least
abbrev pub with_memory : ℕ → Teller → Teller
with_memory words t = record t { ledger = record t.ledger { free = max t.ledger.free words } }

-- how many stages there may ever be
abbrev pub most_stages : State → ℕ
most_stages s = length s.plan.stages + s.plan.room

-- the row of settled stages has places for all of them, and so many are taken
pub record IsKept (ledger : Ledger) (order : List ℕ) (places count : ℕ) : Type 0 where
  pub settled : AreSettled ledger order
  pub few : count ≤ length order
  pub most : most_stages (state_of ledger) ≤ 4096
  pub room : most_stages (state_of ledger) ≤ places

-- a word is done, and what it settled is told behind the others
pub record Tells (word : ℕ) (old : Teller) (reply : Reply) (new : Teller) : Type 0 where
  pub does : Does word old.ledger reply new.ledger
  pub fresh : List ℕ
  pub are : AreFresh (state_of old.ledger).stages (state_of new.ledger).stages fresh
  pub told : new.told ≡ old.told ++ fresh
  pub taken : new.taken ≡ old.taken

-- so is a word that may attach a stage, which has this lane
pub record TellsWord (lane word : ℕ) (old : Teller) (reply : Reply) (new : Teller) : Type 0 where
  pub tells : Tells word old reply new
  pub lanes : new.lanes ≡ with_lane (stages_of new.ledger) lane old.lanes

-- an event that attaches nothing is done by its word, which is read as this event
pub record TellsEvent (event : Event) (old : Teller) (reply : Reply) (new : Teller) : Type 0 where
  pub read : event_of (word_of event) ≡ Some event
  pub tells : TellsWord 0 (word_of event) old reply new
  pub answered : (reply, state_of new.ledger) ≡ answered (state_of old.ledger) event
  pub lanes : new.lanes ≡ old.lanes

-- whether a reply is that of an attach
abbrev pub answers_attach : Reply → Bool
answers_attach (ToldAttach told) = true
answers_attach reply = false

-- no number stands twice
abbrev pub IsApart : List ℕ → Type 0
IsApart [] = Unit {0}
IsApart (x ∷ xs) = All (λ y. x ≢ y) xs × IsApart xs

-- these are each settled stage, once
pub record IsOnce (s : State) (xs : List ℕ) : Type 0 where
  pub apart : IsApart xs
  pub settled : All (λ i. is_settled_in s.stages i ≡ true) xs
  pub all : (i : ℕ) → is_settled_in s.stages i ≡ true → Contains xs i

-- the settled stages below a number, rising
pub record AreSettledBelow (k : ℕ) (stages : List Stage) (xs : List ℕ) : Type 0 where
  pub rising : IsClimbing xs
  pub below : All (λ i. i < k) xs
  pub settled : All (λ i. is_settled_in stages i ≡ true) xs
  pub all : (i : ℕ) → i < k → is_settled_in stages i ≡ true → Contains xs i
