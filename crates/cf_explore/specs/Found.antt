-- What a search has found.
use Rattle.std.specs.Prelude.{◌≡◌, ℕ, ◌+◌, ◌*◌, ◌<◌, ◌≤◌, ◌⊎◌, ◌++◌, ◌∷◌, if◌then◌else◌, Bool, true, false, IfOk, Option, Some, None, Result, List, [], length, All, slice_get, slice_set, sum_by}
use Rattle.cf_outcome.specs.declared.outcome.Outcome.{Outcome}
use Rattle.cf_explore.specs.declared.condition.Condition.{Condition}
use Rattle.cf_explore.specs.declared.found.End.{End}
use Rattle.cf_explore.specs.declared.layer.Entry.{Entry}
use Rattle.cf_explore.specs.declared.found.Witness.{Witness}
use Rattle.cf_explore.specs.declared.found.Found.{Found}
use Rattle.cf_explore.specs.declared.search.Search.{Search}
use Rattle.cf_explore.specs.declared.step.Move.{Move}
use Rattle.cf_explore.specs.declared.trail.Trace.{Trace}
use Rattle.cf_forms.specs.Meanings.{Meanings}
use Rattle.cf_explore.specs.Programs.{Programmed, Situated}
use Rattle.cf_explore.specs.Situations.{outcomes_of}
use Rattle.cf_explore.specs.Moves.{is_end}
use Rattle.cf_explore.specs.Orders.{IsOrder, after, ends_before}
use Rattle.cf_explore.specs.Conditions.{decides}
use Rattle.cf_explore.specs.Layers.{AreNumbered, HasMore, IsLayer, IsLed, IsLonger, IsNext, LeadsOn, LeadsPast, LeadsTo, counted, weigh}

-- Ends stand for these situations, each as often as its outcomes are there, as far as it is counted.
abbrev pub end_weight : (List (Option Outcome) → ℕ) → End → ℕ
end_weight f e = e.orders * f e.outcomes.items

abbrev pub weigh_ends : (List (Option Outcome) → ℕ) → List End → ℕ
weigh_ends f ends = sum_by (end_weight f) ends

abbrev pub EndsStandFor : List End → List Situated → Type 0
EndsStandFor ends situations = (f : List (Option Outcome) → ℕ) → counted (weigh_ends f ends) ≡ counted (sum_by (λ s. f (outcomes_of s)) situations)

-- an end's witness leads to an end with these outcomes
abbrev pub IsShown : Meanings → Programmed → List Trace → End → Type 0
IsShown m p trail e =
    (s : Situated) × LeadsTo m p trail e.witness.moves e.witness.number s × (is_end p s ≡ true) × (outcomes_of s ≡ e.outcomes.items)

-- The moves are an order that leads to the situation for which a witness stands, under whatever functions and in whatever program
-- the trail was made.
abbrev pub IsOrderOf : List Trace → Witness → List Move → Type 0
IsOrderOf trail w order =
    (m : Meanings) (p : Programmed) (s : Situated) → LeadsTo m p trail w.moves w.number s → IsOrder m p w.moves order s

-- no order of fewer than k moves leads to a situation that decides a condition
abbrev pub IsUndecided : Meanings → Programmed → ℕ → Condition → Type 0
IsUndecided m p k condition = (j : ℕ) → j < k → All (λ s. decides p condition s ≡ false) (after m p j)

-- an order leads to a situation that decides it, and no shorter one does
abbrev pub IsDecision : Meanings → Programmed → List Trace → ℕ → Condition → Option Witness → Type 0
IsDecision m p trail k condition None = IsUndecided m p k condition
IsDecision m p trail k condition (Some w) =
    (s : Situated) × LeadsTo m p trail w.moves w.number s × (decides p condition s ≡ true) × (w.moves < k) × IsUndecided m p w.moves condition

abbrev pub AreDecisions : Meanings → Programmed → List Trace → ℕ → List Condition → List (Option Witness) → Type 0
AreDecisions m p trail k conditions decisions =
    (i : ℕ) (c : Condition) (d : Option Witness) → slice_get conditions i ≡ Some c → slice_get decisions i ≡ Some d → IsDecision m p trail k c d

-- no two of these ends have the same outcomes
abbrev pub AreApart : List End → Type 0
AreApart ends = (i j : ℕ) (e g : End) → slice_get ends i ≡ Some e → slice_get ends j ≡ Some g → e.outcomes.items ≡ g.outcomes.items → i ≡ j

-- What is found is true of all orders of fewer moves than it says, and of all orders where it says that they are all.
pub record IsFound (m : Meanings) (p : Programmed) (conditions : List Condition) (found : Found) : Type 0 where
  pub ends : EndsStandFor found.ends.items (ends_before m p found.moves)
  pub shown : All (IsShown m p found.trail.items) found.ends.items
  pub apart : AreApart found.ends.items
  pub all_decisions : length found.decisions.items ≡ length conditions
  pub decisions : AreDecisions m p found.trail.items found.moves conditions found.decisions.items
  pub whole : found.whole ≡ true → (k : ℕ) → found.moves ≤ k → after m p k ≡ []

-- A search has found what it says. While it is on, its layer is the next one, has an entry, and not all orders were seen; it is over
-- where they were, or where there are more situations.
pub record IsSearch (m : Meanings) (p : Programmed) (conditions : List Condition) (search : Search) : Type 0 where
  pub found : IsFound m p conditions search.found
  pub layer : search.is_on ≡ true → IsLayer m p search.found.trail.items search.found.moves search.layer.entries.items
  pub some : search.is_on ≡ true → 0 < length search.layer.entries.items
  pub on : search.is_on ≡ true → search.found.whole ≡ false
  pub over : search.is_on ≡ false → (search.found.whole ≡ true) ⊎ HasMore m p search.found.trail.items

-- a call that goes on with a search leaves one that has found what it says, where it fails for nothing
abbrev pub KeepsSearch : {E : Type 0} → Meanings → Programmed → List Condition → Search → Result (Unit {0}) E → Search → Type 0
KeepsSearch m p conditions old result new = IsSearch m p conditions old → IfOk result (λ _. IsSearch m p conditions new)

-- a search that is over has seen all orders, or as many situations as the bound
abbrev pub IsOver : ℕ → Search → Type 0
IsOver bound search = search.is_on ≡ false → (search.found.whole ≡ true) ⊎ (bound ≤ length search.found.trail.items)

-- nor has it seen more of them, where the bound is one at all
abbrev pub IsWithin : ℕ → Search → Type 0
IsWithin bound search = 0 < bound → length search.found.trail.items ≤ bound

-- a search that is on sees all orders of one move more, of which there are at most 2^32 - 1
abbrev pub SearchGoesOn : Search → Search → Type 0
SearchGoesOn old new = old.is_on ≡ true → old.found.moves < 4294967295 → new.found.moves ≡ old.found.moves + 1

-- What is found where a bound is given: never more situations, and all orders, unless there are more situations than the bound.
pub record IsAsked (m : Meanings) (p : Programmed) (bound : ℕ) (found : Found) : Type 0 where
  pub within : 0 < bound → length found.trail.items ≤ bound
  pub full : 0 < bound → found.whole ≡ false → bound ≤ length found.trail.items
  pub more : 0 < bound → found.whole ≡ false → HasMore m p found.trail.items

-- What one layer brings. Of these situations the first that decides a condition, if one does.
abbrev pub IsFirst : Programmed → List Entry → ℕ → Condition → Option Witness → Type 0
IsFirst p entries k condition None = All (λ (e : Entry). decides p condition e.situation ≡ false) entries
IsFirst p entries k condition (Some w) =
    (i : ℕ) × (e : Entry) × (slice_get entries i ≡ Some e) × (w.number ≡ e.number) × (w.moves ≡ k) × (decides p condition e.situation ≡ true)

-- a decision stays, and where there is none, it is the first
abbrev pub IsUpdate : Programmed → List Entry → ℕ → Condition → Option Witness → Option Witness → Type 0
IsUpdate p entries k condition (Some w) new = new ≡ Some w
IsUpdate p entries k condition None new = IsFirst p entries k condition new

-- so it is for each condition before the i-th, and the others' decisions are as they were
pub record AreUpdates (p : Programmed) (entries : List Entry) (k : ℕ) (conditions : List Condition) (old new : List (Option Witness)) (i : ℕ) : Type 0 where
  pub done : (j : ℕ) (c : Condition) (a b : Option Witness) → j < i → slice_get conditions j ≡ Some c → slice_get old j ≡ Some a → slice_get new j ≡ Some b → IsUpdate p entries k c a b
  pub left : (j : ℕ) → i ≤ j → slice_get new j ≡ slice_get old j
  pub so_many : length new ≡ length old

-- so it is for all conditions
abbrev pub IsDecided : Programmed → List Entry → ℕ → List Condition → List (Option Witness) → List (Option Witness) → Type 0
IsDecided p entries k conditions old new = AreUpdates p entries k conditions old new (length conditions)

-- what f adds up to over the outcomes of an end, and 0 over any other situation
abbrev pub over_end : Programmed → (List (Option Outcome) → ℕ) → Situated → ℕ
over_end p f s = if is_end p s then f (outcomes_of s) else 0

-- So many orders more lead to an end: it is new and stands behind the others, or more lead to one that is there.
abbrev pub more_ended : End → ℕ → End
more_ended e orders = record e { orders = counted (e.orders + orders) }

abbrev pub HasOutcomes : List End → ℕ → List (Option Outcome) → Type 0
HasOutcomes ends i outcomes = (e : End) × (slice_get ends i ≡ Some e) × (e.outcomes.items ≡ outcomes)

-- none of these ends has these outcomes
abbrev pub AreOthers : List End → List (Option Outcome) → Type 0
AreOthers ends outcomes = (i : ℕ) → HasOutcomes ends i outcomes → ⊥

abbrev pub IsEnded : List End → List End → List (Option Outcome) → ℕ → Witness → Bool → Type 0
IsEnded old new outcomes orders w true =
    (e : End) × (e.outcomes.items ≡ outcomes) × (e.orders ≡ orders) × (e.witness ≡ w) × (new ≡ old ++ e ∷ [])
IsEnded old new outcomes orders w false =
    (i : ℕ) × (e : End) × (slice_get old i ≡ Some e) × (e.outcomes.items ≡ outcomes) × (new ≡ slice_set old i (more_ended e orders))

-- the ends of some entries of layer k came to the others
pub record AreMoreEnds (p : Programmed) (k : ℕ) (entries : List Entry) (old new : List End) : Type 0 where
  pub weighs : (f : List (Option Outcome) → ℕ) → counted (weigh_ends f new) ≡ counted (weigh_ends f old + weigh (over_end p f) entries)
  pub shown : (m : Meanings) (trail : List Trace) → All (IsLed m p trail k) entries → All (IsShown m p trail) old → All (IsShown m p trail) new
  pub apart : AreApart old → AreApart new

-- a look at a layer
pub record IsLook (p : Programmed) (conditions : List Condition) (old new : Search) : Type 0 where
  pub ends : AreMoreEnds p old.found.moves old.layer.entries.items old.found.ends.items new.found.ends.items
  pub decisions : AreUpdates p old.layer.entries.items old.found.moves conditions old.found.decisions.items new.found.decisions.items (length conditions)
  pub moves : new.found.moves ≡ old.found.moves + 1
  pub whole : new.found.whole ≡ old.found.whole
  pub trail : new.found.trail ≡ old.found.trail
  pub layer : new.layer ≡ old.layer
  pub is_on : new.is_on ≡ old.is_on

-- on to the next layer
pub record IsAdvance (m : Meanings) (p : Programmed) (old new : Search) : Type 0 where
  pub ends : new.found.ends ≡ old.found.ends
  pub decisions : new.found.decisions ≡ old.found.decisions
  pub moves : new.found.moves ≡ old.found.moves
  pub longer : IsLonger old.found.trail.items new.found.trail.items
  pub next : new.is_on ≡ true → IsNext m p old.layer.entries.items new.layer.entries.items
  pub led : new.is_on ≡ true → LeadsOn m p old.found.trail.items new.found.trail.items old.layer.entries.items new.layer.entries.items
  pub whole : new.found.whole ≡ true → (old.found.whole ≡ true) ⊎ IsNext m p old.layer.entries.items []
  pub numbered : new.is_on ≡ true → AreNumbered (length old.found.trail.items) new.found.trail.items new.layer.entries.items
  pub some : new.is_on ≡ true → 0 < length new.layer.entries.items
  pub on : new.is_on ≡ true → new.found.whole ≡ false
  pub over : new.is_on ≡ false → (new.found.whole ≡ true) ⊎ LeadsPast m p old.found.trail.items new.found.trail.items old.layer.entries.items
