-- Stages that follow another stage of the same request.
use Rattle.std.specs.Prelude.{◌≡◌, ◌⊎◌, ℕ, ◌≤◌, Bool, true, false, List, ◌∷◌, ◌++◌, All, Contains, drop, length, not, slice_index_or}
use Rattle.std.specs.List.{filter}
use Rattle.cf_model.specs.declared.stage.Stage.{Stage}
use Rattle.cf_model.specs.States.{State, outcome_in}
use Rattle.cf_ledger.specs.Ledgers.{state_of}
use Rattle.cf_request.specs.Joins.{IsDueBy, IsJoin, IsUndecided, sources_of}
use Rattle.cf_request.specs.Telling.{Teller, is_settled_in, order_in}
use Rattle.cf_request.specs.declared.joins.Join.{Join}
use Rattle.cf_request.specs.declared.relays.Behind.{Behind}
use Rattle.cf_request.specs.declared.relays.Relays.{Relays}
use Rattle.cf_request.specs.declared.settling.Due.{Due}

-- they are joins of stages that are there
abbrev pub AreThere : State → List Join → Type 0
AreThere s follows = All (IsJoin (length s.plan.stages)) follows

-- if a join is decided, it is settled
abbrev pub IsNotBehind : List Stage → Join → Type 0
IsNotBehind stages j = ¬ IsUndecided (outcome_in stages) j → is_settled_in stages j.stage ≡ true

-- no join is open that is decided
abbrev pub NoneBehind : List Join → List Stage → Type 0
NoneBehind follows stages = All (IsNotBehind stages) follows

-- those that are open
abbrev pub waiting_of : List Stage → List Join → List Join
waiting_of stages follows = filter (λ j. not (is_settled_in stages j.stage)) follows

-- the first of those, in the order in which they were set, that are open though they are decided
pub record IsRelayDue (follows : List Join) (t : Teller) (d : Due) : Type 0 where
  pub join : Join
  pub front : List Join
  pub back : List Join
  pub is : follows ≡ front ++ join ∷ back
  pub first : NoneBehind front (state_of t.ledger).stages
  pub due : IsDueBy (state_of t.ledger).stages (order_in t) join d

-- and the place at which that one stands
pub record IsBehindAt (follows : List Join) (t : Teller) (b : Behind) : Type 0 where
  pub due : IsRelayDue follows t b.due
  pub place : b.place ≡ length due.front

-- one of them, or, where none is behind, what is due otherwise
abbrev pub IsRelayOr : List Join → (State → Due → Type 0) → Teller → Due → Type 0
IsRelayOr follows IsDue t d = IsRelayDue follows t d ⊎ (NoneBehind follows (state_of t.ledger).stages × IsDue (state_of t.ledger) d)

-- ---- which stages are followed

-- whether a stage is in a set
abbrev pub is_in_flags : List Bool → ℕ → Bool
is_in_flags flags i = slice_index_or flags i false

-- these are in it
abbrev pub AreIn : List Bool → List ℕ → Type 0
AreIn flags stages = All (λ i. is_in_flags flags i ≡ true) stages

-- the sources of each join are marked
abbrev pub AreMarked : List Bool → List Join → Type 0
AreMarked followed follows = All (λ j. AreIn followed (sources_of j)) follows

-- these come in, and none goes out
pub record MarksAll (stages : List ℕ) (old new : List Bool) : Type 0 where
  pub flags : length new ≡ length old
  pub stay : (i : ℕ) → is_in_flags old i ≡ true → is_in_flags new i ≡ true
  pub marked : AreIn new stages

-- there is a flag for each stage that there may ever be, those of stages that are followed are set, and of the relays so many are open at most
pub record AreRelays (stages : List Stage) (follows : List Join) (followed : List Bool) (waiting : ℕ) : Type 0 where
  pub flags : length followed ≡ 4096
  pub marked : AreMarked followed follows
  pub most : length (waiting_of stages follows) ≤ waiting
  pub few : waiting ≤ length follows

-- no stage of these is followed
abbrev pub NoneFollowed : List Bool → List ℕ → Type 0
NoneFollowed followed stages = All (λ i. is_in_flags followed i ≡ false) stages

-- two rows have a stage in common
abbrev pub HaveCommon : List ℕ → List ℕ → Type 0
HaveCommon xs ys = (i : ℕ) × Contains xs i × Contains ys i

-- a join is open and decided only if a source of it is one of these
abbrev pub AreBehindBy : List ℕ → List Join → List Stage → Type 0
AreBehindBy news follows stages = All (λ j. IsNotBehind stages j ⊎ HaveCommon (sources_of j) news) follows

-- so many of what is told were looked at: a relay is behind only because of a stage that is told later
pub record AreLookedAt (seen : ℕ) (told : List ℕ) (follows : List Join) (stages : List Stage) : Type 0 where
  pub within : seen ≤ length told
  pub rest : AreBehindBy (drop seen told) follows stages

-- ---- before relays are settled

-- how many relays are open
abbrev pub open_relays : Teller → Relays → ℕ
open_relays t r = length (waiting_of (state_of t.ledger).stages r.follows.items)

-- their stages are there, no more are open than are counted, and there is memory for a word of each that is
pub record MaySettle (t : Teller) (r : Relays) : Type 0 where
  pub there : AreThere (state_of t.ledger) r.follows.items
  pub counted : open_relays t r ≤ r.waiting
  pub memory : open_relays t r ≤ t.ledger.free

-- a relay is behind only because of a stage that is told behind so many
pub record MayCatchUp (t : Teller) (r : Relays) (seen : ℕ) : Type 0 where
  pub settle : MaySettle t r
  pub marked : AreMarked r.followed r.follows.items
  pub looked_at : AreLookedAt seen t.told r.follows.items (state_of t.ledger).stages

-- or only if another is known to be
pub record MayCatchUpWith (t : Teller) (r : Relays) (is_due : Bool) : Type 0 where
  pub settle : MaySettle t r
  pub marked : AreMarked r.followed r.follows.items
  pub none : is_due ≡ false → NoneBehind r.follows.items (state_of t.ledger).stages
