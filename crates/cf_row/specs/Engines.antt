-- What an engine makes of a row when sessions put to it.
use Rattle.std.specs.Prelude.{◌≡◌, ◌⊎◌, ◌≤◌, List, [], ◌∷◌, ◌++◌, All, length}
use Rattle.cf_forms.specs.Plans.{Planned, with_room}
use Rattle.cf_row.specs.declared.entry.Entry.{Entry}
use Rattle.cf_row.specs.Rows.{BeginsWith, Replica}
use Rattle.cf_row.specs.Puts.{IsPutOf, NoneStands}

-- a put that a session planned, and the session's view as it was then
pub record Group : Type 0 where
  pub by : Replica
  pub put : List Entry

-- THE PREMISES OF ENGINES, of one put. The row stays as it is: the put is lost, or comes too late. Or it was planned for the end of the row,
-- and all of it stands there now. So an engine puts where nothing stands, puts all or none, and keeps what stands.
abbrev pub Puts : List Entry → Group → List Entry → Type 0
Puts old g new = (new ≡ old) ⊎ ((length g.by.seen ≡ length old) × (new ≡ old ++ g.put))

-- It is a session's, whose graph has the plan with some room. What the session was told is true: reads are fronts of the row.
pub record IsAsked (plan : Planned) (row : List Entry) (g : Group) : Type 0 where
  pub plan_is : g.by.plan ≡ with_room plan g.by.plan.room
  pub room : g.by.plan.room ≤ plan.room
  pub seen : BeginsWith row g.by.seen
  pub put : IsPutOf g.by g.put

-- An engine is asked for these puts, in the order in which it comes to them. A put that is made again, or that comes late, is asked for again, or late.
abbrev pub Runs : Planned → List Entry → List Group → List Entry → Type 0
Runs plan old [] new = new ≡ old
Runs plan old (g ∷ asked) new = (between : List Entry) × IsAsked plan old g × Puts old g between × Runs plan between asked new

-- what is asked for has tokens of its own: each two puts are the same put, or have no token in common
abbrev pub HaveOwnTokens : List Group → Type 0
HaveOwnTokens asked = All (λ (g : Group). All (λ (h : Group). (h ≡ g) ⊎ NoneStands h.put g.put) asked) asked

-- ---- a row that came to be so

abbrev pub joined : List Group → List Entry
joined [] = []
joined (g ∷ groups) = g.put ++ joined groups

-- a put that stands just behind what its session had seen
pub record IsBehind (plan : Planned) (front : List Entry) (g : Group) : Type 0 where
  pub plan_is : g.by.plan ≡ with_room plan g.by.plan.room
  pub room : g.by.plan.room ≤ plan.room
  pub seen : g.by.seen ≡ front
  pub put : IsPutOf g.by g.put

abbrev pub AreBehind : Planned → List Entry → List Group → Type 0
AreBehind plan front [] = Unit {0}
AreBehind plan front (g ∷ groups) = IsBehind plan front g × AreBehind plan (front ++ g.put) groups
