-- Two sessions that take stages of one row.
use Rattle.std.specs.Prelude.{◌≡◌, ◌≢◌, ℕ, List, [], All, Contains}
use Rattle.cf_forms.specs.Plans.{Planned}
use Rattle.cf_row.specs.declared.entry.Entry.{Entry}
use Rattle.cf_row.specs.declared.grants.Claim.{Claim}
use Rattle.cf_row.specs.Grants.{granted_in}
use Rattle.cf_row.specs.Puts.{Row}
use Rattle.cf_row.specs.Rows.{BeginsWith}

-- all is true of the row that the session was told, and no put is under way
pub record Knows (row : List Entry) (r : Row) : Type 0 where
  pub none : r.put ≡ []
  pub seen : BeginsWith row r.replica.seen

-- that stays so while the row grows
pub record GoesOn (old : List Entry) (r : Row) (new : List Entry) (s : Row) : Type 0 where
  pub grown : BeginsWith new old
  pub plan : s.replica.plan ≡ r.replica.plan
  pub session : s.replica.session ≡ r.replica.session
  pub knows : Knows new s

-- the claims of these stages were granted to a session
abbrev pub AreGranted : Planned → List Entry → ℕ → List ℕ → Type 0
AreGranted plan row session stages =
    All (λ (i : ℕ). let c : Claim = record { stage = i; session = session } in Contains (granted_in plan row) c) stages

-- a session knows the row, and the claims of the stages that it has taken were granted to it
pub record Holds (row : List Entry) (r : Row) (taken : List ℕ) : Type 0 where
  pub knows : Knows row r
  pub granted : AreGranted r.replica.plan row r.replica.session taken

-- so do two sessions of one plan
pub record Share (row : List Entry) (r s : Row) (ones others : List ℕ) : Type 0 where
  pub first : Holds row r ones
  pub second : Holds row s others
  pub plan : s.replica.plan ≡ r.replica.plan
  pub apart : r.replica.session ≢ s.replica.session

-- no stage is in both
abbrev pub HaveNoneInCommon : List ℕ → List ℕ → Type 0
HaveNoneInCommon xs ys = (i : ℕ) → Contains xs i → ¬ Contains ys i
