-- Whether others take this session for gone.
use Rattle.std.specs.Prelude.{◌≡◌, ◌≢◌, ℕ, ◌/◌, ◌%◌, ◌^◌, ◌<◌, Bool, true, eqb, Option, Some, None, List, length, slice_get}
use Rattle.cf_model.specs.States.{claim_at}
use Rattle.cf_row.specs.declared.entry.Entry.{Entry}
use Rattle.cf_row.specs.Grants.{IsGrantedTo}
use Rattle.cf_row.specs.Rows.{Replica, session_of, stages_of, state_of}
use Rattle.cf_turn.specs.Works.{Work}

-- a word that fails a stage has 2 at its head
abbrev pub is_fail : ℕ → Bool
is_fail word = eqb (word / 2 ^ 56) 2

abbrev pub stage_in : ℕ → ℕ
stage_in word = word / 2 ^ 36 % 4096

-- the claim of a stage is the session's, and open
pub record HasOpenClaim (r : Replica) (i : ℕ) : Type 0 where
  pub there : i < stages_of r
  pub granted : IsGrantedTo r r.session i
  pub claimed : claim_at (state_of r) i ≢ None

-- another session put a word that fails such a stage
pub record IsLost (r : Replica) (x : Entry) : Type 0 where
  pub fails : is_fail x.word ≡ true
  pub other : session_of x.token ≢ r.session
  pub claim : HasOpenClaim r (stage_in x.word)

-- one of these entries is such a one, or none of the first so many
pub record HasLost (r : Replica) (entries : List Entry) : Type 0 where
  pub place : ℕ
  pub entry : Entry
  pub there : slice_get entries place ≡ Some entry
  pub lost : IsLost r entry

abbrev pub NoneLost : Replica → ℕ → List Entry → Type 0
NoneLost r to entries = (k : ℕ) (x : Entry) → k < to → slice_get entries k ≡ Some x → ¬ IsLost r x

-- the same of a request's work
abbrev pub HasLostIn : Option Work → List Entry → Type 0
HasLostIn None entries = ⊥
HasLostIn (Some w) entries = HasLost w.part.row.replica entries

abbrev pub NoneLostIn : Option Work → List Entry → Type 0
NoneLostIn None entries = Unit {0}
NoneLostIn (Some w) entries = NoneLost w.part.row.replica (length entries) entries
