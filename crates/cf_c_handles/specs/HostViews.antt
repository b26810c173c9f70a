-- What C reads of the requests of a host behind a handle.
use Rattle.std.specs.Prelude.{◌≡◌, ℕ, ◌<◌, ◌≤◌, Option, Some, None, Result, Ok, Err, List, length, min, slice_get}
use Rattle.cf_host.specs.Hosts.{Host as Host', IsShownPart}
use Rattle.cf_host.specs.Requests.{IsOpenIn}
use Rattle.cf_notes.specs.declared.wants.Want.{Want}
use Rattle.cf_part.specs.Parts.{Part as Part', seen_by}
use Rattle.cf_part.specs.declared.question.Fault.{Fault}
use Rattle.cf_row.specs.Rows.{ledger_of, stages_of}
use Rattle.cf_row.specs.declared.entry.Entry.{Entry}
use Rattle.cf_c_handles.specs.HostOrders.{fault_number}
use Rattle.cf_c_handles.specs.HostValues.{as_want}
use Rattle.cf_c_handles.specs.Ledgers.{TellsStage}
use Rattle.cf_c_handles.specs.declared.code.Code.{Code}
use Rattle.cf_c_handles.specs.declared.code.Code.TheVariants.{NotOpen, WrongKind}
use Rattle.cf_c_handles.specs.declared.handle.object.Object.{Object}
use Rattle.cf_c_handles.specs.declared.handle.object.Object.TheVariants.{Host}
use Rattle.cf_c_handles.specs.declared.values.host.CfHostView.{CfHostView}
use Rattle.cf_c_handles.specs.declared.values.host.rows.CfHostWant.{CfHostWant}
use Rattle.cf_c_handles.specs.declared.values.stage.CfStage.{CfStage}

-- ---- a request that is opened

-- it tells this
pub record TellsOf {X : Type 0} (Tells : Part' → Result X Code → Type 0) (request : ℕ) (h : Host') (r : Result X Code) : Type 0 where
  pub part : Part'
  pub is : IsShownPart h request part
  pub tells : Tells part r

-- or isn't opened, and C is told that
abbrev pub OfHostPart : {X : Type 0} → (Part' → Result X Code → Type 0) → ℕ → Host' → Result X Code → Host' → Type 0
OfHostPart Tells request h (Ok told) new = TellsOf Tells request h (Ok told) × (new ≡ h)
OfHostPart Tells request h (Err NotOpen) new = (¬ IsOpenIn request h.requests) × (new ≡ h)
OfHostPart Tells request h (Err code) new = TellsOf Tells request h (Err code) × (new ≡ h)

-- what a stage is
abbrev pub TellsPartStage : ℕ → Part' → Result CfStage Code → Type 0
TellsPartStage stage p r = TellsStage stage (ledger_of p.row.replica) r

-- why nothing goes on in it, or 0
abbrev pub as_fault : Option Fault → ℕ
as_fault None = 0
as_fault (Some fault) = fault_number fault

-- how much of it was seen
abbrev pub as_view : Part' → CfHostView
as_view p = record { words = seen_by p; stages = stages_of p.row.replica; fault = as_fault p.fault }

abbrev pub TellsView : Part' → Result CfHostView Code → Type 0
TellsView p r = r ≡ Ok (as_view p)

-- ---- its put

-- the entry of a put with what is known of it
abbrev pub want_with : Option Entry → Option Want → Option CfHostWant
want_with (Some x) (Some w) = Some (as_want x w)
want_with (Some x) None = None
want_with None w = None

-- these stand in a buffer as far as it reaches, and behind them what was there
pub record AreRows (put : List Entry) (wants : List Want) (old new : List CfHostWant) (count : ℕ) : Type 0 where
  pub reach : length new ≡ length old
  pub count_is : count ≡ min (length put) (length wants)
  pub given : (k : ℕ) → k < count → k < length old → slice_get new k ≡ want_with (slice_get put k) (slice_get wants k)
  pub kept : (k : ℕ) → count ≤ k → slice_get new k ≡ slice_get old k

pub record GivesPut (request : ℕ) (h : Host') (had has : List CfHostWant × ℕ) : Type 0 where
  pub part : Part'
  pub is : IsShownPart h request part
  pub rows : AreRows part.row.put part.wants had.0 has.0 has.1

abbrev pub WritesPutOf : ℕ → Host' → List CfHostWant × ℕ → Result (Unit {0}) Code → List CfHostWant × ℕ → Type 0
WritesPutOf request h had (Ok done) has = GivesPut request h had has
WritesPutOf request h had (Err code) has = (code ≡ NotOpen) × (¬ IsOpenIn request h.requests) × (has ≡ had)

abbrev pub WritesPut : ℕ → Object → List CfHostWant × ℕ → Result (Unit {0}) Code → Object → List CfHostWant × ℕ → Type 0
WritesPut request (Host h) had r new has = WritesPutOf request h.value had r has × (new ≡ Host h)
WritesPut request held had r new has = (r ≡ Err WrongKind) × (new ≡ held) × (has ≡ had)
