-- How a desk is closed, call by call, and what a closed desk tells.
use Rattle.std.specs.Prelude.{◌≡◌, ◌≢◌, ℕ, ◌<◌, ◌≤◌, Option, Some, None, Result, Ok, Err, MatchResult, [], ◌∷◌, ◌++◌, length, option_and_then, option_map, slice_get}
use Rattle.std.specs.Arc.{arc_value}
use Rattle.cf_event.specs.Words.{word_of}
use Rattle.cf_desk.specs.declared.calls.Closed.{Closed as Closed'}
use Rattle.cf_c_handles.specs.Answers.{Done}
use Rattle.cf_c_handles.specs.Closed.{IsClosed}
use Rattle.cf_c_handles.specs.Codes.{number_of}
use Rattle.cf_c_handles.specs.Graphs.{or_nothing}
use Rattle.cf_c_handles.specs.Records.{count_told, kept_of, record_of}
use Rattle.cf_c_handles.specs.declared.handle.object.Caller.{Caller as Caller'}
use Rattle.cf_c_handles.specs.declared.handle.object.ClosedDesk.{ClosedDesk as ClosedDesk'}
use Rattle.cf_c_handles.specs.declared.handle.object.Closing.{Closing as Closing'}
use Rattle.cf_c_handles.specs.declared.code.Code.{Code}
use Rattle.cf_c_handles.specs.declared.code.Code.TheVariants.{Empty, Full, NoMemory, NotAll, OtherDesk, StillShared, WrongKind}
use Rattle.cf_c_handles.specs.declared.handle.object.Object.{Object}
use Rattle.cf_c_handles.specs.declared.handle.object.Object.TheVariants.{Caller, Closed, Closing, Graph}
use Rattle.cf_c_handles.specs.declared.close.closed.CfRecord.{CfRecord}

-- the desk of a caller is being closed, and its pass was given back
pub record IsBegun (caller : Caller') (closing : Closing') : Type 0 where
  pub desk : closing.desk ≡ caller.desk
  pub passes : closing.passes.items ≡ caller.pass ∷ []

-- a caller becomes a closing of its desk, or where memory is refused stays
abbrev pub Begins : Object → Result (Unit {0}) Code → Object → Type 0
Begins (Caller c) (Ok done) (Closing d) = IsBegun c d
Begins (Caller c) (Ok done) new = ⊥
Begins (Caller c) (Err fault) new = (fault ≡ NoMemory) × (new ≡ Caller c)
Begins held r new = (r ≡ Err WrongKind) × (new ≡ held)

-- two callers are of one desk, which C owes where the first is a closing
abbrev pub AreOfOneDesk : Option Object → Option Object → Type 0
AreOfOneDesk (Some (Closing c)) (Some (Caller d)) = (arc_value d.desk).table ≡ (arc_value c.desk).table
AreOfOneDesk held given = Unit {0}

-- one more caller's pass was given back
pub record HasMore (before : Closing') (caller : Caller') (closing : Closing') : Type 0 where
  pub desk : closing.desk ≡ before.desk
  pub passes : closing.passes.items ≡ before.passes.items ++ caller.pass ∷ []

-- not all passes were given back yet
abbrev pub LacksPasses : Closing' → Type 0
LacksPasses closing = length closing.passes.items < (arc_value closing.desk).setting.callers

-- why a caller isn't taken: it is seen to be of another desk, or all passes were given back
abbrev pub ClosingRefuses : Closing' → Code → Type 0
ClosingRefuses closing OtherDesk = Unit {0}
ClosingRefuses closing Full = (arc_value closing.desk).setting.callers ≤ length closing.passes.items
ClosingRefuses closing code = ⊥

-- a closing takes what is given, if it is a caller that isn't refused; else it stays
abbrev pub ClosingTakes : Closing' → Object → Result (Unit {0}) Code → Closing' → Type 0
ClosingTakes c (Caller d) (Ok done) now = HasMore c d now
ClosingTakes c (Caller d) (Err fault) now = ClosingRefuses c fault × (now ≡ c)
ClosingTakes c given r now = (r ≡ Err WrongKind) × (now ≡ c)

-- the same from a handle, which is empty then; where it is refused, it stays behind the handle
abbrev pub TakesFrom : Closing' → Option Object → Result (Unit {0}) Code → Closing' → Option Object → Type 0
TakesFrom c None r now back = (r ≡ Err Empty) × (now ≡ c) × (back ≡ None)
TakesFrom c (Some given) (Ok done) now back = ClosingTakes c given (Ok done) now × (back ≡ None)
TakesFrom c (Some given) (Err fault) now back = ClosingTakes c given (Err fault) now × (back ≡ Some given)

-- a closing takes what stands behind a handle; of another kind nothing does
abbrev pub Returns : Option Object → Option Object → Object → Result (Unit {0}) Code → Object → Type 0
Returns given back (Closing c) r (Closing now) = TakesFrom c given r now back
Returns given back (Closing c) r new = ⊥
Returns given back held r new = (r ≡ Err WrongKind) × (new ≡ held) × (back ≡ given)

-- the same through the closing's handle
abbrev pub Adds : Option Object → Option Object → ℕ → Option Object → Option Object → Type 0
Adds None given code new back = (code ≡ number_of Empty) × (new ≡ None) × (back ≡ given)
Adds (Some held) given code new back = Done (Returns given back) held new code

-- why a closing doesn't end: callers are missing, or all were given back and the desk is held all the same
abbrev pub IsKept : Closing' → Code → Type 0
IsKept closing NotAll = length closing.passes.items ≢ (arc_value closing.desk).setting.callers
IsKept closing StillShared = length closing.passes.items ≡ (arc_value closing.desk).setting.callers
IsKept closing code = ⊥

-- a closing ends in the closed desk, or comes back with the cause
abbrev pub EndsOrStays : Closing' → Result ClosedDesk' (Closing' × Code) → Type 0
EndsOrStays closing result =
    MatchResult result (λ desk. IsClosed (arc_value closing.desk) closing.passes.items desk.closed)
    (λ back. IsKept closing back.1 × (back.0 ≡ closing))

-- a closing becomes its desk, closed, or stays for one of these causes
abbrev pub Ends : Object → Result (Unit {0}) Code → Object → Type 0
Ends (Closing c) (Ok done) (Closed d) = IsClosed (arc_value c.desk) c.passes.items d.closed
Ends (Closing c) (Ok done) new = ⊥
Ends (Closing c) (Err fault) new = IsKept c fault × (new ≡ Closing c)
Ends held r new = (r ≡ Err WrongKind) × (new ≡ held)

-- a closed desk is asked what this tells of it
abbrev pub OfClosed : {X : Type 0} → (Closed' → Result X Code) → Object → Result X Code → Object → Type 0
OfClosed tells (Closed c) r new = (r ≡ tells c.closed) × (new ≡ Closed c)
OfClosed tells held r new = (r ≡ Err WrongKind) × (new ≡ held)

abbrev pub events_told : Closed' → Result ℕ Code
events_told closed = Ok (length closed.history.items)

abbrev pub word_told : ℕ → Closed' → Result ℕ Code
word_told place closed = or_nothing (option_map word_of (slice_get closed.history.items place))

abbrev pub records_told : ℕ → Closed' → Result ℕ Code
records_told caller closed = or_nothing (option_map count_told (kept_of closed.passes.items caller))

abbrev pub record_told : ℕ → ℕ → Closed' → Result CfRecord Code
record_told caller at closed = or_nothing (option_and_then (record_of at) (kept_of closed.passes.items caller))

-- a closed desk becomes its graph
abbrev pub BecomesGraph : Object → Result (Unit {0}) Code → Object → Type 0
BecomesGraph (Closed c) r new = (r ≡ Ok tt) × (new ≡ Graph c.closed.graph)
BecomesGraph held r new = (r ≡ Err WrongKind) × (new ≡ held)
