-- How a caller notes what it has seen, and another heeds it.
use Rattle.std.specs.Prelude.{◌≡◌, Option, Some, None, Result, Ok, Err}
use Rattle.std.specs.Arc.{arc_value}
use Rattle.cf_desk.specs.Views.{Heeds}
use Rattle.cf_c_handles.specs.Desks.{IsSameCaller}
use Rattle.cf_c_handles.specs.declared.handle.object.Caller.{Caller as Caller'}
use Rattle.cf_c_handles.specs.declared.handle.object.Noted.{Noted as Noted'}
use Rattle.cf_c_handles.specs.declared.code.Code.{Code}
use Rattle.cf_c_handles.specs.declared.code.Code.TheVariants.{Empty, Full, NoMemory, OtherDesk, WrongKind}
use Rattle.cf_c_handles.specs.declared.handle.object.Object.{Object}
use Rattle.cf_c_handles.specs.declared.handle.object.Object.TheVariants.{Caller, Notice}

-- the caller is as it was
pub record IsUnchanged (c d : Caller') : Type 0 where
  pub desk : d.desk ≡ c.desk
  pub pass : d.pass ≡ c.pass

-- it tells of all that the caller has seen, on the caller's desk
pub record IsNoticeOf (c : Caller') (n : Noted') : Type 0 where
  pub desk : arc_value n.desk ≡ arc_value c.desk
  pub seen : n.notice.seen ≡ c.pass.known.seen

pub record IsNoted (c : Caller') (back : Option Object) : Type 0 where
  pub notice : Noted'
  pub is : back ≡ Some (Notice notice)
  pub of : IsNoticeOf c notice

-- a caller's notice stands behind a handle that was empty, or memory is refused
abbrev pub NotesTo : Caller' → Option Object → Result (Unit {0}) Code → Option Object → Type 0
NotesTo c None (Ok done) back = IsNoted c back
NotesTo c None (Err why) back = (why ≡ NoMemory) × (back ≡ None)
NotesTo c (Some there) r back = (r ≡ Err Full) × (back ≡ Some there)

pub record CallerNotes (c : Caller') (had back : Option Object) (r : Result (Unit {0}) Code) (new : Object) : Type 0 where
  pub now : Caller'
  pub is : new ≡ Caller now
  pub same : IsUnchanged c now
  pub notes : NotesTo c had r back

-- what stands behind a handle notes what it has seen, if it is a caller
abbrev pub NotesBehind : Option Object → Option Object → Object → Result (Unit {0}) Code → Object → Type 0
NotesBehind had back (Caller c) r new = CallerNotes c had back r new
NotesBehind had back held r new = (r ≡ Err WrongKind) × (new ≡ held) × (back ≡ had)

-- a notice is of the caller's desk, which C owes
abbrev pub IsOfItsDesk : Option Object → Option Object → Type 0
IsOfItsDesk (Some (Caller c)) (Some (Notice n)) = (arc_value n.desk).table ≡ (arc_value c.desk).table
IsOfItsDesk held given = Unit {0}

-- the caller has seen its own events or the notice's, whichever are more
pub record HasHeeded (c : Caller') (n : Noted') (now : Caller') : Type 0 where
  pub same : IsSameCaller c now
  pub heeds : Heeds c.pass n.notice now.pass

-- a caller heeds what is given, if it is a notice, and seen to be of its desk
abbrev pub CallerHeeds : Caller' → Object → Result (Unit {0}) Code → Caller' → Type 0
CallerHeeds c (Notice n) (Ok done) now = HasHeeded c n now
CallerHeeds c (Notice n) (Err fault) now = (fault ≡ OtherDesk) × (now ≡ c)
CallerHeeds c given r now = (r ≡ Err WrongKind) × (now ≡ c)

-- the same from a handle, which is empty then; where it is refused, it stays behind the handle
abbrev pub HeedsFrom : Caller' → Option Object → Result (Unit {0}) Code → Caller' → Option Object → Type 0
HeedsFrom c None r now back = (r ≡ Err Empty) × (now ≡ c) × (back ≡ None)
HeedsFrom c (Some given) (Ok done) now back = CallerHeeds c given (Ok done) now × (back ≡ None)
HeedsFrom c (Some given) (Err fault) now back = CallerHeeds c given (Err fault) now × (back ≡ Some given)

pub record HeedsAt (c : Caller') (given back : Option Object) (r : Result (Unit {0}) Code) (new : Object) : Type 0 where
  pub now : Caller'
  pub is : new ≡ Caller now
  pub heeds : HeedsFrom c given r now back

-- what stands behind a handle heeds what stands behind another, if it is a caller
abbrev pub HeedsBehind : Option Object → Option Object → Object → Result (Unit {0}) Code → Object → Type 0
HeedsBehind given back (Caller c) r new = HeedsAt c given back r new
HeedsBehind given back held r new = (r ≡ Err WrongKind) × (new ≡ held) × (back ≡ given)
