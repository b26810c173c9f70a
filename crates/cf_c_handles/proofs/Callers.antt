-- A caller is asked behind its handle.
use Rattle.std.proofs.Common.{◌≡◌, refl}
use Rattle.std.specs.Prelude.{false, Option, Some, None, Result, Ok}
use Rattle.cf_c_handles.specs.Desks.{ByCaller, IsSameCaller}
use Rattle.cf_c_handles.specs.Meetings.{MeetsCaller, MeetsHeld}
use Rattle.cf_c_handles.specs.Notices.{HeedsBehind, HeedsFrom, IsNoted, IsUnchanged, NotesBehind, NotesTo}
use Rattle.cf_c_handles.specs.Seals.{is_full}
use Rattle.cf_c_handles.specs.declared.handle.object.Caller.{Caller as Caller'}
use Rattle.cf_c_handles.specs.declared.code.Code.{Code}
use Rattle.cf_c_handles.specs.declared.handle.object.Object.{Object}
use Rattle.cf_c_handles.specs.declared.handle.object.Object.TheVariants.{Caller}

pub at_caller : {X : Type 0} (Asks : Caller' → Result X Code → Caller' → Type 0) (h : Object) (c d : Caller') (r : Result X Code)
    → h ≡ Caller c → IsSameCaller c d → Asks c r d → ByCaller Asks h r (Caller d)
at_caller Asks h c d r is same asked = rw is (record { now = d; is = refl; same = same; asked = asked })

pub are_met : (h g : Object) (c d newer other : Caller') (r : Result (Unit {0}) Code)
    → h ≡ Caller c → g ≡ Caller d → MeetsCaller c d r newer other → MeetsHeld h g r (Caller newer) (Caller other)
are_met h g c d newer other r is given_is meets = rw (is, given_is) (record { newer = newer; other = other; is = refl; left_is = refl; meets = meets })

pub notes_to : (c : Caller') (had back : Option Object) → is_full had ≡ false → IsNoted c back → NotesTo c had (Ok tt) back
notes_to c None back free noted = noted
notes_to c (Some there) back free noted = cc

pub at_notes : (h : Object) (c d : Caller') (had back : Option Object) (r : Result (Unit {0}) Code)
    → h ≡ Caller c → IsUnchanged c d → NotesTo c had r back → NotesBehind had back h r (Caller d)
at_notes h c d had back r is same notes = rw is (record { now = d; is = refl; same = same; notes = notes })

pub at_heeds : (h : Object) (c d : Caller') (given back : Option Object) (r : Result (Unit {0}) Code)
    → h ≡ Caller c → HeedsFrom c given r d back → HeedsBehind given back h r (Caller d)
at_heeds h c d given back r is heeds = rw is (record { now = d; is = refl; heeds = heeds })
