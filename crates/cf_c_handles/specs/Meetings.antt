-- How two callers of a desk meet.
use Rattle.std.specs.Prelude.{◌≡◌, Option, Some, None, Result, Ok, Err}
use Rattle.std.specs.Arc.{arc_value}
use Rattle.cf_desk.specs.Views.{Meets}
use Rattle.cf_c_handles.specs.Desks.{IsSameCaller}
use Rattle.cf_c_handles.specs.declared.handle.object.Caller.{Caller as Caller'}
use Rattle.cf_c_handles.specs.declared.code.Code.{Code}
use Rattle.cf_c_handles.specs.declared.code.Code.TheVariants.{Empty, OtherDesk, WrongKind}
use Rattle.cf_c_handles.specs.declared.handle.object.Object.{Object}
use Rattle.cf_c_handles.specs.declared.handle.object.Object.TheVariants.{Caller}

-- two callers are of one desk, which C owes
abbrev pub AreOfOne : Option Object → Option Object → Type 0
AreOfOne (Some (Caller c)) (Some (Caller d)) = (arc_value d.desk).table ≡ (arc_value c.desk).table
AreOfOne held given = Unit {0}

-- both have seen the longer of what either had seen
pub record HaveMet (c d newer other : Caller') : Type 0 where
  pub left : IsSameCaller c newer
  pub right : IsSameCaller d other
  pub level : Meets c.pass d.pass newer.pass other.pass

-- they meet, or aren't seen to be of one desk, and stay
abbrev pub MeetsCaller : Caller' → Caller' → Result (Unit {0}) Code → Caller' → Caller' → Type 0
MeetsCaller c d (Ok done) newer other = HaveMet c d newer other
MeetsCaller c d (Err fault) newer other = (fault ≡ OtherDesk) × (newer ≡ c) × (other ≡ d)

pub record AreMet (c d : Caller') (r : Result (Unit {0}) Code) (new left : Object) : Type 0 where
  pub newer : Caller'
  pub other : Caller'
  pub is : new ≡ Caller newer
  pub left_is : left ≡ Caller other
  pub meets : MeetsCaller c d r newer other

-- what stands behind two handles meets, if both are callers
abbrev pub MeetsHeld : Object → Object → Result (Unit {0}) Code → Object → Object → Type 0
MeetsHeld (Caller c) (Caller d) r new left = AreMet c d r new left
MeetsHeld held given r new left = (r ≡ Err WrongKind) × (new ≡ held) × (left ≡ given)

pub record StaysBehind (given : Object) (back : Option Object) (held : Object) (r : Result (Unit {0}) Code) (new : Object) : Type 0 where
  pub left : Object
  pub is : back ≡ Some left
  pub meets : MeetsHeld held given r new left

-- what stands behind a handle meets what stands behind another, if there is something
abbrev pub MeetsBehind : Option Object → Option Object → Object → Result (Unit {0}) Code → Object → Type 0
MeetsBehind None back held r new = (r ≡ Err Empty) × (new ≡ held) × (back ≡ None)
MeetsBehind (Some given) back held r new = StaysBehind given back held r new
