-- A session's part in a request, with the acts that users wait for.
use Rattle.std.specs.Prelude.{◌≡◌, ℕ, ◌+◌, ◌<◌, Bool, true, false, eqb, leb, Option, Some, None, List, [], ◌∷◌, if◌then◌else◌, length, slice_get}
use Rattle.cf_forms.specs.Forms.{composes}
use Rattle.cf_due.specs.declared.acts.Act.{Act}
use Rattle.cf_due.specs.declared.acts.Act.TheVariants.{Complete, Fail, Cancel, Limit, Attach, Again}
use Rattle.cf_due.specs.Acts.{IsFitting}
use Rattle.cf_part.specs.declared.question.Fault.{Fault}
use Rattle.cf_part.specs.Parts.{Part, seen_by}
use Rattle.cf_turn.specs.declared.wish.End.{End}
use Rattle.cf_turn.specs.declared.wish.Told.{Told}
use Rattle.cf_turn.specs.declared.wish.Told.TheVariants.{Unknown, Closed, Ended}
use Rattle.cf_turn.specs.declared.wish.Wish.{Wish}

-- The users: the acts that they wait for, and those who end the request, in their order; and for how many users more places were found.
pub record Users : Type 0 where
  pub wishes : List Wish
  pub ends : List End
  pub free : ℕ

abbrev pub no_users : Users
no_users = record { wishes = []; ends = []; free = 0 }

-- What a contract sees: the part; the users; whether the put that is under way is that of the first act, and whether an answer to it is
-- missing; and with how many entries the request was closed last.
pub record Work : Type 0 where
  pub part : Part
  pub wishes : List Wish
  pub ends : List End
  pub free : ℕ
  pub is_acting : Bool
  pub is_doubtful : Bool
  pub closed_at : Option ℕ

abbrev pub work_of : Part → Users → Bool → Bool → Option ℕ → Work
work_of part users is_acting is_doubtful closed_at =
    record {
      part = part;
      wishes = users.wishes;
      ends = users.ends;
      free = users.free;
      is_acting = is_acting;
      is_doubtful = is_doubtful;
      closed_at = closed_at;
    }

abbrev pub new_work : Part → Work
new_work part = record { part = part; wishes = []; ends = []; free = 0; is_acting = false; is_doubtful = false; closed_at = None }

-- an act that nobody has answered
abbrev pub wish_of : ℕ → Act → ℕ → Wish
wish_of number act until = record { number = number; act = act; until = until; answer = None }

-- its attached stage fits its form
abbrev pub IsFit : Wish → Type 0
IsFit w = IsFitting w.act

-- ---- what users are told

-- the stage of an act that stands behind so many stages
abbrev pub stage_of : ℕ → Act → ℕ
stage_of stages (Complete i) = i
stage_of stages (Fail i) = i
stage_of stages (Cancel i only_idle) = i
stage_of stages (Limit i moment gives) = i
stage_of stages (Attach form of function) = if composes form then stages + 1 else stages
stage_of stages (Again i) = stages

-- the answer, if there is one; behind a fault that; and from its moment on that nothing is known
abbrev pub told_by : Option Told → Option Fault → Bool → Option Told
told_by (Some told) fault is_late = Some told
told_by None (Some fault) is_late = Some (Ended fault)
told_by None None true = Some Unknown
told_by None None false = None

abbrev pub wish_told : Option Fault → ℕ → Wish → Option Told
wish_told fault now w = told_by w.answer fault (leb w.until now)

-- of an end: the fault, or that the request is closed, or from its moment on that nothing is known
abbrev pub ended_by : Option Fault → Bool → Bool → Option Told
ended_by (Some fault) is_closed is_late = Some (Ended fault)
ended_by None true is_late = Some Closed
ended_by None false true = Some Unknown
ended_by None false false = None

abbrev pub end_told : Option Fault → Bool → ℕ → End → Option Told
end_told fault is_closed now e = ended_by fault is_closed (leb e.until now)

-- none of the first so many is to be told anything
abbrev pub NoneTold : Option Fault → ℕ → ℕ → List Wish → Type 0
NoneTold fault now to wishes = (k : ℕ) (w : Wish) → k < to → slice_get wishes k ≡ Some w → wish_told fault now w ≡ None

abbrev pub NoEndTold : Option Fault → Bool → ℕ → ℕ → List End → Type 0
NoEndTold fault is_closed now to ends = (k : ℕ) (e : End) → k < to → slice_get ends k ≡ Some e → end_told fault is_closed now e ≡ None

-- the first that is to be told something, and what
pub record IsTold (fault : Option Fault) (now : ℕ) (wishes : List Wish) (place number : ℕ) (told : Told) : Type 0 where
  pub wish : Wish
  pub there : slice_get wishes place ≡ Some wish
  pub named : wish.number ≡ number
  pub is : wish_told fault now wish ≡ Some told
  pub first : NoneTold fault now place wishes

pub record IsEndTold (fault : Option Fault) (is_closed : Bool) (now : ℕ) (ends : List End) (place number : ℕ) (told : Told) : Type 0 where
  pub end : End
  pub there : slice_get ends place ≡ Some end
  pub named : end.number ≡ number
  pub is : end_told fault is_closed now end ≡ Some told
  pub first : NoEndTold fault is_closed now place ends

-- this was so at just so many entries
abbrev pub is_at : Option ℕ → ℕ → Bool
is_at None seen = false
is_at (Some at) seen = eqb at seen

-- the request is closed, and nothing came since
abbrev pub is_closed_in : Work → Bool
is_closed_in w = is_at w.closed_at (seen_by w.part)

-- nobody is to be told anything by now
pub record NobodyIsTold (w : Work) (now : ℕ) : Type 0 where
  pub wishes : NoneTold w.part.fault now (length w.wishes) w.wishes
  pub ends : NoEndTold w.part.fault (is_closed_in w) now (length w.ends) w.ends

-- the first one has this answer
abbrev pub answered_first : Told → List Wish → List Wish
answered_first told [] = []
answered_first told (w ∷ wishes) = (record w { answer = Some told }) ∷ wishes
