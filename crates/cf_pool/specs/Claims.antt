-- Claims that are open.
use Rattle.std.specs.Prelude.{◌≡◌, ℕ, ◌==◌, Bool, true, false, Some, List, [], ◌∷◌, if◌then◌else◌}
use Rattle.std.specs.List.{Contains}
use Rattle.cf_model.specs.declared.events.Reply.TheVariants.{Claim as ToldClaim}
use Rattle.cf_model.specs.declared.replies.Claimed.TheVariants.{Granted}
use Rattle.cf_model.specs.States.{State, claim_at}
use Rattle.cf_model.specs.declared.calls.Call.TheVariants.{Claim, Finish}
use Rattle.cf_desk.specs.declared.calls.Rec.{Rec}
use Rattle.cf_desk.specs.declared.calls.Rec.TheVariants.{Did}
use Rattle.cf_desk.specs.Views.{Pass}

-- whether the caller's claim of stage i is open after a record, where it was, or wasn't, before
abbrev pub open_by : ℕ → Bool → Rec → Bool
open_by i was (Did place (Claim j) (ToldClaim (Granted args))) = if i == j then true else was
open_by i was (Did place (Finish j answer) reply) = if i == j then false else was
open_by i was r = was

-- whether it is after these records: it was granted, and not finished since
abbrev pub open_after : ℕ → Bool → List Rec → Bool
open_after i was [] = was
open_after i was (r ∷ rs) = open_after i (open_by i was r) rs

-- the claim of stage i was open in the records of this caller's pass
pub record WasOpen (ps : List Pass) (who i : ℕ) : Type 0 where
  pub by : Pass
  pub there : Contains ps by
  pub is : by.known.caller ≡ who
  pub unfinished : open_after i false by.records ≡ true

-- each claim that is open in this graph, of a settled stage or an unsettled one, was open in the records of these passes
abbrev pub WereOpen : List Pass → State → Type 0
WereOpen ps graph = (i who : ℕ) → claim_at graph i ≡ Some who → WasOpen ps who i
