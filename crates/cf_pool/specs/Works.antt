-- What a worker adds to its pass.
use Rattle.std.specs.Prelude.{◌≡◌, ℕ, ◌+◌, ◌<◌, ◌≤◌, ◌==◌, Option, Some, None, List, [], ◌∷◌, ◌++◌, length, if◌then◌else◌}
use Rattle.cf_forms.specs.declared.forms.Args.{Args}
use Rattle.cf_forms.specs.Plans.{Planned}
use Rattle.cf_model.specs.declared.events.Event.{Event}
use Rattle.cf_model.specs.declared.events.Reply.TheVariants.{Claim as ToldClaim}
use Rattle.cf_model.specs.declared.replies.Claimed.TheVariants.{Granted}
use Rattle.cf_pool.specs.Answering.{Answers, MayAnswer}
use Rattle.cf_model.specs.declared.calls.Call.TheVariants.{Claim, Finish}
use Rattle.cf_desk.specs.declared.calls.Rec.{Rec}
use Rattle.cf_desk.specs.declared.calls.Rec.TheVariants.{Did}
use Rattle.cf_desk.specs.Views.{Pass, IsSamePass, state_of}

-- what a worker owes after a record: the finish of a stage whose claim was granted, with the arguments
abbrev pub Owed : Type 0
Owed = Option (ℕ × Args)

abbrev pub owed_by : Rec → Owed
owed_by (Did place (Claim i) (ToldClaim (Granted args))) = Some (i, args)
owed_by r = None

-- the record may come where this is owed: where nothing is, a claim of a stage of the plan, and else the finish with what the stage's function may answer
abbrev pub IsNext : Answers → Planned → Owed → Rec → Type 0
IsNext answers plan None (Did place (Claim i) reply) = i < length plan.stages
IsNext answers plan (Some owed) (Did place (Finish i answer) reply) =
    (i ≡ owed.0) × MayAnswer answers plan.stages i owed.1 answer
IsNext answers plan owed r = ⊥

-- the records are claims, and after each granted one its finish
abbrev pub AreWork : Answers → Planned → Owed → List Rec → Type 0
AreWork answers plan owed [] = Unit {0}
AreWork answers plan owed (r ∷ rs) = IsNext answers plan owed r × AreWork answers plan (owed_by r) rs

-- what is owed after these records
abbrev pub owed_after : Owed → List Rec → Owed
owed_after owed [] = owed
owed_after owed (r ∷ rs) = owed_after (owed_by r) rs

-- how many claims of stage i there are
abbrev pub claims_by : ℕ → Rec → ℕ
claims_by i (Did place (Claim j) reply) = if i == j then 1 else 0
claims_by i r = 0

abbrev pub claims_of : ℕ → List Rec → ℕ
claims_of i [] = 0
claims_of i (r ∷ rs) = claims_by i r + claims_of i rs

-- the same pass has seen more, and has done work over the plan as it has seen it last: it claimed no stage twice
pub record Works (answers : Answers) (p q : Pass) : Type 0 where
  pub same : IsSamePass p q
  pub seen : List Event
  pub goes_on : q.known.seen ≡ p.known.seen ++ seen
  pub more : List Rec
  pub records : q.records ≡ p.records ++ more
  pub work : AreWork answers (state_of q.known).plan None more
  pub once : (i : ℕ) → claims_of i more ≤ 1

-- and it owes nothing
pub record WorksOut (answers : Answers) (p q : Pass) : Type 0 where
  pub works : Works answers p q
  pub owes : owed_after None works.more ≡ None
