-- What a worker counts.
use Rattle.std.specs.Prelude.{◌≡◌, ℕ, ◌+◌, List, [], ◌∷◌}
use Rattle.cf_model.specs.declared.events.Reply.{Reply}
use Rattle.cf_model.specs.declared.events.Reply.TheVariants.{Claim as ToldClaim, Finish as ToldFinish}
use Rattle.cf_model.specs.declared.replies.Claimed.TheVariants.{Granted}
use Rattle.cf_model.specs.declared.replies.Finished.TheVariants.{Won, Late}
use Rattle.cf_model.specs.declared.calls.Call.TheVariants.{Claim, Finish}
use Rattle.cf_desk.specs.declared.calls.Rec.{Rec}
use Rattle.cf_desk.specs.declared.calls.Rec.TheVariants.{Did}
use Rattle.cf_desk.specs.Views.{Pass}
use Rattle.cf_pool.specs.Answering.{Answers}
use Rattle.cf_pool.specs.declared.worker.Done.{Done}
use Rattle.cf_pool.specs.Works.{WorksOut}

-- whether a finish won, and whether it came late
abbrev pub won_by : Reply → ℕ
won_by (ToldFinish Won) = 1
won_by reply = 0

abbrev pub late_by : Reply → ℕ
late_by (ToldFinish Late) = 1
late_by reply = 0

-- how many granted claims there are, how many finishes that won, and how many that came late
abbrev pub grant_at : Rec → ℕ
grant_at (Did place (Claim i) (ToldClaim (Granted args))) = 1
grant_at r = 0

abbrev pub won_at : Rec → ℕ
won_at (Did place (Finish i answer) reply) = won_by reply
won_at r = 0

abbrev pub late_at : Rec → ℕ
late_at (Did place (Finish i answer) reply) = late_by reply
late_at r = 0

-- the sum over these records
abbrev pub total_by : (Rec → ℕ) → List Rec → ℕ
total_by count [] = 0
total_by count (r ∷ rs) = count r + total_by count rs

-- the counts are those of these records
pub record Counts (done : Done) (records : List Rec) : Type 0 where
  pub run : done.run ≡ total_by grant_at records
  pub won : done.won ≡ total_by won_at records
  pub late : done.late ≡ total_by late_at records

-- a worker that ended: it owes nothing, and has counted what it added
pub record EndedWith (answers : Answers) (p q : Pass) (done : Done) : Type 0 where
  pub out : WorksOut answers p q
  pub counts : Counts done out.works.more
