-- The timers of a part.
use Rattle.std.specs.Prelude.{ℕ, zero, suc, cond, min, nat_lt, Option, Some, None, List, is_some}
use Rattle.cf_model.specs.States.{outcome_at}
use Rattle.cf_row.specs.Rows.{Replica, stages_of, state_of}
use Rattle.cf_notes.specs.declared.noted.Noted.{Noted}
use Rattle.cf_notes.specs.declared.noted.Timer.{Timer}
use Rattle.cf_notes.specs.Noting.{timer_of}
use Rattle.cf_part.specs.Parts.{Part}

-- no moment
abbrev pub never : ℕ
never = 18446744073709551615

abbrev pub moment_by : Option Timer → ℕ → ℕ
moment_by None clock = never
moment_by (Some timer) clock = cond (nat_lt clock timer.moment) timer.moment never

-- the moment of a stage's timer, if the stage is open and the store's clock hasn't come to it
abbrev pub moment_at : Replica → List Noted → ℕ → ℕ → ℕ
moment_at r notes clock i = cond (is_some (outcome_at (state_of r) i)) never (moment_by (timer_of notes i) clock)

-- the first of those of so many stages
abbrev pub moments_below : ℕ → Replica → List Noted → ℕ → ℕ
moments_below zero r notes clock = never
moments_below (suc to) r notes clock = min (moments_below to r notes clock) (moment_at r notes clock to)

-- that of all, while the request goes on
abbrev pub first_timer : ℕ → Part → ℕ
first_timer clock p = cond (is_some p.fault) never (moments_below (stages_of p.row.replica) p.row.replica p.notes.stages clock)
