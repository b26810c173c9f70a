use Rattle.std.proofs.Common.{◌≡◌, take}
use Rattle.cf_desk.specs.Log.{state_from}
use Rattle.cf_desk.specs.Views.{known_of}
use Rattle.cf_desk.proofs.desk.Desk.catch_up.Given as goal

abbrev pub invariant-loop-place : goal.invariant-loop-place
invariant-loop-place l = (l.seat.table_id ≡ l.initial.seat.table_id) × (l.seat.me ≡ l.initial.seat.me) × (l.replica.state ≡ state_from (known_of l.initial.seat.me.0).setting.plan (take l.place (known_of l.initial.seat.me.0).seen))
