-- What a request's machine keeps, whatever calls come between.
use Rattle.std.specs.Prelude.{◌≡◌, ℕ, ◌≤◌, true, List, Contains}
use Rattle.cf_request.specs.Machines.{Machine, Passes, state_in}
use Rattle.cf_request.specs.Rows.{AreCalls, Out}
use Rattle.cf_request.specs.Telling.{is_settled_in}
use Rattle.cf_request.specs.declared.deadlines.Deadline.{Deadline}
use Rattle.cf_request.specs.declared.joins.Join.{Join}

-- a deadline that was set is met by each pass to its moment or a later one
abbrev pub DeadlinesAreMet : Type 0
DeadlinesAreMet =
    (old mid new : Machine) (outs : List Out) (d : Deadline) (moment : ℕ) → Contains old.deadlines d → AreCalls old outs mid → Passes moment mid new → d.moment ≤ moment →
    is_settled_in (state_in new).stages d.stage ≡ true

-- a stage that joins others, or follows one, goes on doing so
abbrev pub RelaysStay : Type 0
RelaysStay = (old new : Machine) (outs : List Out) (j : Join) → Contains old.follows j → AreCalls old outs new → Contains new.follows j

-- the moment up to which time has passed doesn't go back
abbrev pub MomentsGoOn : Type 0
MomentsGoOn = (old new : Machine) (outs : List Out) → AreCalls old outs new → old.moment ≤ new.moment
