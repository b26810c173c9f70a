-- What a request tells its host after a call: the stages that were settled, and what is to be done next.
use Rattle.std.specs.Prelude.{◌≡◌, ◌⊎◌, ℕ, zero, suc, ◌+◌, ◌-◌, ◌*◌, ◌<◌, ◌≤◌, ◌==◌, ◌||◌, Bool, false, Some, List, ◌++◌, drop, length, not, slice_get, slice_index, take}
use Rattle.cf_request.specs.Deadlines.{Forgets, IsNextDue, NoneOpen}
use Rattle.cf_request.specs.Lanes.{ready_in}
use Rattle.cf_request.specs.Machines.{Machine, OnlyDeadlines, state_in}
use Rattle.cf_request.specs.declared.deadlines.Deadline.{Deadline}
use Rattle.cf_c_handles.specs.Ledgers.{AreWritten}
use Rattle.cf_c_handles.specs.Requests.{told_in}
use Rattle.cf_c_handles.specs.Values.{bit}
use Rattle.cf_c_handles.specs.declared.values.request.CfTodo.{CfTodo}
use Rattle.cf_c_handles.specs.declared.values.request.CfTold.{CfTold}

-- ---- ready stages

-- how many stages of a lane are ready beyond the jobs that are on their way
abbrev pub wanted_in : Machine → List ℕ → ℕ → ℕ
wanted_in m jobs lane = ready_in m.teller lane - slice_index jobs lane

-- each lane that is there is told that, and the others are as they were
pub record AreWanted (m : Machine) (jobs had has : List ℕ) : Type 0 where
  pub reach : length has ≡ length had
  pub there : (lane : ℕ) → lane < m.teller.lanes.count → slice_get has lane ≡ Some (wanted_in m jobs lane)
  pub others : (lane : ℕ) → m.teller.lanes.count ≤ lane → slice_get has lane ≡ slice_get had lane

-- whether a lane below a number has such stages
abbrev pub is_wanted_below : Machine → List ℕ → ℕ → Bool
is_wanted_below m jobs zero = false
is_wanted_below m jobs (suc lane) = is_wanted_below m jobs lane || not (wanted_in m jobs lane == 0)

-- ---- the next moment

-- stands for no moment: as many bits as a moment has, and all of them 1
abbrev pub never : ℕ
never = 18446744073709551615

-- the next deadline is due at a moment
pub record IsDueAt (m : Machine) (moment : ℕ) : Type 0 where
  pub deadline : Deadline
  pub next : IsNextDue m.moment m.deadlines (state_in m).stages deadline
  pub is : moment ≡ deadline.moment

-- no open stage has a deadline
pub record IsNeverDue (m : Machine) (moment : ℕ) : Type 0 where
  pub none : NoneOpen m.deadlines (state_in m).stages
  pub is : moment ≡ never

abbrev pub IsNextMoment : Machine → ℕ → Type 0
IsNextMoment m moment = IsDueAt m moment ⊎ IsNeverDue m moment

-- ---- what is to be done next

-- what is new: stages that are ready (1), and another moment (2)
abbrev pub news_of : Bool → Bool → ℕ
news_of wanted moved = bit wanted + 2 * bit moved

-- how many stages there are to tell, how many are ready beyond the jobs, the next moment, and what of that is new
pub record IsTodo (m : Machine) (had has : CfTodo) : Type 0 where
  pub told : has.told ≡ length m.teller.told
  pub jobs : has.jobs ≡ had.jobs
  pub ready : AreWanted m had.jobs had.ready has.ready
  pub moment : IsNextMoment m has.moment
  pub news : has.news ≡ news_of (is_wanted_below m had.jobs m.teller.lanes.count) (not (has.moment == had.moment))

-- C is told that, and deadlines of settled stages may be forgotten
pub record SaysNext (old : Machine) (had has : CfTodo) (new : Machine) : Type 0 where
  pub todo : IsTodo old had has
  pub forgets : Forgets (state_in old).stages old.deadlines new.deadlines
  pub rest : OnlyDeadlines old new

-- ---- telling

-- the first so many of what is told were taken
abbrev pub taking : ℕ → Machine → Machine
taking count m =
    record m { teller = record m.teller { taken = m.teller.taken ++ take count m.teller.told; told = drop count m.teller.told } }

-- what is told is written as far as a buffer reaches, and is taken then, and C is told what is to be done next
pub record TellsInto (old : Machine) (had has : List CfTold × CfTodo) (new : Machine) : Type 0 where
  pub given : AreWritten (told_in (state_in old)) old.teller.told had.0 has.0
  pub between : Machine
  pub says : SaysNext old had.1 has.1 between
  pub takes : new ≡ taking (length had.0) between
