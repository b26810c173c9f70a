-- What threads do together.
use Rattle.std.specs.Prelude.{◌≡◌, ◌≢◌, ℕ, None, List, [], All, map}
use Rattle.std.specs.List.{AllZip}
use Rattle.atomic_table.specs.Seated.{TableId}
use Rattle.atomic_table.specs.declared.shared.Seat.{Seat}
use Rattle.cf_model.specs.Calling.{CallsOf}
use Rattle.cf_request.specs.Lanes.{NothingIsReady}
use Rattle.cf_request.specs.Machines.{Machine}
use Rattle.cf_request.specs.Telling.{IsApart}
use Rattle.crossbeam_utils.specs.Seq.{cell_view}
use Rattle.crossbeam_utils.specs.declared.atomic.seq_cell.Doing.{Doing}
use Rattle.cf_threads.specs.Slips.{IsSlip, slip}
use Rattle.cf_threads.specs.Turns.{AreTurns, jobs_told, stage_taken, weigh}
use Rattle.cf_threads.specs.Works.{HasWorked}
use Rattle.cf_threads.specs.declared.place.Place.{Place}
use Rattle.cf_threads.specs.declared.slips.View.{View}
use Rattle.cf_threads.specs.declared.team.Ended.{Ended}
use Rattle.cf_threads.specs.declared.team.Worked.{Worked}
use Rattle.cf_threads.specs.declared.turn.Turn.{Turn}

abbrev pub Slip : Type 0
Slip = Seat (List ℕ) (Doing (List ℕ) View)

-- the turns that a thread took
abbrev pub turns_of : {F : Type 0} → Worked F → List Turn
turns_of w = (cell_view w.turns.value).mine

-- a thread's slip belongs to these
abbrev pub BelongsTo : TableId → Slip → Type 0
BelongsTo table s = (s.table_id ≡ table) × (s.me.1 ≡ [])

-- the functions have a new slip
abbrev pub IsDealt : {F : Type 0} → TableId → F → F × Slip → Type 0
IsDealt table f job = (job.0 ≡ f) × BelongsTo table job.1 × (cell_view job.1 ≡ slip [])

abbrev pub IsBack : {F : Type 0} → TableId → Ended F → Type 0
IsBack table e = BelongsTo table e.mine × IsSlip (cell_view e.mine)

-- what a thread leaves, once its slip is taken back
pub record IsLeft {F : Type 0} (e : Ended F) (w : Worked F) : Type 0 where
  pub functions : w.functions ≡ e.functions
  pub stopped : w.stopped ≡ e.stopped
  pub turns : w.turns.value ≡ e.mine

-- what a thread has done, which its slip knows
pub record HasEnded {F : Type 0} (calls : CallsOf F) (table : TableId) (job : F × Slip) (e : Ended F) : Type 0 where
  pub back : IsBack table e
  pub worked : HasWorked calls job.0 (cell_view e.mine).mine e.functions e.stopped

-- no thread was refused a step
abbrev pub NoneStopped : {F : Type 0} → List (Worked F) → Type 0
NoneStopped workers = All (λ w. w.stopped ≡ None) workers

-- From the first machine these turns have led to the last, and told no stage twice. Each thread has worked as it should; and however turns are
-- weighed, those of all threads together weigh what these do: each was one thread's, once. If there is a thread, and none was refused a step, no
-- stage is ready at the end.
pub record RanTogether {F : Type 0} (calls : CallsOf F) (place : Place) (start : Machine) (hands : List F) (end : Machine) (workers : List (Worked F)) : Type 0 where
  pub turns : List Turn
  pub are : AreTurns place start turns end
  pub no_stage_twice : IsApart (map stage_taken (jobs_told turns))
  pub worked : AllZip (λ f w. HasWorked calls f (turns_of w) w.functions w.stopped) hands workers
  pub shared : (weight : Turn → ℕ) → weigh (λ (w : Worked F). weigh weight (turns_of w)) workers ≡ weigh weight turns
  pub none : hands ≢ [] → NoneStopped workers → NothingIsReady end.teller place.lane
