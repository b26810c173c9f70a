-- What a request behind a handle is asked.
use Rattle.std.specs.Prelude.{◌≡◌, ◌⊎◌, ℕ, ◌<◌, ◌≤◌, Bool, None, Result, Ok, Err, List, [], is_some}
use Rattle.cf_model.specs.declared.events.Reply.{Reply}
use Rattle.cf_request.specs.Deadlines.{Forgets, IsNextDue, NoneOpen}
use Rattle.cf_request.specs.Growing.{Grows, IsNoGrowth}
use Rattle.cf_request.specs.Lanes.{ready_in}
use Rattle.cf_request.specs.Machines.{AppliesWord, CancelsAll, GoesOn, IsNoCancel, IsNoDeadline, IsNoFollow, IsNoNext, IsNoPass, IsNoWord, Machine, OnlyDeadlines, OnlyFinds, Passes, Refuses, Restarts, SetsDeadline, SetsFollow, free_in, open_in, state_in}
use Rattle.cf_request.specs.declared.deadlines.Deadline.{Deadline}
use Rattle.cf_request.specs.declared.faults.MachineFault.{MachineFault}
use Rattle.cf_request.specs.declared.faults.MachineFault.TheVariants as faults
use Rattle.cf_request.specs.declared.machine.Next.{Next}
use Rattle.cf_c_handles.specs.LedgerSteps.{late_number, step_code, taken_code, task_with}
use Rattle.cf_c_handles.specs.Ledgers.{word_code}
use Rattle.cf_c_handles.specs.Replies.{as_reply}
use Rattle.cf_c_handles.specs.Requests.{as_deadline}
use Rattle.cf_c_handles.specs.Tasks.{held_by}
use Rattle.cf_c_handles.specs.Todos.{SaysNext, TellsInto}
use Rattle.cf_c_handles.specs.declared.code.Code.{Code}
use Rattle.cf_c_handles.specs.declared.code.Code.TheVariants.{NoLane, NoMemory, NoStage, Nothing, PastMoment, Room, WrongKind}
use Rattle.cf_c_handles.specs.declared.handle.object.Object.{Object}
use Rattle.cf_c_handles.specs.declared.handle.object.Object.TheVariants.{Request}
use Rattle.cf_c_handles.specs.declared.values.CfReply.{CfReply}
use Rattle.cf_c_handles.specs.declared.values.request.CfDeadline.{CfDeadline}
use Rattle.cf_c_handles.specs.declared.values.request.CfTodo.{CfTodo}
use Rattle.cf_c_handles.specs.declared.values.request.CfTold.{CfTold}
use Rattle.cf_c_handles.specs.declared.values.task.CfTask.{CfTask}

-- ---- lanes

-- how many lanes there are
abbrev pub lanes_in : Machine → ℕ
lanes_in m = m.teller.lanes.count

-- exactly where a lane isn't there, C is told that, and nothing changes
abbrev pub IfLane : ℕ → Machine → Result (Unit {0}) Code → Object → Type 0 → Type 0 → Type 0
IfLane lane m r new Same Goes = ((lanes_in m ≤ lane) × (r ≡ Err NoLane) × (new ≡ Request m) × Same) ⊎ ((lane < lanes_in m) × Goes)

-- ---- why a call does nothing

abbrev pub machine_code : MachineFault → Code
machine_code faults.NoMemory = NoMemory
machine_code faults.NoStage = NoStage
machine_code faults.Past = PastMoment
machine_code faults.Full = Room

-- a fault is due, and this is its code
pub record IsDueAs {F : Type 0} (code_of : F → Code) (IsDue : F → Type 0) (code : Code) : Type 0 where
  pub why : F
  pub due : IsDue why
  pub is : code ≡ code_of why

-- memory may have been found for words to come, and nothing else has changed
pub record StaysButFinds (old : Machine) (new : Object) : Type 0 where
  pub now : Machine
  pub is : new ≡ Request now
  pub finds : OnlyFinds old now

-- ---- calls that tell stages

-- something is done, and then it is told what is settled and what is next
pub record DoesAndTells (Does : Machine → Machine → Type 0) (old : Machine) (new : Object) (had has : List CfTold × CfTodo) : Type 0 where
  pub between : Machine
  pub now : Machine
  pub does : Does old between
  pub tells : TellsInto between had has now
  pub is : new ≡ Request now

-- it is done, or refused for a fault that is due
abbrev pub TellsAfter : (Machine → Machine → Type 0) → (Machine → MachineFault → Type 0) → Object → List CfTold × CfTodo → Result (Unit {0}) Code → Object → List CfTold × CfTodo → Type 0
TellsAfter Does IsDue (Request m) had (Ok done) new has = DoesAndTells Does m new had has
TellsAfter Does IsDue (Request m) had (Err code) new has = IsDueAs machine_code (IsDue m) code × StaysButFinds m new × (has ≡ had)
TellsAfter Does IsDue held had r new has = (r ≡ Err WrongKind) × (new ≡ held) × (has ≡ had)

abbrev pub FollowsIn : ℕ → ℕ → Object → List CfTold × CfTodo → Result (Unit {0}) Code → Object → List CfTold × CfTodo → Type 0
FollowsIn relay stage = TellsAfter (SetsFollow relay stage) (IsNoFollow relay stage)

abbrev pub PassesIn : ℕ → Object → List CfTold × CfTodo → Result (Unit {0}) Code → Object → List CfTold × CfTodo → Type 0
PassesIn moment = TellsAfter (Passes moment) (IsNoPass moment)

-- why a lane isn't refused: too little memory was found before
abbrev pub IsNoRefusal : Machine → MachineFault → Type 0
IsNoRefusal m faults.NoMemory = free_in m < open_in m
IsNoRefusal m faults.NoStage = ⊥
IsNoRefusal m faults.Past = ⊥
IsNoRefusal m faults.Full = ⊥

abbrev pub RefusesIn : ℕ → ℕ → Object → List CfTold × CfTodo → Result (Unit {0}) Code → Object → List CfTold × CfTodo → Type 0
RefusesIn lane code (Request m) had r new has = IfLane lane m r new (has ≡ had) (TellsAfter (Refuses lane code) IsNoRefusal (Request m) had r new has)
RefusesIn lane code held had r new has = (r ≡ Err WrongKind) × (new ≡ held) × (has ≡ had)

-- all that is open is cancelled, or nothing is
abbrev pub CancelsIn : ℕ → Object → List CfTold × CfTodo → Result (Unit {0}) Code → Object → List CfTold × CfTodo → Type 0
CancelsIn who (Request m) had (Ok done) new has = DoesAndTells (CancelsAll who) m new had has
CancelsIn who (Request m) had (Err code) new has = IsDueAs step_code (IsNoCancel who m) code × StaysButFinds m new × (has ≡ had)
CancelsIn who held had r new has = (r ≡ Err WrongKind) × (new ≡ held) × (has ≡ had)

abbrev pub TellsIn : Object → List CfTold × CfTodo → Result (Unit {0}) Code → Object → List CfTold × CfTodo → Type 0
TellsIn = TellsAfter (λ old new. new ≡ old) (λ m fault. ⊥)

-- ---- words

-- a word is done, and C has its reply
pub record Answers (word lane : ℕ) (old new : Machine) (has : CfReply) : Type 0 where
  pub reply : Reply
  pub applies : AppliesWord word lane old reply new
  pub replied : has ≡ as_reply reply

-- a word is done, and C has its reply and what is told
pub record HasApplied (word lane : ℕ) (old : Machine) (new : Object) (had has : CfReply × List CfTold × CfTodo) : Type 0 where
  pub reply : Reply
  pub between : Machine
  pub now : Machine
  pub applies : AppliesWord word lane old reply between
  pub replied : has.0 ≡ as_reply reply
  pub tells : TellsInto between (had.1, had.2) (has.1, has.2) now
  pub is : new ≡ Request now

-- or the word is refused for a fault that is due
abbrev pub AppliesOrNot : ℕ → ℕ → Machine → CfReply × List CfTold × CfTodo → Result (Unit {0}) Code → Object → CfReply × List CfTold × CfTodo → Type 0
AppliesOrNot word lane m had (Ok done) new has = HasApplied word lane m new had has
AppliesOrNot word lane m had (Err code) new has = IsDueAs word_code (IsNoWord word m) code × StaysButFinds m new × (has ≡ had)

abbrev pub AppliesIn : ℕ → ℕ → Object → CfReply × List CfTold × CfTodo → Result (Unit {0}) Code → Object → CfReply × List CfTold × CfTodo → Type 0
AppliesIn word lane (Request m) had r new has = IfLane lane m r new (has ≡ had) (AppliesOrNot word lane m had r new has)
AppliesIn word lane held had r new has = (r ≡ Err WrongKind) × (new ≡ held) × (has ≡ had)

-- ---- a caller's step

-- what the task held is finished, the next stage of a lane is claimed if there is one, and the task has both
pub record Advances (who lane : ℕ) (old : Machine) (had : CfTask) (claimed : Bool) (new : Machine) (has : CfTask) : Type 0 where
  pub next : Next
  pub goes_on : GoesOn who lane (held_by had) old next new
  pub told : claimed ≡ is_some next.taken
  pub task : has ≡ task_with (record had { finished = late_number next.finish }) next.taken

-- what was held is finished, the next stage of the lane is claimed, and C has both and what is told
pub record HasGoneOn (who lane : ℕ) (old : Machine) (r : Result (Unit {0}) Code) (new : Object) (had has : CfTask × List CfTold × CfTodo) : Type 0 where
  pub next : Next
  pub between : Machine
  pub now : Machine
  pub goes_on : GoesOn who lane (held_by had.0) old next between
  pub told : r ≡ taken_code next.taken
  pub task : has.0 ≡ task_with (record had.0 { finished = late_number next.finish }) next.taken
  pub tells : TellsInto between (had.1, had.2) (has.1, has.2) now
  pub is : new ≡ Request now

-- nothing is done
pub record IsNotGone (who lane : ℕ) (old : Machine) (r : Result (Unit {0}) Code) (new : Object) (had has : CfTask × List CfTold × CfTodo) : Type 0 where
  pub code : Code
  pub is : r ≡ Err code
  pub refused : IsDueAs step_code (IsNoNext who lane (held_by had.0) old) code
  pub stays : StaysButFinds old new
  pub same : has ≡ had

-- it is done, also if nothing was claimed, or refused for a fault that is due
abbrev pub GoesOnOrNot : ℕ → ℕ → Machine → CfTask × List CfTold × CfTodo → Result (Unit {0}) Code → Object → CfTask × List CfTold × CfTodo → Type 0
GoesOnOrNot who lane m had r new has = HasGoneOn who lane m r new had has ⊎ IsNotGone who lane m r new had has

-- the caller and its lane are there, and there is nothing to finish, to give and to tell
pub record Rests (who lane : ℕ) (m : Machine) (task : CfTask) : Type 0 where
  pub none_held : task.held ≡ 0
  pub caller : who ≤ 63
  pub there : lane < lanes_in m
  pub none_ready : ready_in m.teller lane ≡ 0
  pub none_told : m.teller.told ≡ []

-- the step that does nothing: the machine is as it was, and C is told that there is nothing to tell and nothing new
pub record IsIdleStep (who lane : ℕ) (m : Machine) (had : CfTask × CfTodo) (r : Result (Unit {0}) Code) (has : CfTask × CfTodo) : Type 0 where
  pub next : Next
  pub goes_on : GoesOn who lane None m next m
  pub code : r ≡ taken_code next.taken
  pub task : has.0 ≡ task_with (record had.0 { finished = late_number next.finish }) next.taken
  pub todo : has.1 ≡ record had.1 { told = 0; news = 0 }

-- exactly where there is nothing to do, nothing changes, and the next moment and what is ready aren't written
abbrev pub GoesOnOrRests : ℕ → ℕ → Machine → CfTask × List CfTold × CfTodo → Result (Unit {0}) Code → Object → CfTask × List CfTold × CfTodo → Type 0
GoesOnOrRests who lane m had r new has =
    (Rests who lane m had.0 × IsIdleStep who lane m (had.0, had.2) r (has.0, has.2) × (new ≡ Request m) × (has.1 ≡ had.1))
    ⊎ ((¬ Rests who lane m had.0) × GoesOnOrNot who lane m had r new has)

abbrev pub GoesOnIn : ℕ → ℕ → Object → CfTask × List CfTold × CfTodo → Result (Unit {0}) Code → Object → CfTask × List CfTold × CfTodo → Type 0
GoesOnIn who lane (Request m) had r new has = IfLane lane m r new (has ≡ had) (GoesOnOrRests who lane m had r new has)
GoesOnIn who lane held had r new has = (r ≡ Err WrongKind) × (new ≡ held) × (has ≡ had)

abbrev pub RestsIn : ℕ → ℕ → Object → CfTask → Type 0
RestsIn who lane (Request m) task = Rests who lane m task
RestsIn who lane held task = ⊥

-- ---- calls that tell no stages

-- a deadline is set, and C is told what is next
pub record HasDeadline (d : Deadline) (old : Machine) (new : Object) (had has : CfTodo) : Type 0 where
  pub between : Machine
  pub now : Machine
  pub sets : SetsDeadline d old between
  pub says : SaysNext between had has now
  pub is : new ≡ Request now

abbrev pub SetsDeadlineIn : Deadline → Object → CfTodo → Result (Unit {0}) Code → Object → CfTodo → Type 0
SetsDeadlineIn d (Request m) had (Ok done) new has = HasDeadline d m new had has
SetsDeadlineIn d (Request m) had (Err code) new has = IsDueAs machine_code (IsNoDeadline d m) code × (new ≡ Request m) × (has ≡ had)
SetsDeadlineIn d held had r new has = (r ≡ Err WrongKind) × (new ≡ held) × (has ≡ had)

-- there is room for more stages, or it is refused for a fault that is due
abbrev pub GrowsIn : Object → Result (Unit {0}) Code → Object → Type 0
GrowsIn (Request m) (Ok done) new = (now : Machine) × Grows m now × (new ≡ Request now)
GrowsIn (Request m) (Err code) new = IsDueAs machine_code (IsNoGrowth m.teller.ledger) code × (new ≡ Request m)
GrowsIn held r new = (r ≡ Err WrongKind) × (new ≡ held)

-- it is as it was opened
abbrev pub RestartsIn : Object → Result (Unit {0}) Code → Object → Type 0
RestartsIn (Request m) r new = (r ≡ Ok tt) × ((now : Machine) × Restarts m now × (new ≡ Request now))
RestartsIn held r new = (r ≡ Err WrongKind) × (new ≡ held)

-- a request is asked this, and stays
abbrev pub OfRequest : {X : Type 0} → (Machine → Result X Code → Type 0) → Object → Result X Code → Object → Type 0
OfRequest Tells (Request m) r new = Tells m r × (new ≡ Request m)
OfRequest Tells held r new = (r ≡ Err WrongKind) × (new ≡ held)

abbrev pub TellsReadyOf : ℕ → Machine → Result ℕ Code → Type 0
TellsReadyOf lane m (Ok n) = (lane < lanes_in m) × (n ≡ ready_in m.teller lane)
TellsReadyOf lane m (Err code) = (lanes_in m ≤ lane) × (code ≡ NoLane)

-- the deadline that comes next, from the last moment on
pub record IsNextTo (m : Machine) (d : CfDeadline) : Type 0 where
  pub deadline : Deadline
  pub next : IsNextDue m.moment m.deadlines (state_in m).stages deadline
  pub is : d ≡ as_deadline deadline

abbrev pub TellsNextDeadline : Machine → Result CfDeadline Code → Type 0
TellsNextDeadline m (Ok d) = IsNextTo m d
TellsNextDeadline m (Err code) = (code ≡ Nothing) × NoneOpen m.deadlines (state_in m).stages

-- deadlines of settled stages may be forgotten, and nothing else has changed
pub record StaysButForgets (old : Machine) (new : Object) : Type 0 where
  pub now : Machine
  pub is : new ≡ Request now
  pub forgets : Forgets (state_in old).stages old.deadlines now.deadlines
  pub rest : OnlyDeadlines old now

abbrev pub TellsNextIn : Object → Result CfDeadline Code → Object → Type 0
TellsNextIn (Request m) r new = TellsNextDeadline m r × StaysButForgets m new
TellsNextIn held r new = (r ≡ Err WrongKind) × (new ≡ held)
