-- What the notes of a row say of its stages.
use Rattle.std.specs.Prelude.{◌≡◌, ℕ, ◌+◌, ◌<◌, ◌==◌, ◌&&◌, Bool, true, false, not, All, IfSome, Option, Some, None, List, [], ◌∷◌, ◌++◌, if◌then◌else◌, length, nat_lt, option_and_then, slice_get, slice_set}
use Rattle.std.specs.Option.{option_map_or}
use Rattle.cf_forms.specs.declared.forms.Answer.{Answer}
use Rattle.cf_forms.specs.declared.forms.Answer.TheVariants.{Link}
use Rattle.cf_forms.specs.declared.forms.Form.{Form}
use Rattle.cf_forms.specs.Forms.{composes}
use Rattle.cf_forms.specs.Plans.{Planned, PlannedStage}
use Rattle.cf_model.specs.declared.events.Event.{Event}
use Rattle.cf_model.specs.declared.events.Event.TheVariants.{Complete as Completes, Fail as Fails, FailAs as FailsAs, Cancel as Cancels, Claim as Claims, Finish as Finishes, Tick as Ticks, Attach as Attaches}
use Rattle.cf_model.specs.declared.events.Reply.{Reply}
use Rattle.cf_model.specs.declared.events.Reply.TheVariants.{Flag as ToldFlag, Finish as ToldFinish, Attach as ToldAttach}
use Rattle.cf_model.specs.declared.replies.Finished.TheVariants.{Won}
use Rattle.cf_model.specs.declared.replies.Attached.TheVariants.{At}
use Rattle.cf_model.specs.States.{State, start}
use Rattle.cf_model.specs.Events.{answered, state_after}
use Rattle.cf_notes.specs.declared.note.Note.{Note}
use Rattle.cf_notes.specs.declared.note.Note.TheVariants.{Calls, Tries, Composes, Gives, Timer as Times, Abandons}
use Rattle.cf_notes.specs.declared.noted.Noted.{Noted}
use Rattle.cf_notes.specs.declared.noted.Timer.{Timer}

-- ---- a stage

-- a stage with this function, of which nothing else was said
abbrev pub with_function : Option ℕ → Noted
with_function function =
    record { function = function; tries = None; promise = None; given = None; timer = None; abandoned = None }

-- the function of stage i, the promise that it composes, the stage that it was given as a promise, and its timer
abbrev pub function_of : List Noted → ℕ → Option ℕ
function_of stages i = option_and_then (λ (n : Noted). n.function) (slice_get stages i)

abbrev pub promise_of : List Noted → ℕ → Option ℕ
promise_of stages i = option_and_then (λ (n : Noted). n.promise) (slice_get stages i)

abbrev pub given_of : List Noted → ℕ → Option ℕ
given_of stages i = option_and_then (λ (n : Noted). n.given) (slice_get stages i)

abbrev pub timer_of : List Noted → ℕ → Option Timer
timer_of stages i = option_and_then (λ (n : Noted). n.timer) (slice_get stages i)

-- one that tries a stage again, which has this function
abbrev pub with_try : ℕ → Option ℕ → Noted
with_try of None = with_function (Some 0)
with_try of (Some function) = record (with_function (Some function)) { tries = Some of }

-- one that composes this promise
abbrev pub with_promise : ℕ → ℕ → Noted
with_promise function promise = record (with_function (Some function)) { promise = Some promise }

-- What a note says of a stage with a function that comes behind these. The function of a stage that composes is known only
-- with its promise, and no other stage has a promise.
abbrev pub called_by : List Noted → Form → Note → Noted
called_by stages form (Calls function) = with_function (Some (if composes form then 0 else function))
called_by stages form (Tries of) = if composes form then with_function (Some 0) else with_try of (function_of stages of)
called_by stages form (Composes function promise) =
    if composes form && nat_lt promise (length stages) then with_promise function promise else with_function (Some 0)
called_by stages form note = with_function (Some 0)

-- what it says of a stage that comes behind these, with a function or without one: a source has none, whatever the note says
abbrev pub noted_as : List Noted → Form → Option ℕ → Note → Noted
noted_as stages form None note = with_function None
noted_as stages form (Some number) note = called_by stages form note

-- ---- an entry

-- stage i is changed, if it is there
abbrev pub changed_at : List Noted → ℕ → (Noted → Noted) → List Noted
changed_at stages i change = option_map_or (λ (n : Noted). slice_set stages i (change n)) (slice_get stages i) stages

abbrev pub attached_by : List Noted → Reply → Noted → List Noted
attached_by stages (ToldAttach (At i)) new = stages ++ new ∷ []
attached_by stages reply new = stages

-- the stage composes this promise, and the other stage is there, and isn't the promise
abbrev pub is_given : List Noted → ℕ → ℕ → ℕ → Bool
is_given stages i promise given =
    option_map_or (λ p. p == promise) (promise_of stages i) false && nat_lt given (length stages) && not (given == promise)

abbrev pub given_to : List Noted → ℕ → Answer → Note → List Noted
given_to stages i (Link promise) (Gives given) =
    if is_given stages i promise given
    then changed_at stages promise (λ n. record n { given = Some given })
    else stages
given_to stages i answer note = stages

abbrev pub finished_by : List Noted → Reply → ℕ → Answer → Note → List Noted
finished_by stages (ToldFinish Won) i answer note = given_to stages i answer note
finished_by stages reply i answer note = stages

abbrev pub failed_by : List Noted → Reply → ℕ → ℕ → Note → List Noted
failed_by stages (ToldFlag true) i code Abandons = changed_at stages i (λ n. record n { abandoned = Some code })
failed_by stages reply i code note = stages

abbrev pub timed_by : List Noted → ℕ → Note → List Noted
timed_by stages place (Times i moment gives) =
    changed_at stages i (λ n. record n { timer = Some (record { moment = moment; gives = gives; place = place }) })
timed_by stages place note = stages

-- What is said of the stages behind an entry: its place counted from 1, its event with the reply, and its note.
abbrev pub noted_by : List Noted → ℕ → Event → Reply → Note → List Noted
noted_by stages place (Attaches who form of function) reply note =
    attached_by stages reply (noted_as stages form function note)
noted_by stages place (Finishes who i answer) reply note = finished_by stages reply i answer note
noted_by stages place (Fails who i code) reply note = failed_by stages reply i code note
noted_by stages place (Ticks who now) reply note = timed_by stages place note
noted_by stages place (Completes who i v) reply note = stages
noted_by stages place (FailsAs who i failure) reply note = stages
noted_by stages place (Cancels who i) reply note = stages
noted_by stages place (Claims who i) reply note = stages

-- how many stages an entry adds
abbrev pub attached_count : Reply → ℕ
attached_count (ToldAttach (At i)) = 1
attached_count reply = 0

abbrev pub added_by : Event → Reply → ℕ
added_by (Attaches who form of function) reply = attached_count reply
added_by e reply = 0

-- ---- a row

-- what the notes of a plan's stages say, behind these: a planned stage is noted as one that is attached
abbrev pub noted_plan : List Noted → List PlannedStage → List Note → List Noted
noted_plan stages (s ∷ plan) (note ∷ notes) = noted_plan (stages ++ noted_as stages s.form s.function note ∷ []) plan notes
noted_plan stages plan notes = stages

-- what is said behind these events, from a state on; so many entries stand before them
abbrev pub noted_along : List Noted → State → ℕ → List Event → List Note → List Noted
noted_along stages s count (e ∷ events) (note ∷ notes) =
    let reply = answered s e in
    noted_along (noted_by stages (count + 1) e reply.0 note) reply.1 (count + 1) events notes
noted_along stages s count events notes = stages

-- ---- what is always so

-- the stages that are named are among so many
pub record NamesStages (count : ℕ) (n : Noted) : Type 0 where
  pub tries : IfSome n.tries (λ i. i < count)
  pub promise : IfSome n.promise (λ i. i < count)
  pub given : IfSome n.given (λ i. i < count)

-- as many entries as stages, each of which names only these
pub record AreNotes (count : ℕ) (stages : List Noted) : Type 0 where
  pub each_stage : length stages ≡ count
  pub names : All (NamesStages count) stages

-- whatever notes stand beside a plan's stages and beside the entries of a row, they come to one entry for each stage of the graph behind
-- these, and each names only stages that are there
abbrev pub NotesNameStages : Type 0
NotesNameStages =
    (plan : Planned) (first : List Note) (events : List Event) (notes : List Note) → length first ≡ length plan.stages → length notes ≡ length events →
    AreNotes (length (state_after (start plan) events).plan.stages)
    (noted_along (noted_plan [] plan.stages first) (start plan) 0 events notes)
