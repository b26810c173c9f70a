-- What is known of a script's stages before a step, whatever their functions answer, and which steps then never do anything.
use Rattle.std.specs.Prelude.{ℕ, ◌+◌, ◌-◌, ◌*◌, ◌%◌, ◌^◌, Bool, true, ◌&&◌, ◌==◌, nat_lt, nat_le, if◌then◌else◌, Option, None, Some, is_some, is_none, unwrap_or, option_map, slice_get, slice_set, List, [], ◌∷◌, ◌++◌, map, bit_and, bit_or}
use Rattle.std.specs.Int.{bit_not, w64}
use Rattle.std.specs.List.{list_any}
use Rattle.cf_forms.specs.declared.limits.Limit.{Limit}
use Rattle.cf_forms.specs.Plans.{PlannedStage}
use Rattle.cf_model.specs.declared.events.Event.{Event}
use Rattle.cf_model.specs.declared.events.Event.TheVariants.{Complete as Completes, Fail as Fails, FailAs as FailsAs, Cancel as Cancels, Claim as Claims, Finish as Finishes, Tick as Ticks, Attach as Attaches}
use Rattle.cf_script_reading.specs.Scripts.{Script}
use Rattle.cf_script_reading.specs.declared.script.Step.{Step}
use Rattle.cf_script_reading.specs.declared.script.Step.TheVariants.{Does, Work, Nudge}
use Rattle.cf_explain.specs.declared.idle.StageSoFar.{StageSoFar}
use Rattle.cf_explain.specs.declared.idle.RunSoFar.{RunSoFar}
use Rattle.cf_explain.specs.declared.place.Area.TheVariants as areas
use Rattle.cf_explain.specs.declared.remark.Idle.{Idle}
use Rattle.cf_explain.specs.declared.remark.Idle.TheVariants.{NoFunction, Settled, NotClaimed, NoWork, NoRoom, NoTurn}
use Rattle.cf_explain.specs.declared.remark.Remark.{Remark}
use Rattle.cf_explain.specs.declared.remark.Remark.TheVariants.{Idle as NeverDoes}
use Rattle.cf_explain.specs.Idles.{not_later}
use Rattle.cf_explain.specs.Places.{place_of}

-- what is known of each stage, for how many more there is room, and the step of the last tick that wasn't past, with its moment
pub record Sight : Type 0 where
  pub stages : List StageSoFar
  pub room : ℕ
  pub ticked : Option (ℕ × ℕ)

abbrev pub sight_of : RunSoFar → Sight
sight_of seen = record { stages = seen.stages.items; room = seen.room; ticked = seen.ticked }

-- ---- what is known of a stage

-- a stage that nobody has settled or claimed
abbrev pub untouched : Bool → StageSoFar
untouched called = record { called = called; settled = None; claims = 0 }

-- of one that isn't there, that it may have a function
abbrev pub known_at : List StageSoFar → ℕ → StageSoFar
known_at stages i = unwrap_or (slice_get stages i) (untouched true)

-- it is settled since step k at the latest
abbrev pub settled_since : ℕ → StageSoFar → StageSoFar
settled_since k known = record known { settled = Some (unwrap_or known.settled k) }

-- the bit of a caller
abbrev pub bit_of : ℕ → ℕ
bit_of who = (1 * 2 ^ (who % 64)) % 2 ^ 64

-- a caller may have claimed it, if it has a function and isn't settled
abbrev pub claimed_by : ℕ → StageSoFar → StageSoFar
claimed_by who known = if known.called && is_none known.settled then record known { claims = bit_or known.claims (bit_of who) } else known

-- a caller hasn't claimed it any more
abbrev pub finished_by : ℕ → StageSoFar → StageSoFar
finished_by who known = record known { claims = bit_and known.claims (bit_not w64 (bit_of who)) }

-- ---- what is known once a step is done

-- stage i is so, if it is there, and all others are as they were
abbrev pub put_at : ℕ → StageSoFar → Sight → Sight
put_at i known s = record s { stages = slice_set s.stages i known }

abbrev pub settled_at : ℕ → ℕ → Sight → Sight
settled_at i k s = put_at i (settled_since k (known_at s.stages i)) s

abbrev pub claimed_at : ℕ → ℕ → Sight → Sight
claimed_at i who s = put_at i (claimed_by who (known_at s.stages i)) s

abbrev pub finished_at : ℕ → ℕ → Sight → Sight
finished_at i who s = put_at i (finished_by who (known_at s.stages i)) s

-- the stages of the limits up to this moment are settled
abbrev pub fired_to : ℕ → ℕ → List Limit → Sight → Sight
fired_to now k [] s = s
fired_to now k (l ∷ limits) s = fired_to now k limits (if nat_le l.at now then settled_at l.stage k s else s)

-- the tick of step k, where this says why it does nothing, if so
abbrev pub ticked_by : Option Idle → List Limit → ℕ → ℕ → Sight → Sight
ticked_by (Some why) limits now k s = s
ticked_by None limits now k s = fired_to now k limits (record s { ticked = Some (k, now) })

-- a stage more, if there is room
abbrev pub attached_to : Bool → Sight → Sight
attached_to called s = if s.room == 0 then s else record s { stages = s.stages ++ untouched called ∷ []; room = s.room - 1 }

-- the event of step k
abbrev pub seen_after : List Limit → Event → ℕ → Sight → Sight
seen_after limits (Completes who i v) k s = settled_at i k s
seen_after limits (Fails who i code) k s = settled_at i k s
seen_after limits (FailsAs who i failure) k s = settled_at i k s
seen_after limits (Cancels who i) k s = settled_at i k s
seen_after limits (Claims who i) k s = claimed_at i who s
seen_after limits (Finishes who i answer) k s = finished_at i who s
seen_after limits (Ticks who moment) k s = ticked_by (not_later s.ticked moment) limits moment k s
seen_after limits (Attaches who form of function) k s = attached_to (is_some function) s

abbrev pub seen_by : List Limit → Step → ℕ → Sight → Sight
seen_by limits (Does event) k s = seen_after limits event k s
seen_by limits step k s = s

-- ---- why a step never does anything, if it is known not to

abbrev pub since : StageSoFar → Option Idle
since known = option_map Settled known.settled

abbrev pub idle_claim : StageSoFar → Option Idle
idle_claim known = if known.called then since known else Some NoFunction

abbrev pub unclaimed : ℕ → StageSoFar → Bool
unclaimed who known = bit_and known.claims (bit_of who) == 0

abbrev pub idle_finish : ℕ → StageSoFar → Option Idle
idle_finish who known = if unclaimed who known then Some NotClaimed else None

abbrev pub idle_event : Sight → Event → Option Idle
idle_event s (Completes who i v) = since (known_at s.stages i)
idle_event s (Fails who i code) = since (known_at s.stages i)
idle_event s (FailsAs who i failure) = since (known_at s.stages i)
idle_event s (Cancels who i) = since (known_at s.stages i)
idle_event s (Claims who i) = idle_claim (known_at s.stages i)
idle_event s (Finishes who i answer) = idle_finish who (known_at s.stages i)
idle_event s (Ticks who moment) = not_later s.ticked moment
idle_event s (Attaches who form of function) = if s.room == 0 then Some NoRoom else None

-- whether some stage has a function
abbrev pub is_any_called : List StageSoFar → Bool
is_any_called stages = list_any (λ (known : StageSoFar). known.called) stages

abbrev pub idle_by : Sight → Step → Option Idle
idle_by s (Does event) = idle_event s event
idle_by s Work = if is_any_called s.stages then None else Some NoWork
idle_by s (Nudge turns) = if turns == 0 then Some NoTurn else None
idle_by s step = None

-- ---- what is remarked of steps

abbrev pub idle_remarks : ℕ → Option Idle → List Remark
idle_remarks k None = []
idle_remarks k (Some why) = NeverDoes (place_of (areas.Step k)) why ∷ []

-- of these steps, which are numbered from k on, as far as there is a number for them
abbrev pub idles_from : List Limit → Sight → ℕ → List Step → List Remark
idles_from limits s k [] = []
idles_from limits s k (step ∷ steps) =
    if nat_lt k 4294967296 then idle_remarks k (idle_by s step) ++ idles_from limits (seen_by limits step k s) (k + 1) steps else []

-- what is known of a plan's stages before anything is done
abbrev pub known_of : PlannedStage → StageSoFar
known_of stage = untouched (is_some stage.function)

-- what is remarked of a script's steps
abbrev pub idles : Script → List Remark
idles s = idles_from s.plan.limits (record { stages = map known_of s.plan.stages; room = s.room; ticked = None }) 0 s.steps
