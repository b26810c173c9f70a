-- Work: the functions of ready stages are called, the lowest stage first.
use Rattle.std.specs.Prelude.{◌≡◌, ℕ, ◌+◌, zero, suc, length}
use Rattle.std.specs.Option.{option_map_or}
use Rattle.cf_forms.specs.Meanings.{Meanings, stage_answer}
use Rattle.cf_model.specs.States.{State, lowest_ready_of}
use Rattle.cf_model.specs.declared.replies.Claimed.TheVariants.{Granted}
use Rattle.cf_model.specs.declared.events.Event.TheVariants.{Claim as Claims, Finish as Finishes}
use Rattle.cf_model.specs.declared.events.Reply.{Reply}
use Rattle.cf_model.specs.declared.events.Reply.TheVariants.{Claim as ToldClaim}
use Rattle.cf_model.specs.Calling.{AreStateless, CallsOf}
use Rattle.cf_model.specs.Events.{answered}

-- the stage i is finished by a caller with what its function answers to the arguments that a claim granted
abbrev pub finished_after : ℕ → Meanings → ℕ → Reply × State → State
finished_after who meanings i (ToldClaim (Granted args), s) =
    (answered s (Finishes who i (stage_answer meanings s.plan.stages i args))).1
finished_after who meanings i (reply, s) = s

-- the stage i is claimed by a caller and finished
abbrev pub worked_once : ℕ → Meanings → State → ℕ → State
worked_once who meanings s i = finished_after who meanings i (answered s (Claims who i))

-- one more turn
abbrev pub and_one : ℕ × State → ℕ × State
and_one done = (done.0 + 1, done.1)

-- while a stage is ready, the lowest is claimed and finished, but at most so many times; and how many times it was
abbrev pub working : ℕ → ℕ → Meanings → State → ℕ × State
working zero who meanings s = (0, s)
working (suc most) who meanings s =
    option_map_or (λ i. and_one (working most who meanings (worked_once who meanings s i))) (lowest_ready_of s) (0, s)

-- Work until nothing is ready. Each turn claims a stage, and none is claimed twice, so as many turns as there are stages
-- are enough.
abbrev pub worked : ℕ → Meanings → State → ℕ × State
worked who meanings s = working (length s.plan.stages) who meanings s

-- Where the functions remember nothing, work calls as many, and leads to the state, as their meanings say.
abbrev pub WorksAsMeant : {M : Type 0} → CallsOf M → ℕ → M → State → ℕ → State → Type 0
WorksAsMeant calls who m s count t =
    (meanings : Meanings) → AreStateless calls m meanings → (count, t) ≡ worked who meanings s
