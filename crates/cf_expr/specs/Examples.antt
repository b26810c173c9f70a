-- A plain history that ends quiet, and histories that aren't plain, whose outcomes the expressions don't tell.
use Rattle.std.specs.Prelude.{◌≡◌, ◌≢◌, ◌==◌, length, true, Some, None, List, [], ◌∷◌, if◌then◌else◌}
use Rattle.cf_outcome.specs.declared.outcome.Value.TheVariants.{Nil}
use Rattle.cf_outcome.specs.declared.outcome.Outcome.TheVariants.{Fault}
use Rattle.cf_outcome.specs.declared.outcome.Cause.TheVariants.{Thrown}
use Rattle.cf_forms.specs.declared.forms.Form.TheVariants.{Source, Apply, Compose, RunEither}
use Rattle.cf_forms.specs.declared.forms.Answer.TheVariants.{Throw, Link}
use Rattle.cf_forms.specs.declared.forms.Of.TheVariants.{None as NoSource, One}
use Rattle.cf_forms.specs.declared.limits.LimitKind.TheVariants.{Timeout}
use Rattle.cf_forms.specs.Plans.{Planned, IsBuilt, plan_of, with_room}
use Rattle.cf_model.specs.declared.events.Event.{Event}
use Rattle.cf_model.specs.declared.events.Event.TheVariants.{Complete as Completes, Fail as Fails, Claim as Claims, Finish as Finishes, Tick as Ticks, Attach as Attaches}
use Rattle.cf_model.specs.States.{start, outcome_at}
use Rattle.cf_model.specs.Events.{state_after}
use Rattle.cf_forms.specs.Meanings.{Meanings}
use Rattle.cf_expr.specs.Expressions.{expr}
use Rattle.cf_expr.specs.Histories.{IsPlain, IsPlainPlan, IsQuiet, nothing_granted}

-- a source, a compose over it, and an apply over the compose
abbrev pub chain : Planned
chain =
    plan_of (record { form = Source; sources = []; function = None } ∷ record { form = Compose; sources = 0 ∷ []; function = Some 0 } ∷ record { form = Apply; sources = 1 ∷ []; function = Some 1 } ∷ []) []

-- the compose links to the source, and the apply throws
abbrev pub meant : Meanings
meant n args = if n == 0 then Link 0 else Throw 7

-- two callers do the work, and the source is failed too late
abbrev pub worked : List Event
worked = Completes 0 0 Nil ∷ Claims 3 1 ∷ Finishes 3 1 (Link 0) ∷ Claims 2 2 ∷ Finishes 2 2 (Throw 7) ∷ Fails 0 0 9 ∷ []

-- the apply's function answers what it doesn't mean
abbrev pub answered_wrongly : List Event
answered_wrongly = Completes 0 0 Nil ∷ Claims 3 1 ∷ Finishes 3 1 (Link 0) ∷ Claims 2 2 ∷ Finishes 2 2 (Throw 8) ∷ []

-- the chain's source, with room for the two others
abbrev pub seed : Planned
seed = with_room (plan_of (record { form = Source; sources = []; function = None } ∷ []) []) 2

-- the chain grows while it is worked on
abbrev pub grown : List Event
grown = Attaches 1 Compose (One 0) (Some 0) ∷ Completes 0 0 Nil ∷ Claims 3 1 ∷ Finishes 3 1 (Link 0) ∷ Attaches 2 Apply (One 1) (Some 1) ∷ Claims 2 2 ∷ Finishes 2 2 (Throw 7) ∷ []

-- two sources and an either form over them
abbrev pub forked : Planned
forked =
    plan_of (record { form = Source; sources = []; function = None } ∷ record { form = Source; sources = []; function = None } ∷ record { form = RunEither; sources = 0 ∷ 1 ∷ []; function = Some 1 } ∷ []) []

-- the second source fails first
abbrev pub second_first : List Event
second_first = Fails 0 1 4 ∷ Completes 0 0 Nil ∷ []

-- the compose's function isn't called
abbrev pub left_ready : List Event
left_ready = Completes 0 0 Nil ∷ []

-- the apply is settled from outside
abbrev pub settled_from_outside : List Event
settled_from_outside = Fails 0 2 4 ∷ Completes 0 0 Nil ∷ Claims 3 1 ∷ Finishes 3 1 (Link 0) ∷ []

-- no stage, and room for one
abbrev pub nothing_yet : Planned
nothing_yet = with_room (plan_of [] []) 1

-- the source is completed before it is attached, and failed thereafter
abbrev pub too_early : List Event
too_early = Completes 0 0 Nil ∷ Attaches 0 Source NoSource None ∷ Fails 0 0 9 ∷ []

-- a source with a limit, whose moment comes
abbrev pub limited : Planned
limited =
    plan_of (record { form = Source; sources = []; function = None } ∷ []) (record { stage = 0; at = 5; kind = Timeout 0 } ∷ [])

abbrev pub too_late : List Event
too_late = Ticks 0 5 ∷ []

-- The premises of the law of expressions can be met, by a history in which stages settle, and by one in which the plan grows.
pub record PremisesAreMet : Type 0 where
  pub built : IsBuilt chain
  pub plain_plan : IsPlainPlan chain
  pub plain : IsPlain meant nothing_granted (start chain) worked
  pub quiet : IsQuiet (state_after (start chain) worked)
  pub settled : outcome_at (state_after (start chain) worked) 2 ≡ Some (Fault (Thrown 7) true)
  pub expressed : expr chain worked meant 2 ≡ Some (Fault (Thrown 7) true)
  pub grown_stages : length (state_after (start seed) grown).plan.stages ≡ 3
  pub grown_built : IsBuilt (state_after (start seed) grown).plan
  pub grown_plain_plan : IsPlainPlan (state_after (start seed) grown).plan
  pub grown_plain : IsPlain meant nothing_granted (start seed) grown
  pub grown_quiet : IsQuiet (state_after (start seed) grown)
  pub grown_settled : outcome_at (state_after (start seed) grown) 2 ≡ Some (Fault (Thrown 7) true)
  pub grown_expressed : expr (state_after (start seed) grown).plan grown meant 2 ≡ Some (Fault (Thrown 7) true)

-- Without any one of its premises on plans and histories the law would be false: plain answers, plain forms, a quiet end,
-- nothing but sources settled from outside, none before it is attached, and no limit whose moment comes.
pub record PremisesAreNeeded : Type 0 where
  pub wrong_answer_quiet : IsQuiet (state_after (start chain) answered_wrongly)
  pub wrong_answer : outcome_at (state_after (start chain) answered_wrongly) 2 ≢ expr chain answered_wrongly meant 2
  pub either_plain : IsPlain meant nothing_granted (start forked) second_first
  pub either_quiet : IsQuiet (state_after (start forked) second_first)
  pub either : outcome_at (state_after (start forked) second_first) 2 ≢ expr forked second_first meant 2
  pub ready_plain : IsPlain meant nothing_granted (start chain) left_ready
  pub ready : outcome_at (state_after (start chain) left_ready) 2 ≢ expr chain left_ready meant 2
  pub outside_quiet : IsQuiet (state_after (start chain) settled_from_outside)
  pub outside : outcome_at (state_after (start chain) settled_from_outside) 2 ≢ expr chain settled_from_outside meant 2
  pub early_plain_plan : IsPlainPlan (state_after (start nothing_yet) too_early).plan
  pub early_quiet : IsQuiet (state_after (start nothing_yet) too_early)
  pub early : outcome_at (state_after (start nothing_yet) too_early) 0 ≢ expr (state_after (start nothing_yet) too_early).plan too_early meant 0
  pub limit_plain_plan : IsPlainPlan limited
  pub limit_quiet : IsQuiet (state_after (start limited) too_late)
  pub limit : outcome_at (state_after (start limited) too_late) 0 ≢ expr limited too_late meant 0
