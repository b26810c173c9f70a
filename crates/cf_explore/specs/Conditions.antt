-- What is asked of situations.
use Rattle.std.specs.Prelude.{ℕ, ◌+◌, ◌==◌, Bool, true, false, not, ◌&&◌, Option, None, is_some, is_none, nat_le, nat_lt, slice_get, unwrap_or, if◌then◌else◌}
use Rattle.std.proofs.Common.{zero, suc}
use Rattle.std.specs.List.{list_all}
use Rattle.std.specs.Option.{option_map_or}
use Rattle.std.specs.Ordering.{int_eq}
use Rattle.std.specs.Prelude.{length}
use Rattle.cf_outcome.specs.declared.outcome.Value.{Value}
use Rattle.cf_outcome.specs.declared.outcome.Value.TheVariants.{Nil, Int}
use Rattle.cf_outcome.specs.declared.outcome.Cause.{Cause}
use Rattle.cf_outcome.specs.declared.outcome.Cause.TheVariants as causes
use Rattle.cf_outcome.specs.declared.outcome.Outcome.{Outcome}
use Rattle.cf_outcome.specs.declared.outcome.Outcome.TheVariants.{Value as Gives, Fault}
use Rattle.cf_outcome.specs.Outcomes.{is_cancelled, is_exceptional}
use Rattle.cf_forms.specs.Plans.{function_at}
use Rattle.cf_model.specs.States.{outcome_at}
use Rattle.cf_explore.specs.declared.condition.Is.{Is}
use Rattle.cf_explore.specs.declared.condition.Is.TheVariants as is
use Rattle.cf_explore.specs.declared.condition.Fact.{Fact}
use Rattle.cf_explore.specs.declared.condition.Fact.TheVariants as facts
use Rattle.cf_explore.specs.declared.condition.When.{When}
use Rattle.cf_explore.specs.declared.condition.When.TheVariants as whens
use Rattle.cf_explore.specs.declared.condition.How.{How}
use Rattle.cf_explore.specs.declared.condition.How.TheVariants as hows
use Rattle.cf_explore.specs.declared.condition.Condition.{Condition}
use Rattle.cf_explore.specs.Programs.{Programmed, Situated, place_at, step_of}
use Rattle.cf_explore.specs.Moves.{is_end}

-- whether two values, and two causes, are the same
abbrev pub same_value : Value → Value → Bool
same_value Nil Nil = true
same_value (Int a) (Int b) = int_eq a b
same_value v w = false

abbrev pub same_cause : Cause → Cause → Bool
same_cause (causes.Thrown a) (causes.Thrown b) = a == b
same_cause causes.Cancelled causes.Cancelled = true
same_cause (causes.TimedOut a) (causes.TimedOut b) = a == b
same_cause (causes.BadAnswer a) (causes.BadAnswer b) = a == b
same_cause a b = false

-- whether a settled stage's outcome is so
abbrev pub gives_value : Value → Outcome → Bool
gives_value v (Gives w) = same_value v w
gives_value v (Fault cause wrapped) = false

abbrev pub has_cause : Cause → Outcome → Bool
has_cause cause (Gives w) = false
has_cause cause (Fault other wrapped) = same_cause cause other

-- whether a stage with this outcome, or none, is so
abbrev pub is_so : Is → Option Outcome → Bool
is_so is.Pending o = is_none o
is_so is.Settled o = is_some o
is_so (is.Value v) o = option_map_or (gives_value v) o false
is_so is.AnyValue o = option_map_or (λ o. not (is_exceptional o)) o false
is_so (is.Fault cause) o = option_map_or (has_cause cause) o false
is_so is.AnyFault o = option_map_or is_exceptional o false
is_so is.Cancelled o = option_map_or is_cancelled o false

-- whether stage i's function was called
abbrev pub was_called : Situated → ℕ → Bool
was_called s i = unwrap_or (slice_get s.called i) false

-- of the first n stages, for how many function f was called
abbrev pub is_call_of : Situated → ℕ → ℕ → Bool
is_call_of s f i = was_called s i && option_map_or (λ g. g == f) (function_at s.state.plan.stages i) false

abbrev pub calls_among : Situated → ℕ → ℕ → ℕ
calls_among s f zero = 0
calls_among s f (suc i) = calls_among s f i + (if is_call_of s f i then 1 else 0)

abbrev pub calls_of : Situated → ℕ → ℕ
calls_of s f = calls_among s f (length s.state.plan.stages)

-- the outcome of a stage, none where it isn't there
abbrev pub outcome_if_there : Situated → ℕ → Option Outcome
outcome_if_there s i = if nat_lt i (length s.state.plan.stages) then outcome_at s.state i else None

-- whether a fact holds in a situation
abbrev pub is_fact : Situated → Fact → Bool
is_fact s (facts.Stage i what) = is_so what (outcome_if_there s i)
is_fact s (facts.Called i) = was_called s i
is_fact s (facts.NotCalled i) = not (was_called s i)
is_fact s (facts.Exactly f n) = calls_of s f == n
is_fact s (facts.AtLeast f n) = nat_le n (calls_of s f)

-- whether a condition is looked at in a situation
abbrev pub is_time : Programmed → Situated → When → Bool
is_time p s whens.End = is_end p s
is_time p s (whens.Before c j) = is_some (step_of p s c) && (place_at s c).at == j

-- Whether a situation decides a condition: it shows that `never` or `always` doesn't hold, or that `possible` does.
abbrev pub decides_by : How → Bool → Bool
decides_by hows.Always all = not all
decides_by how all = all

unfoldable pub decides : Programmed → Condition → Situated → Bool
decides p condition s = is_time p s condition.when && decides_by condition.how (list_all (is_fact s) condition.facts.items)
