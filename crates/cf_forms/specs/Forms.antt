-- What a stage takes from its sources, and where the answer of its function lands.
use Rattle.std.specs.Prelude.{ℕ, Bool, true, false, ◌&&◌, Option, Some, None, List, [], ◌∷◌, is_some, nat_lt, if◌then◌else◌}
use Rattle.std.specs.List.{list_all}
use Rattle.cf_outcome.specs.declared.outcome.Value.{Value}
use Rattle.cf_outcome.specs.declared.outcome.Value.TheVariants.{Nil}
use Rattle.cf_outcome.specs.declared.outcome.Cause.TheVariants.{Thrown, BadAnswer}
use Rattle.cf_outcome.specs.declared.outcome.Outcome.{Outcome}
use Rattle.cf_outcome.specs.declared.outcome.Outcome.TheVariants.{Value as Gives, Fault}
use Rattle.cf_outcome.specs.Outcomes.{wrap}
use Rattle.cf_forms.specs.declared.forms.Form.{Form}
use Rattle.cf_forms.specs.declared.forms.Form.TheVariants.{Source, Supply, RunAsync, Apply, ThenRun, Combine, AcceptBoth, RunBoth, ApplyEither, RunEither, Compose, Handle, WhenComplete, Exceptionally, AllOf, AnyOf, ExceptionallyCompose}
use Rattle.cf_forms.specs.declared.forms.Args.{Args}
use Rattle.cf_forms.specs.declared.forms.Args.TheVariants.{None as NoArgs, One, Two, Got}
use Rattle.cf_forms.specs.declared.forms.Answer.{Answer}
use Rattle.cf_forms.specs.declared.forms.Answer.TheVariants.{Give, Throw, Link}
use Rattle.cf_forms.specs.declared.forms.Due.{Due}
use Rattle.cf_forms.specs.declared.forms.Due.TheVariants.{Waits, Settles, Needs}
use Rattle.cf_forms.specs.declared.forms.Landing.{Landing}
use Rattle.cf_forms.specs.declared.forms.Landing.TheVariants.{Settles as Lands, Links}

-- a value gives the arguments, and a fault is passed on wrapped
abbrev pub needed_or_passed : (Value → Args) → Outcome → Due
needed_or_passed args (Gives v) = Needs (args v)
needed_or_passed args (Fault cause wrapped) = Settles (Fault cause true)

-- what a stage takes from its one source, or from the source that decides an either form or an anyOf
abbrev pub due_one : Form → Outcome → Due
due_one Handle o = Needs (Got o)
due_one WhenComplete o = Needs (Got o)
due_one Exceptionally (Gives v) = Settles (Gives v)
due_one Exceptionally (Fault cause wrapped) = Needs (Got (Fault cause wrapped))
due_one ExceptionallyCompose (Gives v) = Settles (Gives v)
due_one ExceptionallyCompose (Fault cause wrapped) = Needs (Got (Fault cause wrapped))
due_one AnyOf o = Settles (wrap o)
due_one ThenRun o = needed_or_passed (λ _. NoArgs) o
due_one RunEither o = needed_or_passed (λ _. NoArgs) o
due_one form o = needed_or_passed (λ v. One v) o

-- what a stage takes from two sources that have both settled: the first fault goes before the second
abbrev pub due_two : Form → Outcome → Outcome → Due
due_two form (Fault cause wrapped) b = Settles (Fault cause true)
due_two form (Gives v) (Fault cause wrapped) = Settles (Fault cause true)
due_two RunBoth (Gives v) (Gives w) = Needs NoArgs
due_two form (Gives v) (Gives w) = Needs (Two v w)

-- the first outcome that is there
abbrev pub first_there : List (Option Outcome) → Option Outcome
first_there [] = None
first_there (Some o ∷ q) = Some o
first_there (None ∷ q) = first_there q

-- the fault at the lowest place, wrapped, or nil where none has failed
abbrev pub first_fault : List (Option Outcome) → Outcome
first_fault [] = Gives Nil
first_fault (Some (Fault cause wrapped) ∷ q) = Fault cause true
first_fault (Some (Gives v) ∷ q) = first_fault q
first_fault (None ∷ q) = first_fault q

-- decided by the first that is there
abbrev pub due_of_first : Form → Option Outcome → Due
due_of_first form None = Waits
due_of_first form (Some o) = due_one form o

-- decided once both are there
abbrev pub due_of_both : Form → List (Option Outcome) → Due
due_of_both form (Some a ∷ Some b ∷ []) = due_two form a b
due_of_both form q = Waits

-- What a stage of this form does when its sources have these outcomes, or none: it waits, settles, or needs its function.
abbrev pub follows : Form → List (Option Outcome) → Due
follows Source q = Waits
follows Supply q = Needs NoArgs
follows RunAsync q = Needs NoArgs
follows Combine q = due_of_both Combine q
follows AcceptBoth q = due_of_both AcceptBoth q
follows RunBoth q = due_of_both RunBoth q
follows AllOf q = if list_all is_some q then Settles (first_fault q) else Waits
follows form q = due_of_first form (first_there q)

-- the value that a stage keeps of the one that its function gave
abbrev pub kept_value : Form → Value → Value
kept_value Supply v = v
kept_value Apply v = v
kept_value Combine v = v
kept_value ApplyEither v = v
kept_value Handle v = v
kept_value Exceptionally v = v
kept_value form v = Nil

-- an answer that the form can't take; nobody gave a code
abbrev pub bad_answer : Landing
bad_answer = Lands (Fault (BadAnswer 0) true)

-- whether the function of a form answers with a stage
abbrev pub composes : Form → Bool
composes Compose = true
composes ExceptionallyCompose = true
composes form = false

-- whether the first source that settles decides a form
abbrev pub is_decided_by_first : Form → Bool
is_decided_by_first Source = false
is_decided_by_first Supply = false
is_decided_by_first RunAsync = false
is_decided_by_first Combine = false
is_decided_by_first AcceptBoth = false
is_decided_by_first RunBoth = false
is_decided_by_first AllOf = false
is_decided_by_first form = true

-- Where stage i lands with the answer of its function. A whenComplete keeps what its source has. A form that composes has
-- to link to a stage, which has to be lower, and no other form may link.
abbrev pub landing : Form → ℕ → Option Outcome → Answer → Landing
landing WhenComplete i (Some (Fault cause wrapped)) answer = Lands (Fault cause true)
landing form i source (Throw code) = Lands (Fault (Thrown code) true)
landing form i source (Link j) = if composes form && nat_lt j i then Links j else bad_answer
landing WhenComplete i (Some (Gives v)) (Give w) = Lands (Gives v)
landing form i source (Give v) = if composes form then bad_answer else Lands (Gives (kept_value form v))

-- whether a stage of this form with these sources has something to take from the start on, when nothing has settled
abbrev pub starts : Form → List ℕ → Bool
starts Supply sources = true
starts RunAsync sources = true
starts AllOf [] = true
starts form sources = false
