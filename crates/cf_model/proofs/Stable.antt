-- What events keep true of the stages of a plan, if each kind of change does.
use Rattle.std.proofs.Common.{◌≡◌, ◌≢◌, ◌==◌, ℕ, ◌+◌, ◌<◌, ◌∷◌, ◌++◌, [], zero, suc, List, Bool, true, false, cond, Option, Some, None, length, arith, refl, set}
use Rattle.std.specs.Prelude.{nat_lt, slice_get, ◌&&◌}
use Rattle.std.specs.Option.{option_map_or}
use Rattle.cf_outcome.specs.declared.outcome.Outcome.{Outcome}
use Rattle.cf_outcome.specs.declared.outcome.Outcome.TheVariants.{Value as Gives, Fault}
use Rattle.cf_outcome.specs.declared.outcome.Cause.TheVariants.{Thrown, Cancelled}
use Rattle.cf_outcome.specs.Outcomes.{wrap}
use Rattle.cf_forms.specs.declared.forms.Answer.{Answer}
use Rattle.cf_forms.specs.declared.forms.Form.{Form}
use Rattle.cf_forms.specs.declared.forms.Form.TheVariants.{WhenComplete}
use Rattle.cf_forms.specs.declared.forms.Landing.{Landing}
use Rattle.cf_forms.specs.declared.forms.Landing.TheVariants.{Settles as Lands, Links}
use Rattle.cf_forms.specs.declared.limits.Limit.{Limit}
use Rattle.cf_forms.specs.Forms.{bad_answer, composes, kept_value, landing}
use Rattle.cf_forms.specs.Plans.{PlannedStage, attached_stage, form_at}
use Rattle.cf_model.specs.declared.stage.Stage.{Stage}
use Rattle.cf_model.specs.declared.stage.Stage.TheVariants.{Pending, Ready, Claimed, Linked, Settled}
use Rattle.cf_model.specs.declared.replies.Finished.TheVariants.{NotYours}
use Rattle.cf_model.specs.declared.replies.Ticked.TheVariants.{Fired, Past}
use Rattle.cf_model.specs.declared.events.Event.{Event}
use Rattle.cf_model.specs.declared.events.Event.TheVariants.{Complete as Completes, Fail as Fails, FailAs as FailsAs, Cancel as Cancels, Claim as Claims, Finish as Finishes, Tick as Ticks, Attach as Attaches}
use Rattle.cf_model.specs.States.{State, after, stages_after, outcome_in, outcome_at, stage_at, claim_at, new_states}
use Rattle.cf_model.specs.Events.{answered, state_after, settled_by, settling, cancelled_by, claimed_by, finished_by, landed, linked_to, firing, due_limits, limit_outcome, source_outcome, attached_by, attaching, cause_of}
use Rattle.cf_model.proofs.Moves.{there}
use Rattle.cf_forms.specs.declared.forms.Args.{Args}
use borrow.Author.Tests.{ltb-true}
use Rattle.cf_forms.specs.declared.forms.Answer.TheVariants.{Give, Throw, Link}

-- A fact about the stages of a plan that each kind of change keeps.
pub record IsStable (P : List PlannedStage → List Stage → Type 0) : Type 0 where
  pub settles : (plan : List PlannedStage) (xs : List Stage) (d : ℕ) (o : Outcome) → P plan xs → outcome_in xs d ≡ None → P plan (new_states [] plan (set xs d (Settled o)))
  pub claims : (plan : List PlannedStage) (xs : List Stage) (i : ℕ) (args : Args) → P plan xs → slice_get xs i ≡ Some (Ready args) → P plan (set xs i Claimed)
  pub links : (plan : List PlannedStage) (xs : List Stage) (i j : ℕ) → P plan xs → outcome_in xs i ≡ None → outcome_in xs j ≡ None → j < i → P plan (set xs i (Linked j))
  pub attaches : (plan : List PlannedStage) (xs : List Stage) (new : PlannedStage) → P plan xs → P (plan ++ new ∷ []) (new_states [] (plan ++ new ∷ []) (xs ++ Pending ∷ []))

-- the fact of a state
abbrev pub Holds : (List PlannedStage → List Stage → Type 0) → State → Type 0
Holds P s = P s.plan.stages s.stages

stages_after-stable : (P : List PlannedStage → List Stage → Type 0) → IsStable P → (x : Option Outcome) (s : State) (d : ℕ) (o : Outcome) → outcome_at s d ≡ x → Holds P s → P s.plan.stages (stages_after x s.plan.stages s.stages d o)
stages_after-stable P k (Some old) s d o e h = h
stages_after-stable P k None s d o e h = k.settles s.plan.stages s.stages d o h e

after-stable : (P : List PlannedStage → List Stage → Type 0) → IsStable P → (s : State) (d : ℕ) (o : Outcome) → Holds P s → Holds P (after s d o)
after-stable P k s d o h = stages_after-stable P k (outcome_at s d) s d o refl h

settled_by-stable : (P : List PlannedStage → List Stage → Type 0) → IsStable P → (x : Option Outcome) (s : State) (i : ℕ) (o : Outcome) → Holds P s → Holds P ((settled_by x s i o).1)
settled_by-stable P k (Some old) s i o h = h
settled_by-stable P k None s i o h = after-stable P k s i o h

cancelled_by-stable : (P : List PlannedStage → List Stage → Type 0) → IsStable P → (x : Option Outcome) (s : State) (i : ℕ) → Holds P s → Holds P ((cancelled_by x s i).1)
cancelled_by-stable P k (Some old) s i h = h
cancelled_by-stable P k None s i h = after-stable P k s i (Fault Cancelled false) h

claimed_by-stable : (P : List PlannedStage → List Stage → Type 0) → IsStable P → (x : Stage) (s : State) (who i : ℕ) → stage_at s i ≡ x → Holds P s → Holds P ((claimed_by x s who i).1)
claimed_by-stable P k (Ready args) s who i e h = k.claims s.plan.stages s.stages i args h (there (slice_get s.stages i) (Ready args) e (λ p. cc))
claimed_by-stable P k (Settled o) s who i e h = h
claimed_by-stable P k Claimed s who i e h = h
claimed_by-stable P k (Linked j) s who i e h = h
claimed_by-stable P k Pending s who i e h = h

linked_to-stable : (P : List PlannedStage → List Stage → Type 0) → IsStable P → (x : Option Outcome) (s : State) (i j : ℕ) → outcome_at s j ≡ x → outcome_at s i ≡ None → j < i → Holds P s → Holds P (linked_to x s i j)
linked_to-stable P k (Some o) s i j is e l h = after-stable P k s i (wrap o) h
linked_to-stable P k None s i j is e l h = k.links s.plan.stages s.stages i j h e is l

landed-stable : (P : List PlannedStage → List Stage → Type 0) → IsStable P → (at : Landing) (s : State) (i : ℕ) → ((j : ℕ) → at ≡ Links j → j < i) → outcome_at s i ≡ None → Holds P s → Holds P (landed s i at)
landed-stable P k (Lands o) s i lower e h = after-stable P k s i o h
landed-stable P k (Links j) s i lower e h = linked_to-stable P k (outcome_at s j) s i j refl e (lower j refl) h

-- a stage may be linked to a lower one alone
lower_link : (b c : Bool) (i j k : ℕ) → nat_lt j i ≡ c → cond (b && c) (Links j) bad_answer ≡ Links k → k < i
lower_link true true i j k t e = let same : j ≡ k = cc in let l = ltb-true j i t in omega arith
lower_link true false i j k t e = cc
lower_link false c i j k t e = cc

gives_no_link : (b : Bool) (o : Outcome) (k : ℕ) → cond b bad_answer (Lands o) ≢ Links k
gives_no_link true o k e = cc
gives_no_link false o k e = cc

pub landing-lower : (form : Form) (i : ℕ) (source : Option Outcome) (answer : Answer) (k : ℕ) → landing form i source answer ≡ Links k → k < i
landing-lower WhenComplete i (Some (Fault cause wrapped)) answer k e = cc
landing-lower WhenComplete i (Some (Gives v)) (Throw code) k e = cc
landing-lower WhenComplete i (Some (Gives v)) (Link j) k e = cc
landing-lower WhenComplete i (Some (Gives v)) (Give w) k e = cc
landing-lower form i source (Throw code) k e = cc
landing-lower form i source (Link j) k e = lower_link (composes form) (nat_lt j i) i j k refl e
landing-lower form i source (Give v) k e = absurd (gives_no_link (composes form) (Gives (kept_value form v)) k e)

finished_by-stable : (P : List PlannedStage → List Stage → Type 0) → IsStable P → (x : Option Outcome) (s : State) (i : ℕ) (answer : Answer) → outcome_at s i ≡ x → Holds P s → Holds P ((finished_by x s i answer).1)
finished_by-stable P k (Some old) s i answer e h = h
finished_by-stable P k None s i answer e h =
    landed-stable P k (landing (form_at s.plan.stages i) i (source_outcome s i) answer) s i (landing-lower (form_at s.plan.stages i) i (source_outcome s i) answer) e h

firing-stable : (P : List PlannedStage → List Stage → Type 0) → IsStable P → (limits : List Limit) (count : ℕ) (s : State) → Holds P s → Holds P ((firing count s limits).1)
firing-stable P k [] count s h = h
firing-stable P k (l ∷ limits) count s h =
    let done = settling s l.stage (limit_outcome l.kind) in
    firing-stable P k limits (cond done.0 (count + 1) count) done.1 (settled_by-stable P k (outcome_at s l.stage) s l.stage (limit_outcome l.kind) h)

chosen-stable : (P : List PlannedStage → List Stage → Type 0) → {X : Type 0} (b : Bool) (p q : X × State) → Holds P p.1 → Holds P q.1 → Holds P ((cond b p q).1)
chosen-stable P true p q hp hq = hp
chosen-stable P false p q hp hq = hq

-- a stage is attached
attached_by-stable : (P : List PlannedStage → List Stage → Type 0) → IsStable P → (room : ℕ) (s : State) (new : PlannedStage) → Holds P s → Holds P ((attached_by room s new).1)
attached_by-stable P k zero s new h = h
attached_by-stable P k (suc room) s new h = k.attaches s.plan.stages s.stages new h

pub attaching-stable : (P : List PlannedStage → List Stage → Type 0) → IsStable P → (s : State) (new : PlannedStage) → Holds P s → Holds P ((attaching s new).1)
attaching-stable P k s new h = attached_by-stable P k s.plan.room s new h

pub answered-stable : (P : List PlannedStage → List Stage → Type 0) → IsStable P → (s : State) (e : Event) → Holds P s → Holds P ((answered s e).1)
answered-stable P k s (Completes who i v) h = settled_by-stable P k (outcome_at s i) s i (Gives v) h
answered-stable P k s (Fails who i code) h = settled_by-stable P k (outcome_at s i) s i (Fault (Thrown code) false) h
answered-stable P k s (FailsAs who i failure) h = settled_by-stable P k (outcome_at s i) s i (Fault (cause_of failure) false) h
answered-stable P k s (Cancels who i) h = cancelled_by-stable P k (outcome_at s i) s i h
answered-stable P k s (Claims who i) h = claimed_by-stable P k (stage_at s i) s who i refl h
answered-stable P k s (Finishes who i answer) h =
    let closed : State = record s { claims = set s.claims i None } in
    chosen-stable P (option_map_or (λ w. w == who) (claim_at s i) false) (finished_by (outcome_at s i) closed i answer) (NotYours, s)
    (finished_by-stable P k (outcome_at s i) closed i answer refl h) h
answered-stable P k s (Ticks who now) h =
    let fired = firing 0 s (due_limits s now) in
    chosen-stable P (nat_lt now s.moment) (Past, s) (Fired fired.0, record fired.1 { moment = now; used = s.used + length (due_limits s now) })
    h (firing-stable P k (due_limits s now) 0 s h)
answered-stable P k s (Attaches who form of function) h = attaching-stable P k s (attached_stage form of function) h

pub state_after-stable : (P : List PlannedStage → List Stage → Type 0) → IsStable P → (s : State) (events : List Event) → Holds P s → Holds P (state_after s events)
state_after-stable P k s [] h = h
state_after-stable P k s (e ∷ events) h = state_after-stable P k ((answered s e).1) events (answered-stable P k s e h)
