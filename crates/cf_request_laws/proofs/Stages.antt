-- A stage that gathers, and what events make of it.
use Rattle.std.proofs.Common.{◌≡◌, ◌≢◌, ℕ, zero, suc, ◌+◌, ◌<◌, ◌==◌, ◌&&◌, get_or, Bool, true, false, cond, set, take, length, map, Option, Some, None, List, [], ◌∷◌, ◌++◌, All, refl, ap, sym, ◌∙◌, arith, subst, inl, inr, ◌⊎◌}
use Rattle.std.specs.List.{list_all}
use Rattle.std.specs.Option.{option_map_or}
use Rattle.std.specs.Prelude.{is_some, nat_lt, option_and_then, slice_get}
use Rattle.std.proofs.lemmas.Bool.{cases_eq}
use Rattle.std.proofs.lemmas.List.Elements.{All-head, All-tail}
use Rattle.cf_outcome.specs.declared.outcome.Cause.TheVariants.{Cancelled, Thrown}
use Rattle.cf_outcome.specs.declared.outcome.Outcome.{Outcome}
use Rattle.cf_outcome.specs.declared.outcome.Outcome.TheVariants.{Value as Gives, Fault}
use Rattle.cf_outcome.specs.Outcomes.{wrap}
use Rattle.cf_forms.specs.declared.forms.Answer.{Answer}
use Rattle.cf_forms.specs.declared.forms.Args.{Args}
use Rattle.cf_forms.specs.declared.forms.Due.TheVariants.{Settles, Waits as DueLater}
use Rattle.cf_forms.specs.declared.forms.Form.{Form}
use Rattle.cf_forms.specs.declared.forms.Form.TheVariants as forms
use Rattle.cf_forms.specs.declared.forms.Landing.{Landing}
use Rattle.cf_forms.specs.declared.forms.Landing.TheVariants.{Settles as Lands, Links}
use Rattle.cf_forms.specs.declared.limits.Limit.{Limit}
use Rattle.cf_forms.specs.Forms.{due_of_first, first_fault, first_there, follows, landing}
use Rattle.cf_forms.specs.Plans.{PlannedStage, attached_stage, form_at}
use Rattle.cf_forms.proofs.ListLemmas.{slice_get-longer}
use Rattle.cf_model.specs.declared.events.Event.{Event}
use Rattle.cf_model.specs.declared.events.Event.TheVariants.{Complete as Completes, Fail as Fails, FailAs as FailsAs, Cancel as Cancels, Claim as Claims, Finish as Finishes, Tick as Ticks, Attach as Attaches}
use Rattle.cf_model.specs.declared.replies.Finished.TheVariants.{NotYours}
use Rattle.cf_model.specs.declared.replies.Ticked.{Ticked}
use Rattle.cf_model.specs.declared.replies.Ticked.TheVariants.{Fired, Past}
use Rattle.cf_model.specs.declared.stage.Stage.{Stage}
use Rattle.cf_model.specs.declared.stage.Stage.TheVariants.{Pending, Ready, Claimed, Linked, Settled}
use Rattle.cf_model.specs.Events.{answered, attached_by, cancelled_by, cause_of, claimed_by, due_limits, finished_by, firing, landed, limit_outcome, linked_to, settled_by, settling, source_outcome}
use Rattle.cf_model.specs.Laws.{IsClosed}
use Rattle.cf_model.specs.States.{State, after, claim_at, due_state, new_states, next_of, outcome_at, outcome_in, outcome_of, stage_at}
use Rattle.cf_model.proofs.Closed.{keeps_closed}
use Rattle.cf_model.proofs.Moves.{keeps_outcomes, new_states-settled, set-settled, there}
use Rattle.cf_model.proofs.OpenClaims.{claim_before_close, claim_before_push, claim_before_set}
use Rattle.cf_model.proofs.Shape.{answered-grows}
use Rattle.cf_model.proofs.StateLemmas.{after-unsettled, new_states-at, outcome_in-take, slice_get-set_other}
use Rattle.cf_request.specs.Gathering.{form_of, gathered}
use Rattle.cf_request.specs.Linked.{IsTick}
use Rattle.cf_request.specs.Telling.{is_settled_in}
use Rattle.cf_request.specs.declared.gathering.Gathering.{Gathering}
use Rattle.cf_request.specs.declared.gathering.Gathering.TheVariants.{AllOf, AnyOf}
use Rattle.cf_request_laws.specs.Roots.{given}

-- a stage of the graph gathers, and its sources are below it
pub record IsPlanned (how : Gathering) (stage : ℕ) (p : PlannedStage) (s : State) : Type 0 where
  pub planned : slice_get s.plan.stages stage ≡ Some p
  pub form : p.form ≡ form_of how
  pub lower : All (λ j. j < stage) p.sources

-- it is pending, and nobody has a claim of it
pub record IsPending (stage : ℕ) (s : State) : Type 0 where
  pub pending : slice_get s.stages stage ≡ Some Pending
  pub unclaimed : (w : ℕ) → claim_at s stage ≡ Some w → ⊥

-- it is settled, and has what its sources give
pub record Took (how : Gathering) (stage : ℕ) (p : PlannedStage) (s : State) : Type 0 where
  pub settled : is_settled_in s.stages stage ≡ true
  pub same : outcome_in s.stages stage ≡ given how p.sources s

-- it is settled, and not by them
pub record IsFirst (how : Gathering) (stage : ℕ) (p : PlannedStage) (s : State) (e : Event) : Type 0 where
  pub settled : is_settled_in s.stages stage ≡ true
  pub by : (given how p.sources s ≡ None) ⊎ IsTick e

-- what an event makes of a pending stage
abbrev pub Becomes : Gathering → ℕ → PlannedStage → State → Event → Type 0
Becomes how stage p s e = IsPending stage s ⊎ (Took how stage p s ⊎ IsFirst how stage p s e)

-- ---- lists

get_there : {X : Type 0} (xs : List X) (i : ℕ) (x : X) → slice_get xs i ≡ Some x → i < length xs
get_there [] i x h = cc
get_there (y ∷ xs) zero x h = omega arith
get_there (y ∷ xs) (suc i) x h = let l = get_there xs i x h in omega (arith, l)

set_here : (xs : List Stage) (i : ℕ) (y : Stage) → i < length xs → slice_get (set xs i y) i ≡ Some y
set_here [] i y l = absurd (omega (arith, l))
set_here (x ∷ xs) zero y l = refl
set_here (x ∷ xs) (suc i) y l = set_here xs i y (omega (arith, l))

pub some_of : (o : Option Outcome) → is_some o ≡ true → (x : Outcome) × (o ≡ Some x)
some_of None h = cc
some_of (Some x) h = (x, refl)

take_set : (xs : List Stage) (i : ℕ) (y : Stage) → take i (set xs i y) ≡ take i xs
take_set [] i y = refl
take_set (x ∷ xs) zero y = refl
take_set (x ∷ xs) (suc i) y = ap (λ (l : List Stage). x ∷ l) (take_set xs i y)

-- the new states below a stage don't depend on it
take_new : (below : List Stage) (plan : List PlannedStage) (xs : List Stage) (i : ℕ) (y : Stage) → take i (new_states below plan (set xs i y)) ≡ take i (new_states below plan xs)
take_new below [] xs i y = take_set xs i y
take_new below (p ∷ plan) [] i y = refl
take_new below (p ∷ plan) (x ∷ xs) zero y = refl
take_new below (p ∷ plan) (x ∷ xs) (suc i) y =
    let new = next_of below p.form p.sources x in ap (λ (l : List Stage). new ∷ l) (take_new (below ++ new ∷ []) plan xs i y)

pub map_same : (xs ys : List Stage) (sources : List ℕ) → All (λ j. outcome_in xs j ≡ outcome_in ys j) sources → map (outcome_in xs) sources ≡ map (outcome_in ys) sources
map_same xs ys [] same = refl
map_same xs ys (j ∷ sources) same =
    ap (λ (o : Option Outcome). o ∷ map (outcome_in xs) sources) (All-head (λ k. outcome_in xs k ≡ outcome_in ys k) j sources same)
    ∙ ap (λ (q : List (Option Outcome)). outcome_in ys j ∷ q) (map_same xs ys sources (All-tail (λ k. outcome_in xs k ≡ outcome_in ys k) j sources same))

map_take : (xs : List Stage) (i : ℕ) (sources : List ℕ) → All (λ j. j < i) sources → map (outcome_in (take i xs)) sources ≡ map (outcome_in xs) sources
map_take xs i sources lower = map_same (take i xs) xs sources (λ k d l. outcome_in-take xs i (get_or sources k d) (lower k d l))

-- ---- what it takes

wait_all : (b : Bool) (o : Outcome) → outcome_of (due_state (cond b (Settles o) DueLater)) ≡ None → due_state (cond b (Settles o) DueLater) ≡ Pending
wait_all true o none = cc
wait_all false o none = refl

wait_any : (x : Option Outcome) → outcome_of (due_state (due_of_first forms.AnyOf x)) ≡ None → due_state (due_of_first forms.AnyOf x) ≡ Pending
wait_any None none = refl
wait_any (Some o) none = cc

-- it is never ready: it waits, or is settled
pub waits_by : (how : Gathering) (q : List (Option Outcome)) → gathered how q ≡ None → due_state (follows (form_of how) q) ≡ Pending
waits_by AllOf q none = wait_all (list_all is_some q) (first_fault q) none
waits_by AnyOf q none = wait_any (first_there q) none

-- among the new states it takes what its sources give in them
pending_new : (how : Gathering) (stage : ℕ) (p : PlannedStage) (s : State) (plan : List PlannedStage) (xs : List Stage) → slice_get plan stage ≡ Some p → p.form ≡ form_of how → All (λ j. j < stage) p.sources → slice_get xs stage ≡ Some Pending →
    (let new = new_states [] plan xs in slice_get new stage ≡ Some (due_state (follows (form_of how) (map (outcome_in new) p.sources))))
pending_new how stage p s plan xs planned form lower pending =
    let new = new_states [] plan xs in
    new_states-at [] plan xs stage p Pending planned pending
    ∙ ap (λ (f : Form). Some (due_state (follows f (map (outcome_in (take stage new)) p.sources)))) form
    ∙ ap (λ (q : List (Option Outcome)). Some (due_state (follows (form_of how) q))) (map_take new stage p.sources lower)

-- while it is pending, its sources give nothing
pub pending_waits : (how : Gathering) (stage : ℕ) (p : PlannedStage) (s : State) → IsClosed s → IsPlanned how stage p s → IsPending stage s → given how p.sources s ≡ None
pending_waits how stage p s closed is h =
    let now = pending_new how stage p s s.plan.stages s.stages is.planned is.form is.lower h.pending in
    let same : Some Pending ≡ (let y : Option Stage = Some (due_state (follows (form_of how) (map (outcome_in s.stages) p.sources))) in y) =
    sym h.pending ∙ ap (λ (l : List Stage). slice_get l stage) (sym closed) ∙ now ∙ ap (λ (l : List Stage). Some (due_state (follows (form_of how) (map (outcome_in l) p.sources)))) closed in
    sym (ap (option_and_then outcome_of) same)

become_by : (how : Gathering) (stage : ℕ) (p : PlannedStage) (t : State) (e : Event) (x : Option Outcome) → given how p.sources t ≡ x → slice_get t.stages stage ≡ Some (due_state (follows (form_of how) (map (outcome_in t.stages) p.sources))) → ((w : ℕ) → claim_at t stage ≡ Some w → ⊥) →
    Becomes how stage p t e
become_by how stage p t e None is new unclaimed = inl (record { pending = new ∙ ap (λ (y : Stage). Some y) (waits_by how (map (outcome_in t.stages) p.sources) is); unclaimed = unclaimed })
become_by how stage p t e (Some o) is new unclaimed =
    let same : outcome_in t.stages stage ≡ given how p.sources t = ap (option_and_then outcome_of) new in
    inr (inl (record { settled = ap is_some (same ∙ is); same = same }))

-- ---- a stage is settled

-- another one
after_other : (how : Gathering) (stage : ℕ) (p : PlannedStage) (s t : State) (d : ℕ) (o : Outcome) (e : Event) → stage ≢ d → IsPlanned how stage p s → IsPending stage s → t.stages ≡ new_states [] s.plan.stages (set s.stages d (Settled o)) →
    ((w : ℕ) → claim_at t stage ≡ Some w → ⊥) → Becomes how stage p t e
after_other how stage p s t d o e differs is h new unclaimed =
    let xs = set s.stages d (Settled o) in
    let now = pending_new how stage p s s.plan.stages xs is.planned is.form is.lower (slice_get-set_other s.stages d stage (Settled o) differs ∙ h.pending) in
    become_by how stage p t e (given how p.sources t) refl
    (ap (λ (l : List Stage). slice_get l stage) new ∙ now ∙ ap (λ (l : List Stage). Some (due_state (follows (form_of how) (map (outcome_in l) p.sources)))) (sym new)) unclaimed

-- itself
after_itself : (how : Gathering) (stage : ℕ) (p : PlannedStage) (s t : State) (o : Outcome) (e : Event) → IsClosed s → IsPlanned how stage p s → IsPending stage s → t.stages ≡ new_states [] s.plan.stages (set s.stages stage (Settled o)) → Becomes how stage p t e
after_itself how stage p s t o e closed is h new =
    let xs = set s.stages stage (Settled o) in
    let now = new_states [] s.plan.stages xs in
    let on : outcome_in now stage ≡ Some o = new_states-settled [] s.plan.stages xs stage o (ap (option_and_then outcome_of) (set_here s.stages stage (Settled o) (get_there s.stages stage Pending h.pending))) in
    let below : map (outcome_in now) p.sources ≡ map (outcome_in s.stages) p.sources =
    sym (map_take now stage p.sources is.lower) ∙ ap (λ (l : List Stage). map (outcome_in l) p.sources) (take_new [] s.plan.stages s.stages stage (Settled o) ∙ ap (take stage) closed)
    ∙ map_take s.stages stage p.sources is.lower in
    inr (inr (record {
      settled = ap (λ (l : List Stage). is_settled_in l stage) new ∙ ap is_some on;
      by = inl (ap (λ (l : List Stage). gathered how (map (outcome_in l) p.sources)) new ∙ ap (gathered how) below ∙ pending_waits how stage p s closed is h);
    }))

-- any
after_any : (how : Gathering) (stage : ℕ) (p : PlannedStage) (s t : State) (d : ℕ) (o : Outcome) (e : Event) → IsClosed s → IsPlanned how stage p s → IsPending stage s → t.stages ≡ new_states [] s.plan.stages (set s.stages d (Settled o)) →
    ((w : ℕ) → claim_at t stage ≡ Some w → ⊥) → Becomes how stage p t e
after_any how stage p s t d o e closed is h new unclaimed = elim (cases_eq stage d) [
  | inl same ↦ after_itself how stage p s t o e closed is h (new ∙ ap (λ (k : ℕ). new_states [] s.plan.stages (set s.stages k (Settled o))) (sym same))
  | inr differs ↦ after_other how stage p s t d o e differs is h new unclaimed
]

after_stages : (s : State) (d : ℕ) (o : Outcome) → outcome_at s d ≡ None → (after s d o).stages ≡ new_states [] s.plan.stages (set s.stages d (Settled o))
after_stages s d o none = ap (λ (t : State). t.stages) (after-unsettled s d o none)

settled_becomes : (how : Gathering) (stage : ℕ) (p : PlannedStage) (x : Option Outcome) (s : State) (d : ℕ) (o : Outcome) (e : Event) → IsClosed s → IsPlanned how stage p s → IsPending stage s → outcome_at s d ≡ x → Becomes how stage p ((settled_by x s d o).1) e
settled_becomes how stage p (Some q) s d o e closed is h at = inl h
settled_becomes how stage p None s d o e closed is h at = after_any how stage p s (after s d o) d o e closed is h (after_stages s d o at) h.unclaimed

cancelled_becomes : (how : Gathering) (stage : ℕ) (p : PlannedStage) (x : Option Outcome) (s : State) (d : ℕ) (e : Event) → IsClosed s → IsPlanned how stage p s → IsPending stage s → outcome_at s d ≡ x → Becomes how stage p ((cancelled_by x s d).1) e
cancelled_becomes how stage p (Some q) s d e closed is h at = inl h
cancelled_becomes how stage p None s d e closed is h at = let o : Outcome = Fault Cancelled false in after_any how stage p s (after s d o) d o e closed is h (after_stages s d o at) h.unclaimed

-- ---- the other events

-- it isn't ready, so it isn't claimed
ready_other : (stage k : ℕ) (s : State) (args : Args) → IsPending stage s → slice_get s.stages k ≡ Some (Ready args) → stage ≢ k
ready_other stage k s args h is same = (let here = ap (slice_get s.stages) same in let pending = h.pending in let no : ⊥ = cc in absurd no)

claimed_becomes : (how : Gathering) (stage : ℕ) (p : PlannedStage) (x : Stage) (s : State) (who k : ℕ) (e : Event) → IsPending stage s → stage_at s k ≡ x → Becomes how stage p ((claimed_by x s who k).1) e
claimed_becomes how stage p (Ready args) s who k e h is =
    let differs = ready_other stage k s args h (there (slice_get s.stages k) (Ready args) is (λ q. cc)) in
    inl (record {
      pending = slice_get-set_other s.stages k stage Claimed differs ∙ h.pending;
      unclaimed = λ w now. elim (claim_before_set s.claims k stage (Some who) w now) [ inl here ↦ differs here.0 | inr before ↦ h.unclaimed w before ];
    })
claimed_becomes how stage p (Settled o) s who k e h is = inl h
claimed_becomes how stage p Claimed s who k e h is = inl h
claimed_becomes how stage p (Linked j) s who k e h is = inl h
claimed_becomes how stage p Pending s who k e h is = inl h

-- whoever finishes has a claim, so it is of another stage
linked_becomes : (how : Gathering) (stage : ℕ) (p : PlannedStage) (x : Option Outcome) (s : State) (k j : ℕ) (e : Event) → stage ≢ k → IsPlanned how stage p s → IsPending stage s → outcome_at s k ≡ None → Becomes how stage p (linked_to x s k j) e
linked_becomes how stage p (Some o) s k j e differs is h none = after_other how stage p s (after s k (wrap o)) k (wrap o) e differs is h (after_stages s k (wrap o) none) h.unclaimed
linked_becomes how stage p None s k j e differs is h none = inl (record { pending = slice_get-set_other s.stages k stage (Linked j) differs ∙ h.pending; unclaimed = h.unclaimed })

landed_becomes : (how : Gathering) (stage : ℕ) (p : PlannedStage) (to : Landing) (s : State) (k : ℕ) (e : Event) → stage ≢ k → IsPlanned how stage p s → IsPending stage s → outcome_at s k ≡ None → Becomes how stage p (landed s k to) e
landed_becomes how stage p (Lands o) s k e differs is h none = after_other how stage p s (after s k o) k o e differs is h (after_stages s k o none) h.unclaimed
landed_becomes how stage p (Links j) s k e differs is h none = linked_becomes how stage p (outcome_at s j) s k j e differs is h none

finished_becomes : (how : Gathering) (stage : ℕ) (p : PlannedStage) (x : Option Outcome) (s : State) (k : ℕ) (answer : Answer) (e : Event) → stage ≢ k → IsPlanned how stage p s → IsPending stage s → outcome_at s k ≡ x → Becomes how stage p ((finished_by x s k answer).1) e
finished_becomes how stage p (Some o) s k answer e differs is h at = inl h
finished_becomes how stage p None s k answer e differs is h at = landed_becomes how stage p (landing (form_at s.plan.stages k) k (source_outcome s k) answer) s k e differs is h at

held_by : (who : ℕ) (c : Option ℕ) → option_map_or (λ w. w == who) c false ≡ true → (w : ℕ) × (c ≡ Some w)
held_by who None h = cc
held_by who (Some w) h = (w, refl)

finishing_becomes : (how : Gathering) (stage : ℕ) (p : PlannedStage) (b : Bool) (s : State) (who k : ℕ) (answer : Answer) (e : Event) → IsPlanned how stage p s → IsPending stage s → option_map_or (λ w. w == who) (claim_at s k) false ≡ b →
    Becomes how stage p ((cond b (finished_by (outcome_at s k) (record s { claims = set s.claims k None }) k answer) (NotYours, s)).1) e
finishing_becomes how stage p true s who k answer e is h held =
    let w = held_by who (claim_at s k) held in
    let differs : stage ≢ k = (λ same. h.unclaimed w.0 (ap (claim_at s) same ∙ w.1)) in
    let closed : State = record s { claims = set s.claims k None } in
    finished_becomes how stage p (outcome_at s k) closed k answer e differs (record { planned = is.planned; form = is.form; lower = is.lower }) (record { pending = h.pending; unclaimed = λ v now. h.unclaimed v ((claim_before_close s.claims k stage v now).1) }) refl
finishing_becomes how stage p false s who k answer e is h held = inl h

-- a tick settles any stages
settled_on : (x : Option Outcome) (s : State) (d : ℕ) (o : Outcome) (i : ℕ) → outcome_at s d ≡ x → is_settled_in s.stages i ≡ true → is_settled_in ((settled_by x s d o).1.stages) i ≡ true
settled_on (Some q) s d o i is on = on
settled_on None s d o i is on =
    let was = some_of (outcome_in s.stages i) on in
    ap (λ (l : List Stage). is_settled_in l i) (after_stages s d o is)
    ∙ ap is_some (new_states-settled [] s.plan.stages (set s.stages d (Settled o)) i was.0 (set-settled s.stages d i (Settled o) was.0 is was.1))

firing_on : (limits : List Limit) (count : ℕ) (s : State) (i : ℕ) → is_settled_in s.stages i ≡ true → is_settled_in ((firing count s limits).1.stages) i ≡ true
firing_on [] count s i on = on
firing_on (l ∷ limits) count s i on =
    let done = settling s l.stage (limit_outcome l.kind) in
    firing_on limits (cond done.0 (count + 1) count) done.1 i (settled_on (outcome_at s l.stage) s l.stage (limit_outcome l.kind) i refl on)

-- what limits make of it
abbrev Fires : ℕ → State → Type 0
Fires stage s = IsPending stage s ⊎ (is_settled_in s.stages stage ≡ true)

fires_by : (how : Gathering) (stage : ℕ) (p : PlannedStage) (s t : State) (d : ℕ) (o : Outcome) (e : Event) → IsPlanned how stage p s → IsPending stage s → t.stages ≡ new_states [] s.plan.stages (set s.stages d (Settled o)) → ((w : ℕ) → claim_at t stage ≡ Some w → ⊥) →
    Fires stage t
fires_by how stage p s t d o e is h new unclaimed = elim (cases_eq stage d) [
  | inl same ↦ (let on = new_states-settled [] s.plan.stages (set s.stages d (Settled o)) stage o
      (ap (option_and_then outcome_of) (ap (λ (k : ℕ). slice_get (set s.stages k (Settled o)) stage) (sym same) ∙ set_here s.stages stage (Settled o) (get_there s.stages stage Pending h.pending))) in
      inr (ap (λ (l : List Stage). is_settled_in l stage) new ∙ ap is_some on))
  | inr differs ↦ elim (after_other how stage p s t d o e differs is h new unclaimed) [
    | inl pending ↦ inl pending
    | inr rest ↦ elim rest [ inl took ↦ inr took.settled | inr first ↦ inr first.settled ]
  ]
]

fires_one : (how : Gathering) (stage : ℕ) (p : PlannedStage) (x : Option Outcome) (s : State) (d : ℕ) (o : Outcome) (e : Event) → IsPlanned how stage p s → IsPending stage s → outcome_at s d ≡ x → Fires stage ((settled_by x s d o).1)
fires_one how stage p (Some q) s d o e is h at = inl h
fires_one how stage p None s d o e is h at = fires_by how stage p s (after s d o) d o e is h (after_stages s d o at) h.unclaimed

plan_of : (x : Option Outcome) (s : State) (d : ℕ) (o : Outcome) → s.plan ≡ (settled_by x s d o).1.plan
plan_of (Some q) s d o = refl
plan_of None s d o = refl

fires_all : (how : Gathering) (stage : ℕ) (p : PlannedStage) (limits : List Limit) (count : ℕ) (s : State) (e : Event) → IsPlanned how stage p s → IsPending stage s → Fires stage ((firing count s limits).1)
fires_all how stage p [] count s e is h = inl h
fires_all how stage p (l ∷ limits) count s e is h =
    let o = limit_outcome l.kind in
    let done = settling s l.stage o in
    let more = cond done.0 (count + 1) count in
    let plan = plan_of (outcome_at s l.stage) s l.stage o in
    let still : IsPlanned how stage p done.1 = record { planned = ap (λ q. slice_get q.stages stage) (sym plan) ∙ is.planned; form = is.form; lower = is.lower } in
    elim (fires_one how stage p (outcome_at s l.stage) s l.stage o e is h refl) [
      | inl pending ↦ fires_all how stage p limits more done.1 e still pending
      | inr on ↦ inr (firing_on limits more done.1 stage on)
    ]

ticking_becomes : (how : Gathering) (stage : ℕ) (p : PlannedStage) (b : Bool) (s : State) (who now : ℕ) → IsPlanned how stage p s → IsPending stage s →
    (let fired = firing 0 s (due_limits s now) in Becomes how stage p ((cond {A = Ticked × State} b (Past, s) (Fired fired.0, record fired.1 { moment = now; used = s.used + length (due_limits s now) })).1) (Ticks who now))
ticking_becomes how stage p true s who now is h = inl h
ticking_becomes how stage p false s who now is h = elim (fires_all how stage p (due_limits s now) 0 s (Ticks who now) is h) [
  | inl pending ↦ inl (record { pending = pending.pending; unclaimed = pending.unclaimed })
  | inr on ↦ inr (inr (record { settled = on; by = inr (who, now, refl) }))
]

attached_becomes : (how : Gathering) (stage : ℕ) (p : PlannedStage) (room : ℕ) (s : State) (new : PlannedStage) (e : Event) → IsPlanned how stage p s → IsPending stage s → Becomes how stage p ((attached_by room s new).1) e
attached_becomes how stage p zero s new e is h = inl h
attached_becomes how stage p (suc room) s new e is h =
    let t = (attached_by (suc room) s new).1 in
    become_by how stage p t e (given how p.sources t) refl
    (pending_new how stage p s (s.plan.stages ++ new ∷ []) (s.stages ++ Pending ∷ []) (slice_get-longer s.plan.stages (new ∷ []) stage p is.planned) is.form is.lower (slice_get-longer s.stages (Pending ∷ []) stage Pending h.pending))
    (λ w now. h.unclaimed w (claim_before_push s.claims stage w now))

-- ---- any event

pub becomes : (how : Gathering) (stage : ℕ) (p : PlannedStage) (s : State) (e : Event) → IsClosed s → IsPlanned how stage p s → IsPending stage s → Becomes how stage p ((answered s e).1) e
becomes how stage p s (Completes who k v) closed is h = settled_becomes how stage p (outcome_at s k) s k (Gives v) (Completes who k v) closed is h refl
becomes how stage p s (Fails who k code) closed is h = settled_becomes how stage p (outcome_at s k) s k (Fault (Thrown code) false) (Fails who k code) closed is h refl
becomes how stage p s (FailsAs who k failure) closed is h = settled_becomes how stage p (outcome_at s k) s k (Fault (cause_of failure) false) (FailsAs who k failure) closed is h refl
becomes how stage p s (Cancels who k) closed is h = cancelled_becomes how stage p (outcome_at s k) s k (Cancels who k) closed is h refl
becomes how stage p s (Claims who k) closed is h = claimed_becomes how stage p (stage_at s k) s who k (Claims who k) h refl
becomes how stage p s (Finishes who k answer) closed is h = finishing_becomes how stage p (option_map_or (λ w. w == who) (claim_at s k) false) s who k answer (Finishes who k answer) is h refl
becomes how stage p s (Ticks who now) closed is h = ticking_becomes how stage p (nat_lt now s.moment) s who now is h
becomes how stage p s (Attaches who form of function) closed is h = attached_becomes how stage p s.plan.room s (attached_stage form of function) (Attaches who form of function) is h

-- ---- between events

-- a stage that gathers is pending or settled, and has what its sources give
pub record IsSound (how : Gathering) (stage : ℕ) (p : PlannedStage) (s : State) : Type 0 where
  pub is : IsPlanned how stage p s
  pub state : IsPending stage s ⊎ (is_settled_in s.stages stage ≡ true)
  pub same : outcome_in s.stages stage ≡ given how p.sources s

pub later_planned : (how : Gathering) (stage : ℕ) (p : PlannedStage) (s : State) (e : Event) → IsPlanned how stage p s → IsPlanned how stage p ((answered s e).1)
later_planned how stage p s e is =
    let grows = answered-grows s e in
    record { planned = ap (λ (l : List PlannedStage). slice_get l stage) grows.stages ∙ slice_get-longer s.plan.stages grows.more stage p is.planned; form = is.form; lower = is.lower }

pub pending_sound : (how : Gathering) (stage : ℕ) (p : PlannedStage) (s : State) → IsClosed s → IsPlanned how stage p s → IsPending stage s → IsSound how stage p s
pending_sound how stage p s closed is h = record { is = is; state = inl h; same = ap (option_and_then outcome_of) h.pending ∙ sym (pending_waits how stage p s closed is h) }

-- what allOf takes of its sources stays, as they do
all_by : (b : Bool) (o : Outcome) → is_some (outcome_of (due_state (cond b (Settles o) DueLater))) ≡ true → b ≡ true
all_by true o h = refl
all_by false o h = cc

all_settled : (q : List (Option Outcome)) → is_some (gathered AllOf q) ≡ true → list_all is_some q ≡ true
all_settled q h = all_by (list_all is_some q) (first_fault q) h

both_true : (a b : Bool) → (let c : Bool = a && b in c) ≡ true → (a ≡ true) × (b ≡ true)
both_true true true h = (refl, refl)
both_true true false h = cc
both_true false b h = cc

-- what is settled stays so, from one state to another
abbrev pub Lasts : State → State → Type 0
Lasts s t = (j : ℕ) (o : Outcome) → outcome_in s.stages j ≡ Some o → outcome_in t.stages j ≡ Some o

pub stays_one : (s t : State) (j : ℕ) → Lasts s t → is_settled_in s.stages j ≡ true → outcome_in t.stages j ≡ outcome_in s.stages j
stays_one s t j lasts on = let o = some_of (outcome_in s.stages j) on in lasts j o.0 o.1 ∙ sym o.1

stay_all : (s t : State) (sources : List ℕ) → Lasts s t → list_all is_some (map (outcome_in s.stages) sources) ≡ true → map (outcome_in t.stages) sources ≡ map (outcome_in s.stages) sources
stay_all s t [] lasts all = refl
stay_all s t (j ∷ sources) lasts all =
    let both = both_true (is_some (outcome_in s.stages j)) (list_all is_some (map (outcome_in s.stages) sources)) all in
    ap (λ (o : Option Outcome). o ∷ map (outcome_in t.stages) sources) (stays_one s t j lasts both.0) ∙ ap (λ (q : List (Option Outcome)). outcome_in s.stages j ∷ q) (stay_all s t sources lasts both.1)

pub given_stays : (s t : State) (sources : List ℕ) → Lasts s t → is_some (given AllOf sources s) ≡ true → given AllOf sources t ≡ given AllOf sources s
given_stays s t sources lasts on = ap (gathered AllOf) (stay_all s t sources lasts (all_settled (map (outcome_in s.stages) sources) on))

settled_sound : (stage : ℕ) (p : PlannedStage) (s : State) (e : Event) → IsSound AllOf stage p s → is_settled_in s.stages stage ≡ true → IsSound AllOf stage p ((answered s e).1)
settled_sound stage p s e h on =
    let t = (answered s e).1 in
    let lasts : Lasts s t = keeps_outcomes s (e ∷ []) in
    let stays = stays_one s t stage lasts on in
    record {
      is = later_planned AllOf stage p s e h.is;
      state = inr (ap is_some stays ∙ on);
      same = stays ∙ h.same ∙ sym (given_stays s t p.sources lasts (ap is_some (sym h.same) ∙ on));
    }

-- it was open, and came first
pub record ComesFirst (how : Gathering) (stage : ℕ) (p : PlannedStage) (s t : State) (e : Event) : Type 0 where
  pub open_then : is_settled_in s.stages stage ≡ false
  pub is : IsPlanned how stage p t
  pub first : IsFirst how stage p t e

-- so it stays, unless an event of its own settles it
pub stays_sound : (how : Gathering) (stage : ℕ) (p : PlannedStage) (s : State) (e : Event) → IsClosed s → IsSound how stage p s → (is_settled_in s.stages stage ≡ true → how ≡ AllOf) → IsSound how stage p ((answered s e).1) ⊎ ComesFirst how stage p s ((answered s e).1) e
stays_sound how stage p s e closed h all = elim h.state [
  | inl pending ↦ (
      let t = (answered s e).1 in
      let is = later_planned how stage p s e h.is in
      elim (becomes how stage p s e closed h.is pending) [
        | inl still ↦ inl (pending_sound how stage p t (keeps_closed s (e ∷ []) closed) is still)
        | inr rest ↦ elim rest [
          | inl took ↦ inl (record { is = is; state = inr took.settled; same = took.same })
          | inr first ↦ inr (record { open_then = ap is_some (ap (option_and_then outcome_of) pending.pending); is = is; first = first })
        ]
      ])
  | inr on ↦ inl (subst (λ (g : Gathering). IsSound g stage p ((answered s e).1)) (sym (all on)) (settled_sound stage p s e (subst (λ (g : Gathering). IsSound g stage p s) (all on) h) on))
]

-- ---- whichever came first

-- a stage that gathers is pending or settled
pub record IsHeld (how : Gathering) (stage : ℕ) (p : PlannedStage) (s : State) : Type 0 where
  pub is : IsPlanned how stage p s
  pub state : IsPending stage s ⊎ (is_settled_in s.stages stage ≡ true)

held_of : (how : Gathering) (stage : ℕ) (p : PlannedStage) (t : State) (e : Event) → Becomes how stage p t e → IsPending stage t ⊎ (is_settled_in t.stages stage ≡ true)
held_of how stage p t e (inl pending) = inl pending
held_of how stage p t e (inr (inl took)) = inr took.settled
held_of how stage p t e (inr (inr first)) = inr first.settled

pub stays_held : (how : Gathering) (stage : ℕ) (p : PlannedStage) (s : State) (e : Event) → IsClosed s → IsHeld how stage p s → IsHeld how stage p ((answered s e).1)
stays_held how stage p s e closed h =
    let t = (answered s e).1 in
    record {
      is = later_planned how stage p s e h.is;
      state = elim h.state [
        | inl pending ↦ held_of how stage p t e (becomes how stage p s e closed h.is pending)
        | inr on ↦ inr (ap is_some (stays_one s t stage (keeps_outcomes s (e ∷ [])) on) ∙ on)
      ];
    }

-- it is settled once its sources give something
held_settles : (how : Gathering) (stage : ℕ) (p : PlannedStage) (s : State) → IsClosed s → IsPlanned how stage p s → is_some (given how p.sources s) ≡ true → IsPending stage s ⊎ (is_settled_in s.stages stage ≡ true) → is_settled_in s.stages stage ≡ true
held_settles how stage p s closed is some (inr on) = on
held_settles how stage p s closed is some (inl pending) = (let none = ap is_some (pending_waits how stage p s closed is pending) in let no : true ≡ false = sym some ∙ none in let never : ⊥ = cc in absurd never)

pub settles_with : (how : Gathering) (stage : ℕ) (p : PlannedStage) (s : State) → IsClosed s → IsHeld how stage p s → is_some (given how p.sources s) ≡ true → is_settled_in s.stages stage ≡ true
settles_with how stage p s closed h some = held_settles how stage p s closed h.is some h.state
