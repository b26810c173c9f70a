-- Stages that are linked to lower ones, and what events make of them.
use Rattle.std.proofs.Common.{◌≡◌, ◌≢◌, ℕ, zero, suc, ◌+◌, ◌<◌, ◌==◌, ◌&&◌, Bool, true, false, cond, set, take, length, length-append, Option, Some, None, List, [], ◌∷◌, ◌++◌, refl, ap, sym, ◌∙◌, arith, subst, inl, inr, ◌⊎◌}
use Rattle.std.specs.Option.{option_map_or}
use Rattle.std.specs.Prelude.{is_some, nat_lt, option_and_then, slice_get}
use Rattle.std.proofs.lemmas.Bool.{cases_eq, lt-ltb}
use Rattle.cf_outcome.specs.declared.outcome.Cause.TheVariants.{Cancelled, Thrown}
use Rattle.cf_outcome.specs.declared.outcome.Outcome.{Outcome}
use Rattle.cf_outcome.specs.declared.outcome.Outcome.TheVariants.{Value as Gives, Fault}
use Rattle.cf_outcome.specs.Outcomes.{wrap}
use Rattle.cf_forms.specs.declared.forms.Answer.{Answer}
use Rattle.cf_forms.specs.declared.forms.Args.{Args}
use Rattle.cf_forms.specs.declared.forms.Landing.{Landing}
use Rattle.cf_forms.specs.declared.forms.Landing.TheVariants.{Settles as Lands, Links}
use Rattle.cf_forms.specs.declared.limits.Limit.{Limit}
use Rattle.cf_forms.specs.declared.forms.Answer.TheVariants.{Link}
use Rattle.cf_forms.specs.declared.forms.Form.{Form}
use Rattle.cf_forms.specs.declared.forms.Form.TheVariants.{Compose, ExceptionallyCompose}
use Rattle.cf_forms.specs.Forms.{bad_answer, composes, landing}
use Rattle.cf_forms.specs.Plans.{PlannedStage, attached_stage, form_at}
use Rattle.cf_forms.proofs.ListLemmas.{slice_get-longer}
use Rattle.cf_model.specs.declared.events.Event.{Event}
use Rattle.cf_model.specs.declared.events.Event.TheVariants.{Complete as Completes, Fail as Fails, FailAs as FailsAs, Cancel as Cancels, Claim as Claims, Finish as Finishes, Tick as Ticks, Attach as Attaches}
use Rattle.cf_model.specs.declared.replies.Finished.{Finished}
use Rattle.cf_model.specs.declared.replies.Finished.TheVariants.{NotYours, Won}
use Rattle.cf_model.specs.declared.events.Reply.{Reply}
use Rattle.cf_model.specs.declared.events.Reply.TheVariants.{Finish as ToldFinish}
use Rattle.cf_model.specs.declared.replies.Ticked.{Ticked}
use Rattle.cf_model.specs.declared.replies.Ticked.TheVariants.{Fired, Past}
use Rattle.cf_model.specs.declared.stage.Stage.{Stage}
use Rattle.cf_model.specs.declared.stage.Stage.TheVariants.{Pending, Ready, Claimed, Linked, Settled}
use Rattle.cf_model.specs.Events.{answered, attached_by, cancelled_by, cause_of, claimed_by, due_limits, finished_by, finishing, firing, landed, limit_outcome, linked_to, settled_by, settling, source_outcome}
use Rattle.cf_model.specs.Laws.{IsClosed}
use Rattle.cf_model.specs.States.{State, after, claim_at, linked_state, new_states, next_of, outcome_at, outcome_in, outcome_of, stage_at}
use Rattle.cf_model.proofs.Moves.{new_states-settled, set-settled, there}
use Rattle.cf_model.proofs.OpenClaims.{claim_before_close, claim_before_push, claim_before_set}
use Rattle.cf_model.proofs.StateLemmas.{after-unsettled, new_states-at, outcome_in-take, slice_get-set_other}
use Rattle.cf_request.specs.Linked.{AreBothOpen, HasTaken, IsTick}
use Rattle.cf_request.specs.Telling.{is_settled_in}
use Rattle.cf_request.proofs.Ends.{some_of}
use Rattle.cf_request.proofs.Turns.{set_at}

-- a stage is linked to a lower one, and nobody has a claim of it
pub record IsLinkedTo (stage other : ℕ) (s : State) : Type 0 where
  pub lower : other < stage
  pub link : slice_get s.stages stage ≡ Some (Linked other)
  pub unclaimed : (w : ℕ) → claim_at s stage ≡ Some w → ⊥

-- it was settled first: the other is left open, or that was a tick
pub record IsFirst (stage other : ℕ) (s : State) (e : Event) : Type 0 where
  pub settled : is_settled_in s.stages stage ≡ true
  pub how : (is_settled_in s.stages other ≡ false) ⊎ IsTick e

-- what an event makes of a linked stage
abbrev pub Becomes : ℕ → ℕ → State → Event → Type 0
Becomes stage other s e = IsLinkedTo stage other s ⊎ (HasTaken stage other s ⊎ IsFirst stage other s e)

-- ---- new states

pub get_there : {X : Type 0} (xs : List X) (i : ℕ) (x : X) → slice_get xs i ≡ Some x → i < length xs
get_there [] i x h = cc
get_there (y ∷ xs) zero x h = omega arith
get_there (y ∷ xs) (suc i) x h = let l = get_there xs i x h in omega (arith, l)

pub get_some : {X : Type 0} (xs : List X) (i : ℕ) → i < length xs → (x : X) × (slice_get xs i ≡ Some x)
get_some [] i l = absurd (omega (arith, l))
get_some (y ∷ xs) zero l = (y, refl)
get_some (y ∷ xs) (suc i) l = get_some xs i (omega (arith, l))

-- what isn't linked to a settled stage stays linked, and what is takes its outcome
linked_by : (stage other : ℕ) (s : State) (e : Event) (x : Option Outcome) → other < stage → outcome_in s.stages other ≡ x → slice_get s.stages stage ≡ Some (linked_state other x) → ((w : ℕ) → claim_at s stage ≡ Some w → ⊥) → Becomes stage other s e
linked_by stage other s e None l is link unclaimed = inl (record { lower = l; link = link; unclaimed = unclaimed })
linked_by stage other s e (Some o) l is link unclaimed = inr (inl (record { outcome = o; given = is; taken = ap (option_and_then outcome_of) link }))

-- among the new states
linked_new : (stage other : ℕ) (plan : List PlannedStage) (xs : List Stage) → other < stage → stage < length plan → slice_get xs stage ≡ Some (Linked other) →
    slice_get (new_states [] plan xs) stage ≡ Some (linked_state other (outcome_in (new_states [] plan xs) other))
linked_new stage other plan xs l there link =
    let p = get_some plan stage there in
    let new = new_states [] plan xs in
    new_states-at [] plan xs stage p.0 (Linked other) p.1 link ∙ ap (λ (x : Option Outcome). Some (linked_state other x)) (outcome_in-take new stage other l)

-- the states below one don't depend on it
take_new : (below : List Stage) (plan : List PlannedStage) (xs : List Stage) (i : ℕ) (y : Stage) → take i (new_states below plan (set xs i y)) ≡ take i (new_states below plan xs)
take_new below [] xs i y = take_set xs i y
  where
    take_set : (xs : List Stage) (i : ℕ) (y : Stage) → take i (set xs i y) ≡ take i xs
    take_set [] i y = refl
    take_set (x ∷ xs) zero y = refl
    take_set (x ∷ xs) (suc i) y = ap (λ (l : List Stage). x ∷ l) (take_set xs i y)
take_new below (p ∷ plan) [] i y = refl
take_new below (p ∷ plan) (x ∷ xs) zero y = refl
take_new below (p ∷ plan) (x ∷ xs) (suc i) y =
    let new = next_of below p.form p.sources x in ap (λ (l : List Stage). new ∷ l) (take_new (below ++ new ∷ []) plan xs i y)

-- while a stage is linked to another one, that one is open
linked_open : (stage other : ℕ) (s : State) (x : Option Outcome) → IsClosed s → stage < length s.plan.stages → IsLinkedTo stage other s → outcome_in s.stages other ≡ x → x ≡ None
linked_open stage other s None closed there h is = refl
linked_open stage other s (Some o) closed there h is =
    let now = linked_new stage other s.plan.stages s.stages h.lower there h.link in
    let same : Some (Linked other) ≡ (let y : Option Stage = Some (linked_state other (Some o)) in y) =
    sym h.link ∙ ap (λ (l : List Stage). slice_get l stage) (sym closed) ∙ now ∙ ap (λ (l : List Stage). Some (linked_state other (outcome_in l other))) closed ∙ ap (λ (y : Option Outcome). Some (linked_state other y)) is in
    (let no : ⊥ = cc in absurd no)

-- ---- a stage is settled

-- another one
after_other : (stage other : ℕ) (s t : State) (d : ℕ) (o : Outcome) (e : Event) → stage ≢ d → stage < length s.plan.stages → IsLinkedTo stage other s → t.stages ≡ new_states [] s.plan.stages (set s.stages d (Settled o)) → ((w : ℕ) → claim_at t stage ≡ Some w → ⊥) →
    Becomes stage other t e
after_other stage other s t d o e differs there h is unclaimed =
    let xs = set s.stages d (Settled o) in
    let new = linked_new stage other s.plan.stages xs h.lower there (slice_get-set_other s.stages d stage (Settled o) differs ∙ h.link) in
    linked_by stage other t e (outcome_in t.stages other) h.lower refl
    (ap (λ (l : List Stage). slice_get l stage) is ∙ new ∙ ap (λ (l : List Stage). Some (linked_state other (outcome_in l other))) (sym is)) unclaimed

-- itself
after_itself : (stage other : ℕ) (s t : State) (o : Outcome) (e : Event) → IsClosed s → stage < length s.plan.stages → IsLinkedTo stage other s → t.stages ≡ new_states [] s.plan.stages (set s.stages stage (Settled o)) → Becomes stage other t e
after_itself stage other s t o e closed there h is =
    let xs = set s.stages stage (Settled o) in
    let new = new_states [] s.plan.stages xs in
    let on : outcome_in new stage ≡ Some o = new_states-settled [] s.plan.stages xs stage o (ap (option_and_then outcome_of) (set_at s.stages stage (Settled o) (get_there s.stages stage (Linked other) h.link))) in
    let below : outcome_in new other ≡ outcome_in s.stages other =
    sym (outcome_in-take new stage other h.lower) ∙ ap (λ (l : List Stage). outcome_in l other) (take_new [] s.plan.stages s.stages stage (Settled o) ∙ ap (take stage) closed)
    ∙ outcome_in-take s.stages stage other h.lower in
    inr (inr (record {
      settled = ap (λ (l : List Stage). is_settled_in l stage) is ∙ ap is_some on;
      how = inl (ap (λ (l : List Stage). is_settled_in l other) is ∙ ap is_some (below ∙ linked_open stage other s (outcome_in s.stages other) closed there h refl));
    }))

-- any
after_any : (stage other : ℕ) (s t : State) (d : ℕ) (o : Outcome) (e : Event) → IsClosed s → stage < length s.plan.stages → IsLinkedTo stage other s → t.stages ≡ new_states [] s.plan.stages (set s.stages d (Settled o)) → ((w : ℕ) → claim_at t stage ≡ Some w → ⊥) →
    Becomes stage other t e
after_any stage other s t d o e closed there h is unclaimed = elim (cases_eq stage d) [
  | inl same ↦ after_itself stage other s t o e closed there h (is ∙ ap (λ (k : ℕ). new_states [] s.plan.stages (set s.stages k (Settled o))) (sym same))
  | inr differs ↦ after_other stage other s t d o e differs there h is unclaimed
]

pub after_stages : (s : State) (d : ℕ) (o : Outcome) → outcome_at s d ≡ None → (after s d o).stages ≡ new_states [] s.plan.stages (set s.stages d (Settled o))
after_stages s d o none = ap (λ (t : State). t.stages) (after-unsettled s d o none)

settled_becomes : (stage other : ℕ) (x : Option Outcome) (s : State) (d : ℕ) (o : Outcome) (e : Event) → IsClosed s → stage < length s.plan.stages → IsLinkedTo stage other s → outcome_at s d ≡ x → Becomes stage other ((settled_by x s d o).1) e
settled_becomes stage other (Some p) s d o e closed there h is = inl h
settled_becomes stage other None s d o e closed there h is = after_any stage other s (after s d o) d o e closed there h (after_stages s d o is) h.unclaimed

cancelled_becomes : (stage other : ℕ) (x : Option Outcome) (s : State) (d : ℕ) (e : Event) → IsClosed s → stage < length s.plan.stages → IsLinkedTo stage other s → outcome_at s d ≡ x → Becomes stage other ((cancelled_by x s d).1) e
cancelled_becomes stage other (Some p) s d e closed there h is = inl h
cancelled_becomes stage other None s d e closed there h is = after_any stage other s (after s d (Fault Cancelled false)) d (Fault Cancelled false) e closed there h (after_stages s d (Fault Cancelled false) is) h.unclaimed

-- ---- the other events

-- one that isn't ready isn't claimed
ready_other : (stage other k : ℕ) (s : State) (args : Args) → IsLinkedTo stage other s → slice_get s.stages k ≡ Some (Ready args) → stage ≢ k
ready_other stage other k s args h is same = (let here = ap (slice_get s.stages) same in let link = h.link in let no : ⊥ = cc in absurd no)

claimed_becomes : (stage other : ℕ) (x : Stage) (s : State) (who k : ℕ) (e : Event) → IsLinkedTo stage other s → stage_at s k ≡ x → Becomes stage other ((claimed_by x s who k).1) e
claimed_becomes stage other (Ready args) s who k e h is =
    let differs = ready_other stage other k s args h (there (slice_get s.stages k) (Ready args) is (λ p. cc)) in
    inl (record {
      lower = h.lower;
      link = slice_get-set_other s.stages k stage Claimed differs ∙ h.link;
      unclaimed = λ w open_now. elim (claim_before_set s.claims k stage (Some who) w open_now) [ inl here ↦ differs here.0 | inr before ↦ h.unclaimed w before ];
    })
claimed_becomes stage other (Settled o) s who k e h is = inl h
claimed_becomes stage other Claimed s who k e h is = inl h
claimed_becomes stage other (Linked j) s who k e h is = inl h
claimed_becomes stage other Pending s who k e h is = inl h

-- whoever finishes has a claim, so it is of another stage
linked_becomes : (stage other : ℕ) (x : Option Outcome) (s : State) (k j : ℕ) (e : Event) → stage ≢ k → stage < length s.plan.stages → IsLinkedTo stage other s → outcome_at s k ≡ None → Becomes stage other (linked_to x s k j) e
linked_becomes stage other (Some o) s k j e differs there h none = after_other stage other s (after s k (wrap o)) k (wrap o) e differs there h (after_stages s k (wrap o) none) h.unclaimed
linked_becomes stage other None s k j e differs there h none = inl (record { lower = h.lower; link = slice_get-set_other s.stages k stage (Linked j) differs ∙ h.link; unclaimed = h.unclaimed })

landed_becomes : (stage other : ℕ) (to : Landing) (s : State) (k : ℕ) (e : Event) → stage ≢ k → stage < length s.plan.stages → IsLinkedTo stage other s → outcome_at s k ≡ None → Becomes stage other (landed s k to) e
landed_becomes stage other (Lands o) s k e differs there h none = after_other stage other s (after s k o) k o e differs there h (after_stages s k o none) h.unclaimed
landed_becomes stage other (Links j) s k e differs there h none = linked_becomes stage other (outcome_at s j) s k j e differs there h none

finished_becomes : (stage other : ℕ) (x : Option Outcome) (s : State) (k : ℕ) (answer : Answer) (e : Event) → stage ≢ k → stage < length s.plan.stages → IsLinkedTo stage other s → outcome_at s k ≡ x → Becomes stage other ((finished_by x s k answer).1) e
finished_becomes stage other (Some o) s k answer e differs there h is = inl h
finished_becomes stage other None s k answer e differs there h is = landed_becomes stage other (landing (form_at s.plan.stages k) k (source_outcome s k) answer) s k e differs there h is

held_by : (who : ℕ) (c : Option ℕ) → option_map_or (λ w. w == who) c false ≡ true → (w : ℕ) × (c ≡ Some w)
held_by who None h = cc
held_by who (Some w) h = (w, refl)

finishing_becomes : (stage other : ℕ) (b : Bool) (s : State) (who k : ℕ) (answer : Answer) (e : Event) → stage < length s.plan.stages → IsLinkedTo stage other s → option_map_or (λ w. w == who) (claim_at s k) false ≡ b →
    Becomes stage other ((cond b (finished_by (outcome_at s k) (record s { claims = set s.claims k None }) k answer) (NotYours, s)).1) e
finishing_becomes stage other true s who k answer e there h held =
    let w = held_by who (claim_at s k) held in
    let differs : stage ≢ k = (λ same. h.unclaimed w.0 (ap (claim_at s) same ∙ w.1)) in
    let closed : State = record s { claims = set s.claims k None } in
    finished_becomes stage other (outcome_at s k) closed k answer e differs there (record { lower = h.lower; link = h.link; unclaimed = λ v now. h.unclaimed v ((claim_before_close s.claims k stage v now).1) }) refl
finishing_becomes stage other false s who k answer e there h held = inl h

-- a tick settles any stages
settled_on : (x : Option Outcome) (s : State) (d : ℕ) (o : Outcome) (i : ℕ) → outcome_at s d ≡ x → is_settled_in s.stages i ≡ true → is_settled_in ((settled_by x s d o).1.stages) i ≡ true
settled_on (Some p) s d o i is on = on
settled_on None s d o i is on =
    let was = some_of (outcome_in s.stages i) on in
    ap (λ (l : List Stage). is_settled_in l i) (after_stages s d o is)
    ∙ ap is_some (new_states-settled [] s.plan.stages (set s.stages d (Settled o)) i was.0 (set-settled s.stages d i (Settled o) was.0 is was.1))

firing_on : (limits : List Limit) (count : ℕ) (s : State) (i : ℕ) → is_settled_in s.stages i ≡ true → is_settled_in ((firing count s limits).1.stages) i ≡ true
firing_on [] count s i on = on
firing_on (l ∷ limits) count s i on =
    let done = settling s l.stage (limit_outcome l.kind) in
    firing_on limits (cond done.0 (count + 1) count) done.1 i (settled_on (outcome_at s l.stage) s l.stage (limit_outcome l.kind) i refl on)

-- what a tick's limits make of it
abbrev Fires : ℕ → ℕ → State → Type 0
Fires stage other s = IsLinkedTo stage other s ⊎ (is_settled_in s.stages stage ≡ true)

fires_by : (stage other : ℕ) (s t : State) (d : ℕ) (o : Outcome) (e : Event) → stage < length s.plan.stages → IsLinkedTo stage other s → t.stages ≡ new_states [] s.plan.stages (set s.stages d (Settled o)) → ((w : ℕ) → claim_at t stage ≡ Some w → ⊥) → Fires stage other t
fires_by stage other s t d o e there h is unclaimed = elim (cases_eq stage d) [
  | inl same ↦ (let on = new_states-settled [] s.plan.stages (set s.stages d (Settled o)) stage o
      (ap (option_and_then outcome_of) (ap (λ (k : ℕ). slice_get (set s.stages k (Settled o)) stage) (sym same) ∙ set_at s.stages stage (Settled o) (get_there s.stages stage (Linked other) h.link))) in
      inr (ap (λ (l : List Stage). is_settled_in l stage) is ∙ ap is_some on))
  | inr differs ↦ elim (after_other stage other s t d o e differs there h is unclaimed) [
    | inl link ↦ inl link
    | inr rest ↦ elim rest [ inl taken ↦ inr (ap is_some taken.taken) | inr first ↦ inr first.settled ]
  ]
]

fires_one : (stage other : ℕ) (x : Option Outcome) (s : State) (d : ℕ) (o : Outcome) (e : Event) → stage < length s.plan.stages → IsLinkedTo stage other s → outcome_at s d ≡ x → Fires stage other ((settled_by x s d o).1)
fires_one stage other (Some p) s d o e there h is = inl h
fires_one stage other None s d o e there h is = fires_by stage other s (after s d o) d o e there h (after_stages s d o is) h.unclaimed

plan_of : (x : Option Outcome) (s : State) (d : ℕ) (o : Outcome) → (settled_by x s d o).1.plan ≡ s.plan
plan_of (Some p) s d o = refl
plan_of None s d o = refl

fires_all : (stage other : ℕ) (limits : List Limit) (count : ℕ) (s : State) (e : Event) → stage < length s.plan.stages → IsLinkedTo stage other s → Fires stage other ((firing count s limits).1)
fires_all stage other [] count s e there h = inl h
fires_all stage other (l ∷ limits) count s e there h =
    let o = limit_outcome l.kind in
    let done = settling s l.stage o in
    let more = cond done.0 (count + 1) count in
    let plan = ap (λ p. length p.stages) (plan_of (outcome_at s l.stage) s l.stage o) in
    elim (fires_one stage other (outcome_at s l.stage) s l.stage o e there h refl) [
      | inl link ↦ fires_all stage other limits more done.1 e (omega (arith, plan, there)) link
      | inr on ↦ inr (firing_on limits more done.1 stage on)
    ]

ticking_becomes : (stage other : ℕ) (b : Bool) (s : State) (who now : ℕ) → stage < length s.plan.stages → IsLinkedTo stage other s →
    (let fired = firing 0 s (due_limits s now) in Becomes stage other ((cond {A = Ticked × State} b (Past, s) (Fired fired.0, record fired.1 { moment = now; used = s.used + length (due_limits s now) })).1) (Ticks who now))
ticking_becomes stage other true s who now there h = inl h
ticking_becomes stage other false s who now there h = elim (fires_all stage other (due_limits s now) 0 s (Ticks who now) there h) [
  | inl link ↦ inl (record { lower = link.lower; link = link.link; unclaimed = link.unclaimed })
  | inr on ↦ inr (inr (record { settled = on; how = inr (who, now, refl) }))
]

attached_becomes : (stage other room : ℕ) (s : State) (new : PlannedStage) (e : Event) → stage < length s.plan.stages → IsLinkedTo stage other s → Becomes stage other ((attached_by room s new).1) e
attached_becomes stage other zero s new e there h = inl h
attached_becomes stage other (suc room) s new e there h =
    let t = (attached_by (suc room) s new).1 in
    let size = length-append s.plan.stages (new ∷ []) in
    linked_by stage other t e (outcome_in t.stages other) h.lower refl
    (linked_new stage other (s.plan.stages ++ new ∷ []) (s.stages ++ Pending ∷ []) h.lower (omega (arith, size, there)) (slice_get-longer s.stages (Pending ∷ []) stage (Linked other) h.link))
    (λ w now. h.unclaimed w (claim_before_push s.claims stage w now))

-- ---- any event

pub becomes : (stage other : ℕ) (s : State) (e : Event) → IsClosed s → stage < length s.plan.stages → IsLinkedTo stage other s → Becomes stage other ((answered s e).1) e
becomes stage other s (Completes who k v) closed there h = settled_becomes stage other (outcome_at s k) s k (Gives v) (Completes who k v) closed there h refl
becomes stage other s (Fails who k code) closed there h = settled_becomes stage other (outcome_at s k) s k (Fault (Thrown code) false) (Fails who k code) closed there h refl
becomes stage other s (FailsAs who k failure) closed there h = settled_becomes stage other (outcome_at s k) s k (Fault (cause_of failure) false) (FailsAs who k failure) closed there h refl
becomes stage other s (Cancels who k) closed there h = cancelled_becomes stage other (outcome_at s k) s k (Cancels who k) closed there h refl
becomes stage other s (Claims who k) closed there h = claimed_becomes stage other (stage_at s k) s who k (Claims who k) h refl
becomes stage other s (Finishes who k answer) closed there h = finishing_becomes stage other (option_map_or (λ w. w == who) (claim_at s k) false) s who k answer (Finishes who k answer) there h refl
becomes stage other s (Ticks who now) closed there h = ticking_becomes stage other (nat_lt now s.moment) s who now there h
becomes stage other s (Attaches who form of function) closed there h = attached_becomes stage other s.plan.room s (attached_stage form of function) (Attaches who form of function) there h

-- ---- where it is linked

landing_link : (form : Form) (i : ℕ) (source : Option Outcome) (j : ℕ) → composes form ≡ true → j < i → landing form i source (Link j) ≡ Links j
landing_link Compose i source j h l = ap (λ (b : Bool). cond (true && b) (Links j) bad_answer) (lt-ltb j i l)
landing_link ExceptionallyCompose i source j h l = ap (λ (b : Bool). cond (true && b) (Links j) bad_answer) (lt-ltb j i l)
landing_link form i source j h l = cc

-- it is linked, or has taken the outcome at once
abbrev pub IsLinkedNow : ℕ → ℕ → State → Type 0
IsLinkedNow stage other s = IsLinkedTo stage other s ⊎ HasTaken stage other s

linked_at : (stage other : ℕ) (x : Option Outcome) (s : State) → other < stage → stage < length s.stages → outcome_at s stage ≡ None → outcome_at s other ≡ x → ((w : ℕ) → claim_at s stage ≡ Some w → ⊥) → IsLinkedNow stage other (linked_to x s stage other)
linked_at stage other None s l there none is unclaimed = inl (record { lower = l; link = set_at s.stages stage (Linked other) there; unclaimed = unclaimed })
linked_at stage other (Some o) s l there none is unclaimed =
    let xs = set s.stages stage (Settled (wrap o)) in
    let same = after_stages s stage (wrap o) none in
    inr (record {
      outcome = o;
      given = ap (λ (l : List Stage). outcome_in l other) same ∙ new_states-settled [] s.plan.stages xs other o (set-settled s.stages stage other (Settled (wrap o)) o none is);
      taken = ap (λ (l : List Stage). outcome_in l stage) same ∙ new_states-settled [] s.plan.stages xs stage (wrap o) (ap (option_and_then outcome_of) (set_at s.stages stage (Settled (wrap o)) there));
    })

finished_linked : (stage other : ℕ) (x : Option Outcome) (s : State) → composes (form_at s.plan.stages stage) ≡ true → other < stage → stage < length s.stages → outcome_at s stage ≡ x → ((w : ℕ) → claim_at s stage ≡ Some w → ⊥) →
    (finished_by x s stage (Link other)).0 ≡ Won → IsLinkedNow stage other ((finished_by x s stage (Link other)).1)
finished_linked stage other (Some o) s form l there is unclaimed won = (let no : ⊥ = cc in absurd no)
finished_linked stage other None s form l there is unclaimed won =
    let lands = landing_link (form_at s.plan.stages stage) stage (source_outcome s stage) other form l in
    subst (λ (to : Landing). IsLinkedNow stage other (landed s stage to)) (sym lands) (linked_at stage other (outcome_at s other) s l there is refl unclaimed)

finishing_linked : (stage other : ℕ) (b : Bool) (s : State) → composes (form_at s.plan.stages stage) ≡ true → other < stage → stage < length s.stages →
    (let closed : State = record s { claims = set s.claims stage None } in (r : Finished × State) → r ≡ cond b (finished_by (outcome_at s stage) closed stage (Link other)) (NotYours, s) → r.0 ≡ Won → IsLinkedNow stage other r.1)
finishing_linked stage other true s form l there r is won =
    let closed : State = record s { claims = set s.claims stage None } in
    subst (λ (q : Finished × State). IsLinkedNow stage other q.1) (sym is)
    (finished_linked stage other (outcome_at s stage) closed form l there refl (λ w now. (claim_before_close s.claims stage stage w now).0 refl) (ap (λ (q : Finished × State). q.0) (sym is) ∙ won))
finishing_linked stage other false s form l there r is won = (let no : NotYours ≡ Won = ap (λ (q : Finished × State). q.0) (sym is) ∙ won in let never : ⊥ = cc in absurd never)

won_by : (f : Finished) → (let r : Reply = ToldFinish Won in r) ≡ ToldFinish f → f ≡ Won
won_by f h = cc

-- by a finish that came in time
pub linked_now : (stage other who : ℕ) (s t : State) → composes (form_at s.plan.stages stage) ≡ true → other < stage → stage < length s.stages → (ToldFinish Won, t) ≡ answered s (Finishes who stage (Link other)) → IsLinkedNow stage other t
linked_now stage other who s t form l there told =
    let done = finishing s who stage (Link other) in
    let won = won_by done.0 (ap (λ p. p.0) told) in
    subst (IsLinkedNow stage other) (sym (ap (λ p. p.1) told))
    (finishing_linked stage other (option_map_or (λ w. w == who) (claim_at s stage) false) s form l there done refl won)

-- both are open while it is linked
pub both_open : (stage other : ℕ) (s : State) → IsClosed s → stage < length s.plan.stages → IsLinkedTo stage other s → AreBothOpen stage other s
both_open stage other s closed there h = record {
  stage_open = ap is_some (ap (option_and_then outcome_of) h.link);
  other_open = ap is_some (linked_open stage other s (outcome_in s.stages other) closed there h refl);
}
