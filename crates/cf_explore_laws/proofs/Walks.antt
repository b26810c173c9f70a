-- A walk over a history: the order so far, and where each caller stands.
use Rattle.std.proofs.Common.{◌≡◌, ℕ, zero, suc, ◌+◌, ◌-◌, ◌<◌, ◌≤◌, Bool, cond, eq-eqb, Some, None, Option, List, [], ◌∷◌, ◌++◌, inl, inr, length, take, ap, arith, refl, sym, ◌∙◌, subst, append_assoc, append-nil, length-append}
use Rattle.std.specs.Prelude.{Contains, ◌⊎◌, map, slice_get}
use Rattle.std.specs.List.{All, filter}
use Rattle.std.proofs.Math.Nat.{eq-or-lt_of_le}
use Rattle.std.proofs.lemmas.List.{length-set}
use Rattle.std.proofs.lemmas.List.Elements.{All-head, All-tail}
use Rattle.cf_forms.specs.Meanings.{Meanings}
use Rattle.cf_model.specs.declared.asks.Ask.{Ask}
use Rattle.cf_model.specs.declared.asks.Told.{Told}
use Rattle.cf_model.specs.declared.events.Event.{Event}
use Rattle.cf_model.specs.declared.events.Reply.{Reply}
use Rattle.cf_model.specs.Calls.{as_call, who_of}
use Rattle.cf_model.proofs.Histories.{state_after-append}
use Rattle.cf_model.specs.Ranges.{EventFits}
use Rattle.cf_model.specs.States.{State, start}
use Rattle.cf_model.specs.Events.{answered, state_after, state_at, told}
use Rattle.cf_event.specs.declared.record.Record.{Record}
use Rattle.cf_event.specs.declared.record.Record.TheVariants.{Did, Saw}
use Rattle.cf_event.specs.Events.{placed}
use Rattle.cf_event.specs.Histories.{InOrder, IsAnswered, dids}
use Rattle.cf_explore.specs.declared.step.Hand.{Hand}
use Rattle.cf_explore.specs.declared.step.Move.{Move}
use Rattle.cf_explore.specs.declared.step.Move.TheVariants as moving
use Rattle.cf_explore.specs.declared.step.Place.{Place}
use Rattle.cf_explore.specs.declared.step.Step.{Step}
use Rattle.cf_explore.specs.declared.step.Step.TheVariants as steps
use Rattle.cf_explore.specs.Programs.{Programmed, Situated, hand_at, place_at, start_of, step_of}
use Rattle.cf_explore.specs.Moves.{carried_out, event_of, moved, moves, onward, step_event}
use Rattle.cf_explore.specs.Orders.{AreMoves, led}
use Rattle.cf_explore_laws.specs.Tellings.{AreWork, IsToldBy, IsToldIn, TellsEach, and_event, but_vain, came_before, events_by, step_for}
use Rattle.cf_forms.proofs.ListLemmas.{slice_get-push}
use Rattle.cf_explore_laws.proofs.Lists.{same-rest}
use Rattle.cf_explore_laws.proofs.Orders.{events-push, led-push, moves-push}
use Rattle.cf_explore_laws.proofs.Callers.{IsNextDid, IsPast, at-done, but_vain-took, caller-took, calling-is, event-is, may-step, mine, moved-step, next-did, next-step, onward-other, onward-self, order-later, other-number, same_number, taken-done}

-- what is walked over
pub record Walk : Type 0 where
  pub meanings : Meanings
  pub history : List Event
  pub callers : List (ℕ × List Record)
  pub program : Programmed

-- An order so far: it is these events, k in number, but for claims in vain.
pub record Comes (w : Walk) (k : ℕ) (done : List Event) (order : List Move) (s : Situated) : Type 0 where
  pub can_be : AreMoves w.meanings w.program (start_of w.program) order
  pub leads : led w.meanings w.program (start_of w.program) order ≡ s
  pub events : events_by w.meanings w.program (start_of w.program) order ≡ but_vain (length w.program.callers) (start w.program.plan) done
  pub so_many : length done ≡ k
  pub state : s.state ≡ state_after (start w.program.plan) done
  pub places : length s.places ≡ length w.program.callers
  pub hands : length s.hands ≡ w.program.workers

-- Where a caller stands in it: some of its records were told, and these are left. Callers below b have no question left at this place.
pub record Stands (w : Walk) (k b : ℕ) (rest : List Event) (order : List Move) (c : ℕ) (place : Place) (left : List Record) : Type 0 where
  pub so_far : List Record
  pub owner : Contains w.callers (c, so_far ++ left)
  pub steps : slice_get w.program.callers c ≡ Some (map step_for (so_far ++ left))
  pub at : place.at ≡ length so_far
  pub answers : All (IsAnswered w.program.plan w.history) left
  pub in_order : InOrder k left
  pub changes : dids left ≡ filter (mine c) (placed k rest)
  pub past : c < b → IsPast k left
  pub tells : TellsEach w.meanings w.program w.history order c so_far

abbrev pub HasStand : Walk → ℕ → ℕ → List Event → List Move → ℕ → Place → Type 0
HasStand w k b rest order c place = (left : List Record) × Stands w k b rest order c place left

abbrev pub Each : Walk → ℕ → ℕ → List Event → List Move → Situated → Type 0
Each w k b rest order s = (d : ℕ) → d < length w.program.callers → HasStand w k b rest order d (place_at s d)

abbrev pub Others : Walk → ℕ → ℕ → List Event → List Move → Situated → ℕ → Type 0
Others w k b rest order s c = (d : ℕ) → d < length w.program.callers → (d ≡ c → ⊥) → HasStand w k b rest order d (place_at s d)

-- where a worker stands: what its records tell beside questions is still to come, and it has this in hand
abbrev pub WorkStand : Walk → ℕ → List Event → ℕ → Hand → Type 0
WorkStand w k rest v hand =
    (left : List Record) × (dids left ≡ filter (mine (length w.program.callers + v)) (placed k rest)) × AreWork w.meanings w.program.plan w.history hand left
    × All (IsAnswered w.program.plan w.history) left

abbrev pub Working : Walk → ℕ → List Event → Situated → Type 0
Working w k rest s = (v : ℕ) → v < w.program.workers → WorkStand w k rest v (hand_at s v)

-- ---- one move more

pub comes-more : (w : Walk) (k l : ℕ) (done more : List Event) (order : List Move) (s t : Situated) (by : Move) (o : Option Event) → Comes w k done order s →
    Contains (moves w.program s) by → moved w.meanings w.program s by ≡ t → event_of w.program s by ≡ o →
    but_vain (length w.program.callers) (start w.program.plan) more ≡ but_vain (length w.program.callers) (start w.program.plan) done ++ and_event o [] →
    length more ≡ l → t.state ≡ state_after (start w.program.plan) more → length t.places ≡ length s.places → length t.hands ≡ length s.hands → Comes w l more (order ++ by ∷ []) t
comes-more w k l done more order s t by o h can is event events so_many state places hands =
    let m = w.meanings in
    let p = w.program in
    record {
      can_be = moves-push m p (start_of p) order by h.can_be (subst (λ (x : Situated). Contains (moves p x) by) (sym h.leads) can);
      leads = led-push m p (start_of p) order by ∙ ap (λ (x : Situated). moved m p x by) h.leads ∙ is;
      events = events-push m p (start_of p) order by
          ∙ ap (λ (es : List Event). es ++ and_event (event_of p (led m p (start_of p) order) by) []) h.events
          ∙ ap (λ (x : Situated). but_vain (length p.callers) (start p.plan) done ++ and_event (event_of p x by) []) h.leads
          ∙ ap (λ (q : Option Event). but_vain (length p.callers) (start p.plan) done ++ and_event q []) event
          ∙ sym events;
      so_many = so_many;
      state = state;
      places = places ∙ h.places;
      hands = hands ∙ h.hands;
    }

told-still : (m : Meanings) (p : Programmed) (history : List Event) (order : List Move) (by : Move) (c j : ℕ) (r : Record) → IsToldBy m p history order c j r → IsToldBy m p history (order ++ by ∷ []) c j r
told-still m p history order by c j r h = record {
  before = h.before;
  later = h.later ++ by ∷ [];
  here = ap (λ (o : List Move). o ++ by ∷ []) h.here ∙ append_assoc h.before (moving.Step c ∷ h.later) (by ∷ []);
  next = h.next;
  says = h.says;
  events = h.events;
}

tells-still : (m : Meanings) (p : Programmed) (history : List Event) (order : List Move) (by : Move) (c : ℕ) (so_far : List Record) → TellsEach m p history order c so_far → TellsEach m p history (order ++ by ∷ []) c so_far
tells-still m p history order by c so_far h = λ j r e. told-still m p history order by c j r (h j r e)

-- the record that it tells
tells-more : (w : Walk) (k : ℕ) (done rest : List Event) (order : List Move) (s : Situated) (c : ℕ) (so_far : List Record) (r : Record) → done ++ rest ≡ w.history → Comes w k done order s →
    TellsEach w.meanings w.program w.history order c so_far → (place_at s c).at ≡ length so_far → IsToldIn s.state r → k ≡ came_before r →
    TellsEach w.meanings w.program w.history (order ++ moving.Step c ∷ []) c (so_far ++ r ∷ [])
tells-more w k done rest order s c so_far r whole h before at says so_many = λ j q e. split j q (slice_get-push so_far r j q e)
  where
    here : IsToldBy w.meanings w.program w.history (order ++ moving.Step c ∷ []) c (length so_far) r
    here = record {
      before = order;
      later = [];
      here = refl;
      next = ap (λ (x : Situated). (place_at x c).at) h.leads ∙ at;
      says = subst (λ (x : Situated). IsToldIn x.state r) (sym h.leads) says;
      events = h.events ∙ ap (but_vain (length w.program.callers) (start w.program.plan)) (sym (taken-done done rest w.history k whole h.so_many)
          ∙ ap (λ (q : ℕ). take q w.history) so_many);
    }

    split : (j : ℕ) (q : Record) → (slice_get so_far j ≡ Some q) ⊎ ((j ≡ length so_far) × (r ≡ q)) → IsToldBy w.meanings w.program w.history (order ++ moving.Step c ∷ []) c j q
    split j q (inl e) = told-still w.meanings w.program w.history order (moving.Step c) c j q (before j q e)
    split j q (inr e) = subst (λ (i : ℕ). IsToldBy w.meanings w.program w.history (order ++ moving.Step c ∷ []) c i q) (sym e.0)
        (subst (λ (x : Record). IsToldBy w.meanings w.program w.history (order ++ moving.Step c ∷ []) c (length so_far) x) e.1 here)

-- another's move changes nothing of a caller
pub stands-still : (w : Walk) (k b : ℕ) (rest : List Event) (order : List Move) (by : Move) (c : ℕ) (old new : Place) (left : List Record) → new.at ≡ old.at →
    Stands w k b rest order c old left → Stands w k b rest (order ++ by ∷ []) c new left
stands-still w k b rest order by c old new left same h = record {
  so_far = h.so_far;
  owner = h.owner;
  steps = h.steps;
  at = same ∙ h.at;
  answers = h.answers;
  in_order = h.in_order;
  changes = h.changes;
  past = h.past;
  tells = tells-still w.meanings w.program w.history order by c h.so_far h.tells;
}

-- its own takes the first of what is left
stands-more : (w : Walk) (k l b : ℕ) (done : List Event) (rest later : List Event) (order : List Move) (s t : Situated) (c : ℕ) (r : Record) (more : List Record) → done ++ rest ≡ w.history → Comes w k done order s →
    Stands w k b rest order c (place_at s c) (r ∷ more) → (place_at t c).at ≡ (place_at s c).at + 1 → IsToldIn s.state r → k ≡ came_before r →
    InOrder l more → dids more ≡ filter (mine c) (placed l later) → (a : ℕ) → (c < a → IsPast l more) → Stands w l a later (order ++ moving.Step c ∷ []) c (place_at t c) more
stands-more w k l b done rest later order s t c r more whole comes h at says so_many in_order changes a past = record {
  so_far = h.so_far ++ r ∷ [];
  owner = subst (λ (x : List Record). Contains w.callers (c, x)) (sym (append_assoc h.so_far (r ∷ []) more)) h.owner;
  steps = h.steps ∙ ap (λ (x : List Record). Some (map step_for x)) (sym (append_assoc h.so_far (r ∷ []) more));
  at = (let so = h.at in omega (arith, length-append h.so_far (r ∷ [])));
  answers = All-tail (IsAnswered w.program.plan w.history) r more h.answers;
  in_order = in_order;
  changes = changes;
  past = past;
  tells = tells-more w k done rest order s c h.so_far r whole comes h.tells h.at says so_many;
}

-- ---- the questions at one place

-- so far as to caller b, no question is left at this place
pub record Asked (w : Walk) (k b : ℕ) (done rest : List Event) : Type 0 where
  pub order : List Move
  pub s : Situated
  pub comes : Comes w k done order s
  pub each : Each w k b rest order s
  pub working : Working w k rest s

with-past : (w : Walk) (k b a : ℕ) (rest : List Event) (order : List Move) (c : ℕ) (place : Place) (left : List Record) → (c < a → IsPast k left) →
    Stands w k b rest order c place left → Stands w k a rest order c place left
with-past w k b a rest order c place left past h = record {
  so_far = h.so_far;
  owner = h.owner;
  steps = h.steps;
  at = h.at;
  answers = h.answers;
  in_order = h.in_order;
  changes = h.changes;
  past = past;
  tells = h.tells;
}

one-asked : (w : Walk) (k b : ℕ) (done rest : List Event) (order : List Move) (s : Situated) (left : List Record) → Comes w k done order s → Others w k b rest order s b →
    Stands w k b rest order b (place_at s b) left → Working w k rest s → IsPast k left → Asked w k (suc b) done rest
one-asked w k b done rest order s left comes others stands working past = record {
  order = order;
  s = s;
  comes = comes;
  each = λ d l. split d l (same_number d b);
  working = working;
}
  where
    split : (d : ℕ) → d < length w.program.callers → (d ≡ b) ⊎ (d ≡ b → ⊥) → HasStand w k (suc b) rest order d (place_at s d)
    split d l (inl e) = subst (λ (x : ℕ). HasStand w k (suc b) rest order x (place_at s x)) (sym e)
        (left, with-past w k b (suc b) rest order b (place_at s b) left (λ less. past) stands)
    split d l (inr other) = (let h = others d l other in
        (h.0, with-past w k b (suc b) rest order d (place_at s d) h.0 (λ less. h.1.past (omega (arith, other))) h.1))

-- one question of caller b
record Asking (w : Walk) (k b : ℕ) (done rest : List Event) (more : List Record) : Type 0 where
  order : List Move
  s : Situated
  comes : Comes w k done order s
  others : Others w k b rest order s b
  stands : Stands w k b rest order b (place_at s b) more
  working : Working w k rest s

ask-one : (w : Walk) (k b : ℕ) (done rest : List Event) (order : List Move) (s : Situated) (place : ℕ) (ask : Ask) (answer : Told) (more : List Record) → done ++ rest ≡ w.history →
    b < length w.program.callers → Comes w k done order s → Others w k b rest order s b → Stands w k b rest order b (place_at s b) (Saw place ask answer ∷ more) → Working w k rest s → k ≡ place →
    Asking w k b done rest more
ask-one w k b done rest order s place ask answer more whole l comes others h working here =
    let p = w.program in
    let r : Record = Saw place ask answer in
    let step : step_of p s b ≡ Some (steps.Look ask) = next-step p s b h.so_far more r h.steps h.at in
    let now : s.state ≡ state_after (start w.program.plan) done = comes.state in
    let says : answer ≡ told s.state ask =
    (All-head (IsAnswered w.program.plan w.history) r more h.answers).1
    ∙ ap (λ (x : State). told x ask) (at-done w.program.plan done rest w.history place whole (comes.so_many ∙ here) ∙ sym now) in
    let within : b < length s.places = (let so = comes.places in omega arith) in
    record {
      order = order ++ moving.Step b ∷ [];
      s = onward s b;
      comes = comes-more w k k done done order s (onward s b) (moving.Step b) None comes (may-step p s b (steps.Look ask) step l) (moved-step w.meanings p s b (steps.Look ask) step)
          (ap (λ (o : Option Step). step_event o (length s.state.plan.stages) b) step) (sym (append-nil (but_vain (length p.callers) (start p.plan) done))) comes.so_many now (length-set s.places b _) refl;
      others = λ d less other. (let one = others d less other in
          (one.0, stands-still w k b rest order (moving.Step b) d (place_at s d) (place_at (onward s b) d) one.0 (ap (λ (q : Place). q.at) (onward-other s b d other)) one.1));
      stands = stands-more w k k b done rest rest order s (onward s b) b r more whole comes h (onward-self s b within) says here
          (subst (λ (q : ℕ). InOrder q more) (sym here) h.in_order.1) h.changes b (λ less. absurd (omega arith));
      working = working;
    }

-- all of them
ask-all : (w : Walk) (k b : ℕ) (done rest : List Event) → done ++ rest ≡ w.history → b < length w.program.callers → (left : List Record) (order : List Move) (s : Situated) → Comes w k done order s →
    Others w k b rest order s b → Stands w k b rest order b (place_at s b) left → Working w k rest s → Asked w k (suc b) done rest
ask-all w k b done rest whole l [] order s comes others h working = one-asked w k b done rest order s [] comes others h working tt
ask-all w k b done rest whole l (Did place event reply ∷ left) order s comes others h working = one-asked w k b done rest order s (Did place event reply ∷ left) comes others h working tt
ask-all w k b done rest whole l (Saw place ask answer ∷ left) order s comes others h working = split (eq-or-lt_of_le h.in_order.0) (ask-all w k b done rest whole l left)
  where
    split : (k ≡ place) ⊎ (k < place) →
        ((order : List Move) (s : Situated) → Comes w k done order s → Others w k b rest order s b → Stands w k b rest order b (place_at s b) left → Working w k rest s → Asked w k (suc b) done rest) →
        Asked w k (suc b) done rest
    split (inl here) later = (let one = ask-one w k b done rest order s place ask answer left whole l comes others h working here in
        later one.order one.s one.comes one.others one.stands one.working)
    split (inr less) later = one-asked w k b done rest order s (Saw place ask answer ∷ left) comes others h working less

pub asked : (w : Walk) (k : ℕ) (done rest : List Event) → done ++ rest ≡ w.history → (order : List Move) (s : Situated) → Comes w k done order s → Each w k 0 rest order s → Working w k rest s →
    (b : ℕ) → b ≤ length w.program.callers → Asked w k b done rest
asked w k done rest whole order s comes each working zero le = record { order = order; s = s; comes = comes; each = each; working = working }
asked w k done rest whole order s comes each working (suc b) le =
    let h = asked w k done rest whole order s comes each working b (omega arith) in
    let within : b < length w.program.callers = omega arith in
    let one = h.each b within in
    ask-all w k b done rest whole within one.0 h.order h.s h.comes (λ d l other. h.each d l) one.1 h.working

-- ---- one event

-- what is left of another's calls
skip : (d k : ℕ) (e : Event) (rest : List Event) → (d ≡ who_of e → ⊥) → filter (mine d) (placed k (e ∷ rest)) ≡ filter (mine d) (placed (suc k) rest)
skip d k e rest other =
    ap (λ (x : Bool). cond x ((suc k, e) ∷ filter (mine d) (placed (suc k) rest)) (filter (mine d) (placed (suc k) rest))) (other-number (who_of e) d other)

pub mine-first : (c k : ℕ) (e : Event) (rest : List Event) → who_of e ≡ c → filter (mine c) (placed k (e ∷ rest)) ≡ (suc k, e) ∷ filter (mine c) (placed (suc k) rest)
mine-first c k e rest is =
    ap (λ (x : Bool). cond x ((suc k, e) ∷ filter (mine c) (placed (suc k) rest)) (filter (mine c) (placed (suc k) rest))) (eq-eqb (who_of e) c is)

-- where the event comes
pub state-now : (w : Walk) (k : ℕ) (done : List Event) (e : Event) (rest : List Event) (order : List Move) (s : Situated) → done ++ e ∷ rest ≡ w.history → Comes w k done order s →
    state_at w.program.plan w.history (suc k - 1) ≡ s.state
state-now w k done e rest order s whole comes =
    ap (state_at w.program.plan w.history) (let back : suc k - 1 ≡ k = omega arith in back)
    ∙ at-done w.program.plan done (e ∷ rest) w.history k whole comes.so_many ∙ sym comes.state

-- what the record of the event says is what the graph answers now
pub says-now : (w : Walk) (k : ℕ) (done : List Event) (e : Event) (rest : List Event) (order : List Move) (s : Situated) (reply : Reply) → done ++ e ∷ rest ≡ w.history → Comes w k done order s →
    IsAnswered w.program.plan w.history (Did (suc k) e reply) → reply ≡ (answered s.state e).0
says-now w k done e rest order s reply whole comes h = h.2 ∙ ap (λ (x : State). (answered x e).0) (state-now w k done e rest order s whole comes)

-- another caller is told it behind the event
pub other-later : (w : Walk) (k n : ℕ) (e : Event) (rest : List Event) (order : List Move) (d : ℕ) (place : Place) (left : List Record) → d < n → (d ≡ who_of e → ⊥) →
    Stands w k n (e ∷ rest) order d place left → Stands w (suc k) 0 rest order d place left
other-later w k n e rest order d place left l other h =
    let later : dids left ≡ filter (mine d) (placed (suc k) rest) = h.changes ∙ skip d k e rest other in
    record {
      so_far = h.so_far;
      owner = h.owner;
      steps = h.steps;
      at = h.at;
      answers = h.answers;
      in_order = order-later d k rest left h.in_order (h.past l) later;
      changes = later;
      past = λ less. absurd (omega arith);
      tells = h.tells;
    }

-- another worker does what it has to do behind the event
pub work-later : (w : Walk) (k : ℕ) (e : Event) (rest : List Event) (v : ℕ) (hand : Hand) → (length w.program.callers + v ≡ who_of e → ⊥) → WorkStand w k (e ∷ rest) v hand → WorkStand w (suc k) rest v hand
work-later w k e rest v hand other h = (h.0, h.1 ∙ skip (length w.program.callers + v) k e rest other, h.2, h.3)

-- the situation that a caller's event leads to
abbrev pub led_on : Situated → Event → Situated
led_on s e = onward (carried_out s e (answered s.state e)) (who_of e)

event-each : (w : Walk) (k : ℕ) (done : List Event) (e : Event) (rest : List Event) (h : Asked w k (length w.program.callers) done (e ∷ rest)) (more : List Record) →
    Stands w (suc k) 0 rest (h.order ++ moving.Step (who_of e) ∷ []) (who_of e) (place_at (led_on h.s e) (who_of e)) more →
    (d : ℕ) → d < length w.program.callers → (d ≡ who_of e) ⊎ (d ≡ who_of e → ⊥) →
    HasStand w (suc k) 0 rest (h.order ++ moving.Step (who_of e) ∷ []) d (place_at (led_on h.s e) d)
event-each w k done e rest h more own d l (inl is) =
    subst (λ (x : ℕ). HasStand w (suc k) 0 rest (h.order ++ moving.Step (who_of e) ∷ []) x (place_at (led_on h.s e) x)) (sym is) (more, own)
event-each w k done e rest h more own d l (inr other) =
    let one = h.each d l in
    let s = h.s in
    let later = other-later w k (length w.program.callers) e rest h.order d (place_at s d) one.0 l other one.1 in (
      one.0,
      stands-still w (suc k) 0 rest h.order (moving.Step (who_of e)) d (place_at s d) (place_at (led_on s e) d) one.0
          (ap (λ (q : Place). q.at) (onward-other (carried_out s e (answered s.state e)) (who_of e) d other)) later,
    )

event-told : (w : Walk) (k : ℕ) (done : List Event) (e : Event) (rest : List Event) → done ++ e ∷ rest ≡ w.history → who_of e < length w.program.callers →
    EventFits (length (state_after (start w.program.plan) done).plan.stages) e → (h : Asked w k (length w.program.callers) done (e ∷ rest)) (reply : Reply) (more : List Record) →
    Stands w k (length w.program.callers) (e ∷ rest) h.order (who_of e) (place_at h.s (who_of e)) (Did (suc k) e reply ∷ more) → Asked w (suc k) 0 (done ++ e ∷ []) rest
event-told w k done e rest whole l fits h reply more stands =
    let p = w.program in
    let c = who_of e in
    let s = h.s in
    let r : Record = Did (suc k) e reply in
    let now : s.state ≡ state_after (start p.plan) done = h.comes.state in
    let there : EventFits (length s.state.plan.stages) e = subst (λ (x : State). EventFits (length x.plan.stages) e) (sym now) fits in
    let step : step_of p s c ≡ Some (steps.Do (as_call e)) = next-step p s c stands.so_far more r stands.steps stands.at in
    let u : Situated = carried_out s e (answered s.state e) in
    let t : Situated = led_on s e in
    let is : moved w.meanings p s (moving.Step c) ≡ t = moved-step w.meanings p s c (steps.Do (as_call e)) step ∙ ap (λ (x : Situated). onward x c) (calling-is s e there) in
    let event : event_of p s (moving.Step c) ≡ Some e = ap (λ (o : Option Step). step_event o (length s.state.plan.stages) c) step ∙ event-is (length s.state.plan.stages) e there in
    let within : c < length s.places = (let so = h.comes.places in omega arith) in
    let says : reply ≡ (answered s.state e).0 = says-now w k done e rest h.order s reply whole h.comes (All-head (IsAnswered p.plan w.history) r more stands.answers) in
    let left : dids more ≡ filter (mine c) (placed (suc k) rest) = same-rest (suc k, e) (suc k, e) (dids more) (filter (mine c) (placed (suc k) rest)) (stands.changes ∙ mine-first c k e rest refl) in
    let own = stands-more w k (suc k) (length p.callers) done (e ∷ rest) rest h.order s t c r more whole h.comes stands (onward-self u c within) says (omega arith) stands.in_order.1 left 0 (λ less. absurd (omega arith)) in
    record {
      order = h.order ++ moving.Step c ∷ [];
      s = t;
      comes = comes-more w k (suc k) done (done ++ e ∷ []) h.order s t (moving.Step c) (Some e) h.comes (may-step p s c (steps.Do (as_call e)) step l) is event
          (but_vain-took (length p.callers) (start p.plan) done e (caller-took (length p.callers) e _ l))
          (let so = h.comes.so_many in omega (arith, length-append done (e ∷ [])))
          (ap (λ (x : State). (answered x e).1) now ∙ sym (state_after-append (start p.plan) done (e ∷ [])))
          (length-set s.places c _) refl;
      each = λ d less. event-each w k done e rest h more own d less (same_number d c);
      working = λ v less. work-later w k e rest v (hand_at s v) (λ same. absurd (omega (arith, same))) (h.working v less);
    }

pub one-event : (w : Walk) (k : ℕ) (done : List Event) (e : Event) (rest : List Event) → done ++ e ∷ rest ≡ w.history → who_of e < length w.program.callers →
    EventFits (length (state_after (start w.program.plan) done).plan.stages) e → Asked w k (length w.program.callers) done (e ∷ rest) → Asked w (suc k) 0 (done ++ e ∷ []) rest
one-event w k done e rest whole l fits h =
    let c = who_of e in
    let one = h.each c l in
    let did : IsNextDid k e one.0 = next-did k (filter (mine c) (placed (suc k) rest)) e one.0 one.1.in_order (one.1.past l) (one.1.changes ∙ mine-first c k e rest refl) in
    event-told w k done e rest whole l fits h did.reply did.more
    (subst (λ (x : List Record). Stands w k (length w.program.callers) (e ∷ rest) h.order c (place_at h.s c) x) did.here one.1)
