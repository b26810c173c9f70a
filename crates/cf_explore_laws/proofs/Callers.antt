-- A caller's next step, and what is still to be told to a caller.
use Rattle.std.proofs.Common.{◌≡◌, ℕ, zero, suc, ◌+◌, ◌<◌, ◌≤◌, Bool, true, false, cond, eqb, eq-eqb, Some, None, Option, List, [], ◌∷◌, ◌++◌, inl, inr, length, set, take, ap, arith, refl, sym, ◌∙◌, subst, append-nil}
use Rattle.std.specs.Prelude.{Contains, ◌⊎◌, ◌==◌, if◌then◌else◌, map, slice_get, option_and_then, not, ◌&&◌}
use Rattle.std.specs.List.{filter}
use Rattle.std.proofs.lemmas.Bool.{eqb-true, lt-leb}
use Rattle.std.proofs.Math.Nat.{eq-or-lt_of_le}
use Rattle.std.proofs.Math.Seq.{take-append_seam}
use Rattle.std.proofs.lemmas.List.{get_or-set_other, get_or-set_same}
use Rattle.std.proofs.lemmas.List.Elements.{Contains-append_left, Contains-append_right}
use Rattle.std.proofs.lemmas.Option.{unwrap_or-slice_get}
use Rattle.cf_forms.specs.Meanings.{Meanings}
use Rattle.cf_forms.specs.Plans.{Planned}
use Rattle.cf_model.specs.declared.events.Event.{Event}
use Rattle.cf_model.specs.declared.events.Event.TheVariants.{Complete as Completes, Fail as Fails, FailAs as FailsAs, Cancel as Cancels, Claim as Claims, Finish as Finishes, Tick as Ticks, Attach as Attaches}
use Rattle.cf_model.specs.declared.events.Reply.{Reply}
use Rattle.cf_model.specs.Calls.{as_call, event_by, who_of}
use Rattle.cf_model.specs.Ranges.{EventFits, fits}
use Rattle.cf_model.proofs.Fitting.{fits-decides}
use Rattle.cf_model.specs.States.{State, start}
use Rattle.cf_model.specs.Events.{answered, state_after, state_at}
use Rattle.cf_event.specs.declared.record.Record.{Record}
use Rattle.cf_event.specs.declared.record.Record.TheVariants.{Did, Saw}
use Rattle.cf_event.specs.Events.{placed}
use Rattle.cf_event.specs.Histories.{InOrder, dids}
use Rattle.cf_explore.specs.declared.step.Move.TheVariants as moving
use Rattle.cf_explore.specs.declared.step.Place.{Place}
use Rattle.cf_explore.specs.declared.step.Step.{Step}
use Rattle.cf_explore.specs.Programs.{Programmed, Situated, place_at, step_of}
use Rattle.cf_explore.specs.Moves.{call_event, caller_moves, calling, carried_out, moved, moves, onward, own_moves, step_moves, stepped, worker_moves}
use Rattle.cf_explore_laws.specs.Tellings.{but_vain, grants, is_vain, step_for}
use Rattle.cf_explore_laws.proofs.Lists.{contains-first, same-first, slice_get-behind, slice_get-mapped}

-- ---- the move of a caller

pub same_number : (d c : ℕ) → (d ≡ c) ⊎ (d ≡ c → ⊥)
same_number d c = split (eqb d c) refl
  where
    split : (b : Bool) → eqb d c ≡ b → (d ≡ c) ⊎ (d ≡ c → ⊥)
    split true e = inl (eqb-true d c e)
    split false e = inr (λ is. (let never : true ≡ false = sym (eq-eqb d c is) ∙ e in cc))

step-moves : (c : ℕ) (o : Option Step) (step : Step) → o ≡ Some step → Contains (step_moves c o) (moving.Step c)
step-moves c None step e = absurd (let impossible : ⊥ = cc in impossible)
step-moves c (Some one) step e = contains-first (moving.Step c) []

caller-moves : (p : Programmed) (s : Situated) (c : ℕ) (step : Step) → step_of p s c ≡ Some step → (n : ℕ) → c < n → Contains (caller_moves p s n) (moving.Step c)
caller-moves p s c step e zero l = absurd (omega arith)
caller-moves p s c step e (suc n) l = split (eq-or-lt_of_le (let le : c ≤ n = omega arith in le)) (caller-moves p s c step e n)
  where
    split : (c ≡ n) ⊎ (c < n) → (c < n → Contains (caller_moves p s n) (moving.Step c)) → Contains (caller_moves p s n ++ step_moves n (step_of p s n)) (moving.Step c)
    split (inl is) rest = Contains-append_right (caller_moves p s n) (step_moves n (step_of p s n)) (moving.Step c)
        (subst (λ (k : ℕ). Contains (step_moves k (step_of p s k)) (moving.Step c)) is (step-moves c (step_of p s c) step e))
    split (inr less) rest = Contains-append_left (caller_moves p s n) (step_moves n (step_of p s n)) (moving.Step c) (rest less)

-- a caller that has a step goes on
pub may-step : (p : Programmed) (s : Situated) (c : ℕ) (step : Step) → step_of p s c ≡ Some step → c < length p.callers → Contains (moves p s) (moving.Step c)
unfolding moves own_moves
may-step p s c step e l =
    Contains-append_left (own_moves p s) _ (moving.Step c)
    (Contains-append_left (caller_moves p s (length p.callers)) (worker_moves s p.workers) (moving.Step c) (caller-moves p s c step e (length p.callers) l))

-- nobody goes on where no caller has a step
none-moves : (p : Programmed) (s : Situated) (n : ℕ) → ((c : ℕ) → c < n → step_of p s c ≡ None) → caller_moves p s n ≡ []
none-moves p s zero h = refl
none-moves p s (suc n) h =
    let last : step_of p s n ≡ None = h n (omega arith) in
    ap (λ l. l ++ step_moves n (step_of p s n)) (none-moves p s n (λ c l. h c (omega arith))) ∙ ap (step_moves n) last

pub none-goes_on : (p : Programmed) (s : Situated) → worker_moves s p.workers ≡ [] → ((c : ℕ) → c < length p.callers → step_of p s c ≡ None) → length (own_moves p s) == 0 ≡ true
unfolding own_moves
none-goes_on p s workers h = (let callers = none-moves p s (length p.callers) h in rw (callers, workers) refl)

-- where a step leads
pub moved-step : (m : Meanings) (p : Programmed) (s : Situated) (c : ℕ) (step : Step) → step_of p s c ≡ Some step → moved m p s (moving.Step c) ≡ stepped s c step
unfolding moved
moved-step m p s c step e = rw e refl

-- ---- its place

pub onward-self : (s : Situated) (c : ℕ) → c < length s.places → (place_at (onward s c) c).at ≡ (place_at s c).at + 1
onward-self s c l =
    let new : Place = record { at = (place_at s c).at + 1; looks = 0 } in
    let none : Place = record { at = 0; looks = 0 } in
    ap (λ (q : Place). q.at) (unwrap_or-slice_get (set s.places c new) c none ∙ get_or-set_same s.places c new none l)

pub onward-other : (s : Situated) (c d : ℕ) → (d ≡ c → ⊥) → place_at (onward s c) d ≡ place_at s d
onward-other s c d other =
    let new : Place = record { at = (place_at s c).at + 1; looks = 0 } in
    let none : Place = record { at = 0; looks = 0 } in
    unwrap_or-slice_get (set s.places c new) d none ∙ get_or-set_other s.places c d new none other ∙ sym (unwrap_or-slice_get s.places d none)

-- ---- what its calls are

pub call-is : (e : Event) → event_by (who_of e) (as_call e) ≡ e
call-is (Completes who i v) = refl
call-is (Fails who i code) = refl
call-is (FailsAs who i failure) = refl
call-is (Cancels who i) = refl
call-is (Claims who i) = refl
call-is (Finishes who i answer) = refl
call-is (Ticks who now) = refl
call-is (Attaches who form of function) = refl

-- ---- what is still to be told

abbrev pub mine : ℕ → ℕ × Event → Bool
mine c e = eqb (who_of e.1) c

-- no question is left to be told at this place
abbrev pub IsPast : ℕ → List Record → Type 0
IsPast k [] = Unit {0}
IsPast k (Did place event reply ∷ left) = Unit {0}
IsPast k (Saw place ask answer ∷ left) = k < place

pub taken-done : (done rest history : List Event) (k : ℕ) → done ++ rest ≡ history → length done ≡ k → take k history ≡ done
taken-done done rest history k whole so_many =
    ap (λ (h : List Event). take k h) (sym whole) ∙ ap (λ (n : ℕ). take n (done ++ rest)) (sym so_many) ∙ take-append_seam done rest

pub at-done : (plan : Planned) (done rest history : List Event) (k : ℕ) → done ++ rest ≡ history → length done ≡ k → state_at plan history k ≡ state_after (start plan) done
at-done plan done rest history k whole so_many = ap (state_after (start plan)) (taken-done done rest history k whole so_many)

-- an event that is taken up, and one in vain
but_vain-push : (n : ℕ) (s : State) (xs : List Event) (e : Event) →
    but_vain n s (xs ++ e ∷ []) ≡ but_vain n s xs ++ (if is_vain n e (answered (state_after s xs) e).0 then [] else e ∷ [])
but_vain-push n s [] e = refl
but_vain-push n s (x ∷ xs) e = split (is_vain n x (answered s x).0) (but_vain-push n ((answered s x).1) xs e)
  where
    split : (b : Bool) → but_vain n ((answered s x).1) (xs ++ e ∷ []) ≡ but_vain n ((answered s x).1) xs ++ (if is_vain n e (answered (state_after ((answered s x).1) xs) e).0 then [] else e ∷ []) →
        (if b then but_vain n ((answered s x).1) (xs ++ e ∷ []) else x ∷ but_vain n ((answered s x).1) (xs ++ e ∷ []))
        ≡ (if b then but_vain n ((answered s x).1) xs else x ∷ but_vain n ((answered s x).1) xs) ++ (if is_vain n e (answered (state_after ((answered s x).1) xs) e).0 then [] else e ∷ [])
    split true h = h
    split false h = ap (λ (l : List Event). x ∷ l) h

pub but_vain-took : (n : ℕ) (s : State) (xs : List Event) (e : Event) → is_vain n e (answered (state_after s xs) e).0 ≡ false → but_vain n s (xs ++ e ∷ []) ≡ but_vain n s xs ++ e ∷ []
but_vain-took n s xs e is = but_vain-push n s xs e ∙ ap (λ (b : Bool). but_vain n s xs ++ (if b then [] else e ∷ [])) is

pub but_vain-left : (n : ℕ) (s : State) (xs : List Event) (e : Event) → is_vain n e (answered (state_after s xs) e).0 ≡ true → but_vain n s (xs ++ e ∷ []) ≡ but_vain n s xs
but_vain-left n s xs e is = but_vain-push n s xs e ∙ ap (λ (b : Bool). but_vain n s xs ++ (if b then [] else e ∷ [])) is ∙ append-nil (but_vain n s xs)

-- a caller's event is taken up
pub caller-took : (n : ℕ) (e : Event) (reply : Reply) → who_of e < n → is_vain n e reply ≡ false
caller-took n (Completes who i v) reply l = refl
caller-took n (Fails who i code) reply l = refl
caller-took n (FailsAs who i failure) reply l = refl
caller-took n (Cancels who i) reply l = refl
caller-took n (Claims who i) reply l = ap (λ (b : Bool). b && not (grants reply)) (lt-leb n who l)
caller-took n (Finishes who i answer) reply l = refl
caller-took n (Ticks who now) reply l = refl
caller-took n (Attaches who form of function) reply l = refl

-- the changing calls that are left stand behind the place
pub dids-later : (last : ℕ) (records : List Record) (q : ℕ) (e : Event) (xs : List (ℕ × Event)) → InOrder last records → dids records ≡ (q, e) ∷ xs → last < q
dids-later last [] q e xs h is = absurd (let impossible : ⊥ = cc in impossible)
dids-later last (Did place event reply ∷ records) q e xs h is =
    let same : place ≡ q = ap (λ (x : ℕ × Event). x.0) (same-first (place, event) (q, e) (dids records) xs is) in
    let l = h.0 in
    omega arith
dids-later last (Saw place ask answer ∷ records) q e xs h is = (let less = dids-later place records q e xs h.1 is in let l = h.0 in omega arith)

-- those of a list with places
pub placed-later : (c n : ℕ) (rest : List Event) (q : ℕ) (e : Event) (xs : List (ℕ × Event)) → (q, e) ∷ xs ≡ filter (mine c) (placed n rest) → n < q
placed-later c n [] q e xs is = absurd (let impossible : ⊥ = cc in impossible)
placed-later c n (x ∷ rest) q e xs is = split (eqb (who_of x) c) is (placed-later c (suc n) rest q e xs)
  where
    split : (b : Bool) → (q, e) ∷ xs ≡ cond b ((suc n, x) ∷ filter (mine c) (placed (suc n) rest)) (filter (mine c) (placed (suc n) rest)) → ((q, e) ∷ xs ≡ filter (mine c) (placed (suc n) rest) → suc n < q) → n < q
    split true same later = (let first : q ≡ suc n = ap (λ (y : ℕ × Event). y.0) (same-first (q, e) (suc n, x) xs (filter (mine c) (placed (suc n) rest)) same) in omega arith)
    split false same later = (let less = later same in omega arith)

-- another's event comes: what is left is told behind it
pub order-later : (d k : ℕ) (rest : List Event) (left : List Record) → InOrder k left → IsPast k left → dids left ≡ filter (mine d) (placed (suc k) rest) → InOrder (suc k) left
order-later d k rest [] order past is = tt
order-later d k rest (Did place event reply ∷ left) order past is = (placed-later d (suc k) rest place event (dids left) is, order.1)
order-later d k rest (Saw place ask answer ∷ left) order past is = (omega arith, order.1)

-- its own event comes: it is what is told next
pub record IsNextDid (k : ℕ) (e : Event) (left : List Record) : Type 0 where
  pub reply : Reply
  pub more : List Record
  pub here : left ≡ Did (suc k) e reply ∷ more

pub next-did : (k : ℕ) (xs : List (ℕ × Event)) (e : Event) (left : List Record) → InOrder k left → IsPast k left → dids left ≡ (suc k, e) ∷ xs → IsNextDid k e left
next-did k xs e [] order past is = absurd (let impossible : ⊥ = cc in impossible)
next-did k xs e (Did place event reply ∷ left) order past is =
    let both = same-first (place, event) (suc k, e) (dids left) xs is in
    record { reply = reply; more = left; here = ap (λ (x : ℕ × Event). Did x.0 x.1 reply ∷ left) both }
next-did k xs e (Saw place ask answer ∷ left) order past is =
    absurd (let less = dids-later place left (suc k) e xs order.1 is in omega arith)

pub other-number : (a b : ℕ) → (b ≡ a → ⊥) → eqb a b ≡ false
other-number a b other = split (eqb a b) refl
  where
    split : (x : Bool) → eqb a b ≡ x → x ≡ false
    split true e = absurd (other (sym (eqb-true a b e)))
    split false e = refl

-- the step of a record
pub next-step : (p : Programmed) (s : Situated) (c : ℕ) (so_far more : List Record) (r : Record) → slice_get p.callers c ≡ Some (map step_for (so_far ++ r ∷ more)) → (place_at s c).at ≡ length so_far →
    step_of p s c ≡ Some (step_for r)
next-step p s c so_far more r steps at =
    ap (option_and_then (λ (list : List Step). slice_get list (place_at s c).at)) steps
    ∙ ap (slice_get (map step_for (so_far ++ r ∷ more))) at
    ∙ slice_get-mapped step_for so_far r more

pub no-step : (p : Programmed) (s : Situated) (c : ℕ) (so_far : List Record) → slice_get p.callers c ≡ Some (map step_for so_far) → (place_at s c).at ≡ length so_far → step_of p s c ≡ None
no-step p s c so_far steps at =
    ap (option_and_then (λ (list : List Step). slice_get list (place_at s c).at)) steps
    ∙ ap (slice_get (map step_for so_far)) at
    ∙ slice_get-behind step_for so_far

-- a call that fits is carried out, and is its event
pub calling-is : (s : Situated) (e : Event) → EventFits (length s.state.plan.stages) e → calling s (who_of e) (as_call e) ≡ carried_out s e (answered s.state e)
calling-is s e there =
    ap (λ (x : Event). if fits (length s.state.plan.stages) x then carried_out s x (answered s.state x) else s) (call-is e)
    ∙ ap (λ (b : Bool). if b then carried_out s e (answered s.state e) else s) ((fits-decides (length s.state.plan.stages) e).1 there)

pub event-is : (n : ℕ) (e : Event) → EventFits n e → call_event (as_call e) n (who_of e) ≡ Some e
event-is n e there =
    ap (λ (x : Event). if fits n x then Some x else None) (call-is e) ∙ ap (λ (b : Bool). if b then Some e else None) ((fits-decides n e).1 there)
