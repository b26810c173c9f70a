-- Whoever was told `true` has settled its stage, and nobody settles that again.
use Rattle.std.proofs.Common.{◌≡◌, ℕ, zero, suc, ◌-◌, ◌<◌, ◌≤◌, ◌⊎◌, inl, inr, Bool, true, false, Option, Some, None, List, [], ◌∷◌, length, set, take, Contains, refl, ap, sym, ◌∙◌, subst, arith}
use Rattle.std.specs.Prelude.{slice_get}
use Rattle.std.proofs.lemmas.Bool.{cases_lt}
use Rattle.std.proofs.lemmas.List.Elements.{All-contains}
use Rattle.cf_outcome.specs.declared.outcome.Outcome.{Outcome}
use Rattle.cf_outcome.specs.declared.outcome.Outcome.TheVariants.{Value as Gives, Fault}
use Rattle.cf_outcome.specs.declared.outcome.Cause.TheVariants.{Thrown, Cancelled, TimedOut, BadAnswer}
use Rattle.cf_outcome.specs.Outcomes.{is_cancelled}
use Rattle.cf_forms.specs.Plans.{Planned}
use Rattle.cf_model.specs.declared.stage.Stage.{Stage}
use Rattle.cf_model.specs.declared.stage.Stage.TheVariants.{Settled}
use Rattle.cf_model.specs.declared.events.Event.{Event}
use Rattle.cf_model.specs.declared.events.Event.TheVariants.{Complete as Completes, Fail as Fails, FailAs as FailsAs, Cancel as Cancels, Claim as Claims, Finish as Finishes, Tick as Ticks, Attach as Attaches}
use Rattle.cf_model.specs.declared.events.Reply.{Reply}
use Rattle.cf_model.specs.declared.events.Reply.TheVariants.{Flag as ToldFlag}
use Rattle.cf_model.specs.States.{State, after, outcome_at, outcome_in, start}
use Rattle.cf_model.specs.Events.{answered, cancelled_by, cause_of, settled_by, state_after, state_at, told_as}
use Rattle.cf_model.specs.Ranges.{EventFits}
use Rattle.cf_model.proofs.Closed.{reached_length}
use Rattle.cf_model.proofs.Moves.{new_states-settled}
use Rattle.cf_model.proofs.StateLemmas.{after-unsettled}
use Rattle.cf_event.specs.declared.record.Record.{Record}
use Rattle.cf_event.specs.declared.record.Record.TheVariants.{Did, Saw}
use Rattle.cf_event.specs.Events.{AreEventsOf, IsEventOf}
use Rattle.cf_event.specs.Histories.{AreRecordsOfOne, IsAnswered, IsOneHistory, dids}
use Rattle.cf_desk.specs.Laws.{Shows, StandOnce, StandsAt}
use Rattle.cf_example.specs.Settled.{WasTold, WhoeverSettledStays, settles}
use Rattle.cf_example.proofs.OverCalls.{first, later, cases, none, take_whole}

-- ---- one event

abbrev flag_in : Reply → Bool
flag_in (ToldFlag b) = b
flag_in reply = false

abbrev pair_or : Option (ℕ × Outcome) → ℕ × Outcome → ℕ × Outcome
pair_or None q = q
pair_or (Some p) q = p

abbrev outcome_or : Option Outcome → Outcome → Outcome
outcome_or None q = q
outcome_or (Some p) q = p

cancelled_is : (o : Outcome) → is_cancelled o ≡ true → o ≡ Fault Cancelled false
cancelled_is (Fault Cancelled false) h = refl
cancelled_is (Fault Cancelled true) h = (let no : ⊥ = cc in absurd no)
cancelled_is (Fault (Thrown code) wrapped) h = (let no : ⊥ = cc in absurd no)
cancelled_is (Fault (TimedOut code) wrapped) h = (let no : ⊥ = cc in absurd no)
cancelled_is (Fault (BadAnswer code) wrapped) h = (let no : ⊥ = cc in absurd no)
cancelled_is (Gives v) h = (let no : ⊥ = cc in absurd no)

-- the stage was open and is settled, or it was cancelled before and is so still
abbrev Settling : State → ℕ → Outcome → State → Type 0
Settling s i o t = ((outcome_at s i ≡ None) × (t ≡ after s i o)) ⊎ ((outcome_at s i ≡ Some o) × (is_cancelled o ≡ true) × (t ≡ s))

by_settling : (x : Option Outcome) (s : State) (i : ℕ) (o : Outcome) → outcome_at s i ≡ x → (told_as ToldFlag (settled_by x s i o)).0 ≡ ToldFlag true → Settling s i o ((settled_by x s i o).1)
by_settling None s i o is flag = inl (is, refl)
by_settling (Some old) s i o is flag = (let no : false ≡ true = ap flag_in flag in absurd (let never : ⊥ = cc in never))

by_cancelling : (x : Option Outcome) (s : State) (i : ℕ) → outcome_at s i ≡ x → (told_as ToldFlag (cancelled_by x s i)).0 ≡ ToldFlag true → Settling s i (Fault Cancelled false) ((cancelled_by x s i).1)
by_cancelling None s i is flag = inl (is, refl)
by_cancelling (Some old) s i is flag = let h : is_cancelled old ≡ true = ap flag_in flag in inr (is ∙ ap (λ (o : Outcome). Some o) (cancelled_is old h), refl, refl)

abbrev named_so : ℕ → Outcome → Option (ℕ × Outcome)
named_so i o = Some (i, o)

moved : (s t : State) (j i : ℕ) (u o : Outcome) → named_so j u ≡ named_so i o → Settling s j u t → Settling s i o t
moved s t j i u o is h = subst (λ (q : ℕ × Outcome). Settling s q.0 q.1 t) (ap (λ (x : Option (ℕ × Outcome)). pair_or x (i, o)) is) h

settling : (s : State) (e : Event) (i : ℕ) (o : Outcome) → settles e ≡ Some (i, o) → (answered s e).0 ≡ ToldFlag true → Settling s i o ((answered s e).1)
settling s (Completes who j v) i o is flag = moved s _ j i (Gives v) o is (by_settling (outcome_at s j) s j (Gives v) refl flag)
settling s (Fails who j code) i o is flag = moved s _ j i (Fault (Thrown code) false) o is (by_settling (outcome_at s j) s j (Fault (Thrown code) false) refl flag)
settling s (FailsAs who j failure) i o is flag = moved s _ j i (Fault (cause_of failure) false) o is (by_settling (outcome_at s j) s j (Fault (cause_of failure) false) refl flag)
settling s (Cancels who j) i o is flag = moved s _ j i (Fault Cancelled false) o is (by_cancelling (outcome_at s j) s j refl flag)
settling s (Claims who j) i o is flag = (let no : ⊥ = cc in absurd no)
settling s (Finishes who j answer) i o is flag = (let no : ⊥ = cc in absurd no)
settling s (Ticks who now) i o is flag = (let no : ⊥ = cc in absurd no)
settling s (Attaches who form of function) i o is flag = (let no : ⊥ = cc in absurd no)

named : (e : Event) (n i : ℕ) (o : Outcome) → settles e ≡ Some (i, o) → EventFits n e → i < n
named (Completes who j v) n i o is l = subst (λ (k : ℕ). k < n) (ap (λ (x : Option (ℕ × Outcome)). (pair_or x (i, o)).0) is) l
named (Fails who j code) n i o is l = subst (λ (k : ℕ). k < n) (ap (λ (x : Option (ℕ × Outcome)). (pair_or x (i, o)).0) is) l
named (FailsAs who j failure) n i o is l = subst (λ (k : ℕ). k < n) (ap (λ (x : Option (ℕ × Outcome)). (pair_or x (i, o)).0) is) l
named (Cancels who j) n i o is l = subst (λ (k : ℕ). k < n) (ap (λ (x : Option (ℕ × Outcome)). (pair_or x (i, o)).0) is) l
named (Claims who j) n i o is l = (let no : ⊥ = cc in absurd no)
named (Finishes who j answer) n i o is l = (let no : ⊥ = cc in absurd no)
named (Ticks who now) n i o is l = (let no : ⊥ = cc in absurd no)
named (Attaches who form of function) n i o is l = (let no : ⊥ = cc in absurd no)

set_here : (xs : List Stage) (i : ℕ) (o : Outcome) → i < length xs → outcome_in (set xs i (Settled o)) i ≡ Some o
set_here [] i o l = absurd (omega arith)
set_here (x ∷ xs) zero o l = refl
set_here (x ∷ xs) (suc i) o l = set_here xs i o (omega arith)

after_has : (s : State) (i : ℕ) (o : Outcome) → i < length s.stages → outcome_at s i ≡ None → outcome_at (after s i o) i ≡ Some o
after_has s i o l unset = ap (λ (t : State). outcome_at t i) (after-unsettled s i o unset) ∙ new_states-settled [] s.plan.stages (set s.stages i (Settled o)) i o (set_here s.stages i o l)

settled_then : (s t : State) (i : ℕ) (o : Outcome) → i < length s.stages → Settling s i o t → outcome_at t i ≡ Some o
settled_then s t i o l (inl h) = ap (λ (u : State). outcome_at u i) h.1 ∙ after_has s i o l h.0
settled_then s t i o l (inr h) = ap (λ (u : State). outcome_at u i) h.2 ∙ h.0

-- a stage that is settled so isn't settled again, but by one more cancellation
again : (s t : State) (i : ℕ) (o u : Outcome) → outcome_at s i ≡ Some u → Settling s i o t → (is_cancelled o ≡ true) × (u ≡ o)
again s t i o u there (inl h) = (let no : ⊥ = cc in absurd no)
again s t i o u there (inr h) = (h.1, ap (λ (x : Option Outcome). outcome_or x o) (sym there ∙ h.0))

-- ---- one event of a history

step_at : (s : State) (es : List Event) (k : ℕ) (e : Event) → slice_get es k ≡ Some e → state_after s (take (suc k) es) ≡ (answered (state_after s (take k es)) e).1
step_at s [] k e is = (let no : ⊥ = cc in absurd no)
step_at s (x ∷ es) zero e is = let same : x ≡ e = cc in ap (λ (d : Event). (answered s d).1) same
step_at s (x ∷ es) (suc k) e is = step_at ((answered s x).1) es k e is

fits_at : (callers functions : ℕ) (s : State) (es : List Event) (k : ℕ) (e : Event) → AreEventsOf callers functions s es → slice_get es k ≡ Some e → IsEventOf callers functions (state_after s (take k es)) e
fits_at callers functions s [] k e are is = (let no : ⊥ = cc in absurd no)
fits_at callers functions s (x ∷ es) zero e are is = let same : x ≡ e = cc in subst (λ (d : Event). IsEventOf callers functions s d) same are.0
fits_at callers functions s (x ∷ es) (suc k) e are is = fits_at callers functions ((answered s x).1) es k e are.1 is

abbrev call_or : Record → ℕ × Event → ℕ × Event
call_or (Did p e reply) q = (p, e)
call_or (Saw p ask answer) q = q

did_among : (rs : List Record) (p : ℕ) (e : Event) (reply : Reply) → Contains rs (Did p e reply) → Contains (dids rs) (p, e)
did_among [] p e reply h = absurd (none (Did p e reply) h)
did_among (Did q d r ∷ rs) p e reply h = by_case (λ g. did_among rs p e reply g) (cases (Did q d r) (Did p e reply) rs h)
  where
    by_case : (Contains rs (Did p e reply) → Contains (dids rs) (p, e)) → (Did q d r ≡ Did p e reply) ⊎ Contains rs (Did p e reply) → Contains ((q, d) ∷ dids rs) (p, e)
    by_case more (inl same) = subst (λ (x : ℕ × Event). Contains ((q, d) ∷ dids rs) x) (ap (λ (x : Record). call_or x (q, d)) same) (first (q, d) (dids rs))
    by_case more (inr g) = later (q, d) (p, e) (dids rs) (more g)
did_among (Saw q ask answer ∷ rs) p e reply h = by_case (λ g. did_among rs p e reply g) (cases (Saw q ask answer) (Did p e reply) rs h)
  where
    by_case : (Contains rs (Did p e reply) → Contains (dids rs) (p, e)) → (Saw q ask answer ≡ Did p e reply) ⊎ Contains rs (Did p e reply) → Contains (dids rs) (p, e)
    by_case more (inl same) = (let no : ⊥ = cc in absurd no)
    by_case more (inr g) = more g

-- the call stands at its place, where it settled its stage
record Stands (plan : Planned) (history : List Event) (p i : ℕ) (e : Event) (o : Outcome) : Type 0 where
  before : ℕ
  place : p ≡ suc before
  within : p ≤ length history
  stands : slice_get history before ≡ Some e
  settling : Settling (state_at plan history before) i o (state_at plan history p)
  then : outcome_at (state_at plan history p) i ≡ Some o

stands_at : (plan : Planned) (callers functions : ℕ) (history : List Event) (p i : ℕ) (e : Event) (o : Outcome) → AreEventsOf callers functions (start plan) history → settles e ≡ Some (i, o) →
    IsAnswered plan history (Did p e (ToldFlag true)) → StandsAt history (p, e) → Stands plan history p i e o
stands_at plan callers functions history zero i e o are is answer there = absurd (let l = answer.0 in omega arith)
stands_at plan callers functions history (suc k) i e o are is answer there =
    let same : suc k - 1 ≡ k = omega arith in
    let event : slice_get history k ≡ Some e = subst (λ (n : ℕ). slice_get history n ≡ Some e) same there in
    let s = state_at plan history k in
    let flag : (answered s e).0 ≡ ToldFlag true = ap (λ (n : ℕ). (answered (state_at plan history n) e).0) (sym same) ∙ sym answer.2 in
    let next : state_at plan history (suc k) ≡ (answered s e).1 = step_at (start plan) history k e event in
    let fits = fits_at callers functions (start plan) history k e are event in
    let there : i < length s.stages = (let size = reached_length plan (take k history) in let l = named e (length s.plan.stages) i o is fits.fits in omega (arith, size, l)) in
    let how : Settling s i o (state_at plan history (suc k)) = subst (λ (t : State). Settling s i o t) (sym next) (settling s e i o is flag) in
    record { before = k; place = refl; within = answer.1; stands = event; settling = how; then = settled_then s (state_at plan history (suc k)) i o there how }

-- ---- all callers

told_stands : (plan : Planned) (functions : ℕ) (history : List Event) (callers : List (ℕ × List Record)) (graph : State) (p i : ℕ) (e : Event) (o : Outcome) → IsOneHistory plan functions history callers → Shows plan history callers graph →
    settles e ≡ Some (i, o) → WasTold callers p e → Stands plan history p i e o
told_stands plan functions history callers graph p i e o one shows is w =
    let k = w.caller in
    let records = All-contains (AreRecordsOfOne plan history) callers k one.each w.one in
    let answer = All-contains (IsAnswered plan history) k.1 (Did p e (ToldFlag true)) records.answers w.told in
    let places = All-contains (StandOnce history) callers k shows.calls w.one in
    let there = All-contains (StandsAt history) (dids k.1) (p, e) places.1 (did_among k.1 p e (ToldFlag true) w.told) in
    stands_at plan (length callers) functions history p i e o one.taken is answer there

at_one : (plan : Planned) (history : List Event) (p q i : ℕ) (e f : Event) (o u : Outcome) → Stands plan history p i e o → Stands plan history q i f u → p ≡ q → e ≡ f
at_one plan history p q i e f o u a b same =
    let places : a.before ≡ b.before = (let x = a.place in let y = b.place in omega (arith, x, y, same)) in
    let events : Some e ≡ Some f = sym a.stands ∙ ap (slice_get history) places ∙ b.stands in cc

-- of two places one comes first, and there the other can't be told `true`
apart : (plan : Planned) (history : List Event) (p q i : ℕ) (e f : Event) (o u : Outcome) →
    ((j a b : ℕ) (x : Outcome) → a ≤ b → outcome_at (state_at plan history a) j ≡ Some x → outcome_at (state_at plan history b) j ≡ Some x) →
    Stands plan history p i e o → Stands plan history q i f u → p < q → (is_cancelled u ≡ true) × (o ≡ u)
apart plan history p q i e f o u keeps a b l =
    let on : p ≤ b.before = (let y = b.place in omega (arith, y, l)) in
    again (state_at plan history b.before) (state_at plan history q) i u o (keeps i p b.before o on a.then) b.settling

pub settlers_stay : (plan : Planned) (functions : ℕ) (history : List Event) (callers : List (ℕ × List Record)) (graph : State) → IsOneHistory plan functions history callers → Shows plan history callers graph → graph ≡ state_after (start plan) history →
    WhoeverSettledStays callers graph
settlers_stay plan functions history callers graph one shows left = record {
  stays = λ p i e o is w.
      let a = told_stands plan functions history callers graph p i e o one shows is w in
      let whole : state_at plan history (length history) ≡ graph = ap (state_after (start plan)) (take_whole history) ∙ sym left in
      ap (λ (s : State). outcome_at s i) (sym whole) ∙ shows.settled_once i p (length history) o a.within a.then;
  one = λ p q i e f o u is its w v stored. by_places p q i e f o u stored
      (told_stands plan functions history callers graph p i e o one shows is w) (told_stands plan functions history callers graph q i f u one shows its v) (cases_lt p q) (cases_lt q p);
}
  where
    by_places : (p q i : ℕ) (e f : Event) (o u : Outcome) → is_cancelled o ≡ false → Stands plan history p i e o → Stands plan history q i f u → (p < q) ⊎ (q ≤ p) → (q < p) ⊎ (p ≤ q) → (p ≡ q) × (e ≡ f)
    by_places p q i e f o u stored a b (inl l) more =
        let h = apart plan history p q i e f o u shows.settled_once a b l in
        let both : is_cancelled o ≡ true = ap is_cancelled h.1 ∙ h.0 in (let no : ⊥ = cc in absurd no)
    by_places p q i e f o u stored a b (inr le) (inl l) =
        let h = apart plan history q p i f e u o shows.settled_once b a l in
        let both : is_cancelled o ≡ true = h.0 in (let no : ⊥ = cc in absurd no)
    by_places p q i e f o u stored a b (inr le) (inr more) = let same : p ≡ q = omega (arith, le, more) in (same, at_one plan history p q i e f o u a b same)
