-- The stages that gather, from one place of a history on.
use Rattle.std.proofs.Common.{◌≡◌, ℕ, zero, suc, ◌+◌, ◌-◌, ◌<◌, ◌≤◌, Bool, true, false, drop, length, map, take, Option, Some, None, List, [], ◌∷◌, All, Contains, refl, ap, sym, ◌∙◌, arith, subst, inl, inr, ◌⊎◌, take-append-drop}
use Rattle.std.specs.Option.{option_map, option_map_or}
use Rattle.std.specs.Prelude.{is_some, slice_get}
use Rattle.std.proofs.lemmas.List.Elements.{All-cons, All-nil}
use Rattle.cf_outcome.specs.declared.outcome.Outcome.{Outcome}
use Rattle.cf_outcome.specs.Outcomes.{wrap}
use Rattle.cf_forms.specs.declared.forms.Form.TheVariants as forms
use Rattle.cf_forms.specs.Forms.{due_of_first, first_there}
use Rattle.cf_forms.specs.Plans.{PlannedStage, sources_at}
use Rattle.cf_model.specs.declared.events.Event.{Event}
use Rattle.cf_model.specs.Events.{answered, state_after}
use Rattle.cf_model.specs.States.{State, due_state, outcome_in, outcome_of, start}
use Rattle.cf_model.proofs.Closed.{reached_closed}
use Rattle.cf_model.proofs.Histories.{state_after-append}
use Rattle.cf_model.proofs.Moves.{keeps_outcomes}
use Rattle.cf_ledger.specs.Ledgers.{Ledger, state_at, state_of}
use Rattle.cf_request.specs.Telling.{is_settled_in}
use Rattle.cf_request.specs.declared.gathering.Gathering.{Gathering}
use Rattle.cf_request.specs.declared.gathering.Gathering.TheVariants.{AllOf, AnyOf}
use Rattle.cf_request.proofs.Lists.{contains_head, contains_tail}
use Rattle.cf_request_laws.specs.Roots.{AreAllOpen, EndsAsOne, HasTheFirst, OneCameFirst, Takes, TookAsOne, Waits, given}
use Rattle.cf_request_laws.proofs.Stages.{ComesFirst, IsHeld, IsSound, Lasts, given_stays, stays_one}
use Rattle.cf_request_laws.proofs.Trees.{EachOf, OneOf, none_by, root_has, root_settles, tree_held, tree_stays}

-- ---- states of a history

state_next : (s : State) (events : List Event) (k : ℕ) (e : Event) → slice_get events k ≡ Some e → state_after s (take (suc k) events) ≡ (answered (state_after s (take k events)) e).1
state_next s [] k e h = cc
state_next s (d ∷ []) zero e h = (let same : d ≡ e = cc in ap (λ (x : Event). (answered s x).1) same)
state_next s (d ∷ c ∷ events) zero e h = (let same : d ≡ e = cc in ap (λ (x : Event). (answered s x).1) same)
state_next s (d ∷ events) (suc k) e h = state_next ((answered s d).1) events k e h

some_event : (events : List Event) (k : ℕ) → k < length events → (e : Event) × (slice_get events k ≡ Some e)
some_event [] k l = absurd (omega (arith, l))
some_event (e ∷ events) zero l = (e, refl)
some_event (e ∷ events) (suc k) l = some_event events k (omega (arith, l))

take_all : (xs : List Event) → take (length xs) xs ≡ xs
take_all [] = refl
take_all (x ∷ xs) = ap (λ (l : List Event). x ∷ l) (take_all xs)

next_at : (l : Ledger) (k : ℕ) (e : Event) → slice_get l.events k ≡ Some e → state_at l (k + 1) ≡ (answered (state_at l k) e).1
next_at l k e h = ap (λ (n : ℕ). state_at l n) (let one : k + 1 ≡ suc k = omega arith in one) ∙ state_next (start l.plan) l.events k e h

pub state_last : (l : Ledger) → state_at l (length l.events) ≡ state_of l
state_last l = ap (state_after (start l.plan)) (take_all l.events)

-- what was settled at a place is settled at last
lasts_from : (l : Ledger) (k : ℕ) → Lasts (state_at l k) (state_of l)
lasts_from l k j o h =
    let all : state_after (state_at l k) (drop k l.events) ≡ state_of l = sym (state_after-append (start l.plan) (take k l.events) (drop k l.events)) ∙ ap (state_after (start l.plan)) (take-append-drop k l.events) in
    ap (λ (s : State). outcome_in s.stages j) (sym all) ∙ keeps_outcomes (state_at l k) (drop k l.events) j o h

-- ---- one event after another

-- so it is at a place, counted from where the stages were attached
abbrev Stands : Gathering → List ℕ → ℕ → ℕ → ℕ → Ledger → ℕ → Type 0
Stands how sources first root from l k =
    (EachOf (λ stage p. IsSound how stage p (state_at l k)) how first sources × (is_settled_in (state_at l k).stages root ≡ false)) ⊎ ((Takes how sources root (state_at l from) ⊎ TookAsOne how sources root from l) ⊎ OneCameFirst how sources first root from l)

-- while the root of sound stages is open it waits as one stage would
root_waits : (how : Gathering) (sources : List ℕ) (first root : ℕ) (l : Ledger) (k : ℕ) → first + length (drop 2 sources) ≡ root → EachOf (λ stage p. IsSound how stage p (state_at l k)) how first sources → is_settled_in (state_at l k).stages root ≡ false → Waits how sources root (state_at l k)
root_waits how sources first root l k is each still = record { root_open = still; none = sym (root_has how first root sources (state_at l k) is each) ∙ none_by (outcome_in (state_at l k).stages root) still }

-- the stage that came first
came_first : (how : Gathering) (sources : List ℕ) (first root from k : ℕ) (l : Ledger) (e : Event) → Waits how sources root (state_at l k) → from ≤ k → slice_get l.events k ≡ Some e → OneOf (λ stage p. ComesFirst how stage p (state_at l k) ((answered (state_at l k) e).1) e) first root → OneCameFirst how sources first root from l
came_first how sources first root from k l e waits since here one =
    let t = (answered (state_at l k) e).1 in
    let now : state_at l (k + 1) ≡ t = next_at l k e here in
    let f = one.is.first in
    let own : sources_at t.plan.stages one.stage ≡ one.planned.sources = ap (λ (x : Option PlannedStage). option_map_or (λ (q : PlannedStage). q.sources) x []) one.is.is.planned in
    record {
      stage = one.stage;
      not_before = one.not_before;
      not_behind = one.not_behind;
      came = record {
        place = k;
        since = since;
        event = e;
        settles = record { stands = here; before = one.is.open_then; behind = ap (λ (s : State). is_settled_in s.stages one.stage) now ∙ f.settled };
        cause = elim f.by [
          | inl none ↦ inl (ap (λ (s : State). given how (sources_at s.plan.stages one.stage) s) now ∙ ap (λ (q : List ℕ). given how q t) own ∙ none)
          | inr tick ↦ inr tick
        ];
      };
      waited = waits;
    }

-- the root is still open, or has just taken what one stage takes
root_took : (how : Gathering) (sources : List ℕ) (first root from k : ℕ) (l : Ledger) (e : Event) (b : Bool) → first + length (drop 2 sources) ≡ root → from ≤ k → slice_get l.events k ≡ Some e →
    EachOf (λ stage p. IsSound how stage p (state_at l k)) how first sources → is_settled_in (state_at l k).stages root ≡ false → EachOf (λ stage p. IsSound how stage p (state_at l (k + 1))) how first sources →
    is_settled_in (state_at l (k + 1)).stages root ≡ b → Stands how sources first root from l (k + 1)
root_took how sources first root from k l e false is since here before still after now = inl (after, now)
root_took how sources first root from k l e true is since here before still after now =
    inr (inl (inr (record {
      place = k;
      since = since;
      event = e;
      settles = record { stands = here; before = still; behind = now };
      waits = root_waits how sources first root l k is before still;
      takes = record { settled = now; same = root_has how first root sources (state_at l (k + 1)) is after };
    })))

stands_next : (how : Gathering) (sources : List ℕ) (first root from k : ℕ) (l : Ledger) → first + length (drop 2 sources) ≡ root → from ≤ k → k < length l.events → Stands how sources first root from l k → Stands how sources first root from l (k + 1)
stands_next how sources first root from k l is since within (inr ended) = inr ended
stands_next how sources first root from k l is since within (inl (each, still)) =
    let e = some_event l.events k within in
    elim (tree_stays how first root sources (state_at l k) e.0 is (reached_closed l.plan (take k l.events)) each still) [
      | inl after ↦ root_took how sources first root from k l e.0 (is_settled_in (state_at l (k + 1)).stages root) is since e.1 each still
          (subst (λ (s : State). EachOf (λ stage p. IsSound how stage p s) how first sources) (sym (next_at l k e.0 e.1)) after) refl
      | inr one ↦ inr (inr (came_first how sources first root from k l e.0 (root_waits how sources first root l k is each still) since e.1 one))
    ]

stands_first : (how : Gathering) (sources : List ℕ) (first root from : ℕ) (l : Ledger) (b : Bool) → first + length (drop 2 sources) ≡ root → EachOf (λ stage p. IsSound how stage p (state_at l from)) how first sources → is_settled_in (state_at l from).stages root ≡ b →
    Stands how sources first root from l from
stands_first how sources first root from l false is each now = inl (each, now)
stands_first how sources first root from l true is each now = inr (inl (inl (record { settled = now; same = root_has how first root sources (state_at l from) is each })))

stands_at : (how : Gathering) (sources : List ℕ) (first root from : ℕ) (l : Ledger) (n k : ℕ) → first + length (drop 2 sources) ≡ root → EachOf (λ stage p. IsSound how stage p (state_at l from)) how first sources → k ≡ from + n → k ≤ length l.events →
    Stands how sources first root from l k
stands_at how sources first root from l zero k is each at within =
    subst (λ (i : ℕ). Stands how sources first root from l i) (let here : from ≡ k = omega (arith, at) in here) (stands_first how sources first root from l (is_settled_in (state_at l from).stages root) is each refl)
stands_at how sources first root from l (suc n) k is each at within =
    let before = stands_at how sources first root from l n (from + n) is each refl (omega (arith, at, within)) in
    subst (λ (i : ℕ). Stands how sources first root from l i) (let here : from + n + 1 ≡ k = omega (arith, at) in here)
    (stands_next how sources first root from (from + n) l is (omega arith) (omega (arith, at, within)) before)

-- at last
ends_by : (how : Gathering) (sources : List ℕ) (first root from : ℕ) (l : Ledger) (s : State) → s ≡ state_of l → first + length (drop 2 sources) ≡ root →
    (EachOf (λ stage p. IsSound how stage p s) how first sources × (is_settled_in s.stages root ≡ false)) ⊎ ((Takes how sources root (state_at l from) ⊎ TookAsOne how sources root from l) ⊎ OneCameFirst how sources first root from l) →
    EndsAsOne how sources first root from l
ends_by how sources first root from l s same is (inr ended) = inr ended
ends_by how sources first root from l s same is (inl (each, still)) =
    inl (subst (Waits how sources root) same (record { root_open = still; none = sym (root_has how first root sources s is each) ∙ none_by (outcome_in s.stages root) still }))

pub ends_as_one : (how : Gathering) (sources : List ℕ) (first root from : ℕ) (l : Ledger) → first + length (drop 2 sources) ≡ root → from ≤ length l.events → EachOf (λ stage p. IsSound how stage p (state_at l from)) how first sources → EndsAsOne how sources first root from l
ends_as_one how sources first root from l is within each =
    let n = length l.events - from in
    ends_by how sources first root from l (state_at l (length l.events)) (state_last l) is (stands_at how sources first root from l n (length l.events) is each (omega (arith, within)) (omega arith))

-- ---- allOf

took_since : (sources : List ℕ) (root k : ℕ) (l : Ledger) → Takes AllOf sources root (state_at l k) → outcome_in (state_of l).stages root ≡ given AllOf sources (state_of l)
took_since sources root k l h =
    let s = state_at l k in
    let lasts = lasts_from l k in
    stays_one s (state_of l) root lasts h.settled ∙ h.same ∙ sym (given_stays s (state_of l) sources lasts (ap is_some (sym h.same) ∙ h.settled))

pub all_as_one : (sources : List ℕ) (first root from : ℕ) (l : Ledger) → EndsAsOne AllOf sources first root from l → (outcome_in (state_of l).stages root ≡ given AllOf sources (state_of l)) ⊎ OneCameFirst AllOf sources first root from l
all_as_one sources first root from l (inl waits) = inl (none_by (outcome_in (state_of l).stages root) waits.root_open ∙ sym waits.none)
all_as_one sources first root from l (inr (inl (inl took))) = inl (took_since sources root from l took)
all_as_one sources first root from l (inr (inl (inr took))) = inl (took_since sources root (took.place + 1) l took.takes)
all_as_one sources first root from l (inr (inr one)) = inr one

-- ---- anyOf

pub record IsFound (s : State) (sources : List ℕ) (o : Outcome) : Type 0 where
  pub source : ℕ
  pub among : Contains sources source
  pub settled : outcome_in s.stages source ≡ Some o

found_by : (s : State) (j : ℕ) (sources : List ℕ) (x : Option Outcome) (o : Outcome) → outcome_in s.stages j ≡ x → (let q : List (Option Outcome) = x ∷ map (outcome_in s.stages) sources in first_there q ≡ Some o) →
    (first_there (map (outcome_in s.stages) sources) ≡ Some o → IsFound s sources o) → IsFound s (j ∷ sources) o
found_by s j sources None o is h rest = let r = rest h in record { source = r.source; among = contains_tail j r.source sources r.among; settled = r.settled }
found_by s j sources (Some a) o is h rest = record { source = j; among = contains_head j sources; settled = is ∙ h }

-- the first outcome is that of a source
found : (s : State) (sources : List ℕ) (o : Outcome) → first_there (map (outcome_in s.stages) sources) ≡ Some o → IsFound s sources o
found s [] o h = cc
found s (j ∷ sources) o h = found_by s j sources (outcome_in s.stages j) o refl h (found s sources o)

open_by : (s : State) (j : ℕ) (sources : List ℕ) (x : Option Outcome) → outcome_in s.stages j ≡ x → (let q : List (Option Outcome) = x ∷ map (outcome_in s.stages) sources in first_there q ≡ None) →
    (first_there (map (outcome_in s.stages) sources) ≡ None → All (λ i. is_settled_in s.stages i ≡ false) sources) → All (λ i. is_settled_in s.stages i ≡ false) (j ∷ sources)
open_by s j sources None is h rest = All-cons (λ i. is_settled_in s.stages i ≡ false) j sources (ap is_some is) (rest h)
open_by s j sources (Some a) is h rest = cc

-- or all of them are open
all_open : (s : State) (sources : List ℕ) → first_there (map (outcome_in s.stages) sources) ≡ None → All (λ i. is_settled_in s.stages i ≡ false) sources
all_open s [] h = All-nil (λ i. is_settled_in s.stages i ≡ false)
all_open s (j ∷ sources) h = open_by s j sources (outcome_in s.stages j) refl h (all_open s sources)

any_gives : (x : Option Outcome) → outcome_of (due_state (due_of_first forms.AnyOf x)) ≡ option_map wrap x
any_gives None = refl
any_gives (Some o) = refl

any_none : (x : Option Outcome) → outcome_of (due_state (due_of_first forms.AnyOf x)) ≡ None → x ≡ None
any_none None h = refl
any_none (Some o) h = cc

waits_open : (s : State) (sources : List ℕ) → given AnyOf sources s ≡ None → All (λ i. is_settled_in s.stages i ≡ false) sources
waits_open s sources h = all_open s sources (any_none (first_there (map (outcome_in s.stages) sources)) h)

-- what the root took is that of a source
any_took : (sources : List ℕ) (root from place : ℕ) (l : Ledger) (x : Option Outcome) → first_there (map (outcome_in (state_at l place).stages) sources) ≡ x → from ≤ place → Takes AnyOf sources root (state_at l place) →
    ((k : ℕ) → from ≤ k → k + 1 ≡ place → All (λ i. is_settled_in (state_at l k).stages i ≡ false) sources) → HasTheFirst sources root from l
any_took sources root from place l None is since h none =
    (let same = ap is_some (h.same ∙ any_gives (first_there (map (outcome_in (state_at l place).stages) sources)) ∙ ap (option_map wrap) is) in let no : true ≡ false = sym h.settled ∙ same in let never : ⊥ = cc in absurd never)
any_took sources root from place l (Some o) is since h none =
    let s = state_at l place in
    let f = found s sources o is in
    record {
      place = place;
      since = since;
      source = f.source;
      among = f.among;
      outcome = o;
      settled = f.settled;
      none_before = none;
      has = lasts_from l place root (wrap o) (h.same ∙ any_gives (first_there (map (outcome_in s.stages) sources)) ∙ ap (option_map wrap) is);
    }

pub any_has_the_first : (sources : List ℕ) (first root from : ℕ) (l : Ledger) → EndsAsOne AnyOf sources first root from l → AreAllOpen sources root (state_of l) ⊎ (HasTheFirst sources root from l ⊎ OneCameFirst AnyOf sources first root from l)
any_has_the_first sources first root from l (inl waits) = inl (record { root_open = waits.root_open; sources_open = waits_open (state_of l) sources waits.none })
any_has_the_first sources first root from l (inr (inl (inl took))) =
    inr (inl (any_took sources root from from l (first_there (map (outcome_in (state_at l from).stages) sources)) refl (omega arith) took (λ k since is. absurd (omega (arith, since, is)))))
any_has_the_first sources first root from l (inr (inl (inr took))) =
    let place = took.place in
    let since = took.since in
    inr (inl (any_took sources root from (place + 1) l (first_there (map (outcome_in (state_at l (place + 1)).stages) sources)) refl (omega (arith, since)) took.takes
    (λ k later is. waits_open (state_at l k) sources (ap (λ (i : ℕ). given AnyOf sources (state_at l i)) (let here : k ≡ place = omega (arith, is) in here) ∙ took.waits.none))))
any_has_the_first sources first root from l (inr (inr one)) = inr (inr one)

-- ---- whichever came first

held_at : (how : Gathering) (sources : List ℕ) (first from : ℕ) (l : Ledger) (n k : ℕ) → EachOf (λ stage p. IsHeld how stage p (state_at l from)) how first sources → k ≡ from + n → k ≤ length l.events → EachOf (λ stage p. IsHeld how stage p (state_at l k)) how first sources
held_at how sources first from l zero k each at within =
    subst (λ (i : ℕ). EachOf (λ stage p. IsHeld how stage p (state_at l i)) how first sources) (let here : from ≡ k = omega (arith, at) in here) each
held_at how sources first from l (suc n) k each at within =
    let j = from + n in
    let before = held_at how sources first from l n j each refl (omega (arith, at, within)) in
    let e = some_event l.events j (omega (arith, at, within)) in
    let next = tree_held how first sources (state_at l j) e.0 (reached_closed l.plan (take j l.events)) before in
    subst (λ (s : State). EachOf (λ stage p. IsHeld how stage p s) how first sources) (sym (next_at l j e.0 e.1) ∙ ap (λ (i : ℕ). state_at l i) (let here : from + n + 1 ≡ k = omega (arith, at) in here)) next

pub in_time : (how : Gathering) (sources : List ℕ) (first root from : ℕ) (l : Ledger) → first + length (drop 2 sources) ≡ root → from ≤ length l.events → EachOf (λ stage p. IsHeld how stage p (state_at l from)) how first sources → is_some (given how sources (state_of l)) ≡ true →
    is_settled_in (state_of l).stages root ≡ true
in_time how sources first root from l is within each some =
    let n = length l.events - from in
    let last = held_at how sources first from l n (length l.events) each (omega (arith, within)) (omega arith) in
    root_settles how first root sources (state_of l) is (reached_closed l.plan l.events) (subst (λ (s : State). EachOf (λ stage p. IsHeld how stage p s) how first sources) (state_last l) last) some
