-- The remarks on steps.
use Rattle.std.proofs.Common.{◌≡◌, ℕ, zero, suc, ◌+◌, ◌<◌, ◌≤◌, Bool, true, false, List, [], ◌∷◌, ◌++◌, All, None, Option, Some, ap, append-nil, append_assoc, arith, drop, get_or, is_some, length, map, refl, subst, sym, take, ◌∙◌}
use Rattle.std.specs.Prelude.{nat_le, nat_lt, slice_get, if◌then◌else◌, ◌==◌, option_map}
use Rattle.std.proofs.lemmas.Bool.{eqb-true, le-ltb, lt-ltb}
use Rattle.std.proofs.lemmas.List.{at_drop_more, drop_all}
use Rattle.std.proofs.lemmas.List.Elements.{All-append, All-cons, All-nil}
use Rattle.std.proofs.lemmas.Option.{none-some, same_Some}
use Rattle.cf_forms.specs.declared.limits.Limit.{Limit}
use Rattle.cf_forms.specs.Plans.{PlannedStage, function_at}
use Rattle.cf_model.specs.declared.events.Event.{Event}
use Rattle.cf_model.specs.declared.events.Event.TheVariants.{Complete as Completes, Fail as Fails, FailAs as FailsAs, Cancel as Cancels, Claim as Claims, Finish as Finishes, Tick as Ticks, Attach as Attaches}
use Rattle.cf_script_reading.specs.declared.script.Step.{Step}
use Rattle.cf_script_reading.specs.declared.script.Step.TheVariants.{Asks, Does, Nudge, Work}
use Rattle.cf_explain.specs.declared.idle.StageSoFar.{StageSoFar}
use Rattle.cf_explain.specs.declared.place.Area.TheVariants as areas
use Rattle.cf_explain.specs.declared.remark.Idle.{Idle}
use Rattle.cf_explain.specs.declared.remark.Idle.TheVariants.{NoFunction, NoRoom, NoTurn, NoWork, NotClaimed, NotLater, Settled}
use Rattle.cf_explain.specs.declared.remark.Remark.{Remark}
use Rattle.cf_explain.specs.declared.remark.Remark.TheVariants as remarks
use Rattle.cf_explain.specs.Idles.{IsOfEvent, IsOfStep, not_later}
use Rattle.cf_explain.specs.Places.{place_of}
use Rattle.cf_explain.specs.Remarks.{IsIdleIn, IsOfThat}
use Rattle.cf_explain.specs.Sights.{Sight, idle_by, idle_event, idle_remarks, idles_from, is_any_called, known_at, known_of, seen_by, since, unclaimed, untouched}

-- ---- a reason is one that steps of its kind have

abbrev one_reason : Bool → Option Idle → Option Idle → Option Idle
one_reason b x y = if b then x else y

of_either : (P : Idle → Type 0) (b : Bool) (x y : Option Idle) (why : Idle) → (b ≡ true → x ≡ Some why → P why) → (b ≡ false → y ≡ Some why → P why) → one_reason b x y ≡ Some why → P why
of_either P true x y why here there e = here refl e
of_either P false x y why here there e = there refl e

of_one : (P : Idle → Type 0) (is why : Idle) → P is → Some is ≡ Some why → P why
of_one P is why h e = subst P (same_Some is why e) h

of_none : (P : Idle → Type 0) (why : Idle) → None ≡ Some why → P why
of_none P why e = absurd (none-some why e)

of_since : (P : Idle → Type 0) (o : Option ℕ) (why : Idle) → ((k : ℕ) → P (Settled k)) → option_map Settled o ≡ Some why → P why
of_since P None why h e = of_none P why e
of_since P (Some k) why h e = of_one P (Settled k) why (h k) e

of_later : (who moment : ℕ) (ticked : Option (ℕ × ℕ)) (why : Idle) → not_later ticked moment ≡ Some why → IsOfEvent (Ticks who moment) why
of_later who moment None why e = of_none (IsOfEvent (Ticks who moment)) why e
of_later who moment (Some last) why e =
    let P = IsOfEvent (Ticks who moment) in
    of_either P (nat_le moment last.1) (Some (NotLater last.0)) None why (λ _ f. of_one P (NotLater last.0) why tt f) (λ _ f. of_none P why f) e

of_event : (s : Sight) (event : Event) (why : Idle) → idle_event s event ≡ Some why → IsOfEvent event why
of_event s (Completes who i v) why e = of_since (IsOfEvent (Completes who i v)) (known_at s.stages i).settled why (λ k. tt) e
of_event s (Fails who i code) why e = of_since (IsOfEvent (Fails who i code)) (known_at s.stages i).settled why (λ k. tt) e
of_event s (FailsAs who i failure) why e = of_since (IsOfEvent (FailsAs who i failure)) (known_at s.stages i).settled why (λ k. tt) e
of_event s (Cancels who i) why e = of_since (IsOfEvent (Cancels who i)) (known_at s.stages i).settled why (λ k. tt) e
of_event s (Claims who i) why e =
    let P = IsOfEvent (Claims who i) in
    let known = known_at s.stages i in
    of_either P known.called (since known) (Some NoFunction) why (λ _ f. of_since P known.settled why (λ k. tt) f) (λ _ f. of_one P NoFunction why tt f) e
of_event s (Finishes who i answer) why e =
    let P = IsOfEvent (Finishes who i answer) in
    of_either P (unclaimed who (known_at s.stages i)) (Some NotClaimed) None why (λ _ f. of_one P NotClaimed why tt f) (λ _ f. of_none P why f) e
of_event s (Ticks who moment) why e = of_later who moment s.ticked why e
of_event s (Attaches who form of function) why e =
    let P = IsOfEvent (Attaches who form of function) in
    of_either P (s.room == 0) (Some NoRoom) None why (λ _ f. of_one P NoRoom why tt f) (λ _ f. of_none P why f) e

of_step : (s : Sight) (step : Step) (why : Idle) → idle_by s step ≡ Some why → IsOfStep step why
of_step s (Does event) why e = of_event s event why e
of_step s (Asks ask) why e = of_none (IsOfStep (Asks ask)) why e
of_step s Work why e =
    of_either (IsOfStep Work) (is_any_called s.stages) None (Some NoWork) why (λ _ f. of_none (IsOfStep Work) why f) (λ _ f. of_one (IsOfStep Work) NoWork why tt f) e
of_step s (Nudge turns) why e =
    let P = IsOfStep (Nudge turns) in
    of_either P (turns == 0) (Some NoTurn) None why (λ is f. of_one P NoTurn why (eqb-true turns 0 is) f) (λ _ f. of_none P why f) e

-- ---- each remark is of a step that is there

idle_at : (steps : List Step) (k : ℕ) (step : Step) (why : Idle) → slice_get steps k ≡ Some step → IsOfStep step why
    → IsIdleIn steps (remarks.Idle (place_of (areas.Step k)) why)
idle_at steps k step why there h = (refl, subst (λ s. IsOfThat s why) (sym there) h)

one_fits : (all : List Step) (k : ℕ) (step : Step) (reason : Option Idle) → slice_get all k ≡ Some step → ((why : Idle) → reason ≡ Some why → IsOfStep step why) →
    All (IsIdleIn all) (idle_remarks k reason)
one_fits all k step None there h = All-nil (IsIdleIn all)
one_fits all k step (Some why) there h = All-cons (IsIdleIn all) (remarks.Idle (place_of (areas.Step k)) why) [] (idle_at all k step why there (h why refl)) (All-nil (IsIdleIn all))

at_drop : (all : List Step) (k : ℕ) (step : Step) (rest : List Step) → step ∷ rest ≡ drop k all → (slice_get all k ≡ Some step) × (rest ≡ drop (suc k) all)
at_drop [] zero step rest e = absurd (cc)
at_drop [] (suc k) step rest e = absurd (cc)
at_drop (x ∷ xs) zero step rest e =
    let same : step ≡ x = cc in
    let others : rest ≡ xs = cc in
    (ap (λ (y : Step). Some y) (sym same), others)
at_drop (x ∷ xs) (suc k) step rest e = at_drop xs k step rest e

fits_if : (b : Bool) (all : List Step) (xs : List Remark) → All (IsIdleIn all) xs → All (IsIdleIn all) (if b then xs else [])
fits_if true all xs h = h
fits_if false all xs h = All-nil (IsIdleIn all)

fit_from : (limits : List Limit) (all : List Step) (s : Sight) (k : ℕ) (rest : List Step) → rest ≡ drop k all → All (IsIdleIn all) (idles_from limits s k rest)
fit_from limits all s k [] e = All-nil (IsIdleIn all)
fit_from limits all s k (step ∷ rest) e =
    let at = at_drop all k step rest e in
    let next : suc k ≡ k + 1 = omega arith in
    let others = fit_from limits all (seen_by limits step k s) (k + 1) rest (at.1 ∙ ap (λ (n : ℕ). drop n all) next) in
    fits_if (nat_lt k 4294967296) all (idle_remarks k (idle_by s step) ++ idles_from limits (seen_by limits step k s) (k + 1) rest)
    (All-append (IsIdleIn all) (idle_remarks k (idle_by s step)) (idles_from limits (seen_by limits step k s) (k + 1) rest) (one_fits all k step (idle_by s step) at.0 (of_step s step)) others)

pub all_fit : (limits : List Limit) (steps : List Step) (s : Sight) (said : List Remark) → said ≡ idles_from limits s 0 steps → All (IsIdleIn steps) said
all_fit limits steps s said e = subst (All (IsIdleIn steps)) (sym e) (fit_from limits steps s 0 steps refl)

-- ---- where they end

left_if : (b : Bool) (xs : List Remark) → b ≡ false → (if b then xs else []) ≡ []
left_if true xs e = absurd (cc)
left_if false xs e = refl

idles_past : (limits : List Limit) (s : Sight) (k : ℕ) (steps : List Step) → 4294967296 ≤ k → idles_from limits s k steps ≡ []
idles_past limits s k [] past = refl
idles_past limits s k (step ∷ steps) past =
    left_if (nat_lt k 4294967296) (idle_remarks k (idle_by s step) ++ idles_from limits (seen_by limits step k s) (k + 1) steps) (le-ltb k 4294967296 past)

-- no step is left, or none that has a number
pub idles_stop : (limits : List Limit) (s : Sight) (k : ℕ) (steps : List Step) (said all : List Remark) → 4294967296 ≤ k → said ++ idles_from limits s k steps ≡ all → said ≡ all
idles_stop limits s k steps said all past is = sym (append-nil said) ∙ ap (λ (xs : List Remark). said ++ xs) (sym (idles_past limits s k steps past)) ∙ is

pub idles_done : (limits : List Limit) (s : Sight) (k : ℕ) (steps : List Step) (said all : List Remark) → length steps ≤ k → said ++ idles_from limits s k (drop k steps) ≡ all → said ≡ all
idles_done limits s k steps said all past is =
    sym (append-nil said) ∙ ap (λ (xs : List Step). said ++ idles_from limits s k xs) (sym (drop_all k steps past)) ∙ is

-- ---- one step more

if_so : (b : Bool) (xs : List Remark) → b ≡ true → (if b then xs else []) ≡ xs
if_so true xs e = refl
if_so false xs e = absurd (cc)

idles_at : (limits : List Limit) (s : Sight) (k : ℕ) (steps : List Step) (d : Step) → k < length steps → k < 4294967296 →
    idles_from limits s k (drop k steps) ≡ idle_remarks k (idle_by s (get_or steps k d)) ++ idles_from limits (seen_by limits (get_or steps k d) k s) (k + 1) (drop (k + 1) steps)
idles_at limits s k steps d here fits =
    let step = get_or steps k d in
    at_drop_more (idles_from limits s k) steps k d here
    ∙ if_so (nat_lt k 4294967296) (idle_remarks k (idle_by s step) ++ idles_from limits (seen_by limits step k s) (k + 1) (drop (k + 1) steps)) (lt-ltb k 4294967296 fits)

pub idles_more : (limits : List Limit) (s t : Sight) (k : ℕ) (steps : List Step) (d : Step) (said now all : List Remark) → k < length steps → k < 4294967296 →
    now ≡ said ++ idle_remarks k (idle_by s (get_or steps k d)) → t ≡ seen_by limits (get_or steps k d) k s → said ++ idles_from limits s k (drop k steps) ≡ all →
    now ++ idles_from limits t (k + 1) (drop (k + 1) steps) ≡ all
idles_more limits s t k steps d said now all here fits e f is =
    let step = get_or steps k d in
    let rest = drop (k + 1) steps in
    ap (λ (xs : List Remark). xs ++ idles_from limits t (k + 1) rest) e
    ∙ append_assoc said (idle_remarks k (idle_by s step)) (idles_from limits t (k + 1) rest)
    ∙ ap (λ (u : Sight). said ++ (idle_remarks k (idle_by s step) ++ idles_from limits u (k + 1) rest)) f
    ∙ ap (λ (xs : List Remark). said ++ xs) (sym (idles_at limits s k steps d here fits))
    ∙ is

-- ---- one stage more

pub known_more : (stages : List PlannedStage) (i : ℕ) → i < length stages →
    map known_of (take i stages) ++ untouched (is_some (function_at stages i)) ∷ [] ≡ map known_of (take (suc i) stages)
known_more [] i l = absurd (omega arith)
known_more (p ∷ stages) zero l = refl
known_more (p ∷ stages) (suc i) l = ap (λ (r : List StageSoFar). known_of p ∷ r) (known_more stages i (omega arith))
