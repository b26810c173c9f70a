-- What a machine keeps over a row of calls.
use Rattle.std.proofs.Common.{◌≡◌, ℕ, zero, suc, ◌+◌, ◌≤◌, ◌⊎◌, inl, inr, true, false, Option, Some, None, is_some, List, [], ◌∷◌, ◌++◌, Contains, length, max, take, refl, ap, sym, ◌∙◌, subst, arith, append-nil}
use Rattle.std.specs.Prelude.{Err, IfOk, Ok, Result}
use Rattle.std.proofs.Math.Nat.{le-max_left}
use Rattle.std.proofs.lemmas.List.Elements.{All-contains, Contains-append_cases, Contains-append_left, Contains-append_right}
use Rattle.cf_outcome.specs.declared.outcome.Outcome.{Outcome}
use Rattle.cf_forms.specs.Plans.{Planned}
use Rattle.cf_model.specs.declared.stage.Stage.{Stage}
use Rattle.cf_model.specs.declared.events.Event.{Event}
use Rattle.cf_model.specs.States.{State, outcome_at, start}
use Rattle.cf_model.specs.Events.{answered, state_after}
use Rattle.cf_model.specs.Laws.{KeepsOutcomes}
use Rattle.cf_ledger.specs.Ledgers.{Ledger, roomier, state_at, state_of, with_more}
use Rattle.cf_request.specs.Deadlines.{Forgets, IsNextDue, Sets}
use Rattle.cf_request.specs.Machines.{IsNoPass, Machine, Passes, state_in}
use Rattle.cf_request.specs.Rows.{AddsBehind, AreCalls, IsCall, IsLater, Out, nothing}
use Rattle.cf_request.specs.Rows.IsCall.{applies, goes_on, sets_join, sets_deadline, forgets, passes, refuses, cancels_all, took, grows, reserves, is_refused}
use Rattle.cf_request.specs.Telling.{is_settled_in}
use Rattle.cf_request.specs.declared.deadlines.Deadline.{Deadline}
use Rattle.cf_request.specs.declared.faults.MachineFault.{MachineFault}
use Rattle.cf_request.specs.declared.faults.MachineFault.TheVariants.{NoMemory, NoStage, Past, Full}
use Rattle.cf_request.specs.declared.joins.Join.{Join}
use Rattle.cf_example.specs.Calls.{IsKept}
use Rattle.cf_example.specs.Keeping.{DeadlinesAreMet, MomentsGoOn, RelaysStay}

-- ---- a settled stage stays settled

after_append : (s : State) (xs ys : List Event) → state_after s (xs ++ ys) ≡ state_after (state_after s xs) ys
after_append s [] ys = refl
after_append s (x ∷ xs) ys = after_append ((answered s x).1) xs ys

pub take_whole : {A : Type 0} (xs : List A) → take (length xs) xs ≡ xs
take_whole [] = refl
take_whole {A} (x ∷ xs) = ap (λ (l : List A). x ∷ l) (take_whole xs)

stays : KeepsOutcomes → (s : State) (more : List Event) (i : ℕ) (o : Option Outcome) → outcome_at s i ≡ o → is_some o ≡ true → is_settled_in (state_after s more).stages i ≡ true
stays keeps s more i None is there = (let no : ⊥ = cc in absurd no)
stays keeps s more i (Some o) is there = ap (λ (x : Option Outcome). is_some x) (keeps s more i o is)

settled_later : KeepsOutcomes → (old new : Ledger) (i : ℕ) → IsLater old new → is_settled_in (state_of old).stages i ≡ true → is_settled_in (state_of new).stages i ≡ true
settled_later keeps old new i l settled =
    let wide = with_more old l.grown in
    let whole : state_of wide ≡ state_at wide (length old.events) = ap (λ (es : List Event). state_after (start wide.plan) es) (sym (take_whole old.events)) in
    let before : state_at old (length old.events) ≡ state_of old = ap (λ (es : List Event). state_after (start old.plan) es) (take_whole old.events) in
    let same : (state_of wide).stages ≡ (state_of old).stages = ap (λ (s : State). s.stages) (whole ∙ l.states (length old.events) ∙ ap (roomier l.grown) before) in
    let there : is_settled_in (state_of wide).stages i ≡ true = subst (λ (xs : List Stage). is_settled_in xs i ≡ true) (sym same) settled in
    let is : state_of new ≡ state_after (state_of wide) l.more =
    ap (λ (p : Planned). state_after (start p) new.events) l.plan ∙ ap (λ (es : List Event). state_after (start wide.plan) es) l.events ∙ after_append (start wide.plan) old.events l.more in
    subst (λ (s : State). is_settled_in s.stages i ≡ true) (sym is) (stays keeps (state_of wide) l.more i (outcome_at (state_of wide) i) refl there)

settled_by_call : KeepsOutcomes → AddsBehind → (old new : Machine) (out : Out) (i : ℕ) → IsCall old out new → is_settled_in (state_in old).stages i ≡ true → is_settled_in (state_in new).stages i ≡ true
settled_by_call keeps behind old new out i call settled = settled_later keeps old.teller.ledger new.teller.ledger i (behind old new (out ∷ []) (new, call, refl)).later settled

-- ---- a deadline is kept, or its stage is settled

pub first : {A : Type 0} (x : A) (xs : List A) → Contains (x ∷ xs) x
first x xs = (0, omega arith, refl)

pub later : {A : Type 0} (x y : A) (xs : List A) → Contains xs y → Contains (x ∷ xs) y
later x y xs h = (suc h.0, (let l = h.1 in omega arith), h.2)

pub cases : {A : Type 0} (x y : A) (xs : List A) → Contains (x ∷ xs) y → (x ≡ y) ⊎ Contains xs y
cases x y xs (zero, l, e) = inl e
cases x y xs (suc k, l, e) = inr (k, omega arith, e)

pub none : {A : Type 0} (y : A) → Contains [] y → ⊥
none y h = absurd (let l = h.1 in omega arith)

kept_by_forgetting : (stages : List Stage) (old new : List Deadline) (d : Deadline) → Forgets stages old new → Contains old d → Contains new d ⊎ (is_settled_in stages d.stage ≡ true)
kept_by_forgetting stages [] new d f h = absurd (none d h)
kept_by_forgetting stages (x ∷ old) new d (inl (rest, is, f)) h = by_place (kept_by_forgetting stages old rest d f) (cases x d old h)
  where
    there : Contains (x ∷ rest) d → Contains new d
    there g = subst (λ (l : List Deadline). Contains l d) (sym is) g

    behind : Contains rest d ⊎ (is_settled_in stages d.stage ≡ true) → Contains new d ⊎ (is_settled_in stages d.stage ≡ true)
    behind (inl g) = inl (there (later x d rest g))
    behind (inr s) = inr s

    by_place : (Contains old d → Contains rest d ⊎ (is_settled_in stages d.stage ≡ true)) → (x ≡ d) ⊎ Contains old d → Contains new d ⊎ (is_settled_in stages d.stage ≡ true)
    by_place more (inl same) = inl (there (subst (λ (y : Deadline). Contains (x ∷ rest) y) same (first x rest)))
    by_place more (inr g) = behind (more g)
kept_by_forgetting stages (x ∷ old) new d (inr (settled, f)) h = by_place (kept_by_forgetting stages old new d f) (cases x d old h)
  where
    by_place : (Contains old d → Contains new d ⊎ (is_settled_in stages d.stage ≡ true)) → (x ≡ d) ⊎ Contains old d → Contains new d ⊎ (is_settled_in stages d.stage ≡ true)
    by_place more (inl same) = inr (subst (λ (y : Deadline). is_settled_in stages y.stage ≡ true) same settled)
    by_place more (inr g) = more g

kept_by_setting : (stages : List Stage) (e : Deadline) (old new : List Deadline) (d : Deadline) → Sets stages e old new → Contains old d → Contains new d ⊎ (is_settled_in stages d.stage ≡ true)
kept_by_setting stages e old new d s h = by_case (kept_by_forgetting stages old s.kept d s.forgets h)
  where
    among : Contains s.put.front d ⊎ Contains s.put.back d → Contains (s.put.front ++ e ∷ s.put.back) d
    among (inl g) = Contains-append_left s.put.front (e ∷ s.put.back) d g
    among (inr g) = Contains-append_right s.put.front (e ∷ s.put.back) d (later e d s.put.back g)

    by_case : Contains s.kept d ⊎ (is_settled_in stages d.stage ≡ true) → Contains new d ⊎ (is_settled_in stages d.stage ≡ true)
    by_case (inr settled) = inr settled
    by_case (inl g) = inl (subst (λ (l : List Deadline). Contains l d) (sym s.put.is) (among (Contains-append_cases s.put.front s.put.back d (subst (λ (l : List Deadline). Contains l d) s.put.was g))))

-- what a call does to the deadlines: nothing; it sets one; or it forgets some of stages that are settled before it, or behind it
abbrev Treats : Machine → Machine → Type 0
Treats old new =
    (new.deadlines ≡ old.deadlines) ⊎ (((d : Deadline) × Sets (state_in old).stages d old.deadlines new.deadlines) ⊎ (Forgets (state_in old).stages old.deadlines new.deadlines ⊎ Forgets (state_in new).stages old.deadlines new.deadlines))

treats : (old new : Machine) (out : Out) → IsCall old out new → Treats old new
treats old new out (applies word lane reply none h) = inl (ap (λ (m : Machine). m.deadlines) h.same)
treats old new out (goes_on who lane held next is h) = inl (ap (λ (m : Machine). m.deadlines) h.same)
treats old new out (sets_join join none h) = inl (ap (λ (m : Machine). m.deadlines) h.same)
treats old new out (sets_deadline deadline none h) = inr (inl (deadline, h.sets))
treats old new out (forgets none forgotten same) = inr (inr (inl forgotten))
treats old new out (passes moment none h) = inr (inr (inr h.forgets))
treats old new out (refuses lane code none h) = inl (ap (λ (m : Machine). m.deadlines) h.same)
treats old new out (cancels_all who none h) = inl (ap (λ (m : Machine). m.deadlines) h.same)
treats old new out (took count is h) = inl (ap (λ (m : Machine). m.deadlines) h.rest)
treats old new out (grows none h) = inl (ap (λ (m : Machine). m.deadlines) h.is)
treats old new out (reserves words none is) = inl (ap (λ (m : Machine). m.deadlines) is)
treats old new out (is_refused none h) = inl (ap (λ (m : Machine). m.deadlines) h.same)

safe_by_call : KeepsOutcomes → AddsBehind → (old new : Machine) (out : Out) (d : Deadline) → IsCall old out new → IsKept d old → IsKept d new
safe_by_call keeps behind old new out d call (inr settled) = inr (settled_by_call keeps behind old new out d.stage call settled)
safe_by_call keeps behind old new out d call (inl h) = by_way (treats old new out call)
  where
    of_old : Contains new.deadlines d ⊎ (is_settled_in (state_in old).stages d.stage ≡ true) → IsKept d new
    of_old (inl g) = inl g
    of_old (inr settled) = inr (settled_by_call keeps behind old new out d.stage call settled)

    by_way : Treats old new → IsKept d new
    by_way (inl same) = inl (subst (λ (l : List Deadline). Contains l d) (sym same) h)
    by_way (inr (inl (e, sets))) = of_old (kept_by_setting (state_in old).stages e old.deadlines new.deadlines d sets h)
    by_way (inr (inr (inl f))) = of_old (kept_by_forgetting (state_in old).stages old.deadlines new.deadlines d f h)
    by_way (inr (inr (inr f))) = kept_by_forgetting (state_in new).stages old.deadlines new.deadlines d f h

pub safe : KeepsOutcomes → AddsBehind → (old new : Machine) (outs : List Out) (d : Deadline) → AreCalls old outs new → IsKept d old → IsKept d new
safe keeps behind old new [] d same s = subst (λ (m : Machine). IsKept d m) (sym same) s
safe keeps behind old new (out ∷ outs) d (between, call, rest) s = safe keeps behind between new outs d rest (safe_by_call keeps behind old between out d call s)

pub met : KeepsOutcomes → AddsBehind → (mid new : Machine) (d : Deadline) (moment : ℕ) → Passes moment mid new → d.moment ≤ moment → IsKept d mid → is_settled_in (state_in new).stages d.stage ≡ true
met keeps behind mid new d moment p le (inl h) = All-contains (λ (e : Deadline). e.moment ≤ moment → is_settled_in (state_in new).stages e.stage ≡ true) mid.deadlines d p.none.1 h le
met keeps behind mid new d moment p le (inr settled) = settled_by_call keeps behind mid new nothing d.stage (passes moment refl p) settled

pub deadlines_met : KeepsOutcomes → AddsBehind → DeadlinesAreMet
deadlines_met keeps behind old mid new outs d moment h calls p le = met keeps behind mid new d moment p le (safe keeps behind old mid outs d calls (inl h))

-- ---- relays

-- what a call does to them: it sets some behind the others
record Follows (old new : Machine) : Type 0 where
  more : List Join
  is : new.follows ≡ old.follows ++ more

follows_same : (old new : Machine) → new.follows ≡ old.follows → Follows old new
follows_same old new same = record { more = []; is = same ∙ sym (append-nil old.follows) }

follows_by : (old new : Machine) (out : Out) → IsCall old out new → Follows old new
follows_by old new out (applies word lane reply none h) = follows_same old new (ap (λ (m : Machine). m.follows) h.same)
follows_by old new out (goes_on who lane held next is h) = follows_same old new (ap (λ (m : Machine). m.follows) h.same)
follows_by old new out (sets_join join none h) = record { more = join ∷ []; is = h.set }
follows_by old new out (sets_deadline deadline none h) = follows_same old new (ap (λ (m : Machine). m.follows) h.same)
follows_by old new out (forgets none forgotten same) = follows_same old new (ap (λ (m : Machine). m.follows) same)
follows_by old new out (passes moment none h) = follows_same old new (ap (λ (m : Machine). m.follows) h.same)
follows_by old new out (refuses lane code none h) = follows_same old new (ap (λ (m : Machine). m.follows) h.same)
follows_by old new out (cancels_all who none h) = follows_same old new (ap (λ (m : Machine). m.follows) h.same)
follows_by old new out (took count is h) = follows_same old new (ap (λ (m : Machine). m.follows) h.rest)
follows_by old new out (grows none h) = follows_same old new (ap (λ (m : Machine). m.follows) h.is)
follows_by old new out (reserves words none is) = follows_same old new (ap (λ (m : Machine). m.follows) is)
follows_by old new out (is_refused none h) = follows_same old new (ap (λ (m : Machine). m.follows) h.same)

pub relays_stay : RelaysStay
relays_stay old new [] f h same = subst (λ (m : Machine). Contains m.follows f) (sym same) h
relays_stay old new (out ∷ outs) f h (between, call, rest) =
    let row = follows_by old between out call in
    relays_stay between new outs f (subst (λ (l : List Join). Contains l f) (sym row.is) (Contains-append_left old.follows row.more f h)) rest

-- ---- moments

moment_by : (old new : Machine) (out : Out) → IsCall old out new → old.moment ≤ new.moment
moment_by old new out (applies word lane reply none h) = let same = ap (λ (m : Machine). m.moment) h.same in omega (arith, same)
moment_by old new out (goes_on who lane held next is h) = let same = ap (λ (m : Machine). m.moment) h.same in omega (arith, same)
moment_by old new out (sets_join join none h) = let same = ap (λ (m : Machine). m.moment) h.same in omega (arith, same)
moment_by old new out (sets_deadline deadline none h) = let same = ap (λ (m : Machine). m.moment) h.same in omega (arith, same)
moment_by old new out (forgets none forgotten same) = let is = ap (λ (m : Machine). m.moment) same in omega (arith, is)
moment_by old new out (passes moment none h) = let same = ap (λ (m : Machine). m.moment) h.same in let on = h.onward in omega (arith, same, on)
moment_by old new out (refuses lane code none h) = let same = ap (λ (m : Machine). m.moment) h.same in omega (arith, same)
moment_by old new out (cancels_all who none h) = let same = ap (λ (m : Machine). m.moment) h.same in omega (arith, same)
moment_by old new out (took count is h) = let same = ap (λ (m : Machine). m.moment) h.rest in omega (arith, same)
moment_by old new out (grows none h) = let same = ap (λ (m : Machine). m.moment) h.is in omega (arith, same)
moment_by old new out (reserves words none is) = let same = ap (λ (m : Machine). m.moment) is in omega (arith, same)
moment_by old new out (is_refused none h) = let same = ap (λ (m : Machine). m.moment) h.same in omega (arith, same)

pub moments_on : MomentsGoOn
moments_on old new [] same = let is = ap (λ (m : Machine). m.moment) same in omega (arith, is)
moments_on old new (out ∷ outs) (between, call, rest) =
    let one = moment_by old between out call in
    let others = moments_on between new outs rest in
    omega (arith, one, others)

-- ---- what a clock does

-- what is told next isn't forgotten
next_kept : (old mid : Machine) (e : Deadline) → is_settled_in (state_in old).stages e.stage ≡ false → Contains mid.deadlines e ⊎ (is_settled_in (state_in old).stages e.stage ≡ true) → Contains mid.deadlines e
next_kept old mid e waits (inl h) = h
next_kept old mid e waits (inr settled) = (let no : ⊥ = cc in absurd no)

-- a pass to what is told settles it
pub next_settled : (old mid new : Machine) (d : Deadline) → IsNextDue old.moment old.deadlines (state_in old).stages d → Forgets (state_in old).stages old.deadlines mid.deadlines → Passes d.moment mid new →
    is_settled_in (state_in new).stages d.stage ≡ true
next_settled old mid new d due forgotten p =
    let e = due.deadline in
    let front = due.next.front in
    let back = due.next.back in
    let there : Contains old.deadlines e = subst (λ (l : List Deadline). Contains l e) (sym due.next.is) (Contains-append_right front (e ∷ back) e (first e back)) in
    let kept = next_kept old mid e due.next.waits (kept_by_forgetting (state_in old).stages old.deadlines mid.deadlines e forgotten there) in
    let moment : d.moment ≡ max e.moment old.moment = ap (λ (f : Deadline). f.moment) due.is in
    let stage : d.stage ≡ e.stage = ap (λ (f : Deadline). f.stage) due.is in
    let most = le-max_left e.moment old.moment in
    subst (λ (i : ℕ). is_settled_in (state_in new).stages i ≡ true) (sym stage)
    (All-contains (λ (f : Deadline). f.moment ≤ d.moment → is_settled_in (state_in new).stages f.stage ≡ true) mid.deadlines e p.none.1 kept (omega (arith, moment, most)))

-- a pass that isn't before the last moment is refused for want of memory alone
pub memory_alone : (moment : ℕ) (m : Machine) (fault : MachineFault) → m.moment ≤ moment → IsNoPass moment m fault → fault ≡ NoMemory
memory_alone moment m NoMemory on why = refl
memory_alone moment m NoStage on why = absurd why
memory_alone moment m Past on why = absurd (omega (arith, on, why))
memory_alone moment m Full on why = absurd why

pub ok_so : {A E : Type 0} (r : Result A E) (P Q : A → Type 0) → IfOk r P → ((a : A) → P a → Q a) → IfOk r Q
ok_so (Ok a) P Q h then = then a h
ok_so (Err e) P Q h then = tt
