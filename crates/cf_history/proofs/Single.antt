-- There is one verdict on a history. A line with variables is for the cases that fit no line above it.
use Rattle.std.proofs.Common.{◌≡◌, ℕ, zero, suc, ◌+◌, ◌-◌, ◌<◌, List, [], ◌∷◌, length, take, drop, refl, ap, sym, ◌∙◌, arith, subst}
use Rattle.std.specs.Prelude.{Option, Some, None, slice_get}
use Rattle.cf_forms.specs.Plans.{Planned}
use Rattle.cf_outcome.specs.declared.outcome.Outcome.{Outcome}
use Rattle.cf_model.specs.declared.events.Event.{Event}
use Rattle.cf_model.specs.States.{State, outcome_at, start}
use Rattle.cf_model.specs.Events.{answered, state_after}
use Rattle.cf_event.specs.Decoding.{decoded}
use Rattle.cf_event.specs.Histories.{place_of}
use Rattle.cf_event.specs.declared.record.Record.{Record}
use Rattle.cf_event.specs.declared.record.Record.TheVariants.{Did, Saw}
use Rattle.cf_history.specs.declared.history.History.{History}
use Rattle.cf_history.specs.declared.history.Caller.{Caller}
use Rattle.cf_history.specs.declared.verdict.Misfit.{Misfit}
use Rattle.cf_history.specs.declared.verdict.Misfit.TheVariants.{Before, Behind, Skips, Other, Reply as Replies, NoStage as AsksNone, Told as Tells}
use Rattle.cf_history.specs.declared.verdict.Unfit.{Unfit}
use Rattle.cf_history.specs.declared.verdict.Unfit.TheVariants.{NoEvent, NoCaller, NoStage, NoFunction}
use Rattle.cf_history.specs.declared.verdict.Verdict.{Verdict}
use Rattle.cf_history.specs.declared.verdict.Verdict.TheVariants.{Fits, Event as AtEvent, Record as AtRecord, Missing, Outcome as AtOutcome, Stages}
use Rattle.cf_history.specs.Histories.{AllRight, AreWordsOf, said}
use Rattle.cf_history.specs.Laws.{OneVerdict}
use Rattle.cf_history.specs.Records.{AreRight, state_in}
use Rattle.cf_history.specs.Verdicts.{ComesTo, IsFirstMisfit, IsFirstOther, IsFirstUnfit, IsMisfit, IsNext, IsOfCallers, IsOfOutcomes, IsOfWords, IsSkipped, IsUnfit, IsUnfitWord, LeavesOut, TellsOfCallers, TellsOfOutcomes}
use Rattle.cf_history.proofs.Owns.{get_take, not_skipped}
use Rattle.cf_history.proofs.Walks.{none_left_out, not_all_right, not_right, skipped_here}
use Rattle.cf_history.proofs.Words.{not_event, not_events, not_words}
use Rattle.cf_history.proofs.Whole.{not_of_callers, only_fits, right_here}

-- one reason of an event
unfit_one : (callers functions : ℕ) (s : State) (e : Event) (a b : Unfit) → IsUnfit callers functions s e a → IsUnfit callers functions s e b → a ≡ b
unfit_one callers functions s e NoEvent b p q = absurd p
unfit_one callers functions s e a NoEvent p q = absurd q
unfit_one callers functions s e NoCaller NoCaller p q = refl
unfit_one callers functions s e NoCaller b p q = absurd (let l = q.0 in omega arith)
unfit_one callers functions s e a NoCaller p q = absurd (let l = p.0 in omega arith)
unfit_one callers functions s e NoStage NoStage p q = refl
unfit_one callers functions s e NoStage NoFunction p q = absurd (p.1 q.1)
unfit_one callers functions s e NoFunction NoStage p q = absurd (q.1 p.1)
unfit_one callers functions s e NoFunction NoFunction p q = refl

first_unfit_one : (callers functions : ℕ) (s : State) (k j : ℕ) (events : List Event) (a b : Unfit) → IsFirstUnfit callers functions s k events a →
    IsFirstUnfit callers functions s j events b → (k ≡ j) × (a ≡ b)
first_unfit_one callers functions s k j [] a b p q = absurd p
first_unfit_one callers functions s zero zero (e ∷ events) a b p q = (refl, unfit_one callers functions s e a b p q)
first_unfit_one callers functions s zero (suc j) (e ∷ events) a b p q = absurd (not_event callers functions s e a p q.0)
first_unfit_one callers functions s (suc k) zero (e ∷ events) a b p q = absurd (not_event callers functions s e b q p.0)
first_unfit_one callers functions s (suc k) (suc j) (e ∷ events) a b p q =
    let r : (k ≡ j) × (a ≡ b) = first_unfit_one callers functions ((answered s e).1) k j events a b p.1 q.1 in (ap suc r.0, r.1)

unfit_word_one : (callers functions : ℕ) (s : State) (words : List ℕ) (k j : ℕ) (a b : Unfit) → IsUnfitWord callers functions s words k a →
    IsUnfitWord callers functions s words j b → (k ≡ j) × (a ≡ b)
unfit_word_one callers functions s words k j NoEvent NoEvent p q = (p.0 ∙ sym q.0, refl)
unfit_word_one callers functions s words k j NoEvent b p q = absurd (not_events callers functions s j (decoded words) b q p.2)
unfit_word_one callers functions s words k j a NoEvent p q = absurd (not_events callers functions s k (decoded words) a p q.2)
unfit_word_one callers functions s words k j a b p q = first_unfit_one callers functions s k j (decoded words) a b p q

words_one : (callers functions : ℕ) (s : State) (words : List ℕ) (place there : ℕ) (a b : Unfit) → IsOfWords callers functions s words (AtEvent place a) →
    IsOfWords callers functions s words (AtEvent there b) → AtEvent place a ≡ AtEvent there b
words_one callers functions s words place there a b t u =
    let r : (t.0 ≡ u.0) × (a ≡ b) = unfit_word_one callers functions s words t.0 u.0 a b t.2 u.2 in
    let same : place ≡ there = (let x = t.1 in let y = u.1 in let z = r.0 in omega arith) in
    ap (λ (p : ℕ). AtEvent p a) same ∙ ap (AtEvent there) r.1

-- one next event of a caller
next_one : (c n m : ℕ) (rest : List Event) → IsNext c rest n → IsNext c rest m → n ≡ m
next_one c n m rest a b =
    let low : n < m → ⊥ = λ l. not_skipped c 0 m (0 + n + 1) rest (skipped_here c 0 m n rest l a) b.none in
    let high : m < n → ⊥ = λ l. not_skipped c 0 n (0 + m + 1) rest (skipped_here c 0 n m rest l b) a.none in
    omega arith

skip_one : (c at most p q : ℕ) (rest : List Event) → IsSkipped c rest at most p → IsSkipped c rest at most q → p ≡ q
skip_one c at most p q rest a b =
    let same : a.before ≡ b.before = next_one c a.before b.before rest a.next b.next in
    let x = a.place_is in let y = b.place_is in omega arith

-- one reason of a record
misfit_one : (c : ℕ) (s : State) (rest : List Event) (at : ℕ) (r : Record) (a b : Misfit) → IsMisfit c s rest at r a → IsMisfit c s rest at r b → a ≡ b
misfit_one c s rest at (Did place e reply) AsksNone b m n = absurd m
misfit_one c s rest at (Did place e reply) (Tells x) b m n = absurd m
misfit_one c s rest at (Did place e reply) a AsksNone m n = absurd n
misfit_one c s rest at (Did place e reply) a (Tells y) m n = absurd n
misfit_one c s rest at (Saw place ask answer) Other b m n = absurd m
misfit_one c s rest at (Saw place ask answer) (Replies x) b m n = absurd m
misfit_one c s rest at (Saw place ask answer) a Other m n = absurd n
misfit_one c s rest at (Saw place ask answer) a (Replies y) m n = absurd n
misfit_one c s rest at r Before Before m n = refl
misfit_one c s rest at r Before Behind m n = absurd (omega arith)
misfit_one c s rest at r Before (Skips y) m n = absurd (let l = n.1.below in omega arith)
misfit_one c s rest at r Before b m n = absurd (let l = n.0.0 in omega arith)
misfit_one c s rest at r Behind Before m n = absurd (omega arith)
misfit_one c s rest at r (Skips x) Before m n = absurd (let l = m.1.below in omega arith)
misfit_one c s rest at r a Before m n = absurd (let l = m.0.0 in omega arith)
misfit_one c s rest at r Behind Behind m n = refl
misfit_one c s rest at r Behind (Skips y) m n = absurd (let l = n.0 in omega arith)
misfit_one c s rest at r Behind b m n = absurd (let l = n.0.1 in omega arith)
misfit_one c s rest at r (Skips x) Behind m n = absurd (let l = m.0 in omega arith)
misfit_one c s rest at r a Behind m n = absurd (let l = m.0.1 in omega arith)
misfit_one c s rest at r (Skips x) (Skips y) m n = ap Skips (skip_one c at _ x y rest m.1 n.1)
misfit_one c s rest at r (Skips x) b m n = absurd (not_skipped c at _ x rest m.1 n.0.2)
misfit_one c s rest at r a (Skips y) m n = absurd (not_skipped c at _ y rest n.1 m.0.2)
misfit_one c s rest at r Other Other m n = refl
misfit_one c s rest at r Other (Replies y) m n = absurd (m.1 n.1)
misfit_one c s rest at r (Replies x) Other m n = absurd (n.1 m.1)
misfit_one c s rest at r (Replies x) (Replies y) m n = ap Replies (m.2 ∙ sym n.2)
misfit_one c s rest at r AsksNone AsksNone m n = refl
misfit_one c s rest at r AsksNone (Tells y) m n = absurd (m.1 n.1)
misfit_one c s rest at r (Tells x) AsksNone m n = absurd (n.1 m.1)
misfit_one c s rest at r (Tells x) (Tells y) m n = ap Tells (m.2 ∙ sym n.2)

first_misfit_one : (c : ℕ) (s : State) (rest : List Event) (at k j : ℕ) (records : List Record) (a b : Misfit) → IsFirstMisfit c s rest at k records a →
    IsFirstMisfit c s rest at j records b → (k ≡ j) × (a ≡ b)
first_misfit_one c s rest at k j [] a b m n = absurd m
first_misfit_one c s rest at zero zero (r ∷ records) a b m n = (refl, misfit_one c s rest at r a b m n)
first_misfit_one c s rest at zero (suc j) (r ∷ records) a b m n = absurd (not_right c s rest at r a m n.0)
first_misfit_one c s rest at (suc k) zero (r ∷ records) a b m n = absurd (not_right c s rest at r b n m.0)
first_misfit_one c s rest at (suc k) (suc j) (r ∷ records) a b m n =
    let g : (k ≡ j) × (a ≡ b) = first_misfit_one c (state_in s rest (place_of r - at)) (drop (place_of r - at) rest) (place_of r) k j records a b m.1 n.1 in
    (ap suc g.0, g.1)

left_out_one : (c : ℕ) (s : State) (rest : List Event) (at : ℕ) (records : List Record) (p q : ℕ) → LeavesOut c s rest at records p → LeavesOut c s rest at records q → p ≡ q
left_out_one c s rest at [] p q m n = skip_one c at (length rest) p q rest m n
left_out_one c s rest at (r ∷ records) p q m n =
    left_out_one c (state_in s rest (place_of r - at)) (drop (place_of r - at) rest) (place_of r) records p q m.1 n.1

misfit_or_left_out : (c : ℕ) (s : State) (rest : List Event) (at k : ℕ) (records : List Record) (why : Misfit) (p : ℕ) → IsFirstMisfit c s rest at k records why →
    LeavesOut c s rest at records p → ⊥
misfit_or_left_out c s rest at k [] why p m n = m
misfit_or_left_out c s rest at zero (r ∷ records) why p m n = not_right c s rest at r why m n.0
misfit_or_left_out c s rest at (suc k) (r ∷ records) why p m n =
    misfit_or_left_out c (state_in s rest (place_of r - at)) (drop (place_of r - at) rest) (place_of r) k records why p m.1 n.1

-- one caller that is the first that doesn't fit
comes_first : (s : State) (events : List Event) (callers : List Caller) (c d : ℕ) (x y : Caller) → ComesTo s events callers c x → ComesTo s events callers d y →
    (AreRight c s events 0 x.records.items → ⊥) → c < d → ⊥
comes_first s events callers c d x y a b wrong l = wrong (right_here s events c (take d callers) x b.before (get_take c d callers l ∙ a.is))

comes_one : (s : State) (events : List Event) (callers : List Caller) (c d : ℕ) (x y : Caller) → ComesTo s events callers c x → ComesTo s events callers d y →
    (AreRight c s events 0 x.records.items → ⊥) → (AreRight d s events 0 y.records.items → ⊥) → c ≡ d
comes_one s events callers c d x y a b wrong other =
    let low : c < d → ⊥ = comes_first s events callers c d x y a b wrong in
    let high : d < c → ⊥ = comes_first s events callers d c y x b a other in
    omega arith

same_caller : (callers : List Caller) (c : ℕ) (x y : Caller) → slice_get callers c ≡ Some x → slice_get callers c ≡ Some y → y ≡ x
same_caller callers c x y a b = cc

records_one : (s : State) (events : List Event) (callers : List Caller) (c k j : ℕ) (a b : Misfit) → IsOfCallers s events callers (AtRecord c k a) →
    IsOfCallers s events callers (AtRecord c j b) → AtRecord c k a ≡ AtRecord c j b
records_one s events callers c k j a b t u =
    let same : u.0 ≡ t.0 = same_caller callers c t.0 u.0 t.1.is u.1.is in
    let r : (k ≡ j) × (a ≡ b) = first_misfit_one c s events 0 k j t.0.records.items a b t.2 (subst (λ (z : Caller). IsFirstMisfit c s events 0 j z.records.items b) same u.2) in
    ap (λ (i : ℕ). AtRecord c i a) r.0 ∙ ap (AtRecord c j) r.1

missing_one : (s : State) (events : List Event) (callers : List Caller) (c p q : ℕ) → IsOfCallers s events callers (Missing c p) →
    IsOfCallers s events callers (Missing c q) → Missing c p ≡ Missing c q
missing_one s events callers c p q t u =
    let same : u.0 ≡ t.0 = same_caller callers c t.0 u.0 t.1.is u.1.is in
    ap (Missing c) (left_out_one c s events 0 t.0.records.items p q t.2 (subst (λ (z : Caller). LeavesOut c s events 0 z.records.items q) same u.2))

no_both : (s : State) (events : List Event) (callers : List Caller) (c k p : ℕ) (a : Misfit) → IsOfCallers s events callers (AtRecord c k a) →
    IsOfCallers s events callers (Missing c p) → ⊥
no_both s events callers c k p a t u =
    let same : u.0 ≡ t.0 = same_caller callers c t.0 u.0 t.1.is u.1.is in
    misfit_or_left_out c s events 0 k t.0.records.items a p t.2 (subst (λ (z : Caller). LeavesOut c s events 0 z.records.items p) same u.2)

wrong_record : (s : State) (events : List Event) (callers : List Caller) (c k : ℕ) (a : Misfit) (t : IsOfCallers s events callers (AtRecord c k a)) →
    AreRight c s events 0 t.0.records.items → ⊥
wrong_record s events callers c k a t = not_all_right c s events 0 k t.0.records.items a t.2

wrong_missing : (s : State) (events : List Event) (callers : List Caller) (c p : ℕ) (t : IsOfCallers s events callers (Missing c p)) →
    AreRight c s events 0 t.0.records.items → ⊥
wrong_missing s events callers c p t = none_left_out c s events 0 t.0.records.items p t.2

callers_one : (s : State) (events : List Event) (callers : List Caller) (v w : Verdict) → IsOfCallers s events callers v → IsOfCallers s events callers w → v ≡ w
callers_one s events callers (AtRecord c k a) (AtRecord d j b) t u =
    let e : c ≡ d = comes_one s events callers c d t.0 u.0 t.1 u.1 (wrong_record s events callers c k a t) (wrong_record s events callers d j b u) in
    records_one s events callers c k j a b t (subst (λ (i : ℕ). IsOfCallers s events callers (AtRecord i j b)) (sym e) u) ∙ ap (λ (i : ℕ). AtRecord i j b) e
callers_one s events callers (AtRecord c k a) (Missing d q) t u =
    let e : c ≡ d = comes_one s events callers c d t.0 u.0 t.1 u.1 (wrong_record s events callers c k a t) (wrong_missing s events callers d q u) in
    absurd (no_both s events callers c k q a t (subst (λ (i : ℕ). IsOfCallers s events callers (Missing i q)) (sym e) u))
callers_one s events callers (Missing c p) (AtRecord d j b) t u =
    let e : c ≡ d = comes_one s events callers c d t.0 u.0 t.1 u.1 (wrong_missing s events callers c p t) (wrong_record s events callers d j b u) in
    absurd (no_both s events callers c j p b (subst (λ (i : ℕ). IsOfCallers s events callers (AtRecord i j b)) (sym e) u) t)
callers_one s events callers (Missing c p) (Missing d q) t u =
    let e : c ≡ d = comes_one s events callers c d t.0 u.0 t.1 u.1 (wrong_missing s events callers c p t) (wrong_missing s events callers d q u) in
    missing_one s events callers c p q t (subst (λ (i : ℕ). IsOfCallers s events callers (Missing i q)) (sym e) u) ∙ ap (λ (i : ℕ). Missing i q) e
callers_one s events callers (AtRecord c k a) w t u = absurd u
callers_one s events callers (Missing c p) w t u = absurd u
callers_one s events callers v w t u = absurd t

-- one outcome that is the first that isn't so
other_first : (s : State) (outcomes : List (Option Outcome)) (i j : ℕ) (x y : Option Outcome) → IsFirstOther s outcomes i x → IsFirstOther s outcomes j y → i < j → ⊥
other_first s outcomes i j x y a b l = a.other (b.before i l ∙ ap Some (sym a.is))

other_one : (s : State) (outcomes : List (Option Outcome)) (i j : ℕ) (x y : Option Outcome) → IsFirstOther s outcomes i x → IsFirstOther s outcomes j y →
    AtOutcome i x ≡ AtOutcome j y
other_one s outcomes i j x y a b =
    let low : i < j → ⊥ = other_first s outcomes i j x y a b in
    let high : j < i → ⊥ = other_first s outcomes j i y x b a in
    let same : i ≡ j = omega arith in
    ap (AtOutcome i) (a.is ∙ ap (outcome_at s) same ∙ sym b.is) ∙ ap (λ (k : ℕ). AtOutcome k y) same

outcomes_one : (s : State) (o : Option (List (Option Outcome))) (v w : Verdict) → IsOfOutcomes s o v → IsOfOutcomes s o w → v ≡ w
outcomes_one s None v w t u = absurd t
outcomes_one s (Some outcomes) (AtOutcome i x) (AtOutcome j y) t u = other_one s outcomes i j x y t u
outcomes_one s (Some outcomes) (AtOutcome i x) (Stages count) t u = absurd (u.1 (t.all ∙ sym u.0))
outcomes_one s (Some outcomes) (Stages count) (AtOutcome j y) t u = absurd (t.1 (u.all ∙ sym t.0))
outcomes_one s (Some outcomes) (Stages count) (Stages size) t u = ap Stages (t.0 ∙ sym u.0)
outcomes_one s (Some outcomes) (AtOutcome i x) w t u = absurd u
outcomes_one s (Some outcomes) (Stages count) w t u = absurd u
outcomes_one s (Some outcomes) v w t u = absurd t

-- the same of what is told of a history
tells_callers_one : (plan : Planned) (h : History) (v w : Verdict) → TellsOfCallers plan h v → TellsOfCallers plan h w → v ≡ w
tells_callers_one plan h v w t u =
    let same : u.0 ≡ t.0 = u.1.read ∙ sym t.1.read in
    callers_one (start plan) t.0 h.callers.items v w t.2 (subst (λ (es : List Event). IsOfCallers (start plan) es h.callers.items w) same u.2)

tells_outcomes_one : (plan : Planned) (h : History) (v w : Verdict) → TellsOfOutcomes plan h v → TellsOfOutcomes plan h w → v ≡ w
tells_outcomes_one plan h v w t u =
    let same : u.0 ≡ t.0 = u.1.read ∙ sym t.1.read in
    outcomes_one (state_after (start plan) t.0) (said h) v w t.3 (subst (λ (es : List Event). IsOfOutcomes (state_after (start plan) es) (said h) w) same u.3)

callers_or_outcomes : (plan : Planned) (h : History) (v w : Verdict) → TellsOfCallers plan h v → TellsOfOutcomes plan h w → ⊥
callers_or_outcomes plan h v w t u =
    let same : u.0 ≡ t.0 = u.1.read ∙ sym t.1.read in
    not_of_callers (start plan) t.0 h.callers.items v t.2 (subst (λ (es : List Event). AllRight (start plan) es 0 h.callers.items) same u.2)

word_or_words : (plan : Planned) (h : History) (place : ℕ) (why : Unfit) (events : List Event) → IsOfWords (length h.callers.items) h.functions (start plan) h.words.items (AtEvent place why) →
    AreWordsOf (length h.callers.items) h.functions (start plan) h.words.items events → ⊥
word_or_words plan h place why events t are = not_words (length h.callers.items) h.functions (start plan) h.words.items events t.0 why t.2 are

pub one_verdict : OneVerdict
one_verdict plan h Fits w t u = sym (only_fits plan h w u t)
one_verdict plan h v Fits t u = only_fits plan h v t u
one_verdict plan h (AtEvent place why) (AtEvent there reason) t u = words_one (length h.callers.items) h.functions (start plan) h.words.items place there why reason t u
one_verdict plan h (AtEvent place why) w t u = absurd (word_or_words plan h place why u.0 t u.1)
one_verdict plan h v (AtEvent there reason) t u = absurd (word_or_words plan h there reason t.0 u t.1)
one_verdict plan h (AtRecord caller k why) (AtRecord other j reason) t u = tells_callers_one plan h _ _ t u
one_verdict plan h (AtRecord caller k why) (Missing other there) t u = tells_callers_one plan h _ _ t u
one_verdict plan h (AtRecord caller k why) w t u = absurd (callers_or_outcomes plan h (AtRecord caller k why) w t u)
one_verdict plan h (Missing caller place) (AtRecord other j reason) t u = tells_callers_one plan h _ _ t u
one_verdict plan h (Missing caller place) (Missing other there) t u = tells_callers_one plan h _ _ t u
one_verdict plan h (Missing caller place) w t u = absurd (callers_or_outcomes plan h (Missing caller place) w t u)
one_verdict plan h v (AtRecord other j reason) t u = absurd (callers_or_outcomes plan h (AtRecord other j reason) v u t)
one_verdict plan h v (Missing other there) t u = absurd (callers_or_outcomes plan h (Missing other there) v u t)
one_verdict plan h v w t u = tells_outcomes_one plan h v w t u
