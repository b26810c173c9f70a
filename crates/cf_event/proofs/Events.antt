-- Events that can stand in a history, one after another.
use Rattle.std.proofs.Common.{◌≡◌, ℕ, zero, suc, ◌+◌, Bool, true, false, cond, eqb, eq-eqb, Some, List, [], ◌∷◌, ◌++◌, length, take, slice_get, All, refl, ap, ◌∙◌, subst, append-nil, arith}
use Rattle.std.proofs.lemmas.List.Elements.{All-nil, All-cons, filter-append}
use Rattle.std.proofs.lemmas.Option.{none-some}
use Rattle.std.specs.List.{filter}
use Rattle.cf_model.specs.declared.events.Event.{Event}
use Rattle.cf_model.specs.States.{State}
use Rattle.cf_model.specs.Events.{answered, state_after}
use Rattle.cf_model.specs.Ranges.{EventsFit}
use Rattle.cf_model.specs.Calls.{who_of}
use Rattle.cf_event.specs.Events.{AreEventsOf, IsEventOf, events_of, own, placed}

pub events_append : (callers functions : ℕ) (s : State) (xs ys : List Event) → AreEventsOf callers functions s xs → AreEventsOf callers functions (state_after s xs) ys → AreEventsOf callers functions s (xs ++ ys)
events_append callers functions s [] ys h g = g
events_append callers functions s (x ∷ xs) ys h g = (h.0, events_append callers functions ((answered s x).1) xs ys h.1 g)

pub events_push : (callers functions : ℕ) (s : State) (xs : List Event) (e : Event) → AreEventsOf callers functions s xs → IsEventOf callers functions (state_after s xs) e → AreEventsOf callers functions s (xs ++ e ∷ [])
events_push callers functions s xs e h event = events_append callers functions s xs (e ∷ []) h (event, tt)

pub events_front : (callers functions : ℕ) (s : State) (xs ys : List Event) → AreEventsOf callers functions s (xs ++ ys) → AreEventsOf callers functions s xs
events_front callers functions s [] ys h = tt
events_front callers functions s (x ∷ xs) ys h = (h.0, events_front callers functions ((answered s x).1) xs ys h.1)

pub events_after : (callers functions : ℕ) (s : State) (xs ys : List Event) → AreEventsOf callers functions s (xs ++ ys) → AreEventsOf callers functions (state_after s xs) ys
events_after callers functions s [] ys h = h
events_after callers functions s (x ∷ xs) ys h = events_after callers functions ((answered s x).1) xs ys h.1

-- the event behind the first of them
pub event_behind : (callers functions : ℕ) (s : State) (xs : List Event) (e : Event) (more : List Event) → AreEventsOf callers functions s (xs ++ e ∷ more) → IsEventOf callers functions (state_after s xs) e
event_behind callers functions s xs e more h = (events_after callers functions s xs (e ∷ more) h).0

pub event_at : (callers functions : ℕ) (s : State) (xs : List Event) (i : ℕ) (e : Event) → slice_get xs i ≡ Some e → AreEventsOf callers functions s xs → IsEventOf callers functions (state_after s (take i xs)) e
event_at callers functions s [] i e there h = absurd (none-some e there)
event_at callers functions s (x ∷ xs) zero e there h = subst (IsEventOf callers functions s) (let same : x ≡ e = cc in same) h.0
event_at callers functions s (x ∷ xs) (suc i) e there h = event_at callers functions ((answered s x).1) xs i e there h.1

-- what is true of each such event
pub events_each : (P : Event → Type 0) (callers functions : ℕ) → ((s : State) (e : Event) → IsEventOf callers functions s e → P e) → (s : State) (xs : List Event) → AreEventsOf callers functions s xs → All P xs
events_each P callers functions is s [] h = All-nil P
events_each P callers functions is s (x ∷ xs) h = All-cons P x xs (is s x h.0) (events_each P callers functions is ((answered s x).1) xs h.1)

-- they fit the graph
pub events_fit : (callers functions : ℕ) (s : State) (events : List Event) → AreEventsOf callers functions s events → EventsFit s events
events_fit callers functions s [] h = tt
events_fit callers functions s (e ∷ events) h = (h.0.fits, events_fit callers functions ((answered s e).1) events h.1)

-- ---- those of one caller, with their places

pub placed_append : (n : ℕ) (xs ys : List Event) → placed n (xs ++ ys) ≡ placed n xs ++ placed (n + length xs) ys
placed_append n [] ys = ap (λ (m : ℕ). placed m ys) (let e : n ≡ n + 0 = omega arith in e)
placed_append n (x ∷ xs) ys = ap (λ l. (suc n, x) ∷ l) (placed_append (suc n) xs ys ∙ ap (λ (m : ℕ). placed (suc n) xs ++ placed m ys) (let e : suc n + length xs ≡ n + suc (length xs) = omega arith in e))

pub none_there : (c : ℕ) (w : Event) (ws : List Event) (b : Bool) → cond b (w ∷ own c ws) (own c ws) ≡ [] → (b ≡ false) × (own c ws ≡ [])
none_there c w ws true e = absurd (let l = ap length e in omega arith)
none_there c w ws false e = (refl, e)

pub none_placed : (c n : ℕ) (ws : List Event) → own c ws ≡ [] → filter (λ (e : ℕ × Event). eqb (who_of e.1) c) (placed n ws) ≡ []
none_placed c n [] e = refl
none_placed c n (w ∷ ws) e =
    let p = none_there c w ws (eqb (who_of w) c) e in
    ap (λ (b : Bool). cond b ((suc n, w) ∷ filter (λ (e : ℕ × Event). eqb (who_of e.1) c) (placed (suc n) ws)) (filter (λ (e : ℕ × Event). eqb (who_of e.1) c) (placed (suc n) ws))) p.0 ∙ none_placed c (suc n) ws p.1

events_of_append : (c : ℕ) (xs ys : List Event) → events_of c (xs ++ ys) ≡ events_of c xs ++ filter (λ (e : ℕ × Event). eqb (who_of e.1) c) (placed (length xs) ys)
events_of_append c xs ys = ap (filter (λ (e : ℕ × Event). eqb (who_of e.1) c)) (placed_append 0 xs ys ∙ ap (λ (m : ℕ). placed 0 xs ++ placed m ys) (let e : 0 + length xs ≡ length xs = omega arith in e)) ∙ filter-append (λ (e : ℕ × Event). eqb (who_of e.1) c) (placed 0 xs) (placed (length xs) ys)

pub events_still : (c : ℕ) (xs ys : List Event) → own c ys ≡ [] → events_of c (xs ++ ys) ≡ events_of c xs
events_still c xs ys e = events_of_append c xs ys ∙ ap (λ l. events_of c xs ++ l) (none_placed c (length xs) ys e) ∙ append-nil (events_of c xs)

pub events_own : (c : ℕ) (xs : List Event) (w : Event) → who_of w ≡ c → events_of c (xs ++ w ∷ []) ≡ events_of c xs ++ (length xs + 1, w) ∷ []
events_own c xs w e = events_of_append c xs (w ∷ []) ∙ ap (λ (b : Bool). events_of c xs ++ cond b ((suc (length xs), w) ∷ []) []) (eq-eqb (who_of w) c e)
    ∙ ap (λ (n : ℕ). events_of c xs ++ (n, w) ∷ []) (let e : suc (length xs) ≡ length xs + 1 = omega arith in e)
