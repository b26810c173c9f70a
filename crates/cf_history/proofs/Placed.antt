-- The events of one caller with their places, read along a history.
use Rattle.std.proofs.Common.{◌≡◌, ℕ, zero, suc, ◌+◌, ◌-◌, ◌<◌, ◌≤◌, Bool, true, false, cond, eqb, Some, List, [], ◌∷◌, length, take, drop, slice_get, sym, refl, ap, ◌∙◌, subst, arith}
use Rattle.std.specs.List.{filter}
use Rattle.std.proofs.lemmas.Option.{none-some}
use Rattle.std.proofs.lemmas.Bool.{eq-eqb, eqb-true}
use Rattle.cf_forms.specs.Plans.{Planned}
use Rattle.cf_model.specs.declared.events.Event.{Event}
use Rattle.cf_model.specs.States.{State, start}
use Rattle.cf_model.specs.Events.{answered, state_after, state_at}
use Rattle.cf_model.specs.Calls.{who_of}
use Rattle.cf_event.specs.Events.{own, placed}
use Rattle.cf_event.proofs.Events.{none_there}
use Rattle.cf_history.specs.Records.{state_in}

abbrev pub mine : ℕ → ℕ × Event → Bool
mine c e = eqb (who_of e.1) c

none_taken : (n : ℕ) → take {A = Event} n [] ≡ []
none_taken zero = refl
none_taken (suc n) = refl

-- the state some events on
state_along : (s : State) (history : List Event) (at n : ℕ) → state_after (state_after s (take at history)) (take n (drop at history)) ≡ state_after s (take (at + n) history)
state_along s history zero n = ap (λ (k : ℕ). state_after s (take k history)) (let p : n ≡ 0 + n = omega arith in p)
state_along s [] (suc at) n = ap (state_after s) (none_taken n ∙ sym (none_taken (suc at + n)))
state_along s (e ∷ history) (suc at) n = state_along ((answered s e).1) history at n ∙ ap (λ (k : ℕ). state_after s (take k (e ∷ history))) (let p : suc (at + n) ≡ suc at + n = omega arith in p)

pub state_on : (plan : Planned) (history : List Event) (at n m : ℕ) → m ≡ at + n → state_in (state_at plan history at) (drop at history) n ≡ state_at plan history m
state_on plan history at n m is = state_along (start plan) history at n ∙ ap (state_at plan history) (sym is)

-- where none is the caller's, none has a place
pub own_none : (c n : ℕ) (ws : List Event) → filter (mine c) (placed n ws) ≡ [] → own c ws ≡ []
own_none c n [] h = refl
own_none c n (w ∷ ws) h = split (eqb (who_of w) c) (λ e. own_none c (suc n) ws e) h
  where
    split : (b : Bool) → (filter (mine c) (placed (suc n) ws) ≡ [] → own c ws ≡ []) → cond b ((suc n, w) ∷ filter (mine c) (placed (suc n) ws)) (filter (mine c) (placed (suc n) ws)) ≡ [] → cond b (w ∷ own c ws) (own c ws) ≡ []
    split true again e = absurd (let l = ap length e in omega arith)
    split false again e = again e

-- ---- from the places to the events

-- the caller's next event stands at this place, and those behind it come after
pub record StandsNext (c at : ℕ) (rest : List Event) (place : ℕ) (e : Event) (more : List (ℕ × Event)) : Type 0 where
  pub behind : at < place
  pub none : own c (take (place - at - 1) rest) ≡ []
  pub there : slice_get rest (place - at - 1) ≡ Some e
  pub owner : who_of e ≡ c
  pub others : more ≡ filter (mine c) (placed place (drop (place - at) rest))

same_pair : (p q : ℕ × Event) (xs ys : List (ℕ × Event)) → p ∷ xs ≡ q ∷ ys → (p.0 ≡ q.0) × (p.1 ≡ q.1) × (xs ≡ ys)
same_pair p q xs ys h = (cc, cc, cc)

pub stands_next : (c at : ℕ) (rest : List Event) (place : ℕ) (e : Event) (more : List (ℕ × Event)) → (place, e) ∷ more ≡ filter (mine c) (placed at rest) → StandsNext c at rest place e more
stands_next c at [] place e more h = absurd (let l = ap length h in omega arith)
stands_next c at (w ∷ ws) place e more h = split (eqb (who_of w) c) refl (λ g. stands_next c (suc at) ws place e more g) h
  where
    split : (b : Bool) → eqb (who_of w) c ≡ b → ((place, e) ∷ more ≡ filter (mine c) (placed (suc at) ws) → StandsNext c (suc at) ws place e more) → (place, e) ∷ more ≡ cond b ((suc at, w) ∷ filter (mine c) (placed (suc at) ws)) (filter (mine c) (placed (suc at) ws)) → StandsNext c at (w ∷ ws) place e more
    split true is again h =
        let same = same_pair (place, e) (suc at, w) more (filter (mine c) (placed (suc at) ws)) h in
        let zero_is : place - at - 1 ≡ 0 = (let p = same.0 in omega arith) in
        let one_is : place - at ≡ 1 = (let p = same.0 in omega arith) in record {
          behind = (let p = same.0 in omega arith);
          none = ap (λ (n : ℕ). own c (take n (w ∷ ws))) zero_is;
          there = ap (λ (n : ℕ). slice_get (w ∷ ws) n) zero_is ∙ ap (λ (x : Event). Some x) (sym same.1);
          owner = ap who_of same.1 ∙ eqb-true (who_of w) c is;
          others = same.2 ∙ ap (λ (n : ℕ). filter (mine c) (placed n ws)) (sym same.0) ∙ ap (λ (n : ℕ). filter (mine c) (placed place (drop n (w ∷ ws)))) (sym one_is);
        }
    split false is again h =
        let next = again h in
        let one_less : place - at - 1 ≡ suc (place - suc at - 1) = (let b = next.behind in omega arith) in
        let less : place - at ≡ suc (place - suc at) = (let b = next.behind in omega arith) in record {
          behind = (let b = next.behind in omega arith);
          none = ap (λ (n : ℕ). own c (take n (w ∷ ws))) one_less ∙ ap (λ (b : Bool). cond b (w ∷ own c (take (place - suc at - 1) ws)) (own c (take (place - suc at - 1) ws))) is ∙ next.none;
          there = ap (λ (n : ℕ). slice_get (w ∷ ws) n) one_less ∙ next.there;
          owner = next.owner;
          others = next.others ∙ ap (λ (n : ℕ). filter (mine c) (placed place (drop n (w ∷ ws)))) (sym less);
        }

-- the first of them stands behind place n
abbrev pub Behind : ℕ → List (ℕ × Event) → Type 0
Behind n [] = Unit {0}
Behind n (d ∷ ds) = n < d.0

pub behind_less : (m n : ℕ) (ds : List (ℕ × Event)) → m ≤ n → Behind n ds → Behind m ds
behind_less m n [] le h = tt
behind_less m n (d ∷ ds) le h = omega arith

-- then none of those up to there is the caller's
pub passes_over : (c at k : ℕ) (rest : List Event) (ds : List (ℕ × Event)) → ds ≡ filter (mine c) (placed at rest) → Behind (at + k) ds →
    (own c (take k rest) ≡ []) × (ds ≡ filter (mine c) (placed (at + k) (drop k rest)))
passes_over c at zero rest ds h b = (refl, h ∙ ap (λ (n : ℕ). filter (mine c) (placed n rest)) (let p : at ≡ at + 0 = omega arith in p))
passes_over c at (suc k) [] ds h b = (refl, h)
passes_over c at (suc k) (w ∷ ws) ds h b = split (eqb (who_of w) c) (λ e far. passes_over c (suc at) k ws ds e far) h
  where
    split : (b' : Bool) → (ds ≡ filter (mine c) (placed (suc at) ws) → Behind (suc at + k) ds → (own c (take k ws) ≡ []) × (ds ≡ filter (mine c) (placed (suc at + k) (drop k ws)))) → ds ≡ cond b' ((suc at, w) ∷ filter (mine c) (placed (suc at) ws)) (filter (mine c) (placed (suc at) ws)) →
        (cond b' (w ∷ own c (take k ws)) (own c (take k ws)) ≡ []) × (ds ≡ filter (mine c) (placed (at + suc k) (drop k ws)))
    split true again e = absurd (let far : at + suc k < suc at = subst (Behind (at + suc k)) e b in omega arith)
    split false again e =
        let on : suc at + k ≡ at + suc k = omega arith in
        let next = again e (subst (λ (n : ℕ). Behind n ds) (sym on) b) in
        (next.0, next.1 ∙ ap (λ (n : ℕ). filter (mine c) (placed n (drop k ws))) on)

-- ---- from the events to the places

-- events of others have no place here
pub placed_past : (c at n : ℕ) (rest : List Event) → own c (take n rest) ≡ [] → filter (mine c) (placed at rest) ≡ filter (mine c) (placed (at + n) (drop n rest))
placed_past c at zero rest h = ap (λ (k : ℕ). filter (mine c) (placed k rest)) (let p : at ≡ at + 0 = omega arith in p)
placed_past c at (suc n) [] h = refl
placed_past c at (suc n) (w ∷ ws) h =
    let other = none_there c w (take n ws) (eqb (who_of w) c) h in
    ap (λ (b : Bool). cond b ((suc at, w) ∷ filter (mine c) (placed (suc at) ws)) (filter (mine c) (placed (suc at) ws))) other.0
    ∙ placed_past c (suc at) n ws other.1
    ∙ ap (λ (k : ℕ). filter (mine c) (placed k (drop n ws))) (let p : suc at + n ≡ at + suc n = omega arith in p)

-- the caller's event, which stands first, has its place
first_placed : (c n : ℕ) (rest : List Event) (e : Event) → slice_get rest 0 ≡ Some e → who_of e ≡ c → filter (mine c) (placed n rest) ≡ (suc n, e) ∷ filter (mine c) (placed (suc n) (drop 1 rest))
first_placed c n [] e h is = absurd (none-some e h)
first_placed c n (w ∷ ws) e h is =
    let same : w ≡ e = cc in
    ap (λ (b : Bool). cond b ((suc n, w) ∷ filter (mine c) (placed (suc n) ws)) (filter (mine c) (placed (suc n) ws))) (eq-eqb (who_of w) c (ap who_of same ∙ is))
    ∙ ap (λ (x : Event). (suc n, x) ∷ filter (mine c) (placed (suc n) ws)) same

get_drop : (rest : List Event) (n : ℕ) → slice_get (drop n rest) 0 ≡ slice_get rest n
get_drop rest zero = refl
get_drop [] (suc n) = refl
get_drop (w ∷ ws) (suc n) = get_drop ws n

drop_one : (rest : List Event) (n : ℕ) → drop 1 (drop n rest) ≡ drop (suc n) rest
drop_one rest zero = refl
drop_one [] (suc n) = refl
drop_one (w ∷ ws) (suc n) = drop_one ws n

pub placed_next : (c at n : ℕ) (rest : List Event) (e : Event) → own c (take n rest) ≡ [] → slice_get rest n ≡ Some e → who_of e ≡ c →
    filter (mine c) (placed at rest) ≡ (suc (at + n), e) ∷ filter (mine c) (placed (suc (at + n)) (drop (suc n) rest))
placed_next c at n rest e none there is =
    placed_past c at n rest none
    ∙ first_placed c (at + n) (drop n rest) e (get_drop rest n ∙ there) is
    ∙ ap (λ (l : List Event). (suc (at + n), e) ∷ filter (mine c) (placed (suc (at + n)) l)) (drop_one rest n)
