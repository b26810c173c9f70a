-- Which session put each event of a row.
use Rattle.std.proofs.Common.{◌≡◌, ℕ, zero, suc, ◌+◌, ◌<◌, ◌≤◌, Bool, true, false, cond, eqb, List, [], ◌∷◌, All, Contains, length, map, refl, ap, sym, ◌∙◌, subst, inl, inr, arith}
use Rattle.std.specs.Prelude.{◌≢◌, ◌⊎◌}
use Rattle.std.specs.List.{filter}
use Rattle.std.proofs.lemmas.Bool.{eq-eqb, eqb-true}
use Rattle.cf_model.specs.declared.events.Event.{Event}
use Rattle.cf_model.specs.Calls.{who_of}
use Rattle.cf_model.specs.States.{State}
use Rattle.cf_model.specs.Events.{answered}
use Rattle.cf_event.specs.Events.{placed}
use Rattle.cf_event.specs.declared.record.Record.{Record}
use Rattle.cf_event.specs.declared.record.Record.TheVariants.{Did, Saw}
use Rattle.cf_event.specs.Histories.{InOrder, dids}
use Rattle.cf_row.specs.declared.entry.Entry.{Entry}
use Rattle.cf_row.specs.Rows.{history_of, own_from, session_of, words_in}
use Rattle.cf_row.specs.Puts.{pair_of, pairs_of, who_at, who_by}
use Rattle.cf_row.proofs.Elements.{contains_cases, contains_first, contains_later, contains_none}
use Rattle.cf_row.proofs.Fitting.{AreFit, fit_state}

-- each event of a row with its place, counted from n + 1, and the session that put it
abbrev pub sourced : ℕ → List Entry → List Event → List (ℕ × (ℕ × Event))
sourced n [] events = []
sourced n (x ∷ row) [] = []
sourced n (x ∷ row) (e ∷ events) = (session_of x.token, (suc n, e)) ∷ sourced (suc n) row events

-- ---- a session's own

cond_has : {A : Type 0} (b : Bool) (p z : A) (xs : List A) → Contains (cond b (p ∷ xs) xs) z → ((b ≡ true) × (p ≡ z)) ⊎ Contains xs z
cond_has true p z xs h = split (contains_cases p z xs h)
  where
    split : (p ≡ z) ⊎ Contains xs z → ((true ≡ true) × (p ≡ z)) ⊎ Contains xs z
    split (inl same) = inl (refl, same)
    split (inr later) = inr later
cond_has false p z xs h = inr h

pub cond_later : {A : Type 0} (b : Bool) (p z : A) (xs : List A) → Contains xs z → Contains (cond b (p ∷ xs) xs) z
cond_later true p z xs h = contains_later p z xs h
cond_later false p z xs h = h

pub cond_first : {A : Type 0} (b : Bool) (p : A) (xs : List A) → b ≡ true → Contains (cond b (p ∷ xs) xs) p
cond_first b p xs is = subst (λ (c : Bool). Contains (cond c (p ∷ xs) xs) p) (sym is) (contains_first p xs)

pub own_has : (s n : ℕ) (row : List Entry) (events : List Event) (z : ℕ × Event) → Contains (own_from s n row events) z → Contains (sourced n row events) (s, z)
own_has s n [] events z h = absurd (contains_none z h)
own_has s n (x ∷ row) [] z h = absurd (contains_none z h)
own_has s n (x ∷ row) (e ∷ events) z h = split (cond_has (eqb (session_of x.token) s) (suc n, e) z (own_from s (suc n) row events) h) (own_has s (suc n) row events z)
  where
    all : List (ℕ × (ℕ × Event))
    all = sourced (suc n) row events

    split : ((eqb (session_of x.token) s ≡ true) × ((suc n, e) ≡ z)) ⊎ Contains (own_from s (suc n) row events) z → (Contains (own_from s (suc n) row events) z → Contains all (s, z)) →
        Contains ((session_of x.token, (suc n, e)) ∷ all) (s, z)
    split (inl here) rest =
        subst (λ (q : ℕ × (ℕ × Event)). Contains ((session_of x.token, (suc n, e)) ∷ all) q)
        (ap (λ (t : ℕ). (t, (suc n, e))) (eqb-true (session_of x.token) s here.0) ∙ ap (λ (w : ℕ × Event). (s, w)) here.1)
        (contains_first (session_of x.token, (suc n, e)) all)
    split (inr later) rest = contains_later (session_of x.token, (suc n, e)) (s, z) all (rest later)

pub own_had : (s n : ℕ) (row : List Entry) (events : List Event) (z : ℕ × Event) → Contains (sourced n row events) (s, z) → Contains (own_from s n row events) z
own_had s n [] events z h = absurd (contains_none (s, z) h)
own_had s n (x ∷ row) [] z h = absurd (contains_none (s, z) h)
own_had s n (x ∷ row) (e ∷ events) z h = split (contains_cases first (s, z) (sourced (suc n) row events) h) (own_had s (suc n) row events z)
  where
    first : ℕ × (ℕ × Event)
    first = (session_of x.token, (suc n, e))

    own : List (ℕ × Event)
    own = own_from s (suc n) row events

    split : (first ≡ (s, z)) ⊎ Contains (sourced (suc n) row events) (s, z) → (Contains (sourced (suc n) row events) (s, z) → Contains own z) →
        Contains (cond (eqb (session_of x.token) s) ((suc n, e) ∷ own) own) z
    split (inl same) rest =
        subst (λ (w : ℕ × Event). Contains (cond (eqb (session_of x.token) s) ((suc n, e) ∷ own) own) w) (ap (λ (q : ℕ × (ℕ × Event)). q.1) same)
        (cond_first (eqb (session_of x.token) s) (suc n, e) own (eq-eqb (session_of x.token) s (ap (λ (q : ℕ × (ℕ × Event)). q.0) same)))
    split (inr later) rest = cond_later (eqb (session_of x.token) s) (suc n, e) z own (rest later)

-- ---- those of one caller

pub named_has : (c n : ℕ) (row : List Entry) (events : List Event) (z : ℕ × Event) → length row ≡ length events → Contains (filter (λ (e : ℕ × Event). eqb (who_of e.1) c) (placed n events)) z →
    (s : ℕ) × Contains (sourced n row events) (s, z) × (who_of z.1 ≡ c)
named_has c n row [] z same h = absurd (contains_none z h)
named_has c n [] (e ∷ events) z same h = absurd (omega (arith, same))
named_has c n (x ∷ row) (e ∷ events) z same h =
    split (cond_has (eqb (who_of e) c) (suc n, e) z (filter (λ (d : ℕ × Event). eqb (who_of d.1) c) (placed (suc n) events)) h) (named_has c (suc n) row events z (omega (arith, same)))
  where
    rest_of : List (ℕ × Event)
    rest_of = filter (λ (d : ℕ × Event). eqb (who_of d.1) c) (placed (suc n) events)

    all : List (ℕ × (ℕ × Event))
    all = sourced (suc n) row events

    split : ((eqb (who_of e) c ≡ true) × ((suc n, e) ≡ z)) ⊎ Contains rest_of z → (Contains rest_of z → (s : ℕ) × Contains all (s, z) × (who_of z.1 ≡ c)) →
        (s : ℕ) × Contains ((session_of x.token, (suc n, e)) ∷ all) (s, z) × (who_of z.1 ≡ c)
    split (inl here) rest = (
      session_of x.token,
      subst (λ (w : ℕ × Event). Contains ((session_of x.token, (suc n, e)) ∷ all) (session_of x.token, w)) here.1 (contains_first (session_of x.token, (suc n, e)) all),
      ap (λ (w : ℕ × Event). who_of w.1) (sym here.1) ∙ eqb-true (who_of e) c here.0,
    )
    split (inr later) rest = (let r = rest later in (r.0, contains_later (session_of x.token, (suc n, e)) (r.0, z) all r.1, r.2))

pub named_had : (c n s : ℕ) (row : List Entry) (events : List Event) (z : ℕ × Event) → Contains (sourced n row events) (s, z) → who_of z.1 ≡ c →
    Contains (filter (λ (e : ℕ × Event). eqb (who_of e.1) c) (placed n events)) z
named_had c n s [] events z h who = absurd (contains_none (s, z) h)
named_had c n s (x ∷ row) [] z h who = absurd (contains_none (s, z) h)
named_had c n s (x ∷ row) (e ∷ events) z h who = split (contains_cases first (s, z) (sourced (suc n) row events) h) (λ later. named_had c (suc n) s row events z later who)
  where
    first : ℕ × (ℕ × Event)
    first = (session_of x.token, (suc n, e))

    rest_of : List (ℕ × Event)
    rest_of = filter (λ (d : ℕ × Event). eqb (who_of d.1) c) (placed (suc n) events)

    split : (first ≡ (s, z)) ⊎ Contains (sourced (suc n) row events) (s, z) → (Contains (sourced (suc n) row events) (s, z) → Contains rest_of z) →
        Contains (cond (eqb (who_of e) c) ((suc n, e) ∷ rest_of) rest_of) z
    split (inl same) rest = (let is : first.1 ≡ z = ap (λ (q : ℕ × (ℕ × Event)). q.1) same in
        subst (λ (w : ℕ × Event). Contains (cond (eqb (who_of e) c) ((suc n, e) ∷ rest_of) rest_of) w) is
        (cond_first (eqb (who_of e) c) (suc n, e) rest_of (eq-eqb (who_of e) c (ap (λ (w : ℕ × Event). who_of w.1) is ∙ who))))
    split (inr later) rest = cond_later (eqb (who_of e) c) (suc n, e) z rest_of (rest later)

-- ---- one session a place

sourced_behind : (n : ℕ) (row : List Entry) (events : List Event) (q : ℕ × (ℕ × Event)) → Contains (sourced n row events) q → n < q.1.0
sourced_behind n [] events q h = absurd (contains_none q h)
sourced_behind n (x ∷ row) [] q h = absurd (contains_none q h)
sourced_behind n (x ∷ row) (e ∷ events) q h = split (contains_cases (session_of x.token, (suc n, e)) q (sourced (suc n) row events) h) (sourced_behind (suc n) row events q)
  where
    split : ((session_of x.token, (suc n, e)) ≡ q) ⊎ Contains (sourced (suc n) row events) q → (Contains (sourced (suc n) row events) q → suc n < q.1.0) → n < q.1.0
    split (inl same) rest = subst (λ (r : ℕ × (ℕ × Event)). n < r.1.0) same (let l : n < suc n = omega arith in l)
    split (inr later) rest = (let l = rest later in omega (arith, l))

pub one_source : (n : ℕ) (row : List Entry) (events : List Event) (p q : ℕ × (ℕ × Event)) → Contains (sourced n row events) p → Contains (sourced n row events) q → p.1.0 ≡ q.1.0 → p.0 ≡ q.0
one_source n [] events p q hp hq same = absurd (contains_none p hp)
one_source n (x ∷ row) [] p q hp hq same = absurd (contains_none p hp)
one_source n (x ∷ row) (e ∷ events) p q hp hq same =
    split (contains_cases first p rest_of hp) (contains_cases first q rest_of hq) (λ a b. one_source (suc n) row events p q a b same)
  where
    first : ℕ × (ℕ × Event)
    first = (session_of x.token, (suc n, e))

    rest_of : List (ℕ × (ℕ × Event))
    rest_of = sourced (suc n) row events

    -- the first place isn't that of a later one
    later_than : (r : ℕ × (ℕ × Event)) → Contains rest_of r → suc n ≡ r.1.0 → ⊥
    later_than r there at = absurd (let l = sourced_behind (suc n) row events r there in omega (arith, l, at))

    split : (first ≡ p) ⊎ Contains rest_of p → (first ≡ q) ⊎ Contains rest_of q → (Contains rest_of p → Contains rest_of q → p.0 ≡ q.0) → p.0 ≡ q.0
    split (inl a) (inl b) rest = ap (λ (r : ℕ × (ℕ × Event)). r.0) (sym a ∙ b)
    split (inl a) (inr b) rest = absurd (later_than q b (ap (λ (r : ℕ × (ℕ × Event)). r.1.0) a ∙ same))
    split (inr a) (inl b) rest = absurd (later_than p a (ap (λ (r : ℕ × (ℕ × Event)). r.1.0) b ∙ sym same))
    split (inr a) (inr b) rest = rest a b

-- ---- and its number

pub source_pair : (n : ℕ) (s : State) (row : List Entry) (q : ℕ × (ℕ × Event)) → AreFit s (words_in row) → Contains (sourced n row (history_of row)) q → Contains (pairs_of row) (q.0, who_of q.1.1)
source_pair n s [] q fit h = absurd (contains_none q h)
source_pair n s (x ∷ row) q fit h =
    let e = fit.0 in
    let h2 : Contains (sourced n (x ∷ row) (e ∷ history_of row)) q = subst (λ (es : List Event). Contains (sourced n (x ∷ row) es) q) (fit_state s x.word (words_in row) e fit.1) h in
    split e (ap who_by fit.1) (contains_cases (session_of x.token, (suc n, e)) q (sourced (suc n) row (history_of row)) h2) (source_pair (suc n) ((answered s e).1) row q fit.5)
  where
    split : (e : Event) → who_at x.word ≡ who_of e → ((session_of x.token, (suc n, e)) ≡ q) ⊎ Contains (sourced (suc n) row (history_of row)) q →
        (Contains (sourced (suc n) row (history_of row)) q → Contains (pairs_of row) (q.0, who_of q.1.1)) → Contains (pair_of x ∷ pairs_of row) (q.0, who_of q.1.1)
    split e who (inl same) rest =
        subst (λ (r : ℕ × (ℕ × Event)). Contains (pair_of x ∷ pairs_of row) (r.0, who_of r.1.1)) same
        (subst (λ (c : ℕ). Contains (pair_of x ∷ pairs_of row) (session_of x.token, c)) who (contains_first (pair_of x) (pairs_of row)))
    split e who (inr later) rest = contains_later (pair_of x) (q.0, who_of q.1.1) (pairs_of row) (rest later)

-- ---- calls in the order of their places

abbrev pub Increasing : ℕ → List (ℕ × Event) → Type 0
Increasing last [] = Unit {0}
Increasing last (z ∷ zs) = (last < z.0) × Increasing z.0 zs

increasing_less : (l m : ℕ) (zs : List (ℕ × Event)) → l ≤ m → Increasing m zs → Increasing l zs
increasing_less l m [] le h = tt
increasing_less l m (z ∷ zs) le h = ((let first = h.0 in omega (arith, first)), h.1)

pub dids_increase : (last : ℕ) (rs : List Record) → InOrder last rs → Increasing last (dids rs)
dids_increase last [] h = tt
dids_increase last (Did place e reply ∷ rs) h = (h.0, dids_increase place rs h.1)
dids_increase last (Saw place ask answer ∷ rs) h = increasing_less last place (dids rs) h.0 (dids_increase place rs h.1)

kept_increase : (b : Bool) (n : ℕ) (e : Event) (zs : List (ℕ × Event)) → Increasing (suc n) zs → Increasing n (cond b ((suc n, e) ∷ zs) zs)
kept_increase true n e zs h = (omega arith, h)
kept_increase false n e zs h = increasing_less n (suc n) zs (omega arith) h

pub named_increase : (c n : ℕ) (events : List Event) → Increasing n (filter (λ (e : ℕ × Event). eqb (who_of e.1) c) (placed n events))
named_increase c n [] = tt
named_increase c n (e ∷ events) = kept_increase (eqb (who_of e) c) n e (filter (λ (d : ℕ × Event). eqb (who_of d.1) c) (placed (suc n) events)) (named_increase c (suc n) events)

behind_last : (last : ℕ) (zs : List (ℕ × Event)) (z : ℕ × Event) → Increasing last zs → Contains zs z → last < z.0
behind_last last [] z h there = absurd (contains_none z there)
behind_last last (y ∷ zs) z h there = split (contains_cases y z zs there) (behind_last y.0 zs z h.1)
  where
    split : (y ≡ z) ⊎ Contains zs z → (Contains zs z → y.0 < z.0) → last < z.0
    split (inl same) rest = subst (λ (w : ℕ × Event). last < w.0) same h.0
    split (inr later) rest = (let l = rest later in let first = h.0 in omega (arith, l, first))

-- two such lists of the same calls are the same
pub same_calls : (l m : ℕ) (xs ys : List (ℕ × Event)) → Increasing l xs → Increasing m ys → ((z : ℕ × Event) → Contains xs z → Contains ys z) → ((z : ℕ × Event) → Contains ys z → Contains xs z) → xs ≡ ys
same_calls l m [] [] hx hy f g = refl
same_calls l m [] (y ∷ ys) hx hy f g = absurd (contains_none y (g y (contains_first y ys)))
same_calls l m (x ∷ xs) [] hx hy f g = absurd (contains_none x (f x (contains_first x xs)))
same_calls l m (x ∷ xs) (y ∷ ys) hx hy f g =
    let same = first_same (contains_cases y x ys (f x (contains_first x xs))) (contains_cases x y xs (g y (contains_first y ys))) in
    ap (λ (z : ℕ × Event). z ∷ xs) same ∙ ap (λ (zs : List (ℕ × Event)). y ∷ zs) (same_calls x.0 y.0 xs ys hx.1 hy.1
    (λ z there. tail y z ys (subst (λ (w : ℕ × Event). w.0 < z.0) same (behind_last x.0 xs z hx.1 there)) (contains_cases y z ys (f z (contains_later x z xs there))))
    (λ z there. tail x z xs (subst (λ (w : ℕ × Event). w.0 < z.0) (sym same) (behind_last y.0 ys z hy.1 there)) (contains_cases x z xs (g z (contains_later y z ys there)))))
  where
    first_same : (y ≡ x) ⊎ Contains ys x → (x ≡ y) ⊎ Contains xs y → x ≡ y
    first_same (inl e) b = sym e
    first_same (inr a) (inl e) = e
    first_same (inr a) (inr b) = absurd (let p = behind_last y.0 ys x hy.1 a in let q = behind_last x.0 xs y hx.1 b in omega (arith, p, q))

    tail : (w z : ℕ × Event) (zs : List (ℕ × Event)) → w.0 < z.0 → (w ≡ z) ⊎ Contains zs z → Contains zs z
    tail w z zs lt (inl e) = absurd (let at = ap (λ (v : ℕ × Event). v.0) e in omega (arith, at, lt))
    tail w z zs lt (inr later) = later
