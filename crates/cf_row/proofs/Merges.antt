-- The records of several sessions, by their places.
use Rattle.std.proofs.Common.{◌≡◌, ℕ, zero, suc, ◌+◌, ◌<◌, ◌≤◌, Bool, true, false, cond, eqb, ltb, List, [], ◌∷◌, All, Contains, length, refl, ap, sym, ◌∙◌, subst, inl, inr, arith}
use Rattle.std.specs.Prelude.{◌≢◌, ◌⊎◌}
use Rattle.std.proofs.lemmas.Bool.{cases_lt, cond_both, ltb-true, ltb-false}
use Rattle.std.proofs.lemmas.Bool.Decides.{eqb_tells}
use Rattle.std.proofs.lemmas.List.Elements.{All-nil, All-cons, All-head, All-tail, All-weaker}
use Rattle.cf_model.specs.declared.events.Event.{Event}
use Rattle.cf_event.specs.declared.record.Record.{Record}
use Rattle.cf_event.specs.declared.record.Record.TheVariants.{Did, Saw}
use Rattle.cf_event.specs.Histories.{InOrder, dids, place_of}
use Rattle.cf_row.specs.Accounts.{Account, AreOfOneEach, goes_first, merged, merged_all, put_among}
use Rattle.cf_row.specs.Rows.{is_call}
use Rattle.cf_row.proofs.Elements.{contains_cases, contains_first, contains_later, contains_none}

-- ---- what is true of all of them

up_among : (P : Record → Type 0) (x : Record) (xs : List Record) → P x → ((zs : List Record) → All P zs → All P (merged xs zs)) → (ys : List Record) → All P ys → All P (put_among x (merged xs) ys)
up_among P x xs px next [] h = All-cons P x (merged xs []) px (next [] h)
up_among P x xs px next (y ∷ ys) h =
    cond_both (goes_first x y) (x ∷ merged xs (y ∷ ys)) (y ∷ put_among x (merged xs) ys) (λ (l : List Record). All P l)
    (λ e. All-cons P x (merged xs (y ∷ ys)) px (next (y ∷ ys) h))
    (λ e. All-cons P y (put_among x (merged xs) ys) (All-head P y ys h) (up_among P x xs px next ys (All-tail P y ys h)))

pub up : (P : Record → Type 0) (xs ys : List Record) → All P xs → All P ys → All P (merged xs ys)
up P [] ys hx hy = hy
up P (x ∷ xs) ys hx hy = up_among P x xs (All-head P x xs hx) (λ zs hz. up P xs zs (All-tail P x xs hx) hz) ys hy

pub up_all : (P : Record → Type 0) (rs : List Record) (accounts : List Account) → All P rs → All (λ (a : Account). All P a.records) accounts → All P (merged_all rs accounts)
up_all P rs [] h g = h
up_all P rs (a ∷ accounts) h g =
    let Q : Account → Type 0 = λ (b : Account). All P b.records in
    up_all P (merged rs a.records) accounts (up P rs a.records h (All-head Q a accounts g)) (All-tail Q a accounts g)

down_among : (P : Record → Type 0) (x : Record) (xs : List Record) → ((zs : List Record) → All P (merged xs zs) → All P xs × All P zs) → (ys : List Record) → All P (put_among x (merged xs) ys) → All P (x ∷ xs) × All P ys
down_among P x xs next [] h =
    let n = next [] (All-tail P x (merged xs []) h) in
    (All-cons P x xs (All-head P x (merged xs []) h) n.0, n.1)
down_among P x xs next (y ∷ ys) h =
    cond_both (goes_first x y) (x ∷ merged xs (y ∷ ys)) (y ∷ put_among x (merged xs) ys) (λ (l : List Record). All P l → All P (x ∷ xs) × All P (y ∷ ys))
    (λ e g. (let n = next (y ∷ ys) (All-tail P x (merged xs (y ∷ ys)) g) in (All-cons P x xs (All-head P x (merged xs (y ∷ ys)) g) n.0, n.1)))
    (λ e g. (let n = down_among P x xs next ys (All-tail P y (put_among x (merged xs) ys) g) in (n.0, All-cons P y ys (All-head P y (put_among x (merged xs) ys) g) n.1)))
    h

down : (P : Record → Type 0) (xs ys : List Record) → All P (merged xs ys) → All P xs × All P ys
down P [] ys h = (All-nil P, h)
down P (x ∷ xs) ys h = down_among P x xs (λ zs g. down P xs zs g) ys h

pub down_all : (P : Record → Type 0) (rs : List Record) (accounts : List Account) → All P (merged_all rs accounts) → All P rs × All (λ (a : Account). All P a.records) accounts
down_all P rs [] h = (h, All-nil (λ (a : Account). All P a.records))
down_all P rs (a ∷ accounts) h =
    let later = down_all P (merged rs a.records) accounts h in
    let here = down P rs a.records later.0 in
    (here.0, All-cons (λ (b : Account). All P b.records) a accounts here.1 later.1)

-- ---- calls among them

-- an event with its place is a call's among these records
abbrev pub Has : List Record → ℕ × Event → Type 0
Has rs z = Contains (dids rs) z

has_later : (r : Record) (rs : List Record) (z : ℕ × Event) → Has rs z → Has (r ∷ rs) z
has_later (Did place e reply) rs z h = contains_later (place, e) z (dids rs) h
has_later (Saw place ask answer) rs z h = h

has_first : (r : Record) (rs : List Record) (z : ℕ × Event) → Has (r ∷ []) z → Has (r ∷ rs) z
has_first (Did place e reply) rs z h = split (contains_cases (place, e) z [] h)
  where
    split : ((place, e) ≡ z) ⊎ Contains {X = ℕ × Event} [] z → Contains ((place, e) ∷ dids rs) z
    split (inl same) = subst (λ (w : ℕ × Event). Contains ((place, e) ∷ dids rs) w) same (contains_first (place, e) (dids rs))
    split (inr later) = absurd (contains_none z later)
has_first (Saw place ask answer) rs z h = absurd (contains_none z h)

-- what is true of the calls of each is true of those of all
pub has_all : (Q : ℕ × Event → Type 0) (rs : List Record) → All (λ (r : Record). (z : ℕ × Event) → Has (r ∷ []) z → Q z) rs → (z : ℕ × Event) → Has rs z → Q z
has_all Q [] h z there = absurd (contains_none z there)
has_all Q (Did place e reply ∷ rs) h z there = split (contains_cases (place, e) z (dids rs) there) (has_all Q rs (All-tail P (Did place e reply) rs h) z)
  where
    P : Record → Type 0
    P r = (w : ℕ × Event) → Has (r ∷ []) w → Q w

    split : ((place, e) ≡ z) ⊎ Contains (dids rs) z → (Has rs z → Q z) → Q z
    split (inl same) rest = All-head P (Did place e reply) rs h z (subst (λ (w : ℕ × Event). Contains ((place, e) ∷ []) w) same (contains_first (place, e) []))
    split (inr later) rest = rest later
has_all Q (Saw place ask answer ∷ rs) h z there = has_all Q rs (All-tail (λ (r : Record). (w : ℕ × Event) → Has (r ∷ []) w → Q w) (Saw place ask answer) rs h) z there

pub all_has : (Q : ℕ × Event → Type 0) (rs : List Record) → ((z : ℕ × Event) → Has rs z → Q z) → All (λ (r : Record). (z : ℕ × Event) → Has (r ∷ []) z → Q z) rs
all_has Q [] h = All-nil (λ (r : Record). (z : ℕ × Event) → Has (r ∷ []) z → Q z)
all_has Q (r ∷ rs) h =
    All-cons (λ (s : Record). (z : ℕ × Event) → Has (s ∷ []) z → Q z) r rs (λ z there. h z (has_first r rs z there)) (all_has Q rs (λ z there. h z (has_later r rs z there)))

-- ---- their order

-- a record may come next
abbrev Behind : ℕ → Record → Type 0
Behind last (Did place e reply) = last < place
Behind last (Saw place ask answer) = last ≤ place

order_head : (last : ℕ) (r : Record) (rs : List Record) → InOrder last (r ∷ rs) → Behind last r
order_head last (Did place e reply) rs h = h.0
order_head last (Saw place ask answer) rs h = h.0

order_tail : (last : ℕ) (r : Record) (rs : List Record) → InOrder last (r ∷ rs) → InOrder (place_of r) rs
order_tail last (Did place e reply) rs h = h.1
order_tail last (Saw place ask answer) rs h = h.1

order_cons : (last : ℕ) (r : Record) (rs : List Record) → Behind last r → InOrder (place_of r) rs → InOrder last (r ∷ rs)
order_cons last (Did place e reply) rs b h = (b, h)
order_cons last (Saw place ask answer) rs b h = (b, h)

-- no place is that of a call of each
abbrev pub Apart : List Record → List Record → Type 0
Apart xs ys = (z w : ℕ × Event) → Has xs z → Has ys w → z.0 ≢ w.0

first_below : (p q : ℕ) (b : Bool) → cond (eqb p q) b (ltb p q) ≡ true → (p < q) ⊎ ((p ≡ q) × (b ≡ true))
first_below p q b h = split (eqb_tells p q)
  where
    split : ((eqb p q ≡ true) × (p ≡ q)) ⊎ ((eqb p q ≡ false) × (p ≢ q)) → (p < q) ⊎ ((p ≡ q) × (b ≡ true))
    split (inl e) = inr (e.1, sym (ap (λ (c : Bool). cond c b (ltb p q)) e.0) ∙ h)
    split (inr n) = inl (ltb-true p q (sym (ap (λ (c : Bool). cond c b (ltb p q)) n.0) ∙ h))

second_below : (p q : ℕ) (b : Bool) → cond (eqb p q) b (ltb p q) ≡ false → (q < p) ⊎ ((p ≡ q) × (b ≡ false))
second_below p q b h = split (eqb_tells p q) (cases_lt q p)
  where
    split : ((eqb p q ≡ true) × (p ≡ q)) ⊎ ((eqb p q ≡ false) × (p ≢ q)) → (q < p) ⊎ (p ≤ q) → (q < p) ⊎ ((p ≡ q) × (b ≡ false))
    split (inl e) side = inr (e.1, sym (ap (λ (c : Bool). cond c b (ltb p q)) e.0) ∙ h)
    split (inr n) (inl below) = inl below
    split (inr n) (inr above) = (let le = ltb-false p q (sym (ap (λ (c : Bool). cond c b (ltb p q)) n.0) ∙ h) in absurd (n.1 (let same : p ≡ q = omega (arith, le, above) in same)))

not_false : false ≡ true → ⊥
not_false e = absurd (cc e)

-- the other session's next record may come behind the one that goes first
first_behind : (x y : Record) (xs ys : List Record) → goes_first x y ≡ true → Apart (x ∷ xs) (y ∷ ys) → Behind (place_of x) y
first_behind (Did p d r) (Did q e s) xs ys h apart = split (first_below p q true h)
  where
    split : (p < q) ⊎ ((p ≡ q) × (true ≡ true)) → p < q
    split (inl l) = l
    split (inr t) = absurd (apart (p, d) (q, e) (contains_first (p, d) (dids xs)) (contains_first (q, e) (dids ys)) t.0)
first_behind (Did p d r) (Saw q a t) xs ys h apart = split (first_below p q true h)
  where
    split : (p < q) ⊎ ((p ≡ q) × (true ≡ true)) → p ≤ q
    split (inl l) = omega arith
    split (inr t) = (let same = t.0 in omega (arith, same))
first_behind (Saw p b u) (Did q e s) xs ys h apart = split (first_below p q false h)
  where
    split : (p < q) ⊎ ((p ≡ q) × (false ≡ true)) → p < q
    split (inl l) = l
    split (inr t) = absurd (not_false t.1)
first_behind (Saw p b u) (Saw q a t) xs ys h apart = split (first_below p q true h)
  where
    split : (p < q) ⊎ ((p ≡ q) × (true ≡ true)) → p ≤ q
    split (inl l) = omega arith
    split (inr t) = (let same = t.0 in omega (arith, same))

second_behind : (x y : Record) → goes_first x y ≡ false → Behind (place_of y) x
second_behind (Did p d r) y h = split (second_below p (place_of y) true h)
  where
    split : (place_of y < p) ⊎ ((p ≡ place_of y) × (true ≡ false)) → place_of y < p
    split (inl l) = l
    split (inr t) = absurd (not_false (sym t.1))
second_behind (Saw p b u) y h = split (second_below p (place_of y) (cond (is_call y) false true) h)
  where
    split : (place_of y < p) ⊎ ((p ≡ place_of y) × (cond (is_call y) false true ≡ false)) → place_of y ≤ p
    split (inl l) = omega arith
    split (inr t) = (let same = t.0 in omega (arith, same))

order_among : (x : Record) (xs : List Record) → ((last : ℕ) (zs : List Record) → InOrder last xs → InOrder last zs → Apart xs zs → InOrder last (merged xs zs)) →
    (last : ℕ) (ys : List Record) → InOrder last (x ∷ xs) → InOrder last ys → Apart (x ∷ xs) ys → InOrder last (put_among x (merged xs) ys)
order_among x xs next last [] hx hy apart =
    order_cons last x (merged xs []) (order_head last x xs hx) (next (place_of x) [] (order_tail last x xs hx) tt (λ z w there other. absurd (contains_none w other)))
order_among x xs next last (y ∷ ys) hx hy apart =
    cond_both (goes_first x y) (x ∷ merged xs (y ∷ ys)) (y ∷ put_among x (merged xs) ys) (λ (l : List Record). InOrder last l)
    (λ e. order_cons last x (merged xs (y ∷ ys)) (order_head last x xs hx) (next (place_of x) (y ∷ ys) (order_tail last x xs hx)
    (order_cons (place_of x) y ys (first_behind x y xs ys e apart) (order_tail last y ys hy)) (λ z w there other. apart z w (has_later x xs z there) other)))
    (λ e. order_cons last y (put_among x (merged xs) ys) (order_head last y ys hy) (order_among x xs next (place_of y) ys
    (order_cons (place_of y) x xs (second_behind x y e) (order_tail last x xs hx)) (order_tail last y ys hy) (λ z w there other. apart z w there (has_later y ys w other))))

pub merged_order : (last : ℕ) (xs ys : List Record) → InOrder last xs → InOrder last ys → Apart xs ys → InOrder last (merged xs ys)
merged_order last [] ys hx hy apart = hy
merged_order last (x ∷ xs) ys hx hy apart = order_among x xs (λ l zs gx gz other. merged_order l xs zs gx gz other) last ys hx hy apart
