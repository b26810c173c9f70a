-- The callers that accounts of a whole row make.
use Rattle.std.proofs.Common.{◌≡◌, ℕ, zero, suc, ◌+◌, ◌<◌, ◌≤◌, Bool, true, false, cond, eqb, List, [], ◌∷◌, ◌++◌, length, map, take, All, Contains, get_or, refl, ap, sym, ◌∙◌, subst, inl, inr, arith}
use Rattle.std.specs.Prelude.{◌≢◌, ◌⊎◌, max}
use Rattle.std.specs.List.{filter}
use Rattle.std.proofs.lemmas.Bool.{cases_lt, eq-eqb, eqb-true}
use Rattle.std.proofs.lemmas.List.{get_or-map, length-map, length_push, map-append, take_all}
use Rattle.std.proofs.lemmas.List.Elements.{All-contains, All-filter, All-head, All-map, All-nil, All-push, All-tail, All-weaker, Contains-append_left, Contains-get_or, Contains-push, filter_passes}
use Rattle.cf_forms.specs.Plans.{Planned}
use Rattle.cf_model.specs.States.{start}
use Rattle.cf_model.specs.Calls.{who_of}
use Rattle.cf_model.specs.declared.events.Event.{Event}
use Rattle.cf_event.specs.Events.{events_of}
use Rattle.cf_event.specs.declared.record.Record.{Record}
use Rattle.cf_event.specs.Histories.{AreRecordsOf, AreRecordsOfOne, InOrder, IsAnswered, dids, numbers_of}
use Rattle.cf_row.specs.declared.entry.Entry.{Entry}
use Rattle.cf_row.specs.Rows.{FitsUpTo, history_of, own_in, session_of, words_in}
use Rattle.cf_row.specs.Numbers.{HaveOneEach}
use Rattle.cf_row.specs.Puts.{pair_of, pairs_of, who_at}
use Rattle.cf_row.specs.Accounts.{Account, AreOfOneEach, accounts_of, caller_of, callers_below, count_of, merged, merged_all}
use Rattle.cf_row.proofs.Elements.{contains_cases, contains_first, contains_later, contains_map, contains_none}
use Rattle.cf_row.proofs.Fitting.{AreFit}
use Rattle.cf_row.proofs.Merges.{Apart, Has, all_has, down_all, has_all, merged_order, up, up_all}
use Rattle.cf_row.proofs.Sources.{cond_first, cond_later, dids_increase, named_had, named_has, named_increase, one_source, own_had, own_has, same_calls, source_pair, sourced}

-- an account of this row, which the session has seen whole
pub record IsAccountOf (plan : Planned) (row : List Entry) (a : Account) : Type 0 where
  pub number : Contains (pairs_of row) (a.session, a.number)
  pub fits : FitsUpTo plan a.session (length row) row a.records

-- ---- some of the accounts

kept_has : {A : Type 0} (p : A → Bool) (xs : List A) (x : A) → Contains xs x → p x ≡ true → Contains (filter p xs) x
kept_has p [] x h is = absurd (contains_none x h)
kept_has p (y ∷ xs) x h is = split (contains_cases y x xs h) (λ later. kept_has p xs x later is)
  where
    split : (y ≡ x) ⊎ Contains xs x → (Contains xs x → Contains (filter p xs) x) → Contains (cond (p y) (y ∷ filter p xs) (filter p xs)) x
    split (inl same) rest = subst (λ z. Contains (cond (p y) (y ∷ filter p xs) (filter p xs)) z) same (cond_first (p y) y (filter p xs) (ap p same ∙ is))
    split (inr later) rest = cond_later (p y) y x (filter p xs) (rest later)

one_if : (b : Bool) (a : Account) (accounts : List Account) → All (λ (c : Account). c.session ≢ a.session) accounts → AreOfOneEach accounts → AreOfOneEach (cond b (a ∷ accounts) accounts)
one_if true a accounts others h = (others, h)
one_if false a accounts others h = h

one_kept : (p : Account → Bool) (accounts : List Account) → AreOfOneEach accounts → AreOfOneEach (filter p accounts)
one_kept p [] h = tt
one_kept p (a ∷ accounts) h = one_if (p a) a (filter p accounts) (All-filter p (λ (b : Account). b.session ≢ a.session) accounts h.0) (one_kept p accounts h.1)

-- ---- records of several sessions, in order

-- each call among these records is an event of the row that one of these sessions put
abbrev AreOf : List (ℕ × (ℕ × Event)) → List ℕ → List Record → Type 0
AreOf all sessions rs = (z : ℕ × Event) → Has rs z → (s : ℕ) × Contains all (s, z) × Contains sessions s

only : (s t : ℕ) → Contains (s ∷ []) t → s ≡ t
only s t h = split (contains_cases s t [] h)
  where
    split : (s ≡ t) ⊎ Contains [] t → s ≡ t
    split (inl same) = same
    split (inr later) = absurd (contains_none t later)

more_of : (all : List (ℕ × (ℕ × Event))) (s : ℕ) (sessions : List ℕ) (rs qs : List Record) → AreOf all sessions rs → AreOf all (s ∷ []) qs → AreOf all (s ∷ sessions) (merged rs qs)
more_of all s sessions rs qs h g =
    let Q : ℕ × Event → Type 0 = λ (z : ℕ × Event). (t : ℕ) × Contains all (t, z) × Contains (s ∷ sessions) t in
    has_all Q (merged rs qs) (up (λ (r : Record). (z : ℕ × Event) → Has (r ∷ []) z → Q z) rs qs
    (all_has Q rs (λ z there. (let p = h z there in (p.0, p.1, contains_later s p.0 sessions p.2))))
    (all_has Q qs (λ z there. (let p = g z there in (p.0, p.1, subst (Contains (s ∷ sessions)) (only s p.0 p.2) (contains_first s sessions))))))

not_yet : (s : ℕ) (sessions : List ℕ) (accounts : List Account) → All (λ (b : Account). b.session ≢ s) accounts → All (λ (b : Account). Contains sessions b.session → ⊥) accounts → All (λ (b : Account). Contains (s ∷ sessions) b.session → ⊥) accounts
not_yet s sessions accounts others none = λ k d l. split (get_or accounts k d) (others k d l) (none k d l)
  where
    neither : (b : Account) → b.session ≢ s → (Contains sessions b.session → ⊥) → (s ≡ b.session) ⊎ Contains sessions b.session → ⊥
    neither b other absent (inl same) = other (sym same)
    neither b other absent (inr later) = absent later

    split : (b : Account) → b.session ≢ s → (Contains sessions b.session → ⊥) → Contains (s ∷ sessions) b.session → ⊥
    split b other absent h = neither b other absent (contains_cases s b.session sessions h)

order_all : (row : List Entry) (events : List Event) (sessions : List ℕ) (rs : List Record) (accounts : List Account) → InOrder 0 rs → AreOf (sourced 0 row events) sessions rs →
    All (λ (a : Account). InOrder 0 a.records × AreOf (sourced 0 row events) (a.session ∷ []) a.records) accounts → All (λ (a : Account). Contains sessions a.session → ⊥) accounts → AreOfOneEach accounts →
    InOrder 0 (merged_all rs accounts)
order_all row events sessions rs [] order of each none one = order
order_all row events sessions rs (a ∷ accounts) order of each none one =
    let all = sourced 0 row events in
    let P : Account → Type 0 = λ (b : Account). InOrder 0 b.records × AreOf (sourced 0 row events) (b.session ∷ []) b.records in
    let N : Account → Type 0 = λ (b : Account). Contains sessions b.session → ⊥ in
    let here = All-head P a accounts each in
    let absent = All-head N a accounts none in
    let apart : Apart rs a.records = (λ z w there other same. (let p = of z there in
    let q = here.1 w other in
    absent (subst (Contains sessions) (one_source 0 row events (p.0, z) (q.0, w) p.1 q.1 same ∙ sym (only a.session q.0 q.2)) p.2))) in
    order_all row events (a.session ∷ sessions) (merged rs a.records) accounts (merged_order 0 rs a.records order here.0 apart) (more_of all a.session sessions rs a.records of here.1)
    (All-tail P a accounts each) (not_yet a.session sessions accounts one.0 (All-tail N a accounts none)) one.1

-- ---- one caller

-- what a session called is what it put
called : (plan : Planned) (row : List Entry) (a : Account) → IsAccountOf plan row a → dids a.records ≡ own_in a.session row
called plan row a h = h.fits.did ∙ ap (own_in a.session) (take_all (length row) row (omega arith))

source_of : (plan : Planned) (row : List Entry) (a : Account) → IsAccountOf plan row a → (z : ℕ × Event) → Has a.records z → Contains (sourced 0 row (history_of row)) (a.session, z)
source_of plan row a h z there = own_has a.session 0 row (history_of row) z (subst (λ (l : List (ℕ × Event)). Contains l z) (called plan row a h) there)

-- its number is that of what it called
who_called : (plan : Planned) (row : List Entry) (a : Account) → AreFit (start plan) (words_in row) → HaveOneEach (pairs_of row) → IsAccountOf plan row a → (z : ℕ × Event) → Contains (sourced 0 row (history_of row)) (a.session, z) → who_of z.1 ≡ a.number
who_called plan row a fit one h z there = one (a.session, who_of z.1) (a.session, a.number) (source_pair 0 (start plan) row (a.session, z) fit there) h.number refl

-- the account of a session that put something
record Gives (accounts : List Account) (s : ℕ) : Type 0 where
  account : Account
  there : Contains accounts account
  is : account.session ≡ s

gives : (accounts : List Account) (s : ℕ) → Contains (map (λ (a : Account). a.session) accounts) s → Gives accounts s
gives accounts s there =
    let j = there.0 in
    let none : Account = record { room = 0; seen = []; number = 0; session = 0; records = [] } in
    let size = length-map accounts (λ (b : Account). b.session) in
    let lt : j < length accounts = (let m = there.1 in omega (arith, m, size)) in
    record {
      account = get_or accounts j none;
      there = Contains-get_or accounts j none lt;
      is = sym (get_or-map (λ (b : Account). b.session) accounts j none s lt) ∙ there.2;
    }

-- each entry's session gives one
pub known_numbers : (plan : Planned) (row : List Entry) (accounts : List Account) → HaveOneEach (pairs_of row) → All (IsAccountOf plan row) accounts →
    All (λ (x : Entry). Contains (map (λ (a : Account). a.session) accounts) (session_of x.token)) row → All (λ (x : Entry). Contains (map (λ (a : Account). a.number) accounts) (who_at x.word)) row
known_numbers plan row accounts one each known = λ k d l.
    (let x = get_or row k d in
    let g = gives accounts (session_of x.token) (known k d l) in
    let h = All-contains (IsAccountOf plan row) accounts g.account each g.there in
    let who : g.account.number ≡ who_at x.word = one (g.account.session, g.account.number) (pair_of x) h.number (contains_map pair_of row x (Contains-get_or row k d l)) g.is in
    subst (λ (n : ℕ). Contains (map (λ (b : Account). b.number) accounts) n) who (contains_map (λ (b : Account). b.number) accounts g.account g.there))

caller_fits : (plan : Planned) (row : List Entry) (accounts : List Account) (c : ℕ) → AreFit (start plan) (words_in row) → length row ≡ length (history_of row) → HaveOneEach (pairs_of row) → All (IsAccountOf plan row) accounts → AreOfOneEach accounts →
    All (λ (x : Entry). Contains (map (λ (a : Account). a.session) accounts) (session_of x.token)) row → AreRecordsOf plan c (history_of row) (merged_all [] (accounts_of c accounts))
caller_fits plan row accounts c fit size one each differ known =
    let events = history_of row in
    let all = sourced 0 row events in
    let own = accounts_of c accounts in
    let test : Account → Bool = λ (a : Account). eqb a.number c in
    let rs = merged_all [] own in
    let fits : All (IsAccountOf plan row) own = All-filter test (IsAccountOf plan row) accounts each in
    let named : All (λ (a : Account). test a ≡ true) own = filter_passes test accounts in
    let order : InOrder 0 rs = order_all row events [] [] own tt (λ z there. absurd (contains_none z there))
    (All-weaker (IsAccountOf plan row) (λ (a : Account). InOrder 0 a.records × AreOf all (a.session ∷ []) a.records)
    (λ a h. (h.fits.order, (λ z there. (a.session, source_of plan row a h z there, contains_first a.session [])))) own fits)
    (λ k d l there. contains_none (get_or own k d).session there) (one_kept test accounts differ) in
    let Q : ℕ × Event → Type 0 = λ (z : ℕ × Event). Contains (events_of c events) z in
    let forth : (z : ℕ × Event) → Has rs z → Q z = has_all Q rs (up_all (λ (r : Record). (z : ℕ × Event) → Has (r ∷ []) z → Q z) [] own (All-nil (λ (r : Record). (z : ℕ × Event) → Has (r ∷ []) z → Q z))
    (λ k d l. (let a = get_or own k d in
    let h = fits k d l in
    all_has Q a.records (λ z there. (let at = source_of plan row a h z there in
    named_had c 0 a.session row events z at (who_called plan row a fit one h z at ∙ eqb-true a.number c (named k d l))))))) in
    let H : ℕ × Event → Type 0 = λ (z : ℕ × Event). Has rs z in
    let back : (z : ℕ × Event) → Q z → Has rs z = (λ z there. (let n = named_has c 0 row events z size there in
    let sessions = map (λ (a : Account). a.session) accounts in
    let pair = source_pair 0 (start plan) row (n.0, z) fit n.1 in
    let known_pairs : All (λ (q : ℕ × ℕ). Contains sessions q.0) (pairs_of row) = All-map (λ (q : ℕ × ℕ). Contains sessions q.0) pair_of row known in
    let g = gives accounts n.0 (All-contains (λ (q : ℕ × ℕ). Contains sessions q.0) (pairs_of row) (n.0, who_of z.1) known_pairs pair) in
    let a = g.account in
    let h = All-contains (IsAccountOf plan row) accounts a each g.there in
    let at : Contains all (a.session, z) = subst (λ (s : ℕ). Contains all (s, z)) (sym g.is) n.1 in
    let number : a.number ≡ c = sym (who_called plan row a fit one h z at) ∙ n.2 in
    let here : Has a.records z = subst (λ (l : List (ℕ × Event)). Contains l z) (sym (called plan row a h)) (own_had a.session 0 row events z at) in
    let parts = down_all (λ (r : Record). (w : ℕ × Event) → Has (r ∷ []) w → H w) [] own (all_has H rs (λ w is. is)) in
    has_all H a.records (All-contains (λ (b : Account). All (λ (r : Record). (w : ℕ × Event) → Has (r ∷ []) w → H w) b.records) own a parts.1 (kept_has test accounts a g.there (eq-eqb a.number c number))) z here)) in
    record {
      did = same_calls 0 0 (dids rs) (events_of c events) (dids_increase 0 rs order) (named_increase c 0 events) forth back;
      answers = up_all (IsAnswered plan events) [] own (All-nil (IsAnswered plan events)) (All-weaker (IsAccountOf plan row) (λ (a : Account). All (IsAnswered plan events) a.records) (λ a h. h.fits.answers) own fits);
      order = order;
    }

-- ---- all callers

pub callers_fit : (plan : Planned) (row : List Entry) (accounts : List Account) (n : ℕ) → AreFit (start plan) (words_in row) → length row ≡ length (history_of row) → HaveOneEach (pairs_of row) → All (IsAccountOf plan row) accounts → AreOfOneEach accounts →
    All (λ (x : Entry). Contains (map (λ (a : Account). a.session) accounts) (session_of x.token)) row → All (AreRecordsOfOne plan (history_of row)) (callers_below n accounts)
callers_fit plan row accounts zero fit size one each differ known = All-nil (AreRecordsOfOne plan (history_of row))
callers_fit plan row accounts (suc n) fit size one each differ known =
    All-push (AreRecordsOfOne plan (history_of row)) (callers_below n accounts) (caller_of accounts n) (callers_fit plan row accounts n fit size one each differ known) (caller_fits plan row accounts n fit size one each differ known)

pub callers_count : (n : ℕ) (accounts : List Account) → length (callers_below n accounts) ≡ n
callers_count zero accounts = refl
callers_count (suc n) accounts = length_push (callers_below n accounts) (caller_of accounts n) ∙ ap (λ (m : ℕ). m + 1) (callers_count n accounts) ∙ (let h : n + 1 ≡ suc n = omega arith in h)

pub callers_known : (accounts : List Account) (n k : ℕ) → k < n → Contains (numbers_of (callers_below n accounts)) k
callers_known accounts zero k l = absurd (omega (arith, l))
callers_known accounts (suc n) k l =
    subst (λ (ns : List ℕ). Contains ns k) (sym (map-append (λ (c : ℕ × List Record). c.0) (callers_below n accounts) (caller_of accounts n ∷ [])))
    (split (cases_lt k n) (callers_known accounts n k))
  where
    split : (k < n) ⊎ (n ≤ k) → (k < n → Contains (numbers_of (callers_below n accounts)) k) → Contains (numbers_of (callers_below n accounts) ++ n ∷ []) k
    split (inl lt) rest = Contains-append_left (numbers_of (callers_below n accounts)) (n ∷ []) k (rest lt)
    split (inr le) rest = subst (Contains (numbers_of (callers_below n accounts) ++ n ∷ [])) (let same : n ≡ k = omega (arith, le, l) in same) (Contains-push (numbers_of (callers_below n accounts)) n)

-- each number of an account is below their count
pub below_count : (accounts : List Account) (k : ℕ) → Contains (map (λ (a : Account). a.number) accounts) k → k < count_of accounts
below_count [] k h = absurd (contains_none k h)
below_count (a ∷ accounts) k h = split (contains_cases a.number k (map (λ (b : Account). b.number) accounts) h) (below_count accounts k)
  where
    split : (a.number ≡ k) ⊎ Contains (map (λ (b : Account). b.number) accounts) k → (Contains (map (λ (b : Account). b.number) accounts) k → k < count_of accounts) → k < max (suc a.number) (count_of accounts)
    split (inl same) rest = omega (arith, same)
    split (inr later) rest = (let l = rest later in omega (arith, l))
