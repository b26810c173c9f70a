-- Parts of several sessions in one request.
use Rattle.std.proofs.Common.{◌≡◌, ◌≢◌, ℕ, ◌+◌, ◌-◌, ◌≤◌, ◌⊎◌, inl, inr, List, [], ◌∷◌, All, Contains, refl, ap, ◌∙◌, subst, arith}
use Rattle.std.proofs.lemmas.List.Elements.{All-cons, All-contains, All-head, All-nil, All-tail, All-weaker, Contains-append_cases}
use Rattle.cf_forms.specs.Plans.{Planned, with_room}
use Rattle.cf_row.specs.declared.entry.Entry.{Entry}
use Rattle.cf_row.specs.declared.grants.Claim.{Claim}
use Rattle.cf_row.specs.Grants.{ClaimsAreOnes, IsGrantedTo, granted_in}
use Rattle.cf_row.proofs.Elements.{contains_none}
use Rattle.cf_row.proofs.Roomier.{granted_roomier}
use Rattle.cf_part.specs.Parts.{session_of}
use Rattle.cf_part.specs.Rows.{AllCallOnce, AreOfOneEach, IsApart, IsWork, Work, all_calls, called_by_all}
use Rattle.cf_part.proofs.Granted.{granted_stays}
use Rattle.cf_part.proofs.Lists.{apart_append}
use Rattle.cf_part.proofs.Rows.{calls_once, effects}

-- the row is seen with this room
abbrev FitsIn : ℕ → Work → Type 0
FitsIn room w = w.last.row.replica.plan.room ≤ room

-- what a session was told to call was granted to it in the row
granted : (plan : Planned) (room : ℕ) (row : List Entry) (w : Work) → IsWork plan row w → FitsIn room w → (i : ℕ) → Contains (all_calls w.outs) i →
    Contains (granted_in (with_room plan room) row) (record { stage = i; session = session_of w.first })
granted plan room row w h le i told =
    let e = effects w.first w.outs w.last h.calls in
    let last = w.last.row.replica in
    let more = room - last.plan.room in
    let of : last.plan ≡ with_room plan last.plan.room = e.grows.plan ∙ ap (λ (p : Planned). with_room p last.plan.room) h.plan_is in
    let all : last.plan.room + more ≡ room = omega (arith, le) in
    let is : with_room last.plan (last.plan.room + more) ≡ with_room plan room = ap (λ (n : ℕ). with_room last.plan n) all ∙ ap (λ (p : Planned). with_room p room) of in
    let seen = All-contains (IsGrantedTo last (session_of w.last)) (all_calls w.outs) i e.granted told in
    let c : Claim = record { stage = i; session = session_of w.last } in
    let own : Contains (granted_in (with_room plan room) row) c = granted_stays (with_room plan room) row last.seen c h.true_seen
    (subst (λ (p : Planned). Contains (granted_in p last.seen) c) is (granted_roomier last more c h.taken seen)) in
    subst (λ (s : ℕ). Contains (granted_in (with_room plan room) row) (record { stage = i; session = s })) e.grows.session own

-- what any of these sessions was told to call was granted to another session than one that is none of them
record GrantedTo (plan : Planned) (row : List Entry) (session i : ℕ) : Type 0 where
  other : ℕ
  differs : other ≢ session
  given : Contains (granted_in plan row) (record { stage = i; session = other })

granted_to : (plan : Planned) (room : ℕ) (row : List Entry) (works : List Work) (session i : ℕ) → All (IsWork plan row) works → All (FitsIn room) works → All (λ (v : Work). session_of v.first ≢ session) works → Contains (called_by_all works) i →
    GrantedTo (with_room plan room) row session i
granted_to plan room row [] session i h fit others told = absurd (contains_none i told)
granted_to plan room row (w ∷ works) session i h fit others told =
    by_place (granted_to plan room row works session i (All-tail (IsWork plan row) w works h) (All-tail (FitsIn room) w works fit) (All-tail (λ (v : Work). session_of v.first ≢ session) w works others))
    (Contains-append_cases (all_calls w.outs) (called_by_all works) i told)
  where
    by_place : (Contains (called_by_all works) i → GrantedTo (with_room plan room) row session i) → Contains (all_calls w.outs) i ⊎ Contains (called_by_all works) i → GrantedTo (with_room plan room) row session i
    by_place further (inl own) = record {
      other = session_of w.first;
      differs = All-head (λ (v : Work). session_of v.first ≢ session) w works others;
      given = granted plan room row w (All-head (IsWork plan row) w works h) (All-head (FitsIn room) w works fit) i own;
    }
    by_place further (inr later) = further later

all_once : ClaimsAreOnes → (plan : Planned) (room : ℕ) (row : List Entry) (works : List Work) → All (IsWork plan row) works → All (FitsIn room) works → AreOfOneEach works → IsApart (called_by_all works)
all_once ones plan room row [] h fit each = tt
all_once ones plan room row (w ∷ works) h fit each =
    let own = All-head (IsWork plan row) w works h in
    let rest = All-tail (IsWork plan row) w works h in
    let fits = All-head (FitsIn room) w works fit in
    let later = All-tail (FitsIn room) w works fit in
    apart_append (all_calls w.outs) (called_by_all works) (calls_once w.first w.last w.outs own.calls).apart (all_once ones plan room row works rest later each.1) (λ i a b.
    let g = granted_to plan room row works (session_of w.first) i rest later each.0 b in
    g.differs (ones (with_room plan room) row i g.other (session_of w.first) g.given (granted plan room row w own fits i a)))

-- with room for all of them
abbrev rooms : List Work → ℕ
rooms [] = 0
rooms (w ∷ works) = w.last.row.replica.plan.room + rooms works

all_fit : (works : List Work) → All (FitsIn (rooms works)) works
all_fit [] = All-nil (FitsIn (rooms []))
all_fit (w ∷ works) =
    let one = w.last.row.replica.plan.room in
    let all : rooms (w ∷ works) ≡ one + rooms works = refl in
    All-cons (FitsIn (rooms (w ∷ works))) w works (omega (arith, all)) (All-weaker (FitsIn (rooms works)) (FitsIn (rooms (w ∷ works))) (λ v le. omega (arith, le, all)) works (all_fit works))

pub all_call_once : ClaimsAreOnes → AllCallOnce
all_call_once ones plan row works h each = all_once ones plan (rooms works) row works h (all_fit works) each
