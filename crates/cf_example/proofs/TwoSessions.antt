-- What two sessions that take stages of one row know of it.
use Rattle.std.proofs.Common.{◌≡◌, ◌≢◌, ℕ, zero, suc, ◌⊎◌, inl, inr, Option, Some, None, List, [], ◌∷◌, ◌++◌, Contains, drop, length, take, refl, ap, sym, ◌∙◌, subst, append-nil, append_assoc}
use Rattle.std.specs.Prelude.{Err, IfErr, Ok, OnOk, Result}
use Rattle.std.proofs.lemmas.List.Elements.{All-contains, All-nil, All-push, Contains-append_cases, Contains-append_left, Contains-append_right}
use Rattle.cf_forms.specs.Plans.{Planned}
use Rattle.cf_model.specs.declared.events.Event.{Event}
use Rattle.cf_model.specs.Events.{answered}
use Rattle.cf_model.specs.States.{State, start}
use Rattle.cf_event.specs.Decoding.{decoded_with, event_of}
use Rattle.cf_ledger.specs.declared.faults.Misfit.{Misfit}
use Rattle.cf_row.specs.declared.entry.Entry.{Entry}
use Rattle.cf_row.specs.declared.grants.Claim.{Claim}
use Rattle.cf_row.specs.Grants.{ClaimsAreOnes, claim_of, granted_by, granted_from, granted_in}
use Rattle.cf_row.specs.Puts.{Row}
use Rattle.cf_row.specs.Rows.{BeginsWith, Replays, history_of, session_of}
use Rattle.cf_example.specs.Sharing.{AreGranted, GoesOn, HaveNoneInCommon, Holds, Knows, Share}
use Rattle.cf_example.proofs.OverCalls.{none}
use Rattle.cf_example.proofs.WholeRows.{behind_is}

-- ---- rows that grow

pub begins_itself : (row : List Entry) → BeginsWith row row
begins_itself row = record { rest = []; is = sym (append-nil row) }

pub begins_longer : (a b c : List Entry) → BeginsWith b a → BeginsWith c b → BeginsWith c a
begins_longer a b c h k = record { rest = h.rest ++ k.rest; is = k.is ∙ ap (λ (l : List Entry). l ++ k.rest) h.is ∙ append_assoc a h.rest k.rest }

longer_by : (s : State) (x : Entry) (xs ys : List Entry) (c : Claim) (o : Option Event) →
    ((t : State) → Contains (granted_from t xs (history_of xs)) c → Contains (granted_from t (xs ++ ys) (history_of (xs ++ ys))) c) →
    Contains (granted_from s (x ∷ xs) (decoded_with o (history_of xs))) c → Contains (granted_from s (x ∷ xs ++ ys) (decoded_with o (history_of (xs ++ ys)))) c
longer_by s x xs ys c None more h = absurd (none c h)
longer_by s x xs ys c (Some e) more h = by_case (Contains-append_cases front (granted_from t xs (history_of xs)) c h)
  where
    front : List Claim
    front = claim_of (granted_by e ((answered s e).0)) (session_of x.token)

    t : State
    t = (answered s e).1

    by_case : Contains front c ⊎ Contains (granted_from t xs (history_of xs)) c → Contains (front ++ granted_from t (xs ++ ys) (history_of (xs ++ ys))) c
    by_case (inl g) = Contains-append_left front (granted_from t (xs ++ ys) (history_of (xs ++ ys))) c g
    by_case (inr g) = Contains-append_right front (granted_from t (xs ++ ys) (history_of (xs ++ ys))) c (more t g)

granted_longer : (s : State) (xs ys : List Entry) (c : Claim) → Contains (granted_from s xs (history_of xs)) c → Contains (granted_from s (xs ++ ys) (history_of (xs ++ ys))) c
granted_longer s [] ys c h = absurd (none c h)
granted_longer s (x ∷ xs) ys c h = longer_by s x xs ys c (event_of x.word) (λ t g. granted_longer t xs ys c g) h

-- a claim that was granted in a row is granted in each that begins with it
pub granted_on : (plan : Planned) (old new : List Entry) (c : Claim) → BeginsWith new old → Contains (granted_in plan old) c → Contains (granted_in plan new) c
granted_on plan old new c b h = subst (λ (l : List Entry). Contains (granted_in plan l) c) (sym b.is) (granted_longer (start plan) old b.rest c h)

-- ---- one session

pub take_drop : (n : ℕ) (xs : List Entry) → take n xs ++ drop n xs ≡ xs
take_drop zero xs = refl
take_drop (suc n) [] = refl
take_drop (suc n) (x ∷ xs) = ap (λ (l : List Entry). x ∷ l) (take_drop n xs)

-- it has seen more
saw_more : (row : List Entry) (r s : Row) (entries rest : List Entry) → Knows row r → drop (length r.replica.seen) row ≡ entries ++ rest → Replays r.replica entries s.replica → s.put ≡ [] → GoesOn row r row s
saw_more row r s entries rest k there h put =
    let behind : k.seen.rest ≡ entries ++ rest = sym (behind_is row r.replica.seen k.seen) ∙ there in
    let is : row ≡ s.replica.seen ++ rest =
    k.seen.is ∙ ap (λ (l : List Entry). r.replica.seen ++ l) behind ∙ sym (append_assoc r.replica.seen entries rest) ∙ ap (λ (l : List Entry). l ++ rest) (sym h.seen) in
    record { grown = begins_itself row; plan = h.plan; session = h.session; knows = record { none = put; seen = record { rest = rest; is = is } } }

pub saw_behind : {T : Type 0} (row : List Entry) (r s : Row) (behind : List Entry) (told : Result T Misfit) → Knows row r → behind ≡ drop (length r.replica.seen) row → OnOk told (Replays r.replica behind s.replica) →
    IfErr told (λ m. Replays r.replica (take m.place behind) s.replica) → s.put ≡ [] → GoesOn row r row s
saw_behind row r s behind (Ok done) k is all front put = saw_more row r s behind [] k (sym is ∙ sym (append-nil behind)) all put
saw_behind row r s behind (Err m) k is all front put = saw_more row r s (take m.place behind) (drop m.place behind) k (sym is ∙ sym (take_drop m.place behind)) front put

-- another session's row grows
pub others_go : (a b : List Entry) (r : Row) → BeginsWith b a → Knows a r → Knows b r
others_go a b r grown k = record { none = k.none; seen = begins_longer r.replica.seen a b k.seen grown }

-- ---- what is granted

abbrev IsGranted : Planned → List Entry → ℕ → ℕ → Type 0
IsGranted plan row session i = let c : Claim = record { stage = i; session = session } in Contains (granted_in plan row) c

pub all_granted_on : (plan : Planned) (old new : List Entry) (session : ℕ) (xs : List ℕ) → BeginsWith new old → AreGranted plan old session xs → AreGranted plan new session xs
all_granted_on plan old new session xs b h k d l = granted_on plan old new _ b (h k d l)

-- a stage that a view tells as granted is granted in the row
pub granted_there : (row : List Entry) (r : Row) (i : ℕ) → Knows row r → Contains (granted_in r.replica.plan r.replica.seen) (record { stage = i; session = r.replica.session }) → Contains (granted_in r.replica.plan row) (record { stage = i; session = r.replica.session })
granted_there row r i k h = granted_on r.replica.plan r.replica.seen row _ k.seen h

pub none_in_common : ClaimsAreOnes → (plan : Planned) (row : List Entry) (s t : ℕ) (xs ys : List ℕ) → s ≢ t → AreGranted plan row s xs → AreGranted plan row t ys → HaveNoneInCommon xs ys
none_in_common ones plan row s t xs ys differ hx hy = λ i h k. differ (ones plan row i s t (All-contains (IsGranted plan row s) xs i hx h) (All-contains (IsGranted plan row t) ys i hy k))

held_before : (a b : List Entry) (r s : Row) (xs : List ℕ) → Holds a r xs → GoesOn a r b s → AreGranted s.replica.plan b s.replica.session xs
held_before a b r s xs h on =
    subst (λ (p : Planned). AreGranted p b s.replica.session xs) (sym on.plan)
    (subst (λ (n : ℕ). AreGranted r.replica.plan b n xs) (sym on.session) (all_granted_on r.replica.plan a b r.replica.session xs on.grown h.granted))

-- a session that took a stage, or none
pub one_held : (a b : List Entry) (r s : Row) (xs ys : List ℕ) (i : ℕ) → Holds a r xs → GoesOn a r b s → IsGranted s.replica.plan s.replica.seen s.replica.session i → ys ≡ xs ++ i ∷ [] → Holds b s ys
one_held a b r s xs ys i h on g is = record {
  knows = on.knows;
  granted = subst (AreGranted s.replica.plan b s.replica.session) (sym is)
      (All-push (IsGranted s.replica.plan b s.replica.session) xs i (held_before a b r s xs h on) (granted_there b s i on.knows g));
}

pub none_held : (a b : List Entry) (r s : Row) (xs : List ℕ) → Holds a r xs → GoesOn a r b s → Holds b s xs
none_held a b r s xs h on = record { knows = on.knows; granted = held_before a b r s xs h on }

-- the other session, while the row grows
pub other_holds : (a b : List Entry) (r : Row) (xs : List ℕ) → BeginsWith b a → Holds a r xs → Holds b r xs
other_holds a b r xs grown h = record { knows = others_go a b r grown h.knows; granted = all_granted_on r.replica.plan a b r.replica.session xs grown h.granted }

pub new_share : (row : List Entry) (r s : Row) (xs ys : List ℕ) → Knows row r × Knows row s → s.replica.plan ≡ r.replica.plan → r.replica.session ≢ s.replica.session → xs ≡ [] → ys ≡ [] → Share row r s xs ys
new_share row r s xs ys k plan apart no_ones no_others = record {
  first = record { knows = k.0; granted = subst (AreGranted r.replica.plan row r.replica.session) (sym no_ones) (All-nil (IsGranted r.replica.plan row r.replica.session)) };
  second = record { knows = k.1; granted = subst (AreGranted s.replica.plan row s.replica.session) (sym no_others) (All-nil (IsGranted s.replica.plan row s.replica.session)) };
  plan = plan;
  apart = apart;
}

pub both_went : {T E : Type 0} (told : Result T E) (a b c : List Entry) (r s t u : Row) (xs ys xs2 ys2 : List ℕ) → Share a r s xs ys → GoesOn a r b t → Holds b t xs2 → OnOk told (GoesOn b s c u) → OnOk told (Holds c u ys2) → OnOk told (Share c t u xs2 ys2)
both_went (Ok done) a b c r s t u xs ys xs2 ys2 share one h other k = record {
  first = other_holds b c t xs2 other.grown h;
  second = k;
  plan = other.plan ∙ share.plan ∙ sym one.plan;
  apart = λ same. share.apart (sym one.session ∙ same ∙ other.session);
}
both_went (Err e) a b c r s t u xs ys xs2 ys2 share one h other k = tt

pub share_apart : ClaimsAreOnes → (row : List Entry) (r s : Row) (xs ys : List ℕ) → Share row r s xs ys → HaveNoneInCommon xs ys
share_apart ones row r s xs ys share =
    none_in_common ones r.replica.plan row r.replica.session s.replica.session xs ys share.apart share.first.granted
    (subst (λ (p : Planned). AreGranted p row s.replica.session ys) share.plan share.second.granted)
