-- Rows of a part's calls.
use Rattle.std.proofs.Common.{◌≡◌, ◌≢◌, ℕ, ◌+◌, ◌<◌, ◌≤◌, ◌⊎◌, inl, inr, Option, Some, None, List, [], ◌∷◌, ◌++◌, All, Contains, length, replicate, set, take, refl, ap, sym, ◌∙◌, subst, append-nil, append_assoc, arith}
use Rattle.std.proofs.lemmas.Bool.{cases_lt}
use Rattle.std.proofs.lemmas.List.{get_or-set_other, get_or-set_same}
use Rattle.std.proofs.lemmas.List.Elements.{All-append, All-cons, All-contains, All-nil, All-weaker, Contains-append_left, Contains-append_right}
use Rattle.cf_forms.specs.Plans.{Planned, with_room}
use Rattle.cf_ledger.specs.declared.faults.LedgerFault.{LedgerFault}
use Rattle.cf_ledger.specs.declared.faults.LedgerFault.TheVariants.{NoMemory, NoEvent, NoStage, NoRoom}
use Rattle.cf_row.specs.declared.entry.Entry.{Entry}
use Rattle.cf_row.specs.declared.grants.Claim.{Claim}
use Rattle.cf_row.specs.Rows.{BeginsWith, Replays, Replica}
use Rattle.cf_row.specs.Puts.{Plans, Row}
use Rattle.cf_row.specs.Grants.{IsGrantedTo, granted_in}
use Rattle.cf_row.proofs.Roomier.{granted_roomier}
use Rattle.cf_notes.specs.declared.note.Note.{Note}
use Rattle.cf_notes.specs.declared.wants.EndsWith.{EndsWith}
use Rattle.cf_notes.specs.declared.wants.Owed.{Owed}
use Rattle.cf_part.specs.declared.progress.Progress.{Progress}
use Rattle.cf_part.specs.declared.progress.Progress.TheVariants.{NotCalled, Runs, Stopped, Ended}
use Rattle.cf_part.specs.declared.question.PutOf.{PutOf}
use Rattle.cf_part.specs.declared.question.PutOf.TheVariants.{Act, Finish, Rest}
use Rattle.cf_part.specs.declared.step.Step.{Step}
use Rattle.cf_part.specs.declared.step.Step.TheVariants.{Show, Stop, Call}
use Rattle.cf_part.specs.Parts.{Part, call_in, no_value, owed_in, session_of}
use Rattle.cf_part.specs.Steps.{Tells}
use Rattle.cf_part.specs.Answers.{BreaksOff, Ends, Grows as GetsRoom, IsRunning, MismeetsBy, owed_after, owed_refused}
use Rattle.cf_part.specs.Rows.{AreCalls, CallsOnce, IsApart, IsCall, IsFresh, IsOwed, KeepsOwed, Out, StopsOnce, all_calls, all_stops, nothing, out_of}
use Rattle.cf_part.specs.Rows.IsCall.{tells, plans, asks, reads, misreads, lands, meets, mismeets, waits, refuses, closes, breaks, ends, wants, hears, grows as gets_room, reads_again}
use Rattle.cf_part.proofs.Granted.{granted_stays}
use Rattle.cf_part.proofs.Lists.{apart_append, contains_head, get_front, get_more, there_by}

-- ---- how far calls have come

abbrev pub rank : Progress → ℕ
rank NotCalled = 0
rank Runs = 1
rank Stopped = 2
rank Ended = 3

-- Each call that came to a rank stays there; and those that come to it are told, each once.
pub record Moves (t : ℕ) (old new : List Progress) (told : List ℕ) : Type 0 where
  pub onward : (i : ℕ) → t ≤ rank (call_in old i) → t ≤ rank (call_in new i)
  pub before : All (λ i. rank (call_in old i) < t) told
  pub behind : All (λ i. t ≤ rank (call_in new i)) told
  pub apart : IsApart told

moves_same : (t : ℕ) (calls : List Progress) → Moves t calls calls []
moves_same t calls = record { onward = λ i h. h; before = All-nil (λ i. rank (call_in calls i) < t); behind = All-nil (λ i. t ≤ rank (call_in calls i)); apart = tt }

moves_is : (t : ℕ) (old new : List Progress) → new ≡ old → Moves t old new []
moves_is t old new same = subst (λ (l : List Progress). Moves t old l []) (sym same) (moves_same t old)

not_yet : (t : ℕ) (a b : Progress) → (t ≤ rank a → t ≤ rank b) → rank b < t → rank a < t
not_yet t a b up lt = elim (cases_lt (rank a) t) [
  | inl below ↦ below
  | inr le ↦ (let high = up le in absurd (omega (arith, lt, high)))
]

pub moves_then : (t : ℕ) (a b c : List Progress) (xs ys : List ℕ) → Moves t a b xs → Moves t b c ys → Moves t a c (xs ++ ys)
moves_then t a b c xs ys h k = record {
  onward = λ i e. k.onward i (h.onward i e);
  before = All-append (λ i. rank (call_in a i) < t) xs ys h.before (All-weaker (λ i. rank (call_in b i) < t) (λ i. rank (call_in a i) < t) (λ i lt. not_yet t (call_in a i) (call_in b i) (h.onward i) lt) ys k.before);
  behind = All-append (λ i. t ≤ rank (call_in c i)) xs ys (All-weaker (λ i. t ≤ rank (call_in b i)) (λ i. t ≤ rank (call_in c i)) (λ i le. k.onward i le) xs h.behind) k.behind;
  apart = apart_append xs ys h.apart k.apart (λ i x y.
      let le = All-contains (λ i. t ≤ rank (call_in b i)) xs i h.behind x in
      let lt = All-contains (λ i. rank (call_in b i) < t) ys i k.before y in
      omega (arith, le, lt));
}

-- one call goes on
call_set : (calls : List Progress) (i j : ℕ) (v : Progress) → i < length calls → ((j ≡ i) × (call_in (set calls i v) j ≡ v)) ⊎ (call_in (set calls i v) j ≡ call_in calls j)
call_set calls i j v there = elim (cases_lt i j) [
  | inl lt ↦ inr (get_or-set_other calls i j v NotCalled (λ e. omega (arith, e, lt)))
  | inr le ↦ (elim (cases_lt j i) [
    | inl lt ↦ inr (get_or-set_other calls i j v NotCalled (λ e. omega (arith, e, lt)))
    | inr ge ↦ (let same : j ≡ i = omega (arith, le, ge) in inl (same, subst (λ (k : ℕ). call_in (set calls i v) k ≡ v) (sym same) (get_or-set_same calls i v NotCalled there)))
  ])
]

onward_set : (t : ℕ) (calls : List Progress) (i : ℕ) (u v : Progress) → i < length calls → call_in calls i ≡ u → rank u ≤ rank v → (j : ℕ) → t ≤ rank (call_in calls j) → t ≤ rank (call_in (set calls i v) j)
onward_set t calls i u v there is up j h = by_place (call_set calls i j v there)
  where
    by_place : ((j ≡ i) × (call_in (set calls i v) j ≡ v)) ⊎ (call_in (set calls i v) j ≡ call_in calls j) → t ≤ rank (call_in (set calls i v) j)
    by_place (inl e) =
        let was : rank (call_in calls j) ≡ rank u = ap rank (ap (call_in calls) e.0 ∙ is) in
        let now : rank (call_in (set calls i v) j) ≡ rank v = ap rank e.1 in
        omega (arith, h, was, now, up)
    by_place (inr e) = let now : rank (call_in (set calls i v) j) ≡ rank (call_in calls j) = ap rank e in omega (arith, h, now)

moves_quiet : (t : ℕ) (calls : List Progress) (i : ℕ) (u v : Progress) → i < length calls → call_in calls i ≡ u → rank u ≤ rank v → Moves t calls (set calls i v) []
moves_quiet t calls i u v there is up = record {
  onward = onward_set t calls i u v there is up;
  before = All-nil (λ j. rank (call_in calls j) < t);
  behind = All-nil (λ j. t ≤ rank (call_in (set calls i v) j));
  apart = tt;
}

moves_told : (t : ℕ) (calls : List Progress) (i : ℕ) (u v : Progress) → i < length calls → call_in calls i ≡ u → rank u < t → t ≤ rank v → Moves t calls (set calls i v) (i ∷ [])
moves_told t calls i u v there is low high = record {
  onward = onward_set t calls i u v there is (omega (arith, low, high));
  before = All-cons (λ j. rank (call_in calls j) < t) i [] (let was = ap rank is in omega (arith, was, low)) (All-nil (λ j. rank (call_in calls j) < t));
  behind = All-cons (λ j. t ≤ rank (call_in (set calls i v) j)) i [] (let now = ap rank (get_or-set_same calls i v NotCalled there) in omega (arith, now, high)) (All-nil (λ j. t ≤ rank (call_in (set calls i v) j)));
  apart = (All-nil (λ y. i ≢ y), tt);
}

-- a call has begun: it had before, or is told
abbrev pub Begun : List Progress → List Progress → List ℕ → Type 0
Begun old new told = (i : ℕ) → 1 ≤ rank (call_in new i) → (1 ≤ rank (call_in old i)) ⊎ Contains told i

begun_is : (old new : List Progress) → new ≡ old → Begun old new []
begun_is old new same i h = inl (subst (λ (l : List Progress). 1 ≤ rank (call_in l i)) same h)

begun_quiet : (calls : List Progress) (i : ℕ) (u v : Progress) → i < length calls → call_in calls i ≡ u → 1 ≤ rank u → Begun calls (set calls i v) []
begun_quiet calls i u v there is some j h = inl (by_place (call_set calls i j v there))
  where
    by_place : ((j ≡ i) × (call_in (set calls i v) j ≡ v)) ⊎ (call_in (set calls i v) j ≡ call_in calls j) → 1 ≤ rank (call_in calls j)
    by_place (inl e) = (let was : rank (call_in calls j) ≡ rank u = ap rank (ap (call_in calls) e.0 ∙ is) in omega (arith, was, some))
    by_place (inr e) = (let now : rank (call_in (set calls i v) j) ≡ rank (call_in calls j) = ap rank e in omega (arith, h, now))

begun_told : (calls : List Progress) (i : ℕ) (v : Progress) → i < length calls → Begun calls (set calls i v) (i ∷ [])
begun_told calls i v there j h = by_place (call_set calls i j v there)
  where
    by_place : ((j ≡ i) × (call_in (set calls i v) j ≡ v)) ⊎ (call_in (set calls i v) j ≡ call_in calls j) → (1 ≤ rank (call_in calls j)) ⊎ Contains (i ∷ []) j
    by_place (inl e) = inr (subst (λ (k : ℕ). Contains (i ∷ []) k) (sym e.0) (contains_head i []))
    by_place (inr e) = inl (let now : rank (call_in (set calls i v) j) ≡ rank (call_in calls j) = ap rank e in omega (arith, h, now))

-- where each call is as it was
moves_like : (t : ℕ) (old new : List Progress) → ((i : ℕ) → call_in new i ≡ call_in old i) → Moves t old new []
moves_like t old new same = record {
  onward = λ i h. subst (λ (p : Progress). t ≤ rank p) (sym (same i)) h;
  before = All-nil (λ i. rank (call_in old i) < t);
  behind = All-nil (λ i. t ≤ rank (call_in new i));
  apart = tt;
}

begun_like : (old new : List Progress) → ((i : ℕ) → call_in new i ≡ call_in old i) → Begun old new []
begun_like old new same i h = inl (subst (λ (p : Progress). 1 ≤ rank p) (same i) h)

-- a stage whose call has begun has a place
called_there : (calls : List Progress) (i : ℕ) (u : Progress) → call_in calls i ≡ u → 0 < rank u → i < length calls
called_there calls i u is some = there_by calls i NotCalled (λ none. let low = ap rank (sym is ∙ none) in omega (arith, low, some))

-- ---- what a call does

-- the session stays, and the plan but for its room; what it has seen stands at the front of what it sees; and what was granted is so still
pub record Grows (old new : Replica) : Type 0 where
  pub plan : new.plan ≡ with_room old.plan new.plan.room
  pub session : new.session ≡ old.session
  pub begins : BeginsWith new.seen old.seen
  pub granted : (c : Claim) → Contains (granted_in old.plan old.seen) c → Contains (granted_in new.plan new.seen) c

grows_same : (r : Replica) → Grows r r
grows_same r = record { plan = refl; session = refl; begins = record { rest = []; is = sym (append-nil r.seen) }; granted = λ c h. h }

grows_is : (old new : Replica) → new ≡ old → Grows old new
grows_is old new same = subst (Grows old) (sym same) (grows_same old)

pub grows_then : (a b c : Replica) → Grows a b → Grows b c → Grows a c
grows_then a b c h k = record {
  plan = k.plan ∙ ap (λ (p : Planned). with_room p c.plan.room) h.plan;
  session = k.session ∙ h.session;
  granted = λ d e. k.granted d (h.granted d e);
  begins = record { rest = h.begins.rest ++ k.begins.rest; is = k.begins.is ∙ ap (λ (l : List Entry). l ++ k.begins.rest) h.begins.is ∙ append_assoc a.seen h.begins.rest k.begins.rest };
}

-- where the plan stays, too
grows_in : (old new : Replica) → new.plan ≡ old.plan → new.session ≡ old.session → BeginsWith new.seen old.seen → Grows old new
grows_in old new plan session front = record {
  plan = plan ∙ ap (λ (n : ℕ). with_room old.plan n) (sym (ap (λ (p : Planned). p.room) plan));
  session = session;
  begins = front;
  granted = λ c h. granted_stays new.plan new.seen old.seen c front (subst (λ (p : Planned). Contains (granted_in p old.seen) c) (sym plan) h);
}

grows_by : (old new : Replica) (entries : List Entry) → Replays old entries new → Grows old new
grows_by old new entries h = grows_in old new h.plan h.session (record { rest = entries; is = h.seen })

grows_planned : (old new : Row) (words : List ℕ) → Plans old words new → Grows old.replica new.replica
grows_planned old new words h =
    grows_in old.replica new.replica (ap (λ (r : Replica). r.plan) h.replica) (ap (λ (r : Replica). r.session) h.replica)
    (record { rest = []; is = ap (λ (r : Replica). r.seen) h.replica ∙ sym (append-nil old.replica.seen) })

-- where there is more room
grows_roomier : (old new : Part) (more : ℕ) → GetsRoom old more new → Grows old.row.replica new.row.replica
grows_roomier old new more h =
    let r = old.row.replica in
    subst (Grows r) (sym (ap (λ (p : Part). p.row.replica) h.rest)) (record {
      plan = refl;
      session = refl;
      begins = record { rest = []; is = sym (append-nil r.seen) };
      granted = λ c e. granted_roomier r more c h.taken e;
    })

-- of each call: what it sees, how calls go on, and what it tells
pub record Effect (old : Part) (out : Out) (new : Part) : Type 0 where
  pub grows : Grows old.row.replica new.row.replica
  pub calls : Moves 1 old.calls new.calls out.calls
  pub stops : Moves 2 old.calls new.calls out.stops
  pub granted : All (IsGrantedTo old.row.replica (session_of old)) out.calls
  pub begun : Begun old.calls new.calls out.calls
  pub stopped : All (λ i. 1 ≤ rank (call_in old.calls i)) out.stops

effect_quiet : (old : Part) (out : Out) (new : Part) → out ≡ nothing → Grows old.row.replica new.row.replica → new.calls ≡ old.calls → Effect old out new
effect_quiet old out new none seen same = subst (λ (o : Out). Effect old o new) (sym none) (record {
  grows = seen;
  calls = moves_is 1 old.calls new.calls same;
  stops = moves_is 2 old.calls new.calls same;
  granted = All-nil (IsGrantedTo old.row.replica (session_of old));
  begun = begun_is old.calls new.calls same;
  stopped = All-nil (λ i. 1 ≤ rank (call_in old.calls i));
})

effect_step : (old : Part) (now : ℕ) (step : Step) (new : Part) → Tells old now step new → Effect old (out_of step) new
effect_step old now (Show i shown) new h = effect_quiet old nothing new refl (grows_is old.row.replica new.row.replica (ap (λ (p : Part). p.row.replica) h.2)) (ap (λ (p : Part). p.calls) h.2)
effect_step old now (Stop i) new h =
    let calls : new.calls ≡ set old.calls i Stopped = ap (λ (p : Part). p.calls) h.2 in
    let there = called_there old.calls i Runs h.1.runs (omega arith) in
    record {
      grows = grows_is old.row.replica new.row.replica (ap (λ (p : Part). p.row.replica) h.2);
      calls = subst (λ (l : List Progress). Moves 1 old.calls l []) (sym calls) (moves_quiet 1 old.calls i Runs Stopped there h.1.runs (omega arith));
      stops = subst (λ (l : List Progress). Moves 2 old.calls l (i ∷ [])) (sym calls) (moves_told 2 old.calls i Runs Stopped there h.1.runs (omega arith) (omega arith));
      granted = All-nil (IsGrantedTo old.row.replica (session_of old));
      begun = subst (λ (l : List Progress). Begun old.calls l []) (sym calls) (begun_quiet old.calls i Runs Stopped there h.1.runs (omega arith));
      stopped = All-cons (λ i. 1 ≤ rank (call_in old.calls i)) i [] (let was = ap rank h.1.runs in omega (arith, was)) (All-nil (λ i. 1 ≤ rank (call_in old.calls i)));
    }
effect_step old now (Call i args) new h =
    let calls : new.calls ≡ set old.calls i Runs = ap (λ (p : Part). p.calls) h.1 in
    let granted : IsGrantedTo old.row.replica (session_of old) i = h.0.is.held.granted in
    record {
      grows = grows_is old.row.replica new.row.replica (ap (λ (p : Part). p.row.replica) h.1);
      calls = subst (λ (l : List Progress). Moves 1 old.calls l (i ∷ [])) (sym calls) (moves_told 1 old.calls i NotCalled Runs h.0.there h.0.is.new (omega arith) (omega arith));
      stops = subst (λ (l : List Progress). Moves 2 old.calls l []) (sym calls) (moves_quiet 2 old.calls i NotCalled Runs h.0.there h.0.is.new (omega arith));
      granted = All-cons (IsGrantedTo old.row.replica (session_of old)) i [] granted (All-nil (IsGrantedTo old.row.replica (session_of old)));
      begun = subst (λ (l : List Progress). Begun old.calls l (i ∷ [])) (sym calls) (begun_told old.calls i Runs h.0.there);
      stopped = All-nil (λ i. 1 ≤ rank (call_in old.calls i));
    }

effect_ended : (old new : Part) (i : ℕ) (answer : EndsWith) (u : Progress) → 0 < rank u → rank u ≤ 3 → call_in old.calls i ≡ u → Ends old i answer new → Effect old nothing new
effect_ended old new i answer u some most is h =
    let calls : new.calls ≡ set old.calls i Ended = ap (λ (p : Part). p.calls) h in
    let there = called_there old.calls i u is some in
    record {
      grows = grows_is old.row.replica new.row.replica (ap (λ (p : Part). p.row.replica) h);
      calls = subst (λ (l : List Progress). Moves 1 old.calls l []) (sym calls) (moves_quiet 1 old.calls i u Ended there is most);
      stops = subst (λ (l : List Progress). Moves 2 old.calls l []) (sym calls) (moves_quiet 2 old.calls i u Ended there is most);
      granted = All-nil (IsGrantedTo old.row.replica (session_of old));
      begun = subst (λ (l : List Progress). Begun old.calls l []) (sym calls) (begun_quiet old.calls i u Ended there is (omega (arith, some)));
      stopped = All-nil (λ i. 1 ≤ rank (call_in old.calls i));
    }

effect_ends : (old new : Part) (i : ℕ) (answer : EndsWith) → IsRunning old i → Ends old i answer new → Effect old nothing new
effect_ends old new i answer (inl runs) h = effect_ended old new i answer Runs (omega arith) (omega arith) runs h
effect_ends old new i answer (inr stopped) h = effect_ended old new i answer Stopped (omega arith) (omega arith) stopped h

effect_breaks_off : (old : Part) (entries : List Entry) (said : List Note) (place : ℕ) (new : Part) → BreaksOff old entries said place new → Effect old nothing new
effect_breaks_off old entries said place new h = effect_quiet old nothing new refl (grows_by old.row.replica new.row.replica (take place entries) h.sees.replays) (ap (λ (p : Part). p.calls) h.rest)

effect_mismeets : (why : LedgerFault) (old : Part) (now : ℕ) (entries : List Entry) (said : List Note) (place : ℕ) (new : Part) → MismeetsBy why old now entries said place new → Effect old nothing new
effect_mismeets NoMemory old now entries said place new h = effect_quiet old nothing new refl (grows_is old.row.replica new.row.replica (ap (λ (p : Part). p.row.replica) h)) (ap (λ (p : Part). p.calls) h)
effect_mismeets NoEvent old now entries said place new h = effect_breaks_off old entries said place new h
effect_mismeets NoStage old now entries said place new h = effect_breaks_off old entries said place new h
effect_mismeets NoRoom old now entries said place new h = effect_breaks_off old entries said place new h

-- where the row stays, or loses its put
effect_still : (old : Part) (out : Out) (new : Part) → out ≡ nothing → new.row.replica ≡ old.row.replica → new.calls ≡ old.calls → Effect old out new
effect_still old out new none row calls = effect_quiet old out new none (grows_is old.row.replica new.row.replica row) calls

calls_roomier : (old new : Part) (more : ℕ) → GetsRoom old more new → (i : ℕ) → call_in new.calls i ≡ call_in old.calls i
calls_roomier old new more h i = ap (λ (p : Part). call_in p.calls i) h.rest ∙ get_more old.calls NotCalled more i

effect_roomier : (old : Part) (out : Out) (new : Part) (more : ℕ) → out ≡ nothing → GetsRoom old more new → Effect old out new
effect_roomier old out new more none h = subst (λ (o : Out). Effect old o new) (sym none) (record {
  grows = grows_roomier old new more h;
  calls = moves_like 1 old.calls new.calls (calls_roomier old new more h);
  stops = moves_like 2 old.calls new.calls (calls_roomier old new more h);
  granted = All-nil (IsGrantedTo old.row.replica (session_of old));
  begun = begun_like old.calls new.calls (calls_roomier old new more h);
  stopped = All-nil (λ i. 1 ≤ rank (call_in old.calls i));
})

pub effect : (old : Part) (out : Out) (new : Part) → IsCall old out new → Effect old out new
effect old out new (tells now step is h) = subst (λ (o : Out). Effect old o new) (sym is) (effect_step old now step new h)
effect old out new (plans ws of is h) = effect_quiet old out new is (grows_planned old.row new.row _ h.row) (ap (λ (p : Part). p.calls) h.rest)
effect old out new (asks q is h) = effect_still old out new is (ap (λ (p : Part). p.row.replica) h) (ap (λ (p : Part). p.calls) h)
effect old out new (reads entries said is h) = effect_quiet old out new is (grows_by old.row.replica new.row.replica entries h.sees.replays) (ap (λ (p : Part). p.calls) h.rest)
effect old out new (misreads now entries said m is h) = effect_quiet old out new is (grows_by old.row.replica new.row.replica (take m.place entries) h.sees.replays) (ap (λ (p : Part). p.calls) h.rest)
effect old out new (lands is h) = effect_quiet old out new is (grows_by old.row.replica new.row.replica old.row.put h.sees.replays) (ap (λ (p : Part). p.calls) h.rest)
effect old out new (meets entries said landed is h) = effect_quiet old out new is (grows_by old.row.replica new.row.replica entries h.sees.replays) (ap (λ (p : Part). p.calls) h.rest)
effect old out new (mismeets now entries said m is h) = subst (λ (o : Out). Effect old o new) (sym is) (effect_mismeets m.why old now entries said m.place new h.done)
effect old out new (waits now is h) = effect_still old out new is (ap (λ (p : Part). p.row.replica) h) (ap (λ (p : Part). p.calls) h)
effect old out new (refuses now is h) = effect_still old out new is (ap (λ (p : Part). p.row.replica) h) (ap (λ (p : Part). p.calls) h)
effect old out new (closes is_closed is h) = effect_still old out new is (ap (λ (p : Part). p.row.replica) h) (ap (λ (p : Part). p.calls) h)
effect old out new (breaks fault is h) = effect_still old out new is (ap (λ (p : Part). p.row.replica) h) (ap (λ (p : Part). p.calls) h)
effect old out new (ends i answer is running h) = subst (λ (o : Out). Effect old o new) (sym is) (effect_ends old new i answer running h)
effect old out new (wants i from is h) = effect_still old out new is (ap (λ (p : Part). p.row.replica) h) (ap (λ (p : Part). p.calls) h)
effect old out new (hears words is h) = effect_still old out new is (ap (λ (p : Part). p.row.replica) h) (ap (λ (p : Part). p.calls) h)
effect old out new (gets_room more is h) = effect_roomier old out new more is h
effect old out new (reads_again is h) = effect_still old out new is (ap (λ (p : Part). p.row.replica) h) (ap (λ (p : Part). p.calls) h)

-- ---- rows of calls

pub granted_later : (old new : Replica) → Grows old new → (i : ℕ) → IsGrantedTo old old.session i → IsGrantedTo new new.session i
granted_later old new g i h =
    let c : Claim = record { stage = i; session = old.session } in
    subst (λ (s : ℕ). Contains (granted_in new.plan new.seen) (record { stage = i; session = s })) (sym g.session) (g.granted c h)

pub record Effects (old : Part) (outs : List Out) (new : Part) : Type 0 where
  pub grows : Grows old.row.replica new.row.replica
  pub calls : Moves 1 old.calls new.calls (all_calls outs)
  pub stops : Moves 2 old.calls new.calls (all_stops outs)
  pub granted : All (IsGrantedTo new.row.replica (session_of new)) (all_calls outs)

pub effects : (old : Part) (outs : List Out) (new : Part) → AreCalls old outs new → Effects old outs new
effects old [] new same = record {
  grows = grows_is old.row.replica new.row.replica (ap (λ (p : Part). p.row.replica) same);
  calls = moves_is 1 old.calls new.calls (ap (λ (p : Part). p.calls) same);
  stops = moves_is 2 old.calls new.calls (ap (λ (p : Part). p.calls) same);
  granted = All-nil (IsGrantedTo new.row.replica (session_of new));
}
effects old (out ∷ outs) new (between, call, rest) =
    let one = effect old out between call in
    let more = effects between outs new rest in
    let all = grows_then old.row.replica between.row.replica new.row.replica one.grows more.grows in
    record {
      grows = all;
      calls = moves_then 1 old.calls between.calls new.calls out.calls (all_calls outs) one.calls more.calls;
      stops = moves_then 2 old.calls between.calls new.calls out.stops (all_stops outs) one.stops more.stops;
      granted = All-append (IsGrantedTo new.row.replica (session_of new)) out.calls (all_calls outs)
          (All-weaker (IsGrantedTo old.row.replica (session_of old)) (IsGrantedTo new.row.replica (session_of new)) (granted_later old.row.replica new.row.replica all) out.calls one.granted) more.granted;
    }

pub calls_once : CallsOnce
calls_once old new outs h = let e = effects old outs new h in record { apart = e.calls.apart; granted = e.granted }

-- ---- stops are of calls

record Begins (old : Part) (outs : List Out) (new : Part) : Type 0 where
  begun : Begun old.calls new.calls (all_calls outs)
  stops : All (λ i. (1 ≤ rank (call_in old.calls i)) ⊎ Contains (all_calls outs) i) (all_stops outs)

begun_then : (a b c : List Progress) (xs ys : List ℕ) → Begun a b xs → Begun b c ys → Begun a c (xs ++ ys)
begun_then a b c xs ys h k i e = by_last (k i e)
  where
    by_first : (1 ≤ rank (call_in a i)) ⊎ Contains xs i → (1 ≤ rank (call_in a i)) ⊎ Contains (xs ++ ys) i
    by_first (inl before) = inl before
    by_first (inr told) = inr (Contains-append_left xs ys i told)

    by_last : (1 ≤ rank (call_in b i)) ⊎ Contains ys i → (1 ≤ rank (call_in a i)) ⊎ Contains (xs ++ ys) i
    by_last (inl before) = by_first (h i before)
    by_last (inr told) = inr (Contains-append_right xs ys i told)

stop_later : (a b : List Progress) (xs ys : List ℕ) → Begun a b xs → (i : ℕ) → (1 ≤ rank (call_in b i)) ⊎ Contains ys i → (1 ≤ rank (call_in a i)) ⊎ Contains (xs ++ ys) i
stop_later a b xs ys h i (inl before) = by_first (h i before)
  where
    by_first : (1 ≤ rank (call_in a i)) ⊎ Contains xs i → (1 ≤ rank (call_in a i)) ⊎ Contains (xs ++ ys) i
    by_first (inl first) = inl first
    by_first (inr told) = inr (Contains-append_left xs ys i told)
stop_later a b xs ys h i (inr told) = inr (Contains-append_right xs ys i told)

begins : (old : Part) (outs : List Out) (new : Part) → AreCalls old outs new → Begins old outs new
begins old [] new same = record {
  begun = begun_is old.calls new.calls (ap (λ (p : Part). p.calls) same);
  stops = All-nil (λ i. (1 ≤ rank (call_in old.calls i)) ⊎ Contains [] i);
}
begins old (out ∷ outs) new (between, call, rest) =
    let one = effect old out between call in
    let more = begins between outs new rest in
    let calls = all_calls outs in
    record {
      begun = begun_then old.calls between.calls new.calls out.calls calls one.begun more.begun;
      stops = All-append (λ i. (1 ≤ rank (call_in old.calls i)) ⊎ Contains (out.calls ++ calls) i) out.stops (all_stops outs)
          (All-weaker (λ i. 1 ≤ rank (call_in old.calls i)) (λ i. (1 ≤ rank (call_in old.calls i)) ⊎ Contains (out.calls ++ calls) i) (λ i h. inl h) out.stops one.stopped)
          (All-weaker (λ i. (1 ≤ rank (call_in between.calls i)) ⊎ Contains calls i) (λ i. (1 ≤ rank (call_in old.calls i)) ⊎ Contains (out.calls ++ calls) i)
          (λ i h. stop_later old.calls between.calls out.calls calls one.begun i h) (all_stops outs) more.stops);
    }

was_called : (old : Part) (xs : List ℕ) (i : ℕ) → IsFresh old → (1 ≤ rank (call_in old.calls i)) ⊎ Contains xs i → Contains xs i
was_called old xs i fresh (inl before) = (let low = ap rank (fresh i) in absurd (omega (arith, before, low)))
was_called old xs i fresh (inr told) = told

pub stops_once : StopsOnce
stops_once old new outs fresh h =
    let calls = all_calls outs in
    record {
      apart = (effects old outs new h).stops.apart;
      called = All-weaker (λ i. (1 ≤ rank (call_in old.calls i)) ⊎ Contains calls i) (Contains calls) (λ i e. was_called old calls i fresh e) (all_stops outs) (begins old outs new h).stops;
    }

-- ---- what is owed

owed_same : (old new : Part) (i : ℕ) (answer : EndsWith) → new.calls ≡ old.calls → new.owed ≡ old.owed → IsOwed old i answer → IsOwed new i answer
owed_same old new i answer calls owed h = record {
  ended = ap (λ (l : List Progress). call_in l i) calls ∙ h.ended;
  owed = h.owed;
  is = ap (λ (l : List (Option Owed)). owed_in l i) owed ∙ h.is;
  answers = h.answers;
}

-- another stage's call goes on
ended_other : (calls : List Progress) (i j : ℕ) (u v : Progress) → call_in calls i ≡ Ended → call_in calls j ≡ u → rank u < 3 → call_in (set calls j v) i ≡ Ended
ended_other calls i j u v ended is low = get_or-set_other calls j i v NotCalled (λ same. (let high = ap rank (sym ended ∙ ap (call_in calls) same ∙ is) in omega (arith, high, low))) ∙ ended

other_stage : (calls : List Progress) (i j : ℕ) (u : Progress) → call_in calls i ≡ Ended → call_in calls j ≡ u → rank u < 3 → i ≢ j
other_stage calls i j u ended is low same = (let high = ap rank (sym ended ∙ ap (call_in calls) same ∙ is) in omega (arith, high, low))

owed_step : (old : Part) (now : ℕ) (step : Step) (new : Part) (i : ℕ) (answer : EndsWith) → Tells old now step new → IsOwed old i answer → IsOwed new i answer
owed_step old now (Show j shown) new i answer h o = owed_same old new i answer (ap (λ (p : Part). p.calls) h.2) (ap (λ (p : Part). p.owed) h.2) o
owed_step old now (Stop j) new i answer h o = record {
  ended = ap (λ (p : Part). call_in p.calls i) h.2 ∙ ended_other old.calls i j Runs Stopped o.ended h.1.runs (omega arith);
  owed = o.owed;
  is = ap (λ (p : Part). owed_in p.owed i) h.2 ∙ o.is;
  answers = o.answers;
}
owed_step old now (Call j args) new i answer h o = record {
  ended = ap (λ (p : Part). call_in p.calls i) h.1 ∙ ended_other old.calls i j NotCalled Runs o.ended h.0.is.new (omega arith);
  owed = o.owed;
  is = ap (λ (p : Part). owed_in p.owed i) h.1 ∙ get_or-set_other old.owed j i None None (other_stage old.calls i j NotCalled o.ended h.0.is.new (omega arith)) ∙ o.is;
  answers = o.answers;
}

owed_ended : (old new : Part) (i j : ℕ) (answer other : EndsWith) (u : Progress) → rank u < 3 → call_in old.calls j ≡ u → Ends old j other new → IsOwed old i answer → IsOwed new i answer
owed_ended old new i j answer other u low is h o = record {
  ended = ap (λ (p : Part). call_in p.calls i) h ∙ ended_other old.calls i j u Ended o.ended is low;
  owed = o.owed;
  is = ap (λ (p : Part). owed_in p.owed i) h ∙ get_or-set_other old.owed j i _ None (other_stage old.calls i j u o.ended is low) ∙ o.is;
  answers = o.answers;
}

owed_ends : (old new : Part) (i j : ℕ) (answer other : EndsWith) → IsRunning old j → Ends old j other new → IsOwed old i answer → IsOwed new i answer
owed_ends old new i j answer other (inl runs) h o = owed_ended old new i j answer other Runs (omega arith) runs h o
owed_ends old new i j answer other (inr stopped) h o = owed_ended old new i j answer other Stopped (omega arith) stopped h o

-- by a refusal at most whether an error stands in for it
record StillOwed (owed : List (Option Owed)) (i : ℕ) (answer : EndsWith) : Type 0 where
  its : Owed
  is : owed_in owed i ≡ Some its
  answers : its.answer ≡ answer

some_is : (o : Owed) (x : Option Owed) → x ≡ Some o → x ≢ None
some_is o x is none = (let no : ⊥ = cc in no)

refused_at : (owed : List (Option Owed)) (i : ℕ) (o : Owed) (x : Option Owed) → x ≡ Some o → i < length owed → StillOwed (set owed i (owed_after x)) i o.answer
refused_at owed i o x is there =
    subst (λ (y : Option Owed). StillOwed (set owed i (owed_after y)) i o.answer) (sym is) (record {
      its = _;
      is = get_or-set_same owed i (owed_after (Some o)) None there;
      answers = refl;
    })

refused_place : (owed : List (Option Owed)) (i j : ℕ) (o : Owed) → owed_in owed i ≡ Some o → (i ≡ j) ⊎ (i ≢ j) → StillOwed (set owed j (owed_after (owed_in owed j))) i o.answer
refused_place owed i j o is (inl same) =
    subst (λ (k : ℕ). StillOwed (set owed k (owed_after (owed_in owed k))) i o.answer) same (refused_at owed i o (owed_in owed i) is (there_by owed i None (some_is o (owed_in owed i) is)))
refused_place owed i j o is (inr other) = record { its = o; is = get_or-set_other owed j i _ None other ∙ is; answers = refl }

same_or_not : (i j : ℕ) → (i ≡ j) ⊎ (i ≢ j)
same_or_not i j = elim (cases_lt i j) [
  | inl lt ↦ inr (λ e. omega (arith, e, lt))
  | inr le ↦ (elim (cases_lt j i) [
    | inl lt ↦ inr (λ e. omega (arith, e, lt))
    | inr ge ↦ inl (omega (arith, le, ge))
  ])
]

still_owed : (of : PutOf) (owed : List (Option Owed)) (i : ℕ) (o : Owed) → owed_in owed i ≡ Some o → StillOwed (owed_refused of owed) i o.answer
still_owed (Finish j) owed i o is = refused_place owed i j o is (same_or_not i j)
still_owed Act owed i o is = record { its = o; is = is; answers = refl }
still_owed Rest owed i o is = record { its = o; is = is; answers = refl }

owed_refuses : (old new : Part) (i : ℕ) (answer : EndsWith) → new.calls ≡ old.calls → new.owed ≡ owed_refused old.of old.owed → IsOwed old i answer → IsOwed new i answer
owed_refuses old new i answer calls owed o =
    let s = still_owed old.of old.owed i o.owed o.is in
    record {
      ended = ap (λ (l : List Progress). call_in l i) calls ∙ o.ended;
      owed = s.its;
      is = ap (λ (l : List (Option Owed)). owed_in l i) owed ∙ s.is;
      answers = s.answers ∙ o.answers;
    }

owed_mismeets : (why : LedgerFault) (old : Part) (now : ℕ) (entries : List Entry) (said : List Note) (place : ℕ) (new : Part) (i : ℕ) (answer : EndsWith) → MismeetsBy why old now entries said place new → IsOwed old i answer →
    IsOwed new i answer
owed_mismeets NoMemory old now entries said place new i answer h o = owed_same old new i answer (ap (λ (p : Part). p.calls) h) (ap (λ (p : Part). p.owed) h) o
owed_mismeets NoEvent old now entries said place new i answer h o = owed_same old new i answer (ap (λ (p : Part). p.calls) h.rest) (ap (λ (p : Part). p.owed) h.rest) o
owed_mismeets NoStage old now entries said place new i answer h o = owed_same old new i answer (ap (λ (p : Part). p.calls) h.rest) (ap (λ (p : Part). p.owed) h.rest) o
owed_mismeets NoRoom old now entries said place new i answer h o = owed_same old new i answer (ap (λ (p : Part). p.calls) h.rest) (ap (λ (p : Part). p.owed) h.rest) o

owed_roomier : (old new : Part) (more i : ℕ) (answer : EndsWith) → GetsRoom old more new → IsOwed old i answer → IsOwed new i answer
owed_roomier old new more i answer h o = record {
  ended = calls_roomier old new more h i ∙ o.ended;
  owed = o.owed;
  is = ap (λ (p : Part). owed_in p.owed i) h.rest ∙ get_front old.owed (replicate more (Some no_value)) i None (there_by old.owed i None (some_is o.owed (owed_in old.owed i) o.is)) ∙ o.is;
  answers = o.answers;
}

owed_call : (old : Part) (out : Out) (new : Part) (i : ℕ) (answer : EndsWith) → IsCall old out new → IsOwed old i answer → IsOwed new i answer
owed_call old out new i answer (tells now step is h) o = owed_step old now step new i answer h o
owed_call old out new i answer (plans ws of is h) o = owed_same old new i answer (ap (λ (p : Part). p.calls) h.rest) (ap (λ (p : Part). p.owed) h.rest) o
owed_call old out new i answer (asks q is h) o = owed_same old new i answer (ap (λ (p : Part). p.calls) h) (ap (λ (p : Part). p.owed) h) o
owed_call old out new i answer (reads entries said is h) o = owed_same old new i answer (ap (λ (p : Part). p.calls) h.rest) (ap (λ (p : Part). p.owed) h.rest) o
owed_call old out new i answer (misreads now entries said m is h) o = owed_same old new i answer (ap (λ (p : Part). p.calls) h.rest) (ap (λ (p : Part). p.owed) h.rest) o
owed_call old out new i answer (lands is h) o = owed_same old new i answer (ap (λ (p : Part). p.calls) h.rest) (ap (λ (p : Part). p.owed) h.rest) o
owed_call old out new i answer (meets entries said landed is h) o = owed_same old new i answer (ap (λ (p : Part). p.calls) h.rest) (ap (λ (p : Part). p.owed) h.rest) o
owed_call old out new i answer (mismeets now entries said m is h) o = owed_mismeets m.why old now entries said m.place new i answer h.done o
owed_call old out new i answer (waits now is h) o = owed_same old new i answer (ap (λ (p : Part). p.calls) h) (ap (λ (p : Part). p.owed) h) o
owed_call old out new i answer (refuses now is h) o = owed_refuses old new i answer (ap (λ (p : Part). p.calls) h) (ap (λ (p : Part). p.owed) h) o
owed_call old out new i answer (closes is_closed is h) o = owed_same old new i answer (ap (λ (p : Part). p.calls) h) (ap (λ (p : Part). p.owed) h) o
owed_call old out new i answer (breaks fault is h) o = owed_same old new i answer (ap (λ (p : Part). p.calls) h) (ap (λ (p : Part). p.owed) h) o
owed_call old out new i answer (ends j other is running h) o = owed_ends old new i j answer other running h o
owed_call old out new i answer (wants j from is h) o = owed_same old new i answer (ap (λ (p : Part). p.calls) h) (ap (λ (p : Part). p.owed) h) o
owed_call old out new i answer (hears words is h) o = owed_same old new i answer (ap (λ (p : Part). p.calls) h) (ap (λ (p : Part). p.owed) h) o
owed_call old out new i answer (gets_room more is h) o = owed_roomier old new more i answer h o
owed_call old out new i answer (reads_again is h) o = owed_same old new i answer (ap (λ (p : Part). p.calls) h) (ap (λ (p : Part). p.owed) h) o

pub keeps_owed : KeepsOwed
keeps_owed old new [] i answer o same = subst (λ (p : Part). IsOwed p i answer) (sym same) o
keeps_owed old new (out ∷ outs) i answer o (between, call, rest) = keeps_owed between new outs i answer (owed_call old out between i answer call o) rest
