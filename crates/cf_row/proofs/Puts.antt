-- What tokens tell of a put, and what is kept of one.
use Rattle.std.proofs.Common.{◌≡◌, ℕ, ◌+◌, ◌-◌, ◌<◌, ◌≤◌, Bool, true, false, eqb, List, [], ◌∷◌, ◌++◌, length, length-append, drop, All, Contains, get_or, refl, ap, sym, ◌∙◌, subst, inl, inr, arith, append_assoc}
use Rattle.std.specs.Prelude.{◌≢◌, max}
use Rattle.std.proofs.Common.{Result, Ok, Err}
use Rattle.std.specs.Result.{OnErr, OnOk}
use Rattle.std.proofs.lemmas.Bool.{eqb-true, eqb-false}
use Rattle.std.proofs.lemmas.List.{drop_at, get_or_at}
use Rattle.std.proofs.lemmas.List.Elements.{All-nil, All-head, All-map}
use Rattle.cf_forms.specs.Plans.{Planned}
use Rattle.cf_model.specs.States.{State, start}
use Rattle.cf_model.specs.Events.{state_after}
use Rattle.cf_ledger.specs.Ledgers.{AreTaken}
use Rattle.cf_row.specs.declared.entry.Entry.{Entry}
use Rattle.cf_row.specs.Rows.{BeginsWith, Replica, history_of, session_of, state_of, with_memory, words_in}
use Rattle.cf_row.specs.Numbers.{AreAllTaken, FollowsRule, numbers_in, shared_number}
use Rattle.cf_row.specs.Puts.{AreWordsBehind, AreWordsFor, HasTokens, IsOnceOrNever, IsPutOf, IsPutOrNone, MayPut, NoneStands, Row, StandsOnce, TellsOf, pair_of, pairs_of, stamped, who_at}
use Rattle.cf_row.proofs.Tokens.{planned, stamped_count, stamped_words}

-- the entry behind the front of a row
met_at : (row front : List Entry) (x : Entry) → BeginsWith row (front ++ x ∷ []) → (rest : List Entry) × (row ≡ front ++ x ∷ rest)
met_at row front x h = (h.rest, h.is ∙ append_assoc front (x ∷ []) h.rest)

none_meets : (row front : List Entry) (x p : Entry) (ps : List Entry) → BeginsWith row (front ++ x ∷ []) → NoneStands row (p ∷ ps) → p.token ≡ x.token → ⊥
none_meets row front x p ps begins none same =
    let at = met_at row front x begins in
    let here : get_or row (length front) x ≡ x = ap (λ (l : List Entry). get_or l (length front) x) at.1 ∙ get_or_at front x at.0 x (length front) refl in
    let size = ap length at.1 ∙ length-append front (x ∷ at.0) in
    let lt : length front < length row = omega (arith, size) in
    All-head (λ (y : Entry). x.token ≢ y.token) p ps (subst (λ (z : Entry). All (λ (y : Entry). z.token ≢ y.token) (p ∷ ps)) here (none (length front) x lt)) (sym same)

stands_first : (row front : List Entry) (x p : Entry) (ps : List Entry) → BeginsWith row (front ++ x ∷ []) → StandsOnce row (length front) (p ∷ ps) → p.token ≡ x.token
stands_first row front x p ps begins stands =
    let at = met_at row front x begins in
    let behind : drop (length front) row ≡ x ∷ at.0 = ap (drop (length front)) at.1 ∙ drop_at front (x ∷ at.0) (length front) refl in
    let own : drop (length front) row ≡ p ∷ (ps ++ stands.rest) = ap (drop (length front)) stands.is ∙ drop_at stands.front (p ∷ (ps ++ stands.rest)) (length front) stands.count in
    let both : x ∷ at.0 ≡ p ∷ (ps ++ stands.rest) = sym behind ∙ own in
    let one : p ≡ x = cc in
    ap (λ (y : Entry). y.token) one

stands_by : (row front : List Entry) (x p : Entry) (ps : List Entry) → eqb p.token x.token ≡ true → BeginsWith row (front ++ x ∷ []) → IsOnceOrNever row (length front) (p ∷ ps) → StandsOnce row (length front) (p ∷ ps)
stands_by row front x p ps said begins (inl h) = h
stands_by row front x p ps said begins (inr none) = absurd (none_meets row front x p ps begins none (eqb-true p.token x.token said))

lost_by : (row front : List Entry) (x p : Entry) (ps : List Entry) → eqb p.token x.token ≡ false → BeginsWith row (front ++ x ∷ []) → IsOnceOrNever row (length front) (p ∷ ps) → NoneStands row (p ∷ ps)
lost_by row front x p ps denied begins (inl h) = absurd (eqb-false p.token x.token denied (stands_first row front x p ps begins h))
lost_by row front x p ps denied begins (inr none) = none

pub tells : (r : Replica) (put : List Entry) (x d : Entry) (landed : Bool) → 0 < length put → landed ≡ eqb (get_or put 0 d).token x.token → TellsOf r put x landed
tells r [] x d landed l is = absurd (omega arith)
tells r (p ∷ ps) x d landed l is = record {
  stands = λ row begins whole said. stands_by row r.seen x p ps (sym is ∙ said) begins whole;
  lost = λ row begins whole denied. lost_by row r.seen x p ps (sym is ∙ denied) begins whole;
}

-- ---- what is kept of a put

pub no_put : (r : Replica) → IsPutOrNone r []
no_put r = λ l. absurd (omega arith)

pub no_put_is : (r : Replica) (put : List Entry) → put ≡ [] → IsPutOrNone r put
no_put_is r put is = subst (IsPutOrNone r) (sym is) (no_put r)

-- a put stays one while nothing more is seen, and no room is made
pub put_still : (r t : Replica) (put : List Entry) → t.plan ≡ r.plan → t.session ≡ r.session → t.seen ≡ r.seen → IsPutOrNone r put → IsPutOrNone t put
put_still r t put plan session seen h = λ l. (let g = h l in
    let state : state_of r ≡ state_of t = ap (λ (p : Planned). state_after (start p) (history_of r.seen)) (sym plan) ∙ ap (λ (x : List Entry). state_after (start t.plan) (history_of x)) (sym seen) in
    record {
      number = g.number;
      own = subst (λ (s : ℕ). All (λ (x : Entry). session_of x.token ≡ s) put) (sym session) g.own;
      each = subst (λ (s : State). AreWordsFor g.number (length s.plan.stages) s.plan.room (words_in put)) state g.each;
      rule = subst (λ (x : List Entry). FollowsRule (pairs_of x) (t.session, g.number)) (sym seen) (subst (λ (s : ℕ). FollowsRule (pairs_of r.seen) (s, g.number)) (sym session) g.rule);
      taken = subst (λ (x : List Entry). AreTaken (start t.plan) (history_of x)) (sym seen) (subst (λ (p : Planned). AreTaken (start p) (history_of r.seen)) (sym plan) g.taken);
    })

-- ---- a number that is new

pub new_rule : (s who : ℕ) (seen : List Entry) → who < 64 → All (λ (x : Entry). session_of x.token ≢ s) seen → All (λ (x : Entry). who_at x.word ≢ who) seen →
    ((k : ℕ) → k < who → Contains (numbers_in (pairs_of seen)) k) → FollowsRule (pairs_of seen) (s, who)
new_rule s who seen small others free lower = inr (inl (record {
  small = small;
  others = All-map (λ (q : ℕ × ℕ). (q.0 ≢ s) × (q.1 ≢ who)) pair_of seen (λ k d l. (others k d l, free k d l));
  lower = lower;
}))

pub late_rule : (s who : ℕ) (seen : List Entry) → All (λ (x : Entry). session_of x.token ≢ s) seen → AreAllTaken (pairs_of seen) → who ≡ shared_number s → FollowsRule (pairs_of seen) (s, who)
late_rule s who seen others all shares = inr (inr (record { others = All-map (λ (q : ℕ × ℕ). q.0 ≢ s) pair_of seen others; all = all; shares = shares }))

-- ---- what holds of a row whose put is gone

pub emptied : (r t : Replica) (put none : List Entry) (next old_places places : ℕ) → none ≡ [] → t.session ≡ r.session → t.free ≤ r.free → places ≡ old_places → HasTokens r.session put next → r.free ≤ old_places →
    HasTokens t.session none next × IsPutOrNone t none × (length none ≤ t.free) × (t.free ≤ places)
emptied r t put none next old_places places is session less same tokens fits =
    let P : Entry → Type 0 = λ (x : Entry). (session_of x.token ≡ t.session) × (x.token < next) in (
      subst (λ (s : ℕ). HasTokens s none next) (sym session) (record {
        small = tokens.small;
        first = tokens.first;
        last = tokens.last;
        each = subst (All (λ (x : Entry). (session_of x.token ≡ r.session) × (x.token < next))) (sym is) (All-nil (λ (x : Entry). (session_of x.token ≡ r.session) × (x.token < next)));
      }),
      no_put_is t none is,
      subst (λ (l : List Entry). length l ≤ t.free) (sym is) (omega arith),
      omega (arith, less, same, fits),
    )

-- memory is found, or not: the put is the same
pub same_put : {E : Type 0} (r : Result (Unit {0}) E) (old new : Row) (more : ℕ) → OnOk r (new ≡ (record old { replica = with_memory old.replica more })) → OnErr r (new ≡ old) → new.put ≡ old.put
same_put (Ok u) old new more found refused = ap (λ (r : Row). r.put) found
same_put (Err e) old new more found refused = ap (λ (r : Row). r.put) refused

-- ---- and once one is planned

pub put_planned : (old now : Row) (put : List Entry) (words : List ℕ) → now ≡ (record old { replica = with_memory old.replica (length words) }) → MayPut old.replica old.next words → HasTokens old.replica.session old.put old.next → put ≡ stamped now.next words →
    HasTokens now.replica.session put (now.next + length words) × IsPutOrNone now.replica put × (length put ≤ now.replica.free)
put_planned old now put words is may tokens stamps =
    let next : now.next ≡ old.next = ap (λ (r : Row). r.next) is in
    let session : now.replica.session ≡ old.replica.session = ap (λ (r : Row). r.replica.session) is in
    let free : now.replica.free ≡ max old.replica.free (length words) = ap (λ (r : Row). r.replica.free) is in
    let at : put ≡ stamped old.next words = stamps ∙ ap (λ (n : ℕ). stamped n words) next in
    let all = planned old.replica.session old.next words put old.put tokens may.tokens at in
    let count = ap (λ (l : List Entry). length l) at ∙ stamped_count old.next words in
    let same : words_in put ≡ words = ap words_in at ∙ stamped_words old.next words in
    let own : All (λ (x : Entry). session_of x.token ≡ old.replica.session) put = (λ k d l. (all.each k d l).0) in
    let is_put : IsPutOf old.replica put = record {
      number = may.number;
      own = own;
      each = subst (λ (ws : List ℕ). AreWordsBehind old.replica may.number ws) (sym same) may.each;
      rule = may.rule;
      taken = may.taken;
    } in (
      subst (λ (n : ℕ). HasTokens now.replica.session put (n + length words)) (sym next) (subst (λ (s : ℕ). HasTokens s put (old.next + length words)) (sym session) all),
      put_still old.replica now.replica put (ap (λ (r : Row). r.replica.plan) is) session (ap (λ (r : Row). r.replica.seen) is) (λ l. is_put),
      (let most = most_right old.replica.free (length words) in omega (arith, count, free, most)),
    )
  where
    most_right : (a b : ℕ) → b ≤ max a b
    most_right a b = omega arith
