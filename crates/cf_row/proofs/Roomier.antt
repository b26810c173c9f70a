-- A row with room for more stages.
use Rattle.std.proofs.Common.{◌≡◌, ℕ, ◌+◌, ◌-◌, ◌≤◌, List, [], ◌∷◌, length, Result, Ok, Err, Contains, ap, sym, ◌∙◌, subst, arith}
use Rattle.std.specs.Result.{OnErr, OnOk}
use Rattle.cf_model.specs.States.{State, start}
use Rattle.cf_event.specs.Decoding.{event_of}
use Rattle.cf_ledger.specs.Ledgers.{AreTaken}
use Rattle.cf_ledger.proofs.Growth.{state_more, taken_more}
use Rattle.cf_row.specs.declared.entry.Entry.{Entry}
use Rattle.cf_row.specs.declared.grants.Claim.{Claim}
use Rattle.cf_row.specs.Rows.{Replica, history_of, stages_of, state_of, with_more, words_in}
use Rattle.cf_row.specs.Grants.{granted_in}
use Rattle.cf_row.specs.Puts.{AreWordsFor, IsPutOf, IsPutOrNone, attached_by}
use Rattle.cf_row.proofs.Granted.{granted_more}

-- words that fit with some room fit with more
words_more : (who stages room more : ℕ) (words : List ℕ) → AreWordsFor who stages room words → AreWordsFor who stages (room + more) words
words_more who stages room more [] h = tt
words_more who stages room more (w ∷ words) h =
    let a = attached_by (event_of w) in
    let left = h.0.left in
    let same : room - a + more ≡ room + more - a = omega (arith, left) in (
      record { event = h.0.event; read = h.0.read; named = h.0.named; is = h.0.is; mine = h.0.mine; fits = h.0.fits; left = omega (arith, left) },
      subst (λ (n : ℕ). AreWordsFor who (stages + a) n words) same (words_more who (stages + a) (room - a) more words h.1),
    )

-- a put stays one
put_more : (r : Replica) (more : ℕ) (put : List Entry) → IsPutOf r put → IsPutOf (with_more r more) put
put_more r more put h =
    let s = state_of r in
    record {
      number = h.number;
      own = h.own;
      each = subst (λ (t : State). AreWordsFor h.number (length t.plan.stages) t.plan.room (words_in put)) (sym (state_more more (start r.plan) (history_of r.seen) h.taken))
          (words_more h.number (length s.plan.stages) s.plan.room more (words_in put) h.each);
      rule = h.rule;
      taken = taken_more more (start r.plan) (history_of r.seen) h.taken;
    }

pub put_grow : {E : Type 0} (e : Result (Unit {0}) E) (old new : Replica) (put : List Entry) (more : ℕ) → OnOk e (new ≡ with_more old more) → OnErr e (new ≡ old) → IsPutOrNone old put → IsPutOrNone new put
put_grow (Ok u) old new put more grown same h = λ some. subst (λ (r : Replica). IsPutOf r put) (sym grown) (put_more old more put (h some))
put_grow (Err e) old new put more grown same h = λ some. subst (λ (r : Replica). IsPutOf r put) (sym same) (h some)

-- the session stays, and the memory
pub session_grow : {E : Type 0} (e : Result (Unit {0}) E) (old new : Replica) (more : ℕ) → OnOk e (new ≡ with_more old more) → OnErr e (new ≡ old) → new.session ≡ old.session
session_grow (Ok u) old new more grown same = ap (λ (r : Replica). r.session) grown
session_grow (Err e) old new more grown same = ap (λ (r : Replica). r.session) same

pub free_grow : {E : Type 0} (e : Result (Unit {0}) E) (old new : Replica) (more : ℕ) → OnOk e (new ≡ with_more old more) → OnErr e (new ≡ old) → new.free ≡ old.free
free_grow (Ok u) old new more grown same = ap (λ (r : Replica). r.free) grown
free_grow (Err e) old new more grown same = ap (λ (r : Replica). r.free) same

-- ---- what was seen

-- where the graph takes it, there are as many stages as before
pub stages_more : (r : Replica) (more : ℕ) → AreTaken (start r.plan) (history_of r.seen) → stages_of (with_more r more) ≡ stages_of r
stages_more r more taken = ap (λ (s : State). length s.plan.stages) (state_more more (start r.plan) (history_of r.seen) taken)

-- and the same is granted
pub granted_roomier : (r : Replica) (more : ℕ) (c : Claim) → AreTaken (start r.plan) (history_of r.seen) → Contains (granted_in r.plan r.seen) c → Contains (granted_in (with_more r more).plan r.seen) c
granted_roomier r more c taken h = subst (λ (l : List Claim). Contains l c) (sym (granted_more more (start r.plan) r.seen (history_of r.seen) taken)) h
