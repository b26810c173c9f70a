-- A session's own entries of a row, and its records of them.
use Rattle.std.proofs.Common.{◌≡◌, ℕ, suc, ◌+◌, ◌-◌, ◌<◌, ◌≤◌, Bool, true, false, cond, eqb, List, [], ◌∷◌, ◌++◌, length, map, take, All, refl, ap, sym, ◌∙◌, subst, append-nil, length-append, arith}
use Rattle.std.specs.Prelude.{Option, Some, None}
use Rattle.std.proofs.lemmas.List.{length-map, map_push, map-append, take_at}
use Rattle.std.proofs.Math.Seq.{take-append_seam}
use Rattle.std.proofs.lemmas.List.Elements.{All-nil, All-cons, All-head, All-tail, All-push}
use Rattle.cf_outcome.specs.declared.outcome.Outcome.{Outcome}
use Rattle.cf_forms.specs.Plans.{Planned}
use Rattle.cf_model.specs.declared.asks.Ask.TheVariants.{Outcome as AsksOutcome}
use Rattle.cf_model.specs.declared.asks.Told.TheVariants.{Outcome as ToldOutcome}
use Rattle.cf_model.specs.declared.asks.Ask.{Ask}
use Rattle.cf_model.specs.declared.asks.Told.{Told}
use Rattle.cf_model.specs.declared.events.Event.{Event}
use Rattle.cf_model.specs.declared.events.Reply.{Reply}
use Rattle.cf_model.specs.States.{State, outcome_at, start}
use Rattle.cf_model.specs.Events.{answered, state_after, state_at, told}
use Rattle.cf_model.specs.Ranges.{AskFits}
use Rattle.cf_event.specs.declared.record.Record.{Record}
use Rattle.cf_event.specs.declared.record.Record.TheVariants.{Did, Saw}
use Rattle.cf_event.specs.Words.{word_of}
use Rattle.cf_event.specs.Decoding.{decoded, decoded_with, event_of}
use Rattle.cf_event.specs.Histories.{InOrder, IsAnswered, dids}
use Rattle.cf_event.proofs.Histories.{at_still, take_all}
use Rattle.cf_ledger.specs.Ledgers.{AreTaken, Does, IsTaken, Ledger}
use Rattle.cf_ledger.proofs.Words.{decoded_push, taken_push}
use Rattle.cf_row.specs.declared.entry.Entry.{Entry}
use Rattle.cf_row.specs.Rows.{BeginsWith, FitsUpTo, IsKept, history_of, own_from, own_in, session_of, words_in}

-- ---- records, of which those of cf_event are private there

dids_append : (rs qs : List Record) → dids (rs ++ qs) ≡ dids rs ++ dids qs
dids_append [] qs = refl
dids_append (Did place e reply ∷ rs) qs = ap (λ l. (place, e) ∷ l) (dids_append rs qs)
dids_append (Saw place ask answer ∷ rs) qs = dids_append rs qs

answered_still : (plan : Planned) (xs ys : List Event) (r : Record) → IsAnswered plan xs r → IsAnswered plan (xs ++ ys) r
answered_still plan xs ys (Did place e reply) h =
    (h.0, (let l = h.1 in omega (arith, length-append xs ys)), h.2 ∙ ap (λ (s : State). (answered s e).0) (at_still plan xs ys (place - 1) (let l = h.1 in omega arith)))
answered_still plan xs ys (Saw place ask answer) h =
    let same = at_still plan xs ys place h.0 in
    ((let l = h.0 in omega (arith, length-append xs ys)), h.1 ∙ ap (λ (s : State). told s ask) same, subst (λ (s : State). AskFits (length s.plan.stages) ask) same h.2)

all_still : (plan : Planned) (xs ys : List Event) (rs : List Record) → All (IsAnswered plan xs) rs → All (IsAnswered plan (xs ++ ys)) rs
all_still plan xs ys [] h = All-nil (IsAnswered plan (xs ++ ys))
all_still plan xs ys (r ∷ rs) h = All-cons (IsAnswered plan (xs ++ ys)) r rs (answered_still plan xs ys r (All-head (IsAnswered plan xs) r rs h)) (all_still plan xs ys rs (All-tail (IsAnswered plan xs) r rs h))

did_ordered : (plan : Planned) (history : List Event) (last : ℕ) (rs : List Record) (place : ℕ) (e : Event) (reply : Reply) → last ≤ length history → length history < place → All (IsAnswered plan history) rs → InOrder last rs → InOrder last (rs ++ Did place e reply ∷ [])
did_ordered plan history last [] place e reply le lt h o = (omega arith, tt)
did_ordered plan history last (Did p d r ∷ rs) place e reply le lt h o =
    (o.0, did_ordered plan history p rs place e reply (All-head (IsAnswered plan history) (Did p d r) rs h).1 lt (All-tail (IsAnswered plan history) (Did p d r) rs h) o.1)
did_ordered plan history last (Saw p a t ∷ rs) place e reply le lt h o =
    (o.0, did_ordered plan history p rs place e reply (All-head (IsAnswered plan history) (Saw p a t) rs h).0 lt (All-tail (IsAnswered plan history) (Saw p a t) rs h) o.1)

saw_ordered : (plan : Planned) (history : List Event) (last : ℕ) (rs : List Record) (place : ℕ) (ask : Ask) (answer : Told) → last ≤ length history → length history ≤ place → All (IsAnswered plan history) rs → InOrder last rs → InOrder last (rs ++ Saw place ask answer ∷ [])
saw_ordered plan history last [] place ask answer le lt h o = (omega arith, tt)
saw_ordered plan history last (Did p d r ∷ rs) place ask answer le lt h o =
    (o.0, saw_ordered plan history p rs place ask answer (All-head (IsAnswered plan history) (Did p d r) rs h).1 lt (All-tail (IsAnswered plan history) (Did p d r) rs h) o.1)
saw_ordered plan history last (Saw p a t ∷ rs) place ask answer le lt h o =
    (o.0, saw_ordered plan history p rs place ask answer (All-head (IsAnswered plan history) (Saw p a t) rs h).0 lt (All-tail (IsAnswered plan history) (Saw p a t) rs h) o.1)

-- ---- a row's history

pub history_push : (row : List Entry) (x : Entry) (e : Event) → words_in row ≡ map word_of (history_of row) → event_of x.word ≡ Some e → history_of (row ++ x ∷ []) ≡ history_of row ++ e ∷ []
history_push row x e named read = ap decoded (map_push (λ (y : Entry). y.word) row x) ∙ decoded_push (words_in row) x.word e named read

pub history_count : (row : List Entry) → words_in row ≡ map word_of (history_of row) → length (history_of row) ≡ length row
history_count row named = sym (length-map (history_of row) word_of) ∙ ap length (sym named) ∙ length-map row (λ (y : Entry). y.word)

-- words that are all read keep their events when others are written behind them
append_with : (o : Option Event) (w : ℕ) (ws vs : List ℕ) → w ∷ ws ≡ map word_of (decoded_with o (decoded ws)) → (ws ≡ map word_of (decoded ws) → decoded (ws ++ vs) ≡ decoded ws ++ decoded vs) →
    decoded_with o (decoded (ws ++ vs)) ≡ decoded_with o (decoded ws) ++ decoded vs
append_with None w ws vs all next = cc
append_with (Some d) w ws vs all next = ap (λ (rest : List Event). d ∷ rest) (next cc)

decoded_append : (ws vs : List ℕ) → ws ≡ map word_of (decoded ws) → decoded (ws ++ vs) ≡ decoded ws ++ decoded vs
decoded_append [] vs all = refl
decoded_append (w ∷ ws) vs all = append_with (event_of w) w ws vs all (λ rest. decoded_append ws vs rest)

pub history_append : (row rest : List Entry) → words_in row ≡ map word_of (history_of row) → history_of (row ++ rest) ≡ history_of row ++ history_of rest
history_append row rest named = ap decoded (map-append (λ (y : Entry). y.word) row rest) ∙ decoded_append (words_in row) (words_in rest) named

-- ---- a session's own entries

own_step : {A : Type 0} (b : Bool) (p : A) (xs ys more : List A) → xs ≡ ys ++ more → cond b (p ∷ xs) xs ≡ cond b (p ∷ ys) ys ++ more
own_step true p xs ys more h = ap (λ l. p ∷ l) h
own_step false p xs ys more h = h

own_push : (s n : ℕ) (row : List Entry) (events : List Event) (x : Entry) (e : Event) → length row ≡ length events →
    own_from s n (row ++ x ∷ []) (events ++ e ∷ []) ≡ own_from s n row events ++ cond (eqb (session_of x.token) s) ((n + length row + 1, e) ∷ []) []
own_push s n [] [] x e same = ap (λ (m : ℕ). cond (eqb (session_of x.token) s) ((m, e) ∷ []) []) (let h : suc n ≡ n + 0 + 1 = omega arith in h)
own_push s n [] (d ∷ events) x e same = absurd (omega arith)
own_push s n (y ∷ row) [] x e same = absurd (omega arith)
own_push s n (y ∷ row) (d ∷ events) x e same =
    own_step (eqb (session_of y.token) s) (suc n, d) (own_from s (suc n) (row ++ x ∷ []) (events ++ e ∷ [])) (own_from s (suc n) row events) (cond (eqb (session_of x.token) s) ((n + suc (length row) + 1, e) ∷ []) [])
    (own_push s (suc n) row events x e (omega arith) ∙ ap (λ (m : ℕ). own_from s (suc n) row events ++ cond (eqb (session_of x.token) s) ((m, e) ∷ []) []) (let h : suc n + length row + 1 ≡ n + suc (length row) + 1 = omega arith in h))

own_in_push : (s : ℕ) (row : List Entry) (x : Entry) (e : Event) → words_in row ≡ map word_of (history_of row) → event_of x.word ≡ Some e →
    own_in s (row ++ x ∷ []) ≡ own_in s row ++ cond (eqb (session_of x.token) s) ((length row + 1, e) ∷ []) []
own_in_push s row x e named read =
    ap (own_from s 0 (row ++ x ∷ [])) (history_push row x e named read) ∙ own_push s 0 row (history_of row) x e (sym (history_count row named))
    ∙ ap (λ (m : ℕ). own_in s row ++ cond (eqb (session_of x.token) s) ((m, e) ∷ []) []) (let h : 0 + length row + 1 ≡ length row + 1 = omega arith in h)

-- ---- what is kept, once an entry is replayed

-- the record of it, if it is the session's own
dids_if : (b : Bool) (place : ℕ) (e : Event) (reply : Reply) → dids (cond b (Did place e reply ∷ []) []) ≡ cond b ((place, e) ∷ []) []
dids_if true place e reply = refl
dids_if false place e reply = refl

answers_if : (b : Bool) (plan : Planned) (history : List Event) (rs : List Record) (r : Record) → All (IsAnswered plan history) rs → IsAnswered plan history r → All (IsAnswered plan history) (rs ++ cond b (r ∷ []) [])
answers_if true plan history rs r h one = All-push (IsAnswered plan history) rs r h one
answers_if false plan history rs r h one = subst (All (IsAnswered plan history)) (sym (append-nil rs)) h

order_if : (b : Bool) (plan : Planned) (history : List Event) (rs : List Record) (place : ℕ) (e : Event) (reply : Reply) → length history < place → All (IsAnswered plan history) rs → InOrder 0 rs → InOrder 0 (rs ++ cond b (Did place e reply ∷ []) [])
order_if true plan history rs place e reply lt h o = did_ordered plan history 0 rs place e reply (omega arith) lt h o
order_if false plan history rs place e reply lt h o = subst (InOrder 0) (sym (append-nil rs)) o

pub kept_push : (old new : Ledger) (s : ℕ) (seen : List Entry) (rs : List Record) (x : Entry) (e : Event) (reply : Reply) → IsKept old s seen rs → event_of x.word ≡ Some e → Does x.word old reply new →
    IsKept new s (seen ++ x ∷ []) (rs ++ cond (eqb (session_of x.token) s) (Did (length seen + 1) e reply ∷ []) [])
kept_push old new s seen rs x e reply kept read does =
    let b = eqb (session_of x.token) s in
    let history = history_of seen in
    let pushed = history_push seen x e kept.named read in
    let count = history_count seen kept.named in
    let same : does.event ≡ e = (let h : Some does.event ≡ Some e = sym does.read ∙ read in cc) in
    let plan : new.plan ≡ old.plan = ap (λ (l : Ledger). l.plan) does.written in
    let events : new.events ≡ history ++ e ∷ [] = ap (λ (l : Ledger). l.events) does.written ∙ ap (λ (d : Event). old.events ++ d ∷ []) same ∙ ap (λ (es : List Event). es ++ e ∷ []) kept.events in
    let replied : reply ≡ (answered (state_after (start old.plan) history) e).0 =
    ap (λ p. p.0) does.told ∙ ap (λ (d : Event). (answered (state_after (start old.plan) old.events) d).0) same ∙ ap (λ (es : List Event). (answered (state_after (start old.plan) es) e).0) kept.events in
    let before : take (length seen + 1 - 1) (history ++ e ∷ []) ≡ history = ap (λ (n : ℕ). take n (history ++ e ∷ [])) (let h : length seen + 1 - 1 ≡ length history = omega (arith, count) in h) ∙ take-append_seam history (e ∷ []) in
    let one : IsAnswered old.plan (history ++ e ∷ []) (Did (length seen + 1) e reply) =
    ((omega arith), (omega (arith, length-append history (e ∷ []), count)), replied ∙ ap (λ (l : List Event). (answered (state_after (start old.plan) l) e).0) (sym before)) in
    record {
      events = events ∙ sym pushed;
      named = map_push (λ (y : Entry). y.word) seen x ∙ ap (λ (ws : List ℕ). ws ++ x.word ∷ []) kept.named ∙ ap (λ (w : ℕ). map word_of history ++ w ∷ []) (sym does.named ∙ ap word_of same)
          ∙ sym (map_push word_of history e) ∙ ap (map word_of) (sym pushed);
      own = dids_append rs (cond b (Did (length seen + 1) e reply ∷ []) []) ∙ ap (λ l. dids rs ++ l) (dids_if b (length seen + 1) e reply)
          ∙ ap (λ l. l ++ cond b ((length seen + 1, e) ∷ []) []) kept.own ∙ sym (own_in_push s seen x e kept.named read);
      answers = subst (λ (p : Planned). All (IsAnswered p (history_of (seen ++ x ∷ []))) (rs ++ cond b (Did (length seen + 1) e reply ∷ []) [])) (sym plan)
          (subst (λ (es : List Event). All (IsAnswered old.plan es) (rs ++ cond b (Did (length seen + 1) e reply ∷ []) [])) (sym pushed)
          (answers_if b old.plan (history ++ e ∷ []) rs (Did (length seen + 1) e reply) (all_still old.plan history (e ∷ []) rs kept.answers) one));
      order = order_if b old.plan history rs (length seen + 1) e reply (omega (arith, count)) kept.answers kept.order;
      taken = subst (λ (p : Planned). AreTaken (start p) (history_of (seen ++ x ∷ []))) (sym plan) (subst (AreTaken (start old.plan)) (sym pushed) (taken_push (start old.plan) history e kept.taken
          (subst (λ (d : Event). IsTaken (state_after (start old.plan) history) d) same (subst (λ (es : List Event). IsTaken (state_after (start old.plan) es) does.event) kept.events does.taken))));
    }

-- and once a question is answered
pub kept_saw : (l : Ledger) (s : ℕ) (seen : List Entry) (rs : List Record) (ask : Ask) (answer : Told) → IsKept l s seen rs → answer ≡ told (state_after (start l.plan) (history_of seen)) ask → AskFits (length (state_after (start l.plan) (history_of seen)).plan.stages) ask →
    IsKept l s seen (rs ++ Saw (length seen) ask answer ∷ [])
kept_saw l s seen rs ask answer kept is there =
    let history = history_of seen in
    let count = history_count seen kept.named in
    let now : state_after (start l.plan) history ≡ state_at l.plan history (length seen) = ap (state_after (start l.plan)) (sym (ap (λ (n : ℕ). take n history) (sym count) ∙ take_all history)) in
    record {
      events = kept.events;
      named = kept.named;
      own = dids_append rs (Saw (length seen) ask answer ∷ []) ∙ append-nil (dids rs) ∙ kept.own;
      taken = kept.taken;
      answers = All-push (IsAnswered l.plan history) rs (Saw (length seen) ask answer) kept.answers
          ((omega (arith, count)), is ∙ ap (λ (s : State). told s ask) now, subst (λ (s : State). AskFits (length s.plan.stages) ask) now there);
      order = saw_ordered l.plan history 0 rs (length seen) ask answer (omega arith) (omega (arith, count)) kept.answers kept.order;
    }

-- ---- the theorem

pub fits_row : (l : Ledger) (s : ℕ) (seen row : List Entry) (rs : List Record) → IsKept l s seen rs → BeginsWith row seen → FitsUpTo l.plan s (length seen) row rs
fits_row l s seen row rs kept begins =
    let front : take (length seen) row ≡ seen = ap (take (length seen)) begins.is ∙ take_at seen begins.rest (length seen) refl in
    let history : history_of row ≡ history_of seen ++ history_of begins.rest = ap history_of begins.is ∙ history_append seen begins.rest kept.named in
    record {
      did = kept.own ∙ ap (own_in s) (sym front);
      answers = subst (λ (es : List Event). All (IsAnswered l.plan es) rs) (sym history) (all_still l.plan (history_of seen) (history_of begins.rest) rs kept.answers);
      order = kept.order;
      taken = subst (λ (r : List Entry). AreTaken (start l.plan) (history_of r)) (sym front) kept.taken;
    }

-- ---- by what the code's steps say

pub kept_take : (old new : Ledger) (s : ℕ) (seen seen2 : List Entry) (rs rs2 : List Record) (x : Entry) (e : Event) (reply : Reply) (b : Bool) (place : ℕ) → IsKept old s seen rs → event_of x.word ≡ Some e → Does x.word old reply new →
    seen2 ≡ seen ++ x ∷ [] → rs2 ≡ rs ++ cond b (Did place e reply ∷ []) [] → b ≡ eqb (session_of x.token) s → place ≡ length seen + 1 → IsKept new s seen2 rs2
kept_take old new s seen seen2 rs rs2 x e reply b place kept read does is records own at =
    let told : rs2 ≡ rs ++ cond (eqb (session_of x.token) s) (Did (length seen + 1) e reply ∷ []) [] =
    records ∙ ap (λ (c : Bool). rs ++ cond c (Did place e reply ∷ []) []) own ∙ ap (λ (n : ℕ). rs ++ cond (eqb (session_of x.token) s) (Did n e reply ∷ []) []) at in
    subst (λ (l : List Record). IsKept new s seen2 l) (sym told) (subst (λ (l : List Entry). IsKept new s l (rs ++ cond (eqb (session_of x.token) s) (Did (length seen + 1) e reply ∷ []) [])) (sym is) (kept_push old new s seen rs x e reply kept read does))

pub kept_ask : (l l2 : Ledger) (s : ℕ) (seen : List Entry) (rs rs2 : List Record) (stage : ℕ) (o : Option Outcome) (place : ℕ) → IsKept l s seen rs → l2 ≡ l → rs2 ≡ rs ++ Saw place (AsksOutcome stage) (ToldOutcome o) ∷ [] → place ≡ length seen →
    o ≡ outcome_at (state_after (start l.plan) l.events) stage → stage < length (state_after (start l.plan) (history_of seen)).plan.stages → IsKept l2 s seen rs2
kept_ask l l2 s seen rs rs2 stage o place kept same records at is there =
    let told_so : ToldOutcome o ≡ told (state_after (start l.plan) (history_of seen)) (AsksOutcome stage) =
    ap ToldOutcome (is ∙ ap (λ (es : List Event). outcome_at (state_after (start l.plan) es) stage) kept.events) in
    subst (λ (k : Ledger). IsKept k s seen rs2) (sym same) (subst (λ (r : List Record). IsKept l s seen r) (sym (records ∙ ap (λ (n : ℕ). rs ++ Saw n (AsksOutcome stage) (ToldOutcome o) ∷ []) at))
    (kept_saw l s seen rs (AsksOutcome stage) (ToldOutcome o) kept told_so there))
