-- No function is called twice.
use Rattle.std.proofs.Common.{◌≡◌, ◌≢◌, ℕ, ◌⊎◌, inl, inr, Bool, true, false, cond, eqb, Option, Some, None, List, [], ◌∷◌, ◌++◌, refl, ap, sym, ◌∙◌, subst, append-nil, arith, length, zero, suc}
use Rattle.std.specs.Prelude.{slice_get}
use Rattle.std.proofs.lemmas.Bool.Decides.{eqb_tells}
use Rattle.std.proofs.lemmas.List.{append_assoc}
use Rattle.std.proofs.lemmas.Option.{slice_get_within}
use Rattle.cf_part.specs.Rows.{CallsOnce as PartCallsOnce, IsApart}
use Rattle.cf_turn.specs.declared.turn.Turn.{Turn}
use Rattle.cf_turn.specs.declared.turn.Turn.TheVariants.{Tell as TellTurn, Show as ShowTurn, Stop as StopTurn, Call as CallTurn, Ask as AskTurn}
use Rattle.cf_turn.specs.Rows.{AreCalls as AreCallsOfWork, IsCall as IsCallOfWork, WorksArePartsCalls, all_of, called_by}
use Rattle.cf_turn.specs.Rows.IsCall.{turns as TurnsOf}
use Rattle.cf_turn.specs.Works.{Work}
use Rattle.cf_host.specs.declared.order.Order.{Order}
use Rattle.cf_host.specs.declared.order.Order.TheVariants.{Beats, News as LooksFor, Open, Row, Call, Stop, Show, Tell, Sleep}
use Rattle.cf_host.specs.declared.request.Request.{Request}
use Rattle.cf_host.specs.declared.ticket.Asked.{Asked}
use Rattle.cf_host.specs.declared.ticket.Asked.TheVariants.{Beats as OfBeats, News as OfNews, Open as OfOpen, Row as OfRow, Call as OfCall, Act as OfAct}
use Rattle.cf_host.specs.Hosts.{Host, Lacks, Loses, Orders, OrdersTurn}
use Rattle.cf_host.specs.Laws.{CallsOnce, ComesTo, IsCall, called_in, calls_of}
use Rattle.cf_host.specs.Laws.IsCall.{turns, follows, acts, ends, wants, grows, stirs, stops, opens, hears, lands, refuses, closes, beats, news, lacks, loses, finishes}
use Rattle.cf_host.specs.Requests.{NoneAt}
use Rattle.cf_host.specs.Tickets.{Tickets}
use Rattle.cf_host.proofs.Worked.{Begun, Kept, Moves, begins, goes, stays}
use Rattle.cf_host.proofs.Effects.{Anyhow, Heard, same_some}
use Rattle.cf_host.proofs.Going.{CarriesOn, CarriesWords, Does, IsElse, Still, call_kept, of_another, turned, unordered, went}

-- ---- a work

snoc : (a b c : Work) (ts : List (Option Turn)) (out : Option Turn) → AreCallsOfWork a ts b → IsCallOfWork b out c → AreCallsOfWork a (ts ++ out ∷ []) c
snoc a b c [] out is call = (c, subst (λ (x : Work). IsCallOfWork x out c) is call, refl)
snoc a b c (t ∷ ts) out (between, first, rest) call = (between, first, snoc between b c ts out rest call)

all_snoc : (ts : List (Option Turn)) (out : Option Turn) → all_of called_by (ts ++ out ∷ []) ≡ all_of called_by ts ++ called_by out
all_snoc [] out = append-nil (called_by out)
all_snoc (t ∷ ts) out = ap (λ (l : List ℕ). called_by t ++ l) (all_snoc ts out) ∙ sym (append_assoc (called_by t) (all_of called_by ts) (called_by out))

-- from how it was begun a work came to this by these calls, which told to call these stages
pub record IsWorked (session : ℕ) (calls : List ℕ) (w : Work) : Type 0 where
  pub first : Work
  pub begun : Begun session first
  pub turns : List (Option Turn)
  pub are : AreCallsOfWork first turns w
  pub told : all_of called_by turns ≡ calls

abbrev pub Worked : ℕ → List ℕ → Option Work → Type 0
Worked session calls None = calls ≡ []
Worked session calls (Some w) = IsWorked session calls w

worked_on : {session : ℕ} → (calls called : List ℕ) (w v : Work) (out : Option Turn) → IsWorked session calls w → IsCallOfWork w out v → called ≡ called_by out → IsWorked session (calls ++ called) v
worked_on calls called w v out h call told = record {
  first = h.first;
  begun = h.begun;
  turns = h.turns ++ out ∷ [];
  are = snoc h.first w v h.turns out h.are call;
  told = all_snoc h.turns out ∙ ap (λ (l : List ℕ). l ++ called_by out) h.told ∙ ap (λ (l : List ℕ). calls ++ l) (sym told);
}

-- ---- one call

abbrev no_stages : List ℕ
no_stages = []

empty : (b : Bool) → cond b no_stages no_stages ≡ no_stages
empty true = refl
empty false = refl

is_not : (n m : ℕ) → n ≢ m → eqb n m ≡ false
is_not n m differ = elim (eqb_tells n m) [
  | inl p ↦ absurd (differ p.1)
  | inr p ↦ p.0
]

is_itself : (n : ℕ) → eqb n n ≡ true
is_itself n = elim (eqb_tells n n) [
  | inl p ↦ p.0
  | inr p ↦ absurd (p.1 refl)
]

-- the stages that a turn's order calls
ordered : (now request : ℕ) (t : Turn) (order : Order) (old new : Tickets) (n : ℕ) → OrdersTurn now request t order old new → called_in n (Some order) ≡ cond (eqb request n) (called_by (Some t)) []
ordered now request (TellTurn number told) order old new n (is, rest) = ap (λ (o : Order). called_in n (Some o)) is ∙ sym (empty (eqb request n))
ordered now request (ShowTurn i shown) order old new n (is, rest) = ap (λ (o : Order). called_in n (Some o)) is ∙ sym (empty (eqb request n))
ordered now request (StopTurn i) order old new n (is, rest) = ap (λ (o : Order). called_in n (Some o)) is ∙ sym (empty (eqb request n))
ordered now request (CallTurn i function args) order old new n (number, is, rest) = ap (λ (o : Order). called_in n (Some o)) is
ordered now request (AskTurn q) order old new n (number, is, rest) = ap (λ (o : Order). called_in n (Some o)) is ∙ sym (empty (eqb request n))

none_by_else : (n : ℕ) (out : Option Order) → IsElse out → called_in n out ≡ []
none_by_else n None quiet = refl
none_by_else n (Some (Beats number)) quiet = refl
none_by_else n (Some (LooksFor number look)) quiet = refl
none_by_else n (Some (Open number request)) quiet = refl
none_by_else n (Some (Sleep until)) quiet = refl
none_by_else n (Some (Row number request q)) quiet = absurd quiet
none_by_else n (Some (Call number request i function args)) quiet = absurd quiet
none_by_else n (Some (Stop number)) quiet = absurd quiet
none_by_else n (Some (Show request i shown)) quiet = absurd quiet
none_by_else n (Some (Tell number told)) quiet = absurd quiet

none_called : {holds : ℕ → Option Work → Type 0} → (old : Host) (out : Option Order) (new : Host) (n : ℕ) → Still holds old out new n → called_in n out ≡ []
none_called old out new n (unordered quiet) = none_by_else n out quiet
none_called old out new n (of_another request t order at w v differ its is orders turn) =
    ap (λ (o : Option Order). called_in n o) is ∙ ordered at.now request t order old.tickets new.tickets n orders ∙ ap (λ (b : Bool). cond b (called_by (Some t)) []) (is_not request n differ)

its_called : (now n : ℕ) (t : Turn) (order : Order) (out : Option Order) (old new : Tickets) → out ≡ Some order → OrdersTurn now n t order old new → called_in n out ≡ called_by (Some t)
its_called now n t order out old new is orders =
    ap (λ (o : Option Order). called_in n o) is ∙ ordered now n t order old new n orders ∙ ap (λ (b : Bool). cond b (called_by (Some t)) []) (is_itself n)

-- ---- a row of calls

-- by calls that were ordered so far each work came to this
abbrev Holds : ℕ → List (Option Order) → ℕ → Option Work → Type 0
Holds session outs n work = Worked session (calls_of n outs) work

abbrev HasNone : List (Option Order) → ℕ → Type 0
HasNone outs n = calls_of n outs ≡ []

does_more : (session : ℕ) (outs : List (Option Order)) (old : Host) (out : Option Order) (new : Host) (n : ℕ) (w v : Work) → IsWorked session (calls_of n outs) w → Does (Holds session outs) old out new n w v →
    IsWorked session (calls_of n outs ++ called_in n out) v
does_more session outs old out new n w v h (turned t order at is orders turn) =
    worked_on (calls_of n outs) (called_in n out) w v (Some t) h (TurnsOf at t refl turn) (its_called at.now n t order out old.tickets new.tickets is orders)
does_more session outs old out new n w v h (went still call meant) = worked_on (calls_of n outs) (called_in n out) w v None h call (none_called old out new n still)

still_worked : (session : ℕ) (calls called : List ℕ) (work : Option Work) → called ≡ [] → Worked session calls work → Worked session (calls ++ called) work
still_worked session calls called work none h = subst (λ (l : List ℕ). Worked session l work) (sym (ap (λ (l : List ℕ). calls ++ l) none ∙ append-nil calls)) h

worked_more : (session : ℕ) (outs : List (Option Order)) (old : Host) (out : Option Order) (new : Host) (n : ℕ) (before after : Option Work) → Worked session (calls_of n outs) before →
    Moves session (Still (Holds session outs) old out new n) (Does (Holds session outs) old out new n) before after → Worked session (calls_of n outs ++ called_in n out) after
worked_more session outs old out new n before after h (stays is still) =
    still_worked session (calls_of n outs) (called_in n out) after (none_called old out new n still) (subst (Worked session (calls_of n outs)) (sym is) h)
worked_more session outs old out new n before after h (begins w was is begun still) =
    let none : calls_of n outs ≡ [] = subst (Worked session (calls_of n outs)) was h in
    let all : calls_of n outs ++ called_in n out ≡ [] = ap (λ (l : List ℕ). l ++ called_in n out) none ∙ none_called old out new n still in
    subst (Worked session (calls_of n outs ++ called_in n out)) (sym is) (record { first = w; begun = begun; turns = []; are = refl; told = sym all })
worked_more session outs old out new n before after h (goes w v was is does) =
    subst (Worked session (calls_of n outs ++ called_in n out)) (sym is) (does_more session outs old out new n w v (subst (Worked session (calls_of n outs)) was h) does)

carries : (session : ℕ) (outs : List (Option Order)) (old : Host) (out : Option Order) (new : Host) → CarriesOn session old out new (Holds session outs) (HasNone outs) (Holds session (out ∷ outs)) (HasNone (out ∷ outs))
carries session outs old out new =
    let none : (n : ℕ) → calls_of n outs ≡ [] → Still (Holds session outs) old out new n → calls_of n outs ++ called_in n out ≡ [] =
    λ n absent still. ap (λ (l : List ℕ). l ++ called_in n out) absent ∙ none_called old out new n still in
    record { moves = λ n before after h m. worked_more session outs old out new n before after h m; begun = none; missing = none }

heard_more : (session : ℕ) (calls : List ℕ) (n : ℕ) (before after : Option Work) → Worked session calls before → Moves session (Anyhow n) (Heard n) before after → Worked session calls after
heard_more session calls n before after h (stays is still) = subst (Worked session calls) (sym is) h
heard_more session calls n before after h (begins w was is begun still) =
    let none : calls ≡ [] = subst (Worked session calls) was h in
    subst (Worked session calls) (sym is) (record { first = w; begun = begun; turns = []; are = refl; told = sym none })
heard_more session calls n before after h (goes w v was is heard) =
    subst (Worked session calls) (sym is) (subst (λ (l : List ℕ). IsWorked session l v) (append-nil calls) (worked_on calls [] w v None (subst (Worked session calls) was h) heard.call refl))

words : (session : ℕ) (outs : List (Option Order)) → CarriesWords session (Holds session outs) (HasNone outs)
words session outs = record { moves = λ n before after h m. heard_more session (calls_of n outs) n before after h m; begun = λ n absent still. absent; missing = λ n absent still. absent }

abbrev no_requests : List Request
no_requests = []

no_place : (i : ℕ) (r : Request) → slice_get no_requests i ≡ Some r → ⊥
no_place i r at = let low = slice_get_within no_requests i r at in omega (arith, low)

none_in : (n : ℕ) (x : Request) (xs : List Request) → x.number ≢ n → NoneAt n (length xs) xs → NoneAt n (length (x ∷ xs)) (x ∷ xs)
none_in n x xs other none zero r low at = let is : x ≡ r = same_some x r at in subst (λ (y : Request). y.number ≢ n) is other
none_in n x xs other none (suc k) r low at = none k r (omega (arith, low)) at

-- no request is there yet
pub none_yet : {holds : ℕ → Option Work → Type 0} {absent : ℕ → Type 0} → ((n : ℕ) → absent n) → Kept holds absent []
none_yet none = record { apart = λ i j r s at bt e. absurd (no_place i r at); each = λ place r at. absurd (no_place place r at); none = λ n h. none n }

-- the session stays
orders_session : (old : Host) (now : ℕ) (order : Order) (new : Host) → Orders old now order new → new.session ≡ old.session
orders_session old now (Beats number) new o = ap (λ (h : Host). h.session) o.rest
orders_session old now (LooksFor number look) new o = ap (λ (h : Host). h.session) o.rest
orders_session old now (Open number request) new o = ap (λ (h : Host). h.session) o.rest
orders_session old now (Sleep until) new o = ap (λ (h : Host). h.session) o.rest
orders_session old now (Row number request q) new o = ap (λ (h : Host). h.session) o.rest
orders_session old now (Call number request i function args) new o = ap (λ (h : Host). h.session) o.rest
orders_session old now (Stop number) new o = ap (λ (h : Host). h.session) o.rest
orders_session old now (Show request i shown) new o = ap (λ (h : Host). h.session) o.rest
orders_session old now (Tell number told) new o = ap (λ (h : Host). h.session) o.rest

lacks_session : (of : Asked) (old : Host) (now number : ℕ) (new : Host) → Lacks of old now number new → new.session ≡ old.session
lacks_session OfBeats old now number new l = ap (λ (h : Host). h.session) l.rest
lacks_session OfNews old now number new l = ap (λ (h : Host). h.session) l.rest
lacks_session (OfOpen request) old now number new l = ap (λ (h : Host). h.session) l.rest
lacks_session (OfRow request) old now number new l = ap (λ (h : Host). h.session) l.rest
lacks_session (OfCall request stage) old now number new l = absurd l
lacks_session (OfAct request) old now number new l = absurd l

loses_session : (of : Asked) (old : Host) (number : ℕ) (new : Host) → Loses of old number new → new.session ≡ old.session
loses_session OfBeats old number new l = absurd l
loses_session OfNews old number new l = absurd l
loses_session (OfOpen request) old number new l = ap (λ (h : Host). h.session) l.rest
loses_session (OfRow request) old number new l = ap (λ (h : Host). h.session) l.rest
loses_session (OfCall request stage) old number new l = absurd l
loses_session (OfAct request) old number new l = absurd l

call_session : (old : Host) (out : Option Order) (new : Host) → IsCall old out new → new.session ≡ old.session
call_session old out new (turns now order is o) = orders_session old now order new o
call_session old out new (follows request is f) = ap (λ (h : Host). h.session) f.rest
call_session old out new (acts now request number until act is a) = ap (λ (h : Host). h.session) a.rest
call_session old out new (ends now request number until is a) = ap (λ (h : Host). h.session) a.rest
call_session old out new (wants request stage is_wanted is a) = ap (λ (h : Host). h.session) a.rest
call_session old out new (grows request more is a) = ap (λ (h : Host). h.session) a.rest
call_session old out new (stirs due is e) = ap (λ (h : Host). h.session) e
call_session old out new (stops is e) = ap (λ (h : Host). h.session) e
call_session old out new (opens plan notes room number is_flow is a) = ap (λ (h : Host). h.session) a.rest
call_session old out new (hears now number entries notes is a) = ap (λ (h : Host). h.session) a.rest ∙ ap (λ (h : Host). h.session) a.hears.answers.rest
call_session old out new (lands number is a) = ap (λ (h : Host). h.session) a.rest
call_session old out new (refuses now number is a) = ap (λ (h : Host). h.session) a.rest
call_session old out new (closes number is_closed is a) = ap (λ (h : Host). h.session) a.rest
call_session old out new (beats now number clock beats' is b) = ap (λ (h : Host). h.session) b.rest
call_session old out new (news now number mark lengths is b) = ap (λ (h : Host). h.session) b.rest
call_session old out new (lacks now number is b) = lacks_session b.ticket.of old now number new b.lacks
call_session old out new (loses number is b) = loses_session b.ticket.of old number new b.loses
call_session old out new (finishes number answer is b) = ap (λ (h : Host). h.session) b.ends.rest

pub same_sessions : (session : ℕ) (outs : List (Option Order)) (h : Host) → ComesTo session outs h → h.session ≡ session
same_sessions session [] h (threads, lease, takes_all, is) = ap (λ (x : Host). x.session) is
same_sessions session (out ∷ outs) h (before, comes, call) = call_session before out h call ∙ same_sessions session outs before comes

pub kept_all : (session : ℕ) (outs : List (Option Order)) (h : Host) → ComesTo session outs h → Kept (Holds session outs) (HasNone outs) h.requests
kept_all session [] h (threads, lease, takes_all, is) =
    subst (Kept (Holds session []) (HasNone [])) (sym (ap (λ (x : Host). x.requests) is)) (none_yet (λ n. refl))
kept_all session (out ∷ outs) h (before, comes, call) =
    call_kept before out h (same_sessions session outs before comes) (carries session outs before out h) (words session outs) (kept_all session outs before comes) call

pub find : (n : ℕ) (requests : List Request) → ((place : ℕ) × (r : Request) × (slice_get requests place ≡ Some r) × (r.number ≡ n)) ⊎ NoneAt n (length requests) requests
find n [] = inr (λ k r low at. absurd (omega (arith, low)))
find n (x ∷ xs) = elim (eqb_tells x.number n) [
  | inl p ↦ inl (0, x, refl, p.1)
  | inr p ↦ elim (find n xs) [
    | inl f ↦ inl (suc f.0, f.1, f.2, f.3)
    | inr none ↦ inr (none_in n x xs p.1 none)
  ]
]

once_in : WorksArePartsCalls → PartCallsOnce → (session : ℕ) (calls : List ℕ) (work : Option Work) → Worked session calls work → IsApart calls
once_in parts once session calls None is = subst IsApart (sym is) tt
once_in parts once session calls (Some w) h =
    let p = parts h.first w h.turns h.are in
    subst IsApart (p.calls ∙ h.told) (once h.first.part w.part p.parts p.are).apart

pub calls_once : WorksArePartsCalls → PartCallsOnce → CallsOnce
calls_once parts once session number outs h comes =
    let k = kept_all session outs h comes in
    elim (find number h.requests) [
      | inl f ↦ subst (λ (n : ℕ). IsApart (calls_of n outs)) f.3 (once_in parts once session (calls_of f.1.number outs) f.1.work (k.each f.0 f.1 f.2))
      | inr none ↦ subst IsApart (sym (k.none number none)) tt
    ]
