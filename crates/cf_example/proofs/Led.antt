-- Processes that are led over a store.
use Rattle.std.proofs.Common.{◌≡◌, ◌≢◌, ℕ, Some, None, List, [], ◌∷◌, ◌++◌, All, true, ◌<◌, get_or, set, refl, ap, sym, ◌∙◌, subst, length, map, append-nil}
use Rattle.std.specs.Prelude.{Err, Ok, OnErr, OnOk, Result}
use Rattle.std.proofs.Math.Seq.{map-set_same}
use Rattle.std.proofs.lemmas.List.{map_push}
use Rattle.std.proofs.lemmas.List.Elements.{All-cons, All-get_or, All-head, All-nil, All-push, All-set, All-tail}
use Rattle.cf_forms.specs.Plans.{Planned}
use Rattle.cf_row.specs.declared.entry.Entry.{Entry}
use Rattle.cf_row.specs.Rows.{BeginsWith}
use Rattle.cf_part.specs.declared.question.Question.{Question}
use Rattle.cf_part.specs.Parts.{Part, seen_by}
use Rattle.cf_part.specs.Rows.{IsApart}
use Rattle.cf_turn.specs.Works.{Work}
use Rattle.cf_host.specs.declared.order.Order.{Order}
use Rattle.cf_host.specs.declared.order.Order.TheVariants.{Beats, News as LooksFor, Open, Row, Call, Stop, Show, Tell, Sleep}
use Rattle.cf_host.specs.Hosts.{Host, IsShownPart, new_host}
use Rattle.cf_host.specs.Keeping.{AsksBehindSeen, IsAskedFor, place_in}
use Rattle.cf_host.specs.Laws.{ComesTo, IsCall, called_in, calls_of}
use Rattle.cf_host.specs.Laws.IsCall.{turns}
use Rattle.cf_host.specs.Processes.{AllCallOnce, AreOfOneEach, IsProcess, KnowsTruly, Process, called_by_all as called_by_processes}
use Rattle.cf_example.specs.Processes.{AreLed, GoesOn, Grows, HasPut, HasSeen, IsAsked, IsLed, Leads, Stored, Turns, called_by_all, session_of}
use Rattle.cf_example.specs.declared.processes.Worker.{Worker}
use Rattle.cf_example.proofs.Told.{knows_on, new_knows, one_work, orders_know}
use Rattle.cf_example.proofs.TwoSessions.{begins_itself, begins_longer}
use Rattle.cf_example.proofs.WholeRows.{seen_is}

-- ---- one call

-- a call that orders nothing
led_by : (s : Stored) (w v : Worker) → v.session ≡ w.session → v.called.items ≡ w.called.items → IsCall w.host None v.host → (KnowsTruly s.number s.plan s.row w.host → KnowsTruly s.number s.plan s.row v.host) → IsLed s w → IsLed s v
led_by s w v session called call knows l = record {
  outs = None ∷ l.outs;
  comes = (w.host, subst (λ (n : ℕ). ComesTo n l.outs w.host) (sym session) l.comes, call);
  called = called ∙ l.called ∙ sym (append-nil (calls_of s.number l.outs));
  knows = knows l.knows;
}

-- one that is refused
led_same : (s : Stored) (w v : Worker) → v.session ≡ w.session → v.called.items ≡ w.called.items → v.host ≡ w.host → IsLed s w → IsLed s v
led_same s w v session called host l = record {
  outs = l.outs;
  comes = subst (λ (h : Host). ComesTo v.session l.outs h) (sym host) (subst (λ (n : ℕ). ComesTo n l.outs w.host) (sym session) l.comes);
  called = called ∙ l.called;
  knows = subst (KnowsTruly s.number s.plan s.row) (sym host) l.knows;
}

pub either_led : {A E : Type 0} (s : Stored) (w v : Worker) (r : Result A E) (P : Type 0) → v.session ≡ w.session → v.called.items ≡ w.called.items → OnOk r P → OnErr r (v.host ≡ w.host) → (P → IsCall w.host None v.host) →
    (P → KnowsTruly s.number s.plan s.row w.host → KnowsTruly s.number s.plan s.row v.host) → IsLed s w → IsLed s v
either_led s w v (Ok a) P session called done same call knows l = led_by s w v session called (call done) (knows done) l
either_led s w v (Err e) P session called done same call knows l = led_same s w v session called same l

pub either_goes : {A E : Type 0} (w v : Worker) (r : Result A E) (P : Type 0) → v.session ≡ w.session → v.called.items ≡ w.called.items → OnOk r P → OnErr r (v.host ≡ w.host) → (P → IsCall w.host None v.host) →
    (P → (s : Stored) → KnowsTruly s.number s.plan s.row w.host → KnowsTruly s.number s.plan s.row v.host) → GoesOn w v
either_goes w v r P session called done same call knows = record { session = session; led = λ s l. either_led s w v r P session called done same call (λ p. knows p s) l }

-- a turn
pub turned_led : (s : Stored) (now : ℕ) (order : Order) (w v : Worker) → Turns s.number now order w v → IsLed s w → IsLed s v
turned_led s now order w v t l = record {
  outs = Some order ∷ l.outs;
  comes = (w.host, subst (λ (n : ℕ). ComesTo n l.outs w.host) (sym t.session) l.comes, turns now order refl t.orders);
  called = t.called ∙ ap (λ (xs : List ℕ). xs ++ called_in s.number (Some order)) l.called;
  knows = orders_know s.number s.plan s.row w.host now order v.host t.orders l.knows;
}

pub asked_so : AsksBehindSeen → (s : Stored) (now : ℕ) (order : Order) (w v : Worker) → Turns s.number now order w v → IsLed s w → IsAsked order v.host
asked_so law s now (Beats number) w v t l = tt
asked_so law s now (LooksFor number look) w v t l = tt
asked_so law s now (Open number request) w v t l = tt
asked_so law s now (Sleep until) w v t l = tt
asked_so law s now (Row number request q) w v t l = law w.session l.outs w.host v.host now request number q l.comes t.orders
asked_so law s now (Call number request i function args) w v t l = tt
asked_so law s now (Stop number) w v t l = tt
asked_so law s now (Show request i shown) w v t l = tt
asked_so law s now (Tell number told) w v t l = tt

pub has_seen : (h : Host) (request number : ℕ) (q : Question) (place : ℕ) → IsAskedFor h request number q → place_in q ≡ place → HasSeen request place h
has_seen h request number q place a same w is = ap (λ (x : Work). seen_by x.part) (one_work h request w a.work is a.is) ∙ sym a.place ∙ same

-- ---- a row that grows

pub grows_not : (s : Stored) → Grows s s
grows_not s = record { number = refl; plan = refl; row = begins_itself s.row }

pub grows_on : (s t u : Stored) → Grows s t → Grows t u → Grows s u
grows_on s t u g h = record { number = h.number ∙ g.number; plan = h.plan ∙ g.plan; row = begins_longer s.row t.row u.row g.row h.row }

pub led_on : (s t : Stored) (w : Worker) → Grows s t → IsLed s w → IsLed t w
led_on s t w g l = record {
  outs = l.outs;
  comes = l.comes;
  called = l.called ∙ ap (λ (n : ℕ). calls_of n l.outs) (sym g.number);
  knows = subst (λ (n : ℕ). KnowsTruly n t.plan t.row w.host) (sym g.number)
      (subst (λ (p : Planned). KnowsTruly s.number p t.row w.host) (sym g.plan) (knows_on s.number s.plan s.row t.row w.host g.row l.knows));
}

pub goes_leads : (s : Stored) (w v : Worker) → GoesOn w v → IsLed s w → Leads s w s v
goes_leads s w v g l = record { grows = grows_not s; session = g.session; led = g.led s l }

pub stays_leads : (s : Stored) (w : Worker) → IsLed s w → Leads s w s w
stays_leads s w l = record { grows = grows_not s; session = refl; led = l }

pub turn_leads : {A E : Type 0} (r : Result A E) (s t : Stored) (w v u : Worker) → v.session ≡ w.session → OnOk r (Leads s v t u) → OnOk r (Leads s w t u)
turn_leads (Ok a) s t w v u session h = record { grows = h.grows; session = h.session ∙ session; led = h.led }
turn_leads (Err e) s t w v u session h = tt

-- a put that stands, stands behind all that was seen
pub has_put : (s : Stored) (row : List Entry) (h : Host) (part : Part) (place : ℕ) → IsShownPart h s.number part → HasSeen s.number place h → KnowsTruly s.number s.plan s.row h → place ≡ length s.row → row ≡ s.row ++ part.row.put →
    HasPut (record s { row = row }) h
has_put s row h part place shown seen knows whole is w at =
    let v = shown.is.0 in
    let one : w ≡ v = one_work h s.number w v at (record { place = shown.place; at = shown.at; is = shown.is.1 }) in
    let same : w.part ≡ part = ap (λ (x : Work). x.part) one ∙ shown.is.2 in
    let size : length part.row.replica.seen ≡ length s.row = ap (λ (p : Part). seen_by p) (sym same) ∙ seen w at ∙ whole in
    let all : part.row.replica.seen ≡ s.row = seen_is s.row part.row.replica.seen (knows part shown).true_seen size in
    let there : row ≡ part.row.replica.seen ++ part.row.put = is ∙ ap (λ (l : List Entry). l ++ part.row.put) (sym all) in
    subst (λ (p : Part). BeginsWith row (p.row.replica.seen ++ p.row.put)) (sym same) (record { rest = []; is = there ∙ sym (append-nil (part.row.replica.seen ++ part.row.put)) })

pub put_grows : (s : Stored) (row put : List Entry) → row ≡ s.row ++ put → Grows s (record s { row = row })
put_grows s row put is = record { number = refl; plan = refl; row = record { rest = put; is = is } }

pub put_leads : (s t : Stored) (w v : Worker) (part : Part) (group : List Entry) (place : ℕ) → IsLed s w → IsShownPart w.host s.number part → HasSeen s.number place w.host → place ≡ length s.row → t ≡ (record s { row = s.row ++ group }) → group ≡ part.row.put →
    v.session ≡ w.session → ((u : Stored) → u.number ≡ t.number → HasPut u w.host → IsLed u w → IsLed u v) → Leads s w t v
put_leads s t w v part group place l shown seen whole is same session led =
    let row : List Entry = s.row ++ group in
    let there : row ≡ s.row ++ part.row.put = ap (λ (xs : List Entry). s.row ++ xs) same in
    let u : Stored = record s { row = row } in
    let grown : Grows s u = put_grows s row group refl in
    subst (λ (x : Stored). Leads s w x v) (sym is)
    (record { grows = grown; session = session; led = led u (ap (λ (x : Stored). x.number) (sym is)) (has_put s row w.host part place shown seen l.knows whole there) (led_on s u w grown l) })

pub taken_leads : (s t : Stored) (w v : Worker) → t ≡ s → Leads t w t v → Leads s w t v
taken_leads s t w v same h = subst (λ (x : Stored). Leads x w t v) same h

-- ---- all processes

pub new_led : (s : Stored) (w : Worker) (threads lease : ℕ) → w.host ≡ new_host w.session threads lease true → w.called.items ≡ [] → IsLed s w
new_led s w threads lease is none = record {
  outs = [];
  comes = (threads, lease, true, is);
  called = none;
  knows = new_knows s.number s.plan s.row w.host (ap (λ (h : Host). h.requests) is);
}

pub none_led : (s : Stored) (workers : List Worker) → workers ≡ [] → AreLed s [] workers
none_led s workers none = record { each = subst (All (IsLed s)) (sym none) (All-nil (IsLed s)); own = ap (λ (l : List Worker). map session_of l) none }

pub more_led : (s : Stored) (done : List ℕ) (next : ℕ) (workers : List Worker) (w : Worker) → AreLed s done workers → IsLed s w → w.session ≡ next → AreLed s (done ++ next ∷ []) (workers ++ w ∷ [])
more_led s done next workers w a l same = record {
  each = All-push (IsLed s) workers w a.each l;
  own = map_push session_of workers w ∙ ap (λ (xs : List ℕ). xs ++ w.session ∷ []) a.own ∙ ap (λ (n : ℕ). done ++ n ∷ []) same;
}

all_on : (s t : Stored) (workers : List Worker) → Grows s t → All (IsLed s) workers → All (IsLed t) workers
all_on s t [] g h = All-nil (IsLed t)
all_on s t (w ∷ workers) g h = All-cons (IsLed t) w workers (led_on s t w g (All-head (IsLed s) w workers h)) (all_on s t workers g (All-tail (IsLed s) w workers h))

pub one_led : (s : Stored) (sessions : List ℕ) (workers : List Worker) (i : ℕ) (w : Worker) → i < length workers → w ≡ get_or workers i w → AreLed s sessions workers → IsLed s w
one_led s sessions workers i w within is a = subst (IsLed s) (sym is) (All-get_or (IsLed s) workers i w within a.each)

pub step_led : {A E : Type 0} (r : Result A E) (s t : Stored) (sessions : List ℕ) (workers : List Worker) (i : ℕ) (w v : Worker) → w ≡ get_or workers i w → AreLed s sessions workers → OnOk r (Leads s w t v) → OnOk r (AreLed t sessions (set workers i v))
step_led (Ok done) s t sessions workers i w v is a l = record {
  each = All-set (IsLed t) workers i v l.led (all_on s t workers l.grows a.each);
  own = map-set_same session_of workers i v w (l.session ∙ ap session_of is) ∙ a.own;
}
step_led (Err e) s t sessions workers i w v is a l = tt

pub step_grows : {A E : Type 0} (r : Result A E) (s t : Stored) (w v : Worker) → OnOk r (Leads s w t v) → OnOk r (Grows s t)
step_grows (Ok done) s t w v l = l.grows
step_grows (Err e) s t w v l = tt

record HaveProcesses (s : Stored) (workers : List Worker) : Type 0 where
  processes : List Process
  are : All (IsProcess s.number s.plan s.row) processes
  called : called_by_processes s.number processes ≡ called_by_all workers
  own : map (λ (p : Process). p.session) processes ≡ map session_of workers

one_more : (s : Stored) (w : Worker) (workers : List Worker) → IsLed s w → HaveProcesses s workers → HaveProcesses s (w ∷ workers)
one_more s w workers l more =
    let p : Process = record { session = w.session; outs = l.outs; now = w.host } in
    record {
      processes = p ∷ more.processes;
      are = All-cons (IsProcess s.number s.plan s.row) p more.processes (record { comes = l.comes; knows = l.knows }) more.are;
      called = ap (λ (xs : List ℕ). xs ++ called_by_processes s.number more.processes) (sym l.called) ∙ ap (λ (xs : List ℕ). w.called.items ++ xs) more.called;
      own = ap (λ (xs : List ℕ). w.session ∷ xs) more.own;
    }

have_processes : (s : Stored) (workers : List Worker) → All (IsLed s) workers → HaveProcesses s workers
have_processes s [] h = record { processes = []; are = All-nil (IsProcess s.number s.plan s.row); called = refl; own = refl }
have_processes s (w ∷ workers) h = one_more s w workers (All-head (IsLed s) w workers h) (have_processes s workers (All-tail (IsLed s) w workers h))

abbrev Differs : ℕ → ℕ → Type 0
Differs n m = n ≢ m

abbrev IsOther : ℕ → Process → Type 0
IsOther n p = p.session ≢ n

others : (n : ℕ) (processes : List Process) → All (Differs n) (map (λ (p : Process). p.session) processes) → All (IsOther n) processes
others n [] h = All-nil (IsOther n)
others n (p ∷ processes) h =
    All-cons (IsOther n) p processes (λ same. (All-head (Differs n) p.session (map (λ (x : Process). x.session) processes) h) (sym same))
    (others n processes (All-tail (Differs n) p.session (map (λ (x : Process). x.session) processes) h))

one_each : (processes : List Process) → IsApart (map (λ (p : Process). p.session) processes) → AreOfOneEach processes
one_each [] h = tt
one_each (p ∷ processes) h = (others p.session processes h.0, one_each processes h.1)

-- NO FUNCTION IS CALLED TWICE
pub called_once : AllCallOnce → (s : Stored) (sessions : List ℕ) (workers : List Worker) → IsApart sessions → AreLed s sessions workers → IsApart (called_by_all workers)
called_once law s sessions workers apart led =
    let h = have_processes s workers led.each in
    let each : AreOfOneEach h.processes = one_each h.processes (subst IsApart (sym (h.own ∙ led.own)) apart) in
    subst IsApart h.called (law s.number s.plan s.row h.processes h.are each)
