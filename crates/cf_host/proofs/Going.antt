-- What each call of a process does to each request's work.
use Rattle.std.proofs.Common.{◌≡◌, ◌≢◌, ℕ, inl, inr, true, Option, Some, None, List, refl, ap, sym, ◌∙◌, subst, set}
use Rattle.cf_notes.specs.declared.note.Note.{Note}
use Rattle.cf_row.specs.declared.entry.Entry.{Entry}
use Rattle.cf_part.specs.declared.question.Fault.TheVariants.{Dropped}
use Rattle.cf_part.specs.Parts.{opened}
use Rattle.cf_turn.specs.declared.turn.Turn.{Turn}
use Rattle.cf_turn.specs.Rows.{IsCall as IsCallOfWork}
use Rattle.cf_turn.specs.Rows.IsCall.{turns as TurnsOf, rests as RestsOf, finds as FindsOf, asks as AsksOf, ends as EndsOf, wants as WantsOf, hears as HearsOf, reads_again as ReadsAgainOf, finishes as FinishesOf, reads as ReadsOf, misreads as MisreadsOf, lands as LandsOf, meets as MeetsOf, mismeets as MismeetsOf, waits as WaitsOf, refuses as RefusesOf, closes as ClosesOf, breaks as BreaksOf, grows as GrowsOf}
use Rattle.cf_turn.specs.Turns.{Moment, Turns}
use Rattle.cf_turn.specs.Works.{Work, new_work}
use Rattle.cf_host.specs.declared.order.Order.{Order}
use Rattle.cf_host.specs.declared.order.Order.TheVariants.{Beats, News as LooksFor, Open, Row, Call, Stop, Show, Tell, Sleep}
use Rattle.cf_host.specs.declared.request.Request.{Request}
use Rattle.cf_host.specs.declared.ticket.Asked.{Asked}
use Rattle.cf_host.specs.declared.ticket.Asked.TheVariants.{Beats as OfBeats, News as OfNews, Open as OfOpen, Row as OfRow, Call as OfCall, Act as OfAct}
use Rattle.cf_host.specs.declared.ticket.Ticket.{Ticket}
use Rattle.cf_host.specs.Answering.{Breaking, Closing, Hearing, Landing, Meeting, Reading, Refusing, Waiting}
use Rattle.cf_host.specs.Answering.Hearing.{read as HearsRead, put as HearsPut}
use Rattle.cf_host.specs.Asking.{Asking, CallEnding, Ending, Growing, Wanting}
use Rattle.cf_host.specs.Hosts.{Answers, AnswersRow, Host, IsDropped, IsOpened, Lacks, Loses, OnRequest, OnRequestFor, Orders, OrdersTurn, StaysShut, WorksOn, moment_in, HearsRow}
use Rattle.cf_host.specs.Keeping.{ClosesRow}
use Rattle.cf_host.specs.Laws.{IsCall}
use Rattle.cf_host.specs.Laws.IsCall.{turns, follows, acts, ends, wants, stirs, stops, opens, hears, lands, refuses, closes, beats, news, lacks, loses, finishes, grows}
use Rattle.cf_host.specs.News.{is_whole}
use Rattle.cf_host.specs.Requests.{OnWork, told_length}
use Rattle.cf_host.specs.Tickets.{Opens, Shuts, Tickets}
use Rattle.cf_host.proofs.Worked.{Carries, Effect, Kept, Moves, begins, goes, kept_more, stays}
use Rattle.cf_host.proofs.Effects.{Anyhow, Heard, TurnDoes, follows_effect, hears_all_kept, looked_kept, rest_effect, same_effect, set_effect, turn_effect}

-- ---- what a call does

-- no work's turn is ordered
abbrev pub IsElse : Option Order → Type 0
IsElse None = Unit {0}
IsElse (Some (Beats number)) = Unit {0}
IsElse (Some (LooksFor number look)) = Unit {0}
IsElse (Some (Open number request)) = Unit {0}
IsElse (Some (Sleep until)) = Unit {0}
IsElse (Some (Row number request q)) = ⊥
IsElse (Some (Call number request i function args)) = ⊥
IsElse (Some (Stop number)) = ⊥
IsElse (Some (Show request i shown)) = ⊥
IsElse (Some (Tell number told)) = ⊥

-- no turn of this request's work is ordered: none at all, or one of another request's
pub data Still (holds : ℕ → Option Work → Type 0) (old : Host) (out : Option Order) (new : Host) (n : ℕ) : Type 0 where
  unordered : IsElse out → Still holds old out new n
  of_another : (request : ℕ) (t : Turn) (order : Order) (at : Moment) (w v : Work) → request ≢ n → holds request (Some w) → out ≡ Some order →
      OrdersTurn at.now request t order old.tickets new.tickets → Turns w at t v → Still holds old out new n

-- a user's ticket is opened
pub record OpensAct (n number : ℕ) (old new : Tickets) : Type 0 where
  pub ticket : Ticket
  pub opens : Opens ticket old new
  pub of : ticket.of ≡ OfAct n
  pub named : ticket.number ≡ number

-- what the call is to the process that is this of the work
abbrev pub IsMeant : Host → Option Order → Host → ℕ → (w v : Work) (o : Option Turn) → IsCallOfWork w o v → Type 0
IsMeant old out new n w v o (TurnsOf at t is h) = ⊥
IsMeant old out new n w v o (RestsOf at is h) = Unit {0}
IsMeant old out new n w v o (FindsOf more is h) = Unit {0}
IsMeant old out new n w v o (AsksOf number act until is h) = OpensAct n number old.tickets new.tickets
IsMeant old out new n w v o (EndsOf end is h) = OpensAct n end.number old.tickets new.tickets
IsMeant old out new n w v o (WantsOf i from is h) = OnRequest (Wanting i from) n old new
IsMeant old out new n w v o (HearsOf words is h) = Unit {0}
IsMeant old out new n w v o (ReadsAgainOf is h) = Unit {0}
IsMeant old out new n w v o (GrowsOf more is h rest) = OnRequest (Growing more) n old new
IsMeant old out new n w v o (FinishesOf i answer is running h rest) = Unit {0}
IsMeant old out new n w v o (ReadsOf entries notes is h rest) = ClosesRow n old out new
IsMeant old out new n w v o (MisreadsOf now entries notes m is h rest) = ClosesRow n old out new
IsMeant old out new n w v o (LandsOf is h) = ClosesRow n old out new
IsMeant old out new n w v o (MeetsOf entries notes landed is h) = ClosesRow n old out new
IsMeant old out new n w v o (MismeetsOf now entries notes m is h) = ClosesRow n old out new
IsMeant old out new n w v o (WaitsOf now is h) = Unit {0}
IsMeant old out new n w v o (RefusesOf now is h) = Unit {0}
IsMeant old out new n w v o (ClosesOf is_closed is h) = Unit {0}
IsMeant old out new n w v o (BreaksOf fault is h rest) = Unit {0}

-- what a call does to this request's work
pub data Does (holds : ℕ → Option Work → Type 0) (old : Host) (out : Option Order) (new : Host) (n : ℕ) (w v : Work) : Type 0 where
  turned : (t : Turn) (order : Order) (at : Moment) → out ≡ Some order → OrdersTurn at.now n t order old.tickets new.tickets → Turns w at t v → Does holds old out new n w v
  went : Still holds old out new n → (call : IsCallOfWork w None v) → IsMeant old out new n w v None call → Does holds old out new n w v

-- what holds of each request holds again behind this call
abbrev pub CarriesOn : ℕ → Host → Option Order → Host → (ℕ → Option Work → Type 0) → (ℕ → Type 0) → (ℕ → Option Work → Type 0) → (ℕ → Type 0) → Type 0
CarriesOn session old out new holds absent holds' absent' = Carries session (Still holds old out new) (Does holds old out new) holds absent holds' absent'

-- and behind words that the process hears of
abbrev pub CarriesWords : ℕ → (ℕ → Option Work → Type 0) → (ℕ → Type 0) → Type 0
CarriesWords session holds absent = Carries session Anyhow Heard holds absent holds absent

-- ---- one request

reading_does : {holds : ℕ → Option Work → Type 0} → (old : Host) (out : Option Order) (new : Host) (n now : ℕ) (entries : List Entry) (notes : List Note) (w v : Work) →
    Still holds old out new n → ClosesRow n old out new → Reading now entries notes w v → Does holds old out new n w v
reading_does old out new n now entries notes w v still row r = elim r.part [
  | inl reads ↦ went still (ReadsOf entries notes refl reads r.rest) row
  | inr m ↦ went still (MisreadsOf now entries notes m.0 refl m.1 r.rest) row
]

meeting_does : {holds : ℕ → Option Work → Type 0} → (old : Host) (out : Option Order) (new : Host) (n now : ℕ) (entries : List Entry) (notes : List Note) (w v : Work) →
    Still holds old out new n → ClosesRow n old out new → Meeting now entries notes w v → Does holds old out new n w v
meeting_does old out new n now entries notes w v still row (inl m) = went still (MeetsOf entries notes m.0 refl m.1) row
meeting_does old out new n now entries notes w v still row (inr m) = went still (MismeetsOf now entries notes m.0 refl m.1) row

hearing_does : {holds : ℕ → Option Work → Type 0} → (old : Host) (out : Option Order) (new : Host) (n now : ℕ) (entries : List Entry) (notes : List Note) (w v : Work) →
    Still holds old out new n → ClosesRow n old out new → Hearing now entries notes w v → Does holds old out new n w v
hearing_does old out new n now entries notes w v still row (HearsRead asked r) = reading_does old out new n now entries notes w v still row r
hearing_does old out new n now entries notes w v still row (HearsPut asked m) = meeting_does old out new n now entries notes w v still row m

-- a ticket of the request's row is closed
row_closed : (call : Work → Work → Type 0) (old : Host) (number : ℕ) (out : Option Order) (new : Host) → out ≡ None → (a : AnswersRow call old number new) → ClosesRow a.is.at.request.number old out new
row_closed call old number out new none a = record {
  none = none;
  number = number;
  ticket = a.is.ticket;
  is = a.is.is;
  of = a.is.named ∙ ap (λ (n : ℕ). OfRow n) (sym a.is.at.named);
  shuts = a.shuts;
}

else_none : (out : Option Order) → out ≡ None → IsElse out
else_none out is = subst IsElse (sym is) tt

-- ---- one process

answers_kept : {session : ℕ} {holds : ℕ → Option Work → Type 0} {absent : ℕ → Type 0} {holds' : ℕ → Option Work → Type 0} {absent' : ℕ → Type 0} →
    (of : ℕ → Asked) (change : Request → Request → Type 0) (old : Host) (number : ℕ) (out : Option Order) (new : Host) → CarriesOn session old out new holds absent holds' absent' → IsElse out → Kept holds absent old.requests →
    (a : Answers of change old number new) → a.after.number ≡ a.is.at.request.number →
    Moves session (Still holds old out new a.is.at.request.number) (Does holds old out new a.is.at.request.number) a.is.at.request.work a.after.work → Kept holds' absent' new.requests
answers_kept {session} {holds} {absent} {holds'} {absent'} of change old number out new c quiet k a named moves =
    let at = a.is.at in
    let effect : Effect session (Still holds old out new) (Does holds old out new) old.requests (set old.requests a.place a.after) =
    set_effect old.requests a.place at.request a.after (λ n. unordered quiet) at.is named moves in
    subst (Kept holds' absent') (sym (ap (λ (h : Host). h.requests) a.rest)) (kept_more old.requests (set old.requests a.place a.after) c k effect)

row_kept : {session : ℕ} {holds : ℕ → Option Work → Type 0} {absent : ℕ → Type 0} {holds' : ℕ → Option Work → Type 0} {absent' : ℕ → Type 0} →
    (call : Work → Work → Type 0) (of : ℕ → Asked) (old : Host) (number : ℕ) (out : Option Order) (new : Host) → CarriesOn session old out new holds absent holds' absent' → IsElse out → Kept holds absent old.requests →
    (a : Answers of (OnWork call) old number new) → ((w v : Work) → call w v → Does holds old out new a.is.at.request.number w v) → Kept holds' absent' new.requests
row_kept call of old number out new c quiet k a does =
    let o = a.changes in
    answers_kept of (OnWork call) old number out new c quiet k a (ap (λ (x : Request). x.number) o.rest)
    (goes o.before o.after o.is (ap (λ (x : Request). x.work) o.rest) (does o.before o.after o.calls))

-- the entries that stand in a row are taken, and then it is noted whether others take the session for gone
heard_kept : {session : ℕ} {holds : ℕ → Option Work → Type 0} {absent : ℕ → Type 0} {holds' : ℕ → Option Work → Type 0} {absent' : ℕ → Type 0} →
    (old : Host) (now number : ℕ) (entries : List Entry) (notes : List Note) (out : Option Order) (new : Host) → CarriesOn session old out new holds absent holds' absent' → out ≡ None → Kept holds absent old.requests →
    HearsRow now entries notes old number new → Kept holds' absent' new.requests
heard_kept {session} {holds} {absent} {holds'} {absent'} old now number entries notes out new c none k b =
    let quiet = else_none out none in
    let a = b.hears.answers in
    let at = a.is.at in
    let o = a.changes in
    let closed = row_closed (Hearing now entries notes) old number out b.heard none a in
    let row : ClosesRow at.request.number old out new = record {
      none = none;
      number = closed.number;
      ticket = closed.ticket;
      is = closed.is;
      of = closed.of;
      shuts = subst (Shuts closed.number old.tickets) (sym (ap (λ (h : Host). h.tickets) b.rest)) closed.shuts;
    } in
    let effect : Effect session (Still holds old out new) (Does holds old out new) old.requests (set old.requests a.place a.after) =
    set_effect old.requests a.place at.request a.after (λ n. unordered quiet) at.is (ap (λ (x : Request). x.number) o.rest)
    (goes o.before o.after o.is (ap (λ (x : Request). x.work) o.rest) (hearing_does old out new at.request.number now entries notes o.before o.after (unordered quiet) row o.calls)) in
    subst (Kept holds' absent') (sym (ap (λ (h : Host). h.requests) b.rest ∙ ap (λ (h : Host). h.requests) a.rest)) (kept_more old.requests (set old.requests a.place a.after) c k effect)

user_kept : {session : ℕ} {holds : ℕ → Option Work → Type 0} {absent : ℕ → Type 0} {holds' : ℕ → Option Work → Type 0} {absent' : ℕ → Type 0} →
    (call : Work → Work → Type 0) (request : ℕ) (old : Host) (out : Option Order) (new : Host) → CarriesOn session old out new holds absent holds' absent' → IsElse out → Kept holds absent old.requests →
    (o : OnRequest call request old new) → ((w v : Work) → call w v → Does holds old out new o.at.request.number w v) → Kept holds' absent' new.requests
user_kept {session} {holds} {absent} {holds'} {absent'} call request old out new c quiet k o does =
    let at = o.at in
    let p = o.calls in
    let effect : Effect session (Still holds old out new) (Does holds old out new) old.requests (set old.requests o.place o.after) =
    set_effect old.requests o.place at.request o.after (λ n. unordered quiet) at.is (ap (λ (x : Request). x.number) p.rest) (goes p.before p.after p.is (ap (λ (x : Request). x.work) p.rest) (does p.before p.after p.calls)) in
    subst (Kept holds' absent') (sym (ap (λ (h : Host). h.requests) o.rest)) (kept_more old.requests (set old.requests o.place o.after) c k effect)

act_kept : {session : ℕ} {holds : ℕ → Option Work → Type 0} {absent : ℕ → Type 0} {holds' : ℕ → Option Work → Type 0} {absent' : ℕ → Type 0} →
    (call : ℕ → Work → Work → Type 0) (request now number : ℕ) (old : Host) (out : Option Order) (new : Host) → CarriesOn session old out new holds absent holds' absent' → IsElse out → Kept holds absent old.requests →
    (o : OnRequestFor call request now number old new) → ((w v : Work) → call number w v → OpensAct o.at.request.number number old.tickets new.tickets → Does holds old out new o.at.request.number w v) → Kept holds' absent' new.requests
act_kept {session} {holds} {absent} {holds'} {absent'} call request now number old out new c quiet k o does =
    let at = o.at in
    let p = o.calls in
    let t : OpensAct at.request.number number old.tickets new.tickets =
    record { ticket = o.opens.ticket; opens = o.opens.opens; of = o.opens.is ∙ ap (λ (n : ℕ). OfAct n) (sym at.named); named = o.opens.named } in
    let effect : Effect session (Still holds old out new) (Does holds old out new) old.requests (set old.requests o.place o.after) =
    set_effect old.requests o.place at.request o.after (λ n. unordered quiet) at.is (ap (λ (x : Request). x.number) p.rest) (goes p.before p.after p.is (ap (λ (x : Request). x.work) p.rest) (does p.before p.after p.calls t)) in
    subst (Kept holds' absent') (sym (ap (λ (h : Host). h.requests) o.rest)) (kept_more old.requests (set old.requests o.place o.after) c k effect)

same_kept : {session : ℕ} {holds : ℕ → Option Work → Type 0} {absent : ℕ → Type 0} {holds' : ℕ → Option Work → Type 0} {absent' : ℕ → Type 0} →
    (old : Host) (out : Option Order) (new : Host) → CarriesOn session old out new holds absent holds' absent' → IsElse out → new.requests ≡ old.requests → Kept holds absent old.requests → Kept holds' absent' new.requests
same_kept {session} {holds} {absent} {holds'} {absent'} old out new c quiet is k =
    let effect : Effect session (Still holds old out new) (Does holds old out new) old.requests old.requests = same_effect old.requests (λ n. unordered quiet) in
    subst (Kept holds' absent') (sym is) (kept_more old.requests old.requests c k effect)

-- ---- a turn

works_kept : {session : ℕ} {holds : ℕ → Option Work → Type 0} {absent : ℕ → Type 0} {holds' : ℕ → Option Work → Type 0} {absent' : ℕ → Type 0} →
    (old : Host) (now : ℕ) (order : Order) (new : Host) → CarriesOn session old (Some order) new holds absent holds' absent' → Kept holds absent old.requests → WorksOn old now order new → Kept holds' absent' new.requests
works_kept {session} {holds} old now order new c k w =
    let at = moment_in old now w.may_claim in
    let f = w.turns in
    let o = f.turns in
    let its : holds w.request (Some o.before) = subst (λ (n : ℕ). holds n (Some o.before)) f.named (subst (holds f.before.number) o.is (k.each f.place f.before f.there)) in
    let quiet : (n : ℕ) → w.request ≢ n → Still holds old (Some order) new n = λ n differ. of_another w.request w.turn order at o.before o.after differ its refl w.orders o.calls in
    let does : TurnDoes at w.request w.turn (Still holds old (Some order) new) (Does holds old (Some order) new) = record {
      turns = λ w' v h. turned w.turn order at refl w.orders h;
      quiet = quiet;
      rests = λ n differ w' v h. went (quiet n differ) (RestsOf at refl h) tt;
    } in
    let effect : Effect session (Still holds old (Some order) new) (Does holds old (Some order) new) old.requests new.requests = turn_effect at old.requests w.request w.turn new.requests does k.apart f in
    kept_more old.requests new.requests c k effect

orders_kept : {session : ℕ} {holds : ℕ → Option Work → Type 0} {absent : ℕ → Type 0} {holds' : ℕ → Option Work → Type 0} {absent' : ℕ → Type 0} →
    (old : Host) (now : ℕ) (order : Order) (new : Host) → CarriesOn session old (Some order) new holds absent holds' absent' → Kept holds absent old.requests → Orders old now order new → Kept holds' absent' new.requests
orders_kept old now (Beats number) new c k o = same_kept old (Some (Beats number)) new c tt (ap (λ (h : Host). h.requests) o.rest) k
orders_kept old now (LooksFor number look) new c k o = same_kept old (Some (LooksFor number look)) new c tt (ap (λ (h : Host). h.requests) o.rest) k
orders_kept {session} {holds} {absent} {holds'} {absent'} old now (Open number request) new c k o =
    let out : Option Order = Some (Open number request) in
    let after : Request = record o.before { is_asked = true } in
    let quiet : (n : ℕ) → Still holds old out new n = λ n. unordered tt in
    let effect : Effect session (Still holds old out new) (Does holds old out new) old.requests (set old.requests o.place after) =
    set_effect old.requests o.place o.before after quiet o.there refl (stays refl (quiet o.before.number)) in
    subst (Kept holds' absent') (sym (ap (λ (h : Host). h.requests) o.rest)) (kept_more old.requests (set old.requests o.place after) c k effect)
orders_kept {session} {holds} old now (Sleep until) new c k o =
    let out : Option Order = Some (Sleep until) in
    let at = moment_in old now o.may_claim in
    let quiet : (n : ℕ) → Still holds old out new n = λ n. unordered tt in
    let effect : Effect session (Still holds old out new) (Does holds old out new) old.requests new.requests =
    rest_effect at old.requests new.requests quiet (λ n w v h. went (quiet n) (RestsOf at refl h) tt) o.all in
    kept_more old.requests new.requests c k effect
orders_kept old now (Row number request q) new c k o = works_kept old now (Row number request q) new c k o
orders_kept old now (Call number request i function args) new c k o = works_kept old now (Call number request i function args) new c k o
orders_kept old now (Stop number) new c k o = works_kept old now (Stop number) new c k o
orders_kept old now (Show request i shown) new c k o = works_kept old now (Show request i shown) new c k o
orders_kept old now (Tell number told) new c k o = works_kept old now (Tell number told) new c k o

-- ---- a call

lacks_kept : {session : ℕ} {holds : ℕ → Option Work → Type 0} {absent : ℕ → Type 0} {holds' : ℕ → Option Work → Type 0} {absent' : ℕ → Type 0} →
    (of : Asked) (old : Host) (now number : ℕ) (out : Option Order) (new : Host) → CarriesOn session old out new holds absent holds' absent' → IsElse out → Kept holds absent old.requests → Lacks of old now number new → Kept holds' absent' new.requests
lacks_kept OfBeats old now number out new c quiet k l = same_kept old out new c quiet (ap (λ (h : Host). h.requests) l.rest) k
lacks_kept OfNews old now number out new c quiet k l = same_kept old out new c quiet (ap (λ (h : Host). h.requests) l.rest) k
lacks_kept (OfOpen request) old now number out new c quiet k l =
    answers_kept OfOpen (StaysShut now) old number out new c quiet k l (ap (λ (x : Request). x.number) l.changes.rest) (stays (ap (λ (x : Request). x.work) l.changes.rest) (unordered quiet))
lacks_kept (OfRow request) old now number out new c quiet k l = row_kept (Waiting now) OfRow old number out new c quiet k l (λ w v h. went (unordered quiet) (WaitsOf now refl h) tt)
lacks_kept (OfCall request stage) old now number out new c quiet k l = absurd l
lacks_kept (OfAct request) old now number out new c quiet k l = absurd l

loses_kept : {session : ℕ} {holds : ℕ → Option Work → Type 0} {absent : ℕ → Type 0} {holds' : ℕ → Option Work → Type 0} {absent' : ℕ → Type 0} →
    (of : Asked) (old : Host) (number : ℕ) (out : Option Order) (new : Host) → CarriesOn session old out new holds absent holds' absent' → IsElse out → Kept holds absent old.requests → Loses of old number new → Kept holds' absent' new.requests
loses_kept OfBeats old number out new c quiet k l = absurd l
loses_kept OfNews old number out new c quiet k l = absurd l
loses_kept (OfOpen request) old number out new c quiet k l =
    answers_kept OfOpen IsDropped old number out new c quiet k l (ap (λ (x : Request). x.number) l.changes.rest) (stays (ap (λ (x : Request). x.work) l.changes.rest) (unordered quiet))
loses_kept (OfRow request) old number out new c quiet k l = row_kept Breaking OfRow old number out new c quiet k l (λ w v h. went (unordered quiet) (BreaksOf Dropped refl h.part h.rest) tt)
loses_kept (OfCall request stage) old number out new c quiet k l = absurd l
loses_kept (OfAct request) old number out new c quiet k l = absurd l

-- WHAT HOLDS OF EACH REQUEST, if each call carries it on.
pub call_kept : {session : ℕ} {holds : ℕ → Option Work → Type 0} {absent : ℕ → Type 0} {holds' : ℕ → Option Work → Type 0} {absent' : ℕ → Type 0} →
    (old : Host) (out : Option Order) (new : Host) → old.session ≡ session → CarriesOn session old out new holds absent holds' absent' → CarriesWords session holds absent →
    Kept holds absent old.requests → IsCall old out new → Kept holds' absent' new.requests
call_kept {session} {holds} {absent} {holds'} {absent'} old out new own c words k (turns now order is o) =
    orders_kept old now order new (subst (λ (x : Option Order). CarriesOn session old x new holds absent holds' absent') is c) k o
call_kept {session} {holds} {absent} {holds'} {absent'} old out new own c words k (follows request is f) =
    let effect : Effect session (Still holds old out new) (Does holds old out new) old.requests new.requests = follows_effect request old.requests new.requests (λ n. unordered (else_none out is)) f.follows in
    kept_more old.requests new.requests c k effect
call_kept old out new own c words k (acts now request number until act is a) =
    let quiet = else_none out is in
    act_kept (λ n. Asking n act until) request now number old out new c quiet k a (λ w v h t. went (unordered quiet) (AsksOf number act until refl h) t)
call_kept old out new own c words k (ends now request number until is a) =
    let quiet = else_none out is in
    act_kept (λ n. Ending n until) request now number old out new c quiet k a (λ w v h t. went (unordered quiet) (EndsOf (record { number = number; until = until }) refl h) t)
call_kept old out new own c words k (wants request stage from is a) =
    let quiet = else_none out is in
    let its : OnRequest (Wanting stage from) a.at.request.number old new = subst (λ (n : ℕ). OnRequest (Wanting stage from) n old new) (sym a.at.named) a in
    user_kept (Wanting stage from) request old out new c quiet k a (λ w v h. went (unordered quiet) (WantsOf stage from refl h.rest) its)
call_kept old out new own c words k (grows request more is a) =
    let quiet = else_none out is in
    let its : OnRequest (Growing more) a.at.request.number old new = subst (λ (n : ℕ). OnRequest (Growing more) n old new) (sym a.at.named) a in
    user_kept (Growing more) request old out new c quiet k a (λ w v h. went (unordered quiet) (GrowsOf more refl h.part h.rest) its)
call_kept old out new own c words k (stirs due is e) = same_kept old out new c (else_none out is) (ap (λ (h : Host). h.requests) e) k
call_kept old out new own c words k (stops is e) = same_kept old out new c (else_none out is) (ap (λ (h : Host). h.requests) e) k
call_kept old out new own c words k (opens plan notes room number is_flow is a) =
    let quiet = else_none out is in
    let o = a.changes in
    let first = told_length a.is.at.request.words (new_work (opened plan notes room old.session 0 is_flow)) in
    answers_kept OfOpen (IsOpened old.session plan notes room is_flow) old number out new c quiet k a (ap (λ (x : Request). x.number) o.begins)
    (begins first o.fresh (ap (λ (x : Request). x.work) o.begins)
    (record {
      plan = plan;
      notes = notes;
      room = room;
      is_flow = is_flow;
      words = a.is.at.request.words;
      is = ap (λ (s : ℕ). told_length a.is.at.request.words (new_work (opened plan notes room s 0 is_flow))) own;
    }) (unordered quiet))
call_kept old out new own c words k (hears now number entries notes is a) =
    heard_kept old now number entries notes out new c is k a
call_kept old out new own c words k (lands number is a) =
    let quiet = else_none out is in
    row_kept Landing OfRow old number out new c quiet k a (λ w v h. went (unordered quiet) (LandsOf refl h) (row_closed Landing old number out new is a))
call_kept old out new own c words k (refuses now number is a) =
    let quiet = else_none out is in
    row_kept (Refusing now) OfRow old number out new c quiet k a (λ w v h. went (unordered quiet) (RefusesOf now refl h) tt)
call_kept old out new own c words k (closes number is_closed is a) =
    let quiet = else_none out is in
    row_kept (Closing is_closed) OfRow old number out new c quiet k a (λ w v h. went (unordered quiet) (ClosesOf is_closed refl h) tt)
call_kept old out new own c words k (beats now number clock beats' is b) = same_kept old out new c (else_none out is) (ap (λ (h : Host). h.requests) b.rest) k
call_kept {session} {holds} {absent} {holds'} {absent'} old out new own c words k (news now number mark lengths is b) =
    let effect : Effect session (Still holds old out new) (Does holds old out new) new.requests new.requests = same_effect new.requests (λ n. unordered (else_none out is)) in
    let heard = hears_all_kept old.takes_all lengths old.requests b.heard words k b.hears in
    kept_more new.requests new.requests c (subst (Kept holds absent) (sym b.looked) (looked_kept (is_whole old.news.asked) lengths b.heard words heard)) effect
call_kept old out new own c words k (lacks now number is b) = lacks_kept b.ticket.of old now number out new c (else_none out is) k b.lacks
call_kept old out new own c words k (loses number is b) = loses_kept b.ticket.of old number out new c (else_none out is) k b.loses
call_kept old out new own c words k (finishes number answer is b) =
    let quiet = else_none out is in
    row_kept (CallEnding b.stage answer) (λ request. OfCall request b.stage) old number out new c quiet k b.ends (λ w v h. went (unordered quiet) (FinishesOf b.stage answer refl h.runs h.part h.rest) tt)
