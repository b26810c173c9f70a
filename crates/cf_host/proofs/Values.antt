-- What a function came to isn't lost.
use Rattle.std.proofs.Common.{◌≡◌, ℕ, ◌+◌, ◌<◌, ◌≤◌, inl, inr, false, Option, Some, None, List, [], ◌∷◌, ◌++◌, Contains, length, length-append, replicate, set, refl, ap, sym, ◌∙◌, subst, arith}
use Rattle.std.specs.Prelude.{slice_get}
use Rattle.std.proofs.lemmas.Bool.{cases_lt}
use Rattle.std.proofs.lemmas.List.{get_or-replicate, get_or-set_same, get_or_past, length-replicate, length-set}
use Rattle.std.proofs.lemmas.List.Elements.{All-contains}
use Rattle.std.proofs.lemmas.Option.{slice_get_within}
use Rattle.cf_model.proofs.StateLemmas.{slice_get-set_other}
use Rattle.cf_ledger.specs.declared.faults.LedgerFault.{LedgerFault}
use Rattle.cf_ledger.specs.declared.faults.LedgerFault.TheVariants.{NoMemory, NoEvent, NoStage, NoRoom}
use Rattle.cf_row.specs.declared.entry.Entry.{Entry}
use Rattle.cf_row.specs.Grants.{IsGrantedTo}
use Rattle.cf_notes.specs.declared.note.Note.{Note}
use Rattle.cf_notes.specs.declared.wants.EndsWith.{EndsWith}
use Rattle.cf_notes.specs.declared.wants.Owed.{Owed}
use Rattle.cf_part.specs.declared.progress.Progress.{Progress}
use Rattle.cf_part.specs.declared.progress.Progress.TheVariants.{NotCalled, Runs, Stopped, Ended}
use Rattle.cf_part.specs.declared.question.PutOf.{PutOf}
use Rattle.cf_part.specs.declared.question.PutOf.TheVariants.{Act as OfActs, Finish as OfFinish, Rest as OfRest}
use Rattle.cf_part.specs.declared.step.Step.{Step}
use Rattle.cf_part.specs.declared.step.Step.TheVariants.{Show as StepShow, Stop as StepStop, Call as StepCall}
use Rattle.cf_part.specs.Answers.{Ends, IsRunning, MismeetsBy, owed_refused}
use Rattle.cf_part.specs.Parts.{Part, call_in, no_value, owed_in, session_of}
use Rattle.cf_part.specs.Rows.{AreCalls as AreCallsOfPart, IsCall as IsCallOfPart, IsOwed, KeepsOwed, Out}
use Rattle.cf_part.specs.Rows.IsCall.{tells as TellsOf, plans as PlansOf, asks as AsksOf, reads as ReadsOf, misreads as MisreadsOf, lands as LandsOf, meets as MeetsOf, mismeets as MismeetsOf, waits as WaitsOf, refuses as RefusesOf, closes as ClosesOf, breaks as BreaksOf, ends as EndsOf, wants as WantsOf, hears as HearsOf, reads_again as ReadsAgainOf, grows as GrowsOf}
use Rattle.cf_part.specs.Steps.{Tells}
use Rattle.cf_part.proofs.Lists.{there_by}
use Rattle.cf_part.proofs.Rows.{effect, granted_later, rank}
use Rattle.cf_turn.specs.Rows.{IsCall as IsCallOfWork, WorksArePartsCalls}
use Rattle.cf_turn.specs.Rows.IsCall.{turns as TurnsOfWork, finishes as FinishesOfWork}
use Rattle.cf_turn.specs.declared.turn.Turn.{Turn}
use Rattle.cf_turn.specs.Works.{Work}
use Rattle.cf_host.specs.declared.order.Order.{Order}
use Rattle.cf_host.specs.declared.request.Request.{Request}
use Rattle.cf_host.specs.declared.ticket.Asked.{Asked}
use Rattle.cf_host.specs.declared.ticket.Asked.TheVariants.{Call as OfCall}
use Rattle.cf_host.specs.Asking.{CallEnding}
use Rattle.cf_host.specs.Hosts.{Answers, Host}
use Rattle.cf_host.specs.Requests.{OnWork}
use Rattle.cf_host.specs.Keeping.{GoesOn, IsWorkIn, KeepsValue, NoValueIsLost}
use Rattle.cf_host.specs.Laws.{ComesTo, IsCall}
use Rattle.cf_host.specs.Laws.IsCall.{finishes}
use Rattle.cf_host.proofs.CalledOnce.{none_yet, same_sessions}
use Rattle.cf_host.proofs.Effects.{Anyhow, Heard, get_set}
use Rattle.cf_host.proofs.Going.{CarriesOn, CarriesWords, Does, call_kept, turned, went}
use Rattle.cf_host.proofs.Single.{CarriesOne, Has, one_call}
use Rattle.cf_host.proofs.Worked.{Begun, Kept, Moves, begins, goes, stays}

-- ---- a part

-- there are as many debts as calls, and the claim of each stage that was called was granted to the session
pub record Sound (p : Part) : Type 0 where
  pub counts : length p.owed ≡ length p.calls
  pub granted : (i : ℕ) → 1 ≤ rank (call_in p.calls i) → IsGrantedTo p.row.replica (session_of p) i

counts_same : (old new : Part) → new.calls ≡ old.calls → new.owed ≡ old.owed → length old.owed ≡ length old.calls → length new.owed ≡ length new.calls
counts_same old new calls owed h = ap (λ (l : List (Option Owed)). length l) owed ∙ h ∙ ap (λ (l : List Progress). length l) (sym calls)

counts_step : (old : Part) (now : ℕ) (step : Step) (new : Part) → Tells old now step new → length old.owed ≡ length old.calls → length new.owed ≡ length new.calls
counts_step old now (StepShow j shown) new h same = counts_same old new (ap (λ (p : Part). p.calls) h.2) (ap (λ (p : Part). p.owed) h.2) same
counts_step old now (StepStop j) new h same =
    ap (λ (p : Part). length p.owed) h.2 ∙ same ∙ sym (ap (λ (p : Part). length p.calls) h.2 ∙ length-set old.calls j Stopped)
counts_step old now (StepCall j args) new h same =
    ap (λ (p : Part). length p.owed) h.1 ∙ length-set old.owed j None ∙ same ∙ sym (ap (λ (p : Part). length p.calls) h.1 ∙ length-set old.calls j Runs)

refused_count : (of : PutOf) (owed : List (Option Owed)) → length (owed_refused of owed) ≡ length owed
refused_count (OfFinish i) owed = length-set owed i _
refused_count OfActs owed = refl
refused_count OfRest owed = refl

counts_mismeets : (why : LedgerFault) (old : Part) (now : ℕ) (entries : List Entry) (said : List Note) (place : ℕ) (new : Part) → MismeetsBy why old now entries said place new → length old.owed ≡ length old.calls →
    length new.owed ≡ length new.calls
counts_mismeets NoMemory old now entries said place new h same = counts_same old new (ap (λ (p : Part). p.calls) h) (ap (λ (p : Part). p.owed) h) same
counts_mismeets NoEvent old now entries said place new h same = counts_same old new (ap (λ (p : Part). p.calls) h.rest) (ap (λ (p : Part). p.owed) h.rest) same
counts_mismeets NoStage old now entries said place new h same = counts_same old new (ap (λ (p : Part). p.calls) h.rest) (ap (λ (p : Part). p.owed) h.rest) same
counts_mismeets NoRoom old now entries said place new h same = counts_same old new (ap (λ (p : Part). p.calls) h.rest) (ap (λ (p : Part). p.owed) h.rest) same

counts_more : (owed : List (Option Owed)) (calls : List Progress) (more : ℕ) → length owed ≡ length calls → length (owed ++ replicate more (Some no_value)) ≡ length (calls ++ replicate more NotCalled)
counts_more owed calls more same =
    let debts = length-append owed (replicate more (Some no_value)) in
    let begun = length-append calls (replicate more NotCalled) in
    let left = length-replicate more (Some no_value) in
    let right = length-replicate more NotCalled in
    omega (arith, same, debts, begun, left, right)

counts_call : (old : Part) (out : Out) (new : Part) → IsCallOfPart old out new → length old.owed ≡ length old.calls → length new.owed ≡ length new.calls
counts_call old out new (TellsOf now step is h) same = counts_step old now step new h same
counts_call old out new (PlansOf ws of is h) same = counts_same old new (ap (λ (p : Part). p.calls) h.rest) (ap (λ (p : Part). p.owed) h.rest) same
counts_call old out new (AsksOf q is h) same = counts_same old new (ap (λ (p : Part). p.calls) h) (ap (λ (p : Part). p.owed) h) same
counts_call old out new (ReadsOf entries said is h) same = counts_same old new (ap (λ (p : Part). p.calls) h.rest) (ap (λ (p : Part). p.owed) h.rest) same
counts_call old out new (MisreadsOf now entries said m is h) same = counts_same old new (ap (λ (p : Part). p.calls) h.rest) (ap (λ (p : Part). p.owed) h.rest) same
counts_call old out new (LandsOf is h) same = counts_same old new (ap (λ (p : Part). p.calls) h.rest) (ap (λ (p : Part). p.owed) h.rest) same
counts_call old out new (MeetsOf entries said landed is h) same = counts_same old new (ap (λ (p : Part). p.calls) h.rest) (ap (λ (p : Part). p.owed) h.rest) same
counts_call old out new (MismeetsOf now entries said m is h) same = counts_mismeets m.why old now entries said m.place new h.done same
counts_call old out new (WaitsOf now is h) same = counts_same old new (ap (λ (p : Part). p.calls) h) (ap (λ (p : Part). p.owed) h) same
counts_call old out new (RefusesOf now is h) same =
    ap (λ (p : Part). length p.owed) h ∙ refused_count old.of old.owed ∙ same ∙ sym (ap (λ (p : Part). length p.calls) h)
counts_call old out new (ClosesOf is_closed is h) same = counts_same old new (ap (λ (p : Part). p.calls) h) (ap (λ (p : Part). p.owed) h) same
counts_call old out new (BreaksOf fault is h) same = counts_same old new (ap (λ (p : Part). p.calls) h) (ap (λ (p : Part). p.owed) h) same
counts_call old out new (EndsOf j answer is running h) same =
    ap (λ (p : Part). length p.owed) h ∙ length-set old.owed j _ ∙ same ∙ sym (ap (λ (p : Part). length p.calls) h ∙ length-set old.calls j Ended)
counts_call old out new (WantsOf j is_wanted is h) same = counts_same old new (ap (λ (p : Part). p.calls) h) (ap (λ (p : Part). p.owed) h) same
counts_call old out new (HearsOf words is h) same = counts_same old new (ap (λ (p : Part). p.calls) h) (ap (λ (p : Part). p.owed) h) same
counts_call old out new (ReadsAgainOf is h) same = counts_same old new (ap (λ (p : Part). p.calls) h) (ap (λ (p : Part). p.owed) h) same
counts_call old out new (GrowsOf more is h) same = ap (λ (p : Part). length p.owed) h.rest ∙ counts_more old.owed old.calls more same ∙ sym (ap (λ (p : Part). length p.calls) h.rest)

sound_call : (old : Part) (out : Out) (new : Part) → IsCallOfPart old out new → Sound old → Sound new
sound_call old out new call s =
    let e = effect old out new call in
    let later = granted_later old.row.replica new.row.replica e.grows in
    record {
      counts = counts_call old out new call s.counts;
      granted = λ i h. elim (e.begun i h) [
        | inl was ↦ later i (s.granted i was)
        | inr told ↦ later i (All-contains (IsGrantedTo old.row.replica (session_of old)) out.calls i e.granted told)
      ];
    }

sound_calls : (old : Part) (outs : List Out) (new : Part) → AreCallsOfPart old outs new → Sound old → Sound new
sound_calls old [] new same s = subst Sound (sym same) s
sound_calls old (out ∷ outs) new (between, call, rest) s = sound_calls between outs new rest (sound_call old out between call s)

-- ---- a work

not_called : (n i : ℕ) → call_in (replicate n NotCalled) i ≡ NotCalled
not_called n i = elim (cases_lt i n) [
  | inl low ↦ get_or-replicate n i NotCalled NotCalled low
  | inr high ↦ (let count = length-replicate n NotCalled in get_or_past (replicate n NotCalled) i NotCalled (omega (arith, high, count)))
]

begun_sound : (session : ℕ) (w : Work) → Begun session w → Sound w.part
begun_sound session w b =
    let places = length b.plan.stages + b.room in
    let calls : w.part.calls ≡ replicate places NotCalled = ap (λ (x : Work). x.part.calls) b.is in
    let owed : w.part.owed ≡ replicate places (Some no_value) = ap (λ (x : Work). x.part.owed) b.is in
    record {
      counts = ap (λ (l : List (Option Owed)). length l) owed ∙ length-replicate places (Some no_value) ∙ sym (ap (λ (l : List Progress). length l) calls ∙ length-replicate places NotCalled);
      granted = λ i h. (let none : rank (call_in w.part.calls i) ≡ 0 = ap (λ (l : List Progress). rank (call_in l i)) calls ∙ ap rank (not_called places i) in absurd (omega (arith, h, none)));
    }

work_sound : WorksArePartsCalls → (w v : Work) (o : Option Turn) → IsCallOfWork w o v → Sound w.part → Sound v.part
work_sound parts w v o call s =
    let p = parts w v (o ∷ []) (v, call, refl) in
    sound_calls w.part p.parts v.part p.are s

work_owed : WorksArePartsCalls → KeepsOwed → (i : ℕ) (answer : EndsWith) (w v : Work) (o : Option Turn) → IsCallOfWork w o v → IsOwed w.part i answer → IsOwed v.part i answer
work_owed parts keeps i answer w v o call owed =
    let p = parts w v (o ∷ []) (v, call, refl) in
    keeps w.part v.part p.parts i answer owed p.are

-- ---- all works of a process

abbrev Each : (Work → Type 0) → ℕ → Option Work → Type 0
Each is n None = Unit {0}
Each is n (Some w) = is w

abbrev IsKept : (Work → Type 0) → Type 0
IsKept is = (w v : Work) (o : Option Turn) → IsCallOfWork w o v → is w → is v

does_call : {holds : ℕ → Option Work → Type 0} → (is : Work → Type 0) → IsKept is → (old : Host) (out : Option Order) (new : Host) (n : ℕ) (w v : Work) → is w → Does holds old out new n w v → is v
does_call is keeps old out new n w v so (turned t order at told orders turn) = keeps w v (Some t) (TurnsOfWork at t refl turn) so
does_call is keeps old out new n w v so (went still call meant) = keeps w v None call so

hears_call : (is : Work → Type 0) → IsKept is → (n : ℕ) (w v : Work) → is w → Heard n w v → is v
hears_call is keeps n w v so heard = keeps w v None heard.call so

each_moves : (session : ℕ) (is : Work → Type 0) (still : Type 0) (does : Work → Work → Type 0) → ((w : Work) → Begun session w → is w) → ((w v : Work) → is w → does w v → is v) →
    (n : ℕ) (before after : Option Work) → Each is n before → Moves session still does before after → Each is n after
each_moves session is still does first more n before after so (stays same quiet) = subst (Each is n) (sym same) so
each_moves session is still does first more n before after so (begins w was now begun quiet) = subst (Each is n) (sym now) (first w begun)
each_moves session is still does first more n before after so (goes w v was now does_it) = subst (Each is n) (sym now) (more w v (subst (Each is n) was so) does_it)

each_kept : (session : ℕ) (is : Work → Type 0) → ((w : Work) → Begun session w → is w) → IsKept is → (outs : List (Option Order)) (h : Host) → ComesTo session outs h → Kept (Each is) Anyhow h.requests
each_kept session is first keeps [] h (threads, lease, takes_all, made) = subst (Kept (Each is) Anyhow) (sym (ap (λ (x : Host). x.requests) made)) (none_yet (λ n. tt))
each_kept session is first keeps (out ∷ outs) h (before, comes, call) =
    let on : CarriesOn session before out h (Each is) Anyhow (Each is) Anyhow =
    record { moves = λ n a b so m. each_moves session is _ _ first (λ w v so' does. does_call is keeps before out h n w v so' does) n a b so m; begun = λ n a still. tt; missing = λ n a still. tt } in
    let words : CarriesWords session (Each is) Anyhow =
    record { moves = λ n a b so m. each_moves session is _ _ first (λ w v so' heard. hears_call is keeps n w v so' heard) n a b so m; begun = λ n a still. tt; missing = λ n a still. tt } in
    call_kept before out h (same_sessions session outs before comes) on words (each_kept session is first keeps outs before comes) call

each_work : (is : Work → Type 0) (n : ℕ) (work : Option Work) (w : Work) → work ≡ Some w → Each is n work → is w
each_work is n work w at so = subst (Each is n) at so

-- ---- from one host on

goes_on : (session : ℕ) (outs more : List (Option Order)) (old new : Host) → ComesTo session outs old → GoesOn old more new → ComesTo session (more ++ outs) new
goes_on session outs [] old new comes same = subst (ComesTo session outs) (sym same) comes
goes_on session outs (out ∷ more) old new comes (before, on, call) = (before, goes_on session outs more old before comes on, call)

one_more : (is : Work → Type 0) → IsKept is → (session : ℕ) (outs : List (Option Order)) (request : ℕ) (old : Host) (out : Option Order) (new : Host) → ComesTo session outs old → IsCall old out new → Has is old request → Has is new request
one_more is keeps session outs request old out new comes call it =
    let carries : CarriesOne request is ⊥ old out new =
    record { does = λ w v so does. inl (does_call is keeps old out new request w v so does); words = λ w v so heard. hears_call is keeps request w v so heard } in
    elim (one_call session outs request is ⊥ old out new comes carries call it) [
      | inl h ↦ h
      | inr never ↦ absurd never
    ]

has_on : (is : Work → Type 0) → IsKept is → (session : ℕ) (outs more : List (Option Order)) (request : ℕ) (old new : Host) → ComesTo session outs old → GoesOn old more new → Has is old request → Has is new request
has_on is keeps session outs [] request old new comes same it = subst (λ (h : Host). Has is h request) (sym same) it
has_on is keeps session outs (out ∷ more) request old new comes (before, on, call) it =
    one_more is keeps session (more ++ outs) request before out new (goes_on session outs more old before comes on) call (has_on is keeps session outs more request old before comes on it)

-- ---- the end of a function

-- its value is owed, and its part is sound
record Holds (stage : ℕ) (answer : EndsWith) (w : Work) : Type 0 where
  owed : IsOwed w.part stage answer
  sound : Sound w.part

holds_kept : WorksArePartsCalls → KeepsOwed → (stage : ℕ) (answer : EndsWith) → IsKept (Holds stage answer)
holds_kept parts keeps stage answer w v o call h = record { owed = work_owed parts keeps stage answer w v o call h.owed; sound = work_sound parts w v o call h.sound }

called_there : (calls : List Progress) (i : ℕ) (u : Progress) → call_in calls i ≡ u → 1 ≤ rank u → i < length calls
called_there calls i u is some = there_by calls i NotCalled (λ none. (let low = ap rank (sym is ∙ none) in omega (arith, low, some)))

running_there : (p : Part) (i : ℕ) → IsRunning p i → i < length p.calls
running_there p i (inl runs) = called_there p.calls i Runs runs (omega arith)
running_there p i (inr stopped) = called_there p.calls i Stopped stopped (omega arith)

ended_owed : (old new : Part) (i : ℕ) (answer : EndsWith) → IsRunning old i → Sound old → Ends old i answer new → IsOwed new i answer
ended_owed old new i answer running s h =
    let there = running_there old i running in
    let count = s.counts in
    record {
      ended = ap (λ (p : Part). call_in p.calls i) h ∙ get_or-set_same old.calls i Ended NotCalled there;
      owed = record { answer = answer; is_error = false };
      is = ap (λ (p : Part). owed_in p.owed i) h ∙ get_or-set_same old.owed i (Some (record { answer = answer; is_error = false })) None (omega (arith, there, count));
      answers = refl;
    }

value_kept : (h : Host) (request stage : ℕ) (answer : EndsWith) → Has (Holds stage answer) h request → KeepsValue h request stage answer
value_kept h request stage answer it =
    let o = it.so.owed in
    record { work = it.work; is = it.at; kept = o; granted = it.so.sound.granted stage (let some = ap rank o.ended in omega (arith, some)) }

-- an answer changes the work of the request that it is of
pub work_behind : (call : Work → Work → Type 0) (of : ℕ → Asked) (old : Host) (number : ℕ) (new : Host) → (a : Answers of (OnWork call) old number new) → IsWorkIn new a.is.request a.changes.after
work_behind call of old number new a =
    let at = a.is.at in
    let requests : new.requests ≡ set old.requests a.place a.after = ap (λ (h : Host). h.requests) a.rest in
    record {
      place = a.place;
      at = record {
        request = a.after;
        is = ap (λ (l : List Request). slice_get l a.place) requests ∙ get_set old.requests a.place a.after (slice_get_within old.requests a.place at.request at.is);
        named = ap (λ (x : Request). x.number) a.changes.rest ∙ at.named;
        first = λ k r low there.
            at.first k r low (sym (slice_get-set_other old.requests a.place k a.after (λ same. omega (arith, same, low))) ∙ sym (ap (λ (l : List Request). slice_get l k) requests) ∙ there);
      };
      is = ap (λ (x : Request). x.work) a.changes.rest;
    }

pub no_value_is_lost : WorksArePartsCalls → KeepsOwed → NoValueIsLost
no_value_is_lost parts keeps session outs more old between new number answer comes e on =
    let a = e.ends in
    let o = a.changes in
    let each = each_kept session (λ w. Sound w.part) (begun_sound session) (work_sound parts) outs old comes in
    let sound = each_work (λ w. Sound w.part) a.is.at.request.number a.is.at.request.work o.before o.is (each.each a.place a.is.at.request a.is.at.is) in
    let call : IsCall old None between = finishes number answer refl e in
    let ended : Holds e.stage answer o.after = record {
      owed = ended_owed o.before.part o.after.part e.stage answer o.calls.runs sound o.calls.part;
      sound = work_sound parts o.before o.after None (FinishesOfWork e.stage answer refl o.calls.runs o.calls.part o.calls.rest) sound;
    } in
    let its : Has (Holds e.stage answer) between a.is.request =
    record { work = o.after; at = work_behind (CallEnding e.stage answer) (λ request. OfCall request e.stage) old number between a; so = ended } in
    value_kept new a.is.request e.stage answer (has_on (Holds e.stage answer) (holds_kept parts keeps e.stage answer) session (None ∷ outs) more a.is.request between new (old, comes, call) on its)
