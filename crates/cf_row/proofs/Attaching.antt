-- The plan of a row's graph, event by event.
use Rattle.std.proofs.Common.{◌≡◌, ℕ, zero, suc, ◌+◌, ◌<◌, List, [], ◌∷◌, ◌++◌, length, map, take, refl, ap, sym, ◌∙◌, subst, arith}
use Rattle.std.specs.Prelude.{Option, Some, None, slice_get, slice_index_or}
use Rattle.std.proofs.lemmas.Option.{none-some}
use Rattle.cf_forms.specs.Plans.{Planned, PlannedStage, and_stage, attached_stage, with_room}
use Rattle.cf_model.specs.declared.events.Event.{Event}
use Rattle.cf_model.specs.declared.events.Event.TheVariants.{Complete as Completes, Fail as Fails, FailAs as FailsAs, Cancel as Cancels, Claim as Claims, Finish as Finishes, Tick as Ticks, Attach as Attaches}
use Rattle.cf_model.specs.declared.events.Reply.{Reply}
use Rattle.cf_model.specs.States.{State, start}
use Rattle.cf_model.specs.Events.{answered, attached_by, state_after}
use Rattle.cf_model.proofs.Shape.{answered-shape}
use Rattle.cf_model.proofs.Histories.{state_after-append}
use Rattle.cf_event.specs.Words.{word_of}
use Rattle.cf_event.specs.Decoding.{decoded, decoded_with, event_of}
use Rattle.cf_ledger.specs.Ledgers.{AreTaken, Does, IsTaken, Ledger, state_of, with_more}
use Rattle.cf_ledger.proofs.Growth.{taken_more}
use Rattle.cf_row.proofs.Rooms.{taken_at}
use Rattle.cf_row.specs.Plans.{HasPlaceFor, IsGrown, plan_with}

-- an event that a graph takes has place in its plan
pub place_for : (s : State) (e : Event) → IsTaken s e → HasPlaceFor s.plan e
place_for s (Completes who i v) h = tt
place_for s (Fails who i code) h = tt
place_for s (FailsAs who i failure) h = tt
place_for s (Cancels who i) h = tt
place_for s (Claims who i) h = tt
place_for s (Finishes who i answer) h = tt
place_for s (Ticks who now) h = tt
place_for s (Attaches who form of function) h = (h.room, h.fits.0, h.fits.1)

attached_plan : (room : ℕ) (s : State) (new : PlannedStage) → s.plan.room ≡ room → 0 < room → (attached_by room s new).1.plan ≡ and_stage s.plan new
attached_plan zero s new is l = absurd (omega arith)
attached_plan (suc room) s new is l = refl

-- and this is the plan that it leaves
pub plan_is : (s : State) (e : Event) → IsTaken s e → (answered s e).1.plan ≡ plan_with s.plan e
plan_is s (Completes who i v) h = (answered-shape s (Completes who i v) refl).plan
plan_is s (Fails who i code) h = (answered-shape s (Fails who i code) refl).plan
plan_is s (FailsAs who i failure) h = (answered-shape s (FailsAs who i failure) refl).plan
plan_is s (Cancels who i) h = (answered-shape s (Cancels who i) refl).plan
plan_is s (Claims who i) h = (answered-shape s (Claims who i) refl).plan
plan_is s (Finishes who i answer) h = (answered-shape s (Finishes who i answer) refl).plan
plan_is s (Ticks who now) h = (answered-shape s (Ticks who now) refl).plan
plan_is s (Attaches who form of function) h = attached_plan s.plan.room s (attached_stage form of function) refl h.room

-- ---- by words

-- each word is read as the event at its place
read_by : (o : Option Event) (w : ℕ) (words : List ℕ) → w ∷ words ≡ map word_of (decoded_with o (decoded words)) → (e : Event) × (o ≡ Some e) × (words ≡ map word_of (decoded words))
read_by None w words named = (let no : ⊥ = cc in absurd no)
read_by (Some e) w words named = (e, refl, cc)

read_at : (words : List ℕ) (k : ℕ) → words ≡ map word_of (decoded words) → k < length words → (e : Event) × (event_of (slice_index_or words k 0) ≡ Some e) × (slice_get (decoded words) k ≡ Some e)
read_at [] k named l = absurd (omega arith)
read_at (v ∷ words) zero named l =
    let r = read_by (event_of v) v words named in
    (r.0, r.1, ap (λ (o : Option Event). slice_get (decoded_with o (decoded words)) 0) r.1)
read_at (v ∷ words) (suc k) named l =
    let r = read_by (event_of v) v words named in
    let more = read_at words k r.2 (omega arith) in
    (more.0, more.1, ap (λ (o : Option Event). slice_get (decoded_with o (decoded words)) (suc k)) r.1 ∙ more.2)

take_push : (es : List Event) (k : ℕ) (e : Event) → slice_get es k ≡ Some e → take (suc k) es ≡ take k es ++ e ∷ []
take_push [] k e at = absurd (none-some e at)
take_push (d ∷ es) zero e at = (let same : d ≡ e = cc in ap (λ (x : Event). x ∷ []) same)
take_push (d ∷ es) (suc k) e at = ap (λ (l : List Event). d ∷ l) (take_push es k e at)

pub no_event : (words : List ℕ) (k : ℕ) → words ≡ map word_of (decoded words) → k < length words → event_of (slice_index_or words k 0) ≡ None → ⊥
no_event words k named l none = (let r = read_at words k named l in let is = r.1 in cc)

event_at : (words : List ℕ) (k : ℕ) (e : Event) → words ≡ map word_of (decoded words) → k < length words → event_of (slice_index_or words k 0) ≡ Some e → slice_get (decoded words) k ≡ Some e
event_at words k e named l read =
    let r = read_at words k named l in
    let is : Some r.0 ≡ Some e = sym r.1 ∙ read in
    r.2 ∙ is

pub place_at : (s : State) (plan : Planned) (words : List ℕ) (k : ℕ) (e : Event) → words ≡ map word_of (decoded words) → AreTaken s (decoded words) → plan ≡ (state_after s (take k (decoded words))).plan →
    k < length words → event_of (slice_index_or words k 0) ≡ Some e → HasPlaceFor plan e
place_at s plan words k e named taken is l read =
    subst (λ (p : Planned). HasPlaceFor p e) (sym is) (place_for (state_after s (take k (decoded words))) e (taken_at s (decoded words) k e (event_at words k e named l read) taken))

pub plan_at : (s : State) (plan new : Planned) (words : List ℕ) (k : ℕ) (e : Event) → words ≡ map word_of (decoded words) → AreTaken s (decoded words) → plan ≡ (state_after s (take k (decoded words))).plan →
    k < length words → event_of (slice_index_or words k 0) ≡ Some e → new ≡ plan_with plan e → new ≡ (state_after s (take (k + 1) (decoded words))).plan
plan_at s plan new words k e named taken is l read more =
    let es = decoded words in
    let there = event_at words k e named l read in
    more ∙ ap (λ (p : Planned). plan_with p e) is
    ∙ sym (plan_is (state_after s (take k es)) e (taken_at s es k e there taken))
    ∙ ap (λ (t : State). t.plan) (sym (state_after-append s (take k es) (e ∷ [])))
    ∙ ap (λ (l : List Event). (state_after s l).plan) (sym (take_push es k e there))
    ∙ ap (λ (n : ℕ). (state_after s (take n es)).plan) (let one : suc k ≡ k + 1 = omega arith in one)

-- ---- what is kept, once a word is done

same_event : (word : ℕ) (old new : Ledger) (e : Event) (reply : Reply) → event_of word ≡ Some e → (does : Does word old reply new) → does.event ≡ e
same_event word old new e reply read does = (let h : Some does.event ≡ Some e = sym does.read ∙ read in cc)

pub place_take : (word : ℕ) (old new : Ledger) (grown : Planned) (e : Event) (reply : Reply) → event_of word ≡ Some e → Does word old reply new → grown ≡ (state_of old).plan → HasPlaceFor grown e
place_take word old new grown e reply read does is =
    subst (λ (p : Planned). HasPlaceFor p e) (sym is) (place_for (state_of old) e (subst (IsTaken (state_of old)) (same_event word old new e reply read does) does.taken))

pub grown_take : (word room : ℕ) (opening : Planned) (old new : Ledger) (grown grown2 : Planned) (e : Event) (reply : Reply) → event_of word ≡ Some e → Does word old reply new → IsGrown opening room old grown →
    grown2 ≡ plan_with grown e → IsGrown opening room new grown2
grown_take word room opening old new grown grown2 e reply read does kept more =
    let same = same_event word old new e reply read does in
    record {
      opened = ap (λ (l : Ledger). l.plan) does.written ∙ kept.opened;
      is = more ∙ ap (λ (p : Planned). plan_with p e) kept.is ∙ sym (plan_is (state_of old) e (subst (IsTaken (state_of old)) same does.taken)) ∙ ap (λ (d : Event). (answered (state_of old) d).1.plan) (sym same)
          ∙ ap (λ (p : Reply × State). p.1.plan) (sym does.told);
    }

-- ---- once there is more room

pub taken_room : (opening : Planned) (room more : ℕ) (ledger : Ledger) (words : List ℕ) → ledger.plan ≡ with_room opening room → AreTaken (start ledger.plan) ledger.events → decoded words ≡ ledger.events →
    AreTaken (start (with_room opening (room + more))) (decoded words)
taken_room opening room more ledger words opened taken read =
    taken_more more (start (with_room opening room)) (decoded words)
    (subst (λ (p : Planned). AreTaken (start p) (decoded words)) opened (subst (λ (es : List Event). AreTaken (start ledger.plan) es) (sym read) taken))

pub grown_more : (opening : Planned) (room more : ℕ) (old new : Ledger) (grown : Planned) (words : List ℕ) → old.plan ≡ with_room opening room → new ≡ with_more old more → decoded words ≡ old.events →
    grown ≡ (state_after (start (with_room opening (room + more))) (decoded words)).plan → IsGrown opening (room + more) new grown
grown_more opening room more old new grown words opened is read made =
    let plan : new.plan ≡ with_room opening (room + more) = ap (λ (l : Ledger). l.plan) is ∙ ap (λ (p : Planned). record p { room = p.room + more }) opened in
    record {
      opened = plan;
      is = made ∙ ap (λ (es : List Event). (state_after (start (with_room opening (room + more))) es).plan) (read ∙ ap (λ (l : Ledger). l.events) (sym is)) ∙ ap (λ (p : Planned). (state_after (start p) new.events).plan) (sym plan);
    }
