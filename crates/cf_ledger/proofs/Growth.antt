-- Events for which there was room do the same where there is more.
use Rattle.std.proofs.Common.{◌≡◌, ℕ, zero, suc, ◌+◌, ◌-◌, ◌<◌, List, [], ◌∷◌, ◌++◌, length, map, refl, ap, sym, ◌∙◌, arith, subst, Bool, true, false, cond}
use Rattle.std.specs.Prelude.{Option, Some, None, ◌≢◌, nat_lt, ◌==◌, slice_set, unwrap_or}
use Rattle.std.specs.Option.{option_map_or}
use Rattle.cf_outcome.specs.declared.outcome.Outcome.{Outcome}
use Rattle.cf_forms.specs.Plans.{PlannedStage, attached_stage, has_place}
use Rattle.cf_forms.proofs.PlanLemmas.{place_is}
use Rattle.cf_forms.specs.declared.forms.Answer.{Answer}
use Rattle.cf_forms.specs.declared.forms.Landing.{Landing}
use Rattle.cf_forms.specs.declared.forms.Landing.TheVariants.{Settles as Lands, Links}
use Rattle.cf_forms.specs.declared.limits.Limit.{Limit}
use Rattle.cf_forms.specs.Forms.{landing}
use Rattle.cf_forms.specs.Plans.{form_at}
use Rattle.cf_model.specs.declared.stage.Stage.{Stage}
use Rattle.cf_model.specs.declared.stage.Stage.TheVariants.{Pending, Ready, Claimed as IsClaimed, Linked, Settled}
use Rattle.cf_model.specs.declared.replies.Finished.TheVariants.{Won, NotYours}
use Rattle.cf_model.specs.declared.replies.Ticked.TheVariants.{Fired, Past}
use Rattle.cf_model.specs.declared.replies.Attached.TheVariants.{At}
use Rattle.cf_model.specs.declared.events.Event.{Event}
use Rattle.cf_model.specs.declared.events.Event.TheVariants.{Complete as Completes, Fail as Fails, FailAs as FailsAs, Cancel as Cancels, Claim as Claims, Finish as Finishes, Tick as Ticks, Attach as Attaches}
use Rattle.cf_model.specs.declared.events.Reply.{Reply}
use Rattle.cf_model.specs.declared.events.Reply.TheVariants.{Flag as ToldFlag, Claim as ToldClaim, Finish as ToldFinish, Tick as ToldTick, Attach as ToldAttach}
use Rattle.cf_model.specs.States.{State, claim_at, outcome_at, stage_at, flowed}
use Rattle.cf_model.specs.Events.{answered, attached_by, cancelled_by, claimed_by, due_limits, finished_by, finishing, firing, landed, limit_outcome, linked_to, settled_by, settling, source_outcome, state_after, ticking, told_as}
use Rattle.cf_model.specs.Ranges.{EventFits}
use Rattle.cf_event.specs.Words.{word_of}
use Rattle.cf_event.specs.Decoding.{decoded, decoded_with, event_of}
use Rattle.cf_ledger.specs.declared.faults.LedgerFault.{LedgerFault}
use Rattle.cf_ledger.specs.declared.faults.LedgerFault.TheVariants.{NoMemory, NoEvent, NoStage, NoRoom}
use Rattle.cf_ledger.specs.Ledgers.{AreTaken, HasRoomFor, IsFirstRefused, LedgerRefuses, IsTaken, roomier}

abbrev both : {A : Type 0} → ℕ → A × State → A × State
both more answer = (answer.0, roomier more answer.1)

settled_more : (more : ℕ) (x : Option Outcome) (s : State) (i : ℕ) (o : Outcome) → settled_by x (roomier more s) i o ≡ both more (settled_by x s i o)
settled_more more (Some old) s i o = refl
settled_more more None s i o = refl

settling_more : (more : ℕ) (s : State) (i : ℕ) (o : Outcome) → settling (roomier more s) i o ≡ both more (settling s i o)
settling_more more s i o = settled_more more (outcome_at s i) s i o

cancelled_more : (more : ℕ) (x : Option Outcome) (s : State) (i : ℕ) → cancelled_by x (roomier more s) i ≡ both more (cancelled_by x s i)
cancelled_more more (Some old) s i = refl
cancelled_more more None s i = refl

claimed_more : (more : ℕ) (x : Stage) (s : State) (who i : ℕ) → claimed_by x (roomier more s) who i ≡ both more (claimed_by x s who i)
claimed_more more Pending s who i = refl
claimed_more more (Ready args) s who i = refl
claimed_more more IsClaimed s who i = refl
claimed_more more (Linked j) s who i = refl
claimed_more more (Settled o) s who i = refl

linked_more : (more : ℕ) (x : Option Outcome) (s : State) (i j : ℕ) → linked_to x (roomier more s) i j ≡ roomier more (linked_to x s i j)
linked_more more (Some o) s i j = refl
linked_more more None s i j = refl

landed_more : (more : ℕ) (s : State) (i : ℕ) (at : Landing) → landed (roomier more s) i at ≡ roomier more (landed s i at)
landed_more more s i (Lands o) = refl
landed_more more s i (Links j) = linked_more more (outcome_at s j) s i j

finished_more : (more : ℕ) (x : Option Outcome) (s : State) (i : ℕ) (answer : Answer) → finished_by x (roomier more s) i answer ≡ both more (finished_by x s i answer)
finished_more more (Some old) s i answer = refl
finished_more more None s i answer = ap (λ r. (Won, r)) (landed_more more s i (landing (form_at s.plan.stages i) i (source_outcome s i) answer))

finishing_by : (more : ℕ) (b : Bool) (s : State) (x : Option Outcome) (i : ℕ) (answer : Answer) → let shut : State → State = λ (t : State). record t { claims = slice_set t.claims i None } in
    cond b (finished_by x (shut (roomier more s)) i answer) (NotYours, roomier more s) ≡ both more (cond b (finished_by x (shut s) i answer) (NotYours, s))
finishing_by more true s x i answer = finished_more more x (record s { claims = slice_set s.claims i None }) i answer
finishing_by more false s x i answer = refl

finishing_more : (more : ℕ) (s : State) (who i : ℕ) (answer : Answer) → finishing (roomier more s) who i answer ≡ both more (finishing s who i answer)
finishing_more more s who i answer = finishing_by more (option_map_or (λ w. w == who) (claim_at s i) false) s (outcome_at s i) i answer

firing_more : (more count : ℕ) (s : State) (limits : List Limit) → firing count (roomier more s) limits ≡ both more (firing count s limits)
firing_more more count s [] = refl
firing_more more count s (limit ∷ limits) =
    let one = settling_more more s limit.stage (limit_outcome limit.kind) in
    let done = settling s limit.stage (limit_outcome limit.kind) in
    ap (λ (d : Bool × State). firing (cond d.0 (count + 1) count) d.1 limits) one ∙ firing_more more (cond done.0 (count + 1) count) done.1 limits

ticking_by : (more : ℕ) (b : Bool) (s : State) (now : ℕ) → let end : State → State → State = λ (from to : State). record to { moment = now; used = from.used + length (due_limits s now) } in
    cond b (Past, roomier more s) (Fired (firing 0 (roomier more s) (due_limits s now)).0, end s (firing 0 (roomier more s) (due_limits s now)).1)
    ≡ both more (cond b (Past, s) (Fired (firing 0 s (due_limits s now)).0, end s (firing 0 s (due_limits s now)).1))
ticking_by more true s now = refl
ticking_by more false s now = ap (λ (d : ℕ × State). (Fired d.0, record d.1 { moment = now; used = s.used + length (due_limits s now) })) (firing_more more 0 s (due_limits s now))

ticking_more : (more : ℕ) (s : State) (now : ℕ) → ticking (roomier more s) now ≡ both more (ticking s now)
ticking_more more s now = ticking_by more (nat_lt now s.moment) s now

attached_more : (more room : ℕ) (s : State) (new : PlannedStage) → s.plan.room ≡ room → 0 < room → attached_by (room + more) (roomier more s) new ≡ both more (attached_by room s new)
attached_more more zero s new is l = absurd (omega arith)
attached_more more (suc room) s new is l =
    let grown : suc (room + more) ≡ suc room + more = omega arith in
    let less : s.plan.room + more - 1 ≡ s.plan.room - 1 + more = omega (arith, is) in
    subst (λ (n : ℕ). attached_by n (roomier more s) new ≡ both more (attached_by (suc room) s new)) grown
    (ap (λ (n : ℕ). let s2 : State = record s { plan = record s.plan { stages = s.plan.stages ++ new ∷ []; room = n }; stages = s.stages ++ Pending ∷ []; claims = s.claims ++ None ∷ [] } in
    (At (length s.plan.stages), flowed s2)) less)

as_more : {A : Type 0} (more : ℕ) (tell : A → Reply) (x y : A × State) → x ≡ both more y → told_as tell x ≡ both more (told_as tell y)
as_more more tell x y e = ap (told_as tell) e

pub answered_more : (more : ℕ) (s : State) (e : Event) → HasRoomFor s e → answered (roomier more s) e ≡ both more (answered s e)
answered_more more s (Completes who i v) h = ap (told_as ToldFlag) (settling_more more s i _)
answered_more more s (Fails who i code) h = ap (told_as ToldFlag) (settling_more more s i _)
answered_more more s (FailsAs who i failure) h = ap (told_as ToldFlag) (settling_more more s i _)
answered_more more s (Cancels who i) h = ap (told_as ToldFlag) (cancelled_more more (outcome_at s i) s i)
answered_more more s (Claims who i) h = ap (told_as ToldClaim) (claimed_more more (stage_at s i) s who i)
answered_more more s (Finishes who i answer) h = ap (told_as ToldFinish) (finishing_more more s who i answer)
answered_more more s (Ticks who now) h = ap (told_as ToldTick) (ticking_more more s now)
answered_more more s (Attaches who form of function) h = ap (told_as ToldAttach) (attached_more more s.plan.room s (attached_stage form of function) refl h)

room_more : (more : ℕ) (s : State) (e : Event) → HasRoomFor s e → HasRoomFor (roomier more s) e
room_more more s (Completes who i v) h = tt
room_more more s (Fails who i code) h = tt
room_more more s (FailsAs who i failure) h = tt
room_more more s (Cancels who i) h = tt
room_more more s (Claims who i) h = tt
room_more more s (Finishes who i answer) h = tt
room_more more s (Ticks who now) h = tt
room_more more s (Attaches who form of function) h = omega arith

pub taken_more : (more : ℕ) (s : State) (events : List Event) → AreTaken s events → AreTaken (roomier more s) events
taken_more more s [] h = tt
taken_more more s (e ∷ events) h = (
  record { fits = h.0.fits; room = room_more more s e h.0.room },
  subst (λ (r : State). AreTaken r events) (sym (ap (λ p. p.1) (answered_more more s e h.0.room))) (taken_more more ((answered s e).1) events h.1),
)

pub state_more : (more : ℕ) (s : State) (events : List Event) → AreTaken s events → state_after (roomier more s) events ≡ roomier more (state_after s events)
state_more more s [] h = refl
state_more more s (e ∷ events) h =
    ap (λ (r : State). state_after r events) (ap (λ p. p.1) (answered_more more s e h.0.room)) ∙ state_more more ((answered s e).1) events h.1

-- words of events that are taken aren't refused, but for want of memory
some_is : (o : Option Event) (d e : Event) → o ≡ Some d → o ≡ Some e → d ≡ e
some_is o d e x y = ap (λ (z : Option Event). unwrap_or z d) (sym x ∙ y)

not_refused : (s : State) (w : ℕ) (e : Event) (why : LedgerFault) → event_of w ≡ Some e → IsTaken s e → why ≢ NoMemory → LedgerRefuses s w why → ⊥
not_refused s w e NoMemory is taken other u = other refl
not_refused s w e NoEvent is taken other u = let no : None ≡ Some e = sym u ∙ is in cc
not_refused s w e NoStage is taken other u = u.2 (subst (EventFits (length s.plan.stages)) (some_is (event_of w) e u.0 is u.1) taken.fits)
not_refused s w e NoRoom is taken other u = u.3 (subst (HasRoomFor s) (some_is (event_of w) e u.0 is u.1) taken.room)

all_with : (o : Option Event) (s : State) (w : ℕ) (ws : List ℕ) (k : ℕ) (why : LedgerFault) → event_of w ≡ o → w ∷ ws ≡ map word_of (decoded_with o (decoded ws)) → AreTaken s (decoded_with o (decoded ws)) → why ≢ NoMemory →
    ((t : State) (n : ℕ) → ws ≡ map word_of (decoded ws) → AreTaken t (decoded ws) → IsFirstRefused t n ws why → ⊥) → IsFirstRefused s k (w ∷ ws) why → ⊥
all_with None s w ws k why is all taken other next u = cc
all_with (Some e) s w ws zero why is all taken other next u = not_refused s w e why is taken.0 other u
all_with (Some e) s w ws (suc k) why is all taken other next u =
    let same : u.0 ≡ e = some_is (event_of w) u.0 e u.1 is in
    next ((answered s e).1) k (let rest : ws ≡ map word_of (decoded ws) = cc in rest) taken.1 (subst (λ (d : Event). IsFirstRefused ((answered s d).1) k ws why) same u.3)

pub all_taken : (s : State) (ws : List ℕ) (k : ℕ) (why : LedgerFault) → ws ≡ map word_of (decoded ws) → AreTaken s (decoded ws) → why ≢ NoMemory → IsFirstRefused s k ws why → ⊥
all_taken s [] k why all taken other u = u
all_taken s (w ∷ ws) k why all taken other u =
    all_with (event_of w) s w ws k why refl all taken other (λ t n rest h. all_taken t ws n why rest h other) u

pub only_memory : (s : State) (ws : List ℕ) (k : ℕ) (why : LedgerFault) → ws ≡ map word_of (decoded ws) → AreTaken s (decoded ws) → (why ≢ NoMemory → IsFirstRefused s k ws why) → why ≡ NoMemory
only_memory s ws k NoMemory all taken u = refl
only_memory s ws k NoEvent all taken u = let other : NoEvent ≢ NoMemory = (λ e. cc) in absurd (all_taken s ws k NoEvent all taken other (u other))
only_memory s ws k NoStage all taken u = let other : NoStage ≢ NoMemory = (λ e. cc) in absurd (all_taken s ws k NoStage all taken other (u other))
only_memory s ws k NoRoom all taken u = let other : NoRoom ≢ NoMemory = (λ e. cc) in absurd (all_taken s ws k NoRoom all taken other (u other))

-- no plan has place for so much room
not_true : (b : Bool) → (b ≡ true → ⊥) → b ≡ false
not_true true not = absurd (not refl)
not_true false not = refl

pub no_place : (stages : List PlannedStage) (room more : ℕ) → 4096 < more → has_place stages (room + more) ≡ false
no_place stages room more l = not_true (has_place stages (room + more)) (λ e. let few = (place_is stages (room + more) e).0 in omega (arith, few))
