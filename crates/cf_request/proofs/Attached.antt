-- Stages that are attached by words of a caller.
use Rattle.std.proofs.Common.{◌≡◌, ℕ, zero, suc, ◌+◌, ◌-◌, ◌<◌, ◌≤◌, ◌∙◌, Bool, Option, Some, List, [], ◌∷◌, ◌++◌, get_or, length, length-append, refl, ap, sym, arith, subst, append_assoc, append-nil, replicate}
use Rattle.std.specs.Prelude.{is_some, option_and_then}
use Rattle.std.proofs.Math.Nat.{max-eq_left}
use Rattle.std.proofs.lemmas.List.Elements.{All-weaker}
use Rattle.cf_forms.specs.declared.forms.Form.{Form}
use Rattle.cf_forms.specs.declared.forms.Of.{Of}
use Rattle.cf_forms.specs.declared.forms.Of.TheVariants.{None as NoSource, One, Two}
use Rattle.cf_forms.specs.Plans.{PlannedStage, attached_stage, sources_of}
use Rattle.cf_forms.proofs.ListLemmas.{slice_get-front}
use Rattle.cf_model.specs.declared.events.Event.{Event}
use Rattle.cf_model.specs.declared.events.Event.TheVariants.{Attach as Attaches}
use Rattle.cf_model.specs.declared.events.Reply.{Reply}
use Rattle.cf_model.specs.declared.events.Reply.TheVariants.{Attach as ToldAttach}
use Rattle.cf_model.specs.declared.replies.Attached.{Attached}
use Rattle.cf_model.specs.declared.replies.Attached.TheVariants.{At}
use Rattle.cf_model.specs.declared.stage.Stage.{Stage}
use Rattle.cf_model.specs.declared.stage.Stage.TheVariants.{Pending}
use Rattle.cf_model.specs.Events.{answered, attached_by}
use Rattle.cf_model.specs.Ranges.{EventFits}
use Rattle.cf_model.specs.States.{State, appended, flowed, new_states, next_of, outcome_in, outcome_of}
use Rattle.cf_model.proofs.Closed.{reached_closed, reached_length}
use Rattle.cf_event.specs.Decoding.{event_of}
use Rattle.cf_event.specs.Words.{IsEvent, IsStage, word_of}
use Rattle.cf_ledger.specs.Ledgers.{HasRoomFor, IsShort, Ledger, LedgerRefuses, stages_of, state_of}
use Rattle.cf_ledger.specs.declared.faults.LedgerFault.{LedgerFault}
use Rattle.cf_ledger.specs.declared.faults.LedgerFault.TheVariants.{NoMemory, NoEvent, NoStage, NoRoom}
use Rattle.cf_request.specs.Attaching.{TellsAttach, TellsAttaches}
use Rattle.cf_request.specs.Machines.{AppliesWord, IsMachine, Machine, free_in, stages_in, state_in, waiting_in}
use Rattle.cf_request.specs.Joins.{IsJoin, sources_of as joined}
use Rattle.cf_request.specs.Relays.{AreRelays, AreThere, IsNotBehind, IsRelayDue, NoneBehind, waiting_of}
use Rattle.cf_request.specs.Rows.{AreCalls, IsCall, nothing}
use Rattle.cf_request.specs.Rows.IsCall.{applies, reserves}
use Rattle.cf_request.specs.Telling.{Teller, TellsWord, with_memory}
use Rattle.cf_request.specs.declared.deadlines.Deadline.{Deadline}
use Rattle.cf_request.specs.declared.joins.Join.{Join}
use Rattle.cf_request.proofs.Behind.{stay_word}
use Rattle.cf_request.proofs.Decided.{undecided_same}
use Rattle.cf_request.proofs.Machines.{kept_memory, relays_later}
use Rattle.cf_request.proofs.Memory.{few_relays, relays_stay, spends_word}
use Rattle.cf_request.proofs.Telling.{next_is}
use Rattle.cf_request.proofs.Turns.{StaySettled, dues_none, follows_word, keeps_memory, limits_word}

-- ---- one stage

-- it has a word, since no stage's number is above 4,095
pub attach_is : (who : ℕ) (form : Form) (of : Of) (function : Option ℕ) (stages : ℕ) → who ≤ 63 → IsStage form of function → EventFits stages (Attaches who form of function) → stages ≤ 4096 → IsEvent (Attaches who form of function)
attach_is who form NoSource function stages caller stage fits few = (caller, omega arith, omega arith, stage.0, stage.1)
attach_is who form (One a) function stages caller stage fits few = (caller, (let l = fits.1 0 0 (omega arith) in omega (arith, l, few)), omega arith, stage.0, stage.1)
attach_is who form (Two a b) function stages caller stage fits few =
    (caller, (let l = fits.1 0 0 (omega arith) in omega (arith, l, few)), (let l = fits.1 1 0 (omega arith) in omega (arith, l, few)), stage.0, stage.1)

-- nothing stands against it
pub none_refused : (s : State) (word free : ℕ) (e : Event) (why : LedgerFault) → event_of word ≡ Some e → EventFits (length s.plan.stages) e → HasRoomFor s e → 0 < free → LedgerRefuses s word why → IsShort free why → ⊥
none_refused s word free e NoMemory read fit room some refused short = absurd (omega (arith, some, short))
none_refused s word free e NoEvent read fit room some refused short = cc
none_refused s word free e NoStage read fit room some (d, is, not) short = not (let same : e ≡ d = cc in subst (λ (x : Event). EventFits (length s.plan.stages) x) same fit)
none_refused s word free e NoRoom read fit room some (d, is, fits, not) short = not (let same : e ≡ d = cc in subst (λ (x : Event). HasRoomFor s x) same room)

attached_now : (room : ℕ) (s : State) (new : PlannedStage) → 0 < room → attached_by room s new ≡ (At (length s.plan.stages), flowed (appended s new))
attached_now zero s new l = absurd (omega (arith, l))
attached_now (suc room) s new l = refl

-- the reply and the state that attaching leaves
answers : (s : State) (who : ℕ) (form : Form) (of : Of) (function : Option ℕ) → 0 < s.plan.room → let p = attached_stage form of function in
    answered s (Attaches who form of function) ≡ (ToldAttach (At (length s.plan.stages)), flowed (appended s p))
answers s who form of function l = let p = attached_stage form of function in ap (λ (x : Attached × State). (ToldAttach x.0, x.1)) (attached_now s.plan.room s p l)

pub tells_attach : (who : ℕ) (form : Form) (of : Of) (function : Option ℕ) (lane word : ℕ) (old new : Teller) (reply : Reply) → word ≡ word_of (Attaches who form of function) → event_of word ≡ Some (Attaches who form of function) → 0 < (state_of old.ledger).plan.room →
    TellsWord lane word old reply new → TellsAttach lane (Attaches who form of function) old new
tells_attach who form of function lane word old new reply is read room done =
    let tells = done.tells in
    let e = Attaches who form of function in
    let s = state_of old.ledger in
    let same : tells.does.event ≡ e = (let was = tells.does.read in cc) in
    let told : reply ≡ ToldAttach (At (length s.plan.stages)) = ap (λ p. p.0) (tells.does.told ∙ ap (answered s) same ∙ answers s who form of function room) in
    record {
      read = ap event_of (sym is) ∙ read;
      tells = subst (λ (w : ℕ). TellsWord lane w old (ToldAttach (At (length s.plan.stages))) new) is (subst (λ (r : Reply). TellsWord lane word old r new) told done);
    }

-- the state once a stage is attached
pub state_attached : (who : ℕ) (form : Form) (of : Of) (function : Option ℕ) (lane : ℕ) (old new : Teller) → 0 < (state_of old.ledger).plan.room → TellsAttach lane (Attaches who form of function) old new →
    state_of new.ledger ≡ flowed (appended (state_of old.ledger) (attached_stage form of function))
state_attached who form of function lane old new room h =
    let e = Attaches who form of function in
    let s = state_of old.ledger in
    let does = h.tells.tells.does in
    let same : does.event ≡ e = (let was = does.read in let read = h.read in cc) in
    next_is old.ledger new.ledger (word_of e) (ToldAttach (At (length s.plan.stages))) does ∙ ap (λ (d : Event). (answered s d).1) same ∙ ap (λ p. p.1) (answers s who form of function room)

-- there is one stage more, and room and memory for one less
pub record AttachesOne (old new : Teller) : Type 0 where
  pub count : stages_of new.ledger ≡ stages_of old.ledger + 1
  pub room : (state_of new.ledger).plan.room + 1 ≡ (state_of old.ledger).plan.room
  pub free : new.ledger.free ≡ old.ledger.free - 1

pub attaches_one : (who : ℕ) (form : Form) (of : Of) (function : Option ℕ) (lane : ℕ) (old new : Teller) → 0 < (state_of old.ledger).plan.room → TellsAttach lane (Attaches who form of function) old new → AttachesOne old new
attaches_one who form of function lane old new room h =
    let s = state_of old.ledger in
    let p = attached_stage form of function in
    let next = state_attached who form of function lane old new room h in
    let one = length-append s.plan.stages (p ∷ []) in
    let less = ap (λ (t : State). t.plan.room) next in
    record {
      count = ap (λ (t : State). length t.plan.stages) next ∙ one;
      room = omega (arith, less, room);
      free = spends_word (word_of (Attaches who form of function)) old new (ToldAttach (At (length s.plan.stages))) h.tells.tells;
    }

-- ---- the stages that were there stay as they are

push_state : (below : List Stage) (plan : List PlannedStage) (xs : List Stage) (p : PlannedStage) (x : Stage) → length xs ≡ length plan →
    new_states below (plan ++ p ∷ []) (xs ++ x ∷ []) ≡ new_states below plan xs ++ next_of (below ++ new_states below plan xs) p.form p.sources x ∷ []
push_state below [] [] p x l = ap (λ b. next_of b p.form p.sources x ∷ []) (sym (append-nil below))
push_state below [] (y ∷ xs) p x l = absurd (omega arith)
push_state below (q ∷ plan) [] p x l = absurd (omega arith)
push_state below (q ∷ plan) (y ∷ xs) p x l =
    let new = next_of below q.form q.sources y in
    let rest = push_state (below ++ new ∷ []) plan xs p x (omega arith) in
    ap (λ r. new ∷ r) (rest ∙ ap (λ b. new_states (below ++ new ∷ []) plan xs ++ next_of b p.form p.sources x ∷ []) (append_assoc below (new ∷ []) (new_states (below ++ new ∷ []) plan xs)))

-- one more stage stands behind them, which takes what its sources give
pub stages_attached : (who : ℕ) (form : Form) (of : Of) (function : Option ℕ) (lane : ℕ) (old new : Teller) → 0 < (state_of old.ledger).plan.room → TellsAttach lane (Attaches who form of function) old new →
    (state_of new.ledger).stages ≡ (state_of old.ledger).stages ++ next_of (state_of old.ledger).stages form (sources_of of) Pending ∷ []
stages_attached who form of function lane old new room h =
    let s = state_of old.ledger in
    let p = attached_stage form of function in
    let closed : new_states [] s.plan.stages s.stages ≡ s.stages = reached_closed old.ledger.plan old.ledger.events in
    ap (λ (t : State). t.stages) (state_attached who form of function lane old new room h)
    ∙ push_state [] s.plan.stages s.stages p Pending (reached_length old.ledger.plan old.ledger.events)
    ∙ ap (λ (xs : List Stage). xs ++ next_of xs p.form p.sources Pending ∷ []) closed

outcome_front : (xs ys : List Stage) (i : ℕ) → i < length xs → outcome_in (xs ++ ys) i ≡ outcome_in xs i
outcome_front xs ys i l = ap (option_and_then outcome_of) (slice_get-front xs ys i l)

pub outcome_stays : (who : ℕ) (form : Form) (of : Of) (function : Option ℕ) (lane : ℕ) (old new : Teller) (i : ℕ) → 0 < (state_of old.ledger).plan.room → TellsAttach lane (Attaches who form of function) old new → i < stages_of old.ledger →
    outcome_in (state_of new.ledger).stages i ≡ outcome_in (state_of old.ledger).stages i
outcome_stays who form of function lane old new i room h l =
    let s = state_of old.ledger in
    let all = reached_length old.ledger.plan old.ledger.events in
    ap (λ (xs : List Stage). outcome_in xs i) (stages_attached who form of function lane old new room h) ∙ outcome_front s.stages (next_of s.stages form (sources_of of) Pending ∷ []) i (omega (arith, all, l))

-- ---- a row of stages

-- each event attaches a stage
abbrev pub AreAttaches : List Event → Type 0
AreAttaches [] = Unit {0}
AreAttaches (e ∷ events) = (who : ℕ) × (form : Form) × (of : Of) × (function : Option ℕ) × (e ≡ Attaches who form of function) × AreAttaches events

-- what a row of them does: nothing but that
pub record AttachesRow (events : List Event) (old new : Teller) : Type 0 where
  pub count : stages_of new.ledger ≡ stages_of old.ledger + length events
  pub free : old.ledger.free ≤ new.ledger.free + length events
  pub stays : (i : ℕ) → i < stages_of old.ledger → outcome_in (state_of new.ledger).stages i ≡ outcome_in (state_of old.ledger).stages i
  pub settled : StaySettled (state_of old.ledger).stages (state_of new.ledger).stages
  pub events_are : new.ledger.events ≡ old.ledger.events ++ events

row_same : (t : Teller) → AttachesRow [] t t
row_same t = record { count = omega arith; free = omega arith; stays = λ i l. refl; settled = λ i h. h; events_are = sym (append-nil t.ledger.events) }

pub row_of : (lane : ℕ) (events : List Event) (old new : Teller) → AreAttaches events → length events ≤ (state_of old.ledger).plan.room → TellsAttaches lane events old new → AttachesRow events old new
row_of lane [] old new are room same = subst (λ (t : Teller). AttachesRow [] old t) (sym same) (row_same old)
row_of lane (e ∷ events) old new (who, form, of, function, is, are) room (between, first, rest) =
    let some : 0 < (state_of old.ledger).plan.room = omega (arith, room) in
    let done = subst (λ (x : Event). TellsAttach lane x old between) is first in
    let one = attaches_one who form of function lane old between some done in
    let left = one.room in
    let more = row_of lane events between new are (omega (arith, room, left)) rest in
    let now = one.count in
    let then = more.count in
    let spent = one.free in
    let free = more.free in
    let does = first.tells.tells.does in
    let same : does.event ≡ e = (let was = does.read in let read = first.read in cc) in
    record {
      count = omega (arith, now, then);
      free = omega (arith, spent, free);
      stays = λ i l. more.stays i (omega (arith, l, now)) ∙ outcome_stays who form of function lane old between i some done l;
      settled = λ i h. more.settled i (stay_word old between (word_of e) (ToldAttach (At (stages_of old.ledger))) first.tells.tells i h);
      events_are = more.events_are ∙ ap (λ (l : Ledger). l.events ++ events) does.written ∙ ap (λ (x : Event). (old.ledger.events ++ x ∷ []) ++ events) same ∙ append_assoc old.ledger.events (e ∷ []) events;
    }

-- ---- a machine that attaches them

row_behind : (events : List Event) (old new : Teller) (j : Join) → AttachesRow events old new → IsJoin (stages_of old.ledger) j → IsNotBehind (state_of old.ledger).stages j → IsNotBehind (state_of new.ledger).stages j
row_behind events old new j row there h =
    let before = (state_of old.ledger).stages in
    let after = (state_of new.ledger).stages in
    λ decided. ap is_some (row.stays j.stage there.stage) ∙ h (λ undecided. decided
    (undecided_same (outcome_in before) (outcome_in after) j (All-weaker (λ (i : ℕ). i < stages_of old.ledger) (λ (i : ℕ). outcome_in after i ≡ outcome_in before i) (λ i l. row.stays i l) (joined j) there.sources) undecided))

-- none is behind where none was
pub none_row : (follows : List Join) (events : List Event) (old new : Teller) → AttachesRow events old new → AreThere (state_of old.ledger) follows → NoneBehind follows (state_of old.ledger).stages →
    NoneBehind follows (state_of new.ledger).stages
none_row follows events old new row there none = λ k d l. row_behind events old new (get_or follows k d) row (there k d l) (none k d l)

pub kept_attach : (words : ℕ) (a r b : Teller) (events : List Event) (follows : List Join) (deadlines : List Deadline) (own : ℕ) (flags : List Bool) (waiting : ℕ) → r ≡ with_memory words a → AttachesRow events r b →
    IsMachine a follows deadlines own → NoneBehind follows (state_of a.ledger).stages → AreRelays (state_of a.ledger).stages follows flags waiting →
    IsMachine b follows deadlines own × NoneBehind follows (state_of b.ledger).stages × AreRelays (state_of b.ledger).stages follows flags waiting
kept_attach words a r b events follows deadlines own flags waiting found row machine none relays =
    let was = kept_memory words a r follows deadlines own found machine in
    let count = row.count in
    let more : stages_of r.ledger ≤ stages_of b.ledger = omega (arith, count) in
    let none_open : NoneBehind follows (state_of r.ledger).stages = subst (λ (t : Teller). NoneBehind follows (state_of t.ledger).stages) (sym found) none in (
      record { relays = follows_word r.ledger b.ledger follows more was.relays; limits = limits_word r.ledger b.ledger deadlines more was.limits; caller = was.caller },
      none_row follows events r b row was.relays none_open,
      relays_later (state_of r.ledger).stages (state_of b.ledger).stages follows flags waiting row.settled (relays_later (state_of a.ledger).stages (state_of r.ledger).stages follows flags waiting (keeps_memory words a r found).settled relays),
    )

-- ---- as calls

-- finding memory that is there finds none
pub found_none : (t : Teller) (words : ℕ) → words ≤ t.ledger.free → t ≡ with_memory words t
found_none t words l = sym (ap (λ (n : ℕ). let x : Teller = record t { ledger = record t.ledger { free = n } } in x) (max-eq_left l))

-- a stage is attached as by its word alone
pub applies_attach : (who : ℕ) (form : Form) (of : Of) (function : Option ℕ) (lane : ℕ) (m : Machine) (between : Teller) → TellsAttach lane (Attaches who form of function) m.teller between → waiting_in m ≤ free_in m → NoneBehind m.follows (state_of between.ledger).stages →
    AppliesWord (word_of (Attaches who form of function)) lane m (ToldAttach (At (stages_in m))) (record m { teller = between })
applies_attach who form of function lane m between done enough none =
    let few = few_relays (state_in m).stages m.follows in
    record {
      found = m.teller;
      finds = record { words = waiting_in m; enough = omega arith; few = omega (arith, few); is = found_none m.teller (waiting_in m) enough };
      between = between;
      tells = done.tells;
      catches_up = record { settles = dues_none (IsRelayDue m.follows) m.own between; none = none };
      same = refl;
    }

-- relays that are open
pub waiting_less : (follows : List Join) (old new : Teller) → StaySettled (state_of old.ledger).stages (state_of new.ledger).stages → length (waiting_of (state_of new.ledger).stages follows) ≤ length (waiting_of (state_of old.ledger).stages follows)
waiting_less follows old new stay = relays_stay follows (state_of old.ledger).stages (state_of new.ledger).stages stay

calls_row : (lane : ℕ) (events : List Event) (m : Machine) (end : Teller) → AreAttaches events → length events ≤ (state_in m).plan.room → length events + waiting_in m ≤ free_in m → AreThere (state_in m) m.follows →
    NoneBehind m.follows (state_in m).stages → TellsAttaches lane events m.teller end → AreCalls m (replicate (length events) nothing) (record m { teller = end })
calls_row lane [] m end are room enough there none same = ap (λ (t : Teller). let x : Machine = record m { teller = t } in x) same
calls_row lane (e ∷ events) m end (who, form, of, function, is, are) room enough there none (between, first, rest) =
    let some : 0 < (state_in m).plan.room = omega (arith, room) in
    let done = subst (λ (x : Event). TellsAttach lane x m.teller between) is first in
    let one = attaches_one who form of function lane m.teller between some done in
    let left = one.room in
    let spent = one.free in
    let row = row_of lane (e ∷ []) m.teller between (who, form, of, function, is, tt) (omega (arith, some)) (between, first, refl) in
    let now = row.count in
    let none_open = none_row m.follows (e ∷ []) m.teller between row there none in
    let fewer = waiting_less m.follows m.teller between row.settled in
    let next : Machine = record m { teller = between } in
    let call : IsCall m nothing next = applies (word_of (Attaches who form of function)) lane (ToldAttach (At (stages_in m))) refl (applies_attach who form of function lane m between done (omega (arith, enough)) none_open) in
    (next, call, calls_row lane events next end are (omega (arith, room, left)) (omega (arith, enough, spent, fewer)) (follows_word m.teller.ledger between.ledger m.follows (omega (arith, now)) there) none_open rest)

-- a call that finds memory
pub call_found : (words : ℕ) (old : Machine) (found : Teller) → found ≡ with_memory words old.teller → IsCall old nothing (record old { teller = found })
call_found words old found is = reserves words refl (ap (λ (t : Teller). let x : Machine = record old { teller = t } in x) is)

-- memory is found, and then each stage is attached by a call
pub calls_attach : (lane : ℕ) (events : List Event) (old : Machine) (found end : Teller) (words : ℕ) → AreAttaches events → found ≡ with_memory words old.teller → length events + waiting_in old ≤ found.ledger.free →
    length events ≤ (state_in old).plan.room → AreThere (state_in old) old.follows → NoneBehind old.follows (state_in old).stages → TellsAttaches lane events found end →
    AreCalls old (nothing ∷ replicate (length events) nothing) (record old { teller = end })
calls_attach lane events old found end words are is enough room there none tells =
    let m : Machine = record old { teller = found } in
    let same : state_in m ≡ state_in old = ap (λ (t : Teller). state_of t.ledger) is in
    let waits : waiting_in m ≡ waiting_in old = ap (λ (s : State). length (waiting_of s.stages old.follows)) same in
    let place = ap (λ (s : State). s.plan.room) same in
    let rest = calls_row lane events m end are (omega (arith, room, place)) (omega (arith, enough, waits)) (subst (λ (s : State). AreThere s old.follows) (sym same) there)
    (subst (λ (s : State). NoneBehind old.follows s.stages) (sym same) none) tells in
    (m, call_found words old found is, rest)
