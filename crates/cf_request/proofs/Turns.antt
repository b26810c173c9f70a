-- Loops that settle one open stage at each turn.
use Rattle.std.proofs.Common.{◌≡◌, ℕ, zero, suc, ◌<◌, ◌≤◌, true, false, Option, Some, None, List, [], ◌∷◌, ◌++◌, All, length, set, refl, ap, sym, ◌∙◌, arith, subst}
use Rattle.std.specs.Prelude.{is_some, slice_get, option_and_then}
use Rattle.std.proofs.lemmas.List.Elements.{All-weaker}
use Rattle.cf_outcome.specs.declared.outcome.Cause.{Cause}
use Rattle.cf_outcome.specs.declared.outcome.Cause.TheVariants.{Thrown, Cancelled, TimedOut, BadAnswer}
use Rattle.cf_outcome.specs.declared.outcome.Outcome.{Outcome}
use Rattle.cf_outcome.specs.declared.outcome.Outcome.TheVariants.{Value as Gives, Fault}
use Rattle.cf_model.specs.declared.events.Event.{Event}
use Rattle.cf_model.specs.declared.events.Reply.{Reply}
use Rattle.cf_model.specs.declared.stage.Stage.{Stage}
use Rattle.cf_model.specs.declared.stage.Stage.TheVariants.{Pending, Ready, Claimed, Linked, Settled}
use Rattle.cf_model.specs.Calls.{is_attach}
use Rattle.cf_model.specs.Events.{answered, cancelled_by, settled_by}
use Rattle.cf_model.specs.Graphs.{stage_in}
use Rattle.cf_model.specs.States.{State, after, is_ready, outcome_at, outcome_in, outcome_of}
use Rattle.cf_model.proofs.Closed.{reached_length}
use Rattle.cf_model.proofs.Moves.{new_states-settled}
use Rattle.cf_model.proofs.StateLemmas.{after-unsettled}
use Rattle.cf_ledger.specs.Ledgers.{Ledger, stages_of, state_of}
use Rattle.cf_request.specs.Deadlines.{AreSet}
use Rattle.cf_request.specs.Joins.{IsJoin, sources_of}
use Rattle.cf_request.specs.Ready.{Lanes}
use Rattle.cf_request.specs.Relays.{AreThere}
use Rattle.cf_request.specs.Settling.{AreSettledInTurn, IsOpen, Settles, SettlesDue, fault_event, raw, settle_event}
use Rattle.cf_request.specs.Telling.{Teller, TellsEvent, is_settled_in, with_memory}
use Rattle.cf_request.specs.declared.deadlines.Deadline.{Deadline}
use Rattle.cf_request.specs.declared.joins.Join.{Join}
use Rattle.cf_request.specs.declared.settling.Due.{Due}
use Rattle.cf_request.proofs.Telling.{outcome_stage, stays}
use Rattle.cf_request.proofs.Words.{same_count}

-- ---- an open stage is settled

pub none_of : (o : Option Outcome) → is_some o ≡ false → o ≡ None
none_of None h = refl
none_of (Some o) h = cc

pub set_at : (xs : List Stage) (i : ℕ) (y : Stage) → i < length xs → slice_get (set xs i y) i ≡ Some y
set_at [] i y l = absurd (omega (arith, l))
set_at (x ∷ xs) zero y l = refl
set_at (x ∷ xs) (suc i) y l = set_at xs i y (omega (arith, l))

after_settled : (s : State) (i : ℕ) (o : Outcome) → outcome_at s i ≡ None → i < length s.stages → outcome_in ((after s i o).stages) i ≡ Some o
after_settled s i o none l =
    ap (λ (t : State). outcome_in t.stages i) (after-unsettled s i o none)
    ∙ new_states-settled [] s.plan.stages (set s.stages i (Settled o)) i o (ap (option_and_then outcome_of) (set_at s.stages i (Settled o) l))

settles_by : (x : Option Outcome) (s : State) (i : ℕ) (o : Outcome) → x ≡ None → outcome_at s i ≡ None → i < length s.stages → outcome_in ((settled_by x s i o).1.stages) i ≡ Some o
settles_by None s i o e none l = after_settled s i o none l
settles_by (Some p) s i o e none l = cc

pub cancels_by : (x : Option Outcome) (s : State) (i : ℕ) → x ≡ None → outcome_at s i ≡ None → i < length s.stages → outcome_in ((cancelled_by x s i).1.stages) i ≡ Some (Fault Cancelled false)
cancels_by None s i e none l = after_settled s i (Fault Cancelled false) none l
cancels_by (Some p) s i e none l = cc

faults_with : (s : State) (who i : ℕ) (cause : Cause) → outcome_at s i ≡ None → i < length s.stages → outcome_in ((answered s (fault_event who i cause)).1.stages) i ≡ Some (Fault cause false)
faults_with s who i (Thrown code) none l = settles_by (outcome_at s i) s i (Fault (Thrown code) false) none none l
faults_with s who i Cancelled none l = cancels_by (outcome_at s i) s i none none l
faults_with s who i (TimedOut code) none l = settles_by (outcome_at s i) s i (Fault (TimedOut code) false) none none l
faults_with s who i (BadAnswer code) none l = settles_by (outcome_at s i) s i (Fault (BadAnswer code) false) none none l

ends_with : (s : State) (who i : ℕ) (o : Outcome) → outcome_at s i ≡ None → i < length s.stages → outcome_in ((answered s (settle_event who i o)).1.stages) i ≡ Some (raw o)
ends_with s who i (Gives v) none l = settles_by (outcome_at s i) s i (Gives v) none none l
ends_with s who i (Fault cause wrapped) none l = faults_with s who i cause none l

pub after_event : (e : Event) (old new : Teller) (reply : Reply) → TellsEvent e old reply new → state_of new.ledger ≡ (answered (state_of old.ledger) e).1
after_event e old new reply h = ap (λ p. p.1) h.answered

-- it ends as it should
pub settle_ends : (who i : ℕ) (o : Outcome) (old new : Teller) (reply : Reply) → IsOpen (state_of old.ledger) i → TellsEvent (settle_event who i o) old reply new → outcome_in (state_of new.ledger).stages i ≡ Some (raw o)
settle_ends who i o old new reply waits h =
    let all = reached_length old.ledger.plan old.ledger.events in
    let there = waits.0 in
    ap (λ (s : State). outcome_in s.stages i) (after_event (settle_event who i o) old new reply h)
    ∙ ends_with (state_of old.ledger) who i o (none_of (outcome_at (state_of old.ledger) i) waits.1) (omega (arith, all, there))

no_attach_by : (who i : ℕ) (cause : Cause) → is_attach (fault_event who i cause) ≡ false
no_attach_by who i (Thrown code) = refl
no_attach_by who i Cancelled = refl
no_attach_by who i (TimedOut code) = refl
no_attach_by who i (BadAnswer code) = refl

no_attach : (who i : ℕ) (o : Outcome) → is_attach (settle_event who i o) ≡ false
no_attach who i (Gives v) = refl
no_attach who i (Fault cause wrapped) = no_attach_by who i cause

-- a ready stage is open
ready_open : (x : Stage) → is_ready x ≡ true → is_some (outcome_of x) ≡ false
ready_open Pending h = refl
ready_open (Ready args) h = refl
ready_open Claimed h = refl
ready_open (Linked j) h = refl
ready_open (Settled o) h = cc

pub ready_is_open : (s : State) (i : ℕ) → i < length s.plan.stages → is_ready (stage_in s.stages i) ≡ true → IsOpen s i
ready_is_open s i l ready = (l, ap is_some (outcome_stage (slice_get s.stages i)) ∙ ready_open (stage_in s.stages i) ready)

-- ---- what settling keeps

abbrev pub StaySettled : List Stage → List Stage → Type 0
StaySettled old new = (i : ℕ) → is_settled_in old i ≡ true → is_settled_in new i ≡ true

-- what is settled stays so, and there are as many stages
pub record Keeps (old new : Teller) : Type 0 where
  pub settled : StaySettled (state_of old.ledger).stages (state_of new.ledger).stages
  pub count : stages_of new.ledger ≡ stages_of old.ledger
  pub lanes : new.lanes ≡ old.lanes

pub keeps_same : (old new : Teller) → new ≡ old → Keeps old new
keeps_same old new same = subst (λ (t : Teller). Keeps old t) (sym same) (record { settled = λ i h. h; count = refl; lanes = refl })

-- nor does finding memory change anything of these
pub keeps_memory : (words : ℕ) (old new : Teller) → new ≡ with_memory words old → Keeps old new
keeps_memory words old new same = subst (λ (t : Teller). Keeps old t) (sym same) (record { settled = λ i h. h; count = refl; lanes = refl })

pub keeps_then : (a b c : Teller) → Keeps a b → Keeps b c → Keeps a c
keeps_then a b c h k = record { settled = λ i is. k.settled i (h.settled i is); count = k.count ∙ h.count; lanes = k.lanes ∙ h.lanes }

pub keeps_event : (e : Event) (old new : Teller) (reply : Reply) → is_attach e ≡ false → TellsEvent e old reply new → Keeps old new
keeps_event e old new reply isnt h =
    let s = state_of old.ledger in
    let next = after_event e old new reply h in
    record {
      settled = λ i is. ap (λ (t : State). is_settled_in t.stages i) next ∙ ap is_some (stays s e i is) ∙ is;
      count = ap (λ (t : State). length t.plan.stages) next ∙ same_count e s isnt;
      lanes = h.lanes;
    }

pub keeps_settle : (who : ℕ) (d : Due) (old new : Teller) → Settles who d old new → Keeps old new
keeps_settle who d old new h = keeps_event (settle_event who d.stage d.outcome) old new h.reply (no_attach who d.stage d.outcome) h.done

keeps_turns : (P : Teller → Due → Type 0) (who : ℕ) (dues : List Due) (a b : Teller) → AreSettledInTurn P who a dues b → Keeps a b
keeps_turns P who [] a b same = keeps_same a b same
keeps_turns P who (d ∷ dues) a b (between, waits, due, did, rest) = keeps_then a between b (keeps_settle who d a between did) (keeps_turns P who dues between b rest)

pub keeps_dues : (P : Teller → Due → Type 0) (who : ℕ) (a b : Teller) → SettlesDue P who a b → Keeps a b
keeps_dues P who a b h = keeps_turns P who h.dues a b h.are

pub follows_kept : (a b : Teller) (follows : List Join) → Keeps a b → AreThere (state_of a.ledger) follows → AreThere (state_of b.ledger) follows
follows_kept a b follows keeps h = subst (λ (n : ℕ). All (IsJoin n) follows) (sym keeps.count) h

pub limits_kept : (a b : Teller) (ds : List Deadline) → Keeps a b → AreSet (state_of a.ledger) ds → AreSet (state_of b.ledger) ds
limits_kept a b ds keeps h = record { there = subst (λ (n : ℕ). All (λ (d : Deadline). d.stage < n) ds) (sym keeps.count) h.there; in_order = h.in_order }

-- a lane that is there stays there
pub lane_kept : (a b : Teller) (lane : ℕ) → Keeps a b → lane < a.lanes.count → lane < b.lanes.count
lane_kept a b lane keeps h = subst (λ (l : Lanes). lane < l.count) (sym keeps.lanes) h

-- a word leaves what is named there
join_word : (a b : ℕ) (j : Join) → a ≤ b → IsJoin a j → IsJoin b j
join_word a b j l h = record {
  some = h.some;
  enough = h.enough;
  stage = let x = h.stage in omega (arith, x, l);
  sources = All-weaker (λ (i : ℕ). i < a) (λ (i : ℕ). i < b) (λ i k. omega (arith, k, l)) (sources_of j) h.sources;
}

pub follows_word : (a b : Ledger) (follows : List Join) → stages_of a ≤ stages_of b → AreThere (state_of a) follows → AreThere (state_of b) follows
follows_word a b follows l there =
    All-weaker (IsJoin (stages_of a)) (IsJoin (stages_of b)) (λ j k. join_word (stages_of a) (stages_of b) j l k) follows there

pub limits_word : (a b : Ledger) (ds : List Deadline) → stages_of a ≤ stages_of b → AreSet (state_of a) ds → AreSet (state_of b) ds
limits_word a b ds l h = record {
  there = All-weaker (λ (d : Deadline). d.stage < stages_of a) (λ (d : Deadline). d.stage < stages_of b) (λ d k. omega (arith, k, l)) ds h.there;
  in_order = h.in_order;
}

-- ---- a turn more

pub dues_none : (P : Teller → Due → Type 0) (who : ℕ) (a : Teller) → SettlesDue P who a a
dues_none P who a = record { dues = []; are = refl; lanes = refl }

turns_push : (P : Teller → Due → Type 0) (who : ℕ) (dues : List Due) (a b c : Teller) (d : Due) → AreSettledInTurn P who a dues b → IsOpen (state_of b.ledger) d.stage → P b d → Settles who d b c →
    AreSettledInTurn P who a (dues ++ d ∷ []) c
turns_push P who [] a b c d same waits due done =
    (c, subst (λ (t : Teller). IsOpen (state_of t.ledger) d.stage) same waits, subst (λ (t : Teller). P t d) same due, subst (λ (t : Teller). Settles who d t c) same done, refl)
turns_push P who (x ∷ dues) a b c d (between, was, is, did, rest) waits due done = (between, was, is, did, turns_push P who dues between b c d rest waits due done)

pub dues_more : (P : Teller → Due → Type 0) (who : ℕ) (a b c : Teller) (d : Due) → SettlesDue P who a b → IsOpen (state_of b.ledger) d.stage → P b d → Settles who d b c → SettlesDue P who a c
dues_more P who a b c d h waits due done = record { dues = h.dues ++ d ∷ []; are = turns_push P who h.dues a b c d h.are waits due done; lanes = done.done.lanes ∙ h.lanes }
