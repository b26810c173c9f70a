-- Composes with their relays.
use Rattle.std.proofs.Common.{◌≡◌, ℕ, ◌+◌, ◌<◌, ◌≤◌, ◌∙◌, true, false, Option, Some, None, List, [], ◌∷◌, length, not, refl, ap, sym, arith, subst}
use Rattle.std.specs.Prelude.{Err, IfOk, Ok, OnOk, Result}
use Rattle.std.proofs.lemmas.List.Elements.{All-cons, All-nil}
use Rattle.cf_outcome.specs.declared.outcome.Cause.{Cause}
use Rattle.cf_outcome.specs.declared.outcome.Cause.TheVariants.{Thrown, Cancelled, TimedOut, BadAnswer}
use Rattle.cf_outcome.specs.declared.outcome.Outcome.{Outcome}
use Rattle.cf_outcome.specs.declared.outcome.Outcome.TheVariants.{Value as Gives, Fault}
use Rattle.cf_forms.specs.declared.forms.Answer.TheVariants.{Link}
use Rattle.cf_forms.specs.declared.forms.Form.TheVariants as forms
use Rattle.cf_forms.specs.declared.forms.Of.TheVariants.{None as NoSource, One}
use Rattle.cf_forms.specs.Plans.{fits_form}
use Rattle.cf_model.specs.declared.events.Reply.TheVariants.{Finish as ToldFinish}
use Rattle.cf_model.specs.Events.{answered, cancelled_by, settled_by}
use Rattle.cf_model.specs.Ranges.{EventFits}
use Rattle.cf_model.specs.States.{State, claim_at, outcome_at}
use Rattle.cf_model.proofs.OpenClaims.{same_claim}
use Rattle.cf_event.specs.Words.{IsStage}
use Rattle.cf_ledger.specs.Ledgers.{stages_of, state_of}
use Rattle.cf_ledger.specs.Steps.{finished_as}
use Rattle.cf_ledger.specs.declared.step.Finish.{Finish}
use Rattle.cf_ledger.specs.declared.step.Held.{Held}
use Rattle.cf_request.specs.Attaching.{TellsAttaches}
use Rattle.cf_request.specs.Composing.{FinishesClaimed, Links, HaveWords, attaches_compose, attaches_relay, composes, form_of}
use Rattle.cf_request.specs.Lanes.{FinishesStage}
use Rattle.cf_request.specs.Machines.{CatchesUp, IsMachine, Machine, SetsFollow, free_in, stages_in, state_in, waiting_in}
use Rattle.cf_request.specs.Relays.{AreRelays, IsRelayDue, MayCatchUp, NoneBehind, open_relays, waiting_of}
use Rattle.cf_request.specs.Rows.{AreCalls, IsCall, nothing}
use Rattle.cf_request.specs.Rows.IsCall.{applies, sets_join}
use Rattle.cf_request.specs.Settling.{AreSettledInTurn, fault_event, settle_event}
use Rattle.cf_request.specs.Telling.{Teller, TellsWord, is_settled_in}
use Rattle.cf_request.specs.declared.composing.Composed.{Composed}
use Rattle.cf_request.specs.declared.composing.Composing.{Composing}
use Rattle.cf_request.specs.declared.composing.Composing.TheVariants.{Compose, ExceptionallyCompose}
use Rattle.cf_request.specs.declared.deadlines.Deadline.{Deadline}
use Rattle.cf_request.specs.declared.joins.Join.{Join}
use Rattle.cf_request.specs.declared.relays.Relays.{Relays}
use Rattle.cf_request.specs.declared.settling.Due.{Due}
use Rattle.cf_request.proofs.Attached.{AreAttaches, AttachesRow, call_found, found_none, row_of}
use Rattle.cf_request.proofs.Behind.{looked_held, looked_none}
use Rattle.cf_request.proofs.Machines.{filter_push, free_found, keeps_held, kept_by, relays_later}
use Rattle.cf_request.proofs.Memory.{few_relays, relays_fewer, relays_stay, spends_held, spends_settle}
use Rattle.cf_request.proofs.Turns.{after_event, keeps_dues}

-- ---- a relay and the compose above it

fits : (how : Composing) → fits_form (form_of how) 1 true ≡ true
fits Compose = refl
fits ExceptionallyCompose = refl

pub relay_is : IsStage forms.Source NoSource None
relay_is = (omega arith, refl)

pub relay_fits : (who stages : ℕ) → EventFits stages (attaches_relay who)
relay_fits who stages = (refl, All-nil (λ (i : ℕ). i < stages))

pub compose_is : (who : ℕ) (how : Composing) (source function : ℕ) → HaveWords who function → IsStage (form_of how) (One source) (Some function)
compose_is who how source function words = (words.1, fits how)

pub compose_fits : (who : ℕ) (how : Composing) (source function stages : ℕ) → source < stages → EventFits stages (attaches_compose who how source function)
compose_fits who how source function stages there = (fits how, All-cons (λ (i : ℕ). i < stages) source [] there (All-nil (λ (i : ℕ). i < stages)))

pub composes_are : (who : ℕ) (how : Composing) (source function : ℕ) → AreAttaches (composes who how source function)
composes_are who how source function = (who, forms.Source, NoSource, None, refl, (who, form_of how, One source, Some function, refl, tt))

pub row_composes : (who : ℕ) (how : Composing) (source function lane : ℕ) (old new : Teller) → 2 ≤ (state_of old.ledger).plan.room → TellsAttaches lane (composes who how source function) old new →
    AttachesRow (composes who how source function) old new
row_composes who how source function lane old new room tells = row_of lane (composes who how source function) old new (composes_are who how source function) room tells

-- ---- claims stay where open stages are settled

settled_claims : (x : Option Outcome) (s : State) (i : ℕ) (o : Outcome) → (settled_by x s i o).1.claims ≡ s.claims
settled_claims None s i o = refl
settled_claims (Some p) s i o = refl

cancelled_claims : (x : Option Outcome) (s : State) (i : ℕ) → (cancelled_by x s i).1.claims ≡ s.claims
cancelled_claims None s i = refl
cancelled_claims (Some p) s i = refl

fault_claims : (s : State) (who i : ℕ) (cause : Cause) → (answered s (fault_event who i cause)).1.claims ≡ s.claims
fault_claims s who i (Thrown code) = settled_claims (outcome_at s i) s i (Fault (Thrown code) false)
fault_claims s who i Cancelled = cancelled_claims (outcome_at s i) s i
fault_claims s who i (TimedOut code) = settled_claims (outcome_at s i) s i (Fault (TimedOut code) false)
fault_claims s who i (BadAnswer code) = settled_claims (outcome_at s i) s i (Fault (BadAnswer code) false)

settle_claims : (s : State) (who i : ℕ) (o : Outcome) → (answered s (settle_event who i o)).1.claims ≡ s.claims
settle_claims s who i (Gives v) = settled_claims (outcome_at s i) s i (Gives v)
settle_claims s who i (Fault cause wrapped) = fault_claims s who i cause

turns_claims : (P : Teller → Due → Type 0) (who : ℕ) (dues : List Due) (a b : Teller) → AreSettledInTurn P who a dues b → (state_of b.ledger).claims ≡ (state_of a.ledger).claims
turns_claims P who [] a b same = ap (λ (t : Teller). (state_of t.ledger).claims) same
turns_claims P who (d ∷ dues) a b (between, waits, due, did, rest) =
    turns_claims P who dues between b rest ∙ ap (λ (s : State). s.claims) (after_event (settle_event who d.stage d.outcome) a between did.reply did.done) ∙ settle_claims (state_of a.ledger) who d.stage d.outcome

-- each word is one relay's
turns_spend : (follows : List Join) (who : ℕ) (dues : List Due) (a b : Teller) → AreSettledInTurn (IsRelayDue follows) who a dues b →
    a.ledger.free + length (waiting_of (state_of b.ledger).stages follows) ≤ b.ledger.free + length (waiting_of (state_of a.ledger).stages follows)
turns_spend follows who [] a b same = subst (λ (t : Teller). a.ledger.free + length (waiting_of (state_of t.ledger).stages follows) ≤ t.ledger.free + length (waiting_of (state_of a.ledger).stages follows)) (sym same) (omega arith)
turns_spend follows who (d ∷ dues) a b (between, waits, due, did, rest) =
    let less = relays_fewer follows who d a between waits due did in
    let one = spends_settle who d a between did in
    let more = turns_spend follows who dues between b rest in
    omega (arith, less, one, more)

-- ---- a relay follows a stage

-- what is as it was, and what memory is left
pub record LeavesClaims (old new : Machine) : Type 0 where
  pub claims : (i : ℕ) → claim_at (state_in new) i ≡ claim_at (state_in old) i
  pub count : stages_in new ≡ stages_in old
  pub memory : 2 + waiting_in old ≤ free_in old → 1 + waiting_in new ≤ free_in new

pub leaves_claims : (relay stage : ℕ) (old new : Machine) → SetsFollow relay stage old new → LeavesClaims old new
leaves_claims relay stage old new sets =
    let h = sets.sets in
    let j = sets.join in
    let a = h.found in
    let stages = (state_of a.ledger).stages in
    let settles = h.catches_up.settles in
    let claims = turns_claims (IsRelayDue new.follows) old.own settles.dues a new.teller settles.are ∙ ap (λ (t : Teller). (state_of t.ledger).claims) h.finds.is in
    let keeps = keeps_dues (IsRelayDue new.follows) old.own a new.teller settles in
    let spent = turns_spend new.follows old.own settles.dues a new.teller settles.are in
    let more = free_found h.finds.words old.teller a h.finds.is in
    let waits = ap (λ (t : Teller). length (waiting_of (state_of t.ledger).stages old.follows)) h.finds.is in
    let push : length (waiting_of stages new.follows) ≤ length (waiting_of stages old.follows) + 1 =
    subst (λ (l : List Join). length (waiting_of stages l) ≤ length (waiting_of stages old.follows) + 1) (sym h.set) (filter_push (λ (x : Join). not (is_settled_in stages x.stage)) old.follows j) in
    record {
      claims = λ i. same_claim i (state_in old).claims (state_in new).claims claims;
      count = keeps.count ∙ ap (λ (t : Teller). stages_of t.ledger) h.finds.is;
      memory = λ enough. omega (arith, enough, spent, more, waits, push);
    }

-- ---- the compose is finished

-- what is to hold where relays are settled
pub may_claimed : (a b : Teller) (who : ℕ) (held : Held) (f : Finish) (w : Relays) (deadlines : List Deadline) (own seen : ℕ) → IsMachine a w.follows.items deadlines own → NoneBehind w.follows.items (state_of a.ledger).stages →
    AreRelays (state_of a.ledger).stages w.follows.items w.followed w.waiting → seen ≡ length a.told → 1 + open_relays a w ≤ a.ledger.free → FinishesStage who held a f b → MayCatchUp b w seen
may_claimed a b who held f w deadlines own seen machine none relays at enough done =
    let follows = w.follows.items in
    let keeps = keeps_held who (Some held) a (Some f) b done in
    let last = relays_later (state_of a.ledger).stages (state_of b.ledger).stages follows w.followed w.waiting keeps.settled relays in
    let most = last.most in
    let fewer = relays_stay follows (state_of a.ledger).stages (state_of b.ledger).stages keeps.settled in
    let one = spends_held who (Some held) a (Some f) b done in
    record {
      settle = record {
        there = (kept_by a b follows deadlines own keeps machine).relays;
        counted = most;
        memory = omega (arith, fewer, one, enough);
      };
      marked = relays.marked;
      looked_at = looked_held seen follows who (Some held) a (Some f) b done (looked_none seen a.told follows (state_of a.ledger).stages at none);
    }

-- it is as by its word alone
pub finishes_claimed : (who : ℕ) (composed : Composed) (m : Machine) (f : Finish) (b d : Teller) → FinishesStage who (record { stage = composed.stage; answer = Link composed.relay }) m.teller f b →
    CatchesUp m.own m.follows b d → waiting_in m ≤ free_in m → FinishesClaimed who composed m f (record m { teller = d })
finishes_claimed who composed m f b d done caught enough =
    let few = few_relays (state_in m).stages m.follows in
    record {
      word = done.word;
      applies = record {
        found = m.teller;
        finds = record { words = waiting_in m; enough = omega arith; few = omega (arith, few); is = found_none m.teller (waiting_in m) enough };
        between = b;
        tells = subst (λ (w : ℕ). TellsWord 0 w m.teller (ToldFinish (finished_as f.late)) b) (sym done.word) done.done.tells;
        catches_up = caught;
        same = refl;
      };
    }

-- ---- as calls

pub calls_link : (who : ℕ) (composed : Composed) (stage : ℕ) (old : Machine) (finish : Finish) (new : Machine) → Links who composed stage old finish new → AreCalls old (nothing ∷ nothing ∷ nothing ∷ []) new
calls_link who composed stage old finish new h =
    let last : (x : Machine) × IsCall h.linked.between nothing x × (new ≡ x) = (new, applies finish.word 0 (ToldFinish (finished_as finish.late)) refl h.linked.finishes.applies, refl) in
    (record old { teller = h.found }, call_found h.finds.words old h.found h.finds.is, (h.linked.between, sets_join h.linked.follows.join refl h.linked.follows.sets, last))

pub ok_so : {A E : Type 0} (r : Result A E) (P : A → Type 0) (Q : Type 0) → IfOk r P → ((a : A) → P a → Q) → OnOk r Q
ok_so (Ok a) P Q h then = then a h
ok_so (Err e) P Q h then = tt
