-- The word that settles an open stage.
use Rattle.std.proofs.Common.{◌≡◌, ℕ, zero, suc, ◌<◌, ◌≤◌, false, Option, Some, None, List, [], ◌∷◌, length, set, refl, ap, sym, ◌∙◌, arith}
use Rattle.std.specs.Prelude.{slice_get, option_and_then}
use Rattle.cf_outcome.specs.declared.outcome.Cause.{Cause}
use Rattle.cf_outcome.specs.declared.outcome.Cause.TheVariants.{Thrown, Cancelled, TimedOut, BadAnswer}
use Rattle.cf_outcome.specs.declared.outcome.Outcome.{Outcome}
use Rattle.cf_outcome.specs.declared.outcome.Outcome.TheVariants.{Value as Gives, Fault}
use Rattle.cf_model.specs.declared.stage.Stage.{Stage}
use Rattle.cf_model.specs.declared.stage.Stage.TheVariants.{Settled}
use Rattle.cf_model.specs.Calls.{who_of}
use Rattle.cf_model.specs.Events.{answered, cancelled_by, settled_by}
use Rattle.cf_model.specs.Ranges.{EventFits}
use Rattle.cf_model.specs.States.{State, after, outcome_at, outcome_of}
use Rattle.cf_model.proofs.Closed.{reached_length}
use Rattle.cf_model.proofs.Moves.{new_states-settled}
use Rattle.cf_model.proofs.StateLemmas.{after-unsettled}
use Rattle.cf_event.specs.Words.{IsEvent, word_of}
use Rattle.cf_event.specs.Decoding.{event_of}
use Rattle.cf_row.specs.Numbers.{FollowsRule}
use Rattle.cf_row.specs.Puts.{attached_by, pairs_of}
use Rattle.cf_row.specs.Rows.{Replica, history_of, state_of}
use Rattle.cf_due.specs.Settling.{IsOpen, SettlesAs, fault_event, raw, settle_event}

-- ---- the stage ends so

set_at : (xs : List Stage) (i : ℕ) (y : Stage) → i < length xs → slice_get (set xs i y) i ≡ Some y
set_at [] i y l = absurd (omega (arith, l))
set_at (x ∷ xs) zero y l = refl
set_at (x ∷ xs) (suc i) y l = set_at xs i y (omega (arith, l))

after_settled : (s : State) (i : ℕ) (o : Outcome) → outcome_at s i ≡ None → i < length s.stages → outcome_at (after s i o) i ≡ Some o
after_settled s i o none l =
    ap (λ (t : State). outcome_at t i) (after-unsettled s i o none)
    ∙ new_states-settled [] s.plan.stages (set s.stages i (Settled o)) i o (ap (option_and_then outcome_of) (set_at s.stages i (Settled o) l))

settles_by : (x : Option Outcome) (s : State) (i : ℕ) (o : Outcome) → x ≡ None → outcome_at s i ≡ None → i < length s.stages → outcome_at ((settled_by x s i o).1) i ≡ Some o
settles_by None s i o e none l = after_settled s i o none l
settles_by (Some p) s i o e none l = cc

cancels_by : (x : Option Outcome) (s : State) (i : ℕ) → x ≡ None → outcome_at s i ≡ None → i < length s.stages → outcome_at ((cancelled_by x s i).1) i ≡ Some (Fault Cancelled false)
cancels_by None s i e none l = after_settled s i (Fault Cancelled false) none l
cancels_by (Some p) s i e none l = cc

faults_with : (s : State) (who i : ℕ) (cause : Cause) → outcome_at s i ≡ None → i < length s.stages → outcome_at ((answered s (fault_event who i cause)).1) i ≡ Some (Fault cause false)
faults_with s who i (Thrown code) none l = settles_by (outcome_at s i) s i (Fault (Thrown code) false) none none l
faults_with s who i Cancelled none l = cancels_by (outcome_at s i) s i none none l
faults_with s who i (TimedOut code) none l = settles_by (outcome_at s i) s i (Fault (TimedOut code) false) none none l
faults_with s who i (BadAnswer code) none l = settles_by (outcome_at s i) s i (Fault (BadAnswer code) false) none none l

ends_with : (s : State) (who i : ℕ) (o : Outcome) → outcome_at s i ≡ None → i < length s.stages → outcome_at ((answered s (settle_event who i o)).1) i ≡ Some (raw o)
ends_with s who i (Gives v) none l = settles_by (outcome_at s i) s i (Gives v) none none l
ends_with s who i (Fault cause wrapped) none l = faults_with s who i cause none l

-- ---- the word fits

fault_who : (who i : ℕ) (cause : Cause) → who_of (fault_event who i cause) ≡ who
fault_who who i (Thrown code) = refl
fault_who who i Cancelled = refl
fault_who who i (TimedOut code) = refl
fault_who who i (BadAnswer code) = refl

settle_who : (who i : ℕ) (o : Outcome) → who_of (settle_event who i o) ≡ who
settle_who who i (Gives v) = refl
settle_who who i (Fault cause wrapped) = fault_who who i cause

fault_fits : (who i n : ℕ) (cause : Cause) → i < n → EventFits n (fault_event who i cause)
fault_fits who i n (Thrown code) l = l
fault_fits who i n Cancelled l = l
fault_fits who i n (TimedOut code) l = l
fault_fits who i n (BadAnswer code) l = l

settle_fits : (who i n : ℕ) (o : Outcome) → i < n → EventFits n (settle_event who i o)
settle_fits who i n (Gives v) l = l
settle_fits who i n (Fault cause wrapped) l = fault_fits who i n cause l

fault_adds : (who i : ℕ) (cause : Cause) → attached_by (Some (fault_event who i cause)) ≡ 0
fault_adds who i (Thrown code) = refl
fault_adds who i Cancelled = refl
fault_adds who i (TimedOut code) = refl
fault_adds who i (BadAnswer code) = refl

settle_adds : (who i : ℕ) (o : Outcome) → attached_by (Some (settle_event who i o)) ≡ 0
settle_adds who i (Gives v) = refl
settle_adds who i (Fault cause wrapped) = fault_adds who i cause

none_added : (n room : ℕ) → n ≡ 0 → n ≤ room
none_added n room is = omega (arith, is)

pub settles_as : (r : Replica) (who i w : ℕ) (o : Outcome) → FollowsRule (pairs_of r.seen) (r.session, who) → IsOpen r i → IsEvent (settle_event who i o) →
    w ≡ word_of (settle_event who i o) → event_of w ≡ Some (settle_event who i o) → SettlesAs r i o w
settles_as r who i w o rule waits event word back =
    let all = reached_length r.plan (history_of r.seen) in
    let there = waits.there in
    record {
      who = who;
      rule = rule;
      is = word;
      fits = (
        record {
          event = settle_event who i o;
          read = back;
          named = sym word;
          is = event;
          mine = settle_who who i o;
          fits = settle_fits who i (length (state_of r).plan.stages) o there;
          left = none_added (attached_by (event_of w)) (state_of r).plan.room (ap attached_by back ∙ settle_adds who i o);
        },
        tt,
      );
      ends = ends_with (state_of r) who i o waits.unsettled (omega (arith, all, there));
    }
