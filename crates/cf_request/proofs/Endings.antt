-- How stages came to be settled, over rows of calls.
use Rattle.std.proofs.Common.{◌≡◌, ◌≢◌, ℕ, zero, suc, ◌+◌, ◌<◌, ◌≤◌, ◌==◌, Bool, true, false, cond, drop, get_or, map, set, take, Option, Some, None, List, [], ◌∷◌, ◌++◌, All, Contains, length, refl, ap, sym, ◌∙◌, arith, subst, append_assoc, append-nil, take-append-drop, inl, inr, ◌⊎◌}
use Rattle.std.specs.List.{filter}
use Rattle.std.specs.Option.{option_map_or}
use Rattle.std.specs.Prelude.{is_some, option_and_then, slice_get}
use Rattle.std.proofs.lemmas.Bool.{ltb-false, ltb-true}
use Rattle.std.proofs.lemmas.List.Elements.{All-append, All-contains, All-filter, All-nil, All-push, All-weaker, Contains-append_cases, Contains-append_left, Contains-append_right}
use Rattle.std.proofs.Math.Dec.{ltb}
use Rattle.cf_outcome.specs.declared.outcome.Cause.{Cause}
use Rattle.cf_outcome.specs.declared.outcome.Cause.TheVariants.{Thrown, Cancelled, TimedOut, BadAnswer}
use Rattle.cf_outcome.specs.declared.outcome.Outcome.{Outcome}
use Rattle.cf_outcome.specs.declared.outcome.Outcome.TheVariants.{Value as Gives, Fault}
use Rattle.cf_outcome.specs.declared.outcome.Value.TheVariants.{Nil}
use Rattle.cf_outcome.specs.Outcomes.{wrap}
use Rattle.cf_forms.specs.declared.forms.Answer.{Answer}
use Rattle.cf_forms.specs.declared.forms.Answer.TheVariants.{Link}
use Rattle.cf_forms.specs.declared.forms.Args.{Args}
use Rattle.cf_forms.specs.Forms.{composes}
use Rattle.cf_forms.specs.Plans.{PlannedStage, attached_stage, form_at}
use Rattle.cf_model.specs.declared.events.Event.{Event}
use Rattle.cf_model.specs.declared.events.Event.TheVariants.{Complete as Completes, Fail as Fails, FailAs as FailsAs, Cancel as Cancels, Claim as Claims, Finish as Finishes, Tick as Ticks, Attach as Attaches}
use Rattle.cf_model.specs.declared.events.Reply.{Reply}
use Rattle.cf_model.specs.declared.events.Reply.TheVariants.{Claim as ToldClaim, Finish as ToldFinish}
use Rattle.cf_model.specs.declared.replies.Claimed.TheVariants.{Granted}
use Rattle.cf_model.specs.declared.replies.Finished.TheVariants.{NotYours, Won}
use Rattle.cf_model.specs.declared.stage.Stage.{Stage}
use Rattle.cf_model.specs.declared.stage.Stage.TheVariants.{Pending, Ready, Claimed, Linked, Settled}
use Rattle.cf_model.specs.Events.{answered, attached_by, cancelled_by, cause_of, claimed_by, finished_by, settled_by, state_after}
use Rattle.cf_model.specs.Ranges.{EventFits}
use Rattle.cf_model.specs.States.{State, claim_at, new_states, outcome_at, outcome_in, outcome_of, stage_at}
use Rattle.cf_model.proofs.Closed.{reached_closed, reached_length}
use Rattle.cf_model.proofs.Moves.{keeps_outcomes}
use Rattle.cf_model.proofs.OpenClaims.{cancelled_claims, claim_before_close, claim_before_push, claim_before_set, finished_claims, same_claim, settled_claims, ticked_claims}
use Rattle.cf_event.specs.Decoding.{event_of}
use Rattle.cf_event.specs.Words.{word_of}
use Rattle.cf_ledger.specs.Ledgers.{Ledger, roomier, stages_of, state_of}
use Rattle.cf_ledger.specs.Steps.{finished_as}
use Rattle.cf_ledger.specs.declared.step.Finish.{Finish}
use Rattle.cf_ledger.specs.declared.step.Held.{Held}
use Rattle.cf_ledger.specs.declared.step.Taken.{Taken}
use Rattle.cf_request.specs.Deadlines.{IsOverdue}
use Rattle.cf_request.specs.Endings.{AreStops, IsExact, IsOnward, IsReached, SettlesFirst, WasEnded, WasSettled, stops_of}
use Rattle.cf_request.specs.Endings.IsReached.{by_join}
use Rattle.cf_request.specs.Growing.{Grows}
use Rattle.cf_request.specs.Joins.{IsDueBy, IsFollow, IsJoin, IsUndecided, ending_by, ending_of, failures_by, is_among, outcome_among, sources_of, values_by}
use Rattle.cf_request.specs.Lanes.{FinishesHeld, TakesIn}
use Rattle.cf_request.specs.Linked.{AreBothOpen, CameFirst, EndsAs, FollowsExactly, HasFollowed, HasTaken, WasOvertaken}
use Rattle.cf_request.specs.Machines.{FindsForStep, Machine, SetsJoin, open_in, state_in}
use Rattle.cf_request.specs.Refusals.{AllSettled, IsCancelled, IsRefused}
use Rattle.cf_request.specs.Relays.{AreThere, IsNotBehind, IsRelayDue, IsRelayOr, NoneBehind}
use Rattle.cf_request.specs.Rows.{AreCalls, HasWord, IsCall, IsLater, Out, Took, all_told, job_of, nothing}
use Rattle.cf_request.specs.Rows.IsCall.{applies, goes_on, sets_join, sets_deadline, forgets, passes, refuses, cancels_all, took, grows, reserves, is_refused}
use Rattle.cf_request.specs.Scopes.{stopped_in}
use Rattle.cf_request.specs.Settling.{AreSettledInTurn, IsOpen, Settles, fault_event, raw, settle_event}
use Rattle.cf_request.specs.Telling.{AreSettled, IsApart, Teller, Tells, is_settled_in, order_in, with_memory}
use Rattle.cf_request.specs.declared.composing.Composed.{Composed}
use Rattle.cf_request.specs.declared.joins.Join.{Join}
use Rattle.cf_request.specs.declared.settling.Due.{Due}
use Rattle.cf_request.proofs.Behind.{tests}
use Rattle.cf_request.proofs.Decided.{decided_one, none_is, source_decides}
use Rattle.cf_request.proofs.Ends.{some_of}
use Rattle.cf_request.proofs.Later.{later_free, later_grown, later_then, later_word, state_later}
use Rattle.cf_request.proofs.Linked.{Becomes, IsLinkedNow, IsLinkedTo, after_stages, becomes, both_open, get_there, linked_now}
use Rattle.cf_request.proofs.Lists.{apart_append, contains_cases, contains_filter, contains_head, contains_tail}
use Rattle.cf_request.proofs.Machines.{none_takes}
use Rattle.cf_request.proofs.Reached.{Reaches, fewer_or, reaches_more, undecided_fewer}
use Rattle.cf_request.proofs.Rows.{adds_behind, settled_call}
use Rattle.cf_request.proofs.Telling.{next_is, once, outcome_stage, stays}
use Rattle.cf_request.proofs.Turns.{after_event, follows_word}
use Rattle.cf_request.proofs.Words.{none_lost}

-- ---- lists

-- what stands at a place is among them
at_place : (xs : List ℕ) (k d : ℕ) → k < length xs → Contains xs (get_or xs k d)
at_place [] k d l = absurd (omega (arith, l))
at_place (x ∷ xs) zero d l = contains_head x xs
at_place (x ∷ xs) (suc k) d l = contains_tail x (get_or xs k d) xs (at_place xs k d (omega (arith, l)))

-- ---- tellers later on

pub onward_then : (a b c : Teller) → IsOnward a b → IsOnward b c → IsOnward a c
onward_then a b c h k = record {
  later = later_then a.ledger b.ledger c.ledger h.later k.later;
  more = h.more ++ k.more;
  order = k.order ∙ ap (λ (l : List ℕ). l ++ k.more) h.order ∙ append_assoc (order_in a) h.more k.more;
}

pub onward_word : (a b : Teller) (word : ℕ) (reply : Reply) → Tells word a reply b → IsOnward a b
onward_word a b word reply t = record {
  later = later_word a.ledger b.ledger word reply t.does;
  more = t.fresh;
  order = ap (λ (l : List ℕ). l ++ b.told) t.taken ∙ ap (λ (l : List ℕ). a.taken ++ l) t.told ∙ sym (append_assoc a.taken a.told t.fresh);
}

-- nothing is settled
pub record Still (a b : Teller) : Type 0 where
  pub later : IsLater a.ledger b.ledger
  pub order : order_in b ≡ order_in a
  pub stages : (state_of b.ledger).stages ≡ (state_of a.ledger).stages
  pub count : stages_of b.ledger ≡ stages_of a.ledger
  pub claims : (state_of b.ledger).claims ≡ (state_of a.ledger).claims

still_free : (t : Teller) (n : ℕ) → Still t (record t { ledger = record t.ledger { free = n } })
still_free t n = record { later = later_free t.ledger (record t.ledger { free = n }) refl refl; order = refl; stages = refl; count = refl; claims = refl }

still_is : (a b : Teller) → b ≡ a → Still a b
still_is a b same = subst (Still a) (sym same) (still_free a a.ledger.free)

pub still_found : (words : ℕ) (a b : Teller) → b ≡ with_memory words a → Still a b
still_found words a b same = subst (Still a) (sym same) (still_free a (with_memory words a).ledger.free)

pub still_onward : (a b : Teller) → Still a b → IsOnward a b
still_onward a b h = record { later = h.later; more = []; order = h.order ∙ sym (append-nil (order_in a)) }

onward_same : (t : Teller) → IsOnward t t
onward_same t = still_onward t t (still_is t t refl)

-- ---- what is undecided

less_by : (b : Bool) (m n : ℕ) → ltb m n ≡ b → ((m < n → ⊥) → ⊥) → m < n
less_by true m n e h = ltb-true m n e
less_by false m n e h = let most = ltb-false m n e in absurd (h (λ l. omega (arith, l, most)))

less : (m n : ℕ) → ((m < n → ⊥) → ⊥) → m < n
less m n h = less_by (ltb m n) m n refl h

-- a join that isn't behind is undecided while it is open
undecided_open : (stages : List Stage) (j : Join) → IsNotBehind stages j → is_settled_in stages j.stage ≡ false → IsUndecided (outcome_in stages) j
undecided_open stages j behind still =
    let f = outcome_in stages in
    let sure : (IsUndecided f j → ⊥) → ⊥ = (λ none. let is = behind none in (let no : true ≡ false = sym is ∙ still in cc)) in
    let enough = less (j.wanted + failures_by f (sources_of j)) (length (sources_of j) + 1) (λ n. sure (λ u. let l = u.failures in n (omega (arith, l)))) in
    record {
      values = less (values_by f (sources_of j)) j.wanted (λ n. sure (λ u. n u.values));
      failures = omega (arith, enough);
    }

-- ---- one join among all

raw_by : (b : Bool) (j : Join) (o : Outcome) → raw (cond b (Fault Cancelled false) (ending_of j o)) ≡ cond b (Fault Cancelled false) (ending_of j o)
raw_by true j o = refl
raw_by false j (Gives v) = refl
raw_by false j (Fault cause wrapped) = refl

raw_due : (follows : List Join) (t : Teller) (d : Due) → IsRelayDue follows t d → raw d.outcome ≡ d.outcome
raw_due follows t d h =
    let due = h.due in
    ap raw due.ends ∙ raw_by h.join.cancels h.join due.outcome ∙ sym due.ends

first_more : (follows more : List Join) (t : Teller) (d : Due) → IsRelayDue follows t d → IsRelayDue (follows ++ more) t d
first_more follows more t d h = record {
  join = h.join;
  front = h.front;
  back = h.back ++ more;
  is = ap (λ (l : List Join). l ++ more) h.is ∙ append_assoc h.front (h.join ∷ h.back) more;
  first = h.first;
  due = h.due;
}

settles_more : (follows more : List Join) (stage : ℕ) (a b : Teller) (e : Event) → SettlesFirst follows stage a b e → SettlesFirst (follows ++ more) stage a b e
settles_more follows more stage a b e h = record { who = h.who; due = h.due; is = h.is; first = first_more follows more a h.due h.first; ends = h.ends }

ended_more : (follows more : List Join) (j : Join) (a b : Teller) → WasEnded follows j a b → WasEnded (follows ++ more) j a b
ended_more follows more j a b h = record {
  was = h.was;
  how = elim h.how [ inl u ↦ inl u | inr s ↦ inr (settles_more follows more j.stage h.was.before h.was.after h.was.tells.does.event s) ];
}

ended_behind : (follows : List Join) (j : Join) (a b c : Teller) → WasEnded follows j a b → IsOnward b c → WasEnded follows j a c
ended_behind follows j a b c h on =
    let w = h.was in
    record {
      was = record { before = w.before; after = w.after; word = w.word; reply = w.reply; since = w.since; tells = w.tells; rest = onward_then w.after b c w.rest on; open_then = w.open_then; settled = w.settled };
      how = h.how;
    }

ended_front : (follows : List Join) (j : Join) (a b c : Teller) → IsOnward a b → WasEnded follows j b c → WasEnded follows j a c
ended_front follows j a b c on h =
    let w = h.was in
    record {
      was = record { before = w.before; after = w.after; word = w.word; reply = w.reply; since = onward_then a b w.before on w.since; tells = w.tells; rest = w.rest; open_then = w.open_then; settled = w.settled };
      how = h.how;
    }

-- ---- one linked stage

-- it is linked still, has taken the outcome, or was settled first
abbrev Comes : ℕ → ℕ → Teller → Teller → Type 0
Comes stage other a b = IsLinkedTo stage other (state_of b.ledger) ⊎ (HasTaken stage other (state_of b.ledger) ⊎ CameFirst stage other a b)

linked_still : (stage other : ℕ) (a b : Teller) → Still a b → IsLinkedTo stage other (state_of a.ledger) → IsLinkedTo stage other (state_of b.ledger)
linked_still stage other a b h link = record {
  lower = link.lower;
  link = ap (λ (l : List Stage). slice_get l stage) h.stages ∙ link.link;
  unclaimed = λ w now. link.unclaimed w (sym (same_claim stage (state_of a.ledger).claims (state_of b.ledger).claims h.claims) ∙ now);
}

outcome_since : (old new : Ledger) (i : ℕ) (o : Outcome) → IsLater old new → outcome_in (state_of old).stages i ≡ Some o → outcome_in (state_of new).stages i ≡ Some o
outcome_since old new i o h is = ap (λ (s : State). outcome_in s.stages i) (state_later old new h) ∙ keeps_outcomes (roomier h.grown (state_of old)) h.more i o is

settled_since : (old new : Ledger) (i : ℕ) → IsLater old new → is_settled_in (state_of old).stages i ≡ true → is_settled_in (state_of new).stages i ≡ true
settled_since old new i h is = let was = some_of (outcome_in (state_of old).stages i) is in ap is_some (outcome_since old new i was.0 h was.1)

taken_since : (stage other : ℕ) (a b : Teller) → IsOnward a b → HasTaken stage other (state_of a.ledger) → HasTaken stage other (state_of b.ledger)
taken_since stage other a b on h = record {
  outcome = h.outcome;
  given = outcome_since a.ledger b.ledger other h.outcome on.later h.given;
  taken = outcome_since a.ledger b.ledger stage (wrap h.outcome) on.later h.taken;
}

first_behind : (stage other : ℕ) (a b c : Teller) → CameFirst stage other a b → IsOnward b c → CameFirst stage other a c
first_behind stage other a b c h on =
    let w = h.was in
    record {
      was = record { before = w.before; after = w.after; word = w.word; reply = w.reply; since = w.since; tells = w.tells; rest = onward_then w.after b c w.rest on; open_then = w.open_then; settled = w.settled };
      how = h.how;
    }

first_front : (stage other : ℕ) (a b c : Teller) → IsOnward a b → CameFirst stage other b c → CameFirst stage other a c
first_front stage other a b c on h =
    let w = h.was in
    record {
      was = record { before = w.before; after = w.after; word = w.word; reply = w.reply; since = onward_then a b w.before on w.since; tells = w.tells; rest = w.rest; open_then = w.open_then; settled = w.settled };
      how = h.how;
    }

comes_front : (stage other : ℕ) (a b c : Teller) → IsOnward a b → Comes stage other b c → Comes stage other a c
comes_front stage other a b c on (inl link) = inl link
comes_front stage other a b c on (inr (inl taken)) = inr (inl taken)
comes_front stage other a b c on (inr (inr first)) = inr (inr (first_front stage other a b c on first))

link_there : (stage other : ℕ) (t : Teller) → IsLinkedTo stage other (state_of t.ledger) → stage < stages_of t.ledger
link_there stage other t h =
    let l = get_there (state_of t.ledger).stages stage (Linked other) h.link in
    let all = reached_length t.ledger.plan t.ledger.events in
    omega (arith, l, all)

comes_by : (stage other : ℕ) (a b : Teller) (word : ℕ) (reply : Reply) → (t : Tells word a reply b) → IsLinkedTo stage other (state_of a.ledger) → Becomes stage other (state_of b.ledger) t.does.event → Comes stage other a b
comes_by stage other a b word reply t h (inl link) = inl link
comes_by stage other a b word reply t h (inr (inl taken)) = inr (inl taken)
comes_by stage other a b word reply t h (inr (inr first)) = inr (inr (record {
  was = record { before = a; after = b; word = word; reply = reply; since = onward_same a; tells = t; rest = onward_same b; open_then = ap is_some (ap (option_and_then outcome_of) h.link); settled = first.settled };
  how = first.how;
}))

comes_word : (stage other : ℕ) (a b : Teller) (word : ℕ) (reply : Reply) → Tells word a reply b → IsLinkedTo stage other (state_of a.ledger) → Comes stage other a b
comes_word stage other a b word reply t h =
    let s = state_of a.ledger in
    let e = t.does.event in
    comes_by stage other a b word reply t h (subst (λ (r : State). Becomes stage other r e) (sym (next_is a.ledger b.ledger word reply t.does))
    (becomes stage other s e (reached_closed a.ledger.plan a.ledger.events) (link_there stage other a h) h))

-- what becomes of a join's stage, and of each linked one, and no stage goes
pub record Walk (K : Type 0) (follows : List Join) (j : Join) (a b : Teller) : Type 0 where
  pub on : IsOnward a b
  pub count : stages_of a.ledger ≤ stages_of b.ledger
  pub fate : K → is_settled_in (state_of a.ledger).stages j.stage ≡ false → (is_settled_in (state_of b.ledger).stages j.stage ≡ false) ⊎ WasEnded follows j a b
  pub linked : (stage other : ℕ) → IsLinkedTo stage other (state_of a.ledger) → Comes stage other a b

pub walk_still : (K : Type 0) (follows : List Join) (j : Join) (a b : Teller) → Still a b → Walk K follows j a b
walk_still K follows j a b h = record {
  on = still_onward a b h;
  count = (let same = h.count in omega (arith, same));
  fate = λ k o. inl (ap (λ (l : List Stage). is_settled_in l j.stage) h.stages ∙ o);
  linked = λ stage other link. inl (linked_still stage other a b h link);
}

pub walk_then : (K : Type 0) (follows : List Join) (j : Join) (a b c : Teller) → Walk K follows j a b → Walk K follows j b c → Walk K follows j a c
walk_then K follows j a b c h k = record {
  on = onward_then a b c h.on k.on;
  count = (let m = h.count in let n = k.count in omega (arith, m, n));
  fate = λ x o. elim (h.fate x o) [
    | inl still ↦ elim (k.fate x still) [ inl last ↦ inl last | inr e ↦ inr (ended_front follows j a b c h.on e) ]
    | inr e ↦ inr (ended_behind follows j a b c e k.on)
  ];
  linked = λ stage other link. elim (h.linked stage other link) [
    | inl still ↦ comes_front stage other a b c h.on (k.linked stage other still)
    | inr rest ↦ elim rest [
      | inl taken ↦ inr (inl (taken_since stage other b c k.on taken))
      | inr first ↦ inr (inr (first_behind stage other a b c first k.on))
    ]
  ];
}

pub walk_more : (K : Type 0) (follows more : List Join) (j : Join) (a b : Teller) → Walk K follows j a b → Walk K (follows ++ more) j a b
walk_more K follows more j a b h = record {
  on = h.on;
  count = h.count;
  fate = λ k o. elim (h.fate k o) [ inl still ↦ inl still | inr e ↦ inr (ended_more follows more j a b e) ];
  linked = h.linked;
}

-- this word settled it
ended_now : (follows : List Join) (j : Join) (a b : Teller) (word : ℕ) (reply : Reply) → (t : Tells word a reply b) → is_settled_in (state_of a.ledger).stages j.stage ≡ false → is_settled_in (state_of b.ledger).stages j.stage ≡ true →
    IsUndecided (outcome_in (state_of a.ledger).stages) j ⊎ SettlesFirst follows j.stage a b t.does.event → WasEnded follows j a b
ended_now follows j a b word reply t o is how = record {
  was = record { before = a; after = b; word = word; reply = reply; since = onward_same a; tells = t; rest = onward_same b; open_then = o; settled = is };
  how = how;
}

walk_step : (K : Type 0) (follows : List Join) (j : Join) (a b : Teller) (word : ℕ) (reply : Reply) → (t : Tells word a reply b) →
    (K → is_settled_in (state_of a.ledger).stages j.stage ≡ false → IsUndecided (outcome_in (state_of a.ledger).stages) j ⊎ SettlesFirst follows j.stage a b t.does.event) → Walk K follows j a b
walk_step K follows j a b word reply t how = record {
  on = onward_word a b word reply t;
  count = none_lost a.ledger b.ledger word reply t.does;
  fate = λ k o. elim (tests (is_settled_in (state_of b.ledger).stages j.stage)) [
    | inl is ↦ inr (ended_now follows j a b word reply t o is (how k o))
    | inr still ↦ inl still
  ];
  linked = λ stage other link. comes_word stage other a b word reply t link;
}

-- a word is done where none is behind
walk_word : (K : Type 0) (follows : List Join) (j : Join) (a b : Teller) (word : ℕ) (reply : Reply) → (K → Contains follows j) → NoneBehind follows (state_of a.ledger).stages → Tells word a reply b → Walk K follows j a b
walk_word K follows j a b word reply among none t =
    let stages = (state_of a.ledger).stages in
    walk_step K follows j a b word reply t (λ k o. inl (undecided_open stages j (All-contains (IsNotBehind stages) follows j none (among k)) o))

-- the first that is due is settled
walk_turn : (K : Type 0) (follows : List Join) (j : Join) (who : ℕ) (d : Due) (a b : Teller) → IsRelayDue follows a d → Settles who d a b → Walk K follows j a b
walk_turn K follows j who d a b first did =
    let t = did.done.tells.tells in
    let e = settle_event who d.stage d.outcome in
    let is : t.does.event ≡ e = (let was = t.does.read in let now = did.done.read in cc) in
    walk_step K follows j a b (word_of e) did.reply t (λ k o. inr (record {
      who = who;
      due = d;
      is = is;
      first = first;
      ends = λ same. subst (λ (i : ℕ). outcome_in (state_of b.ledger).stages i ≡ Some d.outcome) same (did.ends ∙ ap (λ (x : Outcome). Some x) (raw_due follows a d first));
    }))

pub walk_turns : (K : Type 0) (follows : List Join) (j : Join) (who : ℕ) (dues : List Due) (a b : Teller) → AreSettledInTurn (IsRelayDue follows) who a dues b → Walk K follows j a b
walk_turns K follows j who [] a b same = walk_still K follows j a b (still_is a b same)
walk_turns K follows j who (d ∷ dues) a b (between, waits, first, did, rest) =
    walk_then K follows j a between b (walk_turn K follows j who d a between first did) (walk_turns K follows j who dues between b rest)

-- or, where none is, what is due otherwise
walk_either : (K : Type 0) (follows : List Join) (j : Join) (P : State → Due → Type 0) (who : ℕ) (d : Due) (a b : Teller) → (K → Contains follows j) → IsRelayOr follows P a d → Settles who d a b → Walk K follows j a b
walk_either K follows j P who d a b among (inl first) did = walk_turn K follows j who d a b first did
walk_either K follows j P who d a b among (inr other) did =
    walk_word K follows j a b (word_of (settle_event who d.stage d.outcome)) did.reply among other.0 did.done.tells.tells

walk_dues : (K : Type 0) (follows : List Join) (j : Join) (P : State → Due → Type 0) (who : ℕ) (dues : List Due) (a b : Teller) → (K → Contains follows j) → AreSettledInTurn (IsRelayOr follows P) who a dues b → Walk K follows j a b
walk_dues K follows j P who [] a b among same = walk_still K follows j a b (still_is a b same)
walk_dues K follows j P who (d ∷ dues) a b among (between, waits, due, did, rest) =
    walk_then K follows j a between b (walk_either K follows j P who d a between among due did) (walk_dues K follows j P who dues between b among rest)

walk_held : (K : Type 0) (follows : List Join) (j : Join) (who : ℕ) (held : Option Held) (a : Teller) (finish : Option Finish) (b : Teller) → (K → Contains follows j) → NoneBehind follows (state_of a.ledger).stages → FinishesHeld who held a finish b → Walk K follows j a b
walk_held K follows j who None a None b among none h = walk_still K follows j a b (still_is a b h)
walk_held K follows j who (Some g) a (Some f) b among none h = walk_word K follows j a b (word_of (Finishes who g.stage g.answer)) (ToldFinish (finished_as f.late)) among none h.done.tells.tells
walk_held K follows j who None a (Some f) b among none h = absurd h
walk_held K follows j who (Some g) a None b among none h = absurd h

walk_takes : (K : Type 0) (follows : List Join) (j : Join) (who lane : ℕ) (a : Teller) (taken : Option Taken) (b : Teller) → (K → Contains follows j) → NoneBehind follows (state_of a.ledger).stages → TakesIn who lane a taken b → Walk K follows j a b
walk_takes K follows j who lane a None b among none h = walk_still K follows j a b (still_is a b h.1)
walk_takes K follows j who lane a (Some t) b among none h = walk_word K follows j a b (word_of (Claims who t.stage)) (ToldClaim (Granted t.args)) among none h.done.tells.tells

-- ---- a call

-- of each machine of a row: its joins are of stages that are there, and none is behind
pub record IsSound (follows : List Join) (t : Teller) : Type 0 where
  pub there : AreThere (state_of t.ledger) follows
  pub none : NoneBehind follows (state_of t.ledger).stages

pub record Called (K : Type 0) (j : Join) (old new : Machine) : Type 0 where
  pub walk : Walk K new.follows j old.teller new.teller
  pub sound : IsSound new.follows new.teller
  pub more : List Join
  pub follows : new.follows ≡ old.follows ++ more

none_still : (follows : List Join) (a b : Teller) → Still a b → NoneBehind follows (state_of a.ledger).stages → NoneBehind follows (state_of b.ledger).stages
none_still follows a b h none = subst (λ (l : List Stage). NoneBehind follows l) (sym h.stages) none

-- a call that sets no join
called : (K : Type 0) (j : Join) (old new : Machine) → new.follows ≡ old.follows → Walk K old.follows j old.teller new.teller → IsSound old.follows old.teller → NoneBehind old.follows (state_in new).stages → Called K j old new
called K j old new same walk sound none = record {
  walk = subst (λ (l : List Join). Walk K l j old.teller new.teller) (sym same) walk;
  sound = subst (λ (l : List Join). IsSound l new.teller) (sym same) (record { there = follows_word old.teller.ledger new.teller.ledger old.follows walk.count sound.there; none = none });
  more = [];
  follows = same ∙ sym (append-nil old.follows);
}

pub called_still : (K : Type 0) (j : Join) (old new : Machine) → new.follows ≡ old.follows → Still old.teller new.teller → IsSound old.follows old.teller → Called K j old new
called_still K j old new same still sound = called K j old new same (walk_still K old.follows j old.teller new.teller still) sound (none_still old.follows old.teller new.teller still sound.none)

-- all are settled
none_all : (follows : List Join) (s : State) → AreThere s follows → AllSettled s → NoneBehind follows s.stages
none_all follows s there all = λ k d l. λ decided. all _ ((there k d l).stage)

still_step : (lane : ℕ) (held : Option Held) (m : Machine) (found : Teller) → FindsForStep lane held m found → Still m.teller found
still_step lane held m found (inl idle) = still_is m.teller found idle.1
still_step lane held m found (inr busy) = still_found busy.1.words m.teller found busy.1.is

still_took : (count : ℕ) (old new : Machine) → Took count old new → Still old.teller new.teller
still_took count old new h =
    let a = old.teller in
    let b = new.teller in
    record {
      later = later_free a.ledger b.ledger (ap (λ (l : Ledger). l.plan) h.ledger) (ap (λ (l : Ledger). l.events) h.ledger);
      order = ap (λ (l : List ℕ). l ++ b.told) h.taken ∙ ap (λ (l : List ℕ). (a.taken ++ take count a.told) ++ l) h.told
          ∙ append_assoc a.taken (take count a.told) (drop count a.told) ∙ ap (λ (l : List ℕ). a.taken ++ l) (take-append-drop count a.told);
      stages = ap (λ (l : Ledger). (state_of l).stages) h.ledger;
      count = ap (λ (l : Ledger). stages_of l) h.ledger;
      claims = ap (λ (l : Ledger). (state_of l).claims) h.ledger;
    }

still_grown : (old new : Machine) → Grows old new → Still old.teller new.teller
still_grown old new h =
    let a = old.teller in
    let same = ap (λ (m : Machine). m.teller) h.is in
    record {
      later = subst (λ (t : Teller). IsLater a.ledger t.ledger) (sym same) (later_grown a.ledger h.more h.taken);
      order = ap order_in same;
      stages = ap (λ (s : State). s.stages) h.state;
      count = ap (λ (s : State). length s.plan.stages) h.state;
      claims = ap (λ (s : State). s.claims) h.state;
    }

-- one more is set
pub called_set : (K : Type 0) (j join : Join) (old new : Machine) → IsSound old.follows old.teller → SetsJoin join old new → Called K j old new
called_set K j join old new sound h =
    let follows = new.follows in
    let found = still_found h.finds.words old.teller h.found h.finds.is in
    let walk = walk_then K follows j old.teller h.found new.teller (walk_still K follows j old.teller h.found found) (walk_turns K follows j old.own h.catches_up.settles.dues h.found new.teller h.catches_up.settles.are) in
    let there : AreThere (state_of old.teller.ledger) follows = subst (λ (l : List Join). AreThere (state_of old.teller.ledger) l) (sym h.set) (All-push (IsJoin (stages_of old.teller.ledger)) old.follows join sound.there h.there) in
    record {
      walk = walk;
      sound = record { there = follows_word old.teller.ledger new.teller.ledger follows walk.count there; none = h.catches_up.none };
      more = join ∷ [];
      follows = h.set;
    }

pub call : (K : Type 0) (j : Join) (old new : Machine) (out : Out) → (K → Contains old.follows j) → IsSound old.follows old.teller → IsCall old out new → Called K j old new
call K j old new out among sound (applies word lane reply none h) =
    let f = old.follows in
    let found = still_found h.finds.words old.teller h.found h.finds.is in
    called K j old new (ap (λ (m : Machine). m.follows) h.same)
    (walk_then K f j old.teller h.found new.teller (walk_still K f j old.teller h.found found)
    (walk_then K f j h.found h.between new.teller (walk_word K f j h.found h.between word reply among (none_still f old.teller h.found found sound.none) h.tells.tells)
    (walk_turns K f j old.own h.catches_up.settles.dues h.between new.teller h.catches_up.settles.are)))
    sound h.catches_up.none
call K j old new out among sound (goes_on who lane held next is h) =
    let f = old.follows in
    let found = still_step lane held old h.found h.finds in
    called K j old new (ap (λ (m : Machine). m.follows) h.same)
    (walk_then K f j old.teller h.found new.teller (walk_still K f j old.teller h.found found)
    (walk_then K f j h.found h.finished new.teller (walk_held K f j who held h.found next.finish h.finished among (none_still f old.teller h.found found sound.none) h.finishes)
    (walk_then K f j h.finished h.between new.teller (walk_turns K f j old.own h.catches_up.settles.dues h.finished h.between h.catches_up.settles.are)
    (walk_takes K f j who lane h.between next.taken new.teller among h.catches_up.none h.takes))))
    sound (none_takes f who lane h.between next.taken new.teller h.takes h.catches_up.none)
call K j old new out among sound (sets_join join none h) = called_set K j join old new sound h
call K j old new out among sound (sets_deadline deadline none h) =
    called_still K j old new (ap (λ (m : Machine). m.follows) h.same) (still_is old.teller new.teller (ap (λ (m : Machine). m.teller) h.same)) sound
call K j old new out among sound (forgets none forgotten same) =
    called_still K j old new (ap (λ (m : Machine). m.follows) same) (still_is old.teller new.teller (ap (λ (m : Machine). m.teller) same)) sound
call K j old new out among sound (passes moment none h) =
    let f = old.follows in
    called K j old new (ap (λ (m : Machine). m.follows) h.same)
    (walk_then K f j old.teller h.found new.teller (walk_still K f j old.teller h.found (still_found h.finds.words old.teller h.found h.finds.is))
    (walk_dues K f j (IsOverdue moment old.deadlines) old.own h.settles.dues h.found new.teller among h.settles.are))
    sound h.none.0
call K j old new out among sound (refuses lane code none h) =
    let f = old.follows in
    let found = with_memory (open_in old) old.teller in
    called K j old new (ap (λ (m : Machine). m.follows) h.same)
    (walk_then K f j old.teller found new.teller (walk_still K f j old.teller found (still_found (open_in old) old.teller found refl))
    (walk_dues K f j (IsRefused old.teller.lanes.of lane code) old.own h.settles.dues found new.teller among h.settles.are))
    sound h.none.0
call K j old new out among sound (cancels_all who none h) =
    let f = old.follows in
    let found = with_memory (open_in old) old.teller in
    let walk = walk_then K f j old.teller found new.teller (walk_still K f j old.teller found (still_found (open_in old) old.teller found refl))
    (walk_dues K f j IsCancelled who h.settles.dues found new.teller among h.settles.are) in
    called K j old new (ap (λ (m : Machine). m.follows) h.same) walk sound
    (none_all f (state_in new) (follows_word old.teller.ledger new.teller.ledger f walk.count sound.there) h.none)
call K j old new out among sound (took count is h) = called_still K j old new (ap (λ (m : Machine). m.follows) h.rest) (still_took count old new h) sound
call K j old new out among sound (grows none h) = called_still K j old new (ap (λ (m : Machine). m.follows) h.is) (still_grown old new h) sound
call K j old new out among sound (reserves words none is) =
    called_still K j old new (ap (λ (m : Machine). m.follows) is) (still_found words old.teller new.teller (ap (λ (m : Machine). m.teller) is)) sound
call K j old new out among sound (is_refused none h) =
    called_still K j old new (ap (λ (m : Machine). m.follows) h.same)
    (subst (λ (t : Teller). Still old.teller t) (sym (ap (λ (m : Machine). m.teller) h.same)) (still_free old.teller new.teller.ledger.free)) sound

-- ---- a row

pub row : (K : Type 0) (j : Join) (old new : Machine) (outs : List Out) → (K → Contains old.follows j) → IsSound old.follows old.teller → AreCalls old outs new → Called K j old new
row K j old new [] among sound same =
    called_still K j old new (ap (λ (m : Machine). m.follows) same) (still_is old.teller new.teller (ap (λ (m : Machine). m.teller) same)) sound
row K j old new (out ∷ outs) among sound (between, done, rest) =
    let one = call K j old between out among sound done in
    let on = row K j between new outs (λ k. subst (λ (l : List Join). Contains l j) (sym one.follows) (Contains-append_left old.follows one.more j (among k))) one.sound rest in
    let first = subst (λ (l : List Join). Walk K l j old.teller between.teller) (sym on.follows) (walk_more K between.follows on.more j old.teller between.teller one.walk) in
    record {
      walk = walk_then K new.follows j old.teller between.teller new.teller first on.walk;
      sound = on.sound;
      more = one.more ++ on.more;
      follows = on.follows ∙ ap (λ (l : List Join). l ++ on.more) one.follows ∙ append_assoc old.follows one.more on.more;
    }

-- nothing follows where a request is opened
pub sound_first : (m : Machine) → m.follows ≡ [] → IsSound m.follows m.teller
sound_first m none = subst (λ (l : List Join). IsSound l m.teller) (sym none) (record { there = All-nil (IsJoin (stages_of m.teller.ledger)); none = All-nil (IsNotBehind (state_in m).stages) })

pub sound_row : (old new : Machine) (outs : List Out) → IsSound old.follows old.teller → AreCalls old outs new → (Join → IsSound new.follows new.teller)
sound_row old new outs sound calls j = (row ⊥ j old new outs (λ k. absurd k) sound calls).sound

pub exact_by : (follows : List Join) (j : Join) (a b : Teller) → Contains follows j → NoneBehind follows (state_of b.ledger).stages → (is_settled_in (state_of b.ledger).stages j.stage ≡ false) ⊎ WasEnded follows j a b → IsExact follows j a b
exact_by follows j a b among none (inl still) =
    let stages = (state_of b.ledger).stages in
    inl (still, undecided_open stages j (All-contains (IsNotBehind stages) follows j none among) still)
exact_by follows j a b among none (inr e) = inr e

-- ---- the end of a scope

-- the events of stages that are settled one after another
pub events_in_turn : (P : Teller → Due → Type 0) (who : ℕ) (dues : List Due) (a b : Teller) → AreSettledInTurn P who a dues b → b.ledger.events ≡ a.ledger.events ++ map (λ (d : Due). settle_event who d.stage d.outcome) dues
events_in_turn P who [] a b same = ap (λ (t : Teller). t.ledger.events) same ∙ sym (append-nil a.ledger.events)
events_in_turn P who (d ∷ dues) a b (between, waits, due, did, rest) =
    let e = settle_event who d.stage d.outcome in
    let does = did.done.tells.tells.does in
    let is : does.event ≡ e = (let was = does.read in let now = did.done.read in cc) in
    let later = map (λ (d : Due). settle_event who d.stage d.outcome) dues in
    events_in_turn P who dues between b rest
    ∙ ap (λ (l : List Event). l ++ later) (ap (λ (l : Ledger). l.events) does.written ∙ ap (λ (x : Event). a.ledger.events ++ x ∷ []) is)
    ∙ append_assoc a.ledger.events (e ∷ []) later

-- settling a stage leaves the plan
settled_plan : (x : Option Outcome) (s : State) (i : ℕ) (o : Outcome) → (settled_by x s i o).1.plan ≡ s.plan
settled_plan None s i o = refl
settled_plan (Some p) s i o = refl

pub cancelled_plan : (x : Option Outcome) (s : State) (i : ℕ) → (cancelled_by x s i).1.plan ≡ s.plan
cancelled_plan None s i = refl
cancelled_plan (Some p) s i = refl

fault_plan : (s : State) (who i : ℕ) (cause : Cause) → (answered s (fault_event who i cause)).1.plan ≡ s.plan
fault_plan s who i (Thrown code) = settled_plan (outcome_at s i) s i (Fault (Thrown code) false)
fault_plan s who i Cancelled = cancelled_plan (outcome_at s i) s i
fault_plan s who i (TimedOut code) = settled_plan (outcome_at s i) s i (Fault (TimedOut code) false)
fault_plan s who i (BadAnswer code) = settled_plan (outcome_at s i) s i (Fault (BadAnswer code) false)

settle_plan : (s : State) (who i : ℕ) (o : Outcome) → (answered s (settle_event who i o)).1.plan ≡ s.plan
settle_plan s who i (Gives v) = settled_plan (outcome_at s i) s i (Gives v)
settle_plan s who i (Fault cause wrapped) = fault_plan s who i cause

-- what settles an open stage changes the stages so, and leaves the plan
settled_stages : (x : Option Outcome) (s : State) (i : ℕ) (o : Outcome) → x ≡ None → outcome_at s i ≡ None → (settled_by x s i o).1.stages ≡ new_states [] s.plan.stages (set s.stages i (Settled o))
settled_stages None s i o is none = after_stages s i o none
settled_stages (Some p) s i o is none = cc

pub cancelled_stages : (x : Option Outcome) (s : State) (i : ℕ) → x ≡ None → outcome_at s i ≡ None → (cancelled_by x s i).1.stages ≡ new_states [] s.plan.stages (set s.stages i (Settled (Fault Cancelled false)))
cancelled_stages None s i is none = after_stages s i (Fault Cancelled false) none
cancelled_stages (Some p) s i is none = cc

fault_stages : (s : State) (who i : ℕ) (cause : Cause) → outcome_at s i ≡ None → (answered s (fault_event who i cause)).1.stages ≡ new_states [] s.plan.stages (set s.stages i (Settled (Fault cause false)))
fault_stages s who i (Thrown code) none = settled_stages (outcome_at s i) s i (Fault (Thrown code) false) none none
fault_stages s who i Cancelled none = cancelled_stages (outcome_at s i) s i none none
fault_stages s who i (TimedOut code) none = settled_stages (outcome_at s i) s i (Fault (TimedOut code) false) none none
fault_stages s who i (BadAnswer code) none = settled_stages (outcome_at s i) s i (Fault (BadAnswer code) false) none none

settle_stages : (s : State) (who i : ℕ) (o : Outcome) → outcome_at s i ≡ None → (answered s (settle_event who i o)).1.stages ≡ new_states [] s.plan.stages (set s.stages i (Settled (raw o)))
settle_stages s who i (Gives v) none = settled_stages (outcome_at s i) s i (Gives v) none none
settle_stages s who i (Fault cause wrapped) none = fault_stages s who i cause none

-- a join is due only if a source of it was settled since
among_or : (stages : List Stage) (settled : List ℕ) (b : Bool) (i : ℕ) → is_among settled i ≡ b → (outcome_among stages settled i ≡ outcome_in stages i) ⊎ (outcome_among stages settled i ≡ None)
among_or stages settled true i is = inl (ap (λ (b : Bool). cond b (outcome_in stages i) None) is)
among_or stages settled false i is = inr (ap (λ (b : Bool). cond b (outcome_in stages i) None) is)

due_reached : (follows : List Join) (scope : ℕ) (o a : Teller) (d : Due) → NoneBehind follows (state_of o.ledger).stages → IsLater o.ledger a.ledger → Reaches follows scope (state_of o.ledger) (state_of a.ledger) → IsOpen (state_of a.ledger) d.stage → IsRelayDue follows a d →
    IsReached follows (state_of o.ledger) scope d.stage
due_reached follows scope o a d none later h waits first =
    let j = first.join in
    let old = (state_of o.ledger).stages in
    let now = (state_of a.ledger).stages in
    let due = first.due in
    let decided = due.decided in
    let seen = decided.front ++ decided.by ∷ [] in
    let among : Contains follows j = subst (λ (l : List Join). Contains l j) (sym first.is) (Contains-append_right first.front (j ∷ first.back) j (0, omega arith, refl)) in
    let still : is_settled_in old j.stage ≡ false = elim (tests (is_settled_in old j.stage)) [
      | inl was ↦ (let on = settled_since o.ledger a.ledger j.stage later was in let off = ap (is_settled_in now) due.stage ∙ waits.1 in let no : true ≡ false = sym on ∙ off in (let never : ⊥ = cc in absurd never))
      | inr off ↦ off
    ] in
    let undecided = undecided_open old j (All-contains (IsNotBehind old) follows j none among) still in
    elim (fewer_or (outcome_in old) (outcome_in now) (outcome_among now seen) (sources_of j) (λ i x e. outcome_since o.ledger a.ledger i x later e) (λ i. among_or now seen (is_among seen i) i refl)) [
      | inl fewer ↦ absurd (decided.decides (undecided_fewer (outcome_in old) (outcome_among now seen) j fewer undecided))
      | inr new ↦ subst (IsReached follows (state_of o.ledger) scope) due.stage (by_join new.stage j (h.news new.stage (ap is_some new.was) new.is) among new.among)
    ]

pub reaches_turns : (follows : List Join) (scope who : ℕ) (dues : List Due) (o a b : Teller) → NoneBehind follows (state_of o.ledger).stages → IsLater o.ledger a.ledger → Reaches follows scope (state_of o.ledger) (state_of a.ledger) → AreSettledInTurn (IsRelayDue follows) who a dues b →
    Reaches follows scope (state_of o.ledger) (state_of b.ledger)
reaches_turns follows scope who [] o a b none later h same = subst (λ (t : Teller). Reaches follows scope (state_of o.ledger) (state_of t.ledger)) (sym same) h
reaches_turns follows scope who (d ∷ dues) o a b none later h (between, waits, first, did, rest) =
    let s = state_of a.ledger in
    let open_now = none_is (outcome_in s.stages d.stage) waits.1 in
    let next = after_event (settle_event who d.stage d.outcome) a between did.reply did.done in
    let now = reaches_more follows scope (state_of o.ledger) s (state_of between.ledger) d.stage (raw d.outcome) h (reached_length a.ledger.plan a.ledger.events) (reached_closed a.ledger.plan a.ledger.events) open_now (due_reached follows scope o a d none later h waits first)
    (ap (λ (r : State). r.plan) next ∙ settle_plan s who d.stage d.outcome) (ap (λ (r : State). r.stages) next ∙ settle_stages s who d.stage d.outcome open_now) in
    reaches_turns follows scope who dues o between b none (later_then o.ledger a.ledger between.ledger later (onward_word a between (word_of (settle_event who d.stage d.outcome)) did.reply did.done.tells.tells).later) now rest

-- ---- stops

-- a stage that is settled isn't claimed any more
ready_waits : (x : Stage) (args : Args) → x ≡ Ready args → is_some (outcome_of x) ≡ true → ⊥
ready_waits x args is settled = let no : is_some (outcome_of (Ready args)) ≡ true = ap (λ (y : Stage). is_some (outcome_of y)) (sym is) ∙ settled in cc

-- an open claim of a settled stage was open before
claimed_before : (x : Stage) (s : State) (who k i w : ℕ) → stage_at s k ≡ x → is_settled_in s.stages i ≡ true → claim_at ((claimed_by x s who k).1) i ≡ Some w → claim_at s i ≡ Some w
claimed_before (Ready args) s who k i w is settled h = elim (claim_before_set s.claims k i (Some who) w h) [
  | inl here ↦ absurd (ready_waits (stage_at s k) args is (ap is_some (sym (outcome_stage (slice_get s.stages k))) ∙ ap (is_settled_in s.stages) (sym here.0) ∙ settled))
  | inr before ↦ before
]
claimed_before (Settled o) s who k i w is settled h = h
claimed_before Claimed s who k i w is settled h = h
claimed_before (Linked j) s who k i w is settled h = h
claimed_before Pending s who k i w is settled h = h

finished_before : (b : Bool) (s : State) (k i w : ℕ) (answer : Answer) → claim_at ((cond b (finished_by (outcome_at s k) (record s { claims = set s.claims k None }) k answer) (NotYours, s)).1) i ≡ Some w → claim_at s i ≡ Some w
finished_before true s k i w answer h =
    let closed : State = record s { claims = set s.claims k None } in
    (claim_before_close s.claims k i w (sym (same_claim i closed.claims ((finished_by (outcome_at s k) closed k answer).1.claims) (finished_claims (outcome_at s k) closed k answer)) ∙ h)).1
finished_before false s k i w answer h = h

attached_before : (room : ℕ) (s : State) (new : PlannedStage) (i w : ℕ) → claim_at ((attached_by room s new).1) i ≡ Some w → claim_at s i ≡ Some w
attached_before zero s new i w h = h
attached_before (suc room) s new i w h = claim_before_push s.claims i w h

claim_before : (s : State) (e : Event) (i w : ℕ) → is_settled_in s.stages i ≡ true → claim_at ((answered s e).1) i ≡ Some w → claim_at s i ≡ Some w
claim_before s (Completes who k v) i w settled h = sym (same_claim i s.claims _ (settled_claims (outcome_at s k) s k (Gives v))) ∙ h
claim_before s (Fails who k code) i w settled h = sym (same_claim i s.claims _ (settled_claims (outcome_at s k) s k (Fault (Thrown code) false))) ∙ h
claim_before s (FailsAs who k failure) i w settled h = sym (same_claim i s.claims _ (settled_claims (outcome_at s k) s k (Fault (cause_of failure) false))) ∙ h
claim_before s (Cancels who k) i w settled h = sym (same_claim i s.claims _ (cancelled_claims (outcome_at s k) s k)) ∙ h
claim_before s (Claims who k) i w settled h = claimed_before (stage_at s k) s who k i w refl settled h
claim_before s (Finishes who k answer) i w settled h = finished_before (option_map_or (λ c. c == who) (claim_at s k) false) s k i w answer h
claim_before s (Ticks who now) i w settled h = sym (same_claim i s.claims _ (ticked_claims s who now)) ∙ h
claim_before s (Attaches who form of function) i w settled h = attached_before s.plan.room s (attached_stage form of function) i w h

claim_before_all : (events : List Event) (s : State) (i w : ℕ) → is_settled_in s.stages i ≡ true → claim_at (state_after s events) i ≡ Some w → claim_at s i ≡ Some w
claim_before_all [] s i w settled h = h
claim_before_all (e ∷ events) s i w settled h =
    let next = (answered s e).1 in
    claim_before s e i w settled (claim_before_all events next i w (ap is_some (stays s e i settled) ∙ settled) h)

claim_since : (old new : Ledger) (i w : ℕ) → IsLater old new → is_settled_in (state_of old).stages i ≡ true → claim_at (state_of new) i ≡ Some w → claim_at (state_of old) i ≡ Some w
claim_since old new i w h settled now =
    claim_before_all h.more (roomier h.grown (state_of old)) i w settled (ap (λ (s : State). claim_at s i) (sym (state_later old new h)) ∙ now)

-- ---- which are told as stops

stopped_since : (old new : Ledger) (i w : ℕ) → IsLater old new → is_settled_in (state_of old).stages i ≡ true → claim_at (state_of new) i ≡ Some w → is_some (stopped_in (state_of old) i) ≡ true
stopped_since old new i w h settled is =
    ap (λ (b : Bool). is_some (cond b (claim_at (state_of old) i) None)) settled ∙ ap is_some (claim_since old new i w h settled is)

pub calls_of : (old new : Machine) (outs : List Out) (stops : List ℕ) → AreStops old outs stops new → AreCalls old outs new
calls_of old new [] stops h = h.1
calls_of old new (out ∷ outs) stops (between, rest, is, one, more) = (between, one, calls_of between new outs rest more)

told_none : (old : Teller) (out : Out) → out ≡ nothing → All (Contains old.told) out.told
told_none old out is = subst (λ (o : Out). All (Contains old.told) o.told) (sym is) (All-nil (Contains old.told))

told_job : (old : Teller) (who : ℕ) (taken : Option Taken) → All (Contains old.told) ((job_of who taken).told)
told_job old who None = All-nil (Contains old.told)
told_job old who (Some t) = All-nil (Contains old.told)

take_in : (n : ℕ) (xs : List ℕ) → All (Contains xs) (take n xs)
take_in n xs = λ k d l. subst (λ (ys : List ℕ). Contains ys (get_or (take n xs) k d)) (take-append-drop n xs) (Contains-append_left (take n xs) (drop n xs) (get_or (take n xs) k d) (at_place (take n xs) k d l))

-- what a call hands out as told was told
told_by : (old new : Machine) (out : Out) → IsCall old out new → All (Contains old.teller.told) out.told
told_by old new out (applies word lane reply none h) = told_none old.teller out none
told_by old new out (goes_on who lane held next is h) = subst (λ (o : Out). All (Contains old.teller.told) o.told) (sym is) (told_job old.teller who next.taken)
told_by old new out (sets_join join none h) = told_none old.teller out none
told_by old new out (sets_deadline deadline none h) = told_none old.teller out none
told_by old new out (forgets none forgotten same) = told_none old.teller out none
told_by old new out (passes moment none h) = told_none old.teller out none
told_by old new out (refuses lane code none h) = told_none old.teller out none
told_by old new out (cancels_all who none h) = told_none old.teller out none
told_by old new out (took count is h) = subst (λ (o : Out). All (Contains old.teller.told) o.told) (sym is) (take_in count old.teller.told)
told_by old new out (grows none h) = told_none old.teller out none
told_by old new out (reserves words none is) = told_none old.teller out none
told_by old new out (is_refused none h) = told_none old.teller out none

-- so it is settled
settled_told : (old new : Machine) (out : Out) (i : ℕ) → AreSettled old.teller.ledger (order_in old.teller) → IsCall old out new → Contains out.told i → is_settled_in (state_in old).stages i ≡ true
settled_told old new out i order one h =
    let all = (once old.teller.ledger (order_in old.teller) order).settled in
    let in_told = All-contains (Contains old.teller.told) out.told i (told_by old new out one) h in
    All-contains (λ (k : ℕ). is_settled_in (state_in old).stages k ≡ true) (order_in old.teller) i all (Contains-append_right old.teller.taken old.teller.told i in_told)

-- each whose claim is open still was told as a stop
pub all_stops : (old new : Machine) (outs : List Out) (stops : List ℕ) (i w : ℕ) → AreSettled old.teller.ledger (order_in old.teller) → AreStops old outs stops new → Contains (all_told outs) i → claim_at (state_in new) i ≡ Some w → Contains stops i
all_stops old new [] stops i w order h told is = (let l = told.1 in absurd (omega (arith, l)))
all_stops old new (out ∷ outs) stops i w order (between, rest, same, one, more) told is =
    let s = state_in old in
    let p = λ (k : ℕ). is_some (stopped_in s k) in
    let later = (adds_behind old new (out ∷ outs) (between, one, calls_of between new outs rest more)).later in
    subst (λ (l : List ℕ). Contains l i) (sym same) (elim (Contains-append_cases out.told (all_told outs) i told) [
      | inl here ↦ Contains-append_left (stops_of s out.told) rest i
          (contains_filter p out.told i (stopped_since old.teller.ledger new.teller.ledger i w later (settled_told old between out i order one here) is) here)
      | inr there ↦ Contains-append_right (stops_of s out.told) rest i (all_stops between new outs rest i w (settled_call old between out one order) more there is)
    ])

-- none is told twice
pub record AreApart (xs ys : List ℕ) : Type 0 where
  pub first : IsApart xs
  pub last : IsApart ys
  pub none : (i : ℕ) → Contains xs i → Contains ys i → ⊥

pub apart_parts : (xs ys : List ℕ) → IsApart (xs ++ ys) → AreApart xs ys
apart_parts [] ys h = record { first = tt; last = h; none = λ i k n. (let l = k.1 in absurd (omega (arith, l))) }
apart_parts (x ∷ xs) ys h =
    let rest = apart_parts xs ys h.1 in
    record {
      first = (λ k d l. All-contains (λ (y : ℕ). x ≢ y) (xs ++ ys) (get_or xs k d) h.0 (Contains-append_left xs ys (get_or xs k d) (at_place xs k d l)), rest.first);
      last = rest.last;
      none = λ i a b. elim (contains_cases x i xs a) [
        | inl same ↦ All-contains (λ (y : ℕ). x ≢ y) (xs ++ ys) i h.0 (Contains-append_right xs ys i b) same
        | inr there ↦ rest.none i there b
      ];
    }

filter_in : (p : ℕ → Bool) (xs : List ℕ) → All (Contains xs) (filter p xs)
filter_in p xs = All-filter p (Contains xs) xs (λ k d l. at_place xs k d l)

apart_cond : (b : Bool) (x : ℕ) (xs : List ℕ) → All (λ y. x ≢ y) xs → IsApart xs → IsApart (cond b (x ∷ xs) xs)
apart_cond true x xs h k = (h, k)
apart_cond false x xs h k = k

apart_filter : (p : ℕ → Bool) (xs : List ℕ) → IsApart xs → IsApart (filter p xs)
apart_filter p [] h = tt
apart_filter p (x ∷ xs) h = apart_cond (p x) x (filter p xs) (All-filter p (λ y. x ≢ y) xs h.0) (apart_filter p xs h.1)

pub told_stops : (old new : Machine) (outs : List Out) (stops : List ℕ) → AreStops old outs stops new → All (Contains (all_told outs)) stops
told_stops old new [] stops h = subst (All (Contains [])) (sym h.0) (All-nil (Contains []))
told_stops old new (out ∷ outs) stops (between, rest, same, one, more) =
    let here = stops_of (state_in old) out.told in
    let all = all_told outs in
    subst (All (Contains (out.told ++ all))) (sym same)
    (All-append (Contains (out.told ++ all)) here rest
    (All-weaker (Contains out.told) (Contains (out.told ++ all)) (λ i h. Contains-append_left out.told all i h) here (filter_in (λ (k : ℕ). is_some (stopped_in (state_in old) k)) out.told))
    (All-weaker (Contains all) (Contains (out.told ++ all)) (λ i h. Contains-append_right out.told all i h) rest (told_stops between new outs rest more)))

pub apart_stops : (old new : Machine) (outs : List Out) (stops : List ℕ) → AreStops old outs stops new → IsApart (all_told outs) → IsApart stops
apart_stops old new [] stops h apart = subst IsApart (sym h.0) tt
apart_stops old new (out ∷ outs) stops (between, rest, same, one, more) apart =
    let p = λ (k : ℕ). is_some (stopped_in (state_in old) k) in
    let parts = apart_parts out.told (all_told outs) apart in
    let inside = told_stops between new outs rest more in
    subst IsApart (sym same)
    (apart_append (filter p out.told) rest (apart_filter p out.told parts.first) (apart_stops between new outs rest more parts.last)
    (λ i a b. parts.none i (All-contains (Contains out.told) (filter p out.told) i (filter_in p out.told) a) (All-contains (Contains (all_told outs)) rest i inside b)))

-- ---- a compose that is linked

-- and so does settling one after another
pub plan_in_turn : (P : Teller → Due → Type 0) (who : ℕ) (dues : List Due) (a b : Teller) → AreSettledInTurn P who a dues b → (state_of b.ledger).plan ≡ (state_of a.ledger).plan
plan_in_turn P who [] a b same = ap (λ (t : Teller). (state_of t.ledger).plan) same
plan_in_turn P who (d ∷ dues) a b (between, waits, due, did, rest) =
    plan_in_turn P who dues between b rest ∙ ap (λ (s : State). s.plan) (after_event (settle_event who d.stage d.outcome) a between did.reply did.done) ∙ settle_plan (state_of a.ledger) who d.stage d.outcome

-- it is linked by its finish
pub finish_links : (who : ℕ) (composed : Composed) (f : Finish) (a b : Teller) (reply : Reply) → HasWord (Finishes who composed.stage (Link composed.relay)) → composes (form_at (state_of a.ledger).plan.stages composed.stage) ≡ true → composed.relay < composed.stage → f.late ≡ false →
    f.word ≡ word_of (Finishes who composed.stage (Link composed.relay)) → reply ≡ ToldFinish (finished_as f.late) → Tells f.word a reply b → IsLinkedNow composed.stage composed.relay (state_of b.ledger)
finish_links who composed f a b reply named form lower late word is t =
    let e = Finishes who composed.stage (Link composed.relay) in
    let does = t.does in
    let event : does.event ≡ e = (let was = does.read in let here = ap event_of word in cc) in
    let won : reply ≡ ToldFinish Won = is ∙ ap (λ (b : Bool). let r : Reply = ToldFinish (finished_as b) in r) late in
    let told : (ToldFinish Won, state_of b.ledger) ≡ answered (state_of a.ledger) e = ap (λ (r : Reply). (r, state_of b.ledger)) (sym won) ∙ does.told ∙ ap (answered (state_of a.ledger)) event in
    let fits = subst (EventFits (stages_of a.ledger)) event does.taken.fits in
    let all = reached_length a.ledger.plan a.ledger.events in
    let there : composed.stage < length (state_of a.ledger).stages = omega (arith, fits, all) in
    linked_now composed.stage composed.relay who (state_of a.ledger) (state_of b.ledger) form lower there told

-- and ends as its relay from then on
pub ends_by : (stage other : ℕ) (old b new : Teller) → IsOnward old b → IsOnward b new → (IsLinkedTo stage other (state_of b.ledger) → Comes stage other b new) → IsLinkedNow stage other (state_of b.ledger) → EndsAs stage other old new
ends_by stage other old b new before behind comes (inr taken) = inr (inl (taken_since stage other b new behind taken))
ends_by stage other old b new before behind comes (inl link) = elim (comes link) [
  | inl still ↦ inl (both_open stage other (state_of new.ledger) (reached_closed new.ledger.plan new.ledger.events) (link_there stage other new still) still)
  | inr rest ↦ elim rest [
    | inl taken ↦ inr (inl taken)
    | inr first ↦ inr (inr (first_front stage other old b new before first))
  ]
]

-- a relay is settled once the stage is
pub relay_ended : (s : State) (follows : List Join) (j : Join) (relay stage : ℕ) → AreThere s follows → NoneBehind follows s.stages → Contains follows j → IsFollow relay stage j → is_settled_in s.stages stage ≡ true → is_settled_in s.stages relay ≡ true
relay_ended s follows j relay stage there none among h ended =
    let n = length s.plan.stages in
    let join : IsJoin n j = All-contains (IsJoin n) follows j there among in
    let behind : IsNotBehind s.stages j = All-contains (IsNotBehind s.stages) follows j none among in
    let is = some_of (outcome_in s.stages stage) ended in
    subst (λ (i : ℕ). is_settled_in s.stages i ≡ true) h.same (behind (decided_one (outcome_in s.stages) n j is.0 join h.none (ap (outcome_in s.stages) h.source ∙ is.1)))

-- ---- a relay

-- a join of one that follows ends as its source, raw
raw_of : (j : Join) (o : Outcome) → j.cancels ≡ false → j.wanted ≡ 1 → ending_by j o ≡ raw o
raw_of j (Gives v) cancels one = ap (λ (b : Bool). cond b (Fault Cancelled false) (ending_of j (Gives v))) cancels ∙ ap (λ (n : ℕ). let x : Outcome = Gives (cond (n == 1) v Nil) in x) one
raw_of j (Fault cause wrapped) cancels one = ap (λ (b : Bool). cond b (Fault Cancelled false) (Fault cause false)) cancels

contains_first : (x y : Join) (xs : List Join) → Contains (x ∷ xs) y → (x ≡ y) ⊎ Contains xs y
contains_first x y xs (zero, l, e) = inl e
contains_first x y xs (suc k, l, e) = inr (k, omega (arith, l), e)

-- where the machine settled the first join that was due, that was the relay's, or one that was set before
followed_by : (follows : List Join) (j : Join) (relay stage n : ℕ) (o : Outcome) (old new : Teller) → IsFollow relay stage j → IsJoin n j → (was : WasSettled relay old new) → (f : SettlesFirst follows relay was.before was.after was.tells.does.event) →
    outcome_in (state_of was.before.ledger).stages stage ≡ Some o → (f.first.join ≡ j) ⊎ Contains f.first.back j → HasFollowed relay stage (state_of new.ledger) ⊎ WasOvertaken follows relay stage old new
followed_by follows j relay stage n o old new is join was f ended (inr behind) = inr (record {
  join = j;
  is = is;
  was = was;
  how = inr (record { turn = f; behind = behind });
})
followed_by follows j relay stage n o old new is join was f ended (inl same) =
    let stages = (state_of was.before.ledger).stages in
    let order = order_in was.before in
    let due : IsDueBy stages order j f.due = subst (λ (x : Join). IsDueBy stages order x f.due) same f.first.due in
    let by = source_decides stages order n j due.outcome join is.none due.decided in
    let one : outcome_in stages stage ≡ Some due.outcome = ap (outcome_in stages) (sym is.source) ∙ by in
    let ends : f.due.outcome ≡ raw due.outcome = due.ends ∙ raw_of j due.outcome is.cancels is.one in
    let word = onward_word was.before was.after was.word was.reply was.tells in
    inl (record {
      outcome = due.outcome;
      given = outcome_since was.after.ledger new.ledger stage due.outcome was.rest.later (outcome_since was.before.ledger was.after.ledger stage due.outcome word.later one);
      followed = outcome_since was.after.ledger new.ledger relay (raw due.outcome) was.rest.later (f.ends (sym due.stage ∙ is.same) ∙ ap (λ (x : Outcome). Some x) ends);
    })

-- the relay's join isn't among those that weren't behind
followed_at : (follows : List Join) (j : Join) (relay stage n : ℕ) (o : Outcome) (old new : Teller) → IsFollow relay stage j → IsJoin n j → Contains follows j → (was : WasSettled relay old new) →
    (f : SettlesFirst follows relay was.before was.after was.tells.does.event) → outcome_in (state_of was.before.ledger).stages stage ≡ Some o → HasFollowed relay stage (state_of new.ledger) ⊎ WasOvertaken follows relay stage old new
followed_at follows j relay stage n o old new is join among was f ended =
    let stages = (state_of was.before.ledger).stages in
    let first = f.first in
    elim (Contains-append_cases first.front (first.join ∷ first.back) j (subst (λ (l : List Join). Contains l j) first.is among)) [
      | inl front ↦ (let behind : IsNotBehind stages j = All-contains (IsNotBehind stages) first.front j first.first front in
          let settled = behind (decided_one (outcome_in stages) n j o join is.none (ap (outcome_in stages) is.source ∙ ended)) in
          let no : true ≡ false = sym settled ∙ ap (is_settled_in stages) is.same ∙ was.open_then in
          (let never : ⊥ = cc in absurd never))
      | inr rest ↦ followed_by follows j relay stage n o old new is join was f ended (contains_first first.join j first.back rest)
    ]

followed_if : (follows : List Join) (j : Join) (relay stage n : ℕ) (x : Option Outcome) (old new : Teller) → IsFollow relay stage j → IsJoin n j → Contains follows j → (was : WasSettled relay old new) → outcome_in (state_of was.before.ledger).stages stage ≡ x →
    IsUndecided (outcome_in (state_of was.before.ledger).stages) j ⊎ SettlesFirst follows relay was.before was.after was.tells.does.event → HasFollowed relay stage (state_of new.ledger) ⊎ WasOvertaken follows relay stage old new
followed_if follows j relay stage n None old new is join among was ended how = inr (record { join = j; is = is; was = was; how = inl (ap is_some ended) })
followed_if follows j relay stage n (Some o) old new is join among was ended (inr f) = followed_at follows j relay stage n o old new is join among was f ended
followed_if follows j relay stage n (Some o) old new is join among was ended (inl undecided) =
    absurd (decided_one (outcome_in (state_of was.before.ledger).stages) n j o join is.none (ap (outcome_in (state_of was.before.ledger).stages) is.source ∙ ended) undecided)

both_by : (s : State) (j : Join) (relay stage n : ℕ) (x : Option Outcome) → IsFollow relay stage j → IsJoin n j → is_settled_in s.stages relay ≡ false → IsUndecided (outcome_in s.stages) j → outcome_in s.stages stage ≡ x → AreBothOpen relay stage s
both_by s j relay stage n None is join still undecided ended = record { stage_open = still; other_open = ap is_some ended }
both_by s j relay stage n (Some o) is join still undecided ended = absurd (decided_one (outcome_in s.stages) n j o join is.none (ap (outcome_in s.stages) is.source ∙ ended) undecided)

pub follows_exactly : (follows : List Join) (j : Join) (relay stage n : ℕ) (old new : Teller) → IsFollow relay stage j → IsJoin n j → Contains follows j → IsExact follows j old new → FollowsExactly follows relay stage old new
follows_exactly follows j relay stage n old new is join among (inl h) =
    let s = state_of new.ledger in
    inl (both_by s j relay stage n (outcome_in s.stages stage) is join (ap (is_settled_in s.stages) (sym is.same) ∙ h.0) h.1 refl)
follows_exactly follows j relay stage n old new is join among (inr h) =
    let w = h.was in
    let was : WasSettled relay old new = record {
      before = w.before;
      after = w.after;
      word = w.word;
      reply = w.reply;
      since = w.since;
      tells = w.tells;
      rest = w.rest;
      open_then = ap (is_settled_in (state_of w.before.ledger).stages) (sym is.same) ∙ w.open_then;
      settled = ap (is_settled_in (state_of w.after.ledger).stages) (sym is.same) ∙ w.settled;
    } in
    let how : IsUndecided (outcome_in (state_of w.before.ledger).stages) j ⊎ SettlesFirst follows relay w.before w.after w.tells.does.event =
    subst (λ (i : ℕ). IsUndecided (outcome_in (state_of w.before.ledger).stages) j ⊎ SettlesFirst follows i w.before w.after w.tells.does.event) is.same h.how in
    inr (followed_if follows j relay stage n (outcome_in (state_of w.before.ledger).stages stage) old new is join among was refl how)

-- and so is the compose
pub compose_ended : (stage other : ℕ) (old new : Teller) → EndsAs stage other old new → is_settled_in (state_of new.ledger).stages other ≡ true → is_settled_in (state_of new.ledger).stages stage ≡ true
compose_ended stage other old new (inl both) is = (let no : true ≡ false = sym is ∙ both.other_open in let never : ⊥ = cc in absurd never)
compose_ended stage other old new (inr (inl taken)) is = ap is_some taken.taken
compose_ended stage other old new (inr (inr first)) is = settled_since first.was.after.ledger new.ledger stage first.was.rest.later first.was.settled
