-- The word that fails a stage of a session that is gone.
use Rattle.std.proofs.Common.{◌≡◌, ℕ, ◌<◌, ◌≤◌, ◌⊎◌, inl, inr, true, false, List, [], ◌∷◌, Contains, ap, sym, subst, refl, arith}
use Rattle.std.specs.Prelude.{Option, Some, None}
use Rattle.std.proofs.lemmas.Nat.{mod_below}
use Rattle.cf_model.specs.declared.events.Event.{Event}
use Rattle.cf_model.specs.declared.events.Event.TheVariants.{Complete as Completes, Fail as Fails, FailAs as FailsAs, Cancel as Cancels, Claim as Claims, Finish as Finishes, Tick as Ticks, Attach as Attaches}
use Rattle.cf_model.specs.declared.events.Reply.TheVariants.{Flag as ToldFlag}
use Rattle.cf_outcome.specs.declared.outcome.Outcome.{Outcome}
use Rattle.cf_outcome.specs.declared.outcome.Outcome.TheVariants.{Fault}
use Rattle.cf_outcome.specs.declared.outcome.Cause.TheVariants.{Thrown}
use Rattle.cf_model.specs.Calls.{who_of}
use Rattle.cf_model.specs.States.{State, outcome_at}
use Rattle.cf_model.specs.Events.{settled_by}
use Rattle.cf_event.specs.Words.{IsEvent, word_of}
use Rattle.cf_event.specs.Decoding.{event_of}
use Rattle.cf_event.proofs.WordLemmas.{event_of_is}
use Rattle.cf_row.specs.declared.entry.Entry.{Entry}
use Rattle.cf_row.specs.Numbers.{FollowsRule}
use Rattle.cf_row.specs.Rows.{Replica, stages_of, state_of}
use Rattle.cf_row.specs.Grants.{IsHeldBy, NoneHeldBy}
use Rattle.cf_row.specs.Abandoning.{Abandons}
use Rattle.cf_row.specs.Puts.{attached_by, pair_of, pairs_of, who_at, who_by}
use Rattle.cf_row.proofs.Elements.{contains_cases, contains_none}

-- ---- a caller's number is below 64

who_small : (e : Event) → IsEvent e → who_of e ≤ 63
who_small (Completes who i v) h = h.0
who_small (Fails who i code) h = h.0
who_small (FailsAs who i failure) h = h.0
who_small (Cancels who i) h = h.0
who_small (Claims who i) h = h.0
who_small (Finishes who i answer) h = h.0
who_small (Ticks who now) h = h.0
who_small (Attaches who form of function) h = h.0

by_small : (w : ℕ) (o : Option Event) → event_of w ≡ o → who_by o ≤ 63
by_small w None is = omega arith
by_small w (Some e) is = who_small e (event_of_is w e is).0

seen_small : (seen : List Entry) (s who : ℕ) → Contains (pairs_of seen) (s, who) → who ≤ 63
seen_small [] s who h = absurd (contains_none (s, who) h)
seen_small (x ∷ seen) s who h = by_place (seen_small seen s who) (contains_cases (pair_of x) (s, who) (pairs_of seen) h)
  where
    by_place : (Contains (pairs_of seen) (s, who) → who ≤ 63) → (pair_of x ≡ (s, who)) ⊎ Contains (pairs_of seen) (s, who) → who ≤ 63
    by_place later (inl e) =
        let is : who_at x.word ≡ who = ap (λ (p : ℕ × ℕ). p.1) e in
        let small = by_small x.word (event_of x.word) refl in
        omega (arith, is, small)
    by_place later (inr g) = later g

pub rule_small : (seen : List Entry) (s who : ℕ) → FollowsRule (pairs_of seen) (s, who) → who ≤ 63
rule_small seen s who (inl h) = seen_small seen s who h
rule_small seen s who (inr (inl n)) = let small = n.small in omega (arith, small)
rule_small seen s who (inr (inr l)) =
    let is = l.shares in
    let small = mod_below s 64 (omega arith) in
    omega (arith, is, small)

-- ---- an open stage is failed

settles_by : (x : Option Outcome) (s : State) (i : ℕ) (o : Outcome) → x ≡ None → ToldFlag ((settled_by x s i o).0) ≡ ToldFlag true
settles_by None s i o is = refl
settles_by (Some old) s i o is = (let no : ⊥ = cc in absurd no)

pub abandons : (r : Replica) (session from code who i w : ℕ) → FollowsRule (pairs_of r.seen) (r.session, who) → IsHeldBy r session i → from ≤ i → NoneHeldBy r session from i →
    i < stages_of r → w ≡ word_of (Fails who i code) → event_of w ≡ Some (Fails who i code) → Abandons r session from code w
abandons r session from code who i w rule held above first there word back = record {
  who = who;
  stage = i;
  rule = rule;
  held = held;
  above = above;
  first = first;
  is = word;
  fits = (
    record {
      event = Fails who i code;
      read = back;
      named = sym word;
      is = (event_of_is w (Fails who i code) back).0;
      mine = refl;
      fits = there;
      left = subst (λ (o : Option Event). attached_by o ≤ (state_of r).plan.room) (sym back) (omega arith);
    },
    tt,
  );
  settles = settles_by (outcome_at (state_of r) i) (state_of r) i (Fault (Thrown code) false) held.unsettled;
}
