-- Stages as they are gathered, and a machine's calls behind them.
use Rattle.std.proofs.Common.{◌≡◌, ℕ, true, ◌+◌, ◌<◌, ◌≤◌, drop, length, length-append, length-drop, map, take, Option, Some, None, List, [], ◌∷◌, ◌++◌, All, refl, ap, sym, ◌∙◌, arith, subst, inl, inr, ◌⊎◌}
use Rattle.std.specs.Prelude.{is_some, option_and_then, slice_get, unwrap_or}
use Rattle.std.proofs.lemmas.List.Elements.{All-head, All-tail, All-weaker}
use Rattle.cf_outcome.specs.declared.outcome.Outcome.{Outcome}
use Rattle.cf_forms.specs.declared.forms.Of.{Of}
use Rattle.cf_forms.specs.declared.forms.Of.TheVariants.{Two}
use Rattle.cf_forms.specs.Plans.{PlannedStage, attached_stage, sources_of}
use Rattle.cf_forms.proofs.ListLemmas.{slice_get-longer, slice_get-seam}
use Rattle.cf_model.specs.declared.events.Event.{Event}
use Rattle.cf_model.specs.declared.stage.Stage.{Stage}
use Rattle.cf_model.specs.declared.stage.Stage.TheVariants.{Pending}
use Rattle.cf_model.specs.Events.{state_after}
use Rattle.cf_model.specs.States.{State, claim_at, due_state, next_of, outcome_in, outcome_of, start}
use Rattle.cf_forms.specs.Forms.{follows}
use Rattle.cf_forms.specs.Plans.{Planned}
use Rattle.cf_model.proofs.Closed.{reached_length}
use Rattle.cf_model.proofs.OpenClaims.{claim_before_push}
use Rattle.cf_ledger.specs.Ledgers.{Ledger, roomier, stages_of, state_at, state_of, with_more}
use Rattle.cf_ledger.proofs.Words.{all_claims}
use Rattle.cf_request.specs.Attaching.{TellsAttach, TellsAttaches}
use Rattle.cf_request.specs.Gathering.{Gathers, attaches, first_two, form_of, gathered, joins}
use Rattle.cf_request.specs.Machines.{Machine, stages_in, state_in}
use Rattle.cf_request.specs.Rows.{IsLater}
use Rattle.cf_request.specs.Telling.{Teller, is_settled_in}
use Rattle.cf_request.specs.declared.gathering.Gathering.{Gathering}
use Rattle.cf_request.specs.declared.gathering.Gathering.TheVariants.{AllOf, AnyOf}
use Rattle.cf_request.proofs.Attached.{attaches_one, outcome_stays, stages_attached, state_attached}
use Rattle.cf_request.proofs.Gathered.{pair_there, rest_there, row_gathers, gathers_count, two_there}
use Rattle.cf_request.proofs.Rows.{adds_behind}
use Rattle.cf_request_laws.specs.Roots.{AllOfRootsAreAsOne, AnyOfRootsHaveTheFirst, AreGathered, RootsAreInTime, RootsEndAsOne, events_in}
use Rattle.cf_request_laws.proofs.Histories.{all_as_one, any_has_the_first, ends_as_one, in_time, state_last}
use Rattle.cf_request_laws.proofs.Stages.{IsHeld, IsPending, IsSound, map_same, waits_by}
use Rattle.cf_request_laws.proofs.Trees.{EachJoin, EachOf, beginning, joining, map_each}

-- ---- one stage more

-- nobody has a claim of it
claim_behind : (xs : List (Option ℕ)) (w : ℕ) → unwrap_or (slice_get xs (length xs)) None ≡ Some w → ⊥
claim_behind [] w h = cc
claim_behind (x ∷ xs) w h = claim_behind xs w h

-- it waits, or is settled
begins_by : (how : Gathering) (stage : ℕ) (q : List (Option Outcome)) (t : State) (x : Option Outcome) → gathered how q ≡ x → slice_get t.stages stage ≡ Some (due_state (follows (form_of how) q)) → ((w : ℕ) → claim_at t stage ≡ Some w → ⊥) →
    IsPending stage t ⊎ (is_settled_in t.stages stage ≡ true)
begins_by how stage q t None is here unclaimed = inl (record { pending = here ∙ ap (λ (y : Stage). Some y) (waits_by how q is); unclaimed = unclaimed })
begins_by how stage q t (Some o) is here unclaimed = inr (ap is_some (ap (option_and_then outcome_of) here ∙ is))

-- the others stay as they are
keeps_sound : (who : ℕ) (how : Gathering) (of : Of) (a b : Teller) (stage : ℕ) (p : PlannedStage) → 0 < (state_of a.ledger).plan.room → TellsAttach 0 (attaches who how of) a b → stage < stages_of a.ledger → IsSound how stage p (state_of a.ledger) → IsSound how stage p (state_of b.ledger)
keeps_sound who how of a b stage p room done l h =
    let s = state_of a.ledger in
    let t = state_of b.ledger in
    let new = attached_stage (form_of how) of None in
    let next = state_attached who (form_of how) of None 0 a b room done in
    let y = next_of s.stages (form_of how) (sources_of of) Pending in
    let stages = stages_attached who (form_of how) of None 0 a b room done in
    let same = λ (i : ℕ) (k : i < stages_of a.ledger). outcome_stays who (form_of how) of None 0 a b i room done k in
    let here = same stage l in
    let below = All-weaker (λ (i : ℕ). i < stage) (λ (i : ℕ). outcome_in t.stages i ≡ outcome_in s.stages i) (λ i k. same i (omega (arith, k, l))) p.sources h.is.lower in
    record {
      is = record { planned = ap (λ (r : State). slice_get r.plan.stages stage) next ∙ slice_get-longer s.plan.stages (new ∷ []) stage p h.is.planned; form = h.is.form; lower = h.is.lower };
      state = elim h.state [
        | inl pending ↦ inl (record {
          pending = ap (λ (xs : List Stage). slice_get xs stage) stages ∙ slice_get-longer s.stages (y ∷ []) stage Pending pending.pending;
          unclaimed = λ w now. pending.unclaimed w (claim_before_push s.claims stage w (ap (λ (r : State). claim_at r stage) (sym next) ∙ now));
        })
        | inr on ↦ inr (ap is_some here ∙ on)
      ];
      same = here ∙ h.same ∙ ap (gathered how) (sym (map_same t.stages s.stages p.sources below));
    }

-- and it takes what its sources give
begins_sound : (who : ℕ) (how : Gathering) (of : Of) (a b : Teller) → 0 < (state_of a.ledger).plan.room → TellsAttach 0 (attaches who how of) a b → All (λ i. i < stages_of a.ledger) (sources_of of) →
    IsSound how (stages_of a.ledger) (attached_stage (form_of how) of None) (state_of b.ledger)
begins_sound who how of a b room done there =
    let s = state_of a.ledger in
    let t = state_of b.ledger in
    let n = length s.plan.stages in
    let new = attached_stage (form_of how) of None in
    let next = state_attached who (form_of how) of None 0 a b room done in
    let y = next_of s.stages (form_of how) (sources_of of) Pending in
    let stages = stages_attached who (form_of how) of None 0 a b room done in
    let q = map (outcome_in s.stages) (sources_of of) in
    let count : length s.stages ≡ n = reached_length a.ledger.plan a.ledger.events in
    let claims : length s.claims ≡ n = all_claims a.ledger.plan a.ledger.events in
    let here : slice_get t.stages n ≡ Some y = ap (λ (xs : List Stage). slice_get xs n) stages ∙ ap (slice_get (s.stages ++ y ∷ [])) (sym count) ∙ slice_get-seam s.stages y [] in
    let below = All-weaker (λ (i : ℕ). i < n) (λ (i : ℕ). outcome_in t.stages i ≡ outcome_in s.stages i) (λ i k. outcome_stays who (form_of how) of None 0 a b i room done k) (sources_of of) there in
    record {
      is = record { planned = ap (λ (r : State). slice_get r.plan.stages n) next ∙ slice_get-seam s.plan.stages new []; form = refl; lower = there };
      state = begins_by how n q t (gathered how q) refl here
          (λ w now. claim_behind s.claims w (ap (claim_at s) claims ∙ claim_before_push s.claims n w (ap (λ (r : State). claim_at r n) (sym next) ∙ now)));
      same = ap (option_and_then outcome_of) here ∙ ap (gathered how) (sym (map_same t.stages s.stages (sources_of of) below));
    }

-- ---- all of them

-- those that join are sound in the end, and those that were there stay so
record RowIsSound (how : Gathering) (next before : ℕ) (sources : List ℕ) (a end : Teller) : Type 0 where
  each : EachJoin (λ stage p. IsSound how stage p (state_of end.ledger)) how next before sources
  keeps : (stage : ℕ) (p : PlannedStage) → stage < stages_of a.ledger → IsSound how stage p (state_of a.ledger) → IsSound how stage p (state_of end.ledger)

joins_sound : (who : ℕ) (how : Gathering) (next before : ℕ) (sources : List ℕ) (a end : Teller) → next ≡ stages_of a.ledger → before < next → All (λ i. i < next) sources → length sources ≤ (state_of a.ledger).plan.room → TellsAttaches 0 (joins who how next before sources) a end →
    RowIsSound how next before sources a end
joins_sound who how next before [] a end at lower there room same = record { each = tt; keeps = λ stage p l h. subst (λ (t : Teller). IsSound how stage p (state_of t.ledger)) (sym same) h }
joins_sound who how next before (x ∷ sources) a end at lower there room (between, done, rest) =
    let some : 0 < (state_of a.ledger).plan.room = omega (arith, room) in
    let of : Of = Two before x in
    let one = attaches_one who (form_of how) of None 0 a between some done in
    let more = one.count in
    let left = one.room in
    let head = All-head (λ i. i < next) x sources there in
    let tail = All-tail (λ i. i < next) x sources there in
    let both = pair_there before x (stages_of a.ledger) (omega (arith, lower, at)) (omega (arith, head, at)) in
    let new = subst (λ (n : ℕ). IsSound how n (joining how before x) (state_of between.ledger)) (sym at) (begins_sound who how of a between some done both) in
    let row = joins_sound who how (next + 1) next sources between end (omega (arith, at, more)) (omega arith) (All-weaker (λ (i : ℕ). i < next) (λ (i : ℕ). i < next + 1) (λ i l. omega (arith, l)) sources tail)
    (omega (arith, room, left)) rest in
    record {
      each = (row.keeps next (joining how before x) (omega (arith, at, more)) new, row.each);
      keeps = λ stage p l h. row.keeps stage p (omega (arith, l, more)) (keeps_sound who how of a between stage p some done l h);
    }

-- the stages as they are attached, and which is the root
record Begins (how : Gathering) (sources : List ℕ) (root first : ℕ) (s : State) : Type 0 where
  each : EachOf (λ stage p. IsSound how stage p s) how first sources
  last : first + length (drop 2 sources) ≡ root

begins : (who : ℕ) (how : Gathering) (sources : List ℕ) (root : ℕ) (old attached : Machine) → Gathers who how sources old root attached → Begins how sources root (stages_in old) (state_in attached)
begins who how sources root old attached h =
    let may = h.may in
    let a = h.found in
    let n = stages_in old in
    let same : state_of a.ledger ≡ state_in old = ap (λ (t : Teller). state_of t.ledger) h.finds.is in
    let count : stages_of a.ledger ≡ n = ap (λ (t : State). length t.plan.stages) same in
    let place = ap (λ (t : State). t.plan.room) same in
    let tells = h.tells in
    let between = tells.0 in
    let done = tells.1 in
    let room = may.room in
    let of = first_two sources in
    let some : 0 < (state_of a.ledger).plan.room = omega (arith, room, place) in
    let one = attaches_one who (form_of how) of None 0 a between some done in
    let more = one.count in
    let left = one.room in
    let size = length-drop 2 sources in
    let there = two_there sources (stages_of a.ledger) (subst (λ (k : ℕ). All (λ i. i < k) sources) (sym count) may.there) in
    let new = subst (λ (k : ℕ). IsSound how k (beginning how sources) (state_of between.ledger)) count (begins_sound who how of a between some done there) in
    let row = joins_sound who how (n + 1) n (drop 2 sources) between attached.teller (omega (arith, more, count)) (omega arith) (rest_there sources 2 n (n + 1) (omega arith) may.there) (omega (arith, room, place, left, size)) tells.2 in
    let all = (row_gathers who how n sources a attached.teller (omega (arith, room, place)) h.tells).count in
    let stages = gathers_count who how n sources in
    let is = h.is_root in
    record {
      each = (row.keeps n (beginning how sources) (omega (arith, more, count)) new, row.each);
      last = omega (arith, is, all, stages, count, size);
    }

-- ---- from there on

take_front : (xs ys : List Event) → take (length xs) (xs ++ ys) ≡ xs
take_front [] [] = refl
take_front [] (y ∷ ys) = refl
take_front (x ∷ xs) ys = ap (λ (l : List Event). x ∷ l) (take_front xs ys)

-- the state at that place, with the room that was given since
state_there : (old new : Ledger) → (h : IsLater old new) → state_at new (length old.events) ≡ roomier h.grown (state_of old)
state_there old new h =
    let n = length old.events in
    ap (λ (es : List Event). state_after (start new.plan) es) (ap (take n) h.events ∙ take_front old.events h.more)
    ∙ ap (λ (plan : Planned). state_after (start plan) old.events) h.plan
    ∙ sym (state_last (with_more old h.grown)) ∙ h.states n ∙ ap (roomier h.grown) (state_last old)

sound_roomier : (how : Gathering) (more stage : ℕ) (p : PlannedStage) (s : State) → IsSound how stage p s → IsSound how stage p (roomier more s)
sound_roomier how more stage p s h = record {
  is = record { planned = h.is.planned; form = h.is.form; lower = h.is.lower };
  state = elim h.state [ inl pending ↦ inl (record { pending = pending.pending; unclaimed = pending.unclaimed }) | inr on ↦ inr on ];
  same = h.same;
}

-- the history goes on behind that place
record GoesOn (how : Gathering) (sources : List ℕ) (first root from : ℕ) (l : Ledger) : Type 0 where
  each : EachOf (λ stage p. IsSound how stage p (state_at l from)) how first sources
  last : first + length (drop 2 sources) ≡ root
  within : from ≤ length l.events

goes_on : (who : ℕ) (how : Gathering) (sources : List ℕ) (root : ℕ) (old attached new : Machine) → AreGathered who how sources root old attached new → GoesOn how sources (stages_in old) root (events_in attached) new.teller.ledger
goes_on who how sources root old attached new h =
    let first = stages_in old in
    let s = state_in attached in
    let begun = begins who how sources root old attached h.gathers in
    let later = (adds_behind attached new h.outs h.calls).later in
    let r = roomier later.grown s in
    let there = state_there attached.teller.ledger new.teller.ledger later in
    let all = ap (λ (es : List Event). length es) later.events ∙ length-append attached.teller.ledger.events later.more in
    record {
      each = subst (λ (t : State). EachOf (λ stage p. IsSound how stage p t) how first sources) (sym there)
          (map_each (λ stage p. IsSound how stage p s) (λ stage p. IsSound how stage p r) how first sources (λ stage p x. sound_roomier how later.grown stage p s x) begun.each);
      last = begun.last;
      within = omega (arith, all);
    }

pub roots_end_as_one : RootsEndAsOne
roots_end_as_one who how sources root old attached new h =
    let on = goes_on who how sources root old attached new h in
    ends_as_one how sources (stages_in old) root (events_in attached) new.teller.ledger on.last on.within on.each

pub all_of_roots_are_as_one : AllOfRootsAreAsOne
all_of_roots_are_as_one who sources root old attached new h = all_as_one sources (stages_in old) root (events_in attached) new.teller.ledger (roots_end_as_one who AllOf sources root old attached new h)

pub any_of_roots_have_the_first : AnyOfRootsHaveTheFirst
any_of_roots_have_the_first who sources root old attached new h = any_has_the_first sources (stages_in old) root (events_in attached) new.teller.ledger (roots_end_as_one who AnyOf sources root old attached new h)

pub roots_are_in_time : RootsAreInTime
roots_are_in_time who how sources root old attached new h some =
    let on = goes_on who how sources root old attached new h in
    let s = state_at new.teller.ledger (events_in attached) in
    in_time how sources (stages_in old) root (events_in attached) new.teller.ledger on.last on.within
    (map_each (λ stage p. IsSound how stage p s) (λ stage p. IsHeld how stage p s) how (stages_in old) sources (λ stage p x. record { is = x.is; state = x.state }) on.each) some
