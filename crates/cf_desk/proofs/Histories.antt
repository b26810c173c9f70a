-- What one history shows.
use Rattle.cf_forms.specs.Plans.{IsBuilt, Planned}
use Rattle.cf_forms.proofs.ListLemmas.{slice_get-seam}
use Rattle.std.proofs.Common.{◌≡◌, ℕ, zero, suc, ◌-◌, ◌≤◌, ◌<◌, Bool, true, false, cond, eqb, List, [], ◌∷◌, ◌++◌, map, length, take, slice_get, All, sym, refl, ap, ◌∙◌, subst, append_assoc, length-append, arith}
use Rattle.std.specs.List.{filter}
use Rattle.std.proofs.lemmas.List.Elements.{All-nil, All-cons, All-head, All-tail}
use Rattle.cf_model.specs.declared.events.Event.{Event}
use Rattle.cf_model.specs.States.{State, outcome_at, start}
use Rattle.cf_model.proofs.Moves.{grants_once, keeps_outcomes}
use Rattle.cf_expr.specs.Expressions.{expr}
use Rattle.cf_expr.specs.Histories.{IsPlain, IsPlainPlan, IsQuiet, nothing_granted}
use Rattle.cf_expr.proofs.Runs.{quiet_is_expression}
use Rattle.cf_model.specs.Events.{answered, state_after, state_at}
use Rattle.cf_event.specs.declared.record.Record.{Record}
use Rattle.cf_model.specs.Calls.{who_of}
use Rattle.std.specs.List.{Contains}
use Rattle.std.proofs.lemmas.List.{length-map}
use Rattle.cf_event.specs.Events.{AreEventsOf, own, placed}
use Rattle.cf_event.specs.Histories.{AreRecordsOfOne, IsOneHistory, numbers_of}
use Rattle.cf_desk.specs.declared.calls.Kept.{Kept}
use Rattle.cf_desk.specs.declared.calls.Rec.{Rec}
use Rattle.cf_desk.specs.Keepings.{AllFit, AreKept, IsKeptFit, caller_kept, pass_did, pass_kept}
use Rattle.cf_desk.specs.Laws.{call_of, OneHistoryShows, StandOnce, StandsAt}
use Rattle.cf_desk.specs.Views.{Pass}

abbrev mine : ℕ → ℕ × Event → Bool
mine c e = eqb (who_of e.1) c

-- the events of a caller, taken from a list with places, have its words
pub calls_of : (c n : ℕ) (ws : List Event) → map call_of (filter (mine c) (placed n ws)) ≡ own c ws
calls_of c n [] = refl
calls_of c n (w ∷ ws) = split (eqb (who_of w) c) (calls_of c (suc n) ws)
  where
    split : (b : Bool) → map call_of (filter (mine c) (placed (suc n) ws)) ≡ own c ws → map call_of (cond b ((suc n, w) ∷ filter (mine c) (placed (suc n) ws)) (filter (mine c) (placed (suc n) ws))) ≡ cond b (w ∷ own c ws) (own c ws)
    split true e = ap (λ l. w ∷ l) e
    split false e = e

-- they stand at their places
stand : (c : ℕ) (xs ws : List Event) (n : ℕ) → n ≡ length xs → All (StandsAt (xs ++ ws)) (filter (mine c) (placed n ws))
stand c xs [] n is = All-nil (StandsAt (xs ++ []))
stand c xs (w ∷ ws) n is = split (eqb (who_of w) c)
    (subst (λ (l : List Event). All (StandsAt l) (filter (mine c) (placed (suc n) ws))) (append_assoc xs (w ∷ []) ws) (stand c (xs ++ w ∷ []) ws (suc n) (longer xs is)))
  where
    longer : (xs : List Event) → n ≡ length xs → suc n ≡ length (xs ++ w ∷ [])
    longer xs e = omega (arith, length-append xs (w ∷ []))

    here : StandsAt (xs ++ w ∷ ws) (suc n, w)
    here = ap (slice_get (xs ++ w ∷ ws)) (let e : suc n - 1 ≡ length xs = omega arith in e) ∙ slice_get-seam xs w ws

    split : (b : Bool) → All (StandsAt (xs ++ w ∷ ws)) (filter (mine c) (placed (suc n) ws)) → All (StandsAt (xs ++ w ∷ ws)) (cond b ((suc n, w) ∷ filter (mine c) (placed (suc n) ws)) (filter (mine c) (placed (suc n) ws)))
    split true h = All-cons (StandsAt (xs ++ w ∷ ws)) (suc n, w) (filter (mine c) (placed (suc n) ws)) here h
    split false h = h

once : (plan : Planned) (history : List Event) (k : ℕ × List Record) → AreRecordsOfOne plan history k → StandOnce history k
once plan history k f = (
  ap (map call_of) f.did ∙ calls_of k.0 0 history,
  subst (All (StandsAt history)) (sym f.did) (stand k.0 [] history 0 refl),
)

each_once : (plan : Planned) (history : List Event) (callers : List (ℕ × List Record)) → All (AreRecordsOfOne plan history) callers → All (StandOnce history) callers
each_once plan history [] h = All-nil (StandOnce history)
each_once plan history (k ∷ ks) h = All-cons (StandOnce history) k ks (once plan history k (All-head (AreRecordsOfOne plan history) k ks h)) (each_once plan history ks (All-tail (AreRecordsOfOne plan history) k ks h))

-- a later state comes after an earlier one
at_later : (s : State) (es : List Event) (p q : ℕ) → p ≤ q → (rest : List Event) × (state_after s (take q es) ≡ state_after (state_after s (take p es)) rest)
at_later s es zero q le = (take q es, refl)
at_later s es (suc p) zero le = absurd (omega arith)
at_later s [] (suc p) (suc q) le = ([], refl)
at_later s (e ∷ es) (suc p) (suc q) le = at_later ((answered s e).1) es p q (omega arith)

pub one_history_shows : OneHistoryShows
one_history_shows plan functions history callers graph one is = record {
  calls = each_once plan history callers one.each;
  settled_once = λ i p q o le settled.
      let later = at_later (start plan) history p q le in
      ap (λ (s : State). outcome_at s i) later.1 ∙ keeps_outcomes (state_at plan history p) later.0 i o settled;
  claimed_once = grants_once (start plan) history;
  expressed = λ built plain quiet meanings events i lt.
      let holds = λ (s : State). IsBuilt s.plan → IsPlainPlan s.plan → IsPlain meanings nothing_granted (start plan) history → IsQuiet s → i < length s.plan.stages → outcome_at s i ≡ expr s.plan history meanings i in
      subst holds (sym is) (quiet_is_expression plan history meanings i) built plain events quiet lt;
}

-- what is kept of passes that fit a history is one history
each_kept : (plan : Planned) (history : List Event) (kept : List Kept) → All (IsKeptFit plan history) (map pass_kept kept) → All (AreRecordsOfOne plan history) (map caller_kept kept)
each_kept plan history [] h = All-nil (AreRecordsOfOne plan history)
each_kept plan history (k ∷ ks) h =
    All-cons (AreRecordsOfOne plan history) (caller_kept k) (map caller_kept ks) (All-head (IsKeptFit plan history) (pass_kept k) (map pass_kept ks) h)
    (each_kept plan history ks (All-tail (IsKeptFit plan history) (pass_kept k) (map pass_kept ks) h))

same_numbers : (kept : List Kept) → map (λ (k : ℕ × List Rec). k.0) (map pass_kept kept) ≡ numbers_of (map caller_kept kept)
same_numbers [] = refl
same_numbers (k ∷ ks) = ap (λ (l : List ℕ). k.caller ∷ l) (same_numbers ks)

pub one_of_kept : (plan : Planned) (callers functions : ℕ) (history : List Event) (kept : List Kept) (passes : List Pass) → AreKept kept passes → length passes ≡ callers →
    AreEventsOf callers functions (start plan) history → AllFit plan history (map pass_kept kept) → IsOneHistory plan functions history (map caller_kept kept)
one_of_kept plan callers functions history kept passes same all taken fit = record {
  taken = subst (λ (n : ℕ). AreEventsOf n functions (start plan) history)
      (sym all ∙ sym (length-map passes pass_did) ∙ sym (ap length same) ∙ length-map kept pass_kept ∙ sym (length-map kept caller_kept)) taken;
  each = each_kept plan history kept fit.each;
  no_other = subst (λ (ns : List ℕ). All (λ e. Contains ns (who_of e)) history) (same_numbers kept) fit.owned;
}
