-- That the events and the calls of a closed desk have words.
use Rattle.std.proofs.Common.{◌≡◌, ℕ, zero, suc, Bool, true, false, eqb, List, [], ◌∷◌, map, sym, subst}
use Rattle.std.specs.Prelude.{Option, Some, cond, slice_get}
use Rattle.std.specs.List.{All}
use Rattle.std.proofs.lemmas.List.Elements.{All-nil, All-cons, All-head, All-tail, All-filter}
use Rattle.cf_forms.specs.Plans.{Planned}
use Rattle.cf_model.specs.declared.events.Event.{Event}
use Rattle.cf_model.specs.States.{start}
use Rattle.cf_model.specs.Calls.{event_by, who_of}
use Rattle.cf_event.specs.Words.{IsEvent, word_of}
use Rattle.cf_event.proofs.WordLemmas.{event_of_is, event_of_own_word}
use Rattle.cf_desk.specs.declared.calls.Kept.{Kept as KeptPass}
use Rattle.cf_desk.specs.declared.calls.Rec.{Rec}
use Rattle.cf_desk.specs.declared.calls.Rec.TheVariants.{Did, Saw}
use Rattle.cf_desk.specs.declared.row.DeskConfig.{DeskConfig}
use Rattle.cf_desk.specs.Keepings.{IsKeptFit, pass_kept}
use Rattle.cf_event.specs.Events.{placed}
use Rattle.cf_desk.specs.Log.{AreLogged}
use Rattle.cf_desk.specs.Records.{dids}
use Rattle.cf_event.proofs.Events.{events_each}
use Rattle.cf_c_handles.specs.Records.{CallHasWord, CallsHaveWords, HasWord, kept_of}

pub has_word : (e : Event) → HasWord e → IsEvent e
has_word e h = (event_of_is (word_of e) e h).0

-- an event at a place
pub event_at : (events : List Event) (i : ℕ) (e : Event) → All HasWord events → slice_get events i ≡ Some e → IsEvent e
event_at [] i e all at = cc
event_at (d ∷ events) zero e all at = let same : d ≡ e = cc in has_word e (subst HasWord same (All-head HasWord d events all))
event_at (d ∷ events) (suc i) e all at = event_at events i e (All-tail HasWord d events all) at

first_or_later : (b : Bool) (p : KeptPass) (later : Option KeptPass) (k : KeptPass) → CallsHaveWords p → (later ≡ Some k → CallsHaveWords k) → cond b (Some p) later ≡ Some k → CallsHaveWords k
first_or_later true p later k h more is = let same : p ≡ k = cc in subst CallsHaveWords same h
first_or_later false p later k h more is = more is

-- what a caller's pass has kept
pub kept_at : (passes : List KeptPass) (caller : ℕ) (k : KeptPass) → All CallsHaveWords passes → kept_of passes caller ≡ Some k → CallsHaveWords k
kept_at [] caller k all at = cc
kept_at (p ∷ passes) caller k all at = first_or_later (eqb p.caller caller) p (kept_of passes caller) k (All-head CallsHaveWords p passes all) (λ later. kept_at passes caller k (All-tail CallsHaveWords p passes all) later) at

abbrev pub DidHasWord : ℕ × Event → Type 0
DidHasWord d = HasWord d.1

-- a record at a place
call_at : (caller : ℕ) (records : List Rec) (i : ℕ) (r : Rec) → All DidHasWord (dids caller records) → slice_get records i ≡ Some r → CallHasWord caller r
call_at caller [] i r all at = cc
call_at caller (Did place call reply ∷ records) zero r all at = let same : Did place call reply ≡ r = cc in subst (CallHasWord caller) same (All-head DidHasWord (place, event_by caller call) (dids caller records) all)
call_at caller (Saw place ask answer ∷ records) zero r all at = let same : Saw place ask answer ≡ r = cc in subst (CallHasWord caller) same tt
call_at caller (Did place call reply ∷ records) (suc i) r all at = call_at caller records i r (All-tail DidHasWord (place, event_by caller call) (dids caller records) all) at
call_at caller (Saw place ask answer ∷ records) (suc i) r all at = call_at caller records i r all at

-- the record of a pass at a place
pub call_of : (k : KeptPass) (i : ℕ) (r : Rec) → CallsHaveWords k → slice_get k.records.items i ≡ Some r → CallHasWord k.caller r
call_of k i r h at = call_at k.caller k.records.items i r h.calls at

-- those of a desk's history, and of passes that fit it
pub history_has : (t : DeskConfig) (history : List Event) → AreLogged t history → All HasWord history
history_has t history h = events_each HasWord t.callers t.functions (λ s e is. event_of_own_word e is.event) (start t.plan) history h

placed_has : (n : ℕ) (history : List Event) → All HasWord history → All DidHasWord (placed n history)
placed_has n [] h = All-nil DidHasWord
placed_has n (e ∷ events) h = All-cons DidHasWord (suc n, e) (placed (suc n) events) (All-head HasWord e events h) (placed_has (suc n) events (All-tail HasWord e events h))

pub passes_have : (plan : Planned) (history : List Event) (passes : List KeptPass) → All HasWord history → All (IsKeptFit plan history) (map pass_kept passes) → All CallsHaveWords passes
passes_have plan history [] h fit = All-nil CallsHaveWords
passes_have plan history (k ∷ passes) h fit = All-cons CallsHaveWords k passes
    (record { calls = subst (All DidHasWord) (sym (All-head (IsKeptFit plan history) (pass_kept k) (map pass_kept passes) fit).did) (All-filter (λ e. eqb (who_of e.1) k.caller) DidHasWord (placed 0 history) (placed_has 0 history h)) })
    (passes_have plan history passes h (All-tail (IsKeptFit plan history) (pass_kept k) (map pass_kept passes) fit))
