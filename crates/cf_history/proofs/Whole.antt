-- A verdict that isn't `Fits` is one on a history that doesn't fit.
use Rattle.std.proofs.Common.{◌≡◌, ℕ, zero, suc, ◌+◌, List, [], ◌∷◌, length, take, refl, ap, sym, ◌∙◌, arith, subst}
use Rattle.std.specs.Prelude.{Option, Some, None, slice_get, ◌↔◌}
use Rattle.cf_forms.specs.Plans.{Planned}
use Rattle.cf_outcome.specs.declared.outcome.Outcome.{Outcome}
use Rattle.cf_model.specs.declared.events.Event.{Event}
use Rattle.cf_model.specs.States.{State, start}
use Rattle.cf_model.specs.Events.{state_after}
use Rattle.cf_history.specs.declared.history.History.{History}
use Rattle.cf_history.specs.declared.history.Caller.{Caller}
use Rattle.cf_history.specs.declared.verdict.Misfit.{Misfit}
use Rattle.cf_history.specs.declared.verdict.Unfit.{Unfit}
use Rattle.cf_history.specs.declared.verdict.Verdict.{Verdict}
use Rattle.cf_history.specs.declared.verdict.Verdict.TheVariants.{Fits, Event as AtEvent, Record as AtRecord, Missing, Outcome as AtOutcome, Stages}
use Rattle.cf_history.specs.Histories.{AllRight, AreOutcomesOf, AreWordsOf, FitsOneGraph, said}
use Rattle.cf_history.specs.Records.{AreRight}
use Rattle.cf_history.specs.Verdicts.{IsEnd, IsOfCallers, IsOfOutcomes, IsOfWords, IsVerdict, TellsOfCallers, TellsOfOutcomes}
use Rattle.cf_history.proofs.Walks.{none_left_out, not_all_right}
use Rattle.cf_history.proofs.Words.{not_words}
use Rattle.cf_history.proofs.Alike.{one_of_right}
use Rattle.cf_history.proofs.Accounts.{callers_fit, words_fit}

-- where all callers fit, each does
right_at : (s : State) (events : List Event) (c k : ℕ) (callers : List Caller) (here : Caller) → AllRight s events c callers → slice_get callers k ≡ Some here →
    AreRight (c + k) s events 0 here.records.items
right_at s events c k [] here all is = absurd (cc)
right_at s events c zero (x ∷ callers) here all is =
    let same : x ≡ here = cc in
    subst (λ (n : ℕ). AreRight n s events 0 here.records.items) (let p : c ≡ c + 0 = omega arith in p) (subst (λ (y : Caller). AreRight c s events 0 y.records.items) same all.0)
right_at s events c (suc k) (x ∷ callers) here all is =
    subst (λ (n : ℕ). AreRight n s events 0 here.records.items) (let p : c + 1 + k ≡ c + suc k = omega arith in p) (right_at s events (c + 1) k callers here all.1 is)

-- one caller more
all_suc : (s : State) (events : List Event) (c i : ℕ) (callers : List Caller) (x : Caller) → slice_get callers i ≡ Some x → AllRight s events c (take i callers) →
    AreRight (c + i) s events 0 x.records.items → AllRight s events c (take (suc i) callers)
all_suc s events c i [] x at all more = cc
all_suc s events c zero (y ∷ callers) x at all more =
    let same : y ≡ x = cc in
    (subst (λ (n : ℕ). AreRight n s events 0 y.records.items) (let p : c + 0 ≡ c = omega arith in p) (subst (λ (z : Caller). AreRight (c + 0) s events 0 z.records.items) (sym same) more), tt)
all_suc s events c (suc i) (y ∷ callers) x at all more =
    (all.0, all_suc s events (c + 1) i callers x at all.1 (subst (λ (n : ℕ). AreRight n s events 0 x.records.items) (let p : c + suc i ≡ c + 1 + i = omega arith in p) more))

pub all_more : (s : State) (events : List Event) (i : ℕ) (callers : List Caller) (x : Caller) → slice_get callers i ≡ Some x → AllRight s events 0 (take i callers) →
    AreRight i s events 0 x.records.items → AllRight s events 0 (take (i + 1) callers)
all_more s events i callers x at all more =
    subst (λ (n : ℕ). AllRight s events 0 (take n callers)) (let p : suc i ≡ i + 1 = omega arith in p)
    (all_suc s events 0 i callers x at all (subst (λ (n : ℕ). AreRight n s events 0 x.records.items) (let p : i ≡ 0 + i = omega arith in p) more))

pub right_here : (s : State) (events : List Event) (k : ℕ) (callers : List Caller) (here : Caller) → AllRight s events 0 callers → slice_get callers k ≡ Some here →
    AreRight k s events 0 here.records.items
right_here s events k callers here all is =
    subst (λ (n : ℕ). AreRight n s events 0 here.records.items) (let p : 0 + k ≡ k = omega arith in p) (right_at s events 0 k callers here all is)

pub not_of_callers : (s : State) (events : List Event) (callers : List Caller) (v : Verdict) → IsOfCallers s events callers v → AllRight s events 0 callers → ⊥
not_of_callers s events callers (AtRecord caller k why) told all =
    not_all_right caller s events 0 k told.0.records.items why told.2 (right_here s events caller callers told.0 all told.1.is)
not_of_callers s events callers (Missing caller place) told all =
    none_left_out caller s events 0 told.0.records.items place told.2 (right_here s events caller callers told.0 all told.1.is)
not_of_callers s events callers Fits told all = told
not_of_callers s events callers (AtEvent place why) told all = told
not_of_callers s events callers (AtOutcome stage outcome) told all = told
not_of_callers s events callers (Stages count) told all = told

not_of_outcomes : (s : State) (o : Option (List (Option Outcome))) (v : Verdict) → IsOfOutcomes s o v → AreOutcomesOf s o → ⊥
not_of_outcomes s None v told are = told
not_of_outcomes s (Some outcomes) (AtOutcome stage outcome) told are = told.other (are.1 stage told.there ∙ ap Some (sym told.is))
not_of_outcomes s (Some outcomes) (Stages count) told are = told.1 (are.0 ∙ sym told.0)
not_of_outcomes s (Some outcomes) Fits told are = told
not_of_outcomes s (Some outcomes) (AtEvent place why) told are = told
not_of_outcomes s (Some outcomes) (AtRecord caller k why) told are = told
not_of_outcomes s (Some outcomes) (Missing caller place) told are = told

same_events : (callers functions : ℕ) (s : State) (words : List ℕ) (events others : List Event) → AreWordsOf callers functions s words events → AreWordsOf callers functions s words others → others ≡ events
same_events callers functions s words events others a b = b.read ∙ sym a.read

of_callers : (plan : Planned) (h : History) (v : Verdict) → TellsOfCallers plan h v → FitsOneGraph plan h → ⊥
of_callers plan h v told one =
    not_of_callers (start plan) told.0 h.callers.items v told.2
    (subst (λ (es : List Event). AllRight (start plan) es 0 h.callers.items) (same_events (length h.callers.items) h.functions (start plan) h.words.items told.0 one.events told.1 (words_fit plan h one)) (callers_fit plan h one))

of_outcomes : (plan : Planned) (h : History) (v : Verdict) → TellsOfOutcomes plan h v → FitsOneGraph plan h → ⊥
of_outcomes plan h v told one =
    not_of_outcomes (state_after (start plan) told.0) (said h) v told.3
    (subst (λ (es : List Event). AreOutcomesOf (state_after (start plan) es) (said h)) (same_events (length h.callers.items) h.functions (start plan) h.words.items told.0 one.events told.1 (words_fit plan h one)) one.outcomes)

-- where a history fits, the verdict is that it does
pub only_fits : (plan : Planned) (h : History) (v : Verdict) → IsVerdict plan h v → FitsOneGraph plan h → v ≡ Fits
only_fits plan h Fits told one = refl
only_fits plan h (AtEvent place why) told one = absurd (not_words (length h.callers.items) h.functions (start plan) h.words.items one.events told.0 why told.2 (words_fit plan h one))
only_fits plan h (AtRecord caller k why) told one = absurd (of_callers plan h (AtRecord caller k why) told one)
only_fits plan h (Missing caller place) told one = absurd (of_callers plan h (Missing caller place) told one)
only_fits plan h (AtOutcome stage outcome) told one = absurd (of_outcomes plan h (AtOutcome stage outcome) told one)
only_fits plan h (Stages count) told one = absurd (of_outcomes plan h (Stages count) told one)

pub both_ways : (plan : Planned) (h : History) (v : Verdict) → IsVerdict plan h v → (v ≡ Fits) ↔ FitsOneGraph plan h
both_ways plan h v told = (λ (e : v ≡ Fits). subst (IsVerdict plan h) e told, only_fits plan h v told)

-- what was found is the verdict
pub told_of_words : (plan : Planned) (h : History) (v : Verdict) → IsOfWords (length h.callers.items) h.functions (start plan) h.words.items v → IsVerdict plan h v
told_of_words plan h Fits t = absurd t
told_of_words plan h (AtEvent place why) t = t
told_of_words plan h (AtRecord caller k why) t = absurd t
told_of_words plan h (Missing caller place) t = absurd t
told_of_words plan h (AtOutcome stage outcome) t = absurd t
told_of_words plan h (Stages count) t = absurd t

pub told_of_callers : (plan : Planned) (h : History) (events : List Event) (v : Verdict) → AreWordsOf (length h.callers.items) h.functions (start plan) h.words.items events →
    IsOfCallers (start plan) events h.callers.items v → IsVerdict plan h v
told_of_callers plan h events Fits w t = absurd t
told_of_callers plan h events (AtEvent place why) w t = absurd t
told_of_callers plan h events (AtRecord caller k why) w t = (events, w, t)
told_of_callers plan h events (Missing caller place) w t = (events, w, t)
told_of_callers plan h events (AtOutcome stage outcome) w t = absurd t
told_of_callers plan h events (Stages count) w t = absurd t

no_event : (s : State) (o : Option (List (Option Outcome))) (place : ℕ) (why : Unfit) → IsOfOutcomes s o (AtEvent place why) → ⊥
no_event s None place why t = t
no_event s (Some outcomes) place why t = t

no_record : (s : State) (o : Option (List (Option Outcome))) (caller k : ℕ) (why : Misfit) → IsOfOutcomes s o (AtRecord caller k why) → ⊥
no_record s None caller k why t = t
no_record s (Some outcomes) caller k why t = t

no_missing : (s : State) (o : Option (List (Option Outcome))) (caller place : ℕ) → IsOfOutcomes s o (Missing caller place) → ⊥
no_missing s None caller place t = t
no_missing s (Some outcomes) caller place t = t

pub told_at_end : (plan : Planned) (h : History) (events : List Event) (v : Verdict) → AreWordsOf (length h.callers.items) h.functions (start plan) h.words.items events →
    AllRight (start plan) events 0 h.callers.items → IsEnd (state_after (start plan) events) (said h) v → IsVerdict plan h v
told_at_end plan h events Fits w all t = record {
  events = events;
  words = record { read = w.read; all = w.all };
  one = one_of_right plan h.functions events h.callers.items w.taken all;
  outcomes = t;
}
told_at_end plan h events (AtEvent place why) w all t = absurd (no_event (state_after (start plan) events) (said h) place why t)
told_at_end plan h events (AtRecord caller k why) w all t = absurd (no_record (state_after (start plan) events) (said h) caller k why t)
told_at_end plan h events (Missing caller place) w all t = absurd (no_missing (state_after (start plan) events) (said h) caller place t)
told_at_end plan h events (AtOutcome stage outcome) w all t = (events, w, all, t)
told_at_end plan h events (Stages count) w all t = (events, w, all, t)

-- the same words, callers and state under other names
pub words_from : (first now : State) (callers items : List Caller) (ws words : List ℕ) (functions : ℕ) (events : List Event) → now ≡ first → callers ≡ items → ws ≡ words →
    AreWordsOf (length callers) functions now ws events → AreWordsOf (length items) functions first words events
words_from first now callers items ws words functions events s k w are =
    subst (λ (x : State). AreWordsOf (length items) functions x words events) s
    (subst (λ (x : List Caller). AreWordsOf (length x) functions now words events) k
    (subst (λ (x : List ℕ). AreWordsOf (length callers) functions now x events) w are))
