-- Histories that fit, and those that say what is one history.
use Rattle.std.proofs.Common.{◌≡◌, ℕ, suc, ◌+◌, List, [], ◌∷◌, All, length, map, slice_get, sym, refl, ap, ◌∙◌, subst, append-nil, arith}
use Rattle.std.specs.Prelude.{Some}
use Rattle.std.proofs.lemmas.List.{length-map}
use Rattle.std.proofs.lemmas.List.Elements.{All-nil, All-cons, All-contains}
use Rattle.cf_forms.specs.Plans.{Planned}
use Rattle.cf_model.specs.States.{start}
use Rattle.cf_event.specs.declared.record.Record.{Record}
use Rattle.cf_event.specs.Decoding.{decoded}
use Rattle.cf_event.specs.Words.{word_of}
use Rattle.cf_event.specs.Events.{AreEventsOf}
use Rattle.cf_event.specs.Histories.{AreRecordsOfOne, IsOneHistory}
use Rattle.cf_event.proofs.WordLemmas.{decoded_words}
use Rattle.cf_history.specs.declared.history.Caller.{Caller}
use Rattle.cf_history.specs.declared.history.History.{History}
use Rattle.cf_history.specs.Histories.{AllRight, AreWordsOf, FitsOneGraph, callers_from}
use Rattle.cf_history.specs.Laws.{OneHistoriesFit}
use Rattle.cf_history.proofs.Alike.{are_events, one_of_each, right_of_one, taken_of_one}

-- the words, and the callers, of a history that fits
pub words_fit : (plan : Planned) (h : History) (fits : FitsOneGraph plan h) → AreWordsOf (length h.callers.items) h.functions (start plan) h.words.items fits.events
words_fit plan h fits = record { read = fits.words.read; all = fits.words.all; taken = taken_of_one plan h.functions fits.events h.callers.items fits.one }

pub callers_fit : (plan : Planned) (h : History) (fits : FitsOneGraph plan h) → AllRight (start plan) fits.events 0 h.callers.items
callers_fit plan h fits = right_of_one plan h.functions fits.events h.callers.items fits.one

-- what holds of each caller under its number holds of all
all_from : (P : ℕ × List Record → Type 0) (c : ℕ) (callers : List Caller) → ((i : ℕ) (k : Caller) → slice_get callers i ≡ Some k → P (c + i, k.records.items)) → All P (callers_from c callers)
all_from P c [] f = All-nil P
all_from P c (k ∷ ks) f =
    All-cons P (c, k.records.items) (callers_from (c + 1) ks)
    (subst (λ (n : ℕ). P (n, k.records.items)) (let p : c + 0 ≡ c = omega arith in p) (f 0 k refl))
    (all_from P (c + 1) ks (λ i x at. subst (λ (n : ℕ). P (n, x.records.items)) (let p : c + suc i ≡ c + 1 + i = omega arith in p) (f (suc i) x at)))

pub one_histories_fit : OneHistoriesFit
one_histories_fit plan functions events told h one tells =
    let few : AreEventsOf (length h.callers.items) functions (start plan) events = subst (λ (n : ℕ). AreEventsOf n functions (start plan) events) (sym tells.callers.all) one.taken in
    let each : All (AreRecordsOfOne plan events) (callers_from 0 h.callers.items) =
    all_from (AreRecordsOfOne plan events) 0 h.callers.items (λ i k at.
    subst (λ (n : ℕ). AreRecordsOfOne plan events (n, k.records.items)) (let p : i ≡ 0 + i = omega arith in p)
    (All-contains (AreRecordsOfOne plan events) told (i, k.records.items) one.each (tells.callers.each i k at))) in
    let read : decoded h.words.items ≡ events =
    ap decoded (tells.words ∙ sym (append-nil (map word_of events))) ∙ decoded_words events 0 (are_events (length told) functions (start plan) events one.taken) in record {
      events = events;
      words = record { read = sym read; all = sym (length-map events word_of) ∙ sym (ap length tells.words) };
      one = subst (λ (n : ℕ). IsOneHistory plan n events (callers_from 0 h.callers.items)) (sym tells.functions_are) (one_of_each plan functions events h.callers.items few each);
      outcomes = tells.outcomes;
    }
