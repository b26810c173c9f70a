-- There is one verdict on what sessions tell.
use Rattle.std.proofs.Common.{◌≡◌, ℕ, zero, suc, ◌+◌, List, [], ◌∷◌, length, take, refl, ap, sym, ◌∙◌, subst}
use Rattle.std.specs.Prelude.{Err, IfOk, Ok, Option, Result, Some, slice_get}
use Rattle.std.proofs.lemmas.Option.{none-some}
use Rattle.cf_forms.specs.Plans.{Planned}
use Rattle.cf_outcome.specs.declared.outcome.Outcome.{Outcome}
use Rattle.cf_model.specs.declared.events.Event.{Event}
use Rattle.cf_model.specs.States.{State, start}
use Rattle.cf_model.specs.Events.{state_after}
use Rattle.cf_event.specs.declared.record.Record.{Record}
use Rattle.cf_history.specs.declared.history.Caller.{Caller}
use Rattle.cf_history.specs.declared.history.History.{History}
use Rattle.cf_history.specs.declared.shared.SharedHistory.{SharedHistory}
use Rattle.cf_history.specs.declared.verdict.Verdict.{Verdict}
use Rattle.cf_history.specs.declared.verdict.Verdict.TheVariants.{Fits, Event as AtEvent, Record as AtRecord, Missing, Outcome as AtOutcome, Stages}
use Rattle.cf_history.specs.Histories.{AllRight, AreWordsOf, said}
use Rattle.cf_history.specs.Laws.{OneSharedVerdict}
use Rattle.cf_history.specs.Records.{AreRight}
use Rattle.cf_history.specs.Shared.{Fills, HasGraphsReplies, IsSharedVerdict, records_of}
use Rattle.cf_history.specs.Verdicts.{IsFirstMisfit, IsOfCallers, IsOfOutcomes, IsOfWords, IsVerdict, LeavesOut, TellsOfCallers, TellsOfOutcomes}
use Rattle.cf_history.proofs.Accounts.{words_fit}
use Rattle.cf_history.proofs.Fillings.{fits_alike, same_length, taken_words}
use Rattle.cf_history.proofs.Single.{one_verdict}

-- ---- callers of the same records

caller_alike : (gs hs : List Caller) (c : ℕ) (x : Caller) → records_of gs ≡ records_of hs → slice_get gs c ≡ Some x →
    (y : Caller) × (slice_get hs c ≡ Some y) × (x.records.items ≡ y.records.items)
caller_alike [] hs c x e is = absurd (none-some x is)
caller_alike (g ∷ gs) [] c x e is = absurd (cc)
caller_alike (g ∷ gs) (h ∷ hs) zero x e is =
    let same : g ≡ x = cc in
    let first : g.records.items ≡ h.records.items = cc in
    (h, refl, ap (λ (k : Caller). k.records.items) (sym same) ∙ first)
caller_alike (g ∷ gs) (h ∷ hs) (suc c) x e is = let rest : records_of gs ≡ records_of hs = cc in caller_alike gs hs c x rest is

take_alike : (gs hs : List Caller) (n : ℕ) → records_of gs ≡ records_of hs → records_of (take n gs) ≡ records_of (take n hs)
take_alike gs hs zero e = refl
take_alike [] [] (suc n) e = refl
take_alike [] (h ∷ hs) (suc n) e = absurd (cc)
take_alike (g ∷ gs) [] (suc n) e = absurd (cc)
take_alike (g ∷ gs) (h ∷ hs) (suc n) e =
    let first : g.records.items ≡ h.records.items = cc in
    let rest : records_of gs ≡ records_of hs = cc in
    ap (λ (rs : List Record). rs ∷ records_of (take n gs)) first ∙ ap (λ (rss : List (List Record)). h.records.items ∷ rss) (take_alike gs hs n rest)

all_alike : (s : State) (events : List Event) (c : ℕ) (gs hs : List Caller) → records_of gs ≡ records_of hs → AllRight s events c gs → AllRight s events c hs
all_alike s events c [] [] e all = tt
all_alike s events c [] (h ∷ hs) e all = absurd (cc)
all_alike s events c (g ∷ gs) [] e all = absurd (cc)
all_alike s events c (g ∷ gs) (h ∷ hs) e all =
    let first : g.records.items ≡ h.records.items = cc in
    let rest : records_of gs ≡ records_of hs = cc in
    (subst (AreRight c s events 0) first all.0, all_alike s events (c + 1) gs hs rest all.1)

of_callers_alike : (s : State) (events : List Event) (gs hs : List Caller) (v : Verdict) → records_of gs ≡ records_of hs → IsOfCallers s events gs v → IsOfCallers s events hs v
of_callers_alike s events gs hs (AtRecord caller k why) e t =
    let there = caller_alike gs hs caller t.0 e t.1.is in (
      there.0,
      record { before = all_alike s events 0 (take caller gs) (take caller hs) (take_alike gs hs caller e) t.1.before; is = there.1 },
      subst (λ (rs : List Record). IsFirstMisfit caller s events 0 k rs why) there.2 t.2,
    )
of_callers_alike s events gs hs (Missing caller place) e t =
    let there = caller_alike gs hs caller t.0 e t.1.is in (
      there.0,
      record { before = all_alike s events 0 (take caller gs) (take caller hs) (take_alike gs hs caller e) t.1.before; is = there.1 },
      subst (λ (rs : List Record). LeavesOut caller s events 0 rs place) there.2 t.2,
    )
of_callers_alike s events gs hs Fits e t = absurd t
of_callers_alike s events gs hs (AtEvent place why) e t = absurd t
of_callers_alike s events gs hs (AtOutcome stage outcome) e t = absurd t
of_callers_alike s events gs hs (Stages count) e t = absurd t

-- ---- histories that say the same

record AreAlike (g h : History) : Type 0 where
  pub functions : g.functions ≡ h.functions
  pub words : g.words.items ≡ h.words.items
  pub count : length g.callers.items ≡ length h.callers.items
  pub outcomes : said g ≡ said h

words_alike : (plan : Planned) (g h : History) (events : List Event) → AreAlike g h → AreWordsOf (length g.callers.items) g.functions (start plan) g.words.items events →
    AreWordsOf (length h.callers.items) h.functions (start plan) h.words.items events
words_alike plan g h events e t =
    subst (λ (n : ℕ). AreWordsOf n h.functions (start plan) h.words.items events) e.count
    (subst (λ (n : ℕ). AreWordsOf (length g.callers.items) n (start plan) h.words.items events) e.functions
    (subst (λ (ws : List ℕ). AreWordsOf (length g.callers.items) g.functions (start plan) ws events) e.words t))

on_word_alike : (plan : Planned) (g h : History) (v : Verdict) → AreAlike g h → IsOfWords (length g.callers.items) g.functions (start plan) g.words.items v →
    IsOfWords (length h.callers.items) h.functions (start plan) h.words.items v
on_word_alike plan g h v e t =
    subst (λ (n : ℕ). IsOfWords n h.functions (start plan) h.words.items v) e.count
    (subst (λ (n : ℕ). IsOfWords (length g.callers.items) n (start plan) h.words.items v) e.functions
    (subst (λ (ws : List ℕ). IsOfWords (length g.callers.items) g.functions (start plan) ws v) e.words t))

on_callers_alike : (plan : Planned) (g h : History) (v : Verdict) → AreAlike g h → records_of g.callers.items ≡ records_of h.callers.items → TellsOfCallers plan g v → TellsOfCallers plan h v
on_callers_alike plan g h v e records t = (t.0, words_alike plan g h t.0 e t.1, of_callers_alike (start plan) t.0 g.callers.items h.callers.items v records t.2)

on_outcomes_alike : (plan : Planned) (g h : History) (v : Verdict) → AreAlike g h → records_of g.callers.items ≡ records_of h.callers.items → TellsOfOutcomes plan g v → TellsOfOutcomes plan h v
on_outcomes_alike plan g h v e records t = (
  t.0,
  words_alike plan g h t.0 e t.1,
  all_alike (start plan) t.0 0 g.callers.items h.callers.items records t.2,
  subst (λ (o : Option (List (Option Outcome))). IsOfOutcomes (state_after (start plan) t.0) o v) e.outcomes t.3,
)

-- ---- so a verdict on one history that fills what sessions tell is one on any other

alike : (plan : Planned) (shared : SharedHistory) (v w : Verdict) (a : IsSharedVerdict plan shared v) (b : IsSharedVerdict plan shared w) → AreAlike a.history b.history
alike plan shared v w a b = record {
  functions = a.fills.functions ∙ sym b.fills.functions;
  words = a.fills.words ∙ sym b.fills.words;
  count = same_length shared.callers.items a.history.callers.items a.fills.callers ∙ sym (same_length shared.callers.items b.history.callers.items b.fills.callers);
  outcomes = a.fills.outcomes ∙ sym b.fills.outcomes;
}

same_records : (plan : Planned) (shared : SharedHistory) (v w : Verdict) (a : IsSharedVerdict plan shared v) (b : IsSharedVerdict plan shared w) (events : List Event) →
    AreWordsOf (length a.history.callers.items) a.history.functions (start plan) a.history.words.items events →
    records_of a.history.callers.items ≡ records_of b.history.callers.items
same_records plan shared v w a b events words =
    let taken = taken_words plan shared a.history events a.fills words in
    a.replies taken ∙ sym (b.replies taken)

moved : (plan : Planned) (shared : SharedHistory) (v u w : Verdict) (a : IsSharedVerdict plan shared u) (b : IsSharedVerdict plan shared w) → IsVerdict plan a.history v → IsVerdict plan b.history v
moved plan shared Fits u w a b t =
    let e = alike plan shared u w a b in
    fits_alike plan a.history b.history e.functions e.words (same_records plan shared u w a b t.events (words_fit plan a.history t)) e.outcomes t
moved plan shared (AtEvent place why) u w a b t = on_word_alike plan a.history b.history (AtEvent place why) (alike plan shared u w a b) t
moved plan shared (AtRecord caller k why) u w a b t =
    on_callers_alike plan a.history b.history (AtRecord caller k why) (alike plan shared u w a b) (same_records plan shared u w a b t.0 t.1) t
moved plan shared (Missing caller place) u w a b t =
    on_callers_alike plan a.history b.history (Missing caller place) (alike plan shared u w a b) (same_records plan shared u w a b t.0 t.1) t
moved plan shared (AtOutcome stage outcome) u w a b t =
    on_outcomes_alike plan a.history b.history (AtOutcome stage outcome) (alike plan shared u w a b) (same_records plan shared u w a b t.0 t.1) t
moved plan shared (Stages count) u w a b t =
    on_outcomes_alike plan a.history b.history (Stages count) (alike plan shared u w a b) (same_records plan shared u w a b t.0 t.1) t

pub one_shared_verdict : OneSharedVerdict
one_shared_verdict plan shared v w a b = one_verdict plan b.history v w (moved plan shared v v w a b a.tells) b.tells

-- a verdict on the history that was filled in
pub told_shared : {E : Type 0} (plan : Planned) (shared : SharedHistory) (h : History) (said : Result Verdict E) → Fills shared h → HasGraphsReplies plan shared h →
    IfOk said (λ v. IsVerdict plan h v) → IfOk said (λ v. IsSharedVerdict plan shared v)
told_shared plan shared h (Ok v) fills replies tells = record { history = h; fills = fills; replies = replies; tells = tells }
told_shared plan shared h (Err e) fills replies tells = tt
