-- With the graph's replies a history fits where it does with any.
use Rattle.std.proofs.Common.{◌≡◌, ℕ, zero, suc, ◌+◌, ◌-◌, ◌<◌, List, [], ◌∷◌, length, map, get_or, take, slice_get, All, refl, ap, sym, ◌∙◌, subst, arith}
use Rattle.std.specs.Prelude.{Some, eqb, false, ◌↔◌}
use Rattle.std.specs.List.{AllZip}
use Rattle.std.proofs.lemmas.Option.{none-some}
use Rattle.std.proofs.lemmas.List.Elements.{All-nil, All-cons, All-head, All-tail, All-weaker, All-filter, All-same}
use Rattle.cf_forms.specs.Plans.{Planned}
use Rattle.cf_model.specs.declared.events.Event.{Event}
use Rattle.cf_model.specs.declared.events.Reply.{Reply}
use Rattle.cf_model.specs.declared.events.Reply.TheVariants.{Flag}
use Rattle.cf_model.specs.States.{State, start}
use Rattle.cf_model.specs.Events.{answered, state_after, state_at}
use Rattle.cf_model.specs.Calls.{who_of}
use Rattle.cf_event.specs.Decoding.{decoded}
use Rattle.cf_event.specs.Events.{AreEventsOf, events_of, placed}
use Rattle.cf_event.specs.Histories.{AreRecordsOfOne, IsAnswered, IsOneHistory, dids}
use Rattle.cf_event.specs.declared.record.Record.{Record}
use Rattle.cf_event.specs.declared.record.Record.TheVariants.{Did, Saw}
use Rattle.cf_history.specs.declared.history.Caller.{Caller}
use Rattle.cf_history.specs.declared.history.History.{History}
use Rattle.cf_history.specs.declared.shared.Entry.{Entry}
use Rattle.cf_history.specs.declared.shared.Entry.TheVariants.{Known, Unanswered}
use Rattle.cf_history.specs.declared.shared.SharedCaller.{SharedCaller}
use Rattle.cf_history.specs.declared.shared.SharedHistory.{SharedHistory}
use Rattle.cf_history.specs.Histories.{AreOutcomesOf, AreRead, AreWordsOf, FitsOneGraph, callers_from, said}
use Rattle.cf_history.specs.Shared.{AreAllFilled, Fills, FitsWithSomeReplies, HasGraphsReplies, IsFilled, all_filled, entries_of, filled, records_of, replies_at, replies_from}
use Rattle.cf_history.proofs.Accounts.{words_fit}

-- ---- replies fill entries

filled_is : (replies : List Reply) (xs : List Entry) → AllZip IsFilled xs (map (filled replies) xs)
filled_is replies [] = tt
filled_is replies (Known r ∷ xs) = (refl, filled_is replies xs)
filled_is replies (Unanswered place e ∷ xs) = ((get_or replies place (Flag false), refl), filled_is replies xs)

all_filled_is : (replies : List Reply) (xss : List (List Entry)) → AreAllFilled xss (all_filled replies xss)
all_filled_is replies [] = tt
all_filled_is replies (xs ∷ xss) = (filled_is replies xs, all_filled_is replies xss)

pub fills_by : (replies : List Reply) (xss : List (List Entry)) (rss : List (List Record)) → rss ≡ all_filled replies xss → AreAllFilled xss rss
fills_by replies xss rss is = subst (AreAllFilled xss) (sym is) (all_filled_is replies xss)

-- ---- the graph's reply at a place

reply_there : (s : State) (events : List Event) (n : ℕ) (e : Event) (d : Reply) → slice_get events n ≡ Some e →
    get_or (replies_from s events) n d ≡ (answered (state_after s (take n events)) e).0
reply_there s [] n e d there = absurd (none-some e there)
reply_there s (x ∷ xs) zero e d there = let same : x ≡ e = cc in ap (λ (y : Event). (answered s y).0) same
reply_there s (x ∷ xs) (suc n) e d there = reply_there ((answered s x).1) xs n e d there

at_place : (plan : Planned) (history : List Event) (p : ℕ) (e : Event) (d : Reply) → 0 < p → slice_get history (p - 1) ≡ Some e →
    get_or (replies_at (start plan) history) p d ≡ (answered (state_at plan history (p - 1)) e).0
at_place plan history zero e d l there = absurd (omega arith)
at_place plan history (suc n) e d l there =
    let less : suc n - 1 ≡ n = omega arith in
    reply_there (start plan) history n e d (subst (λ (k : ℕ). slice_get history k ≡ Some e) less there)
    ∙ ap (λ (k : ℕ). (answered (state_at plan history k) e).0) (sym less)

-- ---- the events of a caller's calls stand at their places

abbrev Stands : ℕ → List Event → ℕ × Event → Type 0
Stands n events d = (n < d.0) × (slice_get events (d.0 - n - 1) ≡ Some d.1)

stands_later : (n : ℕ) (e : Event) (events : List Event) (d : ℕ × Event) → Stands (suc n) events d → Stands n (e ∷ events) d
stands_later n e events d h =
    let l = h.0 in (
      omega arith,
      subst (λ (k : ℕ). slice_get (e ∷ events) k ≡ Some d.1) (let p : suc (d.0 - suc n - 1) ≡ d.0 - n - 1 = omega arith in p) h.1,
    )

placed_stand : (n : ℕ) (events : List Event) → All (Stands n events) (placed n events)
placed_stand n [] = All-nil (Stands n [])
placed_stand n (e ∷ events) =
    All-cons (Stands n (e ∷ events)) (suc n, e) (placed (suc n) events)
    (omega arith, subst (λ (k : ℕ). slice_get (e ∷ events) k ≡ Some e) (let p : 0 ≡ suc n - n - 1 = omega arith in p) refl)
    (All-weaker (Stands (suc n) events) (Stands n (e ∷ events)) (stands_later n e events) (placed (suc n) events) (placed_stand (suc n) events))

dids_stand : (c : ℕ) (history : List Event) (rs : List Record) → dids rs ≡ events_of c history → All (Stands 0 history) (dids rs)
dids_stand c history rs did =
    All-same (Stands 0 history) (dids rs) (events_of c history) did
    (All-filter (λ (d : ℕ × Event). eqb (who_of d.1) c) (Stands 0 history) (placed 0 history) (placed_stand 0 history))

other_dids : (P : ℕ × Event → Type 0) (r : Record) (rs : List Record) → All P (dids (r ∷ rs)) → All P (dids rs)
other_dids P (Did place e reply) rs h = All-tail P (place, e) (dids rs) h
other_dids P (Saw place ask answer) rs h = h

-- ---- so the replies of records that fit are the graph's

same_reply : (plan : Planned) (history : List Event) (place : ℕ) (e : Event) (r : Record) (rs : List Record) (reply : Reply) → r ≡ Did place e reply →
    IsAnswered plan history r → All (Stands 0 history) (dids (r ∷ rs)) → r ≡ Did place e (get_or (replies_at (start plan) history) place (Flag false))
same_reply plan history place e r rs reply is answer stand =
    let told : IsAnswered plan history (Did place e reply) = subst (IsAnswered plan history) is answer in
    let stands : Stands 0 history (place, e) =
    All-head (Stands 0 history) (place, e) (dids rs) (subst (λ (x : Record). All (Stands 0 history) (dids (x ∷ rs))) is stand) in
    let there : slice_get history (place - 1) ≡ Some e = subst (λ (k : ℕ). slice_get history k ≡ Some e) (let p : place - 0 - 1 ≡ place - 1 = omega arith in p) stands.1 in
    is ∙ ap (Did place e) (told.2 ∙ sym (at_place plan history place e (Flag false) told.0 there))

same_filled : (plan : Planned) (history : List Event) (xs : List Entry) (rs : List Record) → AllZip IsFilled xs rs → All (IsAnswered plan history) rs →
    All (Stands 0 history) (dids rs) → rs ≡ map (filled (replies_at (start plan) history)) xs
same_filled plan history [] [] f answers stand = refl
same_filled plan history [] (r ∷ rs) f answers stand = absurd f
same_filled plan history (x ∷ xs) [] f answers stand = absurd f
same_filled plan history (Known k ∷ xs) (r ∷ rs) f answers stand =
    let rest = same_filled plan history xs rs f.1 (All-tail (IsAnswered plan history) r rs answers) (other_dids (Stands 0 history) r rs stand) in
    ap (λ (y : Record). y ∷ rs) f.0 ∙ ap (λ (ys : List Record). k ∷ ys) rest
same_filled plan history (Unanswered place e ∷ xs) (r ∷ rs) f answers stand =
    let rest = same_filled plan history xs rs f.1 (All-tail (IsAnswered plan history) r rs answers) (other_dids (Stands 0 history) r rs stand) in
    let first = same_reply plan history place e r rs f.0.0 f.0.1 (All-head (IsAnswered plan history) r rs answers) stand in
    ap (λ (y : Record). y ∷ rs) first ∙ ap (λ (ys : List Record). Did place e (get_or (replies_at (start plan) history) place (Flag false)) ∷ ys) rest

same_all : (plan : Planned) (history : List Event) (c : ℕ) (xss : List (List Entry)) (callers : List Caller) → AreAllFilled xss (records_of callers) →
    All (AreRecordsOfOne plan history) (callers_from c callers) → records_of callers ≡ all_filled (replies_at (start plan) history) xss
same_all plan history c [] [] f each = refl
same_all plan history c [] (k ∷ ks) f each = absurd f
same_all plan history c (xs ∷ xss) [] f each = absurd f
same_all plan history c (xs ∷ xss) (k ∷ ks) f each =
    let one = All-head (AreRecordsOfOne plan history) (c, k.records.items) (callers_from (c + 1) ks) each in
    let first = same_filled plan history xs k.records.items f.0 one.answers (dids_stand c history k.records.items one.did) in
    let rest = same_all plan history (c + 1) xss ks f.1 (All-tail (AreRecordsOfOne plan history) (c, k.records.items) (callers_from (c + 1) ks) each) in
    ap (λ (y : List Record). y ∷ records_of ks) first ∙ ap (λ (ys : List (List Record)). map (filled (replies_at (start plan) history)) xs ∷ ys) rest

-- ---- a history with the same words, records and outcomes fits, too

abbrev numbered : ℕ → List (List Record) → List (ℕ × List Record)
numbered c [] = []
numbered c (rs ∷ rss) = (c, rs) ∷ numbered (c + 1) rss

numbered_is : (c : ℕ) (callers : List Caller) → callers_from c callers ≡ numbered c (records_of callers)
numbered_is c [] = refl
numbered_is c (k ∷ ks) = ap (λ (ys : List (ℕ × List Record)). (c, k.records.items) ∷ ys) (numbered_is (c + 1) ks)

pub fits_alike : (plan : Planned) (g h : History) → g.functions ≡ h.functions → g.words.items ≡ h.words.items → records_of g.callers.items ≡ records_of h.callers.items →
    said g ≡ said h → FitsOneGraph plan g → FitsOneGraph plan h
fits_alike plan g h functions words records outcomes fits =
    let callers : callers_from 0 g.callers.items ≡ callers_from 0 h.callers.items =
    numbered_is 0 g.callers.items ∙ ap (numbered 0) records ∙ sym (numbered_is 0 h.callers.items) in record {
      events = fits.events;
      words = subst (λ (ws : List ℕ). AreRead ws fits.events) words fits.words;
      one = subst (λ (n : ℕ). IsOneHistory plan n fits.events (callers_from 0 h.callers.items)) functions
          (subst (λ (ks : List (ℕ × List Record)). IsOneHistory plan g.functions fits.events ks) callers fits.one);
      outcomes = subst (AreOutcomesOf (state_after (start plan) fits.events)) outcomes fits.outcomes;
    }

length_of : {X Y : Type 0} (f : X → Y) (xs : List X) → length (map f xs) ≡ length xs
length_of f [] = refl
length_of f (x ∷ xs) = let r = length_of f xs in omega arith

pub same_length : (callers : List SharedCaller) (told : List Caller) → AreAllFilled (entries_of callers) (records_of told) → length told ≡ length callers
same_length [] [] f = refl
same_length [] (k ∷ ks) f = absurd f
same_length (x ∷ xs) [] f = absurd f
same_length (x ∷ xs) (k ∷ ks) f = let r = same_length xs ks f.1 in omega arith

-- where the words are those of events, these are those of the shared words, and the graph takes them
pub taken_words : (plan : Planned) (shared : SharedHistory) (g : History) (events : List Event) → Fills shared g →
    AreWordsOf (length g.callers.items) g.functions (start plan) g.words.items events →
    AreEventsOf (length shared.callers.items) shared.functions (start plan) (decoded shared.words.items)
taken_words plan shared g events fills words =
    let same : events ≡ decoded shared.words.items = words.read ∙ ap decoded fills.words in
    subst (λ (n : ℕ). AreEventsOf n shared.functions (start plan) (decoded shared.words.items)) (same_length shared.callers.items g.callers.items fills.callers)
    (subst (λ (n : ℕ). AreEventsOf (length g.callers.items) n (start plan) (decoded shared.words.items)) fills.functions
    (subst (AreEventsOf (length g.callers.items) g.functions (start plan)) same words.taken))

pub fits_as_any : (plan : Planned) (shared : SharedHistory) (h : History) → Fills shared h → HasGraphsReplies plan shared h → FitsOneGraph plan h ↔ FitsWithSomeReplies plan shared
fits_as_any plan shared h fills replies = (
  λ fits. record { history = h; fills = fills; fits = fits },
  λ some.
      let g = some.history in
      let events : some.fits.events ≡ decoded shared.words.items = some.fits.words.read ∙ ap decoded some.fills.words in
      let told : records_of g.callers.items ≡ all_filled (replies_at (start plan) (decoded shared.words.items)) (entries_of shared.callers.items) =
      same_all plan some.fits.events 0 (entries_of shared.callers.items) g.callers.items some.fills.callers some.fits.one.each
      ∙ ap (λ (es : List Event). all_filled (replies_at (start plan) es) (entries_of shared.callers.items)) events in
      fits_alike plan g h (some.fills.functions ∙ sym fills.functions) (some.fills.words ∙ sym fills.words)
      (told ∙ sym (replies (taken_words plan shared g some.fits.events some.fills (words_fit plan g some.fits))))
      (some.fills.outcomes ∙ sym fills.outcomes) some.fits,
)
