-- The log only grows, and a call comes at its end.
use Rattle.std.proofs.Common.{◌≡◌, ◌≢◌, inl, inr, ℕ, zero, suc, ◌+◌, ◌<◌, Bool, cond, eq-eqb, List, [], ◌∷◌, ◌++◌, map, length, replicate, get_or, set, slice_index, sym, refl, ap, ◌∙◌, subst, append_assoc, append-nil, length-append, arith}
use Rattle.std.proofs.lemmas.List.{get_or-set_other}
use mathlib.Core.Option.{some, some-ne-none}
use mathlib.Core.List.{map-append}
use lib.ListN.{get_elem?}
use Rattle.atomic_table.proofs.Lists.{set_here}
use Rattle.cf_model.specs.declared.events.Event.{Event}
use Rattle.cf_model.specs.declared.events.Reply.{Reply}
use Rattle.cf_model.specs.declared.calls.Call.{Call}
use Rattle.cf_model.specs.Calls.{event_by, who_of}
use Rattle.cf_model.specs.States.{State, start}
use Rattle.cf_model.specs.Events.{answered}
use Rattle.cf_event.specs.Words.{IsEvent, word_of}
use Rattle.cf_event.specs.Events.{AreEventsOf, own}
use Rattle.cf_event.proofs.WordLemmas.{one_to_one, word_of_filled}
use Rattle.cf_event.proofs.Events.{event_behind}
use Rattle.cf_desk.specs.declared.row.LogConfig.{LogConfig}
use Rattle.cf_desk.specs.declared.row.CallerView.{CallerView}
use Rattle.cf_desk.specs.Log.{AreLogged}
use Rattle.cf_desk.specs.Rule.{IsRow, saw}
use Rattle.cf_desk.specs.Rows.{Begins}
use Rattle.cf_desk.specs.declared.calls.Rec.TheVariants.{Did}
use Rattle.cf_desk.specs.Results.{CaughtUp}
use Rattle.cf_desk.specs.Views.{Acts, Desk, Pass}
use Rattle.cf_desk.specs.Time.{CallsComeAfterWhatWasSeen, CallsComeLast, LogsOnlyGrow, StandsBehind}

at_seam : (seen : List Event) (ys : List ℕ) → get_or (map word_of seen ++ ys) (length seen) 0 ≡ get_or ys 0 0
at_seam [] ys = refl
at_seam (x ∷ xs) ys = at_seam xs ys

word_there : (t : LogConfig) (log : List Event) (words : List ℕ) (seen : List Event) (x : Event) (more : List Event) → IsRow t log words → log ≡ seen ++ x ∷ more → slice_index words (length seen) ≡ word_of x
word_there t log words seen x more r e =
    ap (λ (l : List ℕ). get_or l (length seen) 0)
    (r.words_are ∙ ap (λ (l : List Event). map word_of l ++ replicate r.free 0) e ∙ ap (λ (l : List ℕ). l ++ replicate r.free 0) (map-append word_of seen (x ∷ more)) ∙ append_assoc (map word_of seen) (map word_of (x ∷ more)) (replicate r.free 0))
    ∙ at_seam seen (map word_of (x ∷ more) ++ replicate r.free 0)

not_own : (c : ℕ) (x : Event) (more : List Event) → who_of x ≡ c → own c (x ∷ more) ≢ []
not_own c x more same none =
    let found : x ∷ own c more ≡ [] = subst (λ (b : Bool). cond b (x ∷ own c more) (own c more) ≡ []) (eq-eqb (who_of x) c same) none in
    cc

within : (views : List (List CallerView)) (id : ℕ) (v : List CallerView) → get_elem? views id ≡ some v → id < length views
within [] id v e = absurd (some-ne-none v (sym e))
within (x ∷ xs) zero v e = omega arith
within (x ∷ xs) (suc id) v e = let r = within xs id v e in omega arith

is_event : (t : LogConfig) (log seen : List Event) (x : Event) (more : List Event) → AreLogged t.setting log → log ≡ seen ++ x ∷ more → IsEvent x
is_event t log seen x more events e = (event_behind t.setting.callers t.setting.functions (start t.setting.plan) seen x more (subst (AreLogged t.setting) e events)).event

last : (t : LogConfig) (log log' : List Event) (words : List ℕ) (k : CallerView) (e : Event) (i n : ℕ) (rest rest' : List Event) → IsRow t log words → IsRow t log' (set words i n) → log ≡ k.seen ++ rest → log' ≡ k.seen ++ e ∷ rest' → own k.caller rest ≡ []
    → who_of e ≡ k.caller → slice_index words i ≡ 0 → log ≡ k.seen
last t log log' words k e i n [] rest' r r' split split' none mine empty = split ∙ append-nil k.seen
last t log log' words k e i n (x ∷ more) rest' r r' split split' none mine empty =
    let old : slice_index words (length k.seen) ≡ word_of x = word_there t log words k.seen x more r split in
    let new : slice_index (set words i n) (length k.seen) ≡ word_of e = word_there t log' (set words i n) k.seen e rest' r' split' in
    let filled = word_of_filled x in
    let other : length k.seen ≢ i = λ same. (let there : slice_index words i ≡ word_of x = subst (λ (j : ℕ). slice_index words j ≡ word_of x) same old in absurd (omega arith)) in
    let stays : slice_index (set words i n) (length k.seen) ≡ slice_index words (length k.seen) = get_or-set_other words i (length k.seen) n 0 other in
    let same : e ≡ x = one_to_one e x (is_event t log' k.seen e rest' r'.events split') (is_event t log k.seen x more r.events split) (sym new ∙ stays ∙ old) in
    absurd (not_own k.caller x more (ap who_of (sym same) ∙ mine) none)

pub calls_come_last : CallsComeLast
calls_come_last t words views id i n k e h g at mine empty =
    let st = (h.known id (k ∷ []) at).0 in
    let st' = (g.known id (saw k e ∷ []) (set_here views id (saw k e ∷ []) (within views id (k ∷ []) at))).0 in
    last t h.log g.log words k e i n st.rest st'.rest h.row g.row st.split (st'.split ∙ append_assoc k.seen (e ∷ []) st'.rest) st.none mine empty

abbrev AreWords : List Event → Type 0
AreWords [] = Unit {0}
AreWords (x ∷ xs) = IsEvent x × AreWords xs

are_words : (callers functions : ℕ) (s : State) (xs : List Event) → AreEventsOf callers functions s xs → AreWords xs
are_words callers functions s [] h = tt
are_words callers functions s (x ∷ xs) h = (h.0.event, are_words callers functions ((answered s x).1) xs h.1)

front : (a b : List Event) (fa fb i n : ℕ) → AreWords a → AreWords b → set (map word_of a ++ replicate fa 0) i n ≡ map word_of b ++ replicate fb 0 → get_or (map word_of a ++ replicate fa 0) i 0 ≡ 0 → Begins a b
front [] b fa fb i n ha hb e z = (b, refl)
front (x ∷ a) b fa fb zero n ha hb e z = absurd (let filled = word_of_filled x in omega arith)
front (x ∷ a) [] fa zero (suc i) n ha hb e z = absurd cc
front (x ∷ a) [] fa (suc fb) (suc i) n ha hb e z = absurd (let filled = word_of_filled x in let same : word_of x ≡ 0 = cc in omega arith)
front (x ∷ a) (y ∷ b) fa fb (suc i) n ha hb e z =
    let words : word_of x ≡ word_of y = cc in
    let same : x ≡ y = one_to_one x y ha.0 hb.0 words in
    let tails : set (map word_of a ++ replicate fa 0) i n ≡ map word_of b ++ replicate fb 0 = cc in
    let r = front a b fa fb i n ha.1 hb.1 tails z in
    (r.0, ap (λ (v : Event). v ∷ b) (sym same) ∙ ap (λ (l : List Event). x ∷ l) r.1)

pub logs_only_grow : LogsOnlyGrow
logs_only_grow t words before now i n h g z =
    front h.log g.log h.row.free g.row.free i n (are_words t.setting.callers t.setting.functions (start t.setting.plan) h.log h.row.events) (are_words t.setting.callers t.setting.functions (start t.setting.plan) g.log g.row.events)
    (ap (λ (l : List ℕ). set l i n) (sym h.row.words_are) ∙ g.row.words_are) (ap (λ (l : List ℕ). get_or l i 0) (sym h.row.words_are) ∙ z)

-- a pass that has caught up is the same, and has seen more
pub record GoesOn (p q : Pass) : Type 0 where
  pub more : List Event
  pub seen : q.known.seen ≡ p.known.seen ++ more
  pub caller : q.known.caller ≡ p.known.caller
  pub records : q.records ≡ p.records

caught_on : (d : Desk) (p q : Pass) (knows : Type 0) → CaughtUp d knows p q → GoesOn p q
caught_on d p q knows (inl h) = record { more = []; seen = ap (λ (x : Pass). x.known.seen) h.1 ∙ sym (append-nil p.known.seen); caller = ap (λ (x : Pass). x.known.caller) h.1; records = ap (λ (x : Pass). x.records) h.1 }
caught_on d p q knows (inr h) =
    let f = h.1 in
    record { more = f.caught.others; seen = ap (λ (x : Pass). x.known.seen) f.is ∙ f.caught.joined; caller = ap (λ (x : Pass). x.known.caller) f.is; records = ap (λ (x : Pass). x.records) f.is }

behind : (seen : List Event) (p f q : Pass) (call : Call) (reply : Reply) → Begins seen p.known.seen → GoesOn p f → Acts f call reply q → StandsBehind seen p call reply q
behind seen p f q call reply b g a =
    let between : List Event = (b.0 ++ g.more) ++ a.caught.others in
    let before : a.before ≡ seen ++ between =
    a.caught.joined ∙ ap (λ (l : List Event). l ++ a.caught.others) (g.seen ∙ ap (λ (l : List Event). l ++ g.more) b.1 ∙ append_assoc seen b.0 g.more) ∙ append_assoc seen (b.0 ++ g.more) a.caught.others in
    let place : length a.before + 1 ≡ length seen + length between + 1 = (let same = ap length before in omega (arith, length-append seen between)) in record {
      between = between;
      events = ap (λ (x : Pass). x.known.seen) a.is ∙ (λ i. before i ++ event_by (g.caller i) call ∷ []);
      records = ap (λ (x : Pass). x.records) a.is ∙ (λ i. g.records i ++ Did (place i) call reply ∷ []);
    }

pub calls_come_after_what_was_seen : CallsComeAfterWhatWasSeen
calls_come_after_what_was_seen d p q call reply seen b a = behind seen p a.found q call reply b (caught_on d p a.found _ a.caught) a.acts
